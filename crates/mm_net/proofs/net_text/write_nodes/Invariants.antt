use Rattle.std.{proofs.Common.{ℕ, List, take, Option, Ok}, specs.List.{flat_map, enumerate_from, zip}}
use Rattle.mm_io.specs.{declared.write.WriteFault.WriteFault, Sinks.Writes}
use Rattle.mm_model.specs.{declared.counts.Counts.Counts, Uses.Use}
use Rattle.mm_net.specs.{Net.{net_of, NodesStandTo}, Texts.node_text}
use Rattle.mm_net.proofs.net_text.write_nodes.Given as goal

-- the reports of the nodes so far are written
abbrev pub invariant-loop-n : goal.invariant-loop-n
invariant-loop-n g l =
    let written : (counts : ℕ → Option Counts) → Type 0 = λ counts. Writes {T = Unit {0}} {E = WriteFault} g.O.Sink.taken g.O.Sink.faults l.initial.out l.out
    (flat_map (λ x. node_text x.0 x.1.0 x.1.1 (counts x.0)) (take l.n (enumerate_from 0 (zip l.images (net_of l.net).nodes)))) (Ok tt) in
    record {
      text : (counts : ℕ → Option Counts) × written counts;
      counts : (uses : ℕ → List Use) → NodesStandTo l.net uses → written (λ n. g.M.Inspect.tells (uses n));
    }
