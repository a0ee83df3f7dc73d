use Rattle.std.{proofs.Common.take, specs.List.{flat_map, enumerate_from}}
use Rattle.mm_text.specs.Appends.{Appends}
use Rattle.mm_net.specs.{Net.net_of, Texts.link_line}
use Rattle.mm_net.proofs.net_text.write_links.Given as goal

-- the lines of the links so far are gathered
abbrev pub invariant-loop-link : goal.invariant-loop-link
invariant-loop-link g l = Appends g.O.Sink.taken g.O.Sink.faults l.initial.out l.out l.initial.text l.text
    (flat_map (λ x. link_line x.0 x.1) (take l.link (enumerate_from 0 (net_of l.net).links)))
