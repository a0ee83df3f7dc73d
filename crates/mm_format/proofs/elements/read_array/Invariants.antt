use Rattle.std.{proofs.Common.{◌≡◌, ◌+◌, ◌-◌, take, length}, specs.List.AllByRecursion}
use Rattle.mm_format.{specs.Formats.{runs, sixteen}, proofs.Loops.prefixed}
use Rattle.mm_format.proofs.elements.read_array.Given as goal

abbrev pub invariant-loop-index : goal.invariant-loop-index
invariant-loop-index g l = record {
  read : prefixed (take l.index l.items)
      (runs (g.S.Elements.reads l.elements) (λ k _. k + 1) (16 - l.index) l.index l.reader.bytes.now l.reader.at)
      ≡ sixteen (g.S.Elements.reads l.elements) l.initial.reader.bytes.now l.initial.reader.at;
  same : l.reader.bytes.now ≡ l.initial.reader.bytes.now;
  count : length l.items ≡ 16;
  each : AllByRecursion g.S.Elements.holds (take l.index l.items);
}
