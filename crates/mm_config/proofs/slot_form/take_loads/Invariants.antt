use Rattle.std.proofs.Common.{◌≡◌, ◌-◌, ◌++◌, length}
use Rattle.mm_config.specs.Forms.{loads_from}
use Rattle.mm_config.proofs.slot_form.take_loads.Given as goal

abbrev pub invariant-loop-k : goal.invariant-loop-k
invariant-loop-k l = record {
  count : length l.loads.items ≡ l._k;
  loads : l.loads.items ++ (loads_from (l.count - l._k) l.reader).0 ≡ (loads_from l.count l.fn.reader).0;
  rest : (loads_from (l.count - l._k) l.reader).1 ≡ (loads_from l.count l.fn.reader).1;
}
