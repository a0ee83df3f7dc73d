use Rattle.std.proofs.Common.{◌≡◌, ◌==◌, ℕ, ◌<◌, false, [], ◌∷◌, ◌++◌, take, drop, get_or}
use Rattle.mm_vmem.specs.declared.tlb.Entry.{Entry}
use Rattle.mm_vmem.proofs.tlb.move_down.Given as goal

-- the first entries have moved, one is carried on, and none of them is of the page
abbrev pub invariant-loop-entry : goal.invariant-loop-entry
invariant-loop-entry l = record {
  front : take l.entry-index l.entries ++ l.carried ∷ [] ≡ l.first ∷ take l.entry-index l.initial.entries;
  rest : drop l.entry-index l.entries ≡ drop l.entry-index l.initial.entries;
  before : (k : ℕ) (d : Entry) → k < l.entry-index → ((get_or l.initial.entries k d).page == l.first.page) ≡ false;
}
