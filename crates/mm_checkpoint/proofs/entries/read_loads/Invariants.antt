use Rattle.std.{proofs.Common.{◌≡◌, ◌-◌, ◌≤◌, [], ◌∷◌, ◌++◌, length}, specs.List.AllByRecursion}
use Rattle.mm_word.specs.Word.{IsWord}
use Rattle.mm_model.specs.declared.slot.Pending.{Pending}
use Rattle.mm_format.{specs.Formats.times, proofs.Loops.prefixed}
use Rattle.mm_checkpoint.specs.Format.{load}
use Rattle.mm_checkpoint.proofs.entries.read_loads.Given as goal

abbrev pub invariant-loop : goal.invariant-loop
invariant-loop l = record {
  read : prefixed l.entries.items
      ((times (load l.empty) (λ earlier p. earlier ++ p ∷ []) (l.count - l.counter) l.entries.items).read
      l.reader.bytes.now l.reader.at)
      ≡ (times (load l.empty) (λ earlier p. earlier ++ p ∷ []) l.count []).read l.initial.reader.bytes.now
      l.initial.reader.at;
  same : l.reader.bytes.now ≡ l.initial.reader.bytes.now;
  words : AllByRecursion (λ (p : Pending). IsWord p.word) l.entries.items;
  few : length l.entries.items ≤ l.counter;
}
