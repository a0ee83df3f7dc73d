use Rattle.std.{proofs.Common.take, specs.List.AllByRecursion}
use Rattle.mm_word.specs.Word.{IsWord}
use Rattle.mm_model.specs.declared.slot.Pending.{Pending}
use Rattle.mm_config.proofs.slot_form.hold_loads.Given as goal

abbrev pub invariant-loop-load : goal.invariant-loop-load
invariant-loop-load l = AllByRecursion (λ (p : Pending). IsWord p.word) (take l.load-index l.loads)
