use Rattle.std.{proofs.Common.{◌≡◌, ◌==◌, false, take}, specs.List.list_any}
use Rattle.mm_model.specs.Fits.{slots_of}
use Rattle.mm_report.proofs.sections.has_slot.Given as goal

abbrev pub invariant-loop-i : goal.invariant-loop-i
invariant-loop-i g l = list_any (λ s. s.group == l.group) (take l.i (slots_of l.m.core)) ≡ false
