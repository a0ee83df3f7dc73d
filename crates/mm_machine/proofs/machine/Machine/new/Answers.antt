use Rattle.std.proofs.Common.{◌≡◌, ◌∙◌, [], List, sym, subst, arith}
use Rattle.std.specs.List.{AllByRecursion, Sorted.IsStrictlyIncreasing}
use Rattle.mm_model.specs.{Slot.Slot, Image.start, Run.{run, uses}, Spelling.{numbers_of, IsFresh}}
use Rattle.mm_machine.specs.Validity.{IsValid}
use Rattle.mm_machine.proofs.Keeping.{valid_start}
use Rattle.mm_machine.proofs.Starting.{fresh_slots, within, none_pending, no_output, start_made, rows_made}
use Rattle.mm_machine.proofs.Starting.{versioned_rows}
use Rattle.mm_machine.proofs.machine.Machine.new.Goals as goal

pub new-requires-clause-rising : goal.new-requires-clause-rising
new-requires-clause-rising g c = subst (λ (slots : List Slot). IsStrictlyIncreasing (numbers_of slots)) (sym c.slots.ensures.slots) c.slots.ensures.image.rising

pub new-requires-clause-fresh : goal.new-requires-clause-fresh
new-requires-clause-fresh g c = subst (λ (slots : List Slot). AllByRecursion (IsFresh 64 slots) slots) (sym c.slots.ensures.slots) (fresh_slots c.args.img.now c.slots.ensures.image)

pub set_version-requires-clause-slots : goal.set_version-requires-clause-slots
set_version-requires-clause-slots g c =
    within c.args.img.now c.in_ok-core.core c.version.result c.slots.ensures.image
    (rows_made c.args.img.now c.in_ok-core.core c.slots.result.now c.in_ok-core.ensures.rows c.slots.ensures.slots)
    c.version.ensures.version

pub set_version-requires-clause-silent : goal.set_version-requires-clause-silent
set_version-requires-clause-silent g c = no_output c.in_ok-core.core.outputs c.in_ok-core.ensures.outputs

pub set_split-requires : goal.set_split-requires
set_split-requires g c =
    none_pending c.args.img.now c.set_version.new.self c.slots.ensures.image
    (versioned_rows c.in_ok-core.core c.set_version.new.self c.version.result c.set_version.ensures
    ∙ rows_made c.args.img.now c.in_ok-core.core c.slots.result.now c.in_ok-core.ensures.rows c.slots.ensures.slots)

pub returns-clause-state : goal.returns-clause-state
returns-clause-state g c =
    start_made c.args.img.now c.in_ok-core.core c.set_version.new.self c.set_split.new.self c.version.result c.split.result (g.M.Memory.meaning c.args.mem)
    (rows_made c.args.img.now c.in_ok-core.core c.slots.result.now c.in_ok-core.ensures.rows c.slots.ensures.slots) c.in_ok-core.ensures.outputs
    c.set_version.ensures c.set_split.ensures c.version.ensures.version c.split.ensures.split c.requires.memory

pub invariant_of-result : goal.invariant_of-result
invariant_of-result g c =
    let is : record { core = c.set_split.new.self; memory = g.M.Memory.meaning c.args.mem; cycles = 0 } ≡ start
    c.args.img.now = start_made c.args.img.now c.in_ok-core.core c.set_version.new.self c.set_split.new.self
    c.version.result c.split.result (g.M.Memory.meaning c.args.mem)
    (rows_made c.args.img.now c.in_ok-core.core c.slots.result.now c.in_ok-core.ensures.rows c.slots.ensures.slots) c.in_ok-core.ensures.outputs
    c.set_version.ensures c.set_split.ensures c.version.ensures.version c.split.ensures.split c.requires.memory in
    let none : g.M.Memory.uses c.args.mem ≡ 0 = g.M.Memory.counted c.args.mem [] c.requires.unused in
    record {
      valid = ∣ subst IsValid (sym is) (valid_start c.args.img.now c.slots.ensures.image) ∣₁;
      few_ports = omega arith;
      few_uses = omega (arith, none);
      most_uses = omega (arith, none);
    }

pub returns-clause-stands : goal.returns-clause-stands
unfolding run uses
returns-clause-stands g c = record {
  state = start_made c.args.img.now c.in_ok-core.core c.set_version.new.self c.set_split.new.self c.version.result c.split.result (g.M.Memory.meaning c.args.mem)
      (rows_made c.args.img.now c.in_ok-core.core c.slots.result.now c.in_ok-core.ensures.rows c.slots.ensures.slots) c.in_ok-core.ensures.outputs
      c.set_version.ensures c.set_split.ensures c.version.ensures.version c.split.ensures.split c.requires.memory;
  uses_made = c.requires.unused;
}
