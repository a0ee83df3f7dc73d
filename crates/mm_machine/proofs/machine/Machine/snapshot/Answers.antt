use Rattle.std.proofs.Common.{List, refl, sym, subst}
use Rattle.mm_model.specs.Slot.{Slot}
use Rattle.mm_machine.specs.{Machine.state_of, Capture.OutputsBelow, Snapshot.IsSnapshotOf}
use Rattle.mm_machine.proofs.{Keeping.memory_paged, Copied.copied_rules, Restorable.can_own}
use Rattle.mm_machine.proofs.machine.Machine.snapshot.Goals as goal

pub pages_of-requires : goal.pages_of-requires
pages_of-requires g c = memory_paged (state_of c.args.self.now) c.args.self.now.valid

pub of-requires : goal.of-requires
of-requires g c =
    copied_rules (state_of c.args.self.now) c.in_ok-slots.slots.items c.in_ok-events.events.items c.in_ok-outputs.outputs.items c.in_ok-pages.pages.items
    c.in_ok-slots.ensures c.in_ok-events.ensures c.in_ok-pages.ensures c.args.self.now.valid
    (subst (λ (slots : List Slot). OutputsBelow c.args.self.now.core slots 64 c.in_ok-outputs.outputs.items) c.deref.ensures.value c.in_ok-outputs.ensures)

pub returns-clause-state : goal.returns-clause-state
returns-clause-state g c =
    let s = state_of c.args.self.now in
    subst (IsSnapshotOf s) (sym c.of.ensures) (record {
      rules = copied_rules s c.in_ok-slots.slots.items c.in_ok-events.events.items c.in_ok-outputs.outputs.items c.in_ok-pages.pages.items
          c.in_ok-slots.ensures c.in_ok-events.ensures c.in_ok-pages.ensures c.args.self.now.valid
          (subst (λ (slots : List Slot). OutputsBelow c.args.self.now.core slots 64 c.in_ok-outputs.outputs.items) c.deref.ensures.value c.in_ok-outputs.ensures);
      slots = c.in_ok-slots.ensures;
      events = c.in_ok-events.ensures;
      outputs = c.in_ok-outputs.ensures.said;
      pages = c.in_ok-pages.ensures;
      cycles = refl;
    })

pub returns-clause-fits : goal.returns-clause-fits
returns-clause-fits g c = can_own (state_of c.args.self.now) c.of.result c.args.self.now.valid (returns-clause-state g c)
