use Rattle.std.proofs.Common.{◌≡◌, ℕ, List, [], arith, subst, sym}
use Rattle.std.specs.{Prelude.IsTrue, Ordering.nat_cmp, FinMap.is_sorted}
use Rattle.mm_word.specs.declared.word.Cell.{Cell}
use Rattle.mm_model.specs.State.{State}
use Rattle.mm_machine.specs.{Machine.state_of, Snapshot.Parts}
use Rattle.mm_machine.proofs.{Restoring.{pages_sorted, restored_valid, parts_read, state_read}, Returning.put_back}
use Rattle.mm_machine.proofs.{Restorable.can_restored, Shown.shown_back}
use Rattle.mm_machine.proofs.machine.Machine.restore.Goals as goal

pub assign-requires : goal.assign-requires
assign-requires g c =
    parts_read (state_of c.args.self.now) c.args.s.now c.slots.result.now c.events.result.now c.outputs.result.now c.slots.ensures.slots c.events.ensures.events c.outputs.ensures.outputs
    c.slots.ensures.snapshot c.slots.ensures.typed c.requires c.args.self.now.valid

pub reset-requires-clause-ascend : goal.reset-requires-clause-ascend
reset-requires-clause-ascend g c = subst (λ (pages : List (ℕ × List Cell)). IsTrue (is_sorted nat_cmp pages))
    (sym c.pages.ensures.pages) (pages_sorted c.args.s.now.pages c.pages.ensures.snapshot.pages)

pub invariant_of-self : goal.invariant_of-self
invariant_of-self g c =
    let old : State = state_of c.args.self.now in
    let p : Parts = c.args.s.now in
    let made = state_read old p c.slots.result.now c.events.result.now c.outputs.result.now c.slots.ensures.slots c.events.ensures.events c.outputs.ensures.outputs
    c.assign.new.self (g.M.Memory.meaning c.reset.new.self) c.pages.result.now c.cycles-self.result c.assign.ensures c.reset.ensures.meaning c.pages.ensures.pages c.cycles-self.ensures.cycles in
    let none : g.M.Memory.uses c.reset.new.self ≡ 0 = g.M.Memory.counted c.reset.new.self [] c.reset.ensures.stands in
    record {
      valid = restored_valid old p c.slots.ensures.snapshot c.slots.ensures.typed c.requires _ made c.args.self.now.valid;
      few_ports = c.args.self.now.few_ports;
      few_uses = omega (arith, none);
      most_uses = omega (arith, none);
    }

pub returns-clause-back : goal.returns-clause-back
returns-clause-back g c t alike is =
    put_back (state_of c.args.self.now) t c.args.s.now _
    (state_read (state_of c.args.self.now) c.args.s.now c.slots.result.now c.events.result.now c.outputs.result.now c.slots.ensures.slots c.events.ensures.events c.outputs.ensures.outputs
    c.assign.new.self (g.M.Memory.meaning c.reset.new.self) c.pages.result.now c.cycles-self.result c.assign.ensures c.reset.ensures.meaning c.pages.ensures.pages c.cycles-self.ensures.cycles)
    alike is

pub returns-clause-fits : goal.returns-clause-fits
returns-clause-fits g c p can =
    can_restored (state_of c.args.self.now) _ c.args.s.now p
    (state_read (state_of c.args.self.now) c.args.s.now c.slots.result.now c.events.result.now c.outputs.result.now c.slots.ensures.slots c.events.ensures.events c.outputs.ensures.outputs
    c.assign.new.self (g.M.Memory.meaning c.reset.new.self) c.pages.result.now c.cycles-self.result c.assign.ensures c.reset.ensures.meaning c.pages.ensures.pages c.cycles-self.ensures.cycles)
    c.requires can

pub returns-clause-shown : goal.returns-clause-shown
returns-clause-shown g c =
    shown_back (state_of c.args.self.now) _ c.args.s.now
    (state_read (state_of c.args.self.now) c.args.s.now c.slots.result.now c.events.result.now c.outputs.result.now c.slots.ensures.slots c.events.ensures.events c.outputs.ensures.outputs
    c.assign.new.self (g.M.Memory.meaning c.reset.new.self) c.pages.result.now c.cycles-self.result c.assign.ensures c.reset.ensures.meaning c.pages.ensures.pages c.cycles-self.ensures.cycles)
    c.slots.ensures.snapshot c.slots.ensures.typed c.requires c.args.self.now.valid
