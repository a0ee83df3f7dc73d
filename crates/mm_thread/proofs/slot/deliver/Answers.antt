use Rattle.std.{proofs.Common.{◌<◌, sym, ap, ◌∙◌}, specs.List.AllByRecursion}
use Rattle.mm_model.specs.{declared.slot.Pending.Pending, Flags.flags, Slot.Slot, Effect.delivered}
use Rattle.mm_thread.proofs.{FlagSets.flags_clear16, Pendings.{delivers-first, first_small}}
use Rattle.mm_thread.proofs.slot.deliver.Goals as goal

pub returns-clause-slot : goal.returns-clause-slot
unfolding delivered
returns-clause-slot c =
    let i = c.slot.inside in
    let p = c.remove-arrived.result in
    let s : Slot = record {
      number = i.number;
      group = i.group;
      handler = i.handler;
      regs = i.regs;
      ip = i.ip;
      past = i.past;
      turns = i.turns;
      state = i.state;
      empty = flags 16 i.empty;
      pending = i.pending.items;
    } in
    let all : AllByRecursion (λ (q : Pending). q.reg < 16) i.pending.items = rw (← c.slot.view_is) at c.requires in
    let some = sym c.is_empty.ensures ∙ c.if-is_empty.false in
    let small = first_small i.pending.items p all some c.remove-arrived.ensures.value in
    rw (c.set_register.ensures, flags_clear16 i.empty p.reg small, c.remove-arrived.ensures.items)
    (sym (delivers-first s i.pending.items p some c.remove-arrived.ensures.value)) ∙ ap delivered c.slot.view_is
