use Rattle.std.{proofs.Common.{ℕ, Option, refl, sym, ap, ◌∙◌, arith}, specs.Option.option_or}
use Rattle.mm_model.specs.State.{State}
use Rattle.mm_machine.specs.Machine.{state_of}
use Rattle.mm_machine.proofs.{Rounds.after_cycles, Issuing.{begins, cycle_more, cycle_watched, ends, stops}}
use Rattle.mm_machine.proofs.machine.Machine.issue.Goals as goal

pub loop-at-init : goal.loop-at-init
loop-at-init g c = record {
  cycles = omega (arith, c.requires.few);
  slot = c.requires.slot;
  issued = begins c.args.self.now c.args.items.now c.args.previous c.args.previous c.args.count refl;
  watched = record { begins = λ first. refl; alone = λ n one none first. absurd (omega (arith, first)) };
  ports = refl;
}

pub loop-at-preserved : goal.loop-at-preserved
loop-at-preserved g c =
    let old = c.args.self.now in
    let mid = c.loop-at.self in
    let items = c.args.items.now in
    let at = c.loop-at.at in
    let item = c.in-Some.item in
    record {
      cycles = omega (arith, ap (λ (s : State). s.cycles) c.advance.ensures.state ∙ after_cycles (state_of mid) item, c.loop-at.invariant.cycles);
      slot = c.next_item.ensures.slot;
      issued = cycle_more old mid c.advance.new.self items c.args.previous c.loop-at.last c.next_item.new.last c.args.count at item c.loop-at.invariant.issued (omega arith)
          (λ inside. let (next, same) = c.next_item.ensures.listed inside in (sym c.in-Some.is ∙ next, same))
          (λ past. let (next, same) = c.next_item.ensures.robin past in (sym c.in-Some.is ∙ next, same ∙ ap (λ (o : Option ℕ). option_or o c.loop-at.last) c.in-Some.is))
          c.advance.ensures.state c.advance.ensures.takes;
      watched = cycle_watched g.W.Watch.tells g.W.Watch.looks c.args.watch.now old mid items c.args.previous c.loop-at.last c.args.count at item c.loop-at.watch c.advance.new.watch c.loop-at.invariant.issued
          c.loop-at.invariant.watched (λ inside. sym c.in-Some.is ∙ (c.next_item.ensures.listed inside).0) c.advance.ensures.watch;
      ports = c.advance.ensures.ports ∙ c.loop-at.invariant.ports;
    }

pub returns-after-loop-at-clause-goes : goal.returns-after-loop-at-clause-goes
returns-after-loop-at-clause-goes g c = (ends c.args.self.now c.loop-at.self c.args.items.now c.args.previous c.loop-at.last c.args.count c.loop-at.at c.loop-at.invariant.issued (omega arith)).goes

pub returns-after-loop-at-clause-last : goal.returns-after-loop-at-clause-last
returns-after-loop-at-clause-last g c = (ends c.args.self.now c.loop-at.self c.args.items.now c.args.previous c.loop-at.last c.args.count c.loop-at.at c.loop-at.invariant.issued (omega arith)).last

pub returns-in_default-clause-goes : goal.returns-in_default-clause-goes
returns-in_default-clause-goes g c =
    (stops c.args.self.now c.loop-at.self c.args.items.now c.args.previous c.loop-at.last c.next_item.new.last c.args.count c.loop-at.at c.next_item.result c.loop-at.invariant.issued
    c.in_default.is c.next_item.ensures.listed c.next_item.ensures.robin).goes

pub returns-in_default-clause-last : goal.returns-in_default-clause-last
returns-in_default-clause-last g c =
    (stops c.args.self.now c.loop-at.self c.args.items.now c.args.previous c.loop-at.last c.next_item.new.last c.args.count c.loop-at.at c.next_item.result c.loop-at.invariant.issued
    c.in_default.is c.next_item.ensures.listed c.next_item.ensures.robin).last
