use Rattle.std.{proofs.Common.{◌≡◌, ℕ, ◌∙◌, sym, ap, refl, None, Option}, specs.Option.option_or}
use Rattle.mm_model.specs.Run.{next_running}
use Rattle.mm_machine.{specs.Machine.state_of, proofs.Running.peeked}
use Rattle.mm_machine.proofs.machine.Machine.next_item.Goals as goal

pub returns-in_err-next-clause-robin : goal.returns-in_err-next-clause-robin
returns-in_err-next-clause-robin g c past =
    let s = state_of c.args.self.now in
    let next : c.peek.result ≡ next_running s.core.rows c.args.last.now =
    peeked s c.running.result c.after.result c.peek.result c.args.self.now.valid c.running.ensures c.peek.ensures.some c.peek.ensures.next
    ∙ ap (λ (o : Option ℕ). next_running s.core.rows o) c.after.ensures in
    let none : c.from_residual.result ≡ None = c.from_residual.ensures in (
      none ∙ sym c.in_err-next.was ∙ next,
      sym (ap (λ (o : Option ℕ). option_or o c.args.last.now) none),
    )

pub returns-clause-robin : goal.returns-clause-robin
returns-clause-robin g c past =
    let s = state_of c.args.self.now in (
      sym c.in_ok-next.was
          ∙ peeked s c.running.result c.after.result c.peek.result c.args.self.now.valid c.running.ensures c.peek.ensures.some c.peek.ensures.next
          ∙ ap (λ (o : Option ℕ). next_running s.core.rows o) c.after.ensures,
      refl,
    )
