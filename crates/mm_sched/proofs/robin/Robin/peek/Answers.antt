use Rattle.std.proofs.Common.{◌∙◌, inl, inr, ℕ, ◌+◌, ◌/◌, ◌^◌, Option, arith, subst, sym, w64}
use Rattle.std.specs.Int.{trailing_zeros}
use Rattle.mm_sched.specs.Following.{IsNextBit}
use Rattle.mm_sched.proofs.Bits.{least_set, least_above, none_above}
use Rattle.mm_sched.proofs.robin.Robin.peek.Goals.{in-Some+else-above-ne0, in_default}
use Rattle.mm_sched.proofs.robin.Robin.peek.Goals as goal

pub returns-then-above-ne0-clause-next : goal.returns-then-above-ne0-clause-next
returns-then-above-ne0-clause-next c =
    let P : Option ℕ → Type 0 = λ last. IsNextBit c.args.running last (c.in-Some.last + 1 + trailing_zeros w64 (c.args.running / 2 ^ c.in-Some.last / 2)) in
    subst P (sym c.in-Some.is ∙ c.self.view_is) (inl (least_above c.args.running c.in-Some.last (omega arith) c.if-above-ne0.true))

pub returns-else-running-eq0-clause-next : goal.returns-else-running-eq0-clause-next
returns-else-running-eq0-clause-next c =
    let P : Option ℕ → Type 0 = λ last. IsNextBit c.args.running last (trailing_zeros w64 c.args.running) in
    elim c.match-self.branch [
      | in-Some+else-above-ne0 w ↦
          subst P (sym w.in-Some.is ∙ c.self.view_is) (inr (none_above c.args.running w.in-Some.last w.if-above-ne0.false, least_set c.args.running (omega arith) c.if-running-eq0.false))
      | in_default w ↦ subst P (sym w.in_default.is ∙ c.self.view_is) (least_set c.args.running (omega arith) c.if-running-eq0.false)
    ]
