use Rattle.std.proofs.{Common.{◌≡◌, ◌↔◌, ◌<◌, true, length, sym, subst, arith}, lemmas.List.get_or_read}
use Rattle.std.specs.{Prelude.Contains, Int.bit_at}
use Rattle.mm_graph.specs.Key.{key_at}
use Rattle.mm_hold.specs.Holdings.{AreHoldings, HoldingsValue}
use Rattle.mm_hold.proofs.Held.{holds_at, holds_none}
use Rattle.mm_hold.proofs.holdings.Holdings.holds.Goals as goal

pub returns-in-Some : goal.returns-in-Some
returns-in-Some c i kept are =
    let h : HoldingsValue = record { keys = c.self.inside.keys.items; doors = c.self.inside.doors.items; survey = c.self.inside.survey } in
    let own : AreHoldings i kept h = subst (AreHoldings i kept) (sym c.self.view_is) are in
    let found : (c.in-Some.node < length h.keys) × (key_at h.keys c.in-Some.node ≡ c.of.result) = rw c.deref.ensures.value at c.in-Some.ensures in
    holds_at i kept h c.self.invariant own c.args.group c.args.door c.of.result c.of.ensures.value c.of.ensures.again c.in-Some.node c.has.result found.0 found.1
    (subst (λ v. (c.has.result ≡ true) ↔ ((c.args.group < 64) × (bit_at v c.args.group ≡ 1)))
    (get_or_read h.doors c.in-Some.node c.index.result.now (let len = c.self.invariant.len in let lt = found.0 in omega arith) c.index.ensures 0) c.has.ensures)

pub returns-in-None : goal.returns-in-None
returns-in-None c i kept are =
    let h : HoldingsValue = record { keys = c.self.inside.keys.items; doors = c.self.inside.doors.items; survey = c.self.inside.survey } in
    let own : AreHoldings i kept h = subst (AreHoldings i kept) (sym c.self.view_is) are in
    let none : Contains h.keys c.of.result → ⊥ = rw c.deref.ensures.value at c.in-None.ensures in
    (λ e. cc, λ door. absurd (holds_none i kept h c.self.invariant own c.args.group c.args.door c.of.result c.of.ensures.value c.of.ensures.again none door))
