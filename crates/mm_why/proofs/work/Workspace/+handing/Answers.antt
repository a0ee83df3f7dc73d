use Rattle.std.proofs.Common.{ℕ, ◌+◌, ◌-◌, ◌*◌, ◌<◌, List, length, refl, subst, arith}
use Rattle.std.proofs.lemmas.Result.{IfOk-weaker}
use Rattle.mm_flow.specs.Flow.{Has}
use Rattle.mm_model.specs.Slot.{Slot}
use Rattle.mm_why.specs.{declared.line.Line.Line, Derivations.Says, Rounds.round_at, Reasons.{IsHand, IsMeeting}}
use Rattle.mm_why.specs.Giving.{HasLine, JoinedAt}
use Rattle.mm_why.proofs.Working.{goes_nowhere, goes_trans, says_on}
use Rattle.mm_why.proofs.Handing.{sooner, handed_on, linked_join, served_by, passes, line_on}
use Rattle.mm_why.proofs.work.Workspace.+handing.Goals as goal

pub derive_for-derive_for-requires : goal.derive_for-derive_for-requires
derive_for-derive_for-requires t c =
    let lt : 2 * (c.args.source.round - 1) < 2 * c.args.source.round = (let f = c.if-source-eq0.false in omega (arith, f)) in
    let come : Has (round_at c.args.context.now.rounds.now.rounds.items (c.args.source.round - 1)) c.args.source.group c.args.to = c.if-had_come.ensures.0 refl in
    let line : HasLine c.ensure_searched.new.self.lines.items c.args.source.group c.args.pointer =
    line_on c.args.context.now.image.now c.args.context.now.graph.now c.args.self.now c.ensure_searched.new.self c.args.source.group c.args.pointer c.in_ok-ensure_searched.ensures.goes_on c.requires.line in (
      omega (arith, lt, c.decreases),
      (c.requires.context, (c.in_ok-ensure_searched.ensures.goes_on.work, (c.requires.source, (c.requires.to, (omega (arith, c.requires.round), (come, line)))))),
    )

pub derive_for-returns-then-had_come-clause-goes_on : goal.derive_for-returns-then-had_come-clause-goes_on
derive_for-returns-then-had_come-clause-goes_on t c = IfOk-weaker c.derive_for.result _ _
    (λ k goes. goes_trans c.args.context.now.image.now c.args.context.now.graph.now c.args.self.now c.ensure_searched.new.self c.derive_for.new.self c.in_ok-ensure_searched.ensures.goes_on goes) c.derive_for.ensures.goes_on

pub derive_for-unreachable-requires-in_default-handoff_for : goal.derive_for-unreachable-requires-in_default-handoff_for
derive_for-unreachable-requires-in_default-handoff_for t c =
    c.in_default-handoff_for.ensures
    (handed_on c.args.context.now.rounds.now.links c.args.context.now.rounds.now.meets
    c.args.context.now.rounds.now.rounds.items (c.args.source.round - 1) c.args.source.round c.args.source.group
    c.args.to
    c.requires.context.rounds c.requires.round (let f = c.if-source-eq0.false in omega (arith, f)) c.requires.come (λ h. let bad = c.if-had_come.ensures.1 h in cc))

pub derive_for-derive_for-requires-2 : goal.derive_for-derive_for-requires-2
derive_for-derive_for-requires-2 t c =
    let lt : 2 * (c.args.source.round - 1) < 2 * c.args.source.round = (let f = c.if-source-eq0.false in omega (arith, f)) in
    let line : HasLine c.ensure_searched.new.self.lines.items c.args.source.group c.args.pointer =
    line_on c.args.context.now.image.now c.args.context.now.graph.now c.args.self.now c.ensure_searched.new.self c.args.source.group c.args.pointer c.in_ok-ensure_searched.ensures.goes_on c.requires.line in (
      omega (arith, lt, c.decreases),
      (c.requires.context, (c.in_ok-ensure_searched.ensures.goes_on.work, (c.requires.source, (c.in-Some-handoff_for.ensures.small, (omega (arith, c.requires.round), (c.in-Some-handoff_for.ensures.come, line)))))),
    )

pub derive_for-returns-clause-goes_on : goal.derive_for-returns-clause-goes_on
derive_for-returns-clause-goes_on t c =
    let i = c.args.context.now.image.now in
    let g = c.args.context.now.graph.now in
    let known = c.in_ok-rule.ensures.goes_on.known c.args.to (c.in_ok-from.ensures.goes_on.known c.args.to c.in_ok-ensure_searched.ensures.known) in
    let two = goes_trans i g c.args.self.now c.ensure_searched.new.self c.derive_for-2.new.self c.in_ok-ensure_searched.ensures.goes_on c.in_ok-from.ensures.goes_on in
    let three = goes_trans i g c.args.self.now c.derive_for-2.new.self c.derive_handoff.new.self two c.in_ok-rule.ensures.goes_on in
    IfOk-weaker c.find_or_add.result _ _ (λ k put.
    goes_trans i g c.args.self.now c.derive_handoff.new.self c.find_or_add.new.self three
    (put i g c.in_ok-rule.ensures.goes_on.work known (c.in_ok-rule.ensures.follows c.args.pointer c.in_ok-from.ensures.says)).0) c.find_or_add.ensures

pub derive_for-returns-clause-says : goal.derive_for-returns-clause-says
derive_for-returns-clause-says t c =
    let known = c.in_ok-rule.ensures.goes_on.known c.args.to (c.in_ok-from.ensures.goes_on.known c.args.to c.in_ok-ensure_searched.ensures.known) in
    IfOk-weaker c.find_or_add.result _ _ (λ k put. (put c.args.context.now.image.now c.args.context.now.graph.now c.in_ok-rule.ensures.goes_on.work
    known (c.in_ok-rule.ensures.follows c.args.pointer c.in_ok-from.ensures.says)).1) c.find_or_add.ensures

pub derive_handoff-unreachable-requires : goal.derive_handoff-unreachable-requires
derive_handoff-unreachable-requires t c =
    let r = c.args.context.now.rounds.now in
    let has : Has c.args.context.now.graph.now.links c.args.handoff.by c.args.to =
    subst (λ v. Has v c.args.handoff.by c.args.to) c.requires.context.links
    (subst (IsHand r.links r.meets (round_at r.rounds.items c.args.round) c.args.handoff.by c.args.to) c.in-Linked.is c.requires.hand) in
    linked_join c.args.context.now.image.now.slots c.args.context.now.graph.now.links c.args.handoff.by c.args.to c.requires.context.graph.built.is_links has
    (subst (λ (v : List Slot). (n : ℕ) → JoinedAt v (length v) c.args.handoff.by c.args.to n → ⊥) c.slots.ensures.slots c.in-None.ensures)

pub derive_handoff-derive_for-requires-in-Met : goal.derive_handoff-derive_for-requires-in-Met
derive_handoff-derive_for-requires-in-Met t c =
    let r = c.args.context.now.rounds.now in
    let m : IsMeeting r.meets (round_at r.rounds.items c.args.round) c.args.handoff.by c.args.to c.in-Met.giver c.in-Met.taker =
    subst (IsHand r.links r.meets (round_at r.rounds.items c.args.round) c.args.handoff.by c.args.to) c.in-Met.is c.requires.hand in
    let line : HasLine c.derive_for.new.self.lines.items c.in-Met.taker c.in_ok-store-in-Met.field-0.load =
    line_on c.args.context.now.image.now c.args.context.now.graph.now c.carriers_between.new.self c.derive_for.new.self c.in-Met.taker c.in_ok-store-in-Met.field-0.load
    c.in_ok-by_store-in-Met.ensures.goes_on c.in_ok-store-in-Met.ensures.carriers.has_load in
    (omega (arith, c.decreases), (c.requires.context, (c.in_ok-by_store-in-Met.ensures.goes_on.work, (m.small_taker, (c.requires.to, (c.requires.round, (m.come_to, line)))))))

pub derive_handoff-returns-in-Some-clause-follows : goal.derive_handoff-returns-in-Some-clause-follows
derive_handoff-returns-in-Some-clause-follows t c = λ pointer says.
    served_by c.args.context.now.image.now c.args.self.now.lines.items c.in-Some.slot c.args.handoff.by c.args.to c.args.from pointer
    (subst (λ (v : List Slot). JoinedAt v (length v) c.args.handoff.by c.args.to c.in-Some.slot) c.slots.ensures.slots c.in-Some.ensures) says

pub derive_handoff-returns-in_ok-by_load-in-Met-clause-goes_on : goal.derive_handoff-returns-in_ok-by_load-in-Met-clause-goes_on
derive_handoff-returns-in_ok-by_load-in-Met-clause-goes_on t c =
    let i = c.args.context.now.image.now in
    let g = c.args.context.now.graph.now in
    goes_trans i g c.args.self.now c.derive_for.new.self c.derive_for-in-Met.new.self
    (goes_trans i g c.args.self.now c.carriers_between.new.self c.derive_for.new.self c.in_ok-store-in-Met.ensures.goes_on c.in_ok-by_store-in-Met.ensures.goes_on) c.in_ok-by_load-in-Met.ensures.goes_on

pub derive_handoff-returns-in_ok-by_load-in-Met-clause-follows : goal.derive_handoff-returns-in_ok-by_load-in-Met-clause-follows
derive_handoff-returns-in_ok-by_load-in-Met-clause-follows t c = λ pointer says.
    let i = c.args.context.now.image.now in
    let g = c.args.context.now.graph.now in
    let on = goes_trans i g c.args.self.now c.derive_for.new.self c.derive_for-in-Met.new.self
    (goes_trans i g c.args.self.now c.carriers_between.new.self c.derive_for.new.self c.in_ok-store-in-Met.ensures.goes_on c.in_ok-by_store-in-Met.ensures.goes_on) c.in_ok-by_load-in-Met.ensures.goes_on in
    let w = c.in_ok-store-in-Met.ensures.carriers.common in
    let word = c.common_word-word.ensures w.word w.stores w.loads in
    passes i c.derive_for-in-Met.new.self.lines.items c.common_word-word.result c.args.from c.in_ok-by_store-in-Met.by_store c.in_ok-by_load-in-Met.by_load c.args.handoff.by c.args.to pointer
    c.in_ok-store-in-Met.field-0.store c.in_ok-store-in-Met.field-0.load
    (says_on i g c.args.self.now c.derive_for-in-Met.new.self c.args.from c.args.handoff.by pointer on says)
    (says_on i g c.derive_for.new.self c.derive_for-in-Met.new.self c.in_ok-by_store-in-Met.by_store c.args.handoff.by
    c.in_ok-store-in-Met.field-0.store c.in_ok-by_load-in-Met.ensures.goes_on c.in_ok-by_store-in-Met.ensures.says)
    c.in_ok-by_load-in-Met.ensures.says word.0 word.1

pub derive_for-returns-in-Some-clause-goes_on : goal.derive_for-returns-in-Some-clause-goes_on
derive_for-returns-in-Some-clause-goes_on t c = c.in_ok-ensure_searched.ensures.goes_on

pub derive_for-returns-in-Some-clause-says : goal.derive_for-returns-in-Some-clause-says
derive_for-returns-in-Some-clause-says t c =
    subst (λ (lines : List Line). Says lines (length lines) c.in-Some.place c.args.to c.args.pointer) c.deref.ensures.value c.in-Some.ensures

pub derive_for-had_come-requires-clause-round : goal.derive_for-had_come-requires-clause-round
derive_for-had_come-requires-clause-round t c = sooner c.args.source.round (length c.args.context.now.rounds.now.rounds.items) c.requires.round

pub derive_for-returns-then-had_come-clause-says : goal.derive_for-returns-then-had_come-clause-says
derive_for-returns-then-had_come-clause-says t c = c.derive_for.ensures.says

pub derive_for-handoff_for-requires-clause-round : goal.derive_for-handoff_for-requires-clause-round
derive_for-handoff_for-requires-clause-round t c = sooner c.args.source.round (length c.args.context.now.rounds.now.rounds.items) c.requires.round

pub derive_for-derive_handoff-requires : goal.derive_for-derive_handoff-requires
derive_for-derive_handoff-requires t c =
    let lt : 2 * (c.args.source.round - 1) + 1 < 2 * c.args.source.round = (let f = c.if-source-eq0.false in omega (arith, f)) in
    let round = sooner c.args.source.round (length c.args.context.now.rounds.now.rounds.items) c.requires.round in
    let why = c.in-Some-handoff_for.ensures in
    (omega (arith, lt, c.decreases), (c.requires.context, (c.in_ok-from.ensures.goes_on.work, (c.requires.to, (round, (why.small, why.hand))))))

pub derive_for-find_or_add-requires : goal.derive_for-find_or_add-requires
derive_for-find_or_add-requires t c = c.requires.to

pub derive_handoff-carriers_between-requires-clause-giver : goal.derive_handoff-carriers_between-requires-clause-giver
derive_handoff-carriers_between-requires-clause-giver t c =
    let r = c.args.context.now.rounds.now in
    let m : IsMeeting r.meets (round_at r.rounds.items c.args.round) c.args.handoff.by c.args.to c.in-Met.giver c.in-Met.taker =
    subst (IsHand r.links r.meets (round_at r.rounds.items c.args.round) c.args.handoff.by c.args.to) c.in-Met.is c.requires.hand in
    m.small_giver

pub derive_handoff-carriers_between-requires-clause-taker : goal.derive_handoff-carriers_between-requires-clause-taker
derive_handoff-carriers_between-requires-clause-taker t c =
    let r = c.args.context.now.rounds.now in
    let m : IsMeeting r.meets (round_at r.rounds.items c.args.round) c.args.handoff.by c.args.to c.in-Met.giver c.in-Met.taker =
    subst (IsHand r.links r.meets (round_at r.rounds.items c.args.round) c.args.handoff.by c.args.to) c.in-Met.is c.requires.hand in
    m.small_taker

pub derive_handoff-carriers_between-requires-clause-meets : goal.derive_handoff-carriers_between-requires-clause-meets
derive_handoff-carriers_between-requires-clause-meets t c =
    let r = c.args.context.now.rounds.now in
    let m : IsMeeting r.meets (round_at r.rounds.items c.args.round) c.args.handoff.by c.args.to c.in-Met.giver c.in-Met.taker =
    subst (IsHand r.links r.meets (round_at r.rounds.items c.args.round) c.args.handoff.by c.args.to) c.in-Met.is c.requires.hand in
    c.requires.context.meets c.in-Met.giver c.in-Met.taker m.meet

pub derive_handoff-derive_for-requires : goal.derive_handoff-derive_for-requires
derive_handoff-derive_for-requires t c =
    let r = c.args.context.now.rounds.now in
    let m : IsMeeting r.meets (round_at r.rounds.items c.args.round) c.args.handoff.by c.args.to c.in-Met.giver c.in-Met.taker =
    subst (IsHand r.links r.meets (round_at r.rounds.items c.args.round) c.args.handoff.by c.args.to) c.in-Met.is c.requires.hand in
    let carried = c.in_ok-store-in-Met.ensures in
    (omega (arith, c.decreases), (c.requires.context, (carried.goes_on.work, (m.small_giver, (c.requires.by, (c.requires.round, (m.come_by, carried.carriers.has_store)))))))

pub derive_handoff-returns-in-Some-clause-goes_on : goal.derive_handoff-returns-in-Some-clause-goes_on
derive_handoff-returns-in-Some-clause-goes_on t c = goes_nowhere c.args.context.now.image.now c.args.context.now.graph.now c.args.self.now c.requires.work
