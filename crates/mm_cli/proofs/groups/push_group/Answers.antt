use Rattle.std.proofs.Common.{◌≡◌, ◌<◌, ℕ, decimal, sym, ◌∙◌, subst, arith}
use Rattle.std.{proofs.lemmas.{Fmt.decimal_injective, Bool.both_ways}, specs.List.AllByRecursion}
use Rattle.mm_cli.proofs.GroupWords.{room_for}
use Rattle.mm_cli.proofs.groups.push_group.Goals as goal

pub returns-then-not-is_above-clause-none : goal.returns-then-not-is_above-clause-none
returns-then-not-is_above-clause-none c none g follows arguments =
    let group = c.in_ok-group.field-0 in
    let digits : decimal group ≡ decimal g = sym c.in_ok-group.ensures.some.0 ∙ arguments in
    let same : g ≡ group = decimal_injective g group (omega (arith, follows.one)) (omega (arith, c.in_ok-group.ensures.some.1)) (sym digits) in
    let above : AllByRecursion (λ h. h < group) c.as_slice.result.now =
    subst (AllByRecursion (λ h. h < group)) (sym c.as_slice.ensures.value) (subst (λ (n : ℕ). AllByRecursion (λ h. h < n) c.args.groups.now.items) same follows.after) in
    both_ways c.is_above.result c.if-not-is_above.true (c.is_above.ensures.1 above)

pub push-requires : goal.push-requires
push-requires c =
    let group = c.in_ok-group.field-0 in
    let few : group < 64 = omega (arith, c.in_ok-group.ensures.some.1) in
    let above : AllByRecursion (λ h. h < group) c.args.groups.now.items =
    subst (AllByRecursion (λ h. h < group)) c.as_slice.ensures.value (c.is_above.ensures.0 c.if-not-is_above.false) in
    (omega arith, room_for c.args.groups.now.items group c.requires (record { after = above; one = few }))

pub returns-clause-some : goal.returns-clause-some
returns-clause-some c some =
    let group = c.in_ok-group.field-0 in
    let few : group < 64 = omega (arith, c.in_ok-group.ensures.some.1) in
    let above : AllByRecursion (λ h. h < group) c.args.groups.now.items =
    subst (AllByRecursion (λ h. h < group)) c.as_slice.ensures.value (c.is_above.ensures.0 c.if-not-is_above.false) in
    (group, record { after = above; one = few }, c.in_ok-group.ensures.some.0, c.push.ensures.items)
