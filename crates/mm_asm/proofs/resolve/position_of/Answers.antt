use Rattle.std.proofs.{Common.{List, ℕ, rules}, lemmas.Fn.always_returns_same}
use Rattle.std.specs.{declared.cmp.Ordering.Ordering, Ordering.nat_cmp, Cmp.Lexicographic.slice_cmp}
use Rattle.mm_asm.proofs.BuiltNames.{place_is, is_found}
use Rattle.mm_asm.proofs.resolve.position_of.Goals as goal

pub returns : goal.returns
returns c =
    let order : List ℕ → Ordering = λ y. slice_cmp nat_cmp y c.args.name.now in
    place_is c.args.names.now c.args.name.now c.in-Ok.position c.requires.up c.in-Ok.ensures.bound (c.in-Ok.ensures.position order (always_returns_same _ _ _ (λ a r f called. search rules)))

pub unreachable-requires : goal.unreachable-requires
unreachable-requires c =
    let order : List ℕ → Ordering = λ y. slice_cmp nat_cmp y c.args.name.now in
    is_found c.args.names.now c.args.name.now c.in-Err.field-0 c.requires.up c.requires.among (c.in-Err.ensures.position order (always_returns_same _ _ _ (λ a r f called. search rules)))
