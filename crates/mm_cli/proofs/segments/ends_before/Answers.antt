use Rattle.std.proofs.Common.{◌≡◌, ◌+◌, ◌-◌, ◌*◌, ◌%◌, ◌^◌, ◌≤◌, ℕ, length, sym, subst, arith}
use Rattle.std.proofs.lemmas.{Bool.{leb-true, le-leb}, Nat.one_shl}
use Rattle.mm_cli.specs.SegmentList.{IsSegment}
use Rattle.mm_cli.proofs.{ItemLists.at_each, SegmentWords.ends_last}
use Rattle.mm_cli.proofs.segments.ends_before.Goals as goal

pub returns-in-Some : goal.returns-in-Some
returns-in-Some c =
    let segments = c.args.segments.now in
    let last : ℕ × ℕ = c.in-Some.field-0.now in
    let is : IsSegment last = at_each IsSegment segments (length segments - 1) last (sym c.in-Some.ensures.value) c.requires.each in
    let shifted : 1 * 2 ^ last.1 % 2 ^ 64 ≡ 2 ^ last.1 = one_shl last.1 64 (omega (arith, is.2)) in
    let ends = ends_last segments last c.args.base c.requires c.in-Some.ensures.value in (
      λ le. ends.0 (subst (λ (size : ℕ). last.0 + size ≤ c.args.base) shifted (leb-true _ _ le)),
      λ each. le-leb _ _ (subst (λ (size : ℕ). last.0 + size ≤ c.args.base) (sym shifted) (ends.1 each)),
    )
