use Rattle.std.proofs.Common.{◌<◌, ◌^◌, ℕ, bit_or, slice_index_or, sym, ap, ◌∙◌, arith}
use Rattle.std.proofs.lemmas.{List.{Sums.fold_more, take_all}, Nat.one_shl}
use Rattle.mm_model.proofs.CoreRows.{each_get}
use Rattle.mm_config.specs.Reads.{mask_of}
use Rattle.mm_config.proofs.changes.mask_of.Goals as goal

pub overflow_shl-mask : goal.overflow_shl-mask
overflow_shl-mask c =
    let low = each_get (λ (e : ℕ × ℕ). e.0 < 64) c.args.changes.now c.loop-at.at-index (0, 0) c.requires c.loop-at-test.true in
    omega (arith, low)

pub loop-at-preserved : goal.loop-at-preserved
loop-at-preserved c =
    let changes = c.args.changes.now in
    let i = c.loop-at.at-index in
    let at = (slice_index_or changes i (0, 0)).0 in
    let low = each_get (λ (e : ℕ × ℕ). e.0 < 64) changes i (0, 0) c.requires c.loop-at-test.true in
    (λ j. bit_or (c.loop-at.invariant j) (one_shl at 64 low j)) ∙ sym (fold_more (λ (mask : ℕ) (e : ℕ × ℕ). bit_or mask (2 ^ e.0)) 0 changes i (0, 0) c.loop-at-test.true)

pub returns : goal.returns
returns c = c.loop-at.invariant ∙ ap mask_of (take_all c.loop-at.at-index c.args.changes.now c.loop-at-test.false)
