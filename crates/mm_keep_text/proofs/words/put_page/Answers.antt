use Rattle.std.proofs.Common.{◌≡◌, ◌⊎◌, subst, arith}
use Rattle.std.specs.Prelude.{Contains}
use Rattle.mm_keep_text.{specs.Parts.{AreAll, IsHeldIn}, proofs.HeldWords.place_more}
use Rattle.mm_keep_text.proofs.words.put_page.Goals as goal

pub loop-place-preserved : goal.loop-place-preserved
loop-place-preserved c =
    place_more c.args.kernel.now.image c.args.kernel.now.kept c.args.words.now.keys c.loop-place.words.keys c.put_if_held.new.words.keys c.args.number
    c.loop-place.place c.loop-place.invariant c.in_ok-put_if_held.ensures

pub returns : goal.returns
returns c =
    let i = c.args.kernel.now.image in
    let kept = c.args.kernel.now.kept in
    let same : c.loop-place.place ≡ 512 = omega arith in
    subst (λ n. AreAll (λ w. Contains c.args.words.now.keys w ⊎ IsHeldIn i kept c.args.number n w) c.loop-place.words.keys) same c.loop-place.invariant
