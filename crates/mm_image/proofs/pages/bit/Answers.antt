use Rattle.std.{proofs.Common.{◌≡◌, ◌+◌, ◌/◌, ◌%◌, ◌^◌, sym, ap, ◌∙◌, arith}, specs.Prelude.◌==◌}
use Rattle.mm_model.{specs.Bytes.number_at, proofs.Bytes.Numbers.field_1}
use Rattle.mm_image.proofs.pages.bit.Goals as goal

pub returns : goal.returns
returns c =
    let k = c.args.index in
    let bytes = c.args.bitmap.now in
    let here : 0 + k / 8 ≡ k / 8 = omega arith in
    c.is_set.ensures ∙ ap (λ n. n / 2 ^ (k % 8) % 2 == 1) c.from.ensures
    ∙ sym (ap (λ n. number_at bytes n 1 / 2 ^ (k % 8) % 2 == 1) here
    ∙ ap (λ n. n / 2 ^ (k % 8) % 2 == 1) (field_1 bytes (k / 8) (omega (arith, c.requires.index, c.requires.whole))))
