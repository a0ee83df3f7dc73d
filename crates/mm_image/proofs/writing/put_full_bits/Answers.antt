use Rattle.std.proofs.Common.{◌≡◌, ℕ, ◌+◌, ◌*◌, ◌-◌, ◌∷◌, ◌++◌, [], Bool, List, map, sym, ap, ◌∙◌, arith}
use Rattle.mm_word.specs.declared.word.Cell.{Cell}
use Rattle.mm_model.specs.{Flags.number_of_flags, Spelling.bitmap}
use Rattle.mm_image.proofs.Written.{both_written, bitmap_more, flags_of_part}
use Rattle.mm_image.proofs.writing.put_full_bits.Goals as goal

pub loop-k-preserved : goal.loop-k-preserved
loop-k-preserved c =
    let old = c.args.out.now.items in
    let k = c.loop-k.k in
    let cells = c.args.cells.now in
    let test : Cell → Bool = λ c. c.full in
    let byte = c.full_bits.ensures.value ∙ ap number_of_flags (flags_of_part test cells (8 * k) (8 * k + 8 - 8 * k) (omega arith)) in
    let written = c.in_ok-push.ensures.items ∙ ap (λ (n : ℕ). c.loop-k.out.items ++ n ∷ []) byte in
    both_written old c.loop-k.out.items c.push.new.self.items (bitmap k (map test cells)) _ c.loop-k.invariant written ∙ ap (λ (t : List ℕ). old ++ t) (sym (bitmap_more k (map test cells)))

pub returns : goal.returns
returns c =
    let all : c.loop-k.k ≡ 64 = omega arith in
    c.loop-k.invariant ∙ ap (λ (n : ℕ). c.args.out.now.items ++ bitmap n (map (λ (c : Cell). c.full) c.args.cells.now)) all
