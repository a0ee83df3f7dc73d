-- Output, row by row.
use Rattle.std.proofs.Common.{◌≡◌, ℕ, suc, ◌+◌, ◌/◌, ◌<◌, List, ◌++◌, length, take, drop, sym, ap, ◌∙◌, arith}
use Rattle.std.{proofs.{Common.length-drop, lemmas.List.{take_min, drop_min}}, specs.Prelude.min}
use Rattle.mm_model.specs.Lines.{output_lines, output_rows, output_row}

-- a row of up to 32 bytes, and the rows of the others
pub output_lines-step : (bytes row others : List ℕ) (n : ℕ) → 0 < length bytes → n ≡ min 32 (length bytes) → row ≡ take n bytes
    → others ≡ drop n bytes → output_row row ++ output_lines others ≡ output_lines bytes
output_lines-step bytes row others n some many front back =
    let first : row ≡ take 32 bytes = front ∙ ap (λ k. take k bytes) many ∙ take_min 32 bytes in
    let next : others ≡ drop 32 bytes = back ∙ ap (λ k. drop k bytes) many ∙ drop_min 32 bytes in
    let rows : (length bytes + 31) / 32 ≡ suc ((length (drop 32 bytes) + 31) / 32) = omega (arith, length-drop 32 bytes) in
    ap (λ xs. output_row xs ++ output_lines others) first ∙ ap (λ xs. output_row (take 32 bytes) ++ output_lines xs) next ∙ sym (ap (λ k. output_rows k bytes) rows)
