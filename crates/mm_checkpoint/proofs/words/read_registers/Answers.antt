use Rattle.std.specs.Prelude.{◌==◌}
use Rattle.std.proofs.Common.{◌≡◌, ℕ, zero, suc, ◌/◌, ◌%◌, ◌^◌, ◌<◌, Bool, false, List, [], ◌∷◌, get_or, length, refl}
use Rattle.std.proofs.Common.{ap, ◌∙◌, arith}
use Rattle.mm_model.{specs.Flags.flags, proofs.FlagLists.flags-get}
use Rattle.mm_format.{specs.{Formats.{each, sixteen}, Images.flags_of}, proofs.Loops.each_sixteen}
use Rattle.mm_checkpoint.specs.Format.{beside, register}
use Rattle.mm_checkpoint.proofs.words.read_registers.Goals as goal

beside_at : (xs bs : List Bool) (k : ℕ) → k < length xs → k < length bs
    → get_or (beside xs bs) k (false, false) ≡ (get_or xs k false, get_or bs k false)
beside_at [] bs k lt small = absurd (omega arith)
beside_at (a ∷ xs) [] k lt small = absurd (omega arith)
beside_at (a ∷ xs) (b ∷ bs) zero lt small = refl
beside_at (a ∷ xs) (b ∷ bs) (suc k) lt small = beside_at xs bs k (omega arith) (omega arith)

by_masks : (tags empty : ℕ) (bytes : List ℕ) (at : ℕ)
    → (each register (beside (flags_of tags) (flags 16 empty))).read bytes at
    ≡ sixteen (λ k. (register (tags / 2 ^ k % 2 == 1, empty / 2 ^ k % 2 == 1)).read) bytes at
unfolding flags_of
by_masks tags empty =
    each_sixteen register (beside (flags_of tags) (flags 16 empty)) (false, false) _ refl
    (λ k lt. ap (λ m. (register m).read) (beside_at (flags 16 tags) (flags 16 empty) k lt lt
    ∙ ap (λ b. (b, get_or (flags 16 empty) k false)) (flags-get 16 tags k lt)
    ∙ ap (λ b. (tags / 2 ^ k % 2 == 1, b)) (flags-get 16 empty k lt)))

pub returns-clause-read : goal.returns-clause-read
returns-clause-read c =
    let reader = c.args.reader.now in
    rw (by_masks c.args.tags c.args.empty reader.bytes.now reader.at) c.read_array.ensures.read
