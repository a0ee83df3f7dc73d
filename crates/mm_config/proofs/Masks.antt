-- Masks that are put together flag by flag, from the last to the first, and what is at a place of the flags.
use Rattle.std.proofs.Common.{◌≡◌, ℕ, zero, suc, ◌+◌, ◌*◌, ◌-◌, ◌^◌, ◌<◌, ◌≤◌, Bool, true, false, not, List, [], ◌∷◌, map, drop, length, get_or}
use Rattle.std.proofs.Common.{refl, sym, ap, ◌∙◌, subst, arith, drop-cons}
use Rattle.std.proofs.lemmas.List.{drop_all}
use mir.Val.{bool_byte}
use Rattle.mm_model.proofs.Bytes.Apart.{number_of_flags-below}
use Rattle.mm_model.specs.{Effect.same_word, Flags.{one_if, number_of_flags}}
use Rattle.mm_word.specs.{declared.word.Word.Word, Word.is_pointer}
use Rattle.mm_config.specs.Forms.{changed_flags}

-- a mask has the flags from a place on, and those before it are to come
abbrev pub IsMaskFrom : List Bool → (mask r : ℕ) → Type 0
IsMaskFrom fs mask r = mask ≡ number_of_flags (drop r fs)

byte_is : (f : Bool) → bool_byte f ≡ one_if f
byte_is true = refl
byte_is false = refl

bool_small : (f : Bool) → bool_byte f ≤ 1
bool_small true = omega arith
bool_small false = omega arith

drop_below : (fs : List Bool) (r : ℕ) → number_of_flags (drop r fs) ≤ number_of_flags fs
drop_below fs zero = omega arith
drop_below [] (suc r) = omega arith
drop_below (f ∷ fs) (suc r) = let less = drop_below fs r in omega (arith, less)

module _ (fs : List Bool) (long : length fs ≡ 16) where
  below : number_of_flags fs < 65536
  below = let small = number_of_flags-below fs in let at = ap (λ n. 2 ^ n) long in omega (arith, small, at)

  pub begins : IsMaskFrom fs 0 16
  begins = sym (ap number_of_flags (drop_all 16 fs (omega (arith, long))))

  module _ (mask r : ℕ) (some : 0 < r) (few : r ≤ 16) (from : IsMaskFrom fs mask r) where
    with_flag : number_of_flags (drop (r - 1) fs) ≡ one_if (get_or fs (r - 1) false) + 2 * mask
    with_flag =
        let next : suc (r - 1) ≡ r = omega (arith, some) in
        ap number_of_flags (drop-cons fs (r - 1) false (omega (arith, some, few, long)))
        ∙ ap (λ n. one_if (get_or fs (r - 1) false) + 2 * n) (ap (λ n. number_of_flags (drop n fs)) next ∙ sym from)

    pub mask_more : (f : Bool) → get_or fs (r - 1) false ≡ f → IsMaskFrom fs (2 * mask + bool_byte f) (r - 1)
    mask_more f at = let more = with_flag in let one = ap one_if at in let byte = byte_is f in omega (arith, more, one, byte)

    pub mask_fits : (f : Bool) → 2 * mask + bool_byte f < 65536
    mask_fits f =
        let more = with_flag in
        let less = drop_below fs (r - 1) in
        let small = below in
        let one = bool_small f in
        omega (arith, more, less, small, one)

  pub mask_is : (mask r : ℕ) → r ≤ 0 → IsMaskFrom fs mask r → mask ≡ number_of_flags fs
  mask_is mask r none from = let at : r ≡ 0 = omega (arith, none) in subst (IsMaskFrom fs mask) at from

  pub mask_below : (mask r : ℕ) → r ≤ 0 → IsMaskFrom fs mask r → mask < 65536
  mask_below mask r none from = let is = mask_is mask r none from in let small = below in omega (arith, is, small)

pub changed_at : (base words : List Word) (r : ℕ) (d e : Word) → length base ≡ length words → r < length base
    → get_or (changed_flags base words) r false ≡ not (same_word (get_or base r d) (get_or words r e))
changed_at [] words r d e same lt = absurd (omega (arith, lt))
changed_at (b ∷ base) [] r d e same lt = absurd (omega (arith, same))
changed_at (b ∷ base) (w ∷ words) zero d e same lt = refl
changed_at (b ∷ base) (w ∷ words) (suc r) d e same lt = changed_at base words r d e (omega (arith, same)) (omega (arith, lt))

pub pointer_at : (words : List Word) (r : ℕ) (d : Word) → r < length words → get_or (map is_pointer words) r false ≡ is_pointer (get_or words r d)
pointer_at [] r d lt = absurd (omega (arith, lt))
pointer_at (w ∷ words) zero d lt = refl
pointer_at (w ∷ words) (suc r) d lt = pointer_at words r d (omega (arith, lt))
