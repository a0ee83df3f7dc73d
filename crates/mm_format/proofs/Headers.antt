-- The header of an image file as a format.
use Rattle.std.proofs.Common.{◌≡◌, ℕ, ◌-◌, false, not, nat_lt, length, refl, ap, ◌∙◌, codes, arith}
use Rattle.std.{proofs.lemmas.Bool.Decides.nat_tests, specs.Prelude.{◌==◌, ◌||◌}}
use Rattle.mm_model.specs.Spelling.{mode_of}
use Rattle.mm_format.specs.{declared.header.Header.Header, Formats.{IsFormat, u16, u32}, Headers.header}
use Rattle.mm_format.proofs.Formats.{literal_is, literal_read, u16_is, u32_is, test_is, then_is, done_is}

mode_again : (version mode : ℕ) → not (version == 1 || version == 2) ≡ false → nat_lt (version - 1) mode ≡ false
    → mode_of (mode == 1) ≡ mode
mode_again version mode known few = grind (arith, nat_tests)

pub header_is : IsFormat header
unfolding header
header_is =
    then_is _ _ (literal_is (codes "MMI1") 2) (λ magic _.
    then_is _ _ (test_is u16 u16_is _ _) (λ version known.
    then_is _ _ (test_is u16 u16_is _ _) (λ slots _.
    then_is _ _ (test_is u16 u16_is _ _) (λ frames _.
    then_is _ _ (test_is u16 u16_is _ _) (λ pages _.
    then_is _ _ (test_is u32 u32_is _ _) (λ mode _. done_is _)
    (λ a b few e. ap (λ h. mode_of h.split) e ∙ mode_again version a known.1 few.1))
    (λ a b fits e. ap (λ h. h.pages) e.1))
    (λ a b fits e. ap (λ h. h.frames) e.1.1))
    (λ a b fits e. ap (λ h. h.slots) e.1.1.1))
    (λ a b fits e. ap (λ h. h.version) e.1.1.1.1))
    (λ a b fits e. literal_read (codes "MMI1") 2 a fits)

pub header_long : (h : Header) → length (header.spell h) ≡ 16
unfolding header
header_long h = refl
