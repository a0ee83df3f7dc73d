use Rattle.std.{proofs.Common.{◌≡◌, ℕ, List, Option, None, Some, inl, inr, refl, ap, subst}, specs.Prelude.MatchOption}
use Rattle.mm_model.specs.{Image.Image, declared.word_use.WordUse.WordUse}
use Rattle.mm_why.specs.{declared.line.Line.Line, Derivations.{Derives, IsGranted}, Text.{lines_text, SpellsDerivation}}
use Rattle.mm_top.proofs.Reported.{ends_written}
use Rattle.mm_top.proofs.why.write_reason.Goals as goal

module _ {A : Type 0} (items : A → List Line) (i : Image) (how : WordUse) (g w : ℕ) where
  refused : (o : Option A) → o ≡ None → MatchOption o (IsGranted i how g w → ⊥) (λ a. Derives i how g w (items a)) → IsGranted i how g w → ⊥
  refused None none is = is
  refused (Some a) none is = absurd (cc)

  derived : (o : Option A) (a : A) → o ≡ Some a → MatchOption o (IsGranted i how g w → ⊥) (λ a. Derives i how g w (items a)) → Derives i how g w (items a)
  derived None a some is = absurd (cc)
  derived (Some b) a some is = let same : b ≡ a = cc in subst (λ (x : A). Derives i how g w (items x)) same is

pub returns-in-Some : goal.returns-in-Some
returns-in-Some g c =
    let a = c.args in
    let spells : SpellsDerivation a.image.now a.how a.group a.word (lines_text 0 c.as_slice.result.now) = record {
      lines = c.in-Some.lines.items;
      derives = derived (λ lines. lines.items) a.image.now a.how a.group a.word c.in_ok-lines.lines c.in-Some.lines c.in-Some.is c.in_ok-lines.ensures;
      is = ap (lines_text 0) c.as_slice.ensures.value;
    } in
    ends_written _ _ _ _ (inr spells) _ _ c.ended.ensures c.write_why.ensures

pub returns : goal.returns
returns g c =
    let a = c.args in
    let no = refused (λ lines. lines.items) a.image.now a.how a.group a.word c.in_ok-lines.lines c.in-None.is c.in_ok-lines.ensures in
    ends_written _ _ _ _ (inl (no, refl)) _ _ c.ended-in-None.ensures c.write_why-in-None.ensures
