-- Lists that belong to a value, such as the calls that were made of it, and how they grow.
use Rattle.std.{specs.Prelude.{List, [], ◌++◌}, proofs.Common.{subst, append_assoc, sym, append-nil}}

-- whichever list belongs to old, that list with `more` appended belongs to new
pub record Adds {S A : Type 0} (stands : S → List A → Type 0) (old new : S) (more : List A) : Type 0 where
  pub each : (before : List A) → stands old before → stands new (before ++ more)

module _ {S A : Type 0} {stands : S → List A → Type 0} where
  pub adds_none : (s : S) → Adds stands s s []
  adds_none s =
      record { each = λ before h. let P : List A → Type 0 = λ xs. stands s xs in subst P (sym (append-nil before)) h }

  -- two steps, one after the other, append both lists
  pub adds_both : {a b c : S} {xs ys : List A} → Adds stands a b xs → Adds stands b c ys → Adds stands a c (xs ++ ys)
  adds_both {c = c} {xs = xs} {ys = ys} first second = record {
    each = λ before h. let P : List A → Type 0 = λ zs. stands c zs in
        subst P (append_assoc before xs ys) (second.each (before ++ xs) (first.each before h));
  }
