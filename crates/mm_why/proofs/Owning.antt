-- The earliest line that can be used.
use Rattle.std.proofs.Common.{◌≡◌, ℕ, ◌+◌, ◌<◌, ◌⊎◌, inl, inr, List, Option, Some, None, MatchOption, refl, sym, ap}
use Rattle.std.proofs.Common.{◌∙◌, subst, arith}
use Rattle.mm_why.specs.{declared.line.Line.Line, Searches.place_at, Carrying.IsOneOf, Owning.{IsUsable, UsableAt}}
use Rattle.mm_why.proofs.Pruning.{same_or_before}
use Rattle.mm_model.specs.declared.word_use.WordUse.{WordUse}

module _ (lines : List Line) (places : List (Option ℕ)) (how : WordUse) (word k : ℕ) where
  pub usable_more : (best own result : Option ℕ) → MatchOption best ((t : ℕ) → IsUsable lines places how word k t → ⊥) (IsUsable lines places how word k)
      → UsableAt lines places how word k own → IsOneOf best own result
      → MatchOption result ((t : ℕ) → IsUsable lines places how word (k + 1) t → ⊥) (IsUsable lines places how word (k + 1))
  usable_more best own None b o i = λ t h. at t h (same_or_before h.node k h.small)
    where
      at : (t : ℕ) (h : IsUsable lines places how word (k + 1) t) → (h.node ≡ k) ⊎ (h.node < k) → ⊥
      at t h (inl e) = o.none t (i.none refl).1 (ap (place_at places) (sym e) ∙ h.at) h.can
      at t h (inr lt) =
          let none : (t : ℕ) → IsUsable lines places how word k t → ⊥ =
          subst (λ v. MatchOption v ((t : ℕ) → IsUsable lines places how word k t → ⊥) (IsUsable lines places how word k)) (i.none refl).0 b in
          none t (record { node = h.node; small = lt; at = h.at; can = h.can })
  usable_more best own (Some t) b o i = elim (i.some t refl) [
    | inl e ↦
        let h : IsUsable lines places how word k t = subst (λ v. MatchOption v ((t : ℕ) → IsUsable lines places how word k t → ⊥) (IsUsable lines places how word k)) e b in
        record { node = h.node; small = (let lt = h.small in omega (arith, lt)); at = h.at; can = h.can }
    | inr e ↦ let h = o.some t e in record { node = k; small = omega arith; at = h.0; can = h.1 }
  ]
