-- The first group that is privileged is the least.
use Rattle.std.proofs.Common.{◌≡◌, ℕ, ◌+◌, ◌<◌, ◌↔◌, inl, inr, Bool, true, false, IsTrue, below_more}
use Rattle.std.proofs.lemmas.Bool.{both_ways, cases_lt}
use Rattle.mm_model.specs.{Image.Image, Reach.{Privileged, Entries.All}}
use Rattle.mm_audit.{specs.Surveys.{SurveyValue, Surveys}, proofs.Granted.granted-small}
use Rattle.mm_sweep.specs.Refusals.{FirstPrivileged, NonePrivileged}

-- none of the first groups is privileged
abbrev pub NoGroupBefore : SurveyValue → ℕ → Type 0
NoGroupBefore survey n = (i : Image) → Surveys i All survey → (k : ℕ) → k < n → ¬ (Privileged i All k)

-- the test of a group
abbrev pub Tests : SurveyValue → ℕ → Bool → Type 0
Tests survey g result = (i : Image) → Surveys i All survey → IsTrue result ↔ Privileged i All g

module _ (survey : SurveyValue) where
  pub no_group_more : (n : ℕ) (result : Bool) → NoGroupBefore survey n → Tests survey n result → result ≡ false → NoGroupBefore survey (n + 1)
  no_group_more n result before tests f i surveys =
      below_more (λ k. ¬ (Privileged i All k)) n (before i surveys) (λ privileged. both_ways result f ((tests i surveys).1 privileged))

  pub none_privileged : NoGroupBefore survey 64 → (i : Image) → Surveys i All survey → NonePrivileged i
  none_privileged before i surveys g privileged = before i surveys g (granted-small i All surveys.image g privileged.by privileged.granted) privileged

  pub first_privileged : (g : ℕ) (result : Bool) → NoGroupBefore survey g → Tests survey g result → result ≡ true → (i : Image) → Surveys i All survey → FirstPrivileged i g
  first_privileged g result before tests is i surveys = record {
    privileged = (tests i surveys).0 is;
    least = λ h privileged. elim (cases_lt h g) [ inl earlier ↦ absurd (before i surveys h earlier privileged) | inr later ↦ later ];
  }
