-- The externals of uses: in order, each the name of a use, and few where no use is one too many.
use Rattle.std.proofs.Common.{◌≡◌, ℕ, ◌≤◌, Bool, true, false, not, ◌&&◌, ◌||◌, nat_le, if◌then◌else◌, List, [], ◌∷◌}
use Rattle.std.proofs.Common.{length, refl, sym, ap, ◌∙◌, subst, inl, inr, arith, bytes_eq}
use Rattle.std.{proofs.lemmas.Bool.{cases_lt, or_right, or_left, Decides.nat_tests}, specs.List.AllByRecursion}
use Rattle.mm_draft.{proofs.Allowed.good, specs.{Drafts.Draft, Faults.fault_if}}
use Rattle.mm_line.specs.declared.fault.Fault.{Fault, TheVariants.Limit}
use Rattle.mm_object.{specs.Objects.{is_among, external_limit}, proofs.Members.In}
use Rattle.mm_asm.specs.Names.{Use, is_external, name_of, insert_name, with_use, externals_with}
use Rattle.mm_asm.specs.Faults.{in_source, is_too_many, limit_failures}
use Rattle.mm_asm.proofs.Lists.{none_both, none_map}
use Rattle.mm_asm.proofs.Order.{Rising, insert_rising, insert_each, insert_among, insert_length, insert_again}
use Rattle.mm_asm.proofs.Order.{same_itself}

module _ (d : Draft) where
  pub externals_rise : (uses : List Use) (names : List (List ℕ)) → Rising names → Rising (externals_with d names uses)
  externals_rise [] names h = h
  externals_rise (u ∷ uses) names h = externals_rise uses (with_use d u names) (by (is_external d u))
    where
      by : (b : Bool) → Rising (if b then insert_name (name_of u) names else names)
      by true = insert_rising (name_of u) names h
      by false = h

  -- what is true of the names of all uses that the draft does not have is true of the externals
  pub externals_each : (P : List ℕ → Type 0) (uses : List Use) (names : List (List ℕ)) → AllByRecursion P names
      → ((u : Use) → In u uses → is_external d u ≡ true → P (name_of u)) → AllByRecursion P
      (externals_with d names uses)
  externals_each P [] names h k = h
  externals_each P (u ∷ uses) names h k = externals_each P uses (with_use d u names) (by (is_external d u) refl) (λ v m e. k v (inr m) e)
    where
      by : (b : Bool) → is_external d u ≡ b → AllByRecursion P (if b then insert_name (name_of u) names else names)
      by true e = insert_each P (name_of u) names (k u (inl refl) e) h
      by false e = h

  still_among : (name : List ℕ) (uses : List Use) (names : List (List ℕ)) → is_among name names ≡ true → is_among name (externals_with d names uses) ≡ true
  still_among name [] names h = h
  still_among name (u ∷ uses) names h = still_among name uses (with_use d u names) (by (is_external d u))
    where
      by : (b : Bool) → is_among name (if b then insert_name (name_of u) names else names) ≡ true
      by true = insert_among name (name_of u) names ∙ or_right (bytes_eq name (name_of u)) (is_among name names) h
      by false = h

  pub used_among : (u : Use) (uses : List Use) (names : List (List ℕ)) → In u uses → is_external d u ≡ true → is_among (name_of u) (externals_with d names uses) ≡ true
  used_among u [] names m e = absurd m
  used_among u (v ∷ uses) names (inl same) e = still_among (name_of u) uses (with_use d v names) (by (is_external d v) (ap (is_external d) (sym same) ∙ e))
    where
      by : (b : Bool) → b ≡ true → is_among (name_of u) (if b then insert_name (name_of v) names else names) ≡ true
      by true f =
          insert_among (name_of u) (name_of v) names
          ∙ or_left (bytes_eq (name_of u) (name_of v)) (is_among (name_of u) names) (subst (λ (w : Use). bytes_eq (name_of u) (name_of w) ≡ true) same (same_itself (name_of u)))
      by false f = absurd cc
  used_among u (v ∷ uses) names (inr m) e = used_among u uses (with_use d v names) m e

  pub externals_few : (uses : List Use) (names : List (List ℕ)) → Rising names → length names ≤ external_limit
      → limit_failures d names uses ≡ [] → length (externals_with d names uses) ≤ external_limit
  externals_few [] names rising few none = few
  externals_few (u ∷ uses) names rising few none = externals_few uses (with_use d u names) (grown (is_external d u)) (by (is_external d u) test) rest
    where
      bad : Bool
      bad = is_external d u && is_too_many names (name_of u)

      first : in_source u.source (fault_if bad Limit u.target.mark.left) ≡ []
      first = (none_both (in_source u.source (fault_if bad Limit u.target.mark.left)) (limit_failures d (with_use d u names) uses) none).0

      rest : limit_failures d (with_use d u names) uses ≡ []
      rest = (none_both (in_source u.source (fault_if bad Limit u.target.mark.left)) (limit_failures d (with_use d u names) uses) none).1

      test : (is_external d u && is_too_many names (name_of u)) ≡ false
      test = good bad Limit u.target.mark.left (none_map _ (fault_if bad Limit u.target.mark.left) first)

      grown : (b : Bool) → Rising (if b then insert_name (name_of u) names else names)
      grown true = insert_rising (name_of u) names rising
      grown false = rising

      there : (b c : Bool) → b ≡ true → (b && not c) ≡ false → c ≡ true
      there b true e f = refl
      there true false e f = absurd cc
      there false false e f = absurd cc

      by : (b : Bool) → (b && is_too_many names (name_of u)) ≡ false → length (if b then insert_name (name_of u) names else names) ≤ external_limit
      by false e = few
      by true e =
          elim (cases_lt (length names) external_limit) [
            | inl less ↦ omega (arith, insert_length (name_of u) names, less)
            | inr full ↦
                let again = insert_again (name_of u) names rising (there (nat_le external_limit (length names)) (is_among (name_of u) names) (grind (arith, nat_tests, full)) e) in
                omega (arith, ap length again, few)
          ]
