-- What an audit tells of a group that has no set.
use Rattle.std.proofs.Common.{◌≡◌, ℕ, ◌≤◌, ◌↔◌, nat_lt, IsTrue, List, [], length, subst, arith}
use Rattle.std.proofs.lemmas.{List.get_or_past, Bool.Decides.nat_tests}
use Rattle.mm_seg.specs.Segments.{Covered}
use Rattle.mm_audit.specs.Audits.{set_of}

none : (w : ℕ) → Covered [] w → ⊥
none w c = let lt = c.at.0 in omega arith

pub empty_past : (sets : List (List (ℕ × ℕ))) (g : ℕ) → length sets ≤ g → set_of sets g ≡ []
empty_past sets g le = get_or_past sets g [] le

pub past : (sets : List (List (ℕ × ℕ))) (g w : ℕ) → length sets ≤ g → Covered (set_of sets g) w → ⊥
past sets g w le c = none w (subst (λ v. Covered v w) (empty_past sets g le) c)

not_below : (g : ℕ) → 64 ≤ g → IsTrue (nat_lt g 64) → ⊥
not_below g le h = grind (arith, nat_tests)

-- the answer of a group that has no set
pub no_group : (g : ℕ) (P : Type 0) → 64 ≤ g → (P → ⊥) → IsTrue (nat_lt g 64) ↔ P
no_group g P le out = (λ h. absurd (not_below g le h), λ p. absurd (out p))
