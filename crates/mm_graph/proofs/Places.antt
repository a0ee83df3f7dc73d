-- Keys with their places, in any order, and where they stand among other keys.
use Rattle.std.proofs.lemmas.List.{get_or_default}
use Rattle.std.proofs.lemmas.List.{Elements.Contains-get_or, Sorted.{Contains-permutation, IsPermutation-sym}}
use Rattle.std.proofs.Common.{◌≡◌, ℕ, ◌+◌, ◌<◌, ◌≤◌, ◌↔◌, inl, inr, List, [], ◌∷◌, length, map, get_or, slice_index}
use Rattle.std.{proofs.Common.{slice_set, sym, ap, ◌∙◌, subst, arith}, specs.List.{Contains, Sorted.IsPermutation}}
use Rattle.mm_flow.proofs.Masks.{below_cases, set_cases, length_set, Set.{here, there}}
use Rattle.mm_graph.specs.declared.{canonical_ptr.CanonicalPtr.CanonicalPtr, placed.Placed.Placed}
use Rattle.mm_graph.specs.{Key.{key_at, no_key}, Placed.{placed_at, IsPlacing, IsPlaced, HasTargets}}
use Rattle.mm_graph.proofs.KeyLists.{in_map, contains_here, contains_rest, contains_cases}

abbrev pub nowhere : Placed
nowhere = record { key = no_key; index = 0 }

placed_in : (keys : List CanonicalPtr) (placed : List Placed) → IsPlacing keys placed → IsPlaced keys placed
placed_in keys placed h = record {
  only = λ p m. from p m.0 m.1 m.2;
  each = λ k lt. let lt2 : k < length placed = (let e = h.len in omega arith) in subst (Contains placed) (h.at k lt) (Contains-get_or placed k nowhere lt2);
}
  where
    from : (p : Placed) (k : ℕ) → k < length placed → get_or placed k p ≡ p → (p.index < length keys) × (p.key ≡ key_at keys p.index)
    from p k lt e =
        let small : k < length keys = (let q = h.len in omega arith) in
        let is : p ≡ record { key = key_at keys k; index = k } = sym e ∙ get_or_default placed k p nowhere lt ∙ h.at k small in
        let there : p.index ≡ k = ap (λ v. v.index) is in
        (omega arith, ap (λ v. v.key) is ∙ ap (key_at keys) (sym there))

pub placed_all : (keys : List CanonicalPtr) (placed sorted : List Placed) → IsPlacing keys placed → IsPermutation placed sorted → IsPlaced keys sorted
placed_all keys placed sorted h moved =
    let all = placed_in keys placed h in
    record {
      only = λ p m. all.only p (Contains-permutation sorted placed p (IsPermutation-sym placed sorted moved) m);
      each = λ k lt. Contains-permutation placed sorted _ moved (all.each k lt);
    }

-- one of which the value is taken
record From (placed : List Placed) (x : CanonicalPtr) : Type 0 where
  pub from : Placed
  pub is_in : Contains placed from
  pub is : from.key ≡ x

from_map : (placed : List Placed) (x : CanonicalPtr) → Contains (map (λ (p : Placed). p.key) placed) x → From placed x
from_map [] x m = absurd (let lt = m.1 in omega arith)
from_map (p ∷ ps) x m = elim (contains_cases p.key x (map (λ (q : Placed). q.key) ps) m) [
  | inl same ↦ record { from = p; is_in = contains_here p ps; is = same }
  | inr old ↦ let r = from_map ps x old in record { from = r.from; is_in = contains_rest p r.from ps r.is_in; is = r.is }
]

-- the keys that were placed are those of the list
pub same_keys : (keys : List CanonicalPtr) (placed : List Placed) (x : CanonicalPtr) → IsPlaced keys placed → Contains (map (λ (p : Placed). p.key) placed) x ↔ Contains keys x
same_keys keys placed x h = (
  λ m.
      let f = from_map placed x m in
      let two = h.only f.from f.is_in in
      subst (Contains keys) (sym two.1 ∙ f.is) (Contains-get_or keys f.from.index no_key two.0),
  λ m. at m.0 m.1 m.2,
)
  where
    at : (k : ℕ) → k < length keys → get_or keys k x ≡ x → Contains (map (λ (p : Placed). p.key) placed) x
    at k lt e = subst (Contains (map (λ (p : Placed). p.key) placed)) (get_or_default keys k no_key x lt ∙ e) (in_map (λ (p : Placed). p.key) placed _ (h.each k lt))

-- the targets of the first ones that were placed
abbrev pub Filled : List CanonicalPtr → List Placed → List ℕ → ℕ → Type 0
Filled keys placed targets k = (all : List CanonicalPtr) → IsPlaced all placed → (i : ℕ) → i < k → (placed_at placed i).index < length targets
    → (slice_index targets (placed_at placed i).index < length keys) × (key_at keys (slice_index targets (placed_at placed i).index) ≡ key_at all (placed_at placed i).index)

module _ (keys : List CanonicalPtr) (placed : List Placed) (targets : List ℕ) (k : ℕ) (h : Filled keys placed targets k) where
  pub filled_end : k ≡ length placed → HasTargets keys placed targets
  filled_end e all is j lt small = at (is.each j lt).0 (is.each j lt).1 (is.each j lt).2
    where
      at : (i : ℕ) → i < length placed → get_or placed i (record { key = key_at all j; index = j }) ≡
          record { key = key_at all j; index = j } → (slice_index targets j < length keys)
          × (key_at keys (slice_index targets j) ≡ key_at all j)
      at i less found =
          let there : (placed_at placed i).index ≡ j = ap (λ v. v.index) (get_or_default placed i nowhere _ less ∙ found) in
          subst (λ v. (slice_index targets v < length keys) × (key_at keys (slice_index targets v) ≡ key_at all v)) there (h all is i (omega arith) (omega arith))

  module _ (at : ℕ) (small : k < length placed) (fits : at < length keys) (is : key_at keys at ≡ (placed_at placed k).key) where
    own : (all : List CanonicalPtr) → IsPlaced all placed → key_at keys at ≡ key_at all (placed_at placed k).index
    own all p = is ∙ (p.only (placed_at placed k) (Contains-get_or placed k nowhere small)).1

    pub filled_write : (placed_at placed k).index < length targets → Filled keys placed (slice_set targets (placed_at placed k).index at) (k + 1)
    filled_write lt all p i less inside = elim (set_cases targets (placed_at placed k).index at (placed_at placed i).index (let e = length_set targets (placed_at placed k).index at in omega arith)) [
      | here same f ↦ rw f (fits, own all p ∙ ap (key_at all) (sym same))
      | there ne f ↦ rw f (h all p i (earlier i less ne) (let e = length_set targets (placed_at placed k).index at in omega arith))
    ]
      where
        earlier : (i : ℕ) → i < k + 1 → ((placed_at placed i).index ≡ (placed_at placed k).index → ⊥) → i < k
        earlier i less ne = elim (below_cases i k less) [ inl lt2 ↦ lt2 | inr e ↦ absurd (ne (ap (λ v. (placed_at placed v).index) e)) ]

  pub filled_skip : length targets ≤ (placed_at placed k).index → Filled keys placed targets (k + 1)
  filled_skip out all p i less inside = elim (below_cases i k less) [
    | inl lt2 ↦ h all p i lt2 inside
    | inr e ↦ absurd (let there : (placed_at placed i).index ≡ (placed_at placed k).index = ap (λ v. (placed_at placed v).index) e in omega arith)
  ]

-- the same of a list of these keys in another order
module _ (keys new : List CanonicalPtr) (placed : List Placed) (is : IsPlaced keys placed) (same : (x : CanonicalPtr) → Contains new x ↔ Contains (map (λ (p : Placed). p.key) placed) x) where
  pub same_through : (x : CanonicalPtr) → Contains new x ↔ Contains keys x
  same_through x = (λ m. (same_keys keys placed x is).0 ((same x).0 m), λ m. (same x).1 ((same_keys keys placed x is).1 m))

  pub placed_there : (p : Placed) → Contains placed p → Contains new p.key
  placed_there p m = (same p.key).1 (in_map (λ (q : Placed). q.key) placed p m)
