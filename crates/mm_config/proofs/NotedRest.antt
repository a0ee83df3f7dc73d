-- Outputs and memory after a turn of which all was noted.
use Rattle.std.proofs.Common.{◌≡◌, ◌⊎◌, inl, inr, ℕ, ◌<◌, ◌≤◌, ◌^◌, List, [], ◌∷◌, ◌++◌, length, slice_index_or, sym, ◌∙◌, subst, arith}
use Rattle.std.proofs.lemmas.{Bool.cases_lt, Option.slice_get-get_or}
use Rattle.std.specs.List.{AllByRecursion}
use Rattle.mm_model.specs.{Memory.{Memory}, State.{Core, output_of}}
use Rattle.mm_config.specs.declared.{store.Store.Store, names.Names.Names}
use Rattle.mm_config.specs.{Naming.{AreLeaves, AreMemoryNames, IsOrNone, IsOutputName, leaf_at}, Noting.IsKeptStill, Turning.NotesLeaves}
use Rattle.mm_config.proofs.{Leaves.{settled, IsSettled}, PageTrees.past, Staying.output_stays}

-- the last byte of an output of bytes
pub last_byte : (all bytes : List ℕ) (byte : ℕ) → AllByRecursion (λ b. b < 256) all → all ≡ bytes ++ byte ∷ [] → byte < 256
last_byte all bytes byte h e = by bytes (subst (AllByRecursion (λ b. b < 256)) e h)
  where
    by : (bytes : List ℕ) → AllByRecursion (λ b. b < 256) (bytes ++ byte ∷ []) → byte < 256
    by [] h = h.0
    by (x ∷ bytes) h = by bytes h.1

-- the name of an output of a group
pub output_named : (k : Store) (core : Core) (tree : ℕ) → length core.outputs ≡ 64 → AreLeaves (IsOutputName k) core.outputs k.pairs 6 tree → (g : ℕ) → g < 64
    → IsOutputName k (output_of core g) (leaf_at k.pairs 6 tree g)
unfolding output_of
output_named k core tree groups of g lt =
    subst (λ o. IsOrNone (IsOutputName k) o (leaf_at k.pairs 6 tree g)) (slice_get-get_or core.outputs g [] (omega (arith, groups, lt))) (of.each g)

module _ (core now : Core) (old new : Store) (still : IsKeptStill old new) (was tree group : ℕ) (groups : length core.outputs ≡ 64) (same : length now.outputs ≡ 64) where
  -- names of outputs are those of the outputs that there are now
  pub outputs_settled : AreLeaves (IsOutputName old) core.outputs old.pairs 6 was
      → NotesLeaves (λ g name. IsOutputName new (output_of now g) name) (λ g. g ≡ group) old.pairs 6 was new.pairs tree
      → ((g : ℕ) → g < 64 → (g ≡ group → ⊥) → output_of now g ≡ output_of core g)
      → AreLeaves (IsOutputName new) now.outputs new.pairs 6 tree
  unfolding output_of
  outputs_settled of notes left =
      settled (IsOutputName old) (IsOutputName new) core.outputs now.outputs [] old.pairs new.pairs 6 was tree of (same ∙ sym groups) notes.inner (λ k. by k (cases_lt k 64) (notes.each k))
    where
      by : (k : ℕ) → (k < 64) ⊎ (64 ≤ k)
          → IsOutputName new (slice_index_or now.outputs k []) (leaf_at new.pairs 6 tree k) ⊎ ((k ≡ group → ⊥) × (leaf_at new.pairs 6 tree k ≡ leaf_at old.pairs 6 was k))
          → IsSettled (IsOutputName old) (IsOutputName new) core.outputs now.outputs [] old.pairs new.pairs 6 was tree of (same ∙ sym groups) notes.inner k
      by k (inl lt) (inl h) = inl (omega (arith, groups, lt), h)
      by k (inl lt) (inr h) = inr (
        h.1,
        λ _ name is.
            subst (λ bytes. IsOutputName new bytes name) (sym (left k lt h.0)) (output_stays old new still (slice_index_or core.outputs k []) name is),
      )
      by k (inr high) h =
          let power : 2 ^ 6 ≤ k = omega (arith, high) in
          inr (past new.pairs 6 tree k power ∙ sym (past old.pairs 6 was k power), λ lt. absurd (omega (arith, groups, high, lt)))

-- names of a memory are those of its tree of pages
pub memory_alike : (k : Store) (m : Memory) (n now : Names) → now.height ≡ n.height → now.pages ≡ n.pages → AreMemoryNames k m n → AreMemoryNames k m now
memory_alike k m n now height pages h =
    let alike : AreMemoryNames k m (record now { height = n.height; pages = n.pages }) = record {
      tree = record { inner = h.tree.inner; few = h.tree.few; low = h.tree.low; inside = h.tree.inside };
      pages = h.pages;
    } in
    subst (AreMemoryNames k m) (λ j. record now { height = sym height j; pages = sym pages j }) alike
