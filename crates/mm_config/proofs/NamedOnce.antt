-- Names tell what they are of, and what has one name has no other.
use Rattle.std.proofs.Common.{◌≡◌, inl, inr, ℕ, zero, suc, ◌+◌, ◌-◌, ◌^◌, ◌<◌, ◌≤◌, List, [], ◌∷◌, map, length, slice_get, slice_index_or, reverse, Option, Some, None}
use Rattle.std.proofs.Common.{refl, sym, ap, ◌∙◌, subst, arith}
use Rattle.std.proofs.{lemmas.{Bool.cases_order, List.reverse-reverse}, Math.Pow.pow_mono}
use Rattle.std.specs.List.{AllByRecursion, AllZip}
use Rattle.mm_word.specs.declared.word.Cell.{Cell}
use Rattle.mm_model.specs.Memory.{zero_cell}
use Rattle.mm_pairs.specs.{Named.{named, HaveOneName, IsNameOf}, Trees.{pair_of, leaves, IsTree}}
use Rattle.mm_pairs.proofs.Names.{trees_apart, length_leaves}
use Rattle.mm_config.specs.declared.{store.Store.Store, names.Names.Names}
use Rattle.mm_config.specs.Naming.{IsChain, IsOutputName, IsPageName, IsOrNone, leaf_at, AreLeaves, IsLow, IsRest}
use Rattle.mm_config.proofs.PageTrees.{past, in_right, none_tree, none_at}

-- 1. Elements.

pub all_got : {A : Type 0} (P : A → Type 0) (xs : List A) → AllByRecursion P xs → (at : ℕ) (x : A) → slice_get xs at ≡ Some x → P x
all_got P [] h at x e = cc
all_got P (y ∷ xs) h zero x e = let same : y ≡ x = cc in subst P same h.0
all_got P (y ∷ xs) h (suc at) x e = all_got P xs h.1 at x e

pub maps_same : {A C : Type 0} (f : A → C) (xs ys : List A) → length xs ≡ length ys
    → ((at : ℕ) (x y : A) → slice_get xs at ≡ Some x → slice_get ys at ≡ Some y → f x ≡ f y) → map f xs ≡ map f ys
maps_same f [] [] e h = refl
maps_same f [] (y ∷ ys) e h = absurd (omega (arith, e))
maps_same f (x ∷ xs) [] e h = absurd (omega (arith, e))
maps_same f (x ∷ xs) (y ∷ ys) e h =
    let first : f x ≡ f y = h zero x y refl refl in
    let rest = maps_same f xs ys (omega (arith, e)) (λ at a b p q. h (suc at) a b p q) in
    λ j. first j ∷ rest j

none_at_length : {A : Type 0} (xs : List A) (at : ℕ) → slice_get xs at ≡ None → length xs ≤ at
none_at_length [] at e = omega arith
none_at_length (x ∷ xs) zero e = cc
none_at_length (x ∷ xs) (suc at) e = let later = none_at_length xs at e in omega (arith, later)

pub some_at_length : {A : Type 0} (xs : List A) (at : ℕ) (x : A) → slice_get xs at ≡ Some x → at < length xs
some_at_length [] at x e = cc
some_at_length (y ∷ xs) zero x e = omega arith
some_at_length (y ∷ xs) (suc at) x e = let later = some_at_length xs at x e in omega (arith, later)

pub same_numbers : (xs ys : List ℕ) → length xs ≡ length ys → ((at : ℕ) → slice_index_or xs at 0 ≡ slice_index_or ys at 0) → xs ≡ ys
same_numbers [] [] e h = refl
same_numbers [] (y ∷ ys) e h = absurd (omega (arith, e))
same_numbers (x ∷ xs) [] e h = absurd (omega (arith, e))
same_numbers (x ∷ xs) (y ∷ ys) e h =
    let first : x ≡ y = h zero in
    let rest = same_numbers xs ys (omega (arith, e)) (λ at. h (suc at)) in
    λ j. first j ∷ rest j

-- 2. Names.

pub one_name : {A : Type 0} (none : A) (kept : List A) → HaveOneName none kept → (a b : ℕ) (x y : A) → IsNameOf none kept a x → IsNameOf none kept b y → x ≡ y → a ≡ b
one_name none kept once a b x y h k e = once a b h.within k.within (h.is ∙ e ∙ sym k.is)

pub one_thing : {A : Type 0} (none : A) (kept : List A) (name : ℕ) (x y : A) → IsNameOf none kept name x → IsNameOf none kept name y → x ≡ y
one_thing none kept name x y h k = sym h.is ∙ k.is

-- no pair but that of 0 and 0 has the name 0
pub not_none : (pairs : List (ℕ × ℕ)) (name : ℕ) (pair : ℕ × ℕ) → name ≡ 0 → IsNameOf (0, 0) pairs name pair → pair ≡ (0, 0)
not_none pairs name pair e h = sym h.is ∙ ap (named (0, 0) pairs) e

-- 3. Trees.

pub trees_same : (pairs : List (ℕ × ℕ)) → HaveOneName (0, 0) pairs → (depth t u : ℕ) → IsTree pairs depth t → IsTree pairs depth u
    → ((at : ℕ) → leaf_at pairs depth t at ≡ leaf_at pairs depth u at) → t ≡ u
trees_same pairs once depth t u ht hu same =
    trees_apart pairs once depth t u ht hu (same_numbers (leaves pairs depth t) (leaves pairs depth u) (length_leaves pairs depth t ∙ sym (length_leaves pairs depth u)) same)

module _ {A : Type 0} (Is : A → ℕ → Type 0) (pairs : List (ℕ × ℕ)) (depth : ℕ) where
  pub leaf_is : (tree : ℕ) (xs : List A) → AreLeaves Is xs pairs depth tree → (at : ℕ) (x : A) → slice_get xs at ≡ Some x → Is x (leaf_at pairs depth tree at)
  leaf_is tree xs h at x e = subst (λ (o : Option A). IsOrNone Is o (leaf_at pairs depth tree at)) e (h.each at)

  -- trees of the same, if each has one name
  pub leaves_one : HaveOneName (0, 0) pairs → (t u : ℕ) (xs ys : List A) → length xs ≡ length ys → AreLeaves Is xs pairs depth t → AreLeaves Is ys pairs depth u
      → ((at : ℕ) (x y : A) → slice_get xs at ≡ Some x → slice_get ys at ≡ Some y → (a b : ℕ) → Is x a → Is y b → a ≡ b) → t ≡ u
  leaves_one once t u xs ys long h k one =
      trees_same pairs once depth t u h.inner k.inner (λ at. by at (slice_get xs at) (slice_get ys at) refl refl (h.each at) (k.each at))
    where
      by : (at : ℕ) (o p : Option A) → slice_get xs at ≡ o → slice_get ys at ≡ p → IsOrNone Is o (leaf_at pairs depth t at) → IsOrNone Is p (leaf_at pairs depth u at)
          → leaf_at pairs depth t at ≡ leaf_at pairs depth u at
      by at None None a b x y = x ∙ sym y
      by at None (Some q) a b x y = let high = none_at_length xs at a in let low = some_at_length ys at q b in absurd (omega (arith, high, low, long))
      by at (Some q) None a b x y = let high = none_at_length ys at b in let low = some_at_length xs at q a in absurd (omega (arith, high, low, long))
      by at (Some q) (Some r) a b x y = one at q r a b (leaf_at pairs depth t at) (leaf_at pairs depth u at) x y

-- 4. Outputs.

pub chains_tell : (pairs : List (ℕ × ℕ)) (xs ys : List ℕ) (a b : ℕ) → a ≡ b → IsChain pairs xs a → IsChain pairs ys b → xs ≡ ys
chains_tell pairs [] [] a b e h k = refl
chains_tell pairs [] (y ∷ ys) a b e h k = let pair = not_none pairs b (k.0, y + 1) (sym e ∙ h) k.1 in let last : y + 1 ≡ 0 = ap (λ p. p.1) pair in absurd (omega (arith, last))
chains_tell pairs (x ∷ xs) [] a b e h k = let pair = not_none pairs a (h.0, x + 1) (e ∙ k) h.1 in let last : x + 1 ≡ 0 = ap (λ p. p.1) pair in absurd (omega (arith, last))
chains_tell pairs (x ∷ xs) (y ∷ ys) a b e h k =
    let pair = one_thing (0, 0) pairs b (h.0, x + 1) (k.0, y + 1) (subst (λ n. IsNameOf (0, 0) pairs n (h.0, x + 1)) e h.1) k.1 in
    let last : x + 1 ≡ y + 1 = ap (λ p. p.1) pair in
    let first : x ≡ y = omega (arith, last) in
    let rest = chains_tell pairs xs ys h.0 k.0 (ap (λ p. p.0) pair) h.3 k.3 in
    λ j. first j ∷ rest j

pub one_chain : (pairs : List (ℕ × ℕ)) → HaveOneName (0, 0) pairs → (xs : List ℕ) (a b : ℕ) → IsChain pairs xs a → IsChain pairs xs b → a ≡ b
one_chain pairs once [] a b h k = h ∙ sym k
one_chain pairs once (x ∷ xs) a b h k =
    let shorter = one_chain pairs once xs h.0 k.0 h.3 k.3 in
    one_name (0, 0) pairs once a b (h.0, x + 1) (k.0, x + 1) h.1 k.1 (ap (λ n. (n, x + 1)) shorter)

pub outputs_tell : (k : Store) (xs ys : List ℕ) (name : ℕ) → IsOutputName k xs name → IsOutputName k ys name → xs ≡ ys
outputs_tell k xs ys name h g = sym (reverse-reverse xs) ∙ ap reverse (chains_tell k.outputs (reverse xs) (reverse ys) name name refl h g) ∙ reverse-reverse ys

-- 5. Pages.

pub cells_tell : (kept xs ys : List Cell) (names : List ℕ) → AllZip (λ cell leaf. IsNameOf zero_cell kept leaf cell) xs names → AllZip (λ cell leaf. IsNameOf zero_cell kept leaf cell) ys names → xs ≡ ys
cells_tell kept [] [] names h k = refl
cells_tell kept [] (y ∷ ys) [] h k = absurd k
cells_tell kept [] (y ∷ ys) (n ∷ names) h k = absurd h
cells_tell kept (x ∷ xs) ys [] h k = absurd h
cells_tell kept (x ∷ xs) [] (n ∷ names) h k = absurd k
cells_tell kept (x ∷ xs) (y ∷ ys) (n ∷ names) h k =
    let first = one_thing zero_cell kept n x y h.0 k.0 in
    let rest = cells_tell kept xs ys names h.1 k.1 in
    λ j. first j ∷ rest j

cells_one : (kept xs : List Cell) → HaveOneName zero_cell kept → (ns ms : List ℕ) → AllZip (λ cell leaf. IsNameOf zero_cell kept leaf cell) xs ns → AllZip (λ cell leaf. IsNameOf zero_cell kept leaf cell) xs ms → ns ≡ ms
cells_one kept [] once [] [] h k = refl
cells_one kept [] once [] (m ∷ ms) h k = absurd k
cells_one kept [] once (n ∷ ns) ms h k = absurd h
cells_one kept (x ∷ xs) once [] ms h k = absurd h
cells_one kept (x ∷ xs) once (n ∷ ns) [] h k = absurd k
cells_one kept (x ∷ xs) once (n ∷ ns) (m ∷ ms) h k =
    let first = one_name zero_cell kept once n m x x h.0 k.0 refl in
    let rest = cells_one kept xs once ns ms h.1 k.1 in
    λ j. first j ∷ rest j

pub pages_tell : (k : Store) (name : ℕ) (o p : Option (List Cell)) → IsOrNone (IsPageName k) o name → IsOrNone (IsPageName k) p name → o ≡ p
pages_tell k name None None h g = refl
pages_tell k name None (Some d) h g = let pair = not_none k.pairs name (1, g.tree) h g.is in let one : 1 ≡ 0 = ap (λ p. p.0) pair in absurd (omega (arith, one))
pages_tell k name (Some c) None h g = let pair = not_none k.pairs name (1, h.tree) g h.is in let one : 1 ≡ 0 = ap (λ p. p.0) pair in absurd (omega (arith, one))
pages_tell k name (Some c) (Some d) h g =
    let tree : h.tree ≡ g.tree = ap (λ p. p.1) (one_thing (0, 0) k.pairs name (1, h.tree) (1, g.tree) h.is g.is) in
    ap Some (cells_tell k.cells c d (leaves k.pairs 9 g.tree) (subst (λ t. AllZip (λ cell leaf. IsNameOf zero_cell k.cells leaf cell) c (leaves k.pairs 9 t)) tree h.named.names) g.named.names)

pub one_page : (k : Store) → HaveOneName (0, 0) k.pairs → HaveOneName zero_cell k.cells → (o : Option (List Cell)) (a b : ℕ) → IsOrNone (IsPageName k) o a → IsOrNone (IsPageName k) o b → a ≡ b
one_page k once cells None a b h g = h ∙ sym g
one_page k once cells (Some c) a b h g =
    let same = cells_one k.cells c cells (leaves k.pairs 9 h.tree) (leaves k.pairs 9 g.tree) h.named.names g.named.names in
    let tree = trees_apart k.pairs once 9 h.tree g.tree h.named.inner g.named.inner same in
    one_name (0, 0) k.pairs once a b (1, h.tree) (1, g.tree) h.is g.is (ap (λ t. (1, t)) tree)

-- 6. Trees of pages, which are no deeper than they have to be.

module _ (pairs : List (ℕ × ℕ)) (once : HaveOneName (0, 0) pairs) where
  not_empty : (depth tree : ℕ) → IsTree pairs (suc depth) tree → IsLow pairs (suc depth) tree → ((at : ℕ) → 2 ^ depth ≤ at → leaf_at pairs (suc depth) tree at ≡ 0) → ⊥
  not_empty depth tree inner low none =
      low (trees_same pairs once depth (pair_of pairs tree).1 0 inner.2 (none_tree pairs depth) (λ at.
      let far : 2 ^ depth ≤ at + 2 ^ depth = omega arith in
      let back : at + 2 ^ depth - 2 ^ depth ≡ at = omega arith in
      ap (leaf_at pairs depth (pair_of pairs tree).1) (sym back) ∙ in_right pairs depth tree (at + 2 ^ depth) far ∙ none (at + 2 ^ depth) far ∙ sym (none_at pairs depth at)))

  not_deeper : (d e t u : ℕ) → d < e → IsTree pairs e u → IsLow pairs e u → ((at : ℕ) → leaf_at pairs d t at ≡ leaf_at pairs e u at) → ⊥
  not_deeper d zero t u lt inner low same = absurd (omega (arith, lt))
  not_deeper d (suc e) t u lt inner low same =
      not_empty e u inner low (λ at high.
      let wide = pow_mono {i = d} {j = e} (omega (arith, lt)) in
      sym (same at) ∙ past pairs d t at (omega (arith, high, wide)))

  pub heights_same : (d e t u : ℕ) → IsTree pairs d t → IsTree pairs e u → IsLow pairs d t → IsLow pairs e u
      → ((at : ℕ) → leaf_at pairs d t at ≡ leaf_at pairs e u at) → d ≡ e
  heights_same d e t u ht hu lt lu same = elim (cases_order d e) [
    | inl equal ↦ equal
    | inr (inl less) ↦ absurd (not_deeper d e t u less hu lu same)
    | inr (inr more) ↦ absurd (not_deeper e d u t more ht lt (λ at. sym (same at)))
  ]

-- 7. The name of the rest.

pub rests_tell : (pairs : List (ℕ × ℕ)) (n m : Names) (a b : ℕ) → a ≡ b → IsRest pairs n a → IsRest pairs m b
    → (n.queues ≡ m.queues) × (n.outputs ≡ m.outputs) × (n.height ≡ m.height) × (n.pages ≡ m.pages)
rests_tell pairs n m a b e h k =
    let all = one_thing (0, 0) pairs b (h.others, n.pages) (k.others, m.pages) (subst (λ r. IsNameOf (0, 0) pairs r (h.others, n.pages)) e h.all) k.all in
    let depth = one_thing (0, 0) pairs k.others (h.two, n.height) (k.two, m.height) (subst (λ r. IsNameOf (0, 0) pairs r (h.two, n.height)) (ap (λ p. p.0) all) h.depth) k.depth in
    let events = one_thing (0, 0) pairs k.two (n.queues, n.outputs) (m.queues, m.outputs) (subst (λ r. IsNameOf (0, 0) pairs r (n.queues, n.outputs)) (ap (λ p. p.0) depth) h.events) k.events in
    (ap (λ p. p.0) events, ap (λ p. p.1) events, ap (λ p. p.1) depth, ap (λ p. p.1) all)

pub one_rest : (pairs : List (ℕ × ℕ)) → HaveOneName (0, 0) pairs → (n : Names) (a b : ℕ) → IsRest pairs n a → IsRest pairs n b → a ≡ b
one_rest pairs once n a b h k =
    let two = one_name (0, 0) pairs once h.two k.two (n.queues, n.outputs) (n.queues, n.outputs) h.events k.events refl in
    let others = one_name (0, 0) pairs once h.others k.others (h.two, n.height) (k.two, n.height) h.depth k.depth (ap (λ t. (t, n.height)) two) in
    one_name (0, 0) pairs once a b (h.others, n.pages) (k.others, n.pages) h.all k.all (ap (λ t. (t, n.pages)) others)
