-- Trees of the cells of pages.
use Rattle.std.proofs.Common.{◌≡◌, ℕ, zero, suc, List, [], ◌∷◌, ◌++◌, slice_set}
use Rattle.std.proofs.Common.{refl, sym, ap, ◌∙◌, subst}
use Rattle.std.specs.List.{AllZip}
use Rattle.std.proofs.Math.Seq.{take-length}
use Rattle.mm_word.specs.declared.word.Cell.{Cell}
use Rattle.mm_model.specs.Memory.{zero_cell}
use Rattle.mm_pairs.specs.{Named.{HasGrown, IsNameOf}, Trees.{leaves, HasLeaves}}
use Rattle.mm_pairs.proofs.Names.{name_stays, grown_twice, has_still, joined, tree_stays, leaves_stay}
use Rattle.mm_config.specs.declared.{store.Store.Store}
use Rattle.mm_config.specs.{Naming.{AreCells, IsPageName}, Noting.{IsKeptStill, HasMoreCells}}

module _ {A B : Type 0} where
  pub zip_weaker : (R Q : A → B → Type 0) → ((x : A) (y : B) → R x y → Q x y) → (xs : List A) (ys : List B) → AllZip R xs ys → AllZip Q xs ys
  zip_weaker R Q f [] [] h = tt
  zip_weaker R Q f [] (y ∷ ys) h = absurd h
  zip_weaker R Q f (x ∷ xs) [] h = absurd h
  zip_weaker R Q f (x ∷ xs) (y ∷ ys) h = (f x y h.0, zip_weaker R Q f xs ys h.1)

  pub zip_both : (R : A → B → Type 0) (xs us : List A) (ys vs : List B) → AllZip R xs ys → AllZip R us vs → AllZip R (xs ++ us) (ys ++ vs)
  zip_both R [] us [] vs h k = k
  zip_both R [] us (y ∷ ys) vs h k = absurd h
  zip_both R (x ∷ xs) us [] vs h k = absurd h
  zip_both R (x ∷ xs) us (y ∷ ys) vs h k = (h.0, zip_both R xs us ys vs h.1 k)

  pub zip_set : (R : A → B → Type 0) (at : ℕ) (x : A) (y : B) → R x y → (xs : List A) (ys : List B) → AllZip R xs ys → AllZip R (slice_set xs at x) (slice_set ys at y)
  zip_set R at x y r [] [] h = tt
  zip_set R at x y r [] (b ∷ ys) h = absurd h
  zip_set R at x y r (a ∷ xs) [] h = absurd h
  zip_set R zero x y r (a ∷ xs) (b ∷ ys) h = (r, h.1)
  zip_set R (suc at) x y r (a ∷ xs) (b ∷ ys) h = (h.0, zip_set R at x y r xs ys h.1)

abbrev NamesCells : List Cell → List Cell → List ℕ → Type 0
NamesCells kept cells names = AllZip (λ cell leaf. IsNameOf zero_cell kept leaf cell) cells names

names_stay : (old new cells : List Cell) (names : List ℕ) → HasGrown old new → NamesCells old cells names → NamesCells new cells names
names_stay old new cells names grown =
    zip_weaker (λ cell leaf. IsNameOf zero_cell old leaf cell) (λ cell leaf. IsNameOf zero_cell new leaf cell) (λ cell leaf. name_stays zero_cell old new grown leaf cell) cells names

-- what is kept still has the trees of cells, and the pages, that it had
pub cells_stay : (old new : Store) (depth tree : ℕ) (cells : List Cell) → HasGrown old.pairs new.pairs → HasGrown old.cells new.cells → AreCells old depth tree cells → AreCells new depth tree cells
cells_stay old new depth tree cells pairs kept h = record {
  inner = tree_stays old.pairs new.pairs pairs depth tree h.inner;
  names = subst (NamesCells new.cells cells) (sym (leaves_stay old.pairs new.pairs pairs depth tree h.inner)) (names_stay old.cells new.cells cells (leaves old.pairs depth tree) kept h.names);
}

pub page_stays : (old new : Store) → IsKeptStill old new → (cells : List Cell) (name : ℕ) → IsPageName old cells name → IsPageName new cells name
page_stays old new still cells name h = record {
  tree = h.tree;
  is = name_stays (0, 0) old.pairs new.pairs still.pairs name (1, h.tree) h.is;
  named = cells_stay old new 9 h.tree cells still.pairs still.cells h.named;
}

-- two trees of cells, one made after the other, joined
pub cells_joined : (k1 k2 : Store) (now : List (ℕ × ℕ)) (d depth left right tree : ℕ) (xs ys all : List Cell) → depth ≡ suc d → all ≡ xs ++ ys
    → HasMoreCells k1 k2 → AreCells k1 d left xs → AreCells k2 d right ys → HasGrown k2.pairs now → IsNameOf (0, 0) now tree (left, right)
    → AreCells (record k2 { pairs = now }) depth tree all
cells_joined k1 k2 now d depth left right tree xs ys all is both more l r grown name =
    let first = has_still k1.pairs k2.pairs d left more.pairs l.inner in
    let second : HasLeaves k2.pairs d right (leaves k2.pairs d right) = record { inner = r.inner; leaves = refl } in
    let whole = joined k2.pairs now d left right tree (leaves k1.pairs d left) (leaves k2.pairs d right) grown first second name in
    let names = zip_both (λ cell leaf. IsNameOf zero_cell k2.cells leaf cell) xs ys (leaves k1.pairs d left) (leaves k2.pairs d right)
    (names_stay k1.cells k2.cells xs (leaves k1.pairs d left) more.cells l.names) r.names in
    let one : AreCells (record k2 { pairs = now }) (suc d) tree (xs ++ ys) = record { inner = whole.inner; names = subst (NamesCells k2.cells (xs ++ ys)) (sym whole.leaves) names } in
    subst (λ n. AreCells (record k2 { pairs = now }) n tree all) (sym is) (subst (AreCells (record k2 { pairs = now }) (suc d) tree) (sym both) one)

-- a tree with another cell
pub cells_set : (k : Store) (cells now : List Cell) (pairs : List (ℕ × ℕ)) (tree place name new : ℕ) (cell : Cell) → AreCells k 9 tree cells
    → HasGrown k.cells now → IsNameOf zero_cell now name cell → HasLeaves pairs 9 new (slice_set (leaves k.pairs 9 tree) place name)
    → AreCells (record k { pairs = pairs; cells = now }) 9 new (slice_set cells place cell)
cells_set k cells now pairs tree place name new cell h grown is made = record {
  inner = made.inner;
  names = subst (NamesCells now (slice_set cells place cell)) (sym made.leaves)
      (zip_set (λ cell leaf. IsNameOf zero_cell now leaf cell) place cell name is cells (leaves k.pairs 9 tree) (names_stay k.cells now cells (leaves k.pairs 9 tree) grown h.names));
}

pub more_twice : (a b c : Store) → HasMoreCells a b → HasMoreCells b c → HasMoreCells a c
more_twice a b c h g = record {
  pairs = grown_twice a.pairs b.pairs c.pairs h.pairs g.pairs;
  cells = grown_twice a.cells b.cells c.cells h.cells g.cells;
  others = g.others ∙ ap (λ (k : Store). record k { pairs = c.pairs; cells = c.cells }) h.others;
}

pub more_pairs : (k : Store) (pairs : List (ℕ × ℕ)) → HasGrown k.pairs pairs → HasMoreCells k (record k { pairs = pairs })
more_pairs k pairs grown = record { pairs = grown; cells = take-length k.cells; others = refl }
