-- Pages and cells after a write, and after a page is mapped or removed.
use Rattle.std.proofs.Common.{◌≡◌, ℕ, zero, suc, ◌+◌, ◌%◌, ◌^◌, ◌<◌, ◌≤◌, ◌⊎◌, inl, inr, Bool, true, false, cond, not}
use Rattle.std.proofs.Common.{nat_eq, nat_lt, List, [], ◌∷◌, replicate, slice_get, slice_set, Option, Some, None}
use Rattle.std.proofs.Common.{is_some, refl, sym, ap, subst, ◌∙◌, arith, eqb-true, eq-eqb, if◌then◌else◌, ◌==◌, ◌&&◌}
use Rattle.std.proofs.{Common.{length, length-set, T}, lemmas.{Cmp.nat_cmp_total, Bool.{ne_eqb, Decides.nat_tests}}}
use Rattle.std.specs.{Prelude.IsTrue, List.{filter, AllByRecursion}, Ordering.nat_cmp}
use Rattle.std.specs.declared.cmp.Ordering.TheVariants.{Less, Equal, Greater}
use Rattle.std.specs.FinMap.{find, put, is_sorted, nat_cmp-IsAntisymmetric}
use Rattle.std.specs.FinMap.Entries.{by_order, find-put, find-where_key, is_sorted-put, is_sorted-where_key, length-put}
use Rattle.std.specs.Cmp.{unsigned_tied}
use Rattle.mm_word.specs.declared.word.Cell.{Cell}
use Rattle.mm_model.specs.Memory.{Memory, page_at, is_mapped, cell_at, put_cell, put_in, cell_in, can_map, map_page}
use Rattle.mm_model.specs.Memory.{unmap_page, page_of, place_of, zero_cell, zero_page, IsPage, ArePages, IsPaged}

-- one cell of a list of cells

pub get_set_same : {A : Type 0} (xs : List A) (n : ℕ) (x y : A) → slice_get xs n ≡ Some y → slice_get (slice_set xs n x) n ≡ Some x
get_set_same [] n x y h = cc
get_set_same (z ∷ zs) zero x y h = refl
get_set_same (z ∷ zs) (suc n) x y h = get_set_same zs n x y h

pub get_set_other : {A : Type 0} (xs : List A) (n m : ℕ) (x : A) → (m ≡ n → ⊥) → slice_get (slice_set xs n x) m ≡ slice_get xs m
get_set_other [] n m x ne = refl
get_set_other (z ∷ zs) zero zero x ne = absurd (ne refl)
get_set_other (z ∷ zs) zero (suc m) x ne = refl
get_set_other (z ∷ zs) (suc n) zero x ne = refl
get_set_other (z ∷ zs) (suc n) (suc m) x ne = get_set_other zs n m x (λ e. ne (ap suc e))

-- a look-up in the list of pages, by a test of numbers

pub find_put : (es : List (ℕ × List Cell)) (k : ℕ) (v : List Cell) (q : ℕ) → find nat_cmp q (put nat_cmp k v es) ≡ cond (nat_eq q k) (Some v) (find nat_cmp q es)
find_put es k v q = find-put nat_cmp nat_cmp_total q k v es ∙ ap (λ b. cond b (Some v) (find nat_cmp q es)) (unsigned_tied q k)

pub find_filter : (es : List (ℕ × List Cell)) (k q : ℕ) → find nat_cmp q (filter (λ e. not (e.0 == k)) es) ≡ cond (not (nat_eq q k)) (find nat_cmp q es) None
find_filter es k q = find-where_key nat_cmp (λ x. not (x == k)) q (λ x e. ap (λ y. not (y == k)) (sym (nat_cmp-IsAntisymmetric q x e))) es

pub find_put_same : (es : List (ℕ × List Cell)) (k : ℕ) (v : List Cell) → find nat_cmp k (put nat_cmp k v es) ≡ Some v
find_put_same es k v = find_put es k v k ∙ ap (λ b. cond b (Some v) (find nat_cmp k es)) (eq-eqb k k refl)

pub find_put_other : (es : List (ℕ × List Cell)) (k : ℕ) (v : List Cell) (q : ℕ) → (q ≡ k → ⊥) → find nat_cmp q (put nat_cmp k v es) ≡ find nat_cmp q es
find_put_other es k v q ne = find_put es k v q ∙ ap (λ b. cond b (Some v) (find nat_cmp q es)) (ne_eqb q k ne)

-- pages

-- a write where no page is mapped changes nothing
pub put_cell-unmapped : (m : Memory) (w : ℕ) (c : Cell) → page_at m (page_of w) ≡ None → put_cell m w c ≡ m
unfolding put_cell
put_cell-unmapped m w c e = ap (λ o. put_in m o w c) e

put_in_page_same : (m : Memory) (w : ℕ) (c : Cell) (cells : List Cell) (o : Option (List Cell)) → o ≡ Some cells
    → page_at (put_in m o w c) (page_of w) ≡ Some (slice_set cells (place_of w) c)
put_in_page_same m w c cells None e = cc
put_in_page_same m w c cells (Some old) e =
    let same : old ≡ cells = cc in
    find_put_same m.pages (page_of w) (slice_set old (place_of w) c) ∙ ap (λ o. Some (slice_set o (place_of w) c)) same

pub page_at-put_same : (m : Memory) (w : ℕ) (c : Cell) (cells : List Cell) → page_at m (page_of w) ≡ Some cells → page_at (put_cell m w c) (page_of w) ≡ Some (slice_set cells (place_of w) c)
unfolding put_cell
page_at-put_same m w c cells e = put_in_page_same m w c cells (page_at m (page_of w)) e

put_in_page_other : (m : Memory) (w : ℕ) (c : Cell) (q : ℕ) (o : Option (List Cell)) → (q ≡ page_of w → ⊥) → page_at (put_in m o w c) q ≡ page_at m q
put_in_page_other m w c q None ne = refl
put_in_page_other m w c q (Some cells) ne = find_put_other m.pages (page_of w) (slice_set cells (place_of w) c) q ne

pub page_at-put_other : (m : Memory) (w : ℕ) (c : Cell) (q : ℕ) → (q ≡ page_of w → ⊥) → page_at (put_cell m w c) q ≡ page_at m q
unfolding put_cell
page_at-put_other m w c q ne = put_in_page_other m w c q (page_at m (page_of w)) ne

-- a write maps no page and removes none
pub is_mapped-put : (m : Memory) (w : ℕ) (c : Cell) (q : ℕ) → is_mapped (put_cell m w c) q ≡ is_mapped m q
is_mapped-put m w c q = go (nat_eq q (page_of w)) refl (page_at m (page_of w)) refl
  where
    go : (b : Bool) → nat_eq q (page_of w) ≡ b → (o : Option (List Cell)) → page_at m (page_of w) ≡ o → is_mapped (put_cell m w c) q ≡ is_mapped m q
    go true y None e = ap (λ n. is_mapped n q) (put_cell-unmapped m w c e)
    go true y (Some cells) e =
        let s = eqb-true q (page_of w) y in
        ap (is_mapped (put_cell m w c)) s ∙ ap is_some (page_at-put_same m w c cells e) ∙ sym (ap (is_mapped m) s ∙ ap is_some e)
    go false n o e = ap is_some (page_at-put_other m w c q (λ s. cc (eq-eqb q (page_of w) s)))

pub page_at-map_same : (m : Memory) (p : ℕ) → page_at (map_page m p) p ≡ Some zero_page
unfolding map_page
page_at-map_same m p = find_put_same m.pages p zero_page

pub page_at-map_other : (m : Memory) (p q : ℕ) → (q ≡ p → ⊥) → page_at (map_page m p) q ≡ page_at m q
unfolding map_page
page_at-map_other m p q ne = find_put_other m.pages p zero_page q ne

pub page_at-unmap_same : (m : Memory) (p : ℕ) → page_at (unmap_page m p) p ≡ None
unfolding unmap_page
page_at-unmap_same m p = find_filter m.pages p p ∙ ap (λ b. cond (not b) (find nat_cmp p m.pages) None) (eq-eqb p p refl)

pub page_at-unmap_other : (m : Memory) (p q : ℕ) → (q ≡ p → ⊥) → page_at (unmap_page m p) q ≡ page_at m q
unfolding unmap_page
page_at-unmap_other m p q ne = find_filter m.pages p q ∙ ap (λ b. cond (not b) (find nat_cmp q m.pages) None) (ne_eqb q p ne)

-- cells

-- the place of a word decides it within its page
same_word : (v w : ℕ) → v % 8 ≡ 0 → w % 8 ≡ 0 → page_of v ≡ page_of w → place_of v ≡ place_of w → v ≡ w
same_word v w av aw p q = omega arith

pub cell_at-unaligned : (m : Memory) (w : ℕ) → (w % 8 ≡ 0 → ⊥) → cell_at m w ≡ None
unfolding cell_at
cell_at-unaligned m w ne = ap (λ b. if b then cell_in (page_at m (page_of w)) (place_of w) else None) (ne_eqb (w % 8) 0 ne)

-- at an aligned word the cell is read from its page
pub cell_at-aligned : (m : Memory) (w : ℕ) → w % 8 ≡ 0 → cell_at m w ≡ cell_in (page_at m (page_of w)) (place_of w)
unfolding cell_at
cell_at-aligned m w a = ap (λ b. if b then cell_in (page_at m (page_of w)) (place_of w) else None) (eq-eqb (w % 8) 0 a)

-- an address is a word's, or it is none
pub word_or_none : (w : ℕ) → (w % 8 ≡ 0) ⊎ (w % 8 ≡ 0 → ⊥)
word_or_none w = go (nat_eq (w % 8) 0) refl
  where
    go : (b : Bool) → nat_eq (w % 8) 0 ≡ b → (w % 8 ≡ 0) ⊎ (w % 8 ≡ 0 → ⊥)
    go true e = inl (eqb-true (w % 8) 0 e)
    go false e = inr (λ s. cc (eq-eqb (w % 8) 0 s))

-- a word that has a cell is aligned
pub aligned : (m : Memory) (w : ℕ) (c : Cell) → cell_at m w ≡ Some c → w % 8 ≡ 0
aligned m w c h = elim (word_or_none w) [ inl a ↦ a | inr ne ↦ absurd (cc (cell_at-unaligned m w ne)) ]

found_page : (o : Option (List Cell)) (n : ℕ) (c : Cell) → cell_in o n ≡ Some c → (cells : List Cell) × (o ≡ Some cells)
found_page None n c h = cc
found_page (Some cells) n c h = (cells, refl)

-- the page of a word that has a cell is mapped
pub page_of_cell : (m : Memory) (w : ℕ) (c : Cell) → cell_at m w ≡ Some c → (cells : List Cell) × (page_at m (page_of w) ≡ Some cells)
page_of_cell m w c h = found_page (page_at m (page_of w)) (place_of w) c (sym (cell_at-aligned m w (aligned m w c h)) ∙ h)

-- a word's cell is decided by its page
pub cell_at-same_page : (m n : Memory) (v : ℕ) → page_at n (page_of v) ≡ page_at m (page_of v) → cell_at n v ≡ cell_at m v
unfolding cell_at
cell_at-same_page m n v e = ap (λ o. if v % 8 == 0 then cell_in o (place_of v) else None) e

put_in_same : (m : Memory) (w : ℕ) (c old : Cell) (o : Option (List Cell)) → page_at m (page_of w) ≡ o → cell_in o (place_of w) ≡ Some old
    → cell_in (page_at (put_cell m w c) (page_of w)) (place_of w) ≡ Some c
put_in_same m w c old None e h = cc
put_in_same m w c old (Some cells) e h = ap (λ o. cell_in o (place_of w)) (page_at-put_same m w c cells e) ∙ get_set_same cells (place_of w) c old h

pub cell_at-put_same : (m : Memory) (w : ℕ) (c old : Cell) → cell_at m w ≡ Some old → cell_at (put_cell m w c) w ≡ Some c
cell_at-put_same m w c old h =
    let a = aligned m w old h in
    cell_at-aligned (put_cell m w c) w a ∙ put_in_same m w c old (page_at m (page_of w)) refl (sym (cell_at-aligned m w a) ∙ h)

put_other_place : (m : Memory) (w v : ℕ) (c : Cell) (o : Option (List Cell)) → page_at m (page_of w) ≡ o → page_of v ≡ page_of w → (place_of v ≡ place_of w → ⊥)
    → cell_in (page_at (put_cell m w c) (page_of v)) (place_of v) ≡ cell_in (page_at m (page_of v)) (place_of v)
put_other_place m w v c None e s ne = ap (λ n. cell_in (page_at n (page_of v)) (place_of v)) (put_cell-unmapped m w c e)
put_other_place m w v c (Some cells) e s ne =
    ap (λ o. cell_in o (place_of v)) (ap (page_at (put_cell m w c)) s ∙ page_at-put_same m w c cells e)
    ∙ get_set_other cells (place_of w) (place_of v) c ne
    ∙ sym (ap (λ o. cell_in o (place_of v)) (ap (page_at m) s ∙ e))

put_other_word : (m : Memory) (w v : ℕ) (c : Cell) → w % 8 ≡ 0 → v % 8 ≡ 0 → (v ≡ w → ⊥) → cell_at (put_cell m w c) v ≡ cell_at m v
put_other_word m w v c aw av ne = go (nat_eq (page_of v) (page_of w)) refl
  where
    go : (b : Bool) → nat_eq (page_of v) (page_of w) ≡ b → cell_at (put_cell m w c) v ≡ cell_at m v
    go true y =
        let s = eqb-true (page_of v) (page_of w) y in
        cell_at-aligned (put_cell m w c) v av
        ∙ put_other_place m w v c (page_at m (page_of w)) refl s (λ q. ne (same_word v w av aw s q))
        ∙ sym (cell_at-aligned m v av)
    go false n = cell_at-same_page m (put_cell m w c) v (page_at-put_other m w c (page_of v) (λ s. cc (eq-eqb (page_of v) (page_of w) s)))

pub cell_at-put_other : (m : Memory) (w v : ℕ) (c : Cell) → w % 8 ≡ 0 → (v ≡ w → ⊥) → cell_at (put_cell m w c) v ≡ cell_at m v
cell_at-put_other m w v c aw ne =
    elim (word_or_none v) [
      | inl av ↦ put_other_word m w v c aw av ne
      | inr odd ↦ cell_at-unaligned (put_cell m w c) v odd ∙ sym (cell_at-unaligned m v odd)
    ]

set_get : {A : Type 0} (xs : List A) (n : ℕ) (x y : A) → slice_get (slice_set xs n x) n ≡ Some y → y ≡ x
set_get [] n x y h = cc
set_get (z ∷ zs) zero x y h = cc
set_get (z ∷ zs) (suc n) x y h = set_get zs n x y h

put_here : (m : Memory) (w : ℕ) (c d : Cell) (o : Option (List Cell)) → page_at m (page_of w) ≡ o → cell_in (page_at (put_cell m w c) (page_of w)) (place_of w) ≡ Some d → d ≡ c
put_here m w c d None e h =
    let none = ap (λ n. page_at n (page_of w)) (put_cell-unmapped m w c e) ∙ e in
    let gone : None ≡ Some d = sym (ap (λ o. cell_in o (place_of w)) none) ∙ h in
    cc
put_here m w c d (Some cells) e h = set_get cells (place_of w) c d (sym (ap (λ o. cell_in o (place_of w)) (page_at-put_same m w c cells e)) ∙ h)

-- a cell after a write is the one written, or stood there before
pub put_cases : (m : Memory) (w v : ℕ) (c d : Cell) → w % 8 ≡ 0 → cell_at (put_cell m w c) v ≡ Some d → ((v ≡ w) × (d ≡ c)) ⊎ (cell_at m v ≡ Some d)
put_cases m w v c d aw h = go (nat_eq v w) refl
  where
    go : (b : Bool) → nat_eq v w ≡ b → ((v ≡ w) × (d ≡ c)) ⊎ (cell_at m v ≡ Some d)
    go true y =
        let s = eqb-true v w y in
        inl (s, put_here m w c d (page_at m (page_of w)) refl (sym (ap (cell_at (put_cell m w c)) s ∙ cell_at-aligned (put_cell m w c) w aw) ∙ h))
    go false n = inr (sym (cell_at-put_other m w v c aw (λ s. cc (eq-eqb v w s))) ∙ h)

pub zeros_get : (n k : ℕ) → k < n → slice_get (replicate n zero_cell) k ≡ Some zero_cell
zeros_get zero k lt = absurd (omega arith)
zeros_get (suc n) zero lt = refl
zeros_get (suc n) (suc k) lt = zeros_get n k (omega arith)

pub place_within : (v : ℕ) → place_of v < 512
place_within v = omega arith

-- each word of a page that was just mapped has integer 0, full
pub cell_at-map_same : (m : Memory) (p v : ℕ) → v % 8 ≡ 0 → page_of v ≡ p → cell_at (map_page m p) v ≡ Some zero_cell
cell_at-map_same m p v a s =
    cell_at-aligned (map_page m p) v a
    ∙ ap (λ o. cell_in o (place_of v)) (ap (page_at (map_page m p)) s ∙ page_at-map_same m p)
    ∙ zeros_get 512 (place_of v) (place_within v)

pub cell_at-map_other : (m : Memory) (p v : ℕ) → (page_of v ≡ p → ⊥) → cell_at (map_page m p) v ≡ cell_at m v
cell_at-map_other m p v ne = cell_at-same_page m (map_page m p) v (page_at-map_other m p (page_of v) ne)

pub cell_at-unmap_same : (m : Memory) (p v : ℕ) → page_of v ≡ p → cell_at (unmap_page m p) v ≡ None
cell_at-unmap_same m p v s =
    elim (word_or_none v) [
      | inl a ↦ cell_at-aligned (unmap_page m p) v a ∙ ap (λ o. cell_in o (place_of v)) (ap (page_at (unmap_page m p)) s ∙ page_at-unmap_same m p)
      | inr odd ↦ cell_at-unaligned (unmap_page m p) v odd
    ]

pub cell_at-unmap_other : (m : Memory) (p v : ℕ) → (page_of v ≡ p → ⊥) → cell_at (unmap_page m p) v ≡ cell_at m v
cell_at-unmap_other m p v ne = cell_at-same_page m (unmap_page m p) v (page_at-unmap_other m p (page_of v) ne)

pub map_cases : (m : Memory) (p v : ℕ) (c : Cell) → cell_at (map_page m p) v ≡ Some c → (c ≡ zero_cell) ⊎ (cell_at m v ≡ Some c)
map_cases m p v c h = go (nat_eq (page_of v) p) refl
  where
    go : (b : Bool) → nat_eq (page_of v) p ≡ b → (c ≡ zero_cell) ⊎ (cell_at m v ≡ Some c)
    go true y =
        let zero_there = cell_at-map_same m p v (aligned (map_page m p) v c h) (eqb-true (page_of v) p y) in
        inl cc
    go false n = inr (sym (cell_at-map_other m p v (λ s. cc (eq-eqb (page_of v) p s))) ∙ h)

pub unmap_cases : (m : Memory) (p v : ℕ) (c : Cell) → cell_at (unmap_page m p) v ≡ Some c → cell_at m v ≡ Some c
unmap_cases m p v c h = go (nat_eq (page_of v) p) refl
  where
    go : (b : Bool) → nat_eq (page_of v) p ≡ b → cell_at m v ≡ Some c
    go true y =
        let gone = cell_at-unmap_same m p v (eqb-true (page_of v) p y) in
        cc
    go false n = sym (cell_at-unmap_other m p v (λ s. cc (eq-eqb (page_of v) p s))) ∙ h

-- the number of frames stays

put_in_frames : (m : Memory) (w : ℕ) (c : Cell) (o : Option (List Cell)) → (put_in m o w c).frames ≡ m.frames
put_in_frames m w c None = refl
put_in_frames m w c (Some cells) = refl

pub put_frames : (m : Memory) (w : ℕ) (c : Cell) → (put_cell m w c).frames ≡ m.frames
unfolding put_cell
put_frames m w c = put_in_frames m w c (page_at m (page_of w))

pub map_frames : (m : Memory) (p : ℕ) → (map_page m p).frames ≡ m.frames
unfolding map_page
map_frames m p = refl

pub unmap_frames : (m : Memory) (p : ℕ) → (unmap_page m p).frames ≡ m.frames
unfolding unmap_page
unmap_frames m p = refl

-- pages stay whole

pub truth : (b : Bool) → T b → b ≡ true
truth true h = refl
truth false h = absurd h

length_zeros : (n : ℕ) → length (replicate n zero_cell) ≡ n
length_zeros zero = refl
length_zeros (suc n) = ap suc (length_zeros n)

pub put_whole : (k : ℕ) (v : List Cell) (es : List (ℕ × List Cell)) → IsPage (k, v) → AllByRecursion IsPage es → AllByRecursion IsPage (put nat_cmp k v es)
put_whole k v [] new old = (new, tt)
put_whole k v (e ∷ es) new old =
    elim (nat_cmp k e.0) as (λ r. AllByRecursion IsPage (by_order r ((k, v) ∷ e ∷ es) ((e.0, v) ∷ es) (e ∷ put nat_cmp k v es))) [
      | Less ↦ (new, old)
      | Equal ↦ (record { number = old.0.number; cells = new.cells }, old.1)
      | Greater ↦ (old.0, put_whole k v es new old.1)
    ]

filter_whole : (p : ℕ × List Cell → Bool) (es : List (ℕ × List Cell)) → AllByRecursion IsPage es → AllByRecursion IsPage (filter p es)
filter_whole p [] h = tt
filter_whole p (e ∷ es) h =
    elim (p e) as (λ b. AllByRecursion IsPage (cond b (e ∷ filter p es) (filter p es))) [ true ↦ (h.0, filter_whole p es h.1) | false ↦ filter_whole p es h.1 ]

filter_shorter : (p : ℕ × List Cell → Bool) (es : List (ℕ × List Cell)) → length (filter p es) ≤ length es
filter_shorter p [] = omega arith
filter_shorter p (e ∷ es) =
    let rest = filter_shorter p es in
    elim (p e) as (λ b. length (cond b (e ∷ filter p es) (filter p es)) ≤ suc (length es)) [ true ↦ omega arith | false ↦ omega arith ]

found_at : (q : ℕ) (cells : List Cell) (e : ℕ × List Cell) (rest : Option (List Cell)) (b : Bool) → nat_eq q e.0 ≡ b → IsPage e → (rest ≡ Some cells → IsPage (q, cells))
    → cond b (Some e.1) rest ≡ Some cells → IsPage (q, cells)
found_at q cells e rest true y h later at =
    let s = eqb-true q e.0 y in
    let same : e.1 ≡ cells = cc in
    record { number = rw s h.number; cells = sym (ap length same) ∙ h.cells }
found_at q cells e rest false n h later at = later at

found_whole : (q : ℕ) (cells : List Cell) (es : List (ℕ × List Cell)) → AllByRecursion IsPage es → find nat_cmp q es ≡ Some cells → IsPage (q, cells)
found_whole q cells [] h is = cc
found_whole q cells (e ∷ es) h is =
    found_at q cells e (find nat_cmp q es) (nat_eq q e.0) refl h.0 (λ at. found_whole q cells es h.1 at) (sym (ap (λ b. cond b (Some e.1) (find nat_cmp q es)) (unsigned_tied q e.0)) ∙ is)

-- a mapped page has a number below 2^42 and 512 cells
pub page_whole : (m : Memory) → IsPaged m → (q : ℕ) (cells : List Cell) → page_at m q ≡ Some cells → IsPage (q, cells)
page_whole m h q cells is = found_whole q cells m.pages h.pages.whole is

put_rising : (k : ℕ) (v : List Cell) (es : List (ℕ × List Cell)) → IsTrue (is_sorted nat_cmp es) → IsTrue (is_sorted nat_cmp (put nat_cmp k v es))
put_rising k v es h = truth (is_sorted nat_cmp (put nat_cmp k v es)) (is_sorted-put nat_cmp nat_cmp_total k v es (subst T (sym h) tt))

put_length : (k : ℕ) (v : List Cell) (es : List (ℕ × List Cell)) → IsTrue (is_sorted nat_cmp es) → length (put nat_cmp k v es) ≡ cond (is_some (find nat_cmp k es)) (length es) (length es + 1)
put_length k v es h = length-put nat_cmp nat_cmp_total k v es (subst T (sym h) tt)

put_in_pages : (m : Memory) (w : ℕ) (c : Cell) (o : Option (List Cell)) → page_at m (page_of w) ≡ o → ArePages m.pages → ArePages (put_in m o w c).pages
put_in_pages m w c None e h = h
put_in_pages m w c (Some cells) e h =
    let old = found_whole (page_of w) cells m.pages h.whole e in
    let new = slice_set cells (place_of w) c in
    record {
      rising = put_rising (page_of w) new m.pages h.rising;
      whole = put_whole (page_of w) new m.pages (record { number = old.number; cells = length-set cells (place_of w) c ∙ old.cells }) h.whole;
    }

pub put_pages : (m : Memory) (w : ℕ) (c : Cell) → ArePages m.pages → ArePages (put_cell m w c).pages
unfolding put_cell
put_pages m w c h = put_in_pages m w c (page_at m (page_of w)) refl h

put_in_count : (m : Memory) (w : ℕ) (c : Cell) (o : Option (List Cell)) → page_at m (page_of w) ≡ o → ArePages m.pages → length (put_in m o w c).pages ≡ length m.pages
put_in_count m w c None e h = refl
put_in_count m w c (Some cells) e h = put_length (page_of w) (slice_set cells (place_of w) c) m.pages h.rising ∙ ap (λ o. cond (is_some o) (length m.pages) (length m.pages + 1)) e

-- as many pages are mapped as before
pub put_count : (m : Memory) (w : ℕ) (c : Cell) → ArePages m.pages → length (put_cell m w c).pages ≡ length m.pages
unfolding put_cell
put_count m w c h = put_in_count m w c (page_at m (page_of w)) refl h

pub put_paged : (m : Memory) (w : ℕ) (c : Cell) → IsPaged m → IsPaged (put_cell m w c)
put_paged m w c h = record { pages = put_pages m w c h.pages; fitting = let count = put_count m w c h.pages in let frames = put_frames m w c in let few = h.fitting in omega arith }

can_map_is : (mapped free : Bool) → (not mapped && free) ≡ true → (mapped ≡ false) × (free ≡ true)
can_map_is true free e = cc
can_map_is false free e = (refl, e)

-- a page that can be mapped is not mapped yet, and a frame is free
pub can_map-facts : (m : Memory) (p : ℕ) → can_map m p ≡ true → (is_mapped m p ≡ false) × (length m.pages < m.frames)
unfolding can_map
can_map-facts m p e =
    let both = can_map_is (is_mapped m p) (nat_lt (length m.pages) m.frames) e in
    let free = both.1 in
    (both.0, grind (arith, nat_tests))

pub map_pages : (m : Memory) (p : ℕ) → ArePages m.pages → p < 2 ^ 42 → ArePages (map_page m p).pages
unfolding map_page
map_pages m p h lt = record { rising = put_rising p zero_page m.pages h.rising; whole = put_whole p zero_page m.pages (record { number = lt; cells = length_zeros 512 }) h.whole }

-- there was a frame for the page
pub map_fitting : (m : Memory) (p : ℕ) → ArePages m.pages → can_map m p ≡ true → length (map_page m p).pages ≤ (map_page m p).frames
unfolding map_page
map_fitting m p h can =
    let free = can_map-facts m p can in
    let long = put_length p zero_page m.pages h.rising ∙ ap (λ b. cond b (length m.pages) (length m.pages + 1)) free.0 in
    omega arith

pub map_paged : (m : Memory) (p : ℕ) → IsPaged m → can_map m p ≡ true → p < 2 ^ 42 → IsPaged (map_page m p)
map_paged m p h can lt = record { pages = map_pages m p h.pages lt; fitting = map_fitting m p h.pages can }

pub unmap_pages : (m : Memory) (p : ℕ) → ArePages m.pages → ArePages (unmap_page m p).pages
unfolding unmap_page
unmap_pages m p h = record {
  rising = truth (is_sorted nat_cmp (filter (λ e. not (e.0 == p)) m.pages)) (is_sorted-where_key nat_cmp (λ k. not (k == p)) m.pages (subst T (sym h.rising) tt));
  whole = filter_whole (λ e. not (e.0 == p)) m.pages h.whole;
}

-- no more pages are mapped than before
pub unmap_count : (m : Memory) (p : ℕ) → length (unmap_page m p).pages ≤ length m.pages
unfolding unmap_page
unmap_count m p = filter_shorter (λ e. not (e.0 == p)) m.pages

pub unmap_paged : (m : Memory) (p : ℕ) → IsPaged m → IsPaged (unmap_page m p)
unmap_paged m p h = record { pages = unmap_pages m p h.pages; fitting = let fewer = unmap_count m p in let frames = unmap_frames m p in let few = h.fitting in omega arith }
