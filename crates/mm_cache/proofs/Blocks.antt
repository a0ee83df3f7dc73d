-- The cells of a block: in a page, and in a memory that a block is put into.
use Rattle.std.proofs.Common.{◌≡◌, ◌≢◌, ℕ, zero, suc, ◌+◌, ◌-◌, ◌*◌, ◌<◌, ◌≤◌, ◌/◌, ◌%◌, is_some, true, List, [], ◌∷◌}
use Rattle.std.proofs.Common.{◌++◌, length, take, drop, Option, None, Some, slice_get, refl, sym, ap, arith, ◌∙◌, inl}
use Rattle.std.proofs.Common.{inr, length-drop, length-take, append_assoc}
use Rattle.std.proofs.lemmas.{Bool.cases_lt, Option.slice_get_past}
use Rattle.mm_word.specs.declared.word.Cell.{Cell}
use Rattle.mm_model.specs.{Memory.{Memory, page_at, is_mapped, IsPaged}, Counted.page_of_block}
use Rattle.mm_model.proofs.Memories.{page_whole}
use Rattle.mm_mem.specs.Blocks.{place_of_block, block_in, with_block, block_of_page, block_at, put_block}
use Rattle.mm_mem.proofs.Blocks.{put_block-mapped, page_at-written, page_at-other, is_mapped-put_block}
use Rattle.mm_cache.proofs.Laid.{same_list}

-- cells of lists

get_take : {A : Type 0} (n : ℕ) (xs : List A) (i : ℕ) → i < n → slice_get (take n xs) i ≡ slice_get xs i
get_take zero xs i lt = absurd (omega arith)
get_take (suc n) [] i lt = refl
get_take (suc n) (x ∷ xs) zero lt = refl
get_take (suc n) (x ∷ xs) (suc i) lt = get_take n xs i (omega arith)

get_drop : {A : Type 0} (n : ℕ) (xs : List A) (i : ℕ) → slice_get (drop n xs) i ≡ slice_get xs (n + i)
get_drop zero xs i = ap (slice_get xs) (let e : i ≡ 0 + i = omega arith in e)
get_drop (suc n) [] i = refl
get_drop (suc n) (x ∷ xs) i = get_drop n xs i ∙ ap (slice_get (x ∷ xs)) (let e : suc (n + i) ≡ suc n + i = omega arith in e)

get_left : {A : Type 0} (xs ys : List A) (i : ℕ) → i < length xs → slice_get (xs ++ ys) i ≡ slice_get xs i
get_left [] ys i lt = absurd (omega arith)
get_left (x ∷ xs) ys zero lt = refl
get_left (x ∷ xs) ys (suc i) lt = get_left xs ys i (omega arith)

get_right : {A : Type 0} (xs ys : List A) (i : ℕ) → slice_get (xs ++ ys) (length xs + i) ≡ slice_get ys i
get_right [] ys i = ap (slice_get ys) (let e : 0 + i ≡ i = omega arith in e)
get_right (x ∷ xs) ys i = ap (slice_get (x ∷ (xs ++ ys))) (let e : suc (length xs) + i ≡ suc (length xs + i) = omega arith in e) ∙ get_right xs ys i

-- a block of a page

-- a cell of a block is the page's
pub block_get : (cells : List Cell) (block_index i : ℕ) → i < 8 → slice_get (block_in cells block_index) i ≡ slice_get cells (block_index * 8 + i)
block_get cells block_index i lt = get_take 8 (drop (block_index * 8) cells) i lt ∙ get_drop (block_index * 8) cells i

block_past : (cells : List Cell) (block_index i : ℕ) → 8 ≤ i → slice_get (block_in cells block_index) i ≡ None
block_past cells block_index i le = slice_get_past (block_in cells block_index) i (omega (arith, length-take 8 (drop (block_index * 8) cells)))

pub block_length : (cells : List Cell) (block_index : ℕ) → block_index * 8 + 8 ≤ length cells → length (block_in cells block_index) ≡ 8
block_length cells block_index fits = omega (arith, length-take 8 (drop (block_index * 8) cells), length-drop (block_index * 8) cells)

module _ (cells : List Cell) (block_index : ℕ) (new : List Cell) (fits : block_index * 8 + 8 ≤ length cells) (eight : length new ≡ 8) where
  before : length (take (block_index * 8) cells) ≡ block_index * 8
  before = omega (arith, length-take (block_index * 8) cells)

  parts : with_block cells block_index new ≡ take (block_index * 8) cells ++ (new ++ drop (block_index * 8 + 8) cells)
  parts = append_assoc (take (block_index * 8) cells) new (drop (block_index * 8 + 8) cells)

  -- where a block is put its cells are
  pub with_block_here : (j : ℕ) → j / 8 ≡ block_index → slice_get (with_block cells block_index new) j ≡ slice_get new (j % 8)
  with_block_here j at =
      let front : length (take (block_index * 8) cells) ≡ block_index * 8 = before in
      let index : j ≡ length (take (block_index * 8) cells) + j % 8 = omega arith in
      ap (λ (xs : List Cell). slice_get xs j) parts
      ∙ ap (slice_get (take (block_index * 8) cells ++ (new ++ drop (block_index * 8 + 8) cells))) index
      ∙ get_right (take (block_index * 8) cells) (new ++ drop (block_index * 8 + 8) cells) (j % 8)
      ∙ get_left new (drop (block_index * 8 + 8) cells) (j % 8) (omega arith)

  before_block : (j : ℕ) → j < block_index * 8 → slice_get (with_block cells block_index new) j ≡ slice_get cells j
  before_block j lt =
      let front : length (take (block_index * 8) cells) ≡ block_index * 8 = before in
      ap (λ (xs : List Cell). slice_get xs j) parts ∙ get_left (take (block_index * 8) cells) (new ++ drop (block_index * 8 + 8) cells) j (omega arith) ∙ get_take (block_index * 8) cells j lt

  after_block : (j : ℕ) → block_index * 8 + 8 ≤ j → slice_get (with_block cells block_index new) j ≡ slice_get cells j
  after_block j le =
      let front : length (take (block_index * 8) cells) ≡ block_index * 8 = before in
      let rest : ℕ = j - (block_index * 8 + 8) in
      let index : j ≡ length (take (block_index * 8) cells) + (length new + rest) = omega arith in
      let back : (block_index * 8 + 8) + rest ≡ j = omega arith in
      ap (λ (xs : List Cell). slice_get xs j) parts
      ∙ ap (slice_get (take (block_index * 8) cells ++ (new ++ drop (block_index * 8 + 8) cells))) index
      ∙ get_right (take (block_index * 8) cells) (new ++ drop (block_index * 8 + 8) cells) (length new + rest)
      ∙ get_right new (drop (block_index * 8 + 8) cells) rest
      ∙ get_drop (block_index * 8 + 8) cells rest
      ∙ ap (slice_get cells) back

  -- elsewhere the cell is the page's
  pub with_block_there : (j : ℕ) → j / 8 ≢ block_index → slice_get (with_block cells block_index new) j ≡ slice_get cells j
  with_block_there j other = elim (cases_lt j (block_index * 8)) [
    | inl lt ↦ before_block j lt
    | inr le ↦ after_block j (grind (arith, other, le))
  ]

  -- another block stays
  pub with_block_other : (other : ℕ) → other ≢ block_index → block_in (with_block cells block_index new) other ≡ block_in cells other
  with_block_other other differs = same_list _ _ (λ i. elim (cases_lt i 8) [
    | inl lt ↦ block_get (with_block cells block_index new) other i lt ∙ with_block_there (other * 8 + i) (λ same. differs (omega arith)) ∙ sym (block_get cells other i lt)
    | inr le ↦ block_past (with_block cells block_index new) other i le ∙ sym (block_past cells other i le)
  ])

-- a block of a memory

mapped_page : (o : Option (List Cell)) → is_some o ≡ true → (cells : List Cell) × (o ≡ Some cells)
mapped_page None h = cc
mapped_page (Some cells) h = (cells, refl)

-- the cells of a page that is mapped
pub page_there : (m : Memory) (k : ℕ) → is_mapped m k ≡ true → (cells : List Cell) × (page_at m k ≡ Some cells)
page_there m k h = mapped_page (page_at m k) h

block_page : (o : Option (List Cell)) (block : ℕ) (cells : List Cell) → block_of_page o block ≡ Some cells → (page : List Cell) × (o ≡ Some page) × (block_in page (place_of_block block) ≡ cells)
block_page None block cells h = cc
block_page (Some page) block cells h = (page, refl, cc)

-- the page of a block that is there
pub page_of_there : (m : Memory) (block : ℕ) (cells : List Cell) → block_at m block ≡ Some cells
    → (page : List Cell) × (page_at m (page_of_block block) ≡ Some page) × (block_in page (place_of_block block) ≡ cells)
page_of_there m block cells h = block_page (page_at m (page_of_block block)) block cells h

-- a block has room in a whole page
pub block_fits : (m : Memory) (block : ℕ) (page : List Cell) → IsPaged m → page_at m (page_of_block block) ≡ Some page → place_of_block block * 8 + 8 ≤ length page
block_fits m block page paged is = omega (arith, (page_whole m paged (page_of_block block) page is).cells)

-- a block of a memory of whole pages has eight cells
pub block_at_length : (m : Memory) (block : ℕ) (cells : List Cell) → IsPaged m → block_at m block ≡ Some cells → length cells ≡ 8
block_at_length m block cells paged h =
    let found = page_of_there m block cells h in
    sym (ap length found.2) ∙ block_length found.0 (place_of_block block) (block_fits m block found.0 paged found.1)

module _ (m : Memory) (block : ℕ) (new page : List Cell) (is : page_at m (page_of_block block) ≡ Some page) where
  pub put_block_frames : (put_block m block new).frames ≡ m.frames
  put_block_frames = ap (λ (n : Memory). n.frames) (put_block-mapped m block new page is)

  pub put_block_here : page_at (put_block m block new) (page_of_block block) ≡ Some (with_block page (place_of_block block) new)
  put_block_here = page_at-written m block new page is

  pub put_block_there : (k : ℕ) → k ≢ page_of_block block → page_at (put_block m block new) k ≡ page_at m k
  put_block_there k other = page_at-other m block new k other

  pub put_block_mapped : (k : ℕ) → is_mapped (put_block m block new) k ≡ is_mapped m k
  put_block_mapped k = is_mapped-put_block m block new k
