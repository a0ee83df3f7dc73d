-- What an access, a mapped page and a removed page keep of a memory.
use Rattle.std.proofs.Common.{◌≡◌, ◌≢◌, ℕ, zero, suc, ◌%◌, ◌<◌, ◌≤◌, Bool, true, false, not, nat_eq, nat_lt, ◌&&◌, ◌==◌}
use Rattle.std.proofs.Common.{T, List, [], ◌∷◌, length, slice_get, get_or, Option, Some, None, is_some, refl, ap, ◌∙◌}
use Rattle.std.proofs.{Common.{if◌then◌else◌, arith}, lemmas.Bool.Decides.nat_tests}
use Rattle.std.specs.{Ordering.nat_cmp, List.filter, FinMap.{find, is_sorted}}
use Rattle.mm_word.specs.declared.word.{Word.Word, Cell.Cell, Pre.Pre, Post.Post}
use Rattle.mm_model.specs.Memory.{Memory, page_of, is_mapped, cell_at, can_map, put_cell, map_page, unmap_page}
use Rattle.mm_model.specs.Memory.{zero_cell, passes, full_after, IsPaged}
use Rattle.mm_mem.specs.Answers.{loaded, stored, put_where, set_where, after_load, after_store, after_map, after_unmap}
use Rattle.mm_mem.specs.Laws.{RefusalsChangeNothing, LoadsSetOneBit, StoresWriteOneCell, AccessesKeepPages, MapsOnePage}
use Rattle.mm_mem.specs.Laws.{UnmapsOnePage, RemovedPagesComeBackEmpty, FramesStay, CallsKeepPaged, ContentsAreThePages}
use Rattle.mm_mem.{specs.Places.IsAt, proofs.Places.{held, found_at}}
use Rattle.mm_word.specs.declared.word.Post.TheVariants as posts
use Rattle.mm_model.proofs.Memories as cells
use Rattle.mm_mem.specs.declared.answer.Loaded.TheVariants as loads
use Rattle.mm_mem.specs.declared.answer.Stored.TheVariants as stores

-- accesses

-- what holds of a memory, and after each cell that is written at w, holds after an access there
put_where_keeps : (P : Memory → Type 0) (m : Memory) (w : ℕ) (pre : Pre) (o : Option Cell) (f : Cell → Cell) → P m → ((c d : Cell) → o ≡ Some c → P (put_cell m w d)) → P (put_where m w pre o f)
put_where_keeps P m w pre None f same written = same
put_where_keeps P m w pre (Some c) f same written =
    elim (passes pre c.full) as (λ b. P (if b then put_cell m w (f c) else m)) [ true ↦ written c (f c) refl | false ↦ same ]

put_where_passed : (m : Memory) (w : ℕ) (pre : Pre) (c : Cell) (f : Cell → Cell) → cell_at m w ≡ Some c → passes pre c.full ≡ true → put_where m w pre (cell_at m w) f ≡ put_cell m w (f c)
put_where_passed m w pre c f here passed =
    ap (λ o. put_where m w pre o f) here ∙ ap (λ b. if b then put_cell m w (f c) else m) passed

put_where_own : (m : Memory) (w : ℕ) (pre : Pre) (c : Cell) (f : Cell → Cell) → cell_at m w ≡ Some c → passes pre c.full ≡ true → cell_at (put_where m w pre (cell_at m w) f) w ≡ Some (f c)
put_where_own m w pre c f here passed = ap (λ n. cell_at n w) (put_where_passed m w pre c f here passed) ∙ cells.cell_at-put_same m w (f c) c here

put_where_other : (m : Memory) (w : ℕ) (pre : Pre) (f : Cell → Cell) (v : ℕ) → v ≢ w → cell_at (put_where m w pre (cell_at m w) f) v ≡ cell_at m v
put_where_other m w pre f v ne =
    put_where_keeps (λ n. cell_at n v ≡ cell_at m v) m w pre (cell_at m w) f refl (λ c d here. cells.cell_at-put_other m w v d (cells.aligned m w c here) ne)

refused_load : (m : Memory) (w : ℕ) (pre : Pre) (f : Cell → Cell) (o : Option Cell) → ((v : Word) → loaded pre o ≢ loads.Value v) → put_where m w pre o f ≡ m
refused_load m w pre f None refused = refl
refused_load m w pre f (Some c) refused =
    elim (passes pre c.full) as (λ b. ((v : Word) → (if b then loads.Value c.word else loads.NotReady) ≢ loads.Value v) → (if b then put_cell m w (f c) else m) ≡ m) [
      | true ↦ λ h. absurd (h c.word refl)
      | false ↦ λ h. refl
    ] refused

refused_store : (m : Memory) (w : ℕ) (pre : Pre) (f : Cell → Cell) (o : Option Cell) → stored pre o ≢ stores.Done → put_where m w pre o f ≡ m
refused_store m w pre f None refused = refl
refused_store m w pre f (Some c) refused =
    elim (passes pre c.full) as (λ b. (if b then stores.Done else stores.NotReady) ≢ stores.Done → (if b then put_cell m w (f c) else m) ≡ m) [
      | true ↦ λ h. absurd (h refl)
      | false ↦ λ h. refl
    ] refused

abbrev bit_set : Post → Cell → Cell
bit_set post c = record c { full = full_after post c.full }

-- what a load leaves is what it would write, or the memory itself where it keeps the bit
set_or : (P : Memory → Type 0) (m : Memory) (w : ℕ) (pre : Pre) (post : Post) (o : Option Cell) → (post ≡ posts.Keep → P m) → P (put_where m w pre o (bit_set post)) → P (set_where m w pre post o)
set_or P m w pre posts.Keep None keep k = keep refl
set_or P m w pre posts.Keep (Some c) keep k = elim (passes pre c.full) as (λ b. P (if b then m else m)) [ true ↦ keep refl | false ↦ keep refl ]
set_or P m w pre posts.Full None keep k = k
set_or P m w pre posts.Full (Some c) keep k = k
set_or P m w pre posts.Empty None keep k = k
set_or P m w pre posts.Empty (Some c) keep k = k

own_bit : (m : Memory) (w : ℕ) (post : Post) (c : Cell) → cell_at m w ≡ Some c → post ≡ posts.Keep → cell_at m w ≡ Some (record { word = c.word; full = full_after post c.full })
own_bit m w posts.Keep c here e = here
own_bit m w posts.Full c here e = cc
own_bit m w posts.Empty c here e = cc

abbrev written : Word → Post → Cell → Cell
written word post c = record { word = word; full = full_after post c.full }

pub refusals : RefusalsChangeNothing
refusals = record {
  load = λ m w pre post refused. set_or (λ n. n ≡ m) m w pre post (cell_at m w) (λ e. refl) (refused_load m w pre (bit_set post) (cell_at m w) refused);
  store = λ m w word pre post refused. refused_store m w pre (written word post) (cell_at m w) refused;
}

pub one_bit : LoadsSetOneBit
one_bit = record {
  own = λ m w pre post c here passed.
      set_or (λ n. cell_at n w ≡ Some (record { word = c.word; full = full_after post c.full })) m w pre post (cell_at m w) (own_bit m w post c here)
      (put_where_own m w pre c (bit_set post) here passed);
  other = λ m w pre post v ne. set_or (λ n. cell_at n v ≡ cell_at m v) m w pre post (cell_at m w) (λ e. refl) (put_where_other m w pre (bit_set post) v ne);
}

pub one_cell : StoresWriteOneCell
one_cell = record {
  own = λ m w word pre post c here passed. put_where_own m w pre c (written word post) here passed;
  other = λ m w word pre post v ne. put_where_other m w pre (written word post) v ne;
}

put_where_mapped : (m : Memory) (w : ℕ) (pre : Pre) (f : Cell → Cell) (p : ℕ) → is_mapped (put_where m w pre (cell_at m w) f) p ≡ is_mapped m p
put_where_mapped m w pre f p = put_where_keeps (λ n. is_mapped n p ≡ is_mapped m p) m w pre (cell_at m w) f refl (λ c d here. cells.is_mapped-put m w d p)

put_where_frames : (m : Memory) (w : ℕ) (pre : Pre) (f : Cell → Cell) → (put_where m w pre (cell_at m w) f).frames ≡ m.frames
put_where_frames m w pre f = put_where_keeps (λ n. n.frames ≡ m.frames) m w pre (cell_at m w) f refl (λ c d here. cells.put_frames m w d)

put_where_paged : (m : Memory) (w : ℕ) (pre : Pre) (f : Cell → Cell) → IsPaged m → IsPaged (put_where m w pre (cell_at m w) f)
put_where_paged m w pre f h = put_where_keeps IsPaged m w pre (cell_at m w) f h (λ c d here. cells.put_paged m w d h)

pub accesses_keep_pages : AccessesKeepPages
accesses_keep_pages = record {
  load = λ m w pre post p. set_or (λ n. is_mapped n p ≡ is_mapped m p) m w pre post (cell_at m w) (λ e. refl) (put_where_mapped m w pre (bit_set post) p);
  store = λ m w word pre post p. put_where_mapped m w pre (written word post) p;
}

-- mapping and removing

chosen : (P : Memory → Type 0) (b : Bool) (x y : Memory) → (b ≡ true → P x) → (b ≡ false → P y) → P (if b then x else y)
chosen P true x y there absent = there refl
chosen P false x y there absent = absent refl

joined : (mapped : Bool) (pages frames : ℕ) → mapped ≡ false → pages < frames → (not mapped && nat_lt pages frames) ≡ true
joined true pages frames e lt = cc
joined false pages frames e lt = grind (arith, nat_tests)

can_map-from : (m : Memory) (p : ℕ) → is_mapped m p ≡ false → length m.pages < m.frames → can_map m p ≡ true
unfolding can_map
can_map-from m p absent room = joined (is_mapped m p) (length m.pages) m.frames absent room

map_own : (m : Memory) (p w : ℕ) → can_map m p ≡ true → w % 8 ≡ 0 → page_of w ≡ p → cell_at (after_map m p) w ≡ Some zero_cell
map_own m p w can a s = ap (λ b. cell_at (if b then map_page m p else m) w) can ∙ cells.cell_at-map_same m p w a s

pub one_page_mapped : MapsOnePage
one_page_mapped = record {
  answer = λ m p. (λ can. cells.can_map-facts m p can, λ h. can_map-from m p h.0 h.1);
  own = map_own;
  other = λ m p w ne. chosen (λ n. cell_at n w ≡ cell_at m w) (can_map m p) (map_page m p) m (λ e. cells.cell_at-map_other m p w ne) (λ e. refl);
  refused = λ m p cannot. ap (λ b. if b then map_page m p else m) cannot;
}

unmapped_cell : (m : Memory) (w : ℕ) → is_mapped m (page_of w) ≡ false → cell_at m w ≡ None
unmapped_cell m w absent = go (cell_at m w) refl
  where
    go : (o : Option Cell) → cell_at m w ≡ o → cell_at m w ≡ None
    go None e = e
    go (Some c) e = let there = ap is_some (cells.page_of_cell m w c e).1 in absurd (cc)

pub one_page_removed : UnmapsOnePage
one_page_removed = record {
  own = λ m p w s. chosen (λ n. cell_at n w ≡ None) (is_mapped m p) (unmap_page m p) m (λ e. cells.cell_at-unmap_same m p w s) (λ e. unmapped_cell m w (ap (is_mapped m) s ∙ e));
  other = λ m p w ne. chosen (λ n. cell_at n w ≡ cell_at m w) (is_mapped m p) (unmap_page m p) m (λ e. cells.cell_at-unmap_other m p w ne) (λ e. refl);
  refused = λ m p absent. ap (λ b. if b then unmap_page m p else m) absent;
}

abbrev without : ℕ → List (ℕ × List Cell) → List (ℕ × List Cell)
without k es = filter (λ e. not (e.0 == k)) es

no_longer : (k : ℕ) (es : List (ℕ × List Cell)) → length (without k es) ≤ length es
no_longer k [] = omega arith
no_longer k (e ∷ es) = grind (arith, nat_tests, no_longer k es)

one_fewer : (k : ℕ) (es : List (ℕ × List Cell)) → is_some (find nat_cmp k es) ≡ true → length (without k es) < length es
one_fewer k [] found = cc
one_fewer k (e ∷ es) found = grind (arith, nat_tests, no_longer k es, one_fewer k es)

pub shorter : (m : Memory) (p : ℕ) → is_mapped m p ≡ true → length (unmap_page m p).pages < length m.pages
unfolding unmap_page
shorter m p there = one_fewer p m.pages there

pub come_back_empty : RemovedPagesComeBackEmpty
come_back_empty m p w paged there a s =
    let removed : after_unmap m p ≡ unmap_page m p = ap (λ b. if b then unmap_page m p else m) there in
    let fewer = shorter m p there in
    let room : length (unmap_page m p).pages < (unmap_page m p).frames = omega (arith, paged.fitting, cells.unmap_frames m p) in
    let can = can_map-from (unmap_page m p) p (ap is_some (cells.page_at-unmap_same m p)) room in
    ap (λ n. cell_at (after_map n p) w) removed ∙ map_own (unmap_page m p) p w can a s

pub load_frames : (m : Memory) (w : ℕ) (pre : Pre) (post : Post) → (after_load m w pre post).frames ≡ m.frames
load_frames m w pre post = set_or (λ n. n.frames ≡ m.frames) m w pre post (cell_at m w) (λ e. refl) (put_where_frames m w pre (bit_set post))

pub store_frames : (m : Memory) (w : ℕ) (word : Word) (pre : Pre) (post : Post) → (after_store m w word pre post).frames ≡ m.frames
store_frames m w word pre post = put_where_frames m w pre (written word post)

pub map_frames : (m : Memory) (p : ℕ) → (after_map m p).frames ≡ m.frames
map_frames m p = chosen (λ n. n.frames ≡ m.frames) (can_map m p) (map_page m p) m (λ e. cells.map_frames m p) (λ e. refl)

pub unmap_frames : (m : Memory) (p : ℕ) → (after_unmap m p).frames ≡ m.frames
unmap_frames m p = chosen (λ n. n.frames ≡ m.frames) (is_mapped m p) (unmap_page m p) m (λ e. cells.unmap_frames m p) (λ e. refl)

pub frames_stay : FramesStay
frames_stay = record {
  load = load_frames;
  store = store_frames;
  map = map_frames;
  unmap = unmap_frames;
}

pub paged_stay : CallsKeepPaged
paged_stay = record {
  load = λ m w pre post h. set_or IsPaged m w pre post (cell_at m w) (λ e. h) (put_where_paged m w pre (bit_set post) h);
  store = λ m w word pre post h. put_where_paged m w pre (written word post) h;
  map = λ m p lt h. chosen IsPaged (can_map m p) (map_page m p) m (λ can. cells.map_paged m p h can lt) (λ e. h);
  unmap = λ m p h. chosen IsPaged (is_mapped m p) (unmap_page m p) m (λ e. cells.unmap_paged m p h) (λ e. h);
}

-- contents

at_get : (es : List (ℕ × List Cell)) (i : ℕ) (e : ℕ × List Cell) → slice_get es i ≡ Some e → IsAt e.0 es i × ((d : ℕ × List Cell) → get_or es i d ≡ e)
at_get [] i e h = cc
at_get (x ∷ xs) zero e h = let same : x ≡ e = cc in (record { in_range = omega arith; has_number = λ d. ap (λ (y : ℕ × List Cell). y.0) same }, λ d. same)
at_get (x ∷ xs) (suc i) e h =
    let rest = at_get xs i e h in
    (record { in_range = omega (arith, rest.0.in_range); has_number = λ d. rest.0.has_number d }, λ d. rest.1 d)

each_page : (es : List (ℕ × List Cell)) (i : ℕ) (e : ℕ × List Cell) → T (is_sorted nat_cmp es) → slice_get es i ≡ Some e → find nat_cmp e.0 es ≡ Some e.1
each_page es i e rising h = let at = at_get es i e h in found_at e.0 es i rising at.0 e ∙ ap (λ (x : ℕ × List Cell). Some x.1) (at.1 e)

here_or_later : (e : ℕ × List Cell) (es : List (ℕ × List Cell)) (p : ℕ) (v : List Cell) (b : Bool) → nat_eq p e.0 ≡ b → find nat_cmp p (e ∷ es) ≡ Some v
    → (find nat_cmp p es ≡ Some v → (i : ℕ) × (slice_get es i ≡ Some (p, v))) → (i : ℕ) × (slice_get (e ∷ es) i ≡ Some (p, v))
here_or_later e es p v true same h later = (0, grind (arith, nat_tests, h, same))
here_or_later e es p v false other h later = let rest = later (grind (arith, nat_tests, h, other)) in (suc rest.0, rest.1)

only_pages : (es : List (ℕ × List Cell)) (p : ℕ) (v : List Cell) → find nat_cmp p es ≡ Some v → (i : ℕ) × (slice_get es i ≡ Some (p, v))
only_pages [] p v h = cc
only_pages (e ∷ es) p v h = here_or_later e es p v (nat_eq p e.0) refl h (only_pages es p v)

pub contents : ContentsAreThePages
contents = record {
  each = λ pages frames i e rising h. each_page pages i e (held _ rising) h;
  only = λ pages frames p v h. only_pages pages p v h;
}
