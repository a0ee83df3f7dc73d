-- What is granted to groups that stand apart is granted in both images, and memories with the same cells are equal.
use Rattle.std.proofs.Common.{◌≡◌, ℕ, suc, ◌+◌, ◌*◌, ◌%◌, ◌^◌, ◌<◌, ◌≤◌, inl, inr, Bool, true, List, [], ◌∷◌, length}
use Rattle.std.proofs.Common.{slice_get, Option, Some, None, refl, sym, ap, ◌∙◌, subst, arith, T}
use Rattle.std.proofs.{Math.Nat.div-eq_of_lt, lemmas.{Cmp.nat_cmp_total, Bool.{cases_Bool, and_parts}}}
use Rattle.std.specs.{Prelude.Contains, List.filter, Ordering.nat_cmp}
use Rattle.std.specs.FinMap.{nat_cmp-IsAntisymmetric, Entries.same_entries}
use Rattle.mm_word.specs.declared.perm.Perm.{Perm, TheVariants.Ro}
use Rattle.mm_word.specs.declared.perm.Kind.{Kind, TheVariants.{Fetch, Load, LoadSet, Store}}
use Rattle.mm_word.specs.{declared.word.Cell.Cell, Access.AccessValue, Perm.{allows, can_load, can_store}}
use Rattle.mm_word.{specs.Pointer.{Pointer, IsWellFormed, Covers}, proofs.Rights.{can_fetch-loads, can_store-loads}}
use Rattle.mm_model.specs.{Memory.{Memory, page_of, place_of, page_at, cell_in, cell_at, IsPaged}, Slot.Slot}
use Rattle.mm_model.specs.{State.{Core, slot_at}, Image.Image, Fits.identity_of}
use Rattle.mm_model.specs.Reach.{Grants, Serves, Grants.below, Entries.All}
use Rattle.mm_model.specs.Worlds.{Touchable, IsPrivileged, Apart, Agree}
use Rattle.mm_model.proofs.{CoreRows.identities_of, Memories.{cell_at-aligned, page_whole}}
use Rattle.mm_model.proofs.Filters.{contained_filter, filter_contained}
use Rattle.mm_laws.{specs.Granted.TouchGranted, proofs.GrantedWords.image_slot}

-- 1. Sides.

-- a slot and its handler are on one side, in the image and so in each state
pub one_side : (i : Image) (c : ℕ → Bool) → Apart i All c → (g h : ℕ) → Serves i g h → c g ≡ c h
one_side i c apart g h sv =
    let side = apart.handlers sv.served sv.server sv.one sv.other sv.handled in
    elim sv.groups [
      | inl p ↦ sym (ap c p.0) ∙ side ∙ ap c p.1
      | inr p ↦ sym (ap c p.1) ∙ sym side ∙ ap c p.0
    ]

pub state_side : (i : Image) (c : ℕ → Bool) → Apart i All c → (core : Core) → identities_of core ≡ Rattle.std.proofs.Common.map identity_of i.slots
    → (m n : ℕ) (y x : Slot) → slot_at core m ≡ Some y → slot_at core n ≡ Some x → y.handler ≡ Some x.number → c y.group ≡ c x.group
state_side i c apart core same m n y x at_y at_x handled =
    let u = image_slot i core same m y at_y in
    let v = image_slot i core same n x at_x in
    let number : v.slot.number ≡ x.number = ap (λ (z : ℕ × ℕ × Option ℕ). z.0) v.same in
    let handler : u.slot.handler ≡ Some v.slot.number = ap (λ (z : ℕ × ℕ × Option ℕ). z.2) u.same ∙ handled ∙ ap (λ (k : ℕ). Some k) (sym number) in
    sym (ap (λ (z : ℕ × ℕ × Option ℕ). c z.1) u.same) ∙ apart.handlers u.slot v.slot u.stands v.stands handler ∙ ap (λ (z : ℕ × ℕ × Option ℕ). c z.1) v.same

-- 2. Grants in both images.

-- the slots of the groups in one image stand in the other
abbrev pub SlotsIn : (ℕ → Bool) → Image → Image → Type 0
SlotsIn c i j = (s : Slot) → Contains i.slots s → c s.group ≡ true → Contains j.slots s

pub slots_in : (i j : Image) (c : ℕ → Bool) → filter (λ (s : Slot). c s.group) i.slots ≡ filter (λ (s : Slot). c s.group) j.slots → SlotsIn c i j
slots_in i j c same s is cs =
    (filter_contained (λ (x : Slot). c x.group) j.slots s (subst (λ (l : List Slot). Contains l s) same (contained_filter (λ (x : Slot). c x.group) i.slots s is cs))).0

module _ (i j : Image) (c : ℕ → Bool) (there : SlotsIn c i j) (cells : (w : ℕ) → Touchable i All c w → Touchable j All c w → cell_at i.memory w ≡ cell_at j.memory w) (apart : Apart i All c) where
  serves_there : (g h : ℕ) → c g ≡ true → Serves i g h → Serves j g h
  serves_there g h cg sv =
      let ch : c h ≡ true = sym (one_side i c apart g h sv) ∙ cg in
      let both : (c sv.served.group ≡ true) × (c sv.server.group ≡ true) =
      elim sv.groups [ inl p ↦ (ap c p.0 ∙ cg, ap c p.1 ∙ ch) | inr p ↦ (ap c p.0 ∙ ch, ap c p.1 ∙ cg) ] in
      record { served = sv.served; server = sv.server; one = there sv.served sv.one both.0; other = there sv.server sv.other both.1; handled = sv.handled; groups = sv.groups }

  -- what is granted to one of the groups in one image is granted to it in the other
  pub carry : {g : ℕ} {q : Pointer} → Grants i All g q → c g ≡ true → Grants j All g q
  carry (Grants.in_register s a b r) cg = Grants.in_register s (there s a (ap c b ∙ cg)) b r
  carry (Grants.runs_by s a b r) cg = Grants.runs_by s (there s a (ap c b ∙ cg)) b r
  carry (Grants.in_cell {g = g} p w x gp l a b) cg =
      let gq = carry gp cg in
      Grants.in_cell p w x gq l (sym
      (cells w (record { group = g; member = cg; touches = record { by = p; granted = gp; loads = l } })
      (record { group = g; member = cg; touches = record { by = p; granted = gq; loads = l } })) ∙ a) b
  carry (below p gp b) cg = below p (carry gp cg) b
  carry (Grants.passed {g = g} h w p r gq gp st gr l) cg =
      let ch : c h ≡ true =
      elim (cases_Bool (c h)) [
        | inl y ↦ y
        | inr n ↦ absurd (apart.writes h w n (record { by = p; granted = gp; stores = st }) (record { group = g; member = cg; touches = record { by = r; granted = gr; loads = l } }))
      ] in
      Grants.passed h w p r (carry gq ch) (carry gp ch) st (carry gr cg) l
  carry (Grants.entered p gp a may b) cg = Grants.entered p (carry gp cg) a tt b
  carry (Grants.served {g = g} h gq s) cg = Grants.served h (carry gq (sym (one_side i c apart g h s) ∙ cg)) (serves_there g h cg s)
  carry (Grants.made p gp a b) cg = Grants.made p (carry gp cg) a b

  pub touchable_there : (w : ℕ) → Touchable i All c w → Touchable j All c w
  touchable_there w h = record { group = h.group; member = h.member; touches = record { by = h.touches.by; granted = carry h.touches.granted h.member; loads = h.touches.loads } }

-- so the words that the groups can touch are the same in both
pub touchable_other : (i j : Image) (c : ℕ → Bool) → Agree i j c → Apart i All c → (w : ℕ) → Touchable i All c w → Touchable j All c w
touchable_other i j c agree apart w h = touchable_there i j c (slots_in i j c agree.slots) (λ v a b. agree.cells v a) apart w h

pub touchable_back : (i j : Image) (c : ℕ → Bool) → Agree i j c → Apart j All c → (w : ℕ) → Touchable j All c w → Touchable i All c w
touchable_back i j c agree apart w h = touchable_there j i c (slots_in j i c (sym agree.slots)) (λ v a b. sym (agree.cells v b)) apart w h

-- 3. What the groups touch.

kind_loads : (k : Kind) (p : Perm) → allows p k ≡ true → can_load p ≡ true
kind_loads Fetch p e = can_fetch-loads p e
kind_loads Load p e = e
kind_loads LoadSet p e = (and_parts (can_load p) (can_store p) e).0
kind_loads Store p e = can_store-loads p e

-- a granted touch of one of the groups is at a word that they can touch
pub touch_known : (i : Image) (c : ℕ → Bool) (g : ℕ) (t : AccessValue) → c g ≡ true → TouchGranted i All g t → Touchable i All c t.addr
touch_known i c g t cg h =
    record { group = g; member = cg; touches = record { by = h.by; granted = h.granted; loads = record { word = h.aligned; right = kind_loads t.kind h.by.perm h.right; covers = h.covers } } }

-- privileged code can touch every word
wide : Pointer
wide = record { perm = Ro; log = 54; addr = 0 }

wide_covers : (w : ℕ) → w + 8 ≤ 2 ^ 54 → Covers wide w
unfolding wide
wide_covers w fits k lt = div-eq_of_lt (omega arith)

wide_fits : IsWellFormed wide
unfolding wide
wide_fits = record { log_in_range = omega arith; addr_in_range = omega arith }

wide_loads : can_load wide.perm ≡ true
unfolding wide
wide_loads = refl

pub touches_all : (i : Image) (c : ℕ → Bool) → IsPrivileged i All c → (w : ℕ) → w % 8 ≡ 0 → w + 8 ≤ 2 ^ 54 → Touchable i All c w
touches_all i c h w word near = record {
  group = h.group;
  member = h.member;
  touches = record {
    by = wide;
    granted = Grants.made h.privileged.by h.privileged.granted h.privileged.perm wide_fits;
    loads = record { word = word; right = wide_loads; covers = wide_covers w near };
  };
}

-- 4. Memories with the same cells at every word are equal.

word_at : ℕ → ℕ → ℕ
word_at q k = 4096 * q + 8 * k

word_aligned : (q k : ℕ) → word_at q k % 8 ≡ 0
unfolding word_at
word_aligned q k = omega arith

cell_of : (m : Memory) (q k : ℕ) → k < 512 → cell_at m (word_at q k) ≡ cell_in (page_at m q) k
unfolding word_at
cell_of m q k lt =
    let a : (4096 * q + 8 * k) % 8 ≡ 0 = omega arith in
    let p : page_of (4096 * q + 8 * k) ≡ q = omega arith in
    let r : place_of (4096 * q + 8 * k) ≡ k = omega arith in
    cell_at-aligned m (4096 * q + 8 * k) a ∙ ap (λ x. cell_in (page_at m x) (place_of (4096 * q + 8 * k))) p ∙ ap (cell_in (page_at m q)) r

word_fits : (q k : ℕ) → q < 2 ^ 42 → k < 512 → word_at q k + 8 ≤ 2 ^ 54
unfolding word_at
word_fits q k lt lk = omega arith

same_cells : (a b : List Cell) → length a ≡ length b → ((k : ℕ) → k < length a → slice_get a k ≡ slice_get b k) → a ≡ b
same_cells [] [] e h = refl
same_cells [] (y ∷ ys) e h = absurd (omega arith)
same_cells (x ∷ xs) [] e h = absurd (omega arith)
same_cells (x ∷ xs) (y ∷ ys) e h =
    let first : ◌≡◌ {A = Option Cell} (Some x) (Some y) = h 0 (omega arith) in
    let rest : xs ≡ ys = same_cells xs ys (omega arith) (λ k lt. h (suc k) (omega arith)) in
    let head : x ≡ y = cc in
    cc

has_first : (a : List Cell) → 0 < length a → slice_get a 0 ≡ None → ⊥
has_first [] lt e = omega arith
has_first (x ∷ xs) lt e = cc

same_page : (o p : Option (List Cell)) → ((cells : List Cell) → o ≡ Some cells → length cells ≡ 512) → ((cells : List Cell) → p ≡ Some cells → length cells ≡ 512)
    → ((k : ℕ) → k < 512 → cell_in o k ≡ cell_in p k) → o ≡ p
same_page None None h k same = refl
same_page None (Some b) h k same = let e = k b refl in absurd (has_first b (omega arith) (sym (same 0 (omega arith))))
same_page (Some a) None h k same = let e = h a refl in absurd (has_first a (omega arith) (same 0 (omega arith)))
same_page (Some a) (Some b) h k same =
    let ea = h a refl in
    let eb = k b refl in
    ap (λ (x : List Cell). Some x) (same_cells a b (ea ∙ sym eb) (λ n lt. same n (omega arith)))

page_bound : (m n : Memory) → IsPaged m → IsPaged n → (q : ℕ) (o p : Option (List Cell)) → page_at m q ≡ o → page_at n q ≡ p → (q < 2 ^ 42 → o ≡ p) → o ≡ p
page_bound m n hm hn q None None eo ep f = refl
page_bound m n hm hn q None (Some b) eo ep f = f (page_whole n hn q b ep).number
page_bound m n hm hn q (Some a) p eo ep f = f (page_whole m hm q a eo).number

pub whole_memory : (m n : Memory) → IsPaged m → IsPaged n → m.frames ≡ n.frames → ((w : ℕ) → w % 8 ≡ 0 → w + 8 ≤ 2 ^ 54 → cell_at m w ≡ cell_at n w) → m ≡ n
whole_memory m n hm hn frames same =
    let pages : m.pages ≡ n.pages =
    same_entries nat_cmp nat_cmp_total nat_cmp-IsAntisymmetric m.pages n.pages (subst T (sym hm.pages.rising) tt) (subst T (sym hn.pages.rising) tt)
    (λ q. page_bound m n hm hn q (page_at m q) (page_at n q) refl refl
    (λ lt. same_page (page_at m q) (page_at n q) (λ cells is. (page_whole m hm q cells is).cells) (λ cells is. (page_whole n hn q cells is).cells)
    (λ k lk. sym (cell_of m q k lk) ∙ same (word_at q k) (word_aligned q k) (word_fits q k lt lk) ∙ cell_of n q k lk))) in
    let one : ◌≡◌ {A = Memory} m (record m { pages = n.pages }) = ap (λ (p : List (ℕ × List Cell)). record m { pages = p }) pages in
    let two : ◌≡◌ {A = Memory} (record m { pages = n.pages }) n = ap (λ (f : ℕ). record n { frames = f }) frames in
    one ∙ two
