-- The slots of groups that stand apart, alone or with the pages that they can touch, are an image that agrees with the whole on them.
use Rattle.std.proofs.Common.{◌≡◌, ℕ, suc, ◌+◌, ◌*◌, ◌^◌, ◌⊎◌, inl, inr, Bool, true, List, [], ◌∷◌, slice_get, Some}
use Rattle.std.proofs.{Common.{refl, sym, ap, ◌∙◌, subst, arith, T}, lemmas.Bool.{both_ways, cases_lt}}
use Rattle.std.specs.{Prelude.Contains, List.{AllByRecursion, filter}}
use Rattle.mm_word.specs.{declared.word.{Word.{Word, TheVariants.{Int, Ptr}}, Cell.Cell}, Pointer.Pointer, Word.IsWord}
use Rattle.mm_model.specs.{Memory.{cell_in, cell_at, zero_cell}, Slot.Slot, Image.Image}
use Rattle.mm_model.specs.{Groups.{own_slots, HasSlot, HandlersStayInside}, Spelling.{HoldsWords, IsImage}}
use Rattle.mm_model.specs.Reach.{Entries, Grants, Serves, Grants.below, Entries.All}
use Rattle.mm_model.specs.Worlds.{Touchable, Apart, Extracts, alone}
use Rattle.mm_model.proofs.{EffectWords.cell_words, Memories.page_whole, Filters.{filter_again, filter_contained}}
use Rattle.mm_model.proofs.OwnSlots.{own_image}
use Rattle.mm_laws.{specs.Isolated.AgreeApart, proofs.{CellViews.IsIn, ChangedCells.{found_page, cell_of, get_short}}}

-- 1. Nothing is granted to other groups there.

module _ (j : Image) (c : ℕ → Bool) (all : (s : Slot) → Contains j.slots s → c s.group ≡ true) where
  serves_in : (g h : ℕ) → Serves j g h → c g ≡ true
  serves_in g h sv = elim sv.groups [
    | inl p ↦ sym (ap c p.0) ∙ all sv.served sv.one
    | inr p ↦ sym (ap c p.1) ∙ all sv.server sv.other
  ]

  granted_in : (e : Entries) {g : ℕ} {q : Pointer} → Grants j e g q → c g ≡ true
  granted_in e (Grants.in_register s a b r) = sym (ap c b) ∙ all s a
  granted_in e (Grants.runs_by s a b r) = sym (ap c b) ∙ all s a
  granted_in e (Grants.in_cell p w x gp l a b) = granted_in e gp
  granted_in e (below p gp b) = granted_in e gp
  granted_in e (Grants.passed h w p r gq gp st gr l) = granted_in e gr
  granted_in e (Grants.entered p gp a may b) = granted_in e gp
  granted_in e (Grants.served {g = g} h gq s) = serves_in g h s
  granted_in e (Grants.made p gp a b) = granted_in e gp

  own_apart : Apart j All c
  own_apart = record {
    writes = λ g w out writes touches. both_ways (c g) out (granted_in All writes.granted);
    handlers = λ s h s_is h_is handled. all s s_is ∙ sym (all h h_is);
  }

-- 2. The groups' slots alone.

apart_inside : (i : Image) (c : ℕ → Bool) → Apart i All c → HandlersStayInside i c
apart_inside i c apart s h s_is h_is handled inside = sym (apart.handlers s h s_is h_is handled) ∙ inside

pub alone_agrees : (i : Image) (c : ℕ → Bool) → IsImage i → HasSlot i c → Apart i All c → AgreeApart i (alone i c) c
unfolding alone
alone_agrees i c img has apart = record {
  one = img;
  other = own_image i c img has (apart_inside i c apart) i.memory refl img.paged img.words;
  agree = record {
    version = refl;
    mode = refl;
    slots = sym (filter_again (λ (s : Slot). c s.group) i.slots);
    cells = λ w t. refl;
    frames = λ p. refl;
  };
  one_apart = apart;
  other_apart = own_apart (record i { slots = own_slots c i.slots }) c (λ s is. (filter_contained (λ (x : Slot). c x.group) i.slots s is).1);
}

-- 3. An extracted image.

word_cases : (w : Word) → IsWord w ⊎ (IsWord w → ⊥)
word_cases (Int n) = elim (cases_lt n (2 ^ 64)) [
  | inl lt ↦ inl lt
  | inr le ↦ inr (λ h. omega arith)
]
word_cases (Ptr p) = elim (cases_lt p.log 55) [
  | inl low ↦ elim (cases_lt p.addr (2 ^ 54)) [
    | inl lt ↦ inl (record { log_in_range = omega arith; addr_in_range = lt })
    | inr le ↦ inr (λ h. let small = h.addr_in_range in omega arith)
  ]
  | inr high ↦ inr (λ h. let small = h.log_in_range in omega arith)
]

each_got : {A : Type 0} (P : A → Type 0) (xs : List A) → ((k : ℕ) (x : A) → slice_get xs k ≡ Some x → P x) → AllByRecursion P xs
each_got P [] f = tt
each_got P (x ∷ xs) f = (f 0 x refl, each_got P xs (λ k y e. f (suc k) y e))

pub each_among : {A : Type 0} (P : A → Type 0) (xs : List A) → ((x : A) → IsIn x xs → P x) → AllByRecursion P xs
each_among P [] f = tt
each_among P (x ∷ xs) f = (f x (inl refl), each_among P xs (λ y h. f y (inr h)))

module _ (i : Image) (c : ℕ → Bool) (j : Image) (img : IsImage i) (has : HasSlot i c) (apart : Apart i All c) (e : Extracts i c j) where
  -- each cell is the image's where the groups can touch it, and integer 0 elsewhere, so it holds a word
  cell_holds : (w : ℕ) (cell : Cell) → cell_at j.memory w ≡ Some cell → IsWord cell.word
  cell_holds w cell is = elim (word_cases cell.word) [
    | inl fits ↦ fits
    | inr never ↦
        let out : ¬ (Touchable i All c w) = λ t. never (cell_words i.memory w cell img.words (sym (e.cells w t) ∙ is)) in
        absurd (never (subst (λ (x : Cell). IsWord x.word) (sym (e.others w cell out is)) zero_fits))
  ]
    where
      zero_fits : IsWord zero_cell.word
      zero_fits = omega arith

  page_holds : (page : ℕ × List Cell) → IsIn page j.memory.pages → HoldsWords page
  page_holds page is =
      let found = found_page j.memory.pages (subst T (sym e.paged.pages.rising) tt) page.0 page.1 is in
      each_got (λ (x : Cell). IsWord x.word) page.1
      (λ k x at.
      let long = (page_whole j.memory e.paged page.0 page.1 found).cells in
      let short = get_short page.1 k x at in
      cell_holds (page.0 * 4096 + 8 * k) x (cell_of j.memory page.0 k (omega arith) ∙ ap (λ o. cell_in o k) found ∙ at))

  extracted_words : AllByRecursion HoldsWords j.memory.pages
  extracted_words = each_among HoldsWords j.memory.pages page_holds

  extracted_image : IsImage j
  extracted_image =
      let whole = own_image i c img has (apart_inside i c apart) j.memory e.frames e.paged extracted_words in
      let one : ◌≡◌ {A = Image} (record {
        version = i.version;
        split = i.split;
        slots = own_slots c i.slots;
        memory = j.memory;
      }) (record { version = j.version; split = i.split; slots = own_slots c i.slots; memory = j.memory })
      =
      ap (λ (v : ℕ). record { version = v; split = i.split; slots = own_slots c i.slots; memory = j.memory }) (sym e.version) in
      let two : ◌≡◌ {A = Image} (record {
        version = j.version;
        split = i.split;
        slots = own_slots c i.slots;
        memory = j.memory;
      }) (record { version = j.version; split = j.split; slots = own_slots c i.slots; memory = j.memory })
      =
      ap (λ (b : Bool). record { version = j.version; split = b; slots = own_slots c i.slots; memory = j.memory }) (sym e.mode) in
      let three : ◌≡◌ {A = Image} (record { version = j.version; split = j.split; slots = own_slots c i.slots; memory = j.memory }) j =
      ap (λ (l : List Slot). record { version = j.version; split = j.split; slots = l; memory = j.memory }) (sym e.slots) in
      subst IsImage (one ∙ two ∙ three) whole

  pub extracts_agree : AgreeApart i j c
  extracts_agree = record {
    one = img;
    other = extracted_image;
    agree = record {
      version = sym e.version;
      mode = sym e.mode;
      slots = sym (filter_again (λ (s : Slot). c s.group) i.slots) ∙ ap (filter (λ (s : Slot). c s.group)) (sym e.slots);
      cells = λ w t. sym (e.cells w t);
      frames = λ p. sym e.frames;
    };
    one_apart = apart;
    other_apart = own_apart j c (λ s is. (filter_contained (λ (x : Slot). c x.group) i.slots s (subst (λ (l : List Slot). Contains l s) e.slots is)).1);
  }
