-- The words of pages.
use Rattle.std.proofs.Common.{◌≡◌, inl, inr, ℕ, zero, suc, ◌+◌, ◌*◌, ◌<◌, Bool, true, false, List, []}
use Rattle.std.proofs.Common.{◌∷◌, ◌++◌, if◌then◌else◌, Some, None, refl, sym, ap, ◌∙◌, subst, arith, add-one, eqb-true, append_assoc}
use Rattle.std.proofs.lemmas.{Bool.cases_lt, List.{append-nil, Elements.{Contains-append_left, Contains-append_right}}}
use Rattle.std.specs.{Prelude.Contains, List.flat_map, Ordering.{nat_cmp, eq_by_cmp}, Cmp.unsigned_tied, FinMap.find}
use Rattle.mm_word.specs.declared.word.Cell.{Cell}
use Rattle.mm_model.specs.{Memory.{Memory, cell_at, page_of, place_of}, Image.Image}
use Rattle.mm_model.proofs.Memories.{aligned, page_of_cell}
use Rattle.mm_kernel.specs.{Segments.{Segment, is_kept, is_fixed}, Facts.{Fact, hand_out}, Forms.exactly, Derived.first_form}
use Rattle.mm_kernel.specs.declared.{form.Form.Form, fact.Leak.TheVariants.{Cell as InCell}}
use Rattle.mm_keep.specs.{Claims.{Tables, AddsFacts}, Searching.{words_below, first_in, first_at, handed_in, handed_at}}
use Rattle.mm_keep.proofs.{Claims.{facts_none, facts_then}, Loops.{facts_at, facts_same, flat_push}, Members.{in_first, in_rest}}

-- 1. The first words of a page.

words_more : (page n : ℕ) → words_below page (n + 1) ≡ words_below page n ++ (page * 4096 + 8 * n) ∷ []
unfolding words_below
words_more page n = ap (words_below page) (add-one n)

word_below : (page n k : ℕ) → k < n → Contains (words_below page n) (page * 4096 + 8 * k)
unfolding words_below
word_below page zero k lt = absurd (omega (arith, lt))
word_below page (suc n) k lt = elim (cases_lt k n) [
  | inl less ↦ Contains-append_left (words_below page n) ((page * 4096 + 8 * n) ∷ []) (page * 4096 + 8 * k) (word_below page n k less)
  | inr more ↦
      let same : n ≡ k = omega (arith, lt, more) in
      Contains-append_right (words_below page n) ((page * 4096 + 8 * n) ∷ []) (page * 4096 + 8 * k)
      (subst (λ m. Contains ((page * 4096 + 8 * n) ∷ []) (page * 4096 + 8 * m)) same (in_first (page * 4096 + 8 * n) []))
]

module _ {Y : Type 0} (f : ℕ → List Y) where
  flat_words : (page n : ℕ) → flat_map f (words_below page (n + 1)) ≡ flat_map f (words_below page n) ++ f (page * 4096 + 8 * n)
  flat_words page n = ap (flat_map f) (words_more page n) ∙ flat_push f (words_below page n) (page * 4096 + 8 * n)

  -- what is appended for one word more
  pub appended_word : (start before after : List Y) (page n : ℕ) → before ≡ start ++ flat_map f (words_below page n)
      → after ≡ before ++ f (page * 4096 + 8 * n) → after ≡ start ++ flat_map f (words_below page (n + 1))
  appended_word start before after page n was now =
      now ∙ ap (λ l. l ++ f (page * 4096 + 8 * n)) was ∙ append_assoc start (flat_map f (words_below page n)) (f (page * 4096 + 8 * n))
      ∙ ap (λ l. start ++ l) (sym (flat_words page n))

-- what one word more adds
pub adds_word : (i : Image) (kept : List Segment) (f : ℕ → List Fact) (page n : ℕ) (a b c : Tables)
    → AddsFacts i kept (flat_map f (words_below page n)) a b → AddsFacts i kept (f (page * 4096 + 8 * n)) b c
    → AddsFacts i kept (flat_map f (words_below page (n + 1))) a c
adds_word i kept f page n a b c g h =
    facts_same i kept (flat_map f (words_below page n) ++ f (page * 4096 + 8 * n)) (flat_map f (words_below page (n + 1))) a c
    (sym (flat_words f page n)) (facts_then i kept (flat_map f (words_below page n)) (f (page * 4096 + 8 * n)) a b c g h)

-- 2. What a word begins with.

module _ (i : Image) (kept : List Segment) (w : ℕ) where
  pub handed_none : (a : Tables) → cell_at i.memory w ≡ None → AddsFacts i kept (handed_at i kept w) a a
  handed_none a is = subst (λ o. AddsFacts i kept (handed_in i kept w o) a a) (sym is) (facts_none i kept a)

  pub handed_kept : (c : Cell) (a : Tables) → cell_at i.memory w ≡ Some c → is_kept kept w ≡ true → AddsFacts i kept (handed_at i kept w) a a
  handed_kept c a is on = subst (λ o. AddsFacts i kept (handed_in i kept w o) a a) (sym is)
      (facts_at i kept (is_kept kept w) true [] (hand_out kept (exactly c.word) (InCell w (exactly c.word))) a a on (facts_none i kept a))

  pub handed_other : (c : Cell) (a b : Tables) → cell_at i.memory w ≡ Some c → is_kept kept w ≡ false
      → AddsFacts i kept (hand_out kept (exactly c.word) (InCell w (exactly c.word))) a b → AddsFacts i kept (handed_at i kept w) a b
  handed_other c a b is off h = subst (λ o. AddsFacts i kept (handed_in i kept w o) a b) (sym is)
      (facts_at i kept (is_kept kept w) false [] (hand_out kept (exactly c.word) (InCell w (exactly c.word))) a b off h)

  pub first_none : (l : List (ℕ × Form)) → cell_at i.memory w ≡ None → l ≡ l ++ first_at i kept w
  first_none l is = sym (ap (λ o. l ++ first_in i kept w o) is ∙ append-nil l)

  first_by : (l : List (ℕ × Form)) (c : Cell) (b : Bool) → cell_at i.memory w ≡ Some c → is_kept kept w ≡ b
      → l ++ first_at i kept w ≡ l ++ (if b then (w, first_form (is_fixed i w) c.word) ∷ [] else [])
  first_by l c b is of = ap (λ o. l ++ first_in i kept w o) is
      ∙ ap (λ (d : Bool). l ++ (if d then (w, first_form (is_fixed i w) c.word) ∷ [] else [])) of

  pub first_kept : (l m : List (ℕ × Form)) (c : Cell) → cell_at i.memory w ≡ Some c → is_kept kept w ≡ true
      → m ≡ l ++ (w, first_form (is_fixed i w) c.word) ∷ [] → m ≡ l ++ first_at i kept w
  first_kept l m c is on e = e ∙ sym (first_by l c true is on)

  pub first_other : (l : List (ℕ × Form)) (c : Cell) → cell_at i.memory w ≡ Some c → is_kept kept w ≡ false → l ≡ l ++ first_at i kept w
  first_other l c is off = sym (first_by l c false is off ∙ append-nil l)

-- 3. The word of each cell is one of a page's.

found_page : (pages : List (ℕ × List Cell)) (q : ℕ) (cells : List Cell) → find nat_cmp q pages ≡ Some cells → Contains pages (q, cells)
found_page [] q cells h = cc
found_page (p ∷ ps) q cells h = at (eq_by_cmp nat_cmp q p.0) refl h (found_page ps q cells)
  where
    at : (b : Bool) → eq_by_cmp nat_cmp q p.0 ≡ b → (if b then Some p.1 else find nat_cmp q ps) ≡ Some cells
        → (find nat_cmp q ps ≡ Some cells → Contains ps (q, cells)) → Contains (p ∷ ps) (q, cells)
    at true e f later =
        let same : q ≡ p.0 = eqb-true q p.0 (sym (unsigned_tied q p.0) ∙ e) in
        let is : p.1 ≡ cells = cc in
        let pair : p ≡ (q, cells) = λ i. (sym same i, is i) in
        subst (Contains (p ∷ ps)) pair (in_first p ps)
    at false e f later = in_rest p ps (q, cells) (later f)

-- a page that has a word
pub record PageOf (m : Memory) (w : ℕ) : Type 0 where
  pub page : ℕ × List Cell
  pub inside : Contains m.pages page
  pub has : Contains (words_below page.0 512) w

pub page_with : (m : Memory) (w : ℕ) (c : Cell) → cell_at m w ≡ Some c → PageOf m w
page_with m w c at =
    let even = aligned m w c at in
    let found = page_of_cell m w c at in
    let small : place_of w < 512 = omega (arith, even) in
    let word : page_of w * 4096 + 8 * place_of w ≡ w = omega (arith, even) in
    record {
      page = (page_of w, found.0);
      inside = found_page m.pages (page_of w) found.0 found.1;
      has = subst (Contains (words_below (page_of w) 512)) word (word_below (page_of w) 512 (place_of w) small);
    }
