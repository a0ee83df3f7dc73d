-- The lines of the cells that groups can touch are one text, which is the same in two worlds.
use Rattle.std.proofs.Common.{◌≡◌, ◌≢◌, ℕ, ◌<◌, inl, inr, Bool, true, false, cond, ◌||◌, ◌↔◌, nat_eq, List, [], ◌∷◌}
use Rattle.std.proofs.Common.{◌++◌, refl, sym, ap, ◌∙◌, subst, arith, eq-eqb, eqb-true}
use Rattle.std.proofs.lemmas.Bool.{both_ways, cases_Bool, ne_eqb, or_parts}
use Rattle.std.specs.List.{AllByRecursion, filter, flat_map}
use Rattle.mm_word.specs.declared.word.Cell.{Cell}
use Rattle.mm_model.specs.{Image.{Image, start}, Lines.cell_line, Report.changes, Schedule.only, Run.run}
use Rattle.mm_model.specs.{Reach.Entries.All, Worlds.Touchable}
use Rattle.mm_model.proofs.{CoreRows.each_map, Fitted.paged_of, Filters.{filter_takes, filter_drops}}
use Rattle.mm_laws.specs.{CellLines.{LinesOf, CellLinesOf}, Isolated.AgreeApart}
use Rattle.mm_laws.proofs.AlikeWorlds.{touchable_other, touchable_back}
use Rattle.mm_laws.proofs.CellViews.{IsIn, Rising, at_word, filter_in, in_filter}
use Rattle.mm_laws.proofs.{ChangedCells.{each_of_in, changes_rising}, OwnImages.each_among, SameViews.same_worlds}
use Rattle.mm_laws.proofs.TwoLists.{two_runs}

-- 1. One text.

one_text : (P : ℕ → Type 0) (l m : List (ℕ × Cell)) (one other : List ℕ) → l ≡ m → LinesOf P l one → LinesOf P m other → one ≡ other
one_text P l m one other e LinesOf.no_cell LinesOf.no_cell = refl
one_text P l m one other e LinesOf.no_cell (LinesOf.line p rest) = cc
one_text P l m one other e LinesOf.no_cell (LinesOf.no_line out rest) = cc
one_text P l m one other e (LinesOf.line p rest) LinesOf.no_cell = cc
one_text P l m one other e (LinesOf.line {w = w} {c = c} {cells = xs} {text = t} p rest) (LinesOf.line {w = v} {c = d} {cells = ys} {text = u} q more) =
    let first : ◌≡◌ {A = ℕ × Cell} (w, c) (v, d) = cc in
    let others : xs ≡ ys = cc in
    ap (λ (x : ℕ × Cell). cell_line x.0 x.1 ++ t) first ∙ ap (λ r. cell_line v d ++ r) (one_text P xs ys t u others rest more)
one_text P l m one other e (LinesOf.line {w = w} {c = c} p rest) (LinesOf.no_line {w = v} {c = d} out more) =
    let first : ◌≡◌ {A = ℕ × Cell} (w, c) (v, d) = cc in
    absurd (out (subst P (ap (λ (x : ℕ × Cell). x.0) first) p))
one_text P l m one other e (LinesOf.no_line out rest) LinesOf.no_cell = cc
one_text P l m one other e (LinesOf.no_line {w = w} {c = c} out rest) (LinesOf.line {w = v} {c = d} q more) =
    let first : ◌≡◌ {A = ℕ × Cell} (w, c) (v, d) = cc in
    absurd (out (subst P (sym (ap (λ (x : ℕ × Cell). x.0) first)) q))
one_text P l m one other e (LinesOf.no_line {cells = xs} out rest) (LinesOf.no_line {cells = ys} also more) =
    let others : xs ≡ ys = cc in
    one_text P xs ys one other others rest more

pub lines_are_one : (P : ℕ → Type 0) (l : List (ℕ × Cell)) (one other : List ℕ) → LinesOf P l one → LinesOf P l other → one ≡ other
lines_are_one P l one other a b = one_text P l l one other refl a b

pub lines_are_some : (P : ℕ → Type 0) (l : List (ℕ × Cell)) → ¬ (¬ ((text : List ℕ) × LinesOf P l text))
lines_are_some P [] none = none ([], LinesOf.no_cell)
lines_are_some P (x ∷ l) none =
    lines_are_some P l
    (λ found. none (found.0, LinesOf.no_line (λ p. none (cell_line x.0 x.1 ++ found.0, LinesOf.line p found.1)) found.1))

-- 2. The lines of a text are those at the words of a test.

abbrev line : ℕ × Cell → List ℕ
line change = cell_line change.0 change.1

-- the test finds those words of the list that pass, and no word that does not pass
record Chosen (P : ℕ → Type 0) (xs : List (ℕ × Cell)) (text : List ℕ) : Type 0 where
  test : ℕ → Bool
  only : (w : ℕ) → test w ≡ true → P w
  all : AllByRecursion (λ (x : ℕ × Cell). test x.0 ≡ false → ¬ P x.0) xs
  lines : text ≡ flat_map line (filter (at_word test) xs)

-- the test, and one more word
abbrev or_word : ℕ → (ℕ → Bool) → ℕ → Bool
or_word w test v = nat_eq v w || test v

module _ (P : ℕ → Type 0) (w : ℕ) (c : Cell) (xs : List (ℕ × Cell)) (text : List ℕ) (r : Chosen P xs text) where
  found : or_word w r.test w ≡ true
  found = ap (λ b. b || r.test w) (eq-eqb w w refl)

  same_behind : (ys : List (ℕ × Cell)) → AllByRecursion (λ (y : ℕ × Cell). w < y.0) ys → filter (at_word r.test) ys ≡ filter (at_word (or_word w r.test)) ys
  same_behind [] low = refl
  same_behind (y ∷ ys) low =
      let ne : y.0 ≢ w = (λ e. let first = low.0 in omega arith) in
      let same : or_word w r.test y.0 ≡ r.test y.0 = ap (λ b. b || r.test y.0) (ne_eqb y.0 w ne) in
      ap (λ b. cond b (y ∷ filter (at_word r.test) ys) (filter (at_word r.test) ys)) (sym same)
      ∙ ap (λ (l : List (ℕ × Cell)). cond (or_word w r.test y.0) (y ∷ l) l) (same_behind ys low.1)

  chosen_with : P w → AllByRecursion (λ (y : ℕ × Cell). w < y.0) xs → Chosen P ((w, c) ∷ xs) (cell_line w c ++ text)
  chosen_with passes low = record {
    test = or_word w r.test;
    only = λ v. one v (nat_eq v w) refl;
    all = (
      λ e. absurd (both_ways (or_word w r.test w) e found),
      each_map (λ (y : ℕ × Cell). r.test y.0 ≡ false → ¬ P y.0) (λ (y : ℕ × Cell). or_word w r.test y.0 ≡ false → ¬ P y.0) (λ y out e. out (or_parts (nat_eq y.0 w) (r.test y.0) e).1) xs r.all,
    );
    lines =
        ap (λ (t : List ℕ). cell_line w c ++ t) (r.lines ∙ ap (flat_map line) (same_behind xs low))
        ∙ sym (ap (flat_map line) (filter_takes (at_word (or_word w r.test)) (w, c) xs found));
  }
    where
      one : (v : ℕ) (b : Bool) → nat_eq v w ≡ b → (b || r.test v) ≡ true → P v
      one v true e h = subst P (sym (eqb-true v w e)) passes
      one v false e h = r.only v h

  chosen_without : ¬ P w → Chosen P ((w, c) ∷ xs) text
  chosen_without out = record {
    test = r.test;
    only = r.only;
    all = (λ e. out, r.all);
    lines = r.lines ∙ sym (ap (flat_map line) (filter_drops (at_word r.test) (w, c) xs not_found));
  }
    where
      not_found : r.test w ≡ false
      not_found = elim (cases_Bool (r.test w)) [
        | inl t ↦ absurd (out (r.only w t))
        | inr f ↦ f
      ]

chosen : (P : ℕ → Type 0) (xs : List (ℕ × Cell)) (text : List ℕ) → LinesOf P xs text → Rising xs → Chosen P xs text
chosen P xs text LinesOf.no_cell up = record { test = λ w. false; only = λ w e. cc; all = tt; lines = refl }
chosen P xs text (LinesOf.line {w = w} {c = c} {cells = ys} {text = t} passes rest) up = chosen_with P w c ys t (chosen P ys t rest up.1) passes up.0
chosen P xs text (LinesOf.no_line {w = w} {c = c} {cells = ys} out rest) up = chosen_without P w c ys text (chosen P ys text rest up.1) out

lines_at : (P : ℕ → Type 0) (test : ℕ → Bool) → ((w : ℕ) → test w ≡ true → P w) → (xs : List (ℕ × Cell)) → AllByRecursion (λ (x : ℕ × Cell). test x.0 ≡ false → ¬ P x.0) xs
    → LinesOf P xs (flat_map line (filter (at_word test) xs))
lines_at P test only [] all = LinesOf.no_cell
lines_at P test only (x ∷ xs) all = elim (cases_Bool (test x.0)) [
  | inl t ↦ subst (λ l. LinesOf P (x ∷ xs) (flat_map line l)) (sym (filter_takes (at_word test) x xs t)) (LinesOf.line (only x.0 t) (lines_at P test only xs all.1))
  | inr f ↦ subst (λ l. LinesOf P (x ∷ xs) (flat_map line l)) (sym (filter_drops (at_word test) x xs f)) (LinesOf.no_line (all.0 f) (lines_at P test only xs all.1))
]

-- 3. Two lists that are the same at all words that pass have the same text.

module _ (P Q : ℕ → Type 0) (over : (w : ℕ) → P w → Q w) (back : (w : ℕ) → Q w → P w) (xs ys : List (ℕ × Cell))
    (same : (p : ℕ → Bool) → ((w : ℕ) → p w ≡ true → P w) → filter (at_word p) xs ≡ filter (at_word p) ys) where
  -- what passes in one list stands in the other
  in_other : (y : ℕ × Cell) → IsIn y ys → Q y.0 → IsIn y xs
  in_other y is q =
      let one : ℕ → Bool = λ v. nat_eq v y.0 in
      let both = same one (λ v e. subst P (sym (eqb-true v y.0 e)) (back y.0 q)) in
      (filter_in one y xs (subst (IsIn y) (sym both) (in_filter one y ys is (eq-eqb y.0 y.0 refl)))).0

  same_text : Rising xs → (text : List ℕ) → LinesOf P xs text → LinesOf Q ys text
  same_text up text lines =
      let r = chosen P xs text lines up in
      subst (LinesOf Q ys) (sym (r.lines ∙ ap (flat_map line) (same r.test r.only)))
      (lines_at Q r.test (λ w e. over w (r.only w e)) ys
      (each_among (λ (y : ℕ × Cell). r.test y.0 ≡ false → ¬ Q y.0) ys
      (λ y is e q. each_of_in (λ (x : ℕ × Cell). r.test x.0 ≡ false → ¬ P x.0) y xs r.all (in_other y is q) e (back y.0 q))))

pub lines_are_same : (i j : Image) (c : ℕ → Bool) (s t : List ℕ) → AgreeApart i j c → only i s c ≡ only j t c
    → (text : List ℕ) → CellLinesOf i c (run (start i) s) text ↔ CellLinesOf j c (run (start j) t) text
lines_are_same i j c s t g e text =
    let w = (two_runs i j c g s t e).worlds in
    let cells = (same_worlds i j c s t g e).view.cells in
    let over : (v : ℕ) → Touchable i All c v → Touchable j All c v = touchable_other i j c g.agree g.one_apart in
    let back : (v : ℕ) → Touchable j All c v → Touchable i All c v = touchable_back i j c g.agree g.other_apart in
    let one : List (ℕ × Cell) = changes (run (start i) s).memory i.memory in
    let other : List (ℕ × Cell) = changes (run (start j) t).memory j.memory in (
      same_text (Touchable i All c) (Touchable j All c) over back one other cells (changes_rising (run (start i) s).memory i.memory (paged_of i (run (start i) s) w.one_state w.one)) text,
      same_text (Touchable j All c) (Touchable i All c) back over other one
          (λ p touched. sym (cells p (λ v found. back v (touched v found)))) (changes_rising (run (start j) t).memory
          j.memory (paged_of j (run (start j) t) w.other_state w.other)) text,
    )
