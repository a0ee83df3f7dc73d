-- Where groups' rows and outputs are the same, so are their sections of a report.
use Rattle.std.proofs.Common.{◌≡◌, ℕ, Bool, true, false, cond, ◌||◌, List, [], ◌∷◌, ◌++◌, length, refl, sym, ap, ◌∙◌}
use Rattle.std.proofs.{Common.{inl, inr, eqb-true}, lemmas.Bool.{both_ways, cases_Bool}}
use Rattle.std.specs.List.{flat_map, filter, list_any, range_with_len}
use Rattle.mm_model.specs.{State.{ThreadRow, Core, output_of}, Lines.{slot_lines, output_lines}}
use Rattle.mm_model.specs.{Report.{is_of, group_line, section}, Worlds.sections_of}
use Rattle.mm_model.proofs.Filters.{filter_takes, filter_drops}
use Rattle.mm_laws.{specs.Isolated.is_row_of, proofs.AlikeRows.mine}

-- a row of one group of the groups is a row of the groups
of_groups : (c : ℕ → Bool) (g : ℕ) (row : ThreadRow) → c g ≡ true → is_of g row ≡ true → is_row_of c row ≡ true
of_groups c g row cg e = ap c (eqb-true row.slot.group g e) ∙ cg

not_of : (c : ℕ → Bool) (g : ℕ) (row : ThreadRow) → c g ≡ true → is_row_of c row ≡ false → is_of g row ≡ false
not_of c g row cg out = by (is_of g row) refl
  where
    by : (b : Bool) → is_of g row ≡ b → b ≡ false
    by true e = absurd (both_ways (is_row_of c row) out (of_groups c g row cg e))
    by false e = refl

rows_of : (c : ℕ → Bool) (g : ℕ) → c g ≡ true → (rows : List ThreadRow) → filter (is_of g) (filter (is_row_of c) rows) ≡ filter (is_of g) rows
rows_of c g cg [] = refl
rows_of c g cg (row ∷ rows) = elim (cases_Bool (is_row_of c row)) [
  | inl t ↦
      ap (filter (is_of g)) (filter_takes (is_row_of c) row rows t)
      ∙ ap (λ (l : List ThreadRow). cond (is_of g row) (row ∷ l) l) (rows_of c g cg rows)
  | inr f ↦
      ap (filter (is_of g)) (filter_drops (is_row_of c) row rows f)
      ∙ rows_of c g cg rows
      ∙ sym (filter_drops (is_of g) row rows (not_of c g row cg f))
]

any_of : (c : ℕ → Bool) (g : ℕ) → c g ≡ true → (rows : List ThreadRow) → list_any (is_of g) (filter (is_row_of c) rows) ≡ list_any (is_of g) rows
any_of c g cg [] = refl
any_of c g cg (row ∷ rows) = elim (cases_Bool (is_row_of c row)) [
  | inl t ↦ ap (list_any (is_of g)) (filter_takes (is_row_of c) row rows t) ∙ ap (λ b. is_of g row || b) (any_of c g cg rows)
  | inr f ↦
      ap (list_any (is_of g)) (filter_drops (is_row_of c) row rows f)
      ∙ any_of c g cg rows
      ∙ sym (ap (λ b. b || list_any (is_of g) rows) (not_of c g row cg f))
]

module _ (c : ℕ → Bool) (a b : Core) (rows : mine c a ≡ mine c b) (outputs : (g : ℕ) → c g ≡ true → output_of a g ≡ output_of b g) where
  same_section : (g : ℕ) → c g ≡ true → section a g ≡ section b g
  unfolding section
  same_section g cg =
      let lines : filter (is_of g) a.rows ≡ filter (is_of g) b.rows = sym (rows_of c g cg a.rows) ∙ ap (filter (is_of g)) rows ∙ rows_of c g cg b.rows in
      ap (λ (bytes : List ℕ). group_line g (length bytes) ++ output_lines bytes ++ flat_map (λ (row : ThreadRow). slot_lines row.slot) (filter (is_of g) a.rows)) (outputs g cg)
      ∙ ap (λ (l : List ThreadRow). group_line g (length (output_of b g)) ++ output_lines (output_of b g) ++ flat_map (λ (row : ThreadRow). slot_lines row.slot) l) lines

  same_any : (g : ℕ) → c g ≡ true → list_any (is_of g) a.rows ≡ list_any (is_of g) b.rows
  same_any g cg = sym (any_of c g cg a.rows) ∙ ap (list_any (is_of g)) rows ∙ any_of c g cg b.rows

  same_groups : (gs : List ℕ) → flat_map (section a) (filter c (filter (λ g. list_any (is_of g) a.rows) gs)) ≡ flat_map (section b) (filter c (filter (λ g. list_any (is_of g) b.rows) gs))
  same_groups [] = refl
  same_groups (g ∷ gs) = by (c g) refl (same_groups gs)
    where
      outside : (k : ℕ → List ℕ) (h : ℕ → Bool) → c g ≡ false → flat_map k (filter c (filter h (g ∷ gs))) ≡ flat_map k (filter c (filter h gs))
      outside k h out = elim (cases_Bool (h g)) [
        | inl t ↦ ap (λ l. flat_map k (filter c l)) (filter_takes h g gs t) ∙ ap (flat_map k) (filter_drops c g (filter h gs) out)
        | inr f ↦ ap (λ l. flat_map k (filter c l)) (filter_drops h g gs f)
      ]

      inside : (k : ℕ → List ℕ) (h : ℕ → Bool) → c g ≡ true → flat_map k (filter c (filter h (g ∷ gs))) ≡ cond (h g) (k g) [] ++ flat_map k (filter c (filter h gs))
      inside k h cg = elim (cases_Bool (h g)) [
        | inl t ↦
            ap (λ l. flat_map k (filter c l)) (filter_takes h g gs t) ∙ ap (flat_map k) (filter_takes c g (filter h gs) cg)
            ∙ sym (ap (λ b. cond b (k g) [] ++ flat_map k (filter c (filter h gs))) t)
        | inr f ↦
            ap (λ l. flat_map k (filter c l)) (filter_drops h g gs f)
            ∙ sym (ap (λ b. cond b (k g) [] ++ flat_map k (filter c (filter h gs))) f)
      ]

      by : (x : Bool) → c g ≡ x → flat_map (section a) (filter c (filter (λ k. list_any (is_of k) a.rows) gs)) ≡ flat_map (section b) (filter c (filter (λ k. list_any (is_of k) b.rows) gs))
          → flat_map (section a) (filter c (filter (λ k. list_any (is_of k) a.rows) (g ∷ gs))) ≡ flat_map (section b) (filter c (filter (λ k. list_any (is_of k) b.rows) (g ∷ gs)))
      by true cg rest =
          inside (section a) (λ k. list_any (is_of k) a.rows) cg
          ∙ ap (λ l. cond (list_any (is_of g) a.rows) l [] ++ flat_map (section a) (filter c (filter (λ k. list_any (is_of k) a.rows) gs))) (same_section g cg)
          ∙ ap (λ x. cond x (section b g) [] ++ flat_map (section a) (filter c (filter (λ k. list_any (is_of k) a.rows) gs))) (same_any g cg)
          ∙ ap (λ l. cond (list_any (is_of g) b.rows) (section b g) [] ++ l) rest
          ∙ sym (inside (section b) (λ k. list_any (is_of k) b.rows) cg)
      by false out rest = outside (section a) (λ k. list_any (is_of k) a.rows) out ∙ rest ∙ sym (outside (section b) (λ k. list_any (is_of k) b.rows) out)

  pub same_sections : sections_of c a ≡ sections_of c b
  unfolding sections_of
  same_sections = same_groups (range_with_len 0 64)
