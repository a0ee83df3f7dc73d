-- Rows of numbers with other values, where each value is what a function gives.
use Rattle.std.proofs.Common.{◌≡◌, ◌≢◌, ℕ, ◌+◌, ◌≤◌, Bool, true, false, cond, ◌&&◌, ◌==◌, nat_eq, T, List, [], ◌∷◌}
use Rattle.std.proofs.Common.{◌++◌, suc, map, length, None, Some, refl, sym, ap, ◌∙◌, arith}
use Rattle.std.proofs.lemmas.Bool.Decides.{nat_tests}
use Rattle.std.specs.{Option.option_map, List.filter, Ordering.{nat_cmp, is_lt, eq_by_cmp}}
use Rattle.std.specs.declared.cmp.Ordering.{Ordering, TheVariants.{Less, Equal, Greater}}
use Rattle.std.specs.FinMap.{find, put, is_sorted, Entries.{by_order, below_all}}
use Rattle.mm_model.specs.Flags.{one_if}
use Rattle.mm_frames.specs.Framed.{rows_with}

module _ {X Y : Type 0} (h : X → Y) where
  -- each entry with what the function gives for its value
  abbrev pub paired : List (ℕ × X) → List (ℕ × Y)
  paired rows = map (λ row. (row.0, h row.1)) rows

  pub find_paired : (q : ℕ) (rows : List (ℕ × X)) → find nat_cmp q (paired rows) ≡ option_map h (find nat_cmp q rows)
  find_paired q [] = refl
  find_paired q (row ∷ rows) =
      elim (eq_by_cmp nat_cmp q row.0) as (λ b. cond b (Some (h row.1)) (find nat_cmp q (paired rows)) ≡ option_map h (cond b (Some row.1) (find nat_cmp q rows))) [
        | true ↦ refl
        | false ↦ find_paired q rows
      ]

  below_paired : (x : ℕ) (rows : List (ℕ × X)) → below_all nat_cmp x (paired rows) ≡ below_all nat_cmp x rows
  below_paired x [] = refl
  below_paired x (row ∷ rows) = ap (λ b. is_lt (nat_cmp x row.0) && b) (below_paired x rows)

  pub sorted_paired : (rows : List (ℕ × X)) → is_sorted nat_cmp (paired rows) ≡ is_sorted nat_cmp rows
  sorted_paired [] = refl
  sorted_paired (row ∷ rows) = ap (λ b. b && is_sorted nat_cmp (paired rows)) (below_paired row.0 rows) ∙ ap (λ b. below_all nat_cmp row.0 rows && b) (sorted_paired rows)

  pub put_paired : (k : ℕ) (v : X) (rows : List (ℕ × X)) → paired (put nat_cmp k v rows) ≡ put nat_cmp k (h v) (paired rows)
  put_paired k v [] = refl
  put_paired k v (row ∷ rows) =
      elim (nat_cmp k row.0) as (λ r. paired (by_order r ((k, v) ∷ row ∷ rows) ((row.0, v) ∷ rows) (row ∷ put nat_cmp k v rows))
      ≡ by_order r ((k, h v) ∷ (row.0, h row.1) ∷ paired rows) ((row.0, h v) ∷ paired rows) ((row.0, h row.1) ∷ put nat_cmp k (h v) (paired rows))) [
        | Less ↦ refl
        | Equal ↦ refl
        | Greater ↦ ap (λ es. (row.0, h row.1) ∷ es) (put_paired k v rows)
      ]

  pub filter_paired : (p : ℕ → Bool) (rows : List (ℕ × X)) → paired (filter (λ e. p e.0) rows) ≡ filter (λ e. p e.0) (paired rows)
  filter_paired p [] = refl
  filter_paired p (row ∷ rows) =
      elim (p row.0) as (λ b. paired (cond b (row ∷ filter (λ e. p e.0) rows) (filter (λ e. p e.0) rows)) ≡ cond b ((row.0, h row.1) ∷ filter (λ e. p e.0) (paired rows))
      (filter (λ e. p e.0) (paired rows))) [
        | true ↦ ap (λ es. (row.0, h row.1) ∷ es) (filter_paired p rows)
        | false ↦ filter_paired p rows
      ]

  pub length_paired : (rows : List (ℕ × X)) → length (paired rows) ≡ length rows
  length_paired [] = refl
  length_paired (row ∷ rows) = ap suc (length_paired rows)

  pub append_paired : (rows more : List (ℕ × X)) → paired (rows ++ more) ≡ paired rows ++ paired more
  append_paired [] more = refl
  append_paired (row ∷ rows) more = ap (λ es. (row.0, h row.1) ∷ es) (append_paired rows more)

  pub numbers_paired : (rows : List (ℕ × X)) → map (λ e. e.0) (paired rows) ≡ map (λ e. e.0) rows
  numbers_paired [] = refl
  numbers_paired (row ∷ rows) = ap (λ ns. row.0 ∷ ns) (numbers_paired rows)

-- a number below all others is not found among them
absent_below : {X : Type 0} (k x : ℕ) (es : List (ℕ × X)) → k ≤ x → T (below_all nat_cmp x es) → find nat_cmp k es ≡ None
absent_below k x [] le below = refl
absent_below k x (e ∷ es) le below = grind (arith, nat_tests, absent_below k x es)

none_here : (n m rest : ℕ) → one_if (n == m) + rest ≡ 0 → (m ≢ n) × (rest ≡ 0)
none_here n m rest h = (λ (s : m ≡ n). grind (arith, nat_tests), grind (arith, nat_tests))

module _ {Y : Type 0} (g h : ℕ → Y) (frame : ℕ) (alike : (n : ℕ) → n ≢ frame → g n ≡ h n) where
  -- two functions that agree at each frame of the rows
  pub paired_apart : (rows : List (ℕ × ℕ)) → rows_with frame rows ≡ 0 → paired g rows ≡ paired h rows
  paired_apart [] none = refl
  paired_apart (row ∷ rows) none =
      let both = none_here frame row.1 (rows_with frame rows) none in
      ap (λ y. (row.0, y) ∷ paired g rows) (alike row.1 both.0) ∙ ap (λ es. (row.0, h row.1) ∷ es) (paired_apart rows both.1)

pub found_is_with : (k frame : ℕ) (rows : List (ℕ × ℕ)) → find nat_cmp k rows ≡ Some frame → 1 ≤ rows_with frame rows
found_is_with k frame [] found = cc
found_is_with k frame (row ∷ rows) found = go (found_is_with k frame rows) (nat_eq k row.0) refl
  where
    go : (find nat_cmp k rows ≡ Some frame → 1 ≤ rows_with frame rows) → (b : Bool) → nat_eq k row.0 ≡ b → 1 ≤ rows_with frame (row ∷ rows)
    go later true y = grind (arith, nat_tests, found)
    go later false n = grind (arith, nat_tests, found, later)

module _ {Y : Type 0} (g h : ℕ → Y) (frame : ℕ) (alike : (n : ℕ) → n ≢ frame → g n ≡ h n) where
  -- where the frame is that of one page
  pub paired_but_one : (k : ℕ) (rows : List (ℕ × ℕ)) → T (is_sorted nat_cmp rows) → find nat_cmp k rows ≡ Some frame → rows_with frame rows ≤ 1
      → paired g rows ≡ put nat_cmp k (g frame) (paired h rows)
  paired_but_one k [] sorted found once = cc
  paired_but_one k (row ∷ rows) sorted found once = go (λ rest later few. paired_but_one k rows rest later few) (nat_cmp k row.0) refl
    where
      go : (T (is_sorted nat_cmp rows) → find nat_cmp k rows ≡ Some frame → rows_with frame rows ≤ 1 → paired g rows ≡ put nat_cmp k (g frame) (paired h rows)) → (r : Ordering) → nat_cmp k row.0 ≡ r
          → paired g (row ∷ rows) ≡ by_order (nat_cmp k row.0) ((k, g frame) ∷ (row.0, h row.1) ∷ paired h rows) ((row.0, g frame) ∷ paired h rows)
          ((row.0, h row.1) ∷ put nat_cmp k (g frame) (paired h rows))
      go again Less e = absurd (grind (arith, nat_tests, found, e, absent_below k row.0 rows))
      go again Equal e =
          let same : row.1 ≡ frame = grind (arith, nat_tests, found, e) in
          let none : rows_with frame rows ≡ 0 = grind (arith, nat_tests, same, once) in
          ap (λ n. (row.0, g n) ∷ paired g rows) same ∙ ap (λ es. (row.0, g frame) ∷ es) (paired_apart g h frame alike rows none)
          ∙ sym (ap (λ r. by_order r ((k, g frame) ∷ (row.0, h row.1) ∷ paired h rows) ((row.0, g frame) ∷ paired h rows) ((row.0, h row.1) ∷ put nat_cmp k (g frame) (paired h rows))) e)
      go again Greater e =
          let later : find nat_cmp k rows ≡ Some frame = grind (arith, nat_tests, found, e) in
          let other : row.1 ≢ frame = λ (s : row.1 ≡ frame). grind (arith, nat_tests, s, once, found_is_with k frame rows later) in
          let less : rows_with frame rows ≤ 1 = omega (arith, once) in
          ap (λ y. (row.0, y) ∷ paired g rows) (alike row.1 other)
          ∙ ap (λ es. (row.0, h row.1) ∷ es) (again (grind arith) later less)
          ∙ sym (ap (λ r. by_order r ((k, g frame) ∷ (row.0, h row.1) ∷ paired h rows) ((row.0, g frame) ∷ paired h rows) ((row.0, h row.1) ∷ put nat_cmp k (g frame) (paired h rows))) e)
