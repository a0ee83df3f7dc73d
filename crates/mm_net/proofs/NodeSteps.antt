-- Alike nodes stay alike: after a turn of theirs, and after a link took or put there.
use Rattle.std.proofs.Common.{◌≡◌, ℕ, ◌^◌, ◌<◌, ◌⊎◌, inl, inr, Bool, true, false, not, List, Option, Some, None}
use Rattle.std.proofs.{Common.{slice_get, if◌then◌else◌, refl, sym, ap, ◌∙◌, subst}, lemmas.Bool.{cases_eq, cases_Bool}}
use Rattle.mm_word.specs.declared.word.{Pre.TheVariants.{Full, Empty}, Word.TheVariants.Int, Cell.Cell}
use Rattle.mm_word.proofs.Rights.{can_store-loads}
use Rattle.mm_model.specs.{Memory.{Memory, cell_at, put_cell}, State.State, Image.Image, Effect.set_by, Turn.with_cell}
use Rattle.mm_model.specs.{Schedule.is_kept, Run.{turn_of, after}, Trace.group_in, Reach.{CanWrite, Entries as entries}}
use Rattle.mm_model.{specs.Worlds.Touchable, proofs.Memories.{aligned, cell_at-put_same, cell_at-put_other}}
use Rattle.mm_laws.specs.{Granted.StepGranted, Isolated.AgreeApart}
use Rattle.mm_laws.proofs.{GrantedTurns.step_granted, AlikeWorlds.touchable_back, TwoRuns.worlds_go_on}
use Rattle.mm_mem.specs.Answers.{put_where, set_where}
use Rattle.mm_net.specs.{declared.link.Link.Link, Nets.{taken_from, put_into}, Isolated.NetsAgreeApart}
use Rattle.mm_net.proofs.PortCalls.{NodeGranted, taken_by, put_by, taken_granted, put_granted}
use Rattle.mm_net.proofs.BothNets.{OwnEnd, AlikeAt, unwritten, agree_at, end_other}
use Rattle.mm_word.specs.declared.word.Post.TheVariants as leaves

-- 1. Cells after a take and a put.

-- the same cell put at the same word of two memories
both_changed : (m p : Memory) (w : ℕ) (old new : Cell) → cell_at m w ≡ Some old → cell_at p w ≡ Some old → (v : ℕ)
    → cell_at m v ≡ cell_at p v → cell_at (put_cell m w new) v ≡ cell_at (put_cell p w new) v
both_changed m p w old new in_m in_p v same = elim (cases_eq v w) [
  | inl here ↦ ap (cell_at (put_cell m w new)) here ∙ cell_at-put_same m w new old in_m ∙ sym (cell_at-put_same p w new old in_p) ∙ sym (ap (cell_at (put_cell p w new)) here)
  | inr ne ↦ cell_at-put_other m w v new (aligned m w old in_m) ne ∙ same ∙ sym (cell_at-put_other p w v new (aligned p w old in_p) ne)
]

module _ (a b : State) (w : ℕ) (equal : cell_at a.memory w ≡ cell_at b.memory w) (v : ℕ) (same : cell_at a.memory v ≡ cell_at b.memory v) where
  both_taken : cell_at (taken_from a w).memory v ≡ cell_at (taken_from b w).memory v
  both_taken = ap (λ o. cell_at (set_where a.memory w Full leaves.Empty o) v) equal ∙ by (cell_at b.memory w) equal refl
    where
      by_bit : (c : Cell) → cell_at a.memory w ≡ Some c → cell_at b.memory w ≡ Some c → (full : Bool)
          → cell_at (if full then with_cell a.memory (set_by leaves.Empty w c) else a.memory) v ≡ cell_at (if full then with_cell b.memory (set_by leaves.Empty w c) else b.memory) v
      by_bit c in_a in_b true = both_changed a.memory b.memory w c (record c { full = false }) in_a in_b v same
      by_bit c in_a in_b false = same

      by : (o : Option Cell) → cell_at a.memory w ≡ o → cell_at b.memory w ≡ o → cell_at (set_where a.memory w Full leaves.Empty o) v ≡ cell_at (set_where b.memory w Full leaves.Empty o) v
      by None in_a in_b = same
      by (Some c) in_a in_b = by_bit c in_a in_b c.full

  both_put : (bits : ℕ) → cell_at (put_into a w bits).memory v ≡ cell_at (put_into b w bits).memory v
  both_put bits = ap (λ o. cell_at (put_where a.memory w Empty o (λ c. new)) v) equal ∙ by (cell_at b.memory w) equal refl
    where
      new : Cell
      new = record { word = Int bits; full = true }

      by_bit : (c : Cell) → cell_at a.memory w ≡ Some c → cell_at b.memory w ≡ Some c → (full : Bool)
          → cell_at (if not full then put_cell a.memory w new else a.memory) v ≡ cell_at (if not full then put_cell b.memory w new else b.memory) v
      by_bit c in_a in_b true = same
      by_bit c in_a in_b false = both_changed a.memory b.memory w c new in_a in_b v same

      by : (o : Option Cell) → cell_at a.memory w ≡ o → cell_at b.memory w ≡ o → cell_at (put_where a.memory w Empty o (λ c. new)) v ≡ cell_at (put_where b.memory w Empty o (λ c. new)) v
      by None in_a in_b = same
      by (Some c) in_a in_b = by_bit c in_a in_b c.full

-- cells of other words stay
one_taken : (s : State) (w v : ℕ) → (v ≡ w → ⊥) → cell_at (taken_from s w).memory v ≡ cell_at s.memory v
one_taken s w v ne = taken_by (λ x. cell_at x.memory v ≡ cell_at s.memory v) s w refl
    (λ c is full. cell_at-put_other s.memory w v (record { word = c.word; full = false }) (aligned s.memory w c is) ne)

one_put : (s : State) (w bits v : ℕ) → (v ≡ w → ⊥) → cell_at (put_into s w bits).memory v ≡ cell_at s.memory v
one_put s w bits v ne = put_by (λ x. cell_at x.memory v ≡ cell_at s.memory v) s w bits refl
    (λ c is free. cell_at-put_other s.memory w v (record { word = Int bits; full = true }) (aligned s.memory w c is) ne)

-- 2. Turns.

-- after a turn the cell of a word that no group outside can write is as it was, or the groups can touch it
stays_or_touched : (i : Image) (c : ℕ → Bool) (s : State) (n w : ℕ) → StepGranted i entries.All s n → ((g : ℕ) → c g ≡ false → CanWrite i entries.All g w → ⊥)
    → (cell_at (after s n).memory w ≡ cell_at s.memory w) ⊎ Touchable i entries.All c w
stays_or_touched i c s n w step outside = elim (step.changed w) [
  | inl same ↦ inl same
  | inr can ↦ elim (cases_Bool (c (group_in (turn_of s n)))) [
    | inl mine ↦
        inr
        (record {
          group = group_in (turn_of s n);
          member = mine;
          touches = record { by = can.by; granted = can.granted; loads = record { word = can.stores.word; right = can_store-loads can.by.perm can.stores.right; covers = can.stores.covers } };
        })
    | inr other ↦ absurd (outside (group_in (turn_of s n)) other can)
  ]
]

module _ (images others : List Image) (links : List Link) (c : ℕ → ℕ → Bool) (g : NetsAgreeApart images others links c)
    (n : ℕ) (i j : Image) (in_images : slice_get images n ≡ Some i) (in_others : slice_get others n ≡ Some j) (a b : State) (h : AlikeAt images links c n i j a b) where
  agree : AgreeApart i j (c n)
  agree = agree_at images others links c g n i j in_images in_others

  after_one : (item w : ℕ) → OwnEnd images links c n w → (cell_at (after a item).memory w ≡ cell_at a.memory w) ⊎ Touchable i entries.All (c n) w
  after_one item w e =
      stays_or_touched i (c n) a item w (step_granted i entries.All a item agree.one h.worlds.one_state h.worlds.one h.worlds.one_words)
      (λ group outside. unwritten images links c n w e g.one_apart i group in_images outside)

  after_other : (item w : ℕ) → OwnEnd others links c n w → (cell_at (after b item).memory w ≡ cell_at b.memory w) ⊎ Touchable j entries.All (c n) w
  after_other item w e =
      stays_or_touched j (c n) b item w (step_granted j entries.All b item agree.other h.worlds.other_state h.worlds.other h.worlds.other_words)
      (λ group outside. unwritten others links c n w e g.other_apart j group in_others outside)

  -- a turn of the groups, in both nets
  pub alike_turns : (item : ℕ) → is_kept i (c n) item ≡ true → AlikeAt images links c n i j (after a item) (after b item)
  alike_turns item kept =
      let worlds = (worlds_go_on i j (c n) a b item agree h.worlds).both kept in
      record {
        worlds = worlds;
        ends = λ w e. elim (after_one item w e) [
          | inr touched ↦ worlds.alike.cells w touched
          | inl one ↦ elim (after_other item w (end_other images others links c g n w e)) [
            | inr touched ↦ worlds.alike.cells w (touchable_back i j (c n) agree.agree agree.other_apart w touched)
            | inl other ↦ one ∙ h.ends w e ∙ sym other
          ]
        ];
      }

  -- a turn outside, in one of them
  pub alike_turn : (item : ℕ) → is_kept i (c n) item ≡ false → AlikeAt images links c n i j (after a item) b
  alike_turn item kept =
      let worlds = (worlds_go_on i j (c n) a b item agree h.worlds).one kept in
      record { worlds = worlds; ends = λ w e. elim (after_one item w e) [ inr touched ↦ worlds.alike.cells w touched | inl one ↦ one ∙ h.ends w e ] }

-- 3. Takes and puts.

module _ (images : List Image) (links : List Link) (c : ℕ → ℕ → Bool) (n : ℕ) (i j : Image) (a b : State) (h : AlikeAt images links c n i j a b) where
  granted_one : NodeGranted i entries.All a
  granted_one = record { state = h.worlds.one_state; fits = h.worlds.one; words = h.worlds.one_words }

  granted_other : NodeGranted j entries.All b
  granted_other = record { state = h.worlds.other_state; fits = h.worlds.other; words = h.worlds.other_words }

  -- the memories of both nodes change, and equal cells stay equal
  both_change : (m p : Memory) → NodeGranted i entries.All (record a { memory = m }) → NodeGranted j entries.All (record b { memory = p })
      → ((v : ℕ) → cell_at a.memory v ≡ cell_at b.memory v → cell_at m v ≡ cell_at p v) → AlikeAt images links c n i j (record a { memory = m }) (record b { memory = p })
  both_change m p one other equal = record {
    worlds = record {
      one_state = one.state;
      one = one.fits;
      one_words = one.words;
      other_state = other.state;
      other = other.fits;
      other_words = other.words;
      alike = record { rows = h.worlds.alike.rows; outputs = h.worlds.alike.outputs; cells = λ v touched. equal v (h.worlds.alike.cells v touched) };
    };
    ends = λ v e. equal v (h.ends v e);
  }

  pub alike_takes : (w : ℕ) → cell_at a.memory w ≡ cell_at b.memory w → AlikeAt images links c n i j (taken_from a w) (taken_from b w)
  alike_takes w equal =
      both_change (taken_from a w).memory (taken_from b w).memory (taken_granted i entries.All a w granted_one)
      (taken_granted j entries.All b w granted_other) (λ v same. both_taken a b w equal v same)

  pub alike_puts : (w bits : ℕ) → bits < 2 ^ 64 → cell_at a.memory w ≡ cell_at b.memory w → AlikeAt images links c n i j (put_into a w bits) (put_into b w bits)
  alike_puts w bits fits equal =
      both_change (put_into a w bits).memory (put_into b w bits).memory (put_granted i entries.All a w bits fits
      granted_one) (put_granted j entries.All b w bits fits granted_other)
      (λ v same. both_put a b w equal v same bits)

  -- the memory of one changes, at a word that the groups cannot touch and that is no end of theirs
  module _ (w : ℕ) (untouched : Touchable i entries.All (c n) w → ⊥) (no_end : OwnEnd images links c n w → ⊥) where
    one_changes : (m : Memory) → NodeGranted i entries.All (record a { memory = m })
        → ((v : ℕ) → (v ≡ w → ⊥) → cell_at m v ≡ cell_at a.memory v) → AlikeAt images links c n i j
        (record a { memory = m }) b
    one_changes m one stays = record {
      worlds = record {
        one_state = one.state;
        one = one.fits;
        one_words = one.words;
        other_state = h.worlds.other_state;
        other = h.worlds.other;
        other_words = h.worlds.other_words;
        alike = record {
          rows = h.worlds.alike.rows;
          outputs = h.worlds.alike.outputs;
          cells = λ v touched. stays v (λ here. untouched (subst (Touchable i entries.All (c n)) here touched)) ∙ h.worlds.alike.cells v touched;
        };
      };
      ends = λ v e. stays v (λ here. no_end (subst (OwnEnd images links c n) here e)) ∙ h.ends v e;
    }

    pub alike_take : AlikeAt images links c n i j (taken_from a w) b
    alike_take = one_changes (taken_from a w).memory (taken_granted i entries.All a w granted_one) (λ v ne. one_taken a w v ne)

    pub alike_put : (bits : ℕ) → bits < 2 ^ 64 → AlikeAt images links c n i j (put_into a w bits) b
    alike_put bits fits = one_changes (put_into a w bits).memory (put_granted i entries.All a w bits fits granted_one) (λ v ne. one_put a w bits v ne)
