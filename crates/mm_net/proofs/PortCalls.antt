-- A link takes at a word of a node, or puts an integer there: what that leaves is a state again that fits its image, whose words are granted
-- as before, and no pointer enters it.
use Rattle.std.proofs.Common.{◌≡◌, ℕ, ◌%◌, ◌^◌, ◌<◌, ◌⊎◌, inl, inr, Bool, true, false, not, Option, Some, None}
use Rattle.std.proofs.{Common.{if◌then◌else◌, refl, sym, ap, ◌∙◌, subst}, lemmas.Bool.cases_eq}
use Rattle.mm_word.specs.declared.word.{Pre.TheVariants.{Full, Empty}, Word.TheVariants.Int, Cell.Cell}
use Rattle.mm_word.specs.Word.{IsWord, word_bits}
use Rattle.mm_model.specs.{Memory.{cell_at, put_cell}, State.State, Image.Image, Effect.set_by, Turn.with_cell}
use Rattle.mm_model.specs.{Fits.{IsState, Fits}, Reach.Entries}
use Rattle.mm_model.proofs.Memories.{aligned, put_cases, put_frames, cell_at-put_same, cell_at-put_other}
use Rattle.mm_model.proofs.{EffectWords.{bits_fit, cell_words}, StateKeeps.cell_keeps}
use Rattle.mm_laws.specs.Granted.{CellGranted, WordsGranted}
use Rattle.mm_mem.specs.Answers.{put_where, set_where}
use Rattle.mm_net.specs.{Nets.{bits_in, taken_from, put_into}, Granted.{IsEmptied, IsFilled, OnlyIntegersEnter}}
use Rattle.mm_word.specs.declared.word.Post.TheVariants as leaves

-- a state that fits its image, and whose words are granted under the entries
pub record NodeGranted (i : Image) (e : Entries) (s : State) : Type 0 where
  pub state : IsState s
  pub fits : Fits i s
  pub words : WordsGranted i e s

-- 1. A cell that is replaced.

module _ (s : State) (w : ℕ) (c : Cell) where
  -- the state with this cell at the word
  abbrev pub replaced : State
  replaced = record s { memory = put_cell s.memory w c }

  pub replaced_state : IsWord c.word → IsState s → IsState replaced
  replaced_state word h =
      let memory = cell_keeps s.memory (Some (w, c)) h.pages h.cells word in
      record { core = h.core; rows = h.rows; pages = memory.pages; cells = memory.cells }

  pub replaced_fits : (i : Image) → IsWord c.word → IsState s → Fits i s → Fits i replaced
  replaced_fits i word h fits =
      let memory = cell_keeps s.memory (Some (w, c)) h.pages h.cells word in
      record {
        same_slots = fits.same_slots;
        version = fits.version;
        split = fits.split;
        frames = memory.frames ∙ fits.frames;
        mapped = memory.mapped fits.mapped;
        matched = fits.matched;
      }

  pub replaced_words : (i : Image) (e : Entries) → w % 8 ≡ 0 → CellGranted i e w c.word → WordsGranted i e s → WordsGranted i e replaced
  replaced_words i e aligned granted words = record {
    rows = words.rows;
    cells = λ v d is. elim (put_cases s.memory w v c d aligned is) [
      | inl here ↦ subst (λ k. CellGranted i e k d.word) (sym here.0) (subst (λ (x : Cell). CellGranted i e w x.word) (sym here.1) granted)
      | inr there ↦ words.cells v d there
    ];
  }

  pub replaced_granted : (i : Image) (e : Entries) → w % 8 ≡ 0 → IsWord c.word → CellGranted i e w c.word → NodeGranted i e s → NodeGranted i e replaced
  replaced_granted i e aligned word granted h = record {
    state = replaced_state word h.state;
    fits = replaced_fits i word h.state h.fits;
    words = replaced_words i e aligned granted h.words;
  }

  only_replaced : w % 8 ≡ 0 → IsEmptied s.memory replaced.memory w ⊎ IsFilled s.memory replaced.memory w → OnlyIntegersEnter s replaced
  only_replaced aligned changed = record {
    core = refl;
    cycles = refl;
    frames = put_frames s.memory w c;
    cells = λ v. elim (cases_eq v w) [
      | inl here ↦ inr (subst (λ k. IsEmptied s.memory replaced.memory k ⊎ IsFilled s.memory replaced.memory k) (sym here) changed)
      | inr there ↦ inl (cell_at-put_other s.memory w v c aligned there)
    ];
  }

-- 2. What a take and a put leave: the state as it was, or with one cell replaced.

abbrev emptied : Cell → Cell
emptied c = record { word = c.word; full = false }

abbrev filled : ℕ → Cell
filled bits = record { word = Int bits; full = true }

pub taken_by : (P : State → Type 0) (s : State) (w : ℕ) → P s → ((c : Cell) → cell_at s.memory w ≡ Some c → c.full ≡ true → P (replaced s w (emptied c))) → P (taken_from s w)
taken_by P s w same taken = by (cell_at s.memory w) refl
  where
    by_bit : (c : Cell) → cell_at s.memory w ≡ Some c → (b : Bool) → c.full ≡ b → P (record s { memory = if b then with_cell s.memory (set_by leaves.Empty w c) else s.memory })
    by_bit c is true full = taken c is full
    by_bit c is false full = same

    by : (o : Option Cell) → cell_at s.memory w ≡ o → P (record s { memory = set_where s.memory w Full leaves.Empty o })
    by None is = same
    by (Some c) is = by_bit c is c.full refl

pub put_by : (P : State → Type 0) (s : State) (w bits : ℕ) → P s → ((c : Cell) → cell_at s.memory w ≡ Some c → c.full ≡ false → P (replaced s w (filled bits))) → P (put_into s w bits)
put_by P s w bits same put = by (cell_at s.memory w) refl
  where
    by_bit : (c : Cell) → cell_at s.memory w ≡ Some c → (b : Bool) → c.full ≡ b → P (record s { memory = if not b then put_cell s.memory w (filled bits) else s.memory })
    by_bit c is true full = same
    by_bit c is false full = put c is full

    by : (o : Option Cell) → cell_at s.memory w ≡ o → P (record s { memory = put_where s.memory w Empty o (λ c. filled bits) })
    by None is = same
    by (Some c) is = by_bit c is c.full refl

-- 3. What they keep.

pub taken_granted : (i : Image) (e : Entries) (s : State) (w : ℕ) → NodeGranted i e s → NodeGranted i e (taken_from s w)
taken_granted i e s w h =
    taken_by (NodeGranted i e) s w h
    (λ c is full. replaced_granted s w (emptied c) i e (aligned s.memory w c is) (cell_words s.memory w c h.state.cells is) (h.words.cells w c is) h)

pub put_granted : (i : Image) (e : Entries) (s : State) (w bits : ℕ) → bits < 2 ^ 64 → NodeGranted i e s → NodeGranted i e (put_into s w bits)
put_granted i e s w bits fits h = put_by (NodeGranted i e) s w bits h (λ c is free. replaced_granted s w (filled bits) i e (aligned s.memory w c is) fits tt h)

-- what is taken fits 64 bits
pub taken_fits : (s : State) (w bits : ℕ) → IsState s → bits_in (cell_at s.memory w) ≡ Some bits → bits < 2 ^ 64
taken_fits s w bits h is = by (cell_at s.memory w) refl is
  where
    by_bit : (c : Cell) → cell_at s.memory w ≡ Some c → (b : Bool) → (if b then Some (word_bits c.word) else None) ≡ Some bits → bits < 2 ^ 64
    by_bit c at true taken = let same : word_bits c.word ≡ bits = cc in subst (λ n. n < 2 ^ 64) same (bits_fit c.word (cell_words s.memory w c h.cells at))
    by_bit c at false taken = cc

    by : (o : Option Cell) → cell_at s.memory w ≡ o → bits_in o ≡ Some bits → bits < 2 ^ 64
    by None at taken = cc
    by (Some c) at taken = by_bit c at c.full taken

-- 4. No pointer enters.

pub only_self : (s : State) → OnlyIntegersEnter s s
only_self s = record { core = refl; cycles = refl; frames = refl; cells = λ w. inl refl }

whole : (c : Cell) (b : Bool) → c.full ≡ b → c ≡ record { word = c.word; full = b }
whole c b is = ap (λ full. record { word = c.word; full = full }) is

pub taken_only : (s : State) (w : ℕ) → OnlyIntegersEnter s (taken_from s w)
taken_only s w =
    taken_by (OnlyIntegersEnter s) s w (only_self s)
    (λ c is full. only_replaced s w (emptied c) (aligned s.memory w c is)
    (inl (record { word = c.word; was = is ∙ ap (λ (x : Cell). Some x) (whole c true full); is = cell_at-put_same s.memory w (emptied c) c is })))

pub put_only : (s : State) (w bits : ℕ) → OnlyIntegersEnter s (put_into s w bits)
put_only s w bits =
    put_by (OnlyIntegersEnter s) s w bits (only_self s)
    (λ c is free. only_replaced s w (filled bits) (aligned s.memory w c is)
    (inr (record { word = c.word; bits = bits; was = is ∙ ap (λ (x : Cell). Some x) (whole c false free); is = cell_at-put_same s.memory w (filled bits) c is })))
