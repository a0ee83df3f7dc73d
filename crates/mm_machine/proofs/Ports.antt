-- A use of a port keeps what is true of a machine.
use Rattle.std.proofs.Common.{◌≡◌, ℕ, ◌<◌, ◌^◌, Bool, true, false, not, if◌then◌else◌, Option, Some, None, refl, sym}
use Rattle.std.{proofs.{Common.{◌∙◌, subst}, Math.Logic.∥∥₁_map}, specs.List.AllByRecursion}
use Rattle.mm_word.specs.{declared.word.{Word.TheVariants.Int, Cell.Cell}, Word.IsWord}
use Rattle.mm_model.specs.{Memory.{Memory, cell_at, put_cell, ArePages}, State.State, Spelling.HoldsWords}
use Rattle.mm_model.proofs.{EffectWords.cell_words, StateKeeps.{MemoryKeeps, memory_self, cell_keeps}}
use Rattle.mm_mem.specs.Answers.{set_where, put_where, after_load, after_store}
use Rattle.mm_machine.specs.Validity.{IsValid}
use Rattle.mm_word.specs.declared.word.Pre.TheVariants as pres
use Rattle.mm_word.specs.declared.word.Post.TheVariants as posts

module _ (m : Memory) (pages : ArePages m.pages) (cells : AllByRecursion HoldsWords m.pages) where
  same : MemoryKeeps m m
  same = memory_self m pages cells

  put_where-keeps : (w : ℕ) (c : Cell) → IsWord c.word → (b : Bool) → MemoryKeeps m (if b then put_cell m w c else m)
  put_where-keeps w c k true = cell_keeps m (Some (w, c)) pages cells k
  put_where-keeps w c k false = same

  take_keeps : (w : ℕ) → MemoryKeeps m (after_load m w pres.Full posts.Empty)
  take_keeps w = by (cell_at m w) refl
    where
      by : (o : Option Cell) → cell_at m w ≡ o → MemoryKeeps m (set_where m w pres.Full posts.Empty o)
      by None is = same
      by (Some c) is = put_where-keeps w (record c { full = false }) (cell_words m w c cells is) c.full

  put_keeps : (w bits : ℕ) → bits < 2 ^ 64 → MemoryKeeps m (after_store m w (Int bits) pres.Empty posts.Full)
  put_keeps w bits fits = by (cell_at m w)
    where
      by : (o : Option Cell) → MemoryKeeps m (put_where m w pres.Empty o (λ c. record { word = Int bits; full = true }))
      by None = same
      by (Some c) = put_where-keeps w (record { word = Int bits; full = true }) fits (not c.full)

valid_with : (s : State) (m : Memory) → MemoryKeeps s.memory m → IsValid s → IsValid (record s { memory = m })
valid_with s m keeps k = record {
  image = k.image;
  is_image = k.is_image;
  state = record { core = k.state.core; rows = k.state.rows; pages = keeps.pages; cells = keeps.cells };
  fits = record {
    same_slots = k.fits.same_slots;
    version = k.fits.version;
    split = k.fits.split;
    frames = keeps.frames ∙ k.fits.frames;
    mapped = keeps.mapped k.fits.mapped;
    matched = k.fits.matched;
  };
  types = k.types;
  turns = k.turns;
}

pub valid_taken : (s : State) (w : ℕ) (m : Memory) → m ≡ after_load s.memory w pres.Full posts.Empty → ∥ IsValid s ∥₁ → ∥ IsValid (record s { memory = m }) ∥₁
valid_taken s w m is h = ∥∥₁_map h (λ k. valid_with s m (subst (MemoryKeeps s.memory) (sym is) (take_keeps s.memory k.state.pages k.state.cells w)) k)

pub valid_put : (s : State) (w bits : ℕ) (m : Memory) → bits < 2 ^ 64 → m ≡ after_store s.memory w (Int bits) pres.Empty posts.Full → ∥ IsValid s ∥₁ → ∥ IsValid (record s { memory = m }) ∥₁
valid_put s w bits m fits is h = ∥∥₁_map h (λ k. valid_with s m (subst (MemoryKeeps s.memory) (sym is) (put_keeps s.memory k.state.pages k.state.cells w bits fits)) k)
