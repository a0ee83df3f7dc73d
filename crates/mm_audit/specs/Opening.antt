-- The groups that use an address, by the spans that begin before or at it.
use Rattle.std.specs.{Prelude.{◌≡◌, ℕ, ◌+◌, ◌-◌, ◌<◌, ◌≤◌, ◌↔◌, List, length, take, slice_index_or}, Int.bit_at}
use Rattle.mm_model.specs.declared.word_use.WordUse.{WordUse, TheVariants.{Touch, Write}}
use Rattle.mm_audit.specs.{declared.{span.Span.Span, open_spans.Open.Open}, Spans.{Uses, base_at, end_at}}

abbrev pub no_open : Open
no_open = record { end = 0; touch = 0; write = 0 }

abbrev pub open_at : List Open → ℕ → Open
open_at stack n = slice_index_or stack n no_open

abbrev pub open_end : List Open → ℕ → ℕ
open_end stack n = (open_at stack n).end

abbrev pub users : WordUse → Open → ℕ
users Touch o = o.touch
users Write o = o.write

-- the group uses one of the first `top` spans that ends after the address
pub record IsLive (spans : List Span) (how : WordUse) (top a g : ℕ) : Type 0 where
  pub span : ℕ
  pub small : span < top
  pub uses : Uses spans how span g
  pub live : a < end_at spans span

-- the spans at the top of the stack that end at or before the address are gone
pub record Closed (base : ℕ) (old new : List Open) : Type 0 where
  pub fits : length new ≤ length old
  pub front : new ≡ take (length new) old
  pub ended : (n : ℕ) → length new ≤ n → n < length old → open_end old n ≤ base
  pub last : 0 < length new → base < open_end new (length new - 1)

pub record IsLast (stack : List Open) (o : Open) : Type 0 where
  pub some : 0 < length stack → o ≡ open_at stack (length stack - 1)
  pub none : length stack ≡ 0 → o ≡ no_open

-- the innermost of the open spans that ends after the address
pub record IsInnermost (stack : List Open) (n a : ℕ) : Type 0 where
  pub small : n < length stack
  pub holds : a < open_end stack n
  pub last : n + 1 < length stack → open_end stack (n + 1) ≤ a

-- At each address from `from` on, the innermost open span says which groups use it, of the first `top` spans.
pub record AreOpen (spans : List Span) (top from : ℕ) (stack : List Open) : Type 0 where
  pub fall : (m n : ℕ) → m < n → n < length stack → open_end stack n ≤ open_end stack m
  pub ends : (n : ℕ) → n < length stack → (j : ℕ) × (j < top) × (open_end stack n ≡ end_at spans j)
  pub inside : (how : WordUse) (n a g : ℕ) → from ≤ a → IsInnermost stack n a
      → (bit_at (users how (open_at stack n)) g ≡ 1) ↔ IsLive spans how top a g
  pub outside : (how : WordUse) (a g : ℕ) → from ≤ a → (0 < length stack → open_end stack 0 ≤ a)
      → ¬ IsLive spans how top a g

-- the open span says which groups use the first address of the span at an index
abbrev pub IsOpenAt : List Span → ℕ → Open → Type 0
IsOpenAt spans k o =
    (how : WordUse) (g : ℕ) → (bit_at (users how o) g ≡ 1) ↔ IsLive spans how (k + 1) (base_at spans k) g
