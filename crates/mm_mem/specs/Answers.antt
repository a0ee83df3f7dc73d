-- What the calls of a memory answer, what they leave, and the uses that they add.
use Rattle.std.specs.Prelude.{ℕ, if◌then◌else◌, List, [], ◌∷◌, Option, Some, None}
use Rattle.mm_word.specs.declared.word.{Word.Word, Cell.Cell, Pre.{Pre, TheVariants.Any}, Post.Post}
use Rattle.mm_word.specs.Access.{AccessValue}
use Rattle.mm_mem.specs.declared.answer.{Loaded.Loaded, Stored.Stored}
use Rattle.mm_model.specs.Memory.{Memory, cell_at, put_cell, is_mapped, can_map, map_page, unmap_page, passes}
use Rattle.mm_model.specs.{Memory.full_after, Uses.{Use, use_at}, Effect.set_by, Turn.{removal_use, with_cell}}
use Rattle.mm_mem.specs.declared.answer.Loaded.TheVariants as loads
use Rattle.mm_mem.specs.declared.answer.Stored.TheVariants as stores

-- 1. Answers, from the cell that an access finds.

abbrev pub fetched : Option Cell → Option Word
fetched None = None
fetched (Some c) = Some c.word

abbrev pub loaded : Pre → Option Cell → Loaded
loaded pre None = loads.NoPage
loaded pre (Some c) = if passes pre c.full then loads.Value c.word else loads.NotReady

abbrev pub stored : Pre → Option Cell → Stored
stored pre None = stores.NoPage
stored pre (Some c) = if passes pre c.full then stores.Done else stores.NotReady

-- 2. What the calls leave.

-- the memory with the cell of a word changed, if the cell passes the precondition
abbrev pub put_where : Memory → ℕ → Pre → Option Cell → (Cell → Cell) → Memory
put_where m w pre None change = m
put_where m w pre (Some c) change = if passes pre c.full then put_cell m w (change c) else m

-- the memory with the bit of a word's cell set by the postcondition, if the bit passes the
-- precondition
abbrev pub set_where : Memory → ℕ → Pre → Post → Option Cell → Memory
set_where m w pre post None = m
set_where m w pre post (Some c) = if passes pre c.full then with_cell m (set_by post w c) else m

-- the memory after a load, which sets the bit by its postcondition, and changes no cell if that
-- keeps the bit
abbrev pub after_load : Memory → ℕ → Pre → Post → Memory
after_load m w pre post = set_where m w pre post (cell_at m w)

-- the memory after a store, which writes word and bit
abbrev pub after_store : Memory → ℕ → Word → Pre → Post → Memory
after_store m w word pre post = put_where m w pre (cell_at m w)
    (λ c. record { word = word; full = full_after post c.full })

abbrev pub after_map : Memory → ℕ → Memory
after_map m p = if can_map m p then map_page m p else m

abbrev pub after_unmap : Memory → ℕ → Memory
after_unmap m p = if is_mapped m p then unmap_page m p else m

-- 3. The uses that the calls add.

abbrev pub access_uses : Memory → AccessValue → Pre → List Use
access_uses m a pre = use_at a.kind a.addr pre (cell_at m a.addr) ∷ []

abbrev pub fetch_uses : Memory → AccessValue → List Use
fetch_uses m a = access_uses m a Any

abbrev pub unmap_uses : Memory → ℕ → List Use
unmap_uses m p = removal_use p (is_mapped m p)
