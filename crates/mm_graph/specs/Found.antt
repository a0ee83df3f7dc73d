-- The pointers in memory and in slots.
use Rattle.std.specs.{Prelude.{ℕ, ◌+◌, ◌*◌, List, [], ◌∷◌, ◌++◌, Option, Some, None}, List.flat_map}
use Rattle.mm_word.specs.declared.word.{Word.{Word, TheVariants.Ptr}, Cell.Cell}
use Rattle.mm_model.specs.Slot.{Slot}
use Rattle.mm_graph.specs.declared.{canonical_ptr.CanonicalPtr.CanonicalPtr, found.Found.Found, seed.Seed.Seed}
use Rattle.mm_graph.specs.Key.{word_key}

abbrev pub found_at : ℕ → Option CanonicalPtr → List Found
found_at w None = []
found_at w (Some k) = record { word = w; key = k } ∷ []

-- the pointers in cells, from an address on
abbrev pub cell_keys : ℕ → List Cell → List Found
cell_keys w [] = []
cell_keys w (c ∷ cells) = found_at w (word_key c.word) ++ cell_keys (w + 8) cells

abbrev pub page_keys : List (ℕ × List Cell) → List Found
page_keys pages = flat_map (λ page. cell_keys (page.0 * 4096) page.1) pages

abbrev pub seed_at : ℕ → Option CanonicalPtr → List Seed
seed_at g None = []
seed_at g (Some k) = record { group = g; key = k } ∷ []

-- the seeds of words that a group has
abbrev pub word_seeds : ℕ → List Word → List Seed
word_seeds g [] = []
word_seeds g (w ∷ ws) = seed_at g (word_key w) ++ word_seeds g ws

abbrev pub slot_seeds : Slot → List Seed
slot_seeds s = word_seeds s.group (Ptr s.ip ∷ s.regs)

abbrev pub seeds_of : List Slot → List Seed
seeds_of slots = flat_map slot_seeds slots
