-- Images that are generated of a number.
use Rattle.std.specs.Prelude.{ℕ, zero, suc, ◌+◌, ◌*◌, ◌%◌, ◌^◌, true, false, List, [], ◌∷◌, ◌++◌, map, replicate, None}
use Rattle.std.specs.{Prelude.{pos, negsuc}, List.{flat_map, range_with_len}}
use Rattle.mm_word.specs.declared.perm.Perm.{Perm, TheVariants.{Rw, Xu}}
use Rattle.mm_word.specs.{declared.word.{Word.TheVariants.{Int, Ptr}, Cell.Cell}, Pointer.Pointer}
use Rattle.mm_isa.specs.declared.instr.{Instr.{Instr, TheVariants.{Ld, Alu, Out, Leai, Br}}, AluOp.TheVariants.Xor}
use Rattle.mm_isa.specs.Table.{spelling}
use Rattle.mm_model.specs.{declared.slot.SlotState.TheVariants.Running, Memory.zero_cell, Slot.Slot}
use Rattle.mm_model.specs.Image.{Image, none_empty}
use Rattle.mm_word.specs.declared.word.Pre.TheVariants as pre
use Rattle.mm_word.specs.declared.word.Post.TheVariants as post

-- 1. Numbers.

-- the number after a number in the series
abbrev pub next_number : ℕ → ℕ
next_number x = (x * 0x5851f42d4c957f2d + 0x14057b7ef767814f) % 2 ^ 64

-- number k of the series that begins with a number
unfoldable pub nth_number : (number k : ℕ) → ℕ
nth_number number zero = number
nth_number number (suc k) = next_number (nth_number number k)

-- 2. Pages.

-- the page of a slot's code; the page of its data is the next
abbrev pub code_page : ℕ → ℕ
code_page slot = 256 + 2 * slot

abbrev pub data_page : ℕ → ℕ
data_page slot = 257 + 2 * slot

abbrev pub full_cell : ℕ → Cell
full_cell bits = record { word = Int bits; full = true }

-- a loop over the data: register 3 becomes the exclusive or of all words so far, and its low byte is put out
abbrev pub loop : List Instr
loop = Ld 2 1 pre.Any post.Keep (pos 0) ∷ Alu Xor 3 3 2 ∷ Out 3 ∷ Leai 1 1 (pos 8) ∷ Br (negsuc 3) ∷ []

-- the cells of the loop, and zeros after it
unfoldable pub code_cells : List Cell
code_cells = map (λ i. full_cell (spelling i)) loop ++ replicate 507 zero_cell

-- word k of a slot's data
abbrev pub data_cell : (number slot k : ℕ) → Cell
data_cell number slot k = full_cell (nth_number number (512 * slot + k + 1))

unfoldable pub data_cells : (number slot : ℕ) → List Cell
data_cells number slot = map (data_cell number slot) (range_with_len 0 512)

unfoldable pub slot_pages : (number slot : ℕ) → List (ℕ × List Cell)
slot_pages number slot = (code_page slot, code_cells) ∷ (data_page slot, data_cells number slot) ∷ []

-- 3. Slots.

abbrev pub page_pointer : Perm → ℕ → Pointer
page_pointer perm page = record { perm = perm; log = 12; addr = page * 4096 }

-- the slot of a number: in a group of its own, it begins at its code, and its register 1 points to its data
unfoldable pub slot_at : ℕ → Slot
slot_at slot = record {
  number = slot;
  group = slot;
  handler = None;
  regs = Int 0 ∷ Ptr (page_pointer Rw (data_page slot)) ∷ replicate 14 (Int 0);
  ip = page_pointer Xu (code_page slot);
  past = false;
  turns = 0;
  state = Running;
  empty = none_empty;
  pending = [];
}

-- 4. The image of a number, with `size` slots.

unfoldable pub generated : (number size : ℕ) → Image
generated number size = record {
  version = 1;
  split = false;
  slots = map slot_at (range_with_len 0 size);
  memory = record { pages = flat_map (slot_pages number) (range_with_len 0 size); frames = 2 * size };
}
