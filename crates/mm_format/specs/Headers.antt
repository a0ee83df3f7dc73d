-- The header of an image file, row by row.
use Rattle.std.specs.Prelude.{◌-◌, not, ◌||◌, ◌==◌, nat_lt, codes}
use Rattle.mm_model.specs.{Image.{slot_limit, frame_limit}, Spelling.mode_of}
use Rattle.mm_format.specs.{declared.header.Header.Header, Formats.{Format, u16, u32, test, literal, part, done, ◌>>=◌}}

unfoldable pub header : Format Header
header = do
  magic ← part (λ h. codes "MMI1") (literal (codes "MMI1") 2)
  version ← part (λ h. h.version) (test u16 3 (λ n. not (n == 1 || n == 2)))
  slots ← part (λ h. h.slots) (test u16 4 (λ n. n == 0 || nat_lt (slot_limit version) n))
  frames ← part (λ h. h.frames) (test u16 12 (λ n. n == 0 || nat_lt (frame_limit version) n))
  pages ← part (λ h. h.pages) (test u16 12 (λ n. nat_lt frames n))
  mode ← part (λ h. mode_of h.split) (test u32 4 (λ n. nat_lt (version - 1) n))
  done (record { version = version; slots = slots; frames = frames; pages = pages; split = mode == 1 })
