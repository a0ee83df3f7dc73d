-- Sessions that can go back: their answers, and the states that they keep.
use Rattle.std.specs.Prelude.{◌≡◌, ◌⊎◌, ℕ, ◌+◌, ◌-◌, Bool, true, false, ◌||◌, nat_le, min, if◌then◌else◌, List, [], ◌∷◌}
use Rattle.std.specs.{Prelude.{◌++◌, codes, decimal, Option, Some, None, unwrap_or}, Str.bytes_eq}
use Rattle.circular_buffer.specs.Buffer.{keep_last, last_item}
use Rattle.mm_model.specs.{Image.Image, Lines.newline}
use Rattle.mm_machine.specs.Snapshot.{restored}
use Rattle.mm_debug.specs.Commands.{tokens, number_of, is_count, lines_of}
use Rattle.mm_debug.specs.Session.{Session, total_of, stepped, Answer, replies, answer_to, Dialogue, dialogue_by}
use Rattle.mm_debug.specs.{Dialogues.IsAnswer, Standing.{Point, StandsFor}, declared.session.Go.Go}
use Rattle.mm_debug.specs.declared.session.Go.TheVariants as go

-- 1. Lines that go back.

-- a count of cycles to go back: 1 to 1,000,000
abbrev pub count_of : Option ℕ → Option ℕ
count_of None = None
count_of (Some n) = if is_count n then Some n else None

abbrev pub back_by : List (List ℕ) → Option ℕ
back_by (word ∷ count ∷ []) = if bytes_eq word (codes "back") then count_of (number_of count) else None
back_by _ = None

-- the count of cycles that a line `back N` asks to go back; none for any other line
unfoldable pub back_of : List ℕ → Option ℕ
back_of line = back_by (tokens line)

-- 2. The value of a recorder.

-- A session, the session as it began, and the totals of the states in the ring, the oldest first.
pub record Recording : Type 0 where
  pub session : Session
  pub first : Session
  pub kept : List ℕ

-- a session without breaks and watches
abbrev pub bare : Session → Session
bare s = record s { breaks = []; watches = [] }

-- the session at a point, without breaks and watches
abbrev pub began_at : Session → Point → Session
began_at s p = bare (record s { last = p.last; state = restored s.state p.snapshot })

-- the session has the order with which it began, and stands for the image under it; so does the session as it began
pub record Recalls (i : Image) (r : Recording) : Type 0 where
  pub order : r.session.order ≡ r.first.order
  pub session : StandsFor i r.session
  pub first : StandsFor i r.first

-- 3. Answers.

-- a session with the state of another one, and with that one's place of round robin; breaks and watches stay
abbrev pub with_state : Session → (there : Session) → Session
with_state s there = record s { last = there.last; state = there.state }

-- the session as it was `count` cycles ago
abbrev pub gone_back : (first : Session) → Session → (count : ℕ) → Session
gone_back first s count = with_state s (stepped first (total_of s - count))

abbrev pub back_text : (count total : ℕ) → List ℕ
back_text count total = codes "back " ++ decimal count ++ codes " total " ++ decimal total ++ newline

-- the answer to a line: `back N` goes back N cycles, or all if there are fewer; any other line is the session's
abbrev pub answer_back : (first : Session) → Session → (line : List ℕ) → Option ℕ → Answer
answer_back first s line None = answer_to s line
answer_back first s line (Some n) = let count = min n (total_of s) in
    replies (back_text count (total_of s - count)) (gone_back first s count)

-- the answer to a line
unfoldable pub recalled : (first : Session) → Session → List ℕ → Answer
recalled first s line = answer_back first s line (back_of line)

-- the replies to lines, and the session afterwards; no line after a `quit` is carried out
abbrev pub recollection : (first : Session) → Session → List (List ℕ) → Dialogue
recollection first s lines = dialogue_by (recalled first) s lines

-- the replies to an input
abbrev pub recorded : (first : Session) → Session → List ℕ → Dialogue
recorded first s input = recollection first s (lines_of input)

-- 4. The ring.

-- the most states that the ring holds
abbrev pub ring_size : ℕ
ring_size = 8

-- the newest total, or 0 if there is none
abbrev pub newest : List ℕ → ℕ
newest kept = unwrap_or (last_item kept) 0

-- the two differ by 1,000 or more
abbrev pub is_far : ℕ → ℕ → Bool
is_far a b = nat_le (a + 1000) b || nat_le (b + 1000) a

-- the totals in the ring after a line, given those before it and the session's total: if the line is due, they are the
-- last 8 of those before and the session's, or those before; otherwise they are those before
abbrev pub IsKept : (old : List ℕ) (total : ℕ) (new : List ℕ) → Type 0
IsKept old total new =
    (is_far (newest old) total ≡ true → (new ≡ keep_last ring_size (old ++ total ∷ [])) ⊎ (new ≡ old))
    × (is_far (newest old) total ≡ false → new ≡ old)

-- the totals before the lines after an answer: no line after a `quit` is carried out
abbrev pub totals_after : Go → (later : List ℕ) → List ℕ
totals_after go.Quit later = []
totals_after go.More later = later

-- the session's totals before each of these lines that is carried out
unfoldable pub totals_before : (first : Session) → Session → List (List ℕ) → List ℕ
totals_before first s [] = []
totals_before first s (line ∷ lines) =
    total_of s ∷ totals_after (recalled first s line).go (totals_before first (recalled first s line).session lines)

-- the totals in the ring after lines, given those before them and the session's total before each line
abbrev pub AreKept : (old : List ℕ) (totals : List ℕ) (new : List ℕ) → Type 0
AreKept old [] new = new ≡ old
AreKept old (total ∷ totals) new = (after : List ℕ) × IsKept old total after × AreKept after totals new

-- 5. Lines.

-- A line leads from a recorder to another one, with a reply, and says whether another line may follow.
pub record Handled (old : Recording) (line reply : List ℕ) (new : Recording) (next : Go) : Type 0 where
  pub answer : IsAnswer (recalled old.first old.session line) reply new.session next
  pub first : new.first ≡ old.first
  pub kept : IsKept old.kept (total_of old.session) new.kept
  pub stands : (i : Image) → Recalls i old → Recalls i new
