-- The value of a survey, and what it says of an image.
use Rattle.std.specs.{Prelude.{◌≡◌, ℕ, ◌≤◌, ◌<◌, ◌↔◌, List, length}, Int.bit_at}
use Rattle.mm_model.specs.{Image.Image, Spelling.IsImage, Reach.{Entries, CanTouch, CanWrite, Privileged}}
use Rattle.mm_audit.specs.declared.{handlers.Served.Served, span.Span.Span, shared_words.Meets.Meets}
use Rattle.mm_audit.specs.{Serving.served_of, Spans.AreSpans, Meeting.{HasWord, word_at}}

-- a survey as contracts see it: the mask of the privileged groups, the segments with the groups that use them, the
-- slots with the groups of their handlers, and for each two groups the least word that the one writes and the other
-- touches
pub record SurveyValue : Type 0 where
  pub privileged : ℕ
  pub spans : List Span
  pub served : List Served
  pub least : List Meets

-- the word is the least that one group can write and another can touch
pub record IsLeastShared (i : Image) (e : Entries) (h g w : ℕ) : Type 0 where
  pub writes : CanWrite i e h w
  pub touches : CanTouch i e g w
  pub least : (v : ℕ) → CanWrite i e h v → CanTouch i e g v → w ≤ v

-- a table has a word for two groups exactly if they share one, and it is the least
pub record IsLeastTable (i : Image) (e : Entries) (table : List Meets) : Type 0 where
  pub len : length table ≡ 64
  pub some : (h g : ℕ) → h < 64 → g < 64 → HasWord table h g → IsLeastShared i e h g (word_at table h g)
  pub each : (h g w : ℕ) → CanWrite i e h w → CanTouch i e g w → HasWord table h g

-- the mask has exactly the privileged groups
abbrev pub ArePrivileged : Image → Entries → ℕ → Type 0
ArePrivileged i e privileged = (g : ℕ) → (bit_at privileged g ≡ 1) ↔ Privileged i e g

-- the value is the survey of an image, if these entries may be made
pub record Surveys (i : Image) (e : Entries) (s : SurveyValue) : Type 0 where
  pub image : IsImage i
  pub privileged : ArePrivileged i e s.privileged
  pub spans : AreSpans i e s.spans
  pub served : s.served ≡ served_of i.slots
  pub least : IsLeastTable i e s.least
