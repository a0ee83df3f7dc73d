-- The audit's text.
use Rattle.std.specs.Prelude.{◌≡◌, ◌↔◌, ℕ, ◌<◌, ◌≤◌, Bool, true, false, List, [], ◌∷◌, ◌++◌, Contains, zip, drop, codes}
use Rattle.std.specs.{Prelude.{decimal, Option, Some, None}, List.{flat_map, AllByRecursion}}
use Rattle.mm_word.specs.{Perm.{can_load, can_store}, Pointer.{Pointer, InSegment, base_of}, declared.perm.Perm.Perm}
use Rattle.mm_model.specs.{declared.word_use.WordUse.{WordUse, TheVariants.{Touch, Write}}, Digits.hex, Lines.newline}
use Rattle.mm_model.specs.{Slot.Slot, Image.{Image, start}, Groups.among, Report.groups_of}
use Rattle.mm_model.specs.{Reach.{Entries, Grants, CanWrite, Privileged, Entries.All}, Worlds.{Touchable, Apart}}

-- 1. Segments.

-- a segment of at least a word: its base, and the logarithm of its length
abbrev pub Segment : Type 0
Segment = ℕ × ℕ

-- a pointer with this right that is granted to the group has this segment
pub record GrantedSegment (i : Image) (e : Entries) (g : ℕ) (right : Perm → Bool) (segment : Segment) : Type 0 where
  pub by : Pointer
  pub granted : Grants i e g by
  pub has_right : right by.perm ≡ true
  pub is : segment ≡ (base_of by, by.log)
  pub whole_word : 3 ≤ by.log

-- a granted segment that lies in no other, longer one
pub record MaximalSegment (i : Image) (e : Entries) (g : ℕ) (right : Perm → Bool) (segment : Segment) : Type 0 where
  pub granted : GrantedSegment i e g right segment
  pub maximal : (p : Pointer) → Grants i e g p → right p.perm ≡ true → InSegment p segment.0 → p.log ≤ segment.1

-- the list has the maximal segments, ascending
pub record MaximalSegments (i : Image) (e : Entries) (g : ℕ) (right : Perm → Bool) (list : List Segment) : Type 0 where
  pub ascending : AllByRecursion (λ (pair : Segment × Segment). pair.0.0 < pair.1.0) (zip list (drop 1 list))
  pub each : (segment : Segment) → Contains list segment ↔ MaximalSegment i e g right segment

-- the name of a use
abbrev pub use_text : WordUse → List ℕ
use_text Touch = codes "touch"
use_text Write = codes "write"

-- the line of a segment whose words the group can use in this way
abbrev pub segment_line : WordUse → Segment → List ℕ
segment_line how segment =
    use_text how ++ codes " " ++ hex 14 segment.0 ++ codes " " ++ decimal segment.1 ++ newline

-- 2. Whether groups are apart.

pub data Verdict : Type 0 where
  Yes : Verdict
  -- the least slot whose handler is on the other side
  Handler : (slot : ℕ) → Verdict
  -- the least group outside that can write a word that one inside can touch, and the least such word
  Writer : (group word : ℕ) → Verdict

-- a slot of this number has its handler on the other side
pub record Crosses (i : Image) (c : ℕ → Bool) (n : ℕ) : Type 0 where
  pub served : Slot
  pub server : Slot
  pub one : Contains i.slots served
  pub other : Contains i.slots server
  pub number : served.number ≡ n
  pub handled : served.handler ≡ Some server.number
  pub sides : ¬ (c served.group ≡ c server.group)

-- the group is outside and can write the word, and a group inside can touch it
pub record Writes (i : Image) (e : Entries) (c : ℕ → Bool) (g w : ℕ) : Type 0 where
  pub outside : c g ≡ false
  pub writes : CanWrite i e g w
  pub touched : Touchable i e c w

-- the verdict on the groups, if these entries may be made
abbrev pub Judged : Image → Entries → (ℕ → Bool) → Verdict → Type 0
Judged i e c Yes = Apart i e c
Judged i e c (Handler n) = Crosses i c n × ((m : ℕ) → Crosses i c m → n ≤ m)
Judged i e c (Writer g w) =
    ((n : ℕ) → ¬ Crosses i c n) × Writes i e c g w × ((h v : ℕ) → Writes i e c h v → g ≤ h)
    × ((v : ℕ) → Writes i e c g v → w ≤ v)

-- the text of groups: their numbers, with commas between
abbrev pub groups_text : List ℕ → List ℕ
groups_text [] = []
groups_text (g ∷ []) = decimal g
groups_text (g ∷ gs) = decimal g ++ codes "," ++ groups_text gs

abbrev pub verdict_text : Verdict → List ℕ
verdict_text Yes = codes "yes"
verdict_text (Handler n) = codes "handler " ++ decimal n
verdict_text (Writer g w) = codes "writer " ++ decimal g ++ codes " word " ++ hex 14 w

abbrev pub apart_line : List ℕ → Verdict → List ℕ
apart_line groups verdict = codes "apart " ++ groups_text groups ++ codes " " ++ verdict_text verdict ++ newline

-- the line says whether these groups are apart
pub record ApartLine (i : Image) (groups line : List ℕ) : Type 0 where
  pub verdict : Verdict
  pub judged : Judged i All (among groups) verdict
  pub is : line ≡ apart_line groups verdict

-- 3. The text.

abbrev pub kind_line : ℕ → Bool → List ℕ
kind_line g true = codes "group " ++ decimal g ++ codes " privileged\n"
kind_line g false = codes "group " ++ decimal g ++ codes " user\n"

-- the text of a group
pub record AuditOf (i : Image) (g : ℕ) (text : List ℕ) : Type 0 where
  pub privileged : Bool
  pub touch : List Segment
  pub write : List Segment
  pub privileged_is : (privileged ≡ true) ↔ Privileged i All g
  pub touch_is : MaximalSegments i All g can_load touch
  pub write_is : MaximalSegments i All g can_store write
  pub is : text ≡ kind_line g privileged ++ flat_map (segment_line Touch) touch
      ++ flat_map (segment_line Write) write

-- the texts of these groups, each with its own apart line
pub data AuditEach (i : Image) : List ℕ → List ℕ → Type 0 where
  no_group : AuditEach i [] []
  group : {g : ℕ} {gs own line text : List ℕ} → AuditOf i g own → ApartLine i (g ∷ []) line → AuditEach i gs text
      → AuditEach i (g ∷ gs) (own ++ line ++ text)

-- the texts of these groups, without apart lines
pub data AuditGroups (i : Image) : List ℕ → List ℕ → Type 0 where
  no_group : AuditGroups i [] []
  group : {g : ℕ} {gs own text : List ℕ} → AuditOf i g own → AuditGroups i gs text
      → AuditGroups i (g ∷ gs) (own ++ text)

-- The text is the audit of the image: each group that has a slot, ascending, with its apart line. If groups are given,
-- the only apart line is theirs, at the end.
abbrev pub IsAudit : Image → Option (List ℕ) → List ℕ → Type 0
IsAudit i None text = AuditEach i (groups_of (start i).core) text
IsAudit i (Some groups) text = (own : List ℕ) × AuditGroups i (groups_of (start i).core) own
    × ((line : List ℕ) × ApartLine i groups line × (text ≡ own ++ line))
