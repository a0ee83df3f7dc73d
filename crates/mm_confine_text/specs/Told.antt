-- What is told of the groups, and its text.
use Rattle.std.specs.Prelude.{◌≡◌, ◌↔◌, ℕ, List, [], ◌∷◌, ◌++◌, codes, decimal, Contains}
use Rattle.std.specs.List.{flat_map}
use Rattle.mm_word.specs.{Perm.{can_load, can_store}, Pointer.Pointer, declared.word.Word.TheVariants.Ptr}
use Rattle.mm_model.specs.{declared.word_use.WordUse.TheVariants.{Touch, Write}, Lines.{newline, word_text}}
use Rattle.mm_model.specs.{Image.{Image, start}, Report.groups_of, Audit.{Verdict, segment_line, apart_line}}
use Rattle.mm_kernel.specs.{Segments.Segment, declared.fact.Leak.Leak}
use Rattle.mm_keep_text.specs.declared.told.Answer.{Answer, TheVariants.{Found}}
use Rattle.mm_keep_text.specs.{Keys.{pointer_key, Ascend}, Answers.{IsAnswer, answer_text}}
use Rattle.mm_hold.specs.{Holdings.HoldsDoor, Reached.MaximalSegments, Apart.Judged}
use Rattle.mm_confine_text.specs.Found.{slots_of_kernel}

-- 1. A group.

-- the doors that the callers of a group hold, ascending
pub record AreHeldDoors (i : Image) (kept : List Segment) (g : ℕ) (doors : List Pointer) : Type 0 where
  pub ascend : Ascend pointer_key doors
  pub each : (d : Pointer) → Contains doors d ↔ HoldsDoor i kept g d

abbrev pub group_line : ℕ → List ℕ
group_line g = codes "group " ++ decimal g ++ newline

abbrev pub door_line : Pointer → List ℕ
door_line d = codes "door " ++ word_text (Ptr d) ++ newline

abbrev pub slot_line : ℕ → List ℕ
slot_line n = codes "slot " ++ decimal n ++ newline

-- the text of a group
pub record GroupText (i : Image) (kept : List Segment) (g : ℕ) (text : List ℕ) : Type 0 where
  pub doors : List Pointer
  pub touch : List Segment
  pub write : List Segment
  pub verdict : Verdict
  pub doors_are : AreHeldDoors i kept g doors
  pub touch_is : MaximalSegments i kept g can_load touch
  pub write_is : MaximalSegments i kept g can_store write
  pub judged : Judged i kept g verdict
  pub is : text
      ≡ group_line g ++ flat_map door_line doors ++ flat_map slot_line (slots_of_kernel i kept g)
      ++ flat_map (segment_line Touch) touch ++ flat_map (segment_line Write) write ++ apart_line (g ∷ []) verdict

-- the texts of these groups
pub data GroupTexts (i : Image) (kept : List Segment) : List ℕ → List ℕ → Type 0 where
  no_group : GroupTexts i kept [] []
  group : {g : ℕ} {gs own text : List ℕ} → GroupText i kept g own → GroupTexts i kept gs text
      → GroupTexts i kept (g ∷ gs) (own ++ text)

-- 2. All.

-- the text of each group that has a slot, ascending, if there is no leak
abbrev pub GroupsIf : Image → List Segment → List Leak → List ℕ → Type 0
GroupsIf i kept [] text = GroupTexts i kept (groups_of (start i).core) text
GroupsIf i kept (leak ∷ leaks) text = text ≡ []

-- after an answer: the groups, if all was found
abbrev pub AreGroups : Image → List Segment → Answer → List ℕ → Type 0
AreGroups i kept (Found told) text = GroupsIf i kept told.leaks text
AreGroups i kept _ text = text ≡ []

-- the text says what the kernel of an image keeps and, if it keeps its segments, what each group can reach
pub record Tells (i : Image) (kept : List Segment) (limit : ℕ) (text : List ℕ) : Type 0 where
  pub answer : Answer
  pub is : IsAnswer i kept limit answer
  pub groups : List ℕ
  pub groups_are : AreGroups i kept answer groups
  pub written : text ≡ answer_text answer ++ groups
