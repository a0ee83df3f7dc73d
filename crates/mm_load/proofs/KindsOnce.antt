-- Bytes mean one value of a kind at most, or have one fault.
use Rattle.std.proofs.Common.{◌≡◌, ℕ, List, [], ◌∷◌, ◌++◌, Option, None, Some, slice_index_or, refl, sym, ap, ◌∙◌}
use Rattle.std.specs.{Prelude.⊤, List.AllByRecursion}
use Rattle.mm_model.specs.{Image.Image, Spelling.IsImage}
use Rattle.mm_model.proofs.{WordTexts.{never_both, fault_unique, means_unique}, ScheduleWords.schedule_grammar}
use Rattle.mm_format.{specs.Images.{Spells, image_fault}, proofs.ImagesWhole.{spelled_clean, spelled_one}}
use Rattle.mm_image.specs.{declared.fault.ImageFault.ImageFault, Faults.number_of}
use Rattle.mm_line.specs.{declared.fault.Fault.Fault, Faults.{number_of as fault_number}}
use Rattle.mm_draft.specs.Laws.{Pair}
use Rattle.mm_object.specs.{declared.fault.ObjectFault.ObjectFault, Answers.{number_of as object_number}}
use Rattle.mm_object.specs.{Faults.object_fault, Objects.Object, Format.{Spells as SpellsObject}}
use Rattle.mm_checkpoint.specs.{Checkpoints.Saved, Faults.save_fault}
use Rattle.mm_net.specs.declared.{link.Link.Link, item.NetItem.NetItem}
use Rattle.mm_net.proofs.{LinkWords.links_grammar, EventWords.events_grammar}
use Rattle.mm_asm.{specs.Faults.first_fault, proofs.Texts.{meanings_are_one, meaning_has_no_fault}}
use Rattle.mm_load.specs.declared.status.Refusal.{Refusal}
use Rattle.mm_load.specs.Kinds.{Value, an_image, a_list, an_object, a_checkpoint, a_links, an_events, a_text, Accepts}
use Rattle.mm_load.specs.Kinds.{Faults}
use Rattle.mm_cli.specs.declared.table.Kind.{Kind}
use Rattle.mm_cli.specs.declared.table.Kind.TheVariants.{Image as image_file, Schedule as schedule_file}
use Rattle.mm_cli.specs.declared.table.Kind.TheVariants.{Source as source_file, Object as object_file}
use Rattle.mm_cli.specs.declared.table.Kind.TheVariants.{Checkpoint as checkpoint_file, Links as links_file}
use Rattle.mm_cli.specs.declared.table.Kind.TheVariants.{Events as events_file, Text as text_input}
use Rattle.mm_image.specs.declared.fault.ImageFault.TheVariants as faults
use Rattle.mm_line.specs.declared.fault.Fault.TheVariants as text_faults
use Rattle.mm_object.specs.declared.fault.ObjectFault.TheVariants as object_faults
use Rattle.mm_object.proofs.FormatWhole as objects
use Rattle.mm_checkpoint.proofs.SpelledLaws as checkpoints
use Rattle.mm_load.specs.declared.status.Refusal.TheVariants as refusal

-- 1. Images.

abbrev kinds : List ImageFault
kinds =
    faults.Short ∷ faults.Short ∷ faults.Magic ∷ faults.Version ∷ faults.Count ∷ faults.SlotOrder ∷ faults.Group ∷ faults.Handler ∷ faults.State ∷ faults.Pointer
    ∷ faults.Ip ∷ faults.PageOrder ∷ faults.Frames ∷ faults.Trailing ∷ []

kind_at : (kind : ImageFault) → slice_index_or kinds (number_of kind) faults.Short ≡ kind
kind_at faults.Short = refl
kind_at faults.Magic = refl
kind_at faults.Version = refl
kind_at faults.Count = refl
kind_at faults.SlotOrder = refl
kind_at faults.Group = refl
kind_at faults.Handler = refl
kind_at faults.State = refl
kind_at faults.Pointer = refl
kind_at faults.Ip = refl
kind_at faults.PageOrder = refl
kind_at faults.Frames = refl
kind_at faults.Trailing = refl

same_kind : (a b : ImageFault) → number_of a ≡ number_of b → a ≡ b
same_kind a b same = sym (kind_at a) ∙ ap (λ (n : ℕ). slice_index_or kinds n faults.Short) same ∙ kind_at b

abbrev number_in : Option (ℕ × ℕ) → ℕ
number_in None = 0
number_in (Some fault) = fault.0

abbrev place_in : Option (ℕ × ℕ) → ℕ
place_in None = 0
place_in (Some fault) = fault.1

one_image_fault : (bytes : List ℕ) (number : ℕ) (kind other : ImageFault) (offset place : ℕ) → image_fault bytes ≡ Some (number_of kind, offset)
    → image_fault bytes ≡ Some (number_of other, place) → refusal.Image number kind offset ≡ refusal.Image number other place
one_image_fault bytes number kind other offset place one two =
    let same : kind ≡ other = same_kind kind other (ap number_in (sym one) ∙ ap number_in two) in
    let at : offset ≡ place = ap place_in (sym one) ∙ ap place_in two in
    cc

pub one_spelled : (bytes : List ℕ) (i j : Image) → Spells bytes i → Spells bytes j → i ≡ j
one_spelled bytes i j one other = spelled_one bytes i j one other

-- 2. Sources.

abbrev text_kinds : List Fault
text_kinds =
    text_faults.Byte ∷ text_faults.Byte ∷ text_faults.Token ∷ text_faults.Name ∷ text_faults.Range ∷ text_faults.Label ∷ text_faults.Twice ∷ text_faults.Place
    ∷ text_faults.Full ∷ text_faults.Limit ∷ []

text_kind_at : (kind : Fault) → slice_index_or text_kinds (fault_number kind) text_faults.Byte ≡ kind
text_kind_at text_faults.Byte = refl
text_kind_at text_faults.Token = refl
text_kind_at text_faults.Name = refl
text_kind_at text_faults.Range = refl
text_kind_at text_faults.Label = refl
text_kind_at text_faults.Twice = refl
text_kind_at text_faults.Place = refl
text_kind_at text_faults.Full = refl
text_kind_at text_faults.Limit = refl

abbrev line_in : Option Pair → ℕ
line_in None = 0
line_in (Some p) = p.line

abbrev column_in : Option Pair → ℕ
column_in None = 0
column_in (Some p) = p.column

abbrev kind_in : Option Pair → Fault
kind_in None = text_faults.Byte
kind_in (Some p) = slice_index_or text_kinds p.number text_faults.Byte

one_text_fault : (bytes : List ℕ) (kind other : Fault) (line column row place : ℕ) → first_fault bytes ≡ Some (record { line = line; column = column; number = fault_number kind })
    → first_fault bytes ≡ Some (record { line = row; column = place; number = fault_number other }) → refusal.Asm kind line column ≡ refusal.Asm other row place
one_text_fault bytes kind other line column row place one two =
    let same : kind ≡ other = sym (text_kind_at kind) ∙ ap kind_in (sym one) ∙ ap kind_in two ∙ text_kind_at other in
    let lines : line ≡ row = ap line_in (sym one) ∙ ap line_in two in
    let columns : column ≡ place = ap column_in (sym one) ∙ ap column_in two in
    cc

-- 3. Objects.

abbrev object_kinds : List ObjectFault
object_kinds =
    object_faults.Short ∷ object_faults.Short ∷ object_faults.Magic ∷ object_faults.Version ∷ object_faults.Count ∷ object_faults.Name ∷ object_faults.Segment
    ∷ object_faults.Reloc ∷ object_faults.Thread ∷ object_faults.Trailing ∷ []

object_kind_at : (kind : ObjectFault) → slice_index_or object_kinds (object_number kind) object_faults.Short ≡ kind
object_kind_at object_faults.Short = refl
object_kind_at object_faults.Magic = refl
object_kind_at object_faults.Version = refl
object_kind_at object_faults.Count = refl
object_kind_at object_faults.Name = refl
object_kind_at object_faults.Segment = refl
object_kind_at object_faults.Reloc = refl
object_kind_at object_faults.Thread = refl
object_kind_at object_faults.Trailing = refl

one_object_fault : (bytes : List ℕ) (number : ℕ) (kind other : ObjectFault) (offset place : ℕ) → object_fault bytes ≡ Some (object_number kind, offset)
    → object_fault bytes ≡ Some (object_number other, place) → refusal.Object number kind offset ≡ refusal.Object number other place
one_object_fault bytes number kind other offset place one two =
    let numbers : object_number kind ≡ object_number other = ap number_in (sym one) ∙ ap number_in two in
    let same : kind ≡ other = sym (object_kind_at kind) ∙ ap (λ (n : ℕ). slice_index_or object_kinds n object_faults.Short) numbers ∙ object_kind_at other in
    let at : offset ≡ place = ap place_in (sym one) ∙ ap place_in two in
    cc

pub one_object : (bytes : List ℕ) (a b : Object) → SpellsObject bytes a → SpellsObject bytes b → a ≡ b
one_object bytes a b one other = objects.spelled_one bytes a b one other

-- 4. Values before others.

-- a value as it is read: an image keeps the rules of images
abbrev pub IsSound : Value → Type 0
IsSound (an_image i) = IsImage i
IsSound _ = ⊤

abbrev pub AreSound : List Value → Type 0
AreSound values = AllByRecursion IsSound values

pub sound_value : (kind : Kind) (before : List Value) (bytes : List ℕ) (v : Value) → Accepts kind before bytes v → IsSound v
sound_value image_file before bytes (an_image i) means = means.image
sound_value schedule_file before bytes (a_list xs) means = tt
sound_value source_file before bytes (an_object o) means = tt
sound_value object_file before bytes (an_object o) means = tt
sound_value checkpoint_file (an_image i ∷ []) bytes (a_checkpoint c) means = tt
sound_value links_file before bytes (a_links ls) means = tt
sound_value events_file before bytes (an_events es) means = tt
sound_value text_input before bytes (a_text text) means = tt
sound_value kind before bytes v means = absurd (assumption means)

pub sound_more : (before : List Value) (v : Value) → AreSound before → IsSound v → AreSound (before ++ v ∷ [])
sound_more [] v sound one = (one, tt)
sound_more (x ∷ before) v sound one = (sound.0, sound_more before v sound.1 one)

-- 5. Each kind.

pub one_value : (kind : Kind) (before : List Value) (bytes : List ℕ) (v w : Value) → AreSound before → Accepts kind before bytes v → Accepts kind before bytes w → v ≡ w
one_value image_file before bytes (an_image i) (an_image j) sound one two = ap (λ (x : Image). an_image x) (spelled_one bytes i j one two)
one_value schedule_file before bytes (a_list xs) (a_list ys) sound one two = ap (λ (x : List ℕ). a_list x) (means_unique schedule_grammar bytes xs ys one two)
one_value source_file before bytes (an_object a) (an_object b) sound one two = ap (λ (x : Object). an_object x) (meanings_are_one bytes a b one two)
one_value object_file before bytes (an_object a) (an_object b) sound one two = ap (λ (x : Object). an_object x) (one_object bytes a b one two)
one_value checkpoint_file (an_image i ∷ []) bytes (a_checkpoint c) (a_checkpoint d) sound (p, last, saves, is) (q, also, saves_too, is_too) =
    ap (λ (x : Saved). a_checkpoint x) (is ∙ checkpoints.are_one i bytes p q last also sound.0 saves saves_too ∙ sym is_too)
one_value links_file before bytes (a_links ls) (a_links ms) sound one two =
    ap (λ (x : List Link). a_links x) (means_unique links_grammar bytes ls ms one two)
one_value events_file before bytes (an_events es) (an_events fs) sound one two =
    ap (λ (x : List NetItem). an_events x) (means_unique events_grammar bytes es fs one two)
one_value text_input before bytes (a_text s) (a_text t) sound one two = ap (λ (x : List ℕ). a_text x) (one ∙ sym two)
one_value kind before bytes v w sound one two = absurd (assumption (one, two))

pub one_fault : (kind : Kind) (before : List Value) (number : ℕ) (bytes : List ℕ) (r q : Refusal) → Faults kind before number bytes r → Faults kind before number bytes q → r ≡ q
one_fault image_file before number bytes r q (kind, offset, is, fault) (other, place, also, second) =
    is ∙ one_image_fault bytes number kind other offset place fault second ∙ sym also
one_fault schedule_file before number bytes r q (offset, is, fault) (place, also, second) =
    is ∙ ap (λ (n : ℕ). refusal.Schedule number n) (fault_unique schedule_grammar bytes offset place fault second) ∙ sym also
one_fault source_file before number bytes r q (kind, line, column, is, fault) (other, row, place, also, second) =
    is ∙ one_text_fault bytes kind other line column row place fault second ∙ sym also
one_fault object_file before number bytes r q (kind, offset, is, fault) (other, place, also, second) =
    is ∙ one_object_fault bytes number kind other offset place fault second ∙ sym also
one_fault checkpoint_file (an_image i ∷ []) number bytes r q (offset, is, fault) (place, also, second) =
    let at : offset ≡ place = cc in
    is ∙ ap (λ (n : ℕ). refusal.Checkpoint number n) at ∙ sym also
one_fault links_file before number bytes r q (offset, is, fault) (place, also, second) =
    is ∙ ap (λ (n : ℕ). refusal.Links number n) (fault_unique links_grammar bytes offset place fault second) ∙ sym also
one_fault events_file before number bytes r q (offset, is, fault) (place, also, second) =
    is ∙ ap (λ (n : ℕ). refusal.Schedule number n) (fault_unique events_grammar bytes offset place fault second) ∙ sym also
one_fault kind before number bytes r q one two = absurd (assumption (one, two))

pub value_or_fault : (kind : Kind) (before : List Value) (number : ℕ) (bytes : List ℕ) (r : Refusal) (v : Value) → AreSound before → Faults kind before number bytes r → Accepts kind before bytes v → ⊥
value_or_fault image_file before number bytes r (an_image i) sound (kind, offset, is, fault) means = let none : image_fault bytes ≡ None = spelled_clean bytes i means in cc
value_or_fault schedule_file before number bytes r (a_list xs) sound (offset, is, fault) means = never_both schedule_grammar bytes xs offset means fault
value_or_fault source_file before number bytes r (an_object o) sound (kind, line, column, is, fault) means =
    let none : first_fault bytes ≡ None = meaning_has_no_fault bytes o means in cc
value_or_fault object_file before number bytes r (an_object o) sound (kind, offset, is, fault) means =
    let none : object_fault bytes ≡ None = objects.spelled_clean bytes o means in cc
value_or_fault checkpoint_file (an_image i ∷ []) number bytes r (a_checkpoint c) sound (offset, is, fault) (p, last, saves, same) =
    let none : save_fault i bytes ≡ None = checkpoints.no_fault i bytes sound.0 (record { parts = p; last = last; saves = saves }) in cc
value_or_fault links_file before number bytes r (a_links ls) sound (offset, is, fault) means = never_both links_grammar bytes ls offset means fault
value_or_fault events_file before number bytes r (an_events es) sound (offset, is, fault) means =
    never_both events_grammar bytes es offset means fault
value_or_fault kind before number bytes r v sound fault means = assumption (fault, means)
