-- The kinds of inputs: how long they may be, what they mean, and their faults.
use Rattle.std.specs.Prelude.{◌≡◌, ℕ, List, [], ◌∷◌, Option, Some}
use Rattle.mm_cli.specs.declared.table.Kind.{Kind}
use Rattle.mm_cli.specs.declared.table.Kind.TheVariants.{Image as image_file, Schedule as schedule_file}
use Rattle.mm_cli.specs.declared.table.Kind.TheVariants.{Source as source_file, Object as object_file}
use Rattle.mm_cli.specs.declared.table.Kind.TheVariants.{Checkpoint as checkpoint_file, Links as links_file}
use Rattle.mm_cli.specs.declared.table.Kind.TheVariants.{Events as events_file, Text as text_input}
use Rattle.mm_model.specs.{Image.Image, Schedule.{Means, FaultsAt}}
use Rattle.mm_format.specs.Images.{Spells, image_fault}
use Rattle.mm_image.specs.{declared.fault.ImageFault.ImageFault, Faults.number_of}
use Rattle.mm_line.specs.{declared.fault.Fault.Fault, Faults.{number_of as fault_number}}
use Rattle.mm_object.specs.{declared.fault.ObjectFault.ObjectFault, Answers.{number_of as object_number}}
use Rattle.mm_object.specs.{Faults.object_fault, Objects.Object, Format.{Spells as SpellsObject}}
use Rattle.mm_machine.specs.Snapshot.{Parts}
use Rattle.mm_checkpoint.specs.{Checkpoints.{Saved, saved_of}, Format.Saves, Faults.save_fault}
use Rattle.mm_sched.specs.declared.schedule.Order.{Order}
use Rattle.mm_net.specs.declared.{link.Link.Link, item.NetItem.NetItem}
use Rattle.mm_load.specs.declared.status.Refusal.{Refusal}
use Rattle.mm_asm.specs.Faults as text
use Rattle.mm_sched.specs.declared.schedule.Order.TheVariants as order
use Rattle.mm_net.specs.Links as link
use Rattle.mm_net.specs.Events as event
use Rattle.mm_load.specs.declared.status.Refusal.TheVariants as refusal

-- what an input is parsed to
pub data Value : Type 0 where
  an_image : Image → Value
  a_list : List ℕ → Value
  an_object : Object → Value
  a_checkpoint : Saved → Value
  a_links : List Link → Value
  an_events : List NetItem → Value
  a_text : List ℕ → Value

-- the most bytes that an input of a kind may have
abbrev pub limit_of : Kind → ℕ
limit_of image_file = 33554432
limit_of schedule_file = 8388608
limit_of source_file = 8388608
limit_of object_file = 2097152
limit_of checkpoint_file = 33554432
limit_of links_file = 65536
limit_of events_file = 8388608
limit_of text_input = 1048576

-- the bytes of an input mean a value, after inputs with the values before
abbrev pub Accepts : Kind → (before : List Value) → List ℕ → Value → Type 0
Accepts image_file before bytes (an_image i) = Spells bytes i
Accepts schedule_file before bytes (a_list items) = Means bytes items
Accepts source_file before bytes (an_object o) = text.Means bytes o
Accepts object_file before bytes (an_object o) = SpellsObject bytes o
Accepts checkpoint_file (an_image i ∷ []) bytes (a_checkpoint c) = (p : Parts) × (last : Option ℕ)
    × Saves bytes i p last × (c ≡ saved_of p last)
Accepts links_file before bytes (a_links links) = link.Means bytes links
Accepts events_file before bytes (an_events items) = event.Means bytes items
Accepts text_input before bytes (a_text text) = text ≡ bytes
Accepts _ before bytes _ = ⊥

-- the bytes of an input mean no value, and this is why the input with this number is refused
abbrev pub Faults : Kind → (before : List Value) → (number : ℕ) → List ℕ → Refusal → Type 0
Faults image_file before number bytes r = (fault : ImageFault) × (offset : ℕ) × (r ≡ refusal.Image number fault offset)
    × (image_fault bytes ≡ Some (number_of fault, offset))
Faults schedule_file before number bytes r = (offset : ℕ) × (r ≡ refusal.Schedule number offset) × FaultsAt bytes offset
Faults source_file before number bytes r = (fault : Fault) × (line column : ℕ) × (r ≡ refusal.Asm fault line column)
    × (text.first_fault bytes ≡ Some (record { line = line; column = column; number = fault_number fault }))
Faults object_file before number bytes r = (fault : ObjectFault) × (offset : ℕ)
    × (r ≡ refusal.Object number fault offset)
    × (object_fault bytes ≡ Some (object_number fault, offset))
Faults checkpoint_file (an_image i ∷ []) number bytes r = (offset : ℕ) × (r ≡ refusal.Checkpoint number offset)
    × (save_fault i bytes ≡ Some offset)
Faults links_file before number bytes r = (offset : ℕ) × (r ≡ refusal.Links number offset) × link.FaultsAt bytes offset
Faults events_file before number bytes r = (offset : ℕ) × (r ≡ refusal.Schedule number offset)
    × event.FaultsAt bytes offset
Faults _ before number bytes r = ⊥

-- the values of the files that an order comes from
abbrev pub values_of : Order → List Value
values_of order.Robin = []
values_of (order.List list) = a_list list ∷ []
