-- Bytes and first faults of checkpoints, computed.
use Rattle.std.proofs.Common.{refl}
use Rattle.mm_isa.specs.{Table.packed, Decode.{fields_in, rows, row_of, instr_of}}
use Rattle.mm_model.specs.{Bytes.number_at, Memory.{cell_at, put_cell, can_map, map_page, unmap_page}}
use Rattle.mm_model.specs.Slot.{register, is_empty}
use Rattle.mm_model.specs.{State.{slot_at, queue_at, put_slot, put_queue, output_of, put_output}, Image.start}
use Rattle.mm_model.specs.{Operands.{addr_operand, value_operand, lacks}, Ask.ask}
use Rattle.mm_model.specs.Effect.{effect, plain, advanced, runs_past, delivered}
use Rattle.mm_model.specs.Turn.{turn, idle, started, issued, executed, ended, blocked, faulted, core_faulted, event_of}
use Rattle.mm_model.specs.{Turn.{memory_after, core_after, slot_after, reply}, Run.{run, after, steps}}
use Rattle.mm_format.specs.{Formats.cons, Images.{flags_of, mask, bits_in, bits, word, ip, page}}
use Rattle.mm_checkpoint.specs.Reading.{in_order, groups_of}
use Rattle.mm_checkpoint.specs.Format.{header, word_with, tagged, load, load_count, slot_row, front, output, checkpoint}
use Rattle.mm_checkpoint.specs.Faults.{said_of}
use Rattle.mm_examples.specs.WorkedCheckpoints.{SpellsHeaders, SpellsWaitingSlots, SpellsHaltedSlots}
use Rattle.mm_examples.specs.WorkedCheckpoints.{SpellsOutputsAndLoads, SavesAFault, SavesOutputsAndPages}
use Rattle.mm_examples.specs.WorkedCheckpoints.{FirstFaultsOfHeaders, FirstFaultsOfSlots, FirstFaultsOfOutputsAndPages}
use Rattle.mm_examples.specs.WorkedCheckpoints.{FirstFaultsOfWaitingSlots, PlacesAreLate, FirstFaultsOfLoads}

pub spells_headers : SpellsHeaders
unfolding header
spells_headers = (refl, refl)

pub spells_waiting_slots : SpellsWaitingSlots
unfolding cons mask word ip word_with tagged load load_count slot_row
spells_waiting_slots = refl

pub spells_halted_slots : SpellsHaltedSlots
unfolding cons mask word ip word_with tagged load load_count slot_row
spells_halted_slots = refl

pub spells_outputs_and_loads : SpellsOutputsAndLoads
unfolding word tagged load output
spells_outputs_and_loads = (refl, refl)

pub saves_a_fault : SavesAFault
unfolding packed fields_in rows row_of instr_of cell_at put_cell can_map map_page unmap_page register is_empty slot_at
    queue_at put_slot put_queue output_of put_output start addr_operand value_operand lacks ask effect plain advanced
    runs_past delivered turn idle started issued executed ended blocked faulted core_faulted event_of memory_after
    core_after slot_after reply run after steps cons mask word ip bits page groups_of header word_with tagged load load_count
    slot_row front output checkpoint
saves_a_fault = refl

pub saves_outputs_and_pages : SavesOutputsAndPages
unfolding packed fields_in rows row_of instr_of cell_at put_cell can_map map_page unmap_page register is_empty slot_at
    queue_at put_slot put_queue output_of put_output start addr_operand value_operand lacks ask effect plain advanced
    runs_past delivered turn idle started issued executed ended blocked faulted core_faulted event_of memory_after
    core_after slot_after reply run after steps cons mask word ip bits page groups_of header word_with tagged load load_count
    slot_row front output checkpoint
saves_outputs_and_pages = refl

pub first_faults_of_headers : FirstFaultsOfHeaders
unfolding said_of number_at cons flags_of mask bits_in bits word ip page in_order groups_of header word_with tagged load
    load_count slot_row front output checkpoint
first_faults_of_headers = (refl, refl, refl, refl, refl, refl, refl, refl, refl, refl)

pub first_faults_of_slots : FirstFaultsOfSlots
unfolding said_of number_at cons flags_of mask bits_in bits word ip page in_order groups_of header word_with tagged load
    load_count slot_row front output checkpoint
first_faults_of_slots = (refl, refl, refl, refl, refl, refl, refl, refl, refl, refl, refl, refl, refl, refl)

pub first_faults_of_outputs_and_pages : FirstFaultsOfOutputsAndPages
unfolding said_of number_at cons flags_of mask bits_in bits word ip page in_order groups_of header word_with tagged load
    load_count slot_row front output checkpoint
first_faults_of_outputs_and_pages = (refl, refl, refl)

pub first_faults_of_waiting_slots : FirstFaultsOfWaitingSlots
unfolding said_of number_at cons flags_of mask bits_in bits word ip page in_order groups_of header word_with tagged load
    load_count slot_row front output checkpoint
first_faults_of_waiting_slots = (refl, refl, refl, refl, refl, refl, refl, refl, refl)

pub places_are_late : PlacesAreLate
unfolding said_of number_at cons flags_of mask bits_in bits word ip page in_order groups_of header word_with tagged load
    load_count slot_row front output checkpoint
places_are_late = (refl, refl, refl, refl)

pub first_faults_of_loads : FirstFaultsOfLoads
unfolding said_of number_at cons flags_of mask bits_in bits word ip page in_order groups_of header word_with tagged load
    load_count slot_row front output checkpoint
first_faults_of_loads = (refl, refl, refl, refl, refl, refl, refl, refl, refl)
