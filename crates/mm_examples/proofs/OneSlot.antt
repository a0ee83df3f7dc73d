-- Runs of one slot, computed.
use Rattle.std.{proofs.Common.refl, specs.Fmt.digits}
use Rattle.mm_isa.specs.{Table.packed, Decode.{fields_in, rows, row_of, instr_of}}
use Rattle.mm_model.specs.{Memory.{cell_at, put_cell, can_map, map_page, unmap_page}, Slot.{register, is_empty}}
use Rattle.mm_model.specs.{State.{slot_at, queue_at, put_slot, put_queue, output_of, put_output}, Image.start}
use Rattle.mm_model.specs.{Operands.{addr_operand, value_operand, lacks}, Ask.ask}
use Rattle.mm_model.specs.Effect.{effect, plain, advanced, runs_past, delivered}
use Rattle.mm_model.specs.Turn.{turn, idle, started, issued, executed, ended, blocked, faulted, core_faulted, event_of}
use Rattle.mm_model.specs.{Turn.{memory_after, core_after, slot_after, reply}, Run.{run, after, steps, robin_from}}
use Rattle.mm_model.specs.{Digits.hex, Lines.slot_lines, Report.{section, report}, Trace.{traced, trace, step_line}}
use Rattle.mm_examples.specs.Worked.{SaysA, FetchesNoPage, RunsPastTheEnd, JumpsThroughAGate, GatesStandStill}
use Rattle.mm_examples.specs.Worked.{ReadingIsNoSignal, NoForgery, MapsFrames, MapIsPrivileged}

pub says_a : SaysA
unfolding packed fields_in rows row_of instr_of cell_at put_cell can_map map_page unmap_page register is_empty slot_at
    queue_at put_slot put_queue output_of put_output start addr_operand value_operand lacks ask effect plain advanced
    runs_past delivered turn idle started issued executed ended blocked faulted core_faulted event_of memory_after
    core_after slot_after reply run after steps robin_from hex slot_lines section report traced trace step_line digits
says_a = refl

pub fetches_no_page : FetchesNoPage
unfolding packed fields_in rows row_of instr_of cell_at put_cell can_map map_page unmap_page register is_empty slot_at
    queue_at put_slot put_queue output_of put_output start addr_operand value_operand lacks ask effect plain advanced
    runs_past delivered turn idle started issued executed ended blocked faulted core_faulted event_of memory_after
    core_after slot_after reply run after steps robin_from hex slot_lines section report traced trace step_line digits
fetches_no_page = refl

pub runs_past_the_end : RunsPastTheEnd
unfolding packed fields_in rows row_of instr_of cell_at put_cell can_map map_page unmap_page register is_empty slot_at
    queue_at put_slot put_queue output_of put_output start addr_operand value_operand lacks ask effect plain advanced
    runs_past delivered turn idle started issued executed ended blocked faulted core_faulted event_of memory_after
    core_after slot_after reply run after steps robin_from hex slot_lines section report traced trace step_line digits
runs_past_the_end = refl

pub enters : JumpsThroughAGate
unfolding packed fields_in rows row_of instr_of cell_at put_cell can_map map_page unmap_page register is_empty slot_at
    queue_at put_slot put_queue output_of put_output start addr_operand value_operand lacks ask effect plain advanced
    runs_past delivered turn idle started issued executed ended blocked faulted core_faulted event_of memory_after
    core_after slot_after reply run after steps robin_from hex slot_lines section report traced trace step_line digits
enters = refl

pub gates_stand_still : GatesStandStill
unfolding packed fields_in rows row_of instr_of cell_at put_cell can_map map_page unmap_page register is_empty slot_at
    queue_at put_slot put_queue output_of put_output start addr_operand value_operand lacks ask effect plain advanced
    runs_past delivered turn idle started issued executed ended blocked faulted core_faulted event_of memory_after
    core_after slot_after reply run after steps robin_from hex slot_lines section report traced trace step_line digits
gates_stand_still = (refl, refl)

pub reading_is_no_signal : ReadingIsNoSignal
unfolding packed fields_in rows row_of instr_of cell_at put_cell can_map map_page unmap_page register is_empty slot_at
    queue_at put_slot put_queue output_of put_output start addr_operand value_operand lacks ask effect plain advanced
    runs_past delivered turn idle started issued executed ended blocked faulted core_faulted event_of memory_after
    core_after slot_after reply run after steps robin_from hex slot_lines section report traced trace step_line digits
reading_is_no_signal = (refl, refl)

pub no_forgery : NoForgery
unfolding packed fields_in rows row_of instr_of cell_at put_cell can_map map_page unmap_page register is_empty slot_at
    queue_at put_slot put_queue output_of put_output start addr_operand value_operand lacks ask effect plain advanced
    runs_past delivered turn idle started issued executed ended blocked faulted core_faulted event_of memory_after
    core_after slot_after reply run after steps robin_from hex slot_lines section report traced trace step_line digits
no_forgery = refl

pub maps_frames : MapsFrames
unfolding packed fields_in rows row_of instr_of cell_at put_cell can_map map_page unmap_page register is_empty slot_at
    queue_at put_slot put_queue output_of put_output start addr_operand value_operand lacks ask effect plain advanced
    runs_past delivered turn idle started issued executed ended blocked faulted core_faulted event_of memory_after
    core_after slot_after reply run after steps robin_from hex slot_lines section report traced trace step_line digits
maps_frames = refl

pub map_is_privileged : MapIsPrivileged
unfolding packed fields_in rows row_of instr_of cell_at put_cell can_map map_page unmap_page register is_empty slot_at
    queue_at put_slot put_queue output_of put_output start addr_operand value_operand lacks ask effect plain advanced
    runs_past delivered turn idle started issued executed ended blocked faulted core_faulted event_of memory_after
    core_after slot_after reply run after steps robin_from hex slot_lines section report traced trace step_line digits
map_is_privileged = refl
