-- Runs of split machines, computed.
use Rattle.std.{proofs.Common.refl, specs.Fmt.digits}
use Rattle.mm_isa.specs.{Table.packed, Decode.{fields_in, rows, row_of, instr_of}}
use Rattle.mm_model.specs.{Memory.{cell_at, put_cell, can_map, map_page, unmap_page}, Slot.{register, is_empty}}
use Rattle.mm_model.specs.{State.{slot_at, queue_at, put_slot, put_queue, output_of, put_output}, Image.start}
use Rattle.mm_model.specs.{Operands.{addr_operand, value_operand, lacks}, Ask.ask}
use Rattle.mm_model.specs.Effect.{effect, plain, advanced, runs_past, delivered}
use Rattle.mm_model.specs.Turn.{turn, idle, started, issued, executed, ended, blocked, faulted, core_faulted, event_of}
use Rattle.mm_model.specs.{Turn.{memory_after, core_after, slot_after, reply}, Run.{run, after, steps, robin_from}}
use Rattle.mm_model.specs.{Digits.hex, Lines.slot_lines, Report.{section, report}, Trace.{traced, trace, step_line}}
use Rattle.mm_examples.specs.Worked.{WaitsToWrite, Issues, Delivers, LoadsAtOnce}

pub issues : Issues
unfolding packed fields_in rows row_of instr_of cell_at put_cell can_map map_page unmap_page register is_empty slot_at
    queue_at put_slot put_queue output_of put_output start addr_operand value_operand lacks ask effect plain advanced
    runs_past delivered turn idle started issued executed ended blocked faulted core_faulted event_of memory_after
    core_after slot_after reply run after steps robin_from hex slot_lines section report traced trace step_line digits
issues = refl

pub delivers : Delivers
unfolding packed fields_in rows row_of instr_of cell_at put_cell can_map map_page unmap_page register is_empty slot_at
    queue_at put_slot put_queue output_of put_output start addr_operand value_operand lacks ask effect plain advanced
    runs_past delivered turn idle started issued executed ended blocked faulted core_faulted event_of memory_after
    core_after slot_after reply run after steps robin_from hex slot_lines section report traced trace step_line digits
delivers = (refl, refl, refl)

pub loads_at_once : LoadsAtOnce
unfolding packed fields_in rows row_of instr_of cell_at put_cell can_map map_page unmap_page register is_empty slot_at
    queue_at put_slot put_queue output_of put_output start addr_operand value_operand lacks ask effect plain advanced
    runs_past delivered turn idle started issued executed ended blocked faulted core_faulted event_of memory_after
    core_after slot_after reply run after steps robin_from hex slot_lines section report traced trace step_line digits
loads_at_once = (refl, refl)

pub waits_to_write : WaitsToWrite
unfolding packed fields_in rows row_of instr_of cell_at put_cell can_map map_page unmap_page register is_empty slot_at
    queue_at put_slot put_queue output_of put_output start addr_operand value_operand lacks ask effect plain advanced
    runs_past delivered turn idle started issued executed ended blocked faulted core_faulted event_of memory_after
    core_after slot_after reply run after steps robin_from hex slot_lines section report traced trace step_line digits
waits_to_write = (refl, refl)
