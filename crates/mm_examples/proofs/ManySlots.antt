-- Runs of several slots, computed.
use Rattle.std.{proofs.Common.refl, specs.Fmt.digits}
use Rattle.mm_isa.specs.{Table.packed, Decode.{fields_in, rows, row_of, instr_of}}
use Rattle.mm_model.specs.{Memory.{cell_at, put_cell, can_map, map_page, unmap_page}, Slot.{register, is_empty}}
use Rattle.mm_model.specs.{State.{slot_at, queue_at, put_slot, put_queue, output_of, put_output}, Image.start}
use Rattle.mm_model.specs.{Operands.{addr_operand, value_operand, lacks}, Ask.ask}
use Rattle.mm_model.specs.Effect.{effect, plain, advanced, runs_past, delivered}
use Rattle.mm_model.specs.Turn.{turn, idle, started, issued, executed, ended, blocked, faulted, core_faulted, event_of}
use Rattle.mm_model.specs.{Turn.{memory_after, core_after, slot_after, reply}, Run.{run, after, steps, robin_from}}
use Rattle.mm_model.specs.{Digits.hex, Lines.slot_lines, Report.{section, report}, Trace.{traced, trace, step_line}}
use Rattle.mm_examples.specs.WorkedSchedules.{RobinBeginsLate}
use Rattle.mm_examples.specs.Worked.{Exchanges, CountsBehindTheGate, TakesEvents, ResumesTakenAlone, TwoGroups}
use Rattle.mm_examples.specs.Worked.{AbsentSlotsIdle, TracesTheGate, WaitsInTheTrace}

pub exchanges : Exchanges
unfolding packed fields_in rows row_of instr_of cell_at put_cell can_map map_page unmap_page register is_empty slot_at
    queue_at put_slot put_queue output_of put_output start addr_operand value_operand lacks ask effect plain advanced
    runs_past delivered turn idle started issued executed ended blocked faulted core_faulted event_of memory_after
    core_after slot_after reply run after steps robin_from hex slot_lines section report traced trace step_line digits
exchanges = (refl, refl)

pub takes_events : TakesEvents
unfolding packed fields_in rows row_of instr_of cell_at put_cell can_map map_page unmap_page register is_empty slot_at
    queue_at put_slot put_queue output_of put_output start addr_operand value_operand lacks ask effect plain advanced
    runs_past delivered turn idle started issued executed ended blocked faulted core_faulted event_of memory_after
    core_after slot_after reply run after steps robin_from hex slot_lines section report traced trace step_line digits
takes_events = refl

pub resumes_taken_alone : ResumesTakenAlone
unfolding packed fields_in rows row_of instr_of cell_at put_cell can_map map_page unmap_page register is_empty slot_at
    queue_at put_slot put_queue output_of put_output start addr_operand value_operand lacks ask effect plain advanced
    runs_past delivered turn idle started issued executed ended blocked faulted core_faulted event_of memory_after
    core_after slot_after reply run after steps robin_from hex slot_lines section report traced trace step_line digits
resumes_taken_alone = refl

pub two_groups : TwoGroups
unfolding packed fields_in rows row_of instr_of cell_at put_cell can_map map_page unmap_page register is_empty slot_at
    queue_at put_slot put_queue output_of put_output start addr_operand value_operand lacks ask effect plain advanced
    runs_past delivered turn idle started issued executed ended blocked faulted core_faulted event_of memory_after
    core_after slot_after reply run after steps robin_from hex slot_lines section report traced trace step_line digits
two_groups = refl

pub absent_slots_idle : AbsentSlotsIdle
unfolding packed fields_in rows row_of instr_of cell_at put_cell can_map map_page unmap_page register is_empty slot_at
    queue_at put_slot put_queue output_of put_output start addr_operand value_operand lacks ask effect plain advanced
    runs_past delivered turn idle started issued executed ended blocked faulted core_faulted event_of memory_after
    core_after slot_after reply run after steps robin_from hex slot_lines section report traced trace step_line digits
absent_slots_idle = refl

pub traces_the_gate : TracesTheGate
unfolding packed fields_in rows row_of instr_of cell_at put_cell can_map map_page unmap_page register is_empty slot_at
    queue_at put_slot put_queue output_of put_output start addr_operand value_operand lacks ask effect plain advanced
    runs_past delivered turn idle started issued executed ended blocked faulted core_faulted event_of memory_after
    core_after slot_after reply run after steps robin_from hex slot_lines section report traced trace step_line digits
traces_the_gate = refl

pub waits_in_the_trace : WaitsInTheTrace
unfolding packed fields_in rows row_of instr_of cell_at put_cell can_map map_page unmap_page register is_empty slot_at
    queue_at put_slot put_queue output_of put_output start addr_operand value_operand lacks ask effect plain advanced
    runs_past delivered turn idle started issued executed ended blocked faulted core_faulted event_of memory_after
    core_after slot_after reply run after steps robin_from hex slot_lines section report traced trace step_line digits
waits_in_the_trace = refl

pub counts_behind_the_gate : CountsBehindTheGate
unfolding packed fields_in rows row_of instr_of cell_at put_cell can_map map_page unmap_page register is_empty slot_at
    queue_at put_slot put_queue output_of put_output start addr_operand value_operand lacks ask effect plain advanced
    runs_past delivered turn idle started issued executed ended blocked faulted core_faulted event_of memory_after
    core_after slot_after reply run after steps robin_from hex slot_lines section report traced trace step_line digits
counts_behind_the_gate = refl

pub robin_begins_late : RobinBeginsLate
unfolding packed fields_in rows row_of instr_of cell_at put_cell can_map map_page unmap_page register is_empty slot_at
    queue_at put_slot put_queue output_of put_output start addr_operand value_operand lacks ask effect plain advanced
    runs_past delivered turn idle started issued executed ended blocked faulted core_faulted event_of memory_after
    core_after slot_after reply run after steps robin_from hex slot_lines section report traced trace step_line digits
robin_begins_late = (refl, refl)
