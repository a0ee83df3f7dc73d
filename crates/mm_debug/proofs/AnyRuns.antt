-- What every cycle keeps, from whatever state: version, mode, frames, and how many outputs there are; and no output grows shorter.
use Rattle.std.proofs.Common.{ap, ◌≡◌, ℕ, zero, suc, ◌≤◌, Bool, true, false, if◌then◌else◌, List, [], ◌∷◌, ◌++◌, length}
use Rattle.std.proofs.Common.{slice_set, slice_index_or, Option, Some, None, refl, sym, ◌∙◌, subst, arith, length-set}
use Rattle.std.proofs.Common.{length-append}
use Rattle.mm_word.specs.declared.{cause.Cause.Cause, word.{Word.{Word, TheVariants.Int}, Cell.Cell}}
use Rattle.mm_word.specs.Access.{AccessValue}
use Rattle.mm_model.specs.declared.{slot.SlotState.TheVariants.{Running, Waiting, Halted}, event.Event.Event}
use Rattle.mm_model.specs.{Memory.Memory, Uses.Use, Slot.Slot}
use Rattle.mm_model.specs.State.{Core, State, queue_at, put_slot, put_queue, output_of, put_output}
use Rattle.mm_model.specs.{Operands.{addr_operand, value_operand}, Ask.ask}
use Rattle.mm_model.specs.Effect.{Change, Pages, Effect, effect, delivered}
use Rattle.mm_model.specs.Effect.{Pages.{Keep, Add, Remove}, Effect.{Fault, Block, Deliver, Do}}
use Rattle.mm_model.specs.Turn.{Turned, reply, slot_after, with_other, with_queue, with_out, with_cell, with_pages}
use Rattle.mm_model.specs.Turn.{core_after, memory_after, stood, is_sync, event_of, core_faulted, faulted, touch_of}
use Rattle.mm_model.specs.{Turn.{asked_use, blocked, ended, executed, idle, turn}, Run.{after, run}}
use Rattle.mm_model.proofs.Memories.{put_frames, map_frames, unmap_frames}
use Rattle.mm_model.proofs.TurnChanges.{MemoryMoves, OutputMoves, turn_changes}
use Rattle.mm_isa.specs.declared.instr.Instr.{Instr}

-- 1. Cores.

pub record CoreGoesOn (core after : Core) : Type 0 where
  pub version : after.version ≡ core.version
  pub split : after.split ≡ core.split
  pub count : length after.outputs ≡ length core.outputs
  pub grows : (g : ℕ) → length (output_of core g) ≤ length (output_of after g)

core_self : (core : Core) → CoreGoesOn core core
core_self core = record { version = refl; split = refl; count = refl; grows = λ g. omega arith }

core_then : (a b c : Core) → CoreGoesOn a b → CoreGoesOn b c → CoreGoesOn a c
core_then a b c first second = record {
  version = second.version ∙ first.version;
  split = second.split ∙ first.split;
  count = second.count ∙ first.count;
  grows = λ g. let one = first.grows g in let two = second.grows g in omega arith;
}

grows_at : (xs : List (List ℕ)) (g h byte : ℕ) → length (slice_index_or xs h []) ≤ length (slice_index_or (slice_set xs g (slice_index_or xs g [] ++ byte ∷ [])) h [])
grows_at [] g h byte = omega arith
grows_at (x ∷ xs) zero zero byte = omega (arith, length-append x (byte ∷ []))
grows_at (x ∷ xs) zero (suc h) byte = omega arith
grows_at (x ∷ xs) (suc g) zero byte = omega arith
grows_at (x ∷ xs) (suc g) (suc h) byte = grows_at xs g h byte

-- 2. Turns.

outputs_count : (was now : List (List ℕ)) → OutputMoves was now → length now ≡ length was
outputs_count was now (OutputMoves.Same e) = ap length e
outputs_count was now (OutputMoves.Puts p) = ap length p.outputs ∙ length-set was p.group (slice_index_or was p.group [] ++ p.byte ∷ [])

outputs_grow : (was now : List (List ℕ)) → OutputMoves was now → (g : ℕ) → length (slice_index_or was g []) ≤ length (slice_index_or now g [])
outputs_grow was now (OutputMoves.Same e) g = rw e (omega arith)
outputs_grow was now (OutputMoves.Puts p) g = rw p.outputs (grows_at was p.group g p.byte)

same_frames : (m later : Memory) (t : Option AccessValue) → MemoryMoves m later t → later.frames ≡ m.frames
same_frames m later t (MemoryMoves.Stays e) = ap (λ (x : Memory). x.frames) e
same_frames m later t (MemoryMoves.Writes w) = ap (λ (x : Memory). x.frames) w.memory ∙ put_frames m w.access.addr w.cell
same_frames m later t (MemoryMoves.Maps p) = ap (λ (x : Memory). x.frames) p.memory ∙ map_frames m p.page
same_frames m later t (MemoryMoves.Removes p) = ap (λ (x : Memory). x.frames) p.memory ∙ unmap_frames m p.page

-- 3. Runs.

pub record RunGoesOn (s t : State) : Type 0 where
  pub core : CoreGoesOn s.core t.core
  pub frames : t.memory.frames ≡ s.memory.frames

after_goes_on : (s : State) (n : ℕ) → RunGoesOn s (after s n)
unfolding after output_of
after_goes_on s n =
    let t = turn s.core s.memory n in
    let k = turn_changes s.core s.memory n in
    record {
      core = record { version = k.version; split = k.split; count = outputs_count s.core.outputs t.core.outputs k.outputs; grows = outputs_grow s.core.outputs t.core.outputs k.outputs };
      frames = same_frames s.memory t.memory t.step.touched k.memory;
    }

pub run_goes_on : (s : State) (items : List ℕ) → RunGoesOn s (run s items)
unfolding run
run_goes_on s [] = record { core = core_self s.core; frames = refl }
run_goes_on s (n ∷ items) =
    let first = after_goes_on s n in
    let rest = run_goes_on (after s n) items in
    record { core = core_then s.core (after s n).core (run (after s n) items).core first.core rest.core; frames = rest.frames ∙ first.frames }
