-- Lines whose numbers fit into 32 bits.
use Rattle.std.specs.{Prelude.{◌+◌, ◌^◌, ◌<◌}, List.AllByRecursion}
use Rattle.mm_draft.specs.declared.{source.Source.Source, segment.Word.Word, thread.Register.Register}
use Rattle.mm_draft.specs.{declared.fault.DraftError.DraftError, Drafts.{Segment, Thread, Draft}, Laws.Pair}
use Rattle.mm_draft.specs.declared.fault.DraftError.TheVariants as early

-- the number of a line and those of its columns, counted from 1, have 32 bits
abbrev pub IsSmall : Source → Type 0
IsSmall s = (s.line + 1 < 2 ^ 32) × (s.size + 1 < 2 ^ 32)

abbrev pub HasSmallWords : Segment → Type 0
HasSmallWords s = AllByRecursion (λ (w : Word). IsSmall w.source) s.words

abbrev pub HasSmallRegisters : Thread → Type 0
HasSmallRegisters t = IsSmall t.source × AllByRecursion (λ (r : Register). IsSmall r.source) t.registers

-- all lines of a draft have such numbers
pub record IsFromSmall (d : Draft) : Type 0 where
  pub segments : AllByRecursion HasSmallWords d.segments
  pub threads : AllByRecursion HasSmallRegisters d.threads

-- the fault that stopped the reading, if one did, is on a line with such numbers
abbrev pub IsSmallError : DraftError → Type 0
IsSmallError (early.Fault failure) = IsSmall failure.source
IsSmallError early.NoMemory = Unit {0}

-- the line and the column of a pair have 32 bits each
pub record IsPosition (p : Pair) : Type 0 where
  pub line : p.line < 2 ^ 32
  pub column : p.column < 2 ^ 32
