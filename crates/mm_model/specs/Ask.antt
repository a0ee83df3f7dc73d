-- What an instruction asks of the machine around its slot.
use Rattle.std.specs.Prelude.{ℕ, ◌^◌, nat_lt, if◌then◌else◌, Result, Ok, Err}
use Rattle.mm_word.specs.declared.perm.Perm.{Perm}
pub use Rattle.mm_word.specs.Perm.{is_privileged}
use Rattle.mm_word.specs.declared.perm.Kind.{Kind}
use Rattle.mm_word.specs.declared.perm.Kind.TheVariants.{Load, LoadSet, Store}
use Rattle.mm_word.specs.declared.cause.Cause.{Cause}
use Rattle.mm_word.specs.declared.cause.Cause.TheVariants.{Bounds, Priv}
use Rattle.mm_word.specs.declared.word.Pre.{Pre}
use Rattle.mm_word.specs.declared.word.Post.{Post}
use Rattle.mm_word.specs.declared.word.Post.TheVariants as posts
use Rattle.mm_word.specs.Access.{AccessValue, check_result}
use Rattle.mm_word.specs.Word.{word_bits}
use Rattle.mm_isa.specs.declared.instr.Instr.{Instr}
use Rattle.mm_isa.specs.declared.instr.Instr.TheVariants.{Out, Ld, St, Evt, Resume, Rreg, Wreg, Map, Unmap}
use Rattle.mm_model.specs.Slot.{Slot, register}

pub data Ask : Type 0 where
  -- nothing: the slot alone decides
  Nothing : Ask
  -- a test of the instruction's own fails
  Refuse : (cause : Cause) → Ask
  -- an access to a cell that has to pass a precondition
  Reach : (access : AccessValue) (pre : Pre) → Ask
  MapPage : (page : ℕ) → Ask
  UnmapPage : (page : ℕ) → Ask
  -- the oldest event of the slot's own queue
  NextEvent : Ask
  -- room for one more byte of the group's output
  Room : (group : ℕ) → Ask
  -- a slot that this one serves and whose event it has read
  Serve : (slot : ℕ) → Ask

-- a load that sets the bit is an access of its own kind
abbrev pub load_kind : Post → Kind
load_kind posts.Keep = Load
load_kind posts.Full = LoadSet
load_kind posts.Empty = LoadSet

abbrev pub reaching : Result AccessValue Cause → Pre → Ask
reaching (Err c) pre = Refuse c
reaching (Ok a) pre = Reach a pre

-- pages are for privileged code, and their numbers are below 2^42
abbrev pub page_asked : Perm → ℕ → Ask → Ask
page_asked perm page asked =
    if is_privileged perm then (if nat_lt page (2 ^ 42) then asked else Refuse Bounds) else Refuse Priv

unfoldable pub ask : Instr → Slot → Ask
ask (Out ra) s = Room s.group
ask (Ld rd ra pre post imm) s = reaching (check_result (register s ra) imm (load_kind post)) pre
ask (St ra rb pre post imm) s = reaching (check_result (register s ra) imm Store) pre
ask (Evt rd) s = NextEvent
ask (Resume ra how) s = Serve (word_bits (register s ra))
ask (Rreg rd ra reg) s = Serve (word_bits (register s ra))
ask (Wreg ra rb reg) s = Serve (word_bits (register s ra))
ask (Map rd ra) s = page_asked s.ip.perm (word_bits (register s ra)) (MapPage (word_bits (register s ra)))
ask (Unmap rd ra) s = page_asked s.ip.perm (word_bits (register s ra)) (UnmapPage (word_bits (register s ra)))
ask _ s = Nothing
