-- The ranges of a line's values, and of its places: at most `most` bytes before the line's end.
use Rattle.std.specs.Prelude.{◌≡◌, ◌≢◌, ℕ, ◌^◌, ◌<◌, ◌≤◌, true, length, Option, Some, None, Result, Ok, Err}
use Rattle.mm_word.specs.Perm.{can_fetch}
use Rattle.mm_isa.specs.{declared.instr.Instr.Instr, Table.{fields_of, IsInstr}}
use Rattle.mm_line.specs.declared.{fault.Problem.Problem, name.Mark.Mark}
use Rattle.mm_line.specs.declared.statement.{Target.Target, Constant.{Constant, TheVariants.{Integer, Pointer}}}
use Rattle.mm_line.specs.declared.statement.{Code.Code, Content.Content}
use Rattle.mm_line.specs.declared.statement.Statement.{Statement}
use Rattle.mm_line.specs.declared.statement.Statement.TheVariants.{Spare, Begin, Fill, Word, Thread, Register}
use Rattle.mm_line.specs.{declared.line.{Claim.Claim, Body.Body, Line.Line}, Forms.is_name, Faults.number_of}
use Rattle.mm_line.specs.declared.statement.Content.TheVariants as content
use Rattle.mm_line.specs.declared.line.Claim.TheVariants as claims

pub record IsMark (most : ℕ) (m : Mark) : Type 0 where
  pub name : is_name m.name ≡ true
  pub length : length m.name ≤ 31
  pub place : m.left ≤ most

pub record IsTarget (most : ℕ) (t : Target) : Type 0 where
  pub mark : IsMark most t.mark
  pub addend : t.addend < 2 ^ 20

abbrev pub IsConstant : ℕ → Constant → Type 0
IsConstant most (Integer n) = n < 2 ^ 64
IsConstant most (Pointer perm t) = IsTarget most t

abbrev pub IsGoal : ℕ → Option Mark → Type 0
IsGoal most None = Unit {0}
IsGoal most (Some m) = IsMark most m

-- the fields are those of an instruction
pub record IsCode (most : ℕ) (code : Code) : Type 0 where
  pub fields : (i : Instr) × IsInstr i × (fields_of i ≡ code.fields)
  pub goal : IsGoal most code.goal

abbrev pub IsContent : ℕ → Content → Type 0
IsContent most (content.Constant c) = IsConstant most c
IsContent most (content.Code code) = IsCode most code

-- a handler is another slot
abbrev pub IsHandler : ℕ → Option ℕ → Type 0
IsHandler slot None = Unit {0}
IsHandler slot (Some handler) = (handler < 16) × (handler ≢ slot)

abbrev pub IsStatement : ℕ → Statement → Type 0
IsStatement most (Spare frames) = frames ≤ 256
IsStatement most (Begin name log) = IsMark most name × (3 ≤ log) × (log ≤ 20)
IsStatement most (Fill words) = words ≤ 131_072
IsStatement most (Word full content) = IsContent most content
IsStatement most (Thread slot group handler perm target) =
    (slot < 16) × (group < 16) × IsHandler slot handler × (can_fetch perm ≡ true) × IsTarget most target
IsStatement most (Register number value) = (number < 16) × IsConstant most value

-- a fault that a line has by itself
pub record IsProblem (most : ℕ) (p : Problem) : Type 0 where
  pub number : number_of p.fault ≤ 4
  pub place : p.left ≤ most

-- what was read is as P says, or its fault is one that a line has by itself
pub record Reads {A : Type 0} (most : ℕ) (P : A → Type 0) (r : Result A Problem) : Type 0 where
  pub ok : (x : A) → r ≡ Ok x → P x
  pub err : (p : Problem) → r ≡ Err p → IsProblem most p

abbrev pub IsClaim : ℕ → Option Claim → Type 0
IsClaim most None = Unit {0}
IsClaim most (Some (claims.Spare left)) = left ≤ most
IsClaim most (Some (claims.Segment name)) = IsMark most name
IsClaim most (Some (claims.Slot slot left)) = (slot < 16) × (left ≤ most)
IsClaim most (Some (claims.Register number left)) = (number < 16) × (left ≤ most)

-- all places of a statement are at its first token or after it
pub record IsBody (most : ℕ) (b : Body) : Type 0 where
  pub place : b.left ≤ most
  pub claim : IsClaim b.left b.claim
  pub reading : Reads b.left (IsStatement b.left) b.reading

abbrev pub IsLabel : ℕ → Option (Result Mark Problem) → Type 0
IsLabel most None = Unit {0}
IsLabel most (Some reading) = Reads most (IsMark most) reading

abbrev pub IsOptionalBody : ℕ → Option Body → Type 0
IsOptionalBody most None = Unit {0}
IsOptionalBody most (Some b) = IsBody most b

pub record IsLine (most : ℕ) (line : Line) : Type 0 where
  pub label : IsLabel most line.label
  pub body : IsOptionalBody most line.body

-- the claim of a statement that was read is what it names
abbrev pub Names : Statement → ℕ → Option Claim → Type 0
Names (Spare frames) left claim = claim ≡ Some (claims.Spare left)
Names (Begin name log) left claim = claim ≡ Some (claims.Segment name)
Names (Thread slot group handler perm target) left claim = (at : ℕ) × (claim ≡ Some (claims.Slot slot at))
Names (Register number value) left claim = (at : ℕ) × (claim ≡ Some (claims.Register number at))
Names _ left claim = claim ≡ None

abbrev pub NamesItsClaim : Option Body → Type 0
NamesItsClaim None = Unit {0}
NamesItsClaim (Some b) = (s : Statement) → b.reading ≡ Ok s → Names s b.left b.claim
