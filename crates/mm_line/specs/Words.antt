-- The words of a line: directives, permissions, conditions and registers.
use Rattle.std.specs.Prelude.{ℕ, ◌+◌, ◌&&◌, ◌==◌, if◌then◌else◌, List, [], ◌∷◌, codes, Option, Some, None}
use Rattle.std.specs.{Str.bytes_eq, Char.{is_digit, digit_value}}
use Prim.Native.Char.{code}
use Rattle.mm_word.specs.declared.perm.Perm.{Perm, TheVariants.{Ro, Rw, Xu, Xp, Eu, Ep, Key}}
use Rattle.mm_word.specs.declared.word.{Pre.Pre, Post.Post}
use Rattle.mm_isa.specs.declared.instr.How.{How, TheVariants.{Retry, Skip, Kill}}
use Rattle.mm_line.specs.declared.words.Directive.{Directive}
use Rattle.mm_line.specs.declared.words.Directive.TheVariants.{Spare, Segment, Int, Ptr, Fill, Empty, Thread, Reg}
use Rattle.mm_word.specs.declared.word.Pre.TheVariants as pre
use Rattle.mm_word.specs.declared.word.Post.TheVariants as post

-- words, each with what it says
abbrev pub Table : Type 0 → Type 0
Table A = List (List ℕ × A)

-- what a word of a table says
abbrev pub look_up : {A : Type 0} → Table A → List ℕ → Option A
look_up [] word = None
look_up (row ∷ rows) word = if bytes_eq word row.0 then Some row.1 else look_up rows word

abbrev pub directives : Table Directive
directives =
    (codes ".spare", Spare)
    ∷ (codes ".segment", Segment)
    ∷ (codes ".int", Int)
    ∷ (codes ".ptr", Ptr)
    ∷ (codes ".fill", Fill)
    ∷ (codes ".empty", Empty)
    ∷ (codes ".thread", Thread)
    ∷ (codes ".reg", Reg)
    ∷ []

abbrev pub perms : Table Perm
perms =
    (codes "ro", Ro)
    ∷ (codes "rw", Rw)
    ∷ (codes "xu", Xu)
    ∷ (codes "xp", Xp)
    ∷ (codes "eu", Eu)
    ∷ (codes "ep", Ep)
    ∷ (codes "key", Key)
    ∷ []

-- the permissions of an instruction pointer
abbrev pub ip_perms : Table Perm
ip_perms = (codes "xu", Xu) ∷ (codes "xp", Xp) ∷ []

-- the words for what the synchronisation bit must be
abbrev pub pres : Table Pre
pres = (codes "any", pre.Any) ∷ (codes "full", pre.Full) ∷ (codes "empty", pre.Empty) ∷ []

-- the words for what the synchronisation bit becomes
abbrev pub posts : Table Post
posts = (codes "keep", post.Keep) ∷ (codes "full", post.Full) ∷ (codes "empty", post.Empty) ∷ []

-- the words for the ways to resume
abbrev pub hows : Table How
hows = (codes "retry", Retry) ∷ (codes "skip", Skip) ∷ (codes "kill", Kill) ∷ []

-- the number of a register: r0 to r9, and r10 to r15
abbrev pub register_named : List ℕ → Option ℕ
register_named (a ∷ b ∷ []) = if a == code "r" && is_digit b 10 then Some (digit_value b) else None
register_named (a ∷ b ∷ c ∷ []) =
    if a == code "r" && b == code "1" && is_digit c 6 then Some (10 + digit_value c) else None
register_named _ = None
