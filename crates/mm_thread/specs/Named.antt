-- The registers and the number in an instruction's operands, gathered one operand after the other.
use Rattle.std.specs.Prelude.{ℕ, ◌+◌, List, [], ◌∷◌, Option, Some, None, pos}
use Rattle.mm_isa.specs.declared.operand.Operand.{Operand}
use Rattle.mm_isa.specs.declared.operand.Operand.TheVariants.{Rd, EvtRd, Ra, Rb, Imm, Distance, RegisterNumber}
use Rattle.mm_thread.specs.declared.operands.Named.{Named}

-- what was gathered, with one operand more
abbrev pub named_too : Named → Operand → Named
named_too n (Rd r) = record n { rd = Some r }
named_too n (EvtRd r) = record n { evt = Some r }
named_too n (Ra r) = record n { ra = Some r }
named_too n (Rb r) = record n { rb = Some r }
named_too n (Imm k) = record n { imm = k }
named_too n (Distance k) = record n { imm = k }
named_too n (RegisterNumber r) = record n { imm = pos r }
named_too n _ = n

-- the registers for results
abbrev pub results : Option ℕ → Option ℕ → List ℕ
results (Some r) evt = r ∷ []
results None (Some r) = r ∷ (r + 1) ∷ (r + 2) ∷ (r + 3) ∷ []
results None None = []
