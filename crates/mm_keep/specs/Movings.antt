-- How an instruction moves or narrows a pointer by the bits of an operand.
use Rattle.std.specs.{Prelude.{ℕ, Result}, Int.{w64, cast_signed}}
use Rattle.mm_word.specs.{declared.cause.Cause.Cause, Pointer.{Pointer, lea_result, leab_result, subseg_result}}
use Rattle.mm_keep.specs.declared.turn.Moving.{Moving, TheVariants.{Lea, LeaBy, Leab, Subseg}}

abbrev pub moved_by : Moving → Pointer → ℕ → Result Pointer Cause
moved_by Lea = λ p bits. lea_result p (cast_signed w64 bits)
moved_by (LeaBy imm) = λ p bits. lea_result p imm
moved_by Leab = λ p bits. leab_result p (cast_signed w64 bits)
moved_by Subseg = subseg_result
