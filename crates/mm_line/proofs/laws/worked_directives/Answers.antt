use Rattle.std.proofs.Common.{refl}
use Rattle.mm_line.specs.{Tokens.{token_at, next_token}, Operands.{operand_at, more_at, operands_at, code_at}}
use Rattle.mm_line.specs.Statements.{addend_at, target_at, integer_at, pointer_at, constant_at, content_by_directive}
use Rattle.mm_line.specs.Statements.{content_by_operation, content_of, spare_at, segment_at, fill_at, thread_at}
use Rattle.mm_line.specs.Statements.{register_at, front_by, statement_of, claim_of, body_of, line_of}
use Rattle.mm_isa.specs.Decode.{rows, forms, operation_named}
use Rattle.mm_line.proofs.laws.worked_directives.Goals as goal

pub returns : goal.returns
unfolding token_at next_token operand_at more_at operands_at code_at addend_at target_at integer_at pointer_at
    constant_at content_by_directive content_by_operation content_of spare_at segment_at fill_at thread_at register_at
    front_by statement_of claim_of body_of line_of rows forms operation_named
returns c = (refl, (refl, (refl, (refl, (refl, (refl, (refl, (refl, (refl, (refl, (refl, (refl, tt))))))))))))
