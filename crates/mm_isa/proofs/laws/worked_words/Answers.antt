use Rattle.std.proofs.Common.{refl}
use Rattle.mm_isa.specs.{Table.packed, Decode.{fields_in, rows, row_of, instr_of}}
use Rattle.mm_isa.proofs.laws.worked_words.Goals as goal

pub returns-clause-halt : goal.returns-clause-halt
unfolding packed fields_in rows row_of instr_of
returns-clause-halt c = refl

pub returns-clause-ldi : goal.returns-clause-ldi
unfolding packed fields_in rows row_of instr_of
returns-clause-ldi c = refl

pub returns-clause-br : goal.returns-clause-br
unfolding packed fields_in rows row_of instr_of
returns-clause-br c = refl

pub returns-clause-ld : goal.returns-clause-ld
unfolding packed fields_in rows row_of instr_of
returns-clause-ld c = refl

pub returns-clause-evt : goal.returns-clause-evt
unfolding packed fields_in rows row_of instr_of
returns-clause-evt c = refl

pub returns-clause-evt_past : goal.returns-clause-evt_past
unfolding packed fields_in rows row_of instr_of
returns-clause-evt_past c = refl

pub returns-clause-unused : goal.returns-clause-unused
unfolding packed fields_in rows row_of instr_of
returns-clause-unused c = refl
