use Rattle.std.proofs.Common.{rules, ◌≡◌, ◌≢◌, None, Some}
use Rattle.mm_isa.specs.{Table.spelling, Decode.{fields_in, row_of, instr_of}}
use Rattle.mm_isa.proofs.Spelling.{instr_of-no_row, instr_of-other, instr_of-none}
use Rattle.mm_isa.proofs.decoding.decode.Goals as goal

pub returns-in_err-i-clause-value : goal.returns-in_err-i-clause-value
returns-in_err-i-clause-value c =
    let row : row_of (fields_in c.args.w) ≡ None = search rules in
    let none : instr_of c.args.w ≡ None = instr_of-no_row c.args.w row in
    cc

pub returns-in_err-i-clause-none : goal.returns-in_err-i-clause-none
returns-in_err-i-clause-none c =
    let row : row_of (fields_in c.args.w) ≡ None = search rules in
    let none : instr_of c.args.w ≡ None = instr_of-no_row c.args.w row in
    rw c.from_residual.ensures (instr_of-none c.args.w none)

pub returns-else-encode-w-clause-value : goal.returns-else-encode-w-clause-value
returns-else-encode-w-clause-value c =
    let row : row_of (fields_in c.args.w) ≡ Some c.in_ok-i.i = search rules in
    let other : spelling c.in_ok-i.i ≢ c.args.w = search rules in
    let none : instr_of c.args.w ≡ None = instr_of-other c.args.w c.in_ok-i.i row other in
    cc

pub returns-else-encode-w-clause-none : goal.returns-else-encode-w-clause-none
returns-else-encode-w-clause-none c =
    let row : row_of (fields_in c.args.w) ≡ Some c.in_ok-i.i = search rules in
    let other : spelling c.in_ok-i.i ≢ c.args.w = search rules in
    instr_of-none c.args.w (instr_of-other c.args.w c.in_ok-i.i row other)
