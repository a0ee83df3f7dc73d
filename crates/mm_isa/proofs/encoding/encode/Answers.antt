use Rattle.std.proofs.Common.{rules, ◌≡◌, ap, ◌∙◌}
use Rattle.mm_isa.{specs.{Table.{spelling, IsInstr}, Decode.instr_of}, proofs.Spelling.instr_of-spelling}
use Rattle.mm_isa.proofs.encoding.encode.Goals as goal

pub returns-clause-again : goal.returns-clause-again
returns-clause-again c =
    let legal : IsInstr c.args.i.now = search rules in
    let value : c.word.result ≡ spelling c.args.i.now = search rules in
    ap instr_of value ∙ instr_of-spelling c.args.i.now legal
