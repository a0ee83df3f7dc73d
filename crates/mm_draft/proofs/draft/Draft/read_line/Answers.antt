use Rattle.std.proofs.{Common.{sym, subst, length}, lemmas.Result.err_from_is_err_and}
use Rattle.mm_line.specs.{declared.line.Line.Line, Ranges.{IsOptionalBody, NamesItsClaim}}
use Rattle.mm_line.proofs.{Claims.line_claims, StatementRanges.line_is}
use Rattle.mm_draft.{specs.Seen.Leaves, proofs.Lines.{label_err, goes}}
use Rattle.mm_draft.proofs.draft.Draft.read_line.Goals as goal

pub returns-in_err-read_label : goal.returns-in_err-read_label
returns-in_err-read_label c =
    let p = err_from_is_err_and c.from_residual.result c.from_residual.ensures.1 in
    rw (p.1, p.2) (label_err (Unit {0}) c.args.number c.args.bytes.now c.read_line-line.result c.args.self.now
    c.read_label.new.self c.in_err-read_label.field-0.0 c.read_line-line.ensures c.in_err-read_label.ensures)

pub read_body-requires-clause-in_range : goal.read_body-requires-clause-in_range
read_body-requires-clause-in_range c =
    let bytes = c.args.bytes.now in
    subst (λ (l : Line). IsOptionalBody (length bytes) l.body) (sym c.read_line-line.ensures) (line_is bytes).body

pub read_body-requires-clause-claims : goal.read_body-requires-clause-claims
read_body-requires-clause-claims c = subst (λ (l : Line). NamesItsClaim l.body) (sym c.read_line-line.ensures) (line_claims c.args.bytes.now)

pub returns : goal.returns
returns c =
    subst (Leaves c.read_body.result c.read_body.new.self)
    (sym (goes c.args.number c.args.bytes.now c.read_line-line.result c.args.self.now c.read_label.new.self
    c.read_line-line.ensures c.in_ok-read_label.ensures)) c.read_body.ensures
