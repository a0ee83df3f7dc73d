use Rattle.std.proofs.Common.{ap, eqb, length, rules}
use Rattle.std.proofs.lemmas.{List.length_push, Result.err_from_is_err_and}
use Rattle.std.proofs.lemmas.Iterator.Consumers.{YieldsList-from_enumerate, YieldsList-at, YieldsList-turn}
use Rattle.std.proofs.lemmas.Iterator.{Consumers.YieldsList-end, Splits.YieldsList-from_slice_split}
use Rattle.mm_draft.{specs.Faults.{lines_of, lines_from, draft_of}, proofs.Lines.{at_turn, text_err, text_ok, text_end}}
use Rattle.mm_draft.proofs.reading.read_draft.Goals as goal

pub loop-number-init : goal.loop-number-init
unfolding draft_of
loop-number-init c = ap (λ d. lines_from 0 d (lines_of c.args.text.now)) c.new-draft.ensures

pub returns-in_err-read_line : goal.returns-in_err-read_line
returns-in_err-read_line c =
    let t = YieldsList-turn (YieldsList-from_enumerate
    (YieldsList-at (cc) (YieldsList-from_slice_split {s = c.split.result} _ (λ b. eqb b 10) c.args.text.now
    c.split.ensures.rest c.split.ensures.done c.split.ensures.closure (λ x b q h. search (rules, h)))) (cc))
    c.loop-number.yielded _ c.loop-number.yielded_by _ _ (c.in-Some.number, c.in-Some.bytes) c.in-Some.is
    c.next.ensures.steps in
    let p = err_from_is_err_and c.from_residual.result c.from_residual.ensures.1 in
    rw (p.1, p.2) (text_err (Unit {0}) (lines_of c.args.text.now) (length c.loop-number.yielded) c.in-Some.number
    c.in-Some.bytes.now c.loop-number.draft c.read_line.new.self c.in_err-read_line.field-0.0 _ (at_turn _ _ _ t)
    c.loop-number.invariant c.in_err-read_line.ensures)

pub loop-number-preserved : goal.loop-number-preserved
loop-number-preserved c =
    let t = YieldsList-turn (YieldsList-from_enumerate
    (YieldsList-at (cc) (YieldsList-from_slice_split {s = c.split.result} _ (λ b. eqb b 10) c.args.text.now
    c.split.ensures.rest c.split.ensures.done c.split.ensures.closure (λ x b q h. search (rules, h)))) (cc))
    c.loop-number.yielded _ c.loop-number.yielded_by _ _ (c.in-Some.number, c.in-Some.bytes) c.in-Some.is
    c.next.ensures.steps in
    text_ok (lines_of c.args.text.now) (length c.loop-number.yielded) c.in-Some.number _ c.in-Some.bytes.now
    c.loop-number.draft c.read_line.new.self _ (at_turn _ _ _ t)
    (length_push c.loop-number.yielded (c.in-Some.number, c.in-Some.bytes)) c.loop-number.invariant
    c.in_ok-read_line.ensures

pub returns : goal.returns
returns c =
    let t = YieldsList-end (YieldsList-from_enumerate
    (YieldsList-at (cc) (YieldsList-from_slice_split {s = c.split.result} _ (λ b. eqb b 10) c.args.text.now
    c.split.ensures.rest c.split.ensures.done c.split.ensures.closure (λ x b q h. search (rules, h)))) (cc))
    c.loop-number.yielded _ c.loop-number.yielded_by _ _ c.in-None.is c.next.ensures.steps in
    text_end (lines_of c.args.text.now) (length c.loop-number.yielded) c.loop-number.draft _ t.1 c.loop-number.invariant
