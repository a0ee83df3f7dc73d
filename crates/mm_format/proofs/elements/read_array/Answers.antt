use Rattle.std.proofs.Common.{◌+◌, take, refl, ap, subst, ◌∙◌, arith, length-set}
use Rattle.std.{proofs.lemmas.{Result.err_from_is_err_and, List.{take_more_set, take_all}}, specs.List.AllByRecursion}
use Rattle.mm_model.proofs.CoreRows.{each_push}
use Rattle.mm_format.{specs.Formats.{sixteen, Parsed.Got}, proofs.Loops.{runs_begin, runs_more, runs_stop, runs_read}}
use Rattle.mm_format.proofs.elements.read_array.Goals as goal

pub loop-index-init : goal.loop-index-init
unfolding sixteen
loop-index-init g c = record {
  read = runs_begin (g.S.Elements.reads c.args.elements.now) (λ k _. k + 1) 16 0 c.args.reader.now.bytes.now
      c.args.reader.now.at;
  same = refl;
  count = refl;
  each = tt;
}

pub returns-in_err-item-clause-read : goal.returns-in_err-item-clause-read
returns-in_err-item-clause-read g c =
    let p = err_from_is_err_and c.from_residual.result c.from_residual.ensures.1 in
    let l = c.loop-index in (
      rw (p.1, p.2) (runs_stop (g.S.Elements.reads c.args.elements.now) (λ k _. k + 1) 16 l.index l.index
          l.reader.bytes.now l.reader.at (take l.index l.items) _ l.invariant.read c.loop-index-test.true
          g.K.FaultKind.number _ c.in_err-item.field-0.0 c.in_err-item.ensures.read.0),
      c.in_err-item.ensures.read.1 ∙ l.invariant.same,
    )

pub loop-index-preserved : goal.loop-index-preserved
loop-index-preserved g c =
    let l = c.loop-index in
    let x = c.in_ok-item.item in
    let more = take_more_set l.items l.index x (omega (arith, l.invariant.count, c.loop-index-test.true)) in
    record {
      read = rw (c.in_ok-item.ensures.read.1, more)
          (runs_more (g.S.Elements.reads c.args.elements.now) (λ k _. k + 1) 16 l.index l.index l.reader.bytes.now
          l.reader.at (take l.index l.items) _ l.invariant.read c.loop-index-test.true x c.item.new.reader.at
          c.in_ok-item.ensures.read.0);
      same = c.in_ok-item.ensures.read.1 ∙ l.invariant.same;
      count = length-set l.items l.index x ∙ l.invariant.count;
      each = rw more
          (each_push g.S.Elements.holds (take l.index l.items) x l.invariant.each c.in_ok-item.ensures.each);
    }

pub returns-clause-read : goal.returns-clause-read
returns-clause-read g c =
    let l = c.loop-index in (
      runs_read (g.S.Elements.reads c.args.elements.now) (λ k _. k + 1) 16 l.index l.index l.reader.bytes.now l.reader.at
          (take l.index l.items) _ l.invariant.read c.loop-index-test.false
          ∙ ap (λ xs. Got xs l.reader.at)
          (take_all l.index l.items (omega (arith, l.invariant.count, c.loop-index-test.false))),
      l.invariant.same,
    )

pub returns-clause-each : goal.returns-clause-each
returns-clause-each g c =
    let l = c.loop-index in
    subst (AllByRecursion g.S.Elements.holds)
    (take_all l.index l.items (omega (arith, l.invariant.count, c.loop-index-test.false))) l.invariant.each
