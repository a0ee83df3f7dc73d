use Rattle.std.proofs.Common.{◌≡◌, ◌++◌, [], List, length, refl, sym, ap, ◌∙◌, subst, arith}
use Rattle.mm_cli.specs.declared.{table.Tail.TheVariants.Nothing, words.{Word.{Word as Read}}}
use Rattle.mm_cli.specs.Words.{AreOfRow, Word as Spoken, spoken, texts}
use Rattle.mm_cli.proofs.RowWords.{ReadSoFar, read_none, read_more, read_no_more, read_no_tail, read_all, spoken_more}
use Rattle.mm_cli.proofs.RowWords.{spoken_both, formed_more, formed_all}
use Rattle.mm_cli.proofs.reading.read_row.Goals as goal

pub loop-parameter-init : goal.loop-parameter-init
loop-parameter-init c =
    let none : spoken c.new-read.result.items ≡ [] = ap spoken c.new-read.ensures in
    record {
      count = ap (λ (xs : List Read). length xs) c.new-read.ensures;
      formed = subst (λ (rs : List Read). AreOfRow [] Nothing rs) (sym c.new-read.ensures) tt;
      so_far = subst (λ (ws : List Spoken). ReadSoFar c.args.parameters.now c.args.tail (texts c.args.words.now) 0 ws (texts c.args.words.now)) (sym none)
          (read_none c.args.parameters.now c.args.tail (texts c.args.words.now));
    }

pub returns-in_err-word : goal.returns-in_err-word
returns-in_err-word c =
    rw c.from_residual.ensures
    (read_no_more c.args.parameters.now c.args.tail (texts c.args.words.now) c.loop-parameter.parameter-index _
    (spoken c.loop-parameter.read.items) (texts c.loop-parameter.rest.now) c.loop-parameter-test.true
    c.loop-parameter.invariant.so_far c.in_err-word.ensures)

pub push-requires : goal.push-requires
push-requires c = (omega arith, omega (arith, c.requires, c.loop-parameter.invariant.count, c.loop-parameter-test.true))

pub loop-parameter-preserved : goal.loop-parameter-preserved
loop-parameter-preserved c =
    let (word, is_of, says, fits, arguments) = c.in_ok-word.ensures in
    record {
      count = omega (arith, c.push.ensures.len, c.loop-parameter.invariant.count);
      formed = formed_more c.args.parameters.now c.loop-parameter.parameter-index _ c.loop-parameter.read.items c.push.new.self.items
          c.in_ok-word.word c.loop-parameter-test.true c.loop-parameter.invariant.formed is_of c.push.ensures.items;
      so_far = read_more c.args.parameters.now c.args.tail (texts c.args.words.now) c.loop-parameter.parameter-index _
          (spoken c.loop-parameter.read.items) (spoken c.push.new.self.items) word (texts c.loop-parameter.rest.now)
          (texts c.in_ok-word.after.now) c.loop-parameter-test.true c.loop-parameter.invariant.so_far fits arguments
          (spoken_more c.loop-parameter.read.items c.push.new.self.items c.in_ok-word.word c.push.ensures.items ∙ ap (λ (ws : List Spoken). spoken c.loop-parameter.read.items ++ ws) says);
    }

pub push_tail-requires : goal.push_tail-requires
push_tail-requires c = omega (arith, c.requires, c.loop-parameter.invariant.count, c.loop-parameter.auto.parameter-index-end)

pub returns-in_err-push_tail : goal.returns-in_err-push_tail
returns-in_err-push_tail c =
    rw c.from_residual-in_err-push_tail.ensures
    (read_no_tail c.args.parameters.now c.args.tail (texts c.args.words.now) c.loop-parameter.parameter-index
    (spoken c.loop-parameter.read.items) (texts c.loop-parameter.rest.now) c.loop-parameter-test.false
    c.loop-parameter.invariant.so_far (c.in_err-push_tail.ensures.none refl))

pub returns : goal.returns
returns c =
    let (more, formed, whole, fits, are) = c.in_ok-push_tail.ensures.some refl in
    let parameters = c.args.parameters.now in
    let tail = c.args.tail in
    let at = c.loop-parameter.parameter-index in
    let old = c.loop-parameter.read.items in
    let new = c.push_tail.new.read.items in
    let spelling = read_all parameters tail (texts c.args.words.now) at
    (spoken old) (spoken more) (spoken new) (texts c.loop-parameter.rest.now) c.loop-parameter-test.false c.loop-parameter.invariant.so_far fits are
    (spoken_both old more new whole) in
    (formed_all parameters tail at old more new c.loop-parameter-test.false c.loop-parameter.invariant.formed formed whole, spelling.0, spelling.1)
