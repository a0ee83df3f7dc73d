use Rattle.std.proofs.Common.{◌≡◌, length, subst, arith}
use Rattle.mm_why.specs.Searches.{stage_of, RegistersPlaced}
use Rattle.mm_why.proofs.Searching.{registers_start, registers_more, register_held, same_word}
use Rattle.mm_why.proofs.search.Search.reach_registers.Goals as goal

pub loop-k-init : goal.loop-k-init
loop-k-init c = (c.requires.len, λ i s h w now. registers_start i c.args.keys.now c.args.group c.args.words.now (stage_of c.args.self.now) now)

pub loop-k-preserved : goal.loop-k-preserved
loop-k-preserved c = (
  c.in_ok-reach_word.ensures.len,
  λ i s h w now.
      let r = c.loop-k.invariant.1 i s h w now in
      let is = same_word c.args.words.now c.loop-k.k c.index-words-k.result c.loop-k-test.true c.index-words-k.is in
      registers_more i c.args.keys.now c.args.group c.args.words.now c.loop-k.k c.index-words-k.result
      (stage_of c.args.self.now) (stage_of c.loop-k.self) (stage_of c.reach_word.new.self) is r
      (c.in_ok-reach_word.ensures.placed i r.advances.now (register_held i s c.args.group c.args.slot c.loop-k.k c.args.words.now c.index-words-k.result h w is)),
)

pub returns-clause-placed : goal.returns-clause-placed
returns-clause-placed c = λ i s h w now.
    let e : c.loop-k.k ≡ length c.args.words.now = (let a = c.loop-k.auto.k-end in let b = c.loop-k-test.false in omega (arith, a, b)) in
    subst (λ v. RegistersPlaced i c.args.keys.now c.args.group c.args.words.now v (stage_of c.args.self.now) (stage_of c.loop-k.self)) e
    (c.loop-k.invariant.1 i s h w now)
