use Rattle.std.proofs.Common.{◌≡◌, ◌∙◌, refl, sym}
use Rattle.mm_keep.specs.Claims.{sizes_of}
use Rattle.mm_keep.proofs.{Rounds.exact_at_end, Same.same_numbers}
use Rattle.mm_keep.proofs.search.Search.run.Goals as goal

pub loop-init : goal.loop-init
loop-init c = record { searching = c.requires; limit = refl }

pub round-requires : goal.round-requires
round-requires c = c.loop.invariant.searching

pub loop-preserved : goal.loop-preserved
loop-preserved c = record {
  searching = c.in_ok-few.ensures.searching c.if-not-few.false;
  limit = c.in_ok-few.ensures.limit ∙ c.loop.invariant.limit;
}

pub returns-then-eq-clause-all : goal.returns-then-eq-clause-all
returns-then-eq-clause-all c =
    let on = c.if-not-few.false in
    let same = same_numbers c.size-after.result c.size-before.result (sym c.eq.ensures ∙ c.if-eq.true) in
    let sizes : sizes_of c.loop.self.tables ≡ sizes_of c.round.new.self.tables = sym c.size-before.ensures ∙ sym same ∙ c.size-after.ensures in
    λ all. exact_at_end c.args.kernel.now.image c.args.kernel.now.kept c.loop.self c.round.new.self (c.in_ok-few.ensures.searching on) (c.in_ok-few.ensures.went on) sizes
