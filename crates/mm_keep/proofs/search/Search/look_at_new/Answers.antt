use Rattle.std.proofs.Common.{◌<◌, ◌∙◌, length, refl, arith}
use Rattle.mm_keep.proofs.{Claims.{grows_same, grows_then}, Rounds.has_more}
use Rattle.mm_keep.proofs.search.Search.look_at_new.Goals as goal

pub loop-self-init : goal.loop-self-init
loop-self-init c = record { searching = c.requires; grows = grows_same c.args.self.now.tables; limit = refl }

pub loop-self-preserved : goal.loop-self-preserved
loop-self-preserved c =
    let l = c.loop-self in
    record {
      searching = c.in_ok-look.ensures.searching;
      grows = grows_then c.args.self.now.tables l.self.tables c.look.new.self.tables l.invariant.grows c.in_ok-look.ensures.grows;
      limit = c.in_ok-look.ensures.limit ∙ l.invariant.limit;
    }

pub returns-then-found-self-clause-more : goal.returns-then-found-self-clause-more
returns-then-found-self-clause-more c =
    let s = c.loop-self.self in
    let many : s.limit < length s.tables.threads = (let gt = c.if-found-self.true in let is = c.threads-found.ensures.count in omega (arith, gt, is)) in
    λ off. has_more c.args.kernel.now.image c.args.kernel.now.kept s.tables s.limit c.loop-self.invariant.searching.sound c.threads-found.ensures.distinct many

pub look-requires-clause-searching : goal.look-requires-clause-searching
look-requires-clause-searching c = c.loop-self.invariant.searching

pub returns-clause-searching : goal.returns-clause-searching
returns-clause-searching c = c.loop-self.invariant.searching

pub returns-clause-grows : goal.returns-clause-grows
returns-clause-grows c = c.loop-self.invariant.grows

pub returns-then-found-self-clause-searching : goal.returns-then-found-self-clause-searching
returns-then-found-self-clause-searching c = c.loop-self.invariant.searching

pub returns-then-found-self-clause-grows : goal.returns-then-found-self-clause-grows
returns-then-found-self-clause-grows c = c.loop-self.invariant.grows
