use Rattle.std.{proofs.Common.{◌≡◌, ◌+◌, ◌<◌, ◌&&◌, Vec, ℕ, Global, length, take, sym, ap, ◌∙◌, subst, slice_index_or, arith}}
use Rattle.mm_explore.specs.Searching.{IsWithin, schedule_at, AllStay}
use Rattle.mm_explore.proofs.Steps.{take_one, take_whole, move_inside, stay_more}
use Rattle.mm_explore.proofs.search.Search.make_all.Goals as goal

pub make-requires-clause-inside : goal.make-requires-clause-inside
make-requires-clause-inside c =
    let lt = c.loop-k-test.true in
    let end = c.len-k-end.ensures in
    let same = ap (λ (v : Vec ℕ Global). length v.items) c.loop-k.invariant.moves in
    omega (arith, lt, end, same)

pub loop-k-preserved : goal.loop-k-preserved
loop-k-preserved c =
    let i = c.args.img.now in
    let at = c.args.at in
    let l = c.loop-k in
    let made = c.in_ok-stays.ensures.makes in
    let items = l.self.moves.items in
    let lt = c.loop-k-test.true in
    let end = c.len-k-end.ensures in
    let same = ap (λ (v : Vec ℕ Global). length v.items) l.invariant.moves in
    let move : l.k < length items = omega (arith, lt, end, same) in
    let stay = subst (AllStay (l.stay && c.in_ok-stays.stays) i (schedule_at l.self at)) (sym (take_one items l.k 0 move))
    (stay_more i (schedule_at l.self at) (take l.k items) (slice_index_or items l.k 0) l.stay c.in_ok-stays.stays (move_inside i l.self at l.k l.invariant.within move) l.invariant.stay made.back) in
    record {
      within = made.within;
      moves = made.moves ∙ l.invariant.moves;
      limit = made.limit ∙ l.invariant.limit;
      stay = subst (λ t. AllStay (l.stay && c.in_ok-stays.stays) i t (take (l.k + 1) c.make.new.self.moves.items)) (sym made.schedule)
          (subst (λ (v : Vec ℕ Global). AllStay (l.stay && c.in_ok-stays.stays) i (schedule_at l.self at) (take (l.k + 1) v.items)) (sym made.moves) stay);
    }

pub returns : goal.returns
returns c =
    let l = c.loop-k in
    let items = l.self.moves.items in
    let test = c.loop-k-test.false in
    let most = l.auto.k-end in
    let end = c.len-k-end.ensures in
    let same = ap (λ (v : Vec ℕ Global). length v.items) l.invariant.moves in
    let all : l.k ≡ length items = omega (arith, test, most, end, same) in
    record {
      within = subst (IsWithin c.args.img.now l.self c.args.at) all l.invariant.within;
      limit = l.invariant.limit;
      stay = subst (AllStay l.stay c.args.img.now (schedule_at l.self c.args.at)) (take_whole items l.k (sym all)) l.invariant.stay;
    }
