use Rattle.std.proofs.Common.{◌≡◌, take}
use Rattle.mm_explore.specs.Searching.{IsWithin, schedule_at, AllStay}
use Rattle.mm_explore.proofs.search.Search.make_all.Given as goal

abbrev pub invariant-loop-k : goal.invariant-loop-k
invariant-loop-k l = record {
  within : IsWithin l.img l.self l.at l.k;
  moves : l.self.moves ≡ l.fn.self.moves;
  limit : l.self.limit ≡ l.fn.self.limit;
  stay : AllStay l.stay l.img (schedule_at l.self l.at) (take l.k l.self.moves.items);
}
