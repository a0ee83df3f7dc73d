use Rattle.std.proofs.Common.{subst, arith}
use Rattle.std.proofs.lemmas.Result.{MatchResult-weaker}
use Rattle.std.specs.{Prelude.Contains, List.flat_map}
use Rattle.mm_keep.specs.Claims.{AddsFacts}
use Rattle.mm_keep.specs.Searching.{Derives, again_facts, enter_facts}
use Rattle.mm_keep.proofs.{Claims.grows_then, Rounds.{search_grows, doors_sound, went_round}}
use Rattle.mm_keep.proofs.search.Search.round.Goals as goal

pub look_at_new-requires : goal.look_at_new-requires
look_at_new-requires c =
    let s = c.args.self.now in
    let a = c.enter_doors.new.tables in
    let b = c.go_on.new.tables in
    let doors = subst (λ l. AddsFacts c.args.kernel.now.image c.args.kernel.now.kept (flat_map (enter_facts c.args.kernel.now.image c.args.kernel.now.kept l) s.tables.doors) s.tables a) c.deref.ensures.value c.in_ok-enter_doors.ensures in
    let on = c.in_ok-go_on.ensures in
    search_grows c.args.kernel.now.image c.args.kernel.now.kept s b c.requires (grows_then s.tables a b doors.grows on.grows) (on.sound (doors_sound c.args.kernel.now.image c.args.kernel.now.kept s a c.requires doors))

pub look_again_at-requires-clause-sound : goal.look_again_at-requires-clause-sound
look_again_at-requires-clause-sound c =
    c.in_ok-few.ensures.searching.sound

pub look_again_at-requires-clause-inside : goal.look_again_at-requires-clause-inside
look_again_at-requires-clause-inside c =
    λ k has. c.in_ok-few.ensures.searching.inside k (subst (λ l. Contains l k) c.deref-2.ensures.value has)

pub look_again_at-requires-clause-few : goal.look_again_at-requires-clause-few
look_again_at-requires-clause-few c =
    let now = c.look_at_new.new.self in
    let is = c.in_ok-few.ensures.searching in
    let all = c.in_ok-few.ensures.all c.if-not-few.false in
    let le = is.few in
    omega (arith, all, le)

pub returns-clause-searching : goal.returns-clause-searching
returns-clause-searching c =
    let now = c.look_at_new.new.self in
    let is = c.in_ok-few.ensures.searching in
    let all = c.in_ok-few.ensures.all c.if-not-few.false in
    MatchResult-weaker c.look_again_at.result c.look_again_at.ensures.derives
    (λ few d on. search_grows c.args.kernel.now.image c.args.kernel.now.kept now c.look_again_at.new.tables is (d on).grows ((d on).sound is.sound)) (λ e x. x)

pub returns-clause-went : goal.returns-clause-went
returns-clause-went c =
    let s = c.args.self.now in
    let a = c.enter_doors.new.tables in
    let b = c.go_on.new.tables in
    let doors = subst (λ l. AddsFacts c.args.kernel.now.image c.args.kernel.now.kept (flat_map (enter_facts c.args.kernel.now.image c.args.kernel.now.kept l) s.tables.doors) s.tables a) c.deref.ensures.value c.in_ok-enter_doors.ensures in
    let on = c.in_ok-go_on.ensures in
    let now = c.look_at_new.new.self in
    let is = c.in_ok-few.ensures.searching in
    let all = c.in_ok-few.ensures.all c.if-not-few.false in
    let new = c.look_again_at.new.tables in
    MatchResult-weaker c.look_again_at.result c.look_again_at.ensures.derives
    (λ few d holds. went_round c.args.kernel.now.image c.args.kernel.now.kept s a b now new c.requires doors on c.in_ok-few.ensures.grows is all
    (subst (λ l. Derives c.args.kernel.now.image c.args.kernel.now.kept (flat_map (again_facts c.args.kernel.now.image c.args.kernel.now.kept now.tables) l) now.tables new) c.deref-2.ensures.value (d holds))) (λ e x. x)
