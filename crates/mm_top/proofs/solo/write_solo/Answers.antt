use Rattle.std.{proofs.Common.{◌≡◌, ◌==◌, ℕ, List, take, ap, ◌∙◌, subst, arith}, specs.List.{filter, list_any}}
use Rattle.mm_model.specs.{Image.Image, Groups.among, Spelling.IsImage, Report.report_after}
use Rattle.mm_machine.{specs.Machine.StandsFor, proofs.Went.went_from_start}
use Rattle.mm_top.specs.Groups.{members_of}
use Rattle.mm_top.proofs.{Reported.{start_cycles, reported, ends_written}, OwnItems.members_keep}
use Rattle.mm_model.specs.Schedule as schedule
use Rattle.mm_model.specs.Worlds as worlds
use Rattle.mm_top.proofs.solo.write_solo.Goals as goal

pub follow-requires : goal.follow-requires
follow-requires g c = omega (arith, c.items-2.ensures.limit, start_cycles _ _ c.in_ok-machine.ensures.stands)

pub returns : goal.returns
returns g c =
    let i = c.args.image in
    let inside = among c.args.groups.now in
    let own = c.in-Ok.own in
    let items : c.in_ok-items.items ≡ schedule.only i (take c.args.cycles c.args.list.now) inside =
    c.in_ok-items.ensures
    ∙ ap (λ (ms : List ℕ). filter (λ n. list_any (λ m. m == n) ms) (take c.args.cycles c.args.list.now))
    (c.as_slice.ensures.value ∙ c.members.ensures ∙ ap members_of c.in-Ok.ensures.own)
    ∙ members_keep i inside (subst IsImage c.image.view_is c.image.invariant) (take c.args.cycles c.args.list.now) in
    let stands : StandsFor own c.in_ok-items.items c.follow.new.self =
    subst (λ (xs : List ℕ). StandsFor own xs c.follow.new.self) c.items-2.ensures.items
    (went_from_start own c.in_ok-machine.machine c.follow.new.self _ c.in_ok-machine.ensures.stands
    c.follow.ensures.goes) in
    ends_written _ _ _ _
    (c.in-Ok.ensures.stand, ap (λ (j : Image). report_after g.M.Inspect.tells j c.in_ok-items.items) c.in-Ok.ensures.own ∙ ap (report_after g.M.Inspect.tells (worlds.alone i inside)) items)
    _ _ c.ended.ensures (reported g.M.Inspect.tells own c.in_ok-items.items c.follow.new.self stands c.report.ensures.counts)
