use Rattle.std.proofs.Common.{slice_index, ap, ◌∙◌, sym, subst}
use Rattle.mm_hold.specs.declared.parties.Parties.{Parties}
use Rattle.mm_hold.specs.{Parties.Is, Passing.Runs}
use Rattle.mm_hold.proofs.{Passes.door_runs, Meeting.sets_same}
use Rattle.mm_hold.proofs.passing.running_door.Goals as goal

pub returns-in-Some : goal.returns-in-Some
returns-in-Some c =
    let i = c.args.kernel.now.image in
    let kept = c.args.kernel.now.kept in
    let keys = c.args.keys.now in
    let m = c.args.marks.now in
    let k = c.in-Some.node in
    let own : Parties = record { groups = slice_index m.groups.items k; slots = 0 } in
    let same = sets_same c.groups_alone.result own (c.groups_alone.ensures.groups ∙ ap (λ (p : Parties). p.groups) c.at.ensures) c.groups_alone.ensures.slots in
    subst (λ (p : Parties). Is p (Runs i kept keys m (0, c.args.bits))) (sym same) (door_runs i kept keys m c.requires.keys c.requires.rising c.args.bits k c.in-Some.ensures)
