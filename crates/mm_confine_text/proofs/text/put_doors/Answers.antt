use Rattle.std.proofs.Common.{rules, ◌++◌, [], ◌∷◌, take, refl, sym, ap, subst}
use Rattle.std.{proofs.lemmas.{Grind.flat_map-append, List.take_all}}
use Rattle.mm_text.proofs.Appending.{appends_then, appends_same}
use Rattle.mm_kernel.specs.declared.thread.Origin.{Origin}
use Rattle.mm_keep_text.specs.Told.{Party}
use Rattle.mm_confine_text.specs.{Found.HeldOf, Parts.origins_of, Told.door_line}
use Rattle.mm_confine_text.proofs.Texts.{held_then, origins_more}
use Rattle.mm_confine_text.proofs.text.put_doors.Goals as goal

pub loop-party-init : goal.loop-party-init
loop-party-init g c = ([], search rules, λ i kept are. refl)

pub loop-party-preserved : goal.loop-party-preserved
loop-party-preserved g c =
    let (doors, wrote, held) = c.loop-party.invariant in
    let (more, then, also) = c.put_if_held.ensures in
    let parties = c.args.parties.now in
    let n = c.loop-party.party-index in
    let one = c.party-item.result in (
      doors ++ more,
      appends_same (appends_then wrote then) (sym (flat_map-append door_line doors more)),
      λ i kept are.
          subst (λ os. HeldOf i kept c.args.group os (doors ++ more)) (sym (origins_more i kept parties n one c.loop-party-test.true c.party-item.is))
          (held_then i kept c.args.group (origins_of (take n parties)) (one.origin ∷ []) doors more (held i kept are) (subst (λ (o : Origin). HeldOf i kept c.args.group (o ∷ []) more) (ap (λ (p : Party). p.origin) c.party.view_is) (also i kept are))),
    )

pub returns : goal.returns
returns g c =
    let (doors, wrote, held) = c.loop-party.invariant in
    (doors, wrote, λ i kept are. subst (λ ps. HeldOf i kept c.args.group (origins_of ps) doors) (take_all c.loop-party.party-index c.args.parties.now c.loop-party-test.false) (held i kept are))
