use Rattle.std.proofs.Common.{rules, [], ◌∷◌, refl, sym, subst, append-nil}
use Rattle.mm_text.proofs.Appending.{appends_same}
use Rattle.mm_confine_text.specs.{Found.HeldOf, Told.door_line}
use Rattle.mm_confine_text.proofs.Texts.{held_one, held_none}
use Rattle.mm_confine_text.proofs.text.put_if_held.Goals as goal

pub returns-then-holds : goal.returns-then-holds
returns-then-holds g c =
    let d = c.in-Door.door in (
      d ∷ [],
      appends_same c.put_door.ensures (sym (append-nil (door_line d))),
      λ i kept are. subst (λ o. HeldOf i kept c.args.group (o ∷ []) (d ∷ [])) (sym c.in-Door.is) (held_one i kept c.args.group d ((c.holds.ensures i kept are).0 c.if-holds.true)),
    )

pub returns-else-holds : goal.returns-else-holds
returns-else-holds g c =
    let d = c.in-Door.door in (
      [],
      search rules,
      λ i kept are. subst (λ o. HeldOf i kept c.args.group (o ∷ []) []) (sym c.in-Door.is)
          (held_none i kept c.args.group d (λ h. let yes = (c.holds.ensures i kept are).1 h in let none = c.if-holds.false in absurd (cc))),
    )

pub returns-in-Slot : goal.returns-in-Slot
returns-in-Slot g c = ([], search rules, λ i kept are. subst (λ o. HeldOf i kept c.args.group (o ∷ []) []) (sym c.in-Slot.is) refl)
