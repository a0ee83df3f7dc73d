use Rattle.std.proofs.Common.{◌∷◌, [], bit_or, sym, ap, ◌∙◌, subst}
use Rattle.mm_hold.specs.declared.{deed.Deed.Deed}
use Rattle.mm_hold.specs.Conducts.{Notes, origin_from}
use Rattle.mm_hold.proofs.Noted.{spelled, noted_has, noted_stored, noted_loaded, noted_sent, noted_given, noted_sends, noted_gives, noted_sees, noted_goes}
use Rattle.mm_hold.proofs.conduct.Conduct.note.Goals as goal

pub returns-in_ok-insert-in-Has : goal.returns-in_ok-insert-in-Has
returns-in_ok-insert-in-Has c =
    let x = c.args.self.now in
    let n = c.origin_numbers in
    let b = c.bits in
    subst (λ (d : Deed). Notes (d ∷ []) x (record x { has = c.insert.new.self })) (sym c.in-Has.is)
    (noted_has x c.insert.new.self c.in-Has.origin c.in-Has.p n.result b.result n.ensures.is b.ensures.bits
    (ap origin_from (sym n.ensures.is) ∙ n.ensures.again, spelled c.in-Has.p b.result b.ensures.bits b.ensures.spells b.ensures.again) c.in_ok-insert-in-Has.ensures.keys)

pub returns-in_ok-insert-in-Stored : goal.returns-in_ok-insert-in-Stored
returns-in_ok-insert-in-Stored c =
    let x = c.args.self.now in
    let n = c.origin_numbers-in-Stored in
    subst (λ (d : Deed). Notes (d ∷ []) x (record x { stored = c.insert-in-Stored.new.self })) (sym c.in-Stored.is)
    (noted_stored x c.insert-in-Stored.new.self c.in-Stored.word c.in-Stored.origin n.result n.ensures.is
    (ap origin_from (sym n.ensures.is) ∙ n.ensures.again) c.in_ok-insert-in-Stored.ensures.keys)

pub returns-in_ok-insert-in-Loaded : goal.returns-in_ok-insert-in-Loaded
returns-in_ok-insert-in-Loaded c =
    let x = c.args.self.now in
    let n = c.origin_numbers-in-Loaded in
    subst (λ (d : Deed). Notes (d ∷ []) x (record x { loaded = c.insert-in-Loaded.new.self })) (sym c.in-Loaded.is)
    (noted_loaded x c.insert-in-Loaded.new.self c.in-Loaded.word c.in-Loaded.origin n.result n.ensures.is
    (ap origin_from (sym n.ensures.is) ∙ n.ensures.again) c.in_ok-insert-in-Loaded.ensures.keys)

pub returns-in_ok-insert-in-Sent : goal.returns-in_ok-insert-in-Sent
returns-in_ok-insert-in-Sent c =
    let x = c.args.self.now in
    let b = c.bits-in-Sent in
    subst (λ (d : Deed). Notes (d ∷ []) x (record x { sent = c.insert-in-Sent.new.self })) (sym c.in-Sent.is)
    (noted_sent x c.insert-in-Sent.new.self c.in-Sent.slot b.result c.in-Sent.p b.ensures.bits
    (spelled c.in-Sent.p b.result b.ensures.bits b.ensures.spells b.ensures.again) c.in_ok-insert-in-Sent.ensures.keys)

pub returns-in_ok-insert-in-Given : goal.returns-in_ok-insert-in-Given
returns-in_ok-insert-in-Given c =
    let x = c.args.self.now in
    let b = c.bits-in-Given in
    subst (λ (d : Deed). Notes (d ∷ []) x (record x { given = c.insert-in-Given.new.self })) (sym c.in-Given.is)
    (noted_given x c.insert-in-Given.new.self c.in-Given.slot b.result c.in-Given.p b.ensures.bits
    (spelled c.in-Given.p b.result b.ensures.bits b.ensures.spells b.ensures.again) c.in_ok-insert-in-Given.ensures.keys)

pub returns-in-Sends : goal.returns-in-Sends
returns-in-Sends c =
    let x = c.args.self.now in
    subst (λ (d : Deed). Notes (d ∷ []) x (record x { senders = bit_or x.senders c.mask_of.result })) (sym c.in-Sends.is) (noted_sends x c.in-Sends.slot c.mask_of.result c.mask_of.ensures)

pub returns-in-Gives : goal.returns-in-Gives
returns-in-Gives c =
    let x = c.args.self.now in
    subst (λ (d : Deed). Notes (d ∷ []) x (record x { givers = bit_or x.givers c.mask_of-in-Gives.result })) (sym c.in-Gives.is) (noted_gives x c.in-Gives.slot c.mask_of-in-Gives.result c.mask_of-in-Gives.ensures)

pub returns-in-Sees : goal.returns-in-Sees
returns-in-Sees c =
    let x = c.args.self.now in
    subst (λ (d : Deed). Notes (d ∷ []) x (record x { seeing = bit_or x.seeing c.mask_of-in-Sees.result })) (sym c.in-Sees.is) (noted_sees x c.in-Sees.slot c.mask_of-in-Sees.result c.mask_of-in-Sees.ensures)

pub returns-in-GoesOn : goal.returns-in-GoesOn
returns-in-GoesOn c =
    let x = c.args.self.now in
    subst (λ (d : Deed). Notes (d ∷ []) x (record x { freed = bit_or x.freed c.mask_of-in-GoesOn.result })) (sym c.in-GoesOn.is) (noted_goes x c.in-GoesOn.slot c.mask_of-in-GoesOn.result c.mask_of-in-GoesOn.ensures)
