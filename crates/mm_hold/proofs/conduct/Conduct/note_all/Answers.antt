use Rattle.std.proofs.Common.{◌+◌, ◌∷◌, [], take, subst}
use Rattle.std.proofs.lemmas.List.{take_all}
use Rattle.mm_hold.specs.Conducts.{Notes}
use Rattle.mm_hold.proofs.{Noted.{notes_none, notes_more}, Sets.take_item}
use Rattle.mm_hold.proofs.conduct.Conduct.note_all.Goals as goal

pub loop-deed-init : goal.loop-deed-init
loop-deed-init c = notes_none c.args.self.now

pub loop-deed-preserved : goal.loop-deed-preserved
loop-deed-preserved c =
    let l = c.loop-deed in
    let xs = c.args.deeds.now in
    notes_more (take l.deed-index xs) (c.deed-item.result ∷ []) (take (l.deed-index + 1) xs) c.args.self.now l.self c.note.new.self
    (take_item xs l.deed-index c.deed-item.result c.loop-deed-test.true c.deed-item.is) l.invariant c.in_ok-note.ensures

pub returns : goal.returns
returns c = subst (λ l. Notes l c.args.self.now c.loop-deed.self) (take_all c.loop-deed.deed-index c.args.deeds.now c.loop-deed-test.false) c.loop-deed.invariant
