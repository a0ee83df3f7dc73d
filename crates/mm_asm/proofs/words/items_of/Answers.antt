use Rattle.std.proofs.{Common.{ℕ, ◌++◌, ◌∷◌, [], List, ap, ◌∙◌, sym}, lemmas.List.take_all}
use Rattle.mm_object.specs.declared.item.Item.{Item}
use Rattle.mm_asm.proofs.{Built.{numbered, numbered_appended}, BuiltNumbered.{item_at, items_are}, LateWords.fits_at}
use Rattle.mm_asm.proofs.words.items_of.Goals as goal

pub loop-k-preserved : goal.loop-k-preserved
loop-k-preserved c =
    let l = c.loop-k in
    let w = c.index-words-k.result in
    let one : ℕ → List Item = λ b. l.items.items ++ record { bits = b; full = w.full } ∷ [] in
    numbered_appended (item_at c.args.draft.now) l.items.items c.push.new.self.items c.args.words.now l.k w c.loop-k-test.true c.index-words-k.is l.invariant
    (c.in_ok-push.ensures.items ∙ ap one c.bits_of.ensures)

pub bits_of-requires : goal.bits_of-requires
bits_of-requires c = fits_at c.args.draft.now c.args.words.now c.loop-k.k c.index-words-k.result c.loop-k-test.true c.index-words-k.is c.requires

pub returns-clause-items : goal.returns-clause-items
returns-clause-items c =
    let l = c.loop-k in
    let d = c.args.draft.now in
    l.invariant ∙ ap (numbered (item_at d) 0) (take_all l.k c.args.words.now c.loop-k-test.false) ∙ sym (items_are d 0 c.args.words.now)
