use Rattle.std.proofs.Common.{◌≡◌, ◌<◌, length, slice_index_or, sym, ap, ◌∙◌, subst}
use Rattle.mm_why.{specs.Searches.stage_of, proofs.{GraphFacts.slot_of, Searched.slots_more}}
use Rattle.mm_why.proofs.search.Search.reach_slots.Goals as goal

pub loop-k-preserved : goal.loop-k-preserved
loop-k-preserved c =
    let e = c.slots-slots.ensures.slots in
    let small : c.loop-k.k < length c.args.image.now.slots = subst (λ v. c.loop-k.k < length v) e c.loop-k-test.true in
    let is : slice_index_or c.args.image.now.slots c.loop-k.k c.index-slots-k.result ≡ c.index-slots-k.result = ap
    (λ v. slice_index_or v c.loop-k.k c.index-slots-k.result) (sym e) ∙ sym c.index-slots-k.is in
    slots_more c.args.image.now c.args.keys.now c.args.group c.loop-k.k c.index-slots-k.result (stage_of c.args.self.now) (stage_of c.loop-k.self)
    (stage_of c.reach_own_slot.new.self) small is c.loop-k.invariant
    (c.in_ok-reach_own_slot.ensures.placed c.args.image.now (slot_of c.args.image.now c.requires.image c.index-slots-k.result (c.loop-k.k, small, is)) c.loop-k.invariant.advances.now)
