use Rattle.std.proofs.Common.{◌≡◌, ◌≤◌, ◌++◌, ◌∷◌, [], ℕ, List, Vec, Global, map, take, length, slice_index_or, sym, ap, ◌∙◌}
use Rattle.std.proofs.lemmas.List.{take_more, take_all, map-append}
use Rattle.mm_model.{specs.declared.event.Event.Event, proofs.CoreRows.each_get}
use Rattle.mm_thread.specs.Revisions.{queue_in_place}
use Rattle.mm_pairs.specs.Named.{named}
use Rattle.mm_config.specs.{Forms.queue_from, Reads.queue_read}
use Rattle.mm_config.proofs.changes.take_queues.Goals as goal

pub loop-at-init : goal.loop-at-init
loop-at-init c = ap (map queue_in_place) c.clear.ensures.items

pub get-requires : goal.get-requires
get-requires c = each_get (λ (e : ℕ × ℕ). e.1 ≤ length c.args.lists.now) c.args.changes.now c.loop-at.at-index (0, 0) c.requires c.loop-at-test.true

pub loop-at-preserved : goal.loop-at-preserved
loop-at-preserved c =
    let lists = c.args.lists.now in
    let changes = c.args.changes.now in
    let l = c.loop-at in
    let i = l.at-index in
    let e : ℕ × ℕ = slice_index_or changes i (0, 0) in
    let x : ℕ × Vec Event Global = (e.0, c.take_events.new.events) in
    let read : c.take_events.new.events.items ≡ queue_from (named [] lists e.1) =
    c.in_ok-take_events.ensures ∙ ap (λ xs. xs ++ queue_from c.new.result) c.new-events.ensures.items ∙ ap queue_from (c.new.ensures ∙ c.get.ensures) in
    let last : queue_in_place x ∷ [] ≡ queue_read lists e ∷ [] = ap (λ (xs : List Event). let q : ℕ × List Event = (e.0, xs) in q ∷ []) read in
    let more = ap (map (queue_read lists)) (take_more changes i (0, 0) c.loop-at-test.true) ∙ map-append (queue_read lists) (take i changes) (e ∷ []) in
    ap (map queue_in_place) c.in_ok-push.ensures.items ∙ map-append queue_in_place l.queues.items (x ∷ []) ∙ (λ j. l.invariant j ++ last j) ∙ sym more

pub returns : goal.returns
returns c = c.loop-at.invariant ∙ ap (map (queue_read c.args.lists.now)) (take_all c.loop-at.at-index c.args.changes.now c.loop-at-test.false)
