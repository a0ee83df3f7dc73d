use Rattle.std.proofs.Common.{◌++◌, ◌∷◌, [], ℕ, map, take, slice_index_or, sym, ap, ◌∙◌, subst}
use Rattle.std.proofs.lemmas.List.{take_more, take_all, map-append}
use Rattle.std.specs.List.{AllZip}
use Rattle.mm_thread.specs.Revisions.{Extension, extension}
use Rattle.mm_config.specs.Reads.{IsOutputRead}
use Rattle.mm_config.proofs.Zips.{zip_more}
use Rattle.mm_config.proofs.changes.take_outputs.Goals as goal

pub loop-group-init : goal.loop-group-init
loop-group-init c = subst (λ l. AllZip (IsOutputRead c.args.store.now c.args.core.now) [] (map extension l)) (sym c.clear.ensures.items) tt

pub loop-group-preserved : goal.loop-group-preserved
loop-group-preserved c =
    let k = c.args.store.now in
    let core = c.args.core.now in
    let changes = c.args.changes.now in
    let l = c.loop-group in
    let i = l.group-index in
    let e : ℕ × ℕ = slice_index_or changes i (0, 0) in
    let x : Extension = record { group = e.0; kept = c.in_ok-kept.kept; bytes = c.in_ok-kept.bytes.items } in
    let more = zip_more (IsOutputRead k core) (take i changes) (map extension l.outputs.items) e x l.invariant c.in_ok-kept.ensures in
    subst (λ es. AllZip (IsOutputRead k core) es (map extension c.push.new.self.items)) (sym (take_more changes i (0, 0) c.loop-group-test.true))
    (subst (AllZip (IsOutputRead k core) (take i changes ++ e ∷ []))
    (sym (ap (map extension) c.in_ok-push.ensures.items ∙ map-append extension l.outputs.items ((e.0, c.in_ok-kept.kept, c.in_ok-kept.bytes) ∷ []))) more)

pub returns : goal.returns
returns c =
    subst (λ l. AllZip (IsOutputRead c.args.store.now c.args.core.now) l (map extension c.loop-group.outputs.items)) (take_all c.loop-group.group-index c.args.changes.now c.loop-group-test.false)
    c.loop-group.invariant
