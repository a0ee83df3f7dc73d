use Rattle.std.proofs.Common.{refl, subst}
use Rattle.mm_graph.{specs.{declared.seed.Seed.Seed, Masks.IsEntrySeed}, proofs.EntryMasks.zip_more}
use Rattle.mm_graph.proofs.entries.seeds_of.Goals as goal

pub loop-entry-preserved : goal.loop-entry-preserved
loop-entry-preserved c =
    let s : Seed = record { group = c.entry-item.result.0; key = c.of-key.result } in
    let r : IsEntrySeed c.entry-item.result (record { group = c.entry-item.result.0; key = c.of-key.result }) =
    record { group = refl; pointer = c.of-key.ensures.again; key = c.of-key.ensures.value } in
    rw c.in_ok-push.ensures.items (zip_more IsEntrySeed c.args.list.now c.loop-entry.seeds.items c.loop-entry.entry-index c.entry-item.result _ c.loop-entry-test.true c.loop-entry.invariant
    (subst (λ v. IsEntrySeed v (record { group = c.entry-item.result.0; key = c.of-key.result })) c.entry-item.is r))
