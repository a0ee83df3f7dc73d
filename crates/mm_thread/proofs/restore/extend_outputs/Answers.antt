use Rattle.std.proofs.Common.{◌+◌, ◌<◌, ◌≤◌, ◌++◌, ◌∷◌, length, map, take, drop, sym, ap, ◌∙◌, arith}
use Rattle.std.proofs.lemmas.List.{at_drop_more}
use Rattle.mm_model.specs.State.{Core, output_of, put_output}
use Rattle.mm_thread.specs.Revisions.{with_outputs, Extension, extension}
use Rattle.mm_thread.proofs.Revised.{each_at, length-put_output}
use Rattle.mm_thread.proofs.restore.extend_outputs.Goals as goal

pub extend_output-requires-clause-group : goal.extend_output-requires-clause-group
extend_output-requires-clause-group c =
    let one = each_at extension (λ (x : Extension). (x.group < 64) × (x.kept + length x.bytes ≤ 65536)) c.args.outputs.now c.loop-group.group-index c.loop-group-item.result c.requires.short (omega arith) c.loop-group-item.is in
    omega (arith, one.0, c.loop-group.invariant.groups)

pub extend_output-requires-clause-room : goal.extend_output-requires-clause-room
extend_output-requires-clause-room c =
    let one = each_at extension (λ (x : Extension). (x.group < 64) × (x.kept + length x.bytes ≤ 65536)) c.args.outputs.now c.loop-group.group-index c.loop-group-item.result c.requires.short (omega arith) c.loop-group-item.is in
    omega (arith, one.1, ap length c.deref.ensures.value)

pub loop-group-preserved : goal.loop-group-preserved
loop-group-preserved c =
    let l = c.loop-group in
    let x = c.loop-group-item.result in
    let step = at_drop_more (λ xs. with_outputs (map extension xs) l.tables) c.args.outputs.now l.group-index x (omega arith) in
    record {
      groups = omega (arith, ap (λ (k : Core). length k.outputs) c.extend_output.ensures ∙ length-put_output l.tables _ _, l.invariant.groups);
      rest =
          ap (with_outputs (map extension (drop (l.group-index + 1) c.args.outputs.now)))
          (c.extend_output.ensures ∙ ap (λ bytes. put_output l.tables x.0 (take x.1 (output_of l.tables x.0) ++ bytes)) c.deref.ensures.value)
          ∙ ap (λ y. with_outputs (map extension (y ∷ drop (l.group-index + 1) c.args.outputs.now)) l.tables) c.loop-group-item.is
          ∙ sym step ∙ l.invariant.rest;
    }
