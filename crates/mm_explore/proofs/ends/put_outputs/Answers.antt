use Rattle.std.proofs.Common.{◌≡◌, ◌++◌, map, slice_get, slice_index_or, Some, ap, ◌∙◌, arith}
use Rattle.std.proofs.lemmas.{List.length-map, Option.{slice_get-map, slice_get-get_or}}
use Rattle.std.specs.Prelude.{option_map}
use Rattle.mm_model.specs.State.{output_of}
use Rattle.mm_explore.{specs.Noting.bytes_form, proofs.Readings.{some_items, all_some}}
use Rattle.mm_explore.proofs.ends.put_outputs.Goals as goal

pub loop-group-preserved : goal.loop-group-preserved
loop-group-preserved c =
    let core = c.args.core.now in
    let groups = c.args.groups.now in
    let l = c.loop-group in
    let g = slice_index_or groups l.group-index 0 in
    let lt = c.loop-group-test.true in
    let there : slice_get groups l.group-index ≡ Some g = slice_get-get_or groups l.group-index 0 lt in
    let output = slice_get-map (output_of core) groups l.group-index ∙ ap (option_map (output_of core)) there in
    some_items bytes_form c.args.key.now.items l.key.items c.put_output.new.key.items (map (output_of core) groups) l.group-index (output_of core g)
    l.invariant output (c.in_ok-put_output.ensures ∙ ap (λ bytes. l.key.items ++ bytes_form bytes) c.output.ensures.bytes)

pub returns : goal.returns
returns c =
    let core = c.args.core.now in
    let groups = c.args.groups.now in
    let long = length-map groups (output_of core) in
    let end = c.loop-group-test.false in
    all_some bytes_form c.args.key.now.items c.loop-group.key.items (map (output_of core) groups) c.loop-group.group-index c.loop-group.invariant (omega (arith, long, end))
