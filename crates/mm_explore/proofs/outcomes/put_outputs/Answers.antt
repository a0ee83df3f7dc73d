use Rattle.std.proofs.Common.{◌≡◌, ◌++◌, ◌∷◌, [], ℕ, List, map, zip, slice_get, slice_index_or, Some, ap, ◌∙◌, arith}
use Rattle.std.proofs.lemmas.{List.length-map, Option.{slice_get-map, slice_get-get_or}, Slice.Zip.length-zip}
use Rattle.std.specs.Prelude.{option_map}
use Rattle.indexmap.proofs.ReorderLemmas.{slice_get-zip_some}
use Rattle.mm_model.specs.State.{output_of}
use Rattle.mm_explore.{specs.Finds.as_output, proofs.Readings.{one_item, all_items}}
use Rattle.mm_explore.proofs.outcomes.put_outputs.Goals as goal

pub loop-group-preserved : goal.loop-group-preserved
loop-group-preserved c =
    let core = c.args.core.now in
    let groups = c.args.groups.now in
    let outputs : List (List ℕ) = map (output_of core) groups in
    let l = c.loop-group in
    let g = slice_index_or groups l.group-index 0 in
    let lt = c.loop-group-test.true in
    let there : slice_get groups l.group-index ≡ Some g = slice_get-get_or groups l.group-index 0 lt in
    let output = slice_get-map (output_of core) groups l.group-index ∙ ap (option_map (output_of core)) there in
    let both = slice_get-map as_output (zip groups outputs) l.group-index ∙ ap (option_map as_output) (slice_get-zip_some groups outputs l.group-index g (output_of core g) there output) in
    one_item c.args.out.now.items l.out.items c.push.new.self.items (map as_output (zip groups outputs)) l.group-index (as_output (g, output_of core g))
    l.invariant both (c.in_ok-push.ensures.items ∙ ap (λ (bytes : List ℕ). l.out.items ++ (record { group = g; bytes = bytes }) ∷ []) (c.in_ok-bytes.ensures.items ∙ c.output.ensures.bytes))

pub returns : goal.returns
returns c =
    let core = c.args.core.now in
    let groups = c.args.groups.now in
    let outputs : List (List ℕ) = map (output_of core) groups in
    let long = length-map (zip groups outputs) as_output in
    let zips = length-zip groups outputs in
    let many = length-map groups (output_of core) in
    let end = c.loop-group-test.false in
    all_items c.args.out.now.items c.loop-group.out.items (map as_output (zip groups outputs)) c.loop-group.group-index c.loop-group.invariant (omega (arith, long, zips, many, end))
