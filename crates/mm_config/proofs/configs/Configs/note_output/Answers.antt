use Rattle.std.proofs.Common.{◌-◌, ◌≤◌, ◌∙◌, sym, ap, subst, length, slice_set, slice_index_or}
use Rattle.mm_pairs.specs.Trees.{leaves, HasLeaves}
use Rattle.mm_config.{specs.Naming.leaf_at, proofs.OneNote.{short_name, output_noted}}
use Rattle.mm_config.proofs.configs.Configs.note_output.Goals as goal

pub longer-requires : goal.longer-requires
longer-requires c =
    let me = c.args.self.now in
    let short = c.leaf-shorter.ensures ∙ ap (leaf_at me.store.pairs 6 me.names.outputs) c.from-place.ensures in
    subst (λ n. n ≤ length me.store.outputs) (sym short) (short_name c.args.group c.args.before me c.requires)

pub returns : goal.returns
returns c =
    let me = c.args.self.now in
    let g = c.args.group in
    let out = c.output-output.result.now in
    let byte = slice_index_or out (length out - 1) 0 in
    let name = c.in_ok-name.name in
    let tree = c.in_ok-self.field-0 in
    let pairs = c.with_leaf.new.self in
    let short = c.leaf-shorter.ensures ∙ ap (leaf_at me.store.pairs 6 me.names.outputs) c.from-place.ensures in
    output_noted g c.args.before me c.requires byte c.leaf-shorter.result name tree c.longer.new.self pairs
    (λ same. c.if-output-before.false (ap length c.output-output.ensures.bytes ∙ same)) (ap (λ l. slice_index_or l (length l - 1) 0) c.output-output.ensures.bytes) short
    c.in_ok-name.ensures.name c.in_ok-name.ensures.rises c.in_ok-name.ensures.grown
    (subst (λ n. HasLeaves pairs 6 tree (slice_set (leaves me.store.pairs 6 me.names.outputs) n name)) c.from-place.ensures c.in_ok-self.ensures.leaves) c.in_ok-self.ensures.grown
