use Rattle.std.proofs.Common.{◌≡◌, ◌∙◌, ap, sym, get_or, ◌++◌, take, length, subst, ◌<◌}
use Rattle.std.{proofs.lemmas.List.get_or_append_left, specs.{Option.option_to_list, List.filter_map}}
use Rattle.mm_graph.{specs.Key.entry_key, proofs.{Lists.grown, KeyLists.filter_map-more}}
use Rattle.mm_graph.proofs.keys.add_entries.Goals as goal

pub loop-k-preserved : goal.loop-k-preserved
loop-k-preserved c =
    let d = c.index-key.result.now in
    let lt : c.loop-k.k < length c.args.keys.now.items = subst (λ v. c.loop-k.k < v) c.loop-k.invariant.1 c.loop-k-test.true in
    let read : c.index-key.result.now ≡ get_or c.args.keys.now.items c.loop-k.k c.index-key.result.now =
    c.index-key.ensures ∙ ap (λ v. get_or v c.loop-k.k c.index-key.result.now) c.loop-k.invariant.0
    ∙ get_or_append_left c.args.keys.now.items (filter_map entry_key (take c.loop-k.k c.args.keys.now.items)) c.index-key.result.now c.loop-k.k lt in
    let more = filter_map-more entry_key c.args.keys.now.items c.loop-k.k c.index-key.result.now lt in (
      grown c.args.keys.now.items c.loop-k.keys.items c.add_entry.new.keys.items
          (filter_map entry_key (take c.loop-k.k c.args.keys.now.items))
          (option_to_list (entry_key c.index-key.result.now)) _ c.loop-k.invariant.0 c.in_ok-add_entry.ensures
          (more ∙ ap (λ v. filter_map entry_key (take c.loop-k.k c.args.keys.now.items) ++ option_to_list (entry_key v)) (sym read)),
      c.loop-k.invariant.1,
    )
