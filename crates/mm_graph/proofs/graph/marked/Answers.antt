use Rattle.std.proofs.Common.{◌≡◌, length, sym, subst, arith}
use Rattle.mm_graph.{specs.{Masks.meaning, Marked.IsMarked}, proofs.Conclusion.{marked_all, whole}}
use Rattle.mm_graph.proofs.graph.marked.Goals as goal

pub returns : goal.returns
returns c =
    let reach = rw (c.deref.ensures.value, c.deref-2.ensures.value, c.deref-3.ensures.value, c.deref_mut.ensures.value) at c.in_ok-saturate.ensures.reach in
    let len : length c.saturate.new.marks ≡ c.in_ok-graph.graph.start.len = (let l = reach.len in let ok = c.in_ok-graph.graph.start.ok.0 in omega arith) in
    subst (IsMarked c.args.img.now (meaning c.args.entries.now) c.in_ok-graph.graph.keys.items c.in_ok-graph.graph.nodes.items) (sym (whole c.saturate.new.marks _ c.in_ok-graph.graph.start.len len))
    (marked_all c.args.img.now (meaning c.args.entries.now) c.in_ok-graph.graph.keys.items
    c.in_ok-graph.graph.nodes.items c.in_ok-graph.graph.targets.items c.in_ok-graph.graph.parents.items
    c.in_ok-graph.graph.links c.in_ok-graph.graph.start.items c.saturate.new.marks
    c.requires c.in_ok-graph.ensures.built reach c.in_ok-saturate.ensures.fits)
