use Rattle.std.proofs.Common.{◌≡◌, ap, ◌∙◌, subst}
use Rattle.mm_model.specs.{Image.Image, Spelling.IsImage}
use Rattle.mm_graph.specs.Nodes.{IsKeysOf, IsTargets}
use Rattle.mm_hold.specs.{Finding.{cell_found, pages_with}, Graphs.found_of}
use Rattle.mm_hold.proofs.Graphed.{places_are}
use Rattle.mm_hold.proofs.graph.places_of.Goals as goal

pub returns-clause-places : goal.returns-clause-places
returns-clause-places c =
    let i = c.args.kernel.now.image in
    let kept = c.args.kernel.now.kept in
    let keys = c.in_ok-keys.keys.items in
    let targets = c.in_ok-keys.targets.items in
    let pages = c.pages.ensures.pages ∙ ap (λ (v : Image). v.memory.pages) c.image.ensures in
    let found : c.in_ok-found.found.items ≡ found_of i kept =
    c.in_ok-found.ensures.items ∙ ap (λ k. pages_with (cell_found k) c.pages.result.now) c.kept.ensures ∙ ap (pages_with (cell_found kept)) pages in
    places_are i kept (subst IsImage c.image.ensures c.pages.ensures.image) c.args.seeds.items c.in_ok-found.found.items keys targets found
    (subst (λ l. IsKeysOf l c.args.seeds.items keys) c.deref.ensures.value
    (subst (λ l. IsKeysOf c.deref.result.now l keys) c.deref-2.ensures.value c.in_ok-keys.ensures.keys))
    (subst (λ l. IsTargets keys l targets) c.deref.ensures.value c.in_ok-keys.ensures.targets)
