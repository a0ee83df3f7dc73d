use Rattle.std.proofs.Common.{List, subst}
use Rattle.mm_model.specs.{Spelling.IsImage}
use Rattle.mm_graph.specs.declared.canonical_ptr.CanonicalPtr.{CanonicalPtr}
use Rattle.mm_hold.specs.declared.rounds.Passes.{Passes}
use Rattle.mm_hold.specs.Conducts.{AreAll}
use Rattle.mm_hold.specs.Graphs.{BehindAt, HandedAt}
use Rattle.mm_hold.proofs.Passed.{passes_are, parts_are}
use Rattle.mm_hold.proofs.rounds.passes_of.Goals as goal

pub returns-clause-passes : goal.returns-clause-passes
returns-clause-passes c =
    let i = c.args.kernel.now.image in
    let kept = c.args.kernel.now.kept in
    let k = c.args.conduct.now in
    let p : Passes = record { sharing = c.sharing_of.result; behind = c.in_ok-behind.behind; sent = c.in_ok-sent.sent; given = c.in_ok-given.given } in
    passes_are i kept (subst IsImage c.image.ensures c.slots-slots.ensures.image) c.requires.keeps k c.requires.conduct c.args.graph.now c.requires.shape c.requires.has p
    c.sharing_of.ensures
    (subst (λ (l : List CanonicalPtr). AreAll (BehindAt kept l k.has.keys) p.behind.items) c.deref.ensures.value c.in_ok-behind.ensures)
    (subst (λ (l : List CanonicalPtr). AreAll (HandedAt kept l k.sent.keys) p.sent.items) c.deref-2.ensures.value c.in_ok-sent.ensures)
    (subst (λ (l : List CanonicalPtr). AreAll (HandedAt kept l k.given.keys) p.given.items) c.deref-3.ensures.value c.in_ok-given.ensures)

pub returns-clause-parts : goal.returns-clause-parts
returns-clause-parts c =
    let i = c.args.kernel.now.image in
    let kept = c.args.kernel.now.kept in
    let k = c.args.conduct.now in
    let p : Passes = record { sharing = c.sharing_of.result; behind = c.in_ok-behind.behind; sent = c.in_ok-sent.sent; given = c.in_ok-given.given } in
    parts_are i kept (subst IsImage c.image.ensures c.slots-slots.ensures.image) c.requires.keeps k c.requires.conduct c.args.graph.now c.requires.shape c.requires.has p
    (subst (λ (l : List CanonicalPtr). AreAll (BehindAt kept l k.has.keys) p.behind.items) c.deref.ensures.value c.in_ok-behind.ensures)
    (subst (λ (l : List CanonicalPtr). AreAll (HandedAt kept l k.sent.keys) p.sent.items) c.deref-2.ensures.value c.in_ok-sent.ensures)
    (subst (λ (l : List CanonicalPtr). AreAll (HandedAt kept l k.given.keys) p.given.items) c.deref-3.ensures.value c.in_ok-given.ensures)
