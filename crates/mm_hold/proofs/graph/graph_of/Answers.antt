use Rattle.std.proofs.Common.{◌++◌, ap, ◌∙◌, subst}
use Rattle.std.proofs.lemmas.Result.{IfOk-weaker}
use Rattle.std.specs.List.{flat_map}
use Rattle.mm_model.specs.{Image.Image, Spelling.IsImage}
use Rattle.mm_hold.specs.Finding.{caller_seeds}
use Rattle.mm_hold.proofs.{Graphed.{graph_is, graph_shaped}, Begun.begun_by}
use Rattle.mm_hold.proofs.graph.graph_of.Goals as goal

pub returns-clause-shape : goal.returns-clause-shape
returns-clause-shape c =
    let img = subst IsImage c.image.ensures c.slots.ensures.image in
    IfOk-weaker c.start_of.result _ _ (λ s h. graph_shaped c.args.kernel.now.image c.args.kernel.now.kept img (c.deref.result.now ++ c.deref-2.result.now) s.graph h.built) c.start_of.ensures

pub returns-clause-graph : goal.returns-clause-graph
returns-clause-graph c =
    let img = subst IsImage c.image.ensures c.slots.ensures.image in
    IfOk-weaker c.start_of.result _ _ (λ s h. graph_is c.args.kernel.now.image c.args.kernel.now.kept img (c.deref.result.now ++ c.deref-2.result.now) s.graph h.built) c.start_of.ensures

pub returns-clause-had : goal.returns-clause-had
returns-clause-had c =
    let i = c.args.kernel.now.image in
    let kept = c.args.kernel.now.kept in
    let img = subst IsImage c.image.ensures c.slots.ensures.image in
    let own = c.slots.ensures.slots ∙ ap (λ (v : Image). v.slots) c.image.ensures in
    let callers = c.deref.ensures.value ∙ c.in_ok-of_callers.ensures.items ∙ ap (λ k. flat_map (caller_seeds k) c.slots.result.now) c.kept.ensures ∙ ap (flat_map (caller_seeds kept)) own in
    let threads = c.deref-2.ensures.value ∙ c.in_ok-of_threads.ensures.items in
    IfOk-weaker c.start_of.result _ _ (λ s h. (begun_by i kept img c.args.conduct.now c.requires c.deref.result.now c.deref-2.result.now callers threads s h).had) c.start_of.ensures

pub returns-clause-size : goal.returns-clause-size
returns-clause-size c =
    let i = c.args.kernel.now.image in
    let kept = c.args.kernel.now.kept in
    let img = subst IsImage c.image.ensures c.slots.ensures.image in
    let own = c.slots.ensures.slots ∙ ap (λ (v : Image). v.slots) c.image.ensures in
    let callers = c.deref.ensures.value ∙ c.in_ok-of_callers.ensures.items ∙ ap (λ k. flat_map (caller_seeds k) c.slots.result.now) c.kept.ensures ∙ ap (flat_map (caller_seeds kept)) own in
    let threads = c.deref-2.ensures.value ∙ c.in_ok-of_threads.ensures.items in
    IfOk-weaker c.start_of.result _ _ (λ s h. (begun_by i kept img c.args.conduct.now c.requires c.deref.result.now c.deref-2.result.now callers threads s h).size) c.start_of.ensures

pub returns-clause-sound : goal.returns-clause-sound
returns-clause-sound c =
    let i = c.args.kernel.now.image in
    let kept = c.args.kernel.now.kept in
    let img = subst IsImage c.image.ensures c.slots.ensures.image in
    let own = c.slots.ensures.slots ∙ ap (λ (v : Image). v.slots) c.image.ensures in
    let callers = c.deref.ensures.value ∙ c.in_ok-of_callers.ensures.items ∙ ap (λ k. flat_map (caller_seeds k) c.slots.result.now) c.kept.ensures ∙ ap (flat_map (caller_seeds kept)) own in
    let threads = c.deref-2.ensures.value ∙ c.in_ok-of_threads.ensures.items in
    IfOk-weaker c.start_of.result _ _ (λ s h. (begun_by i kept img c.args.conduct.now c.requires c.deref.result.now c.deref-2.result.now callers threads s h).sound) c.start_of.ensures

pub returns-clause-started : goal.returns-clause-started
returns-clause-started c =
    let i = c.args.kernel.now.image in
    let kept = c.args.kernel.now.kept in
    let img = subst IsImage c.image.ensures c.slots.ensures.image in
    let own = c.slots.ensures.slots ∙ ap (λ (v : Image). v.slots) c.image.ensures in
    let callers = c.deref.ensures.value ∙ c.in_ok-of_callers.ensures.items ∙ ap (λ k. flat_map (caller_seeds k) c.slots.result.now) c.kept.ensures ∙ ap (flat_map (caller_seeds kept)) own in
    let threads = c.deref-2.ensures.value ∙ c.in_ok-of_threads.ensures.items in
    IfOk-weaker c.start_of.result _ _ (λ s h. (begun_by i kept img c.args.conduct.now c.requires c.deref.result.now c.deref-2.result.now callers threads s h).started) c.start_of.ensures
