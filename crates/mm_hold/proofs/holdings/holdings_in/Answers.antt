use Rattle.std.proofs.Common.{length, refl, sym, ap, ◌∙◌, subst}
use Rattle.std.specs.List.{All}
use Rattle.mm_model.specs.{Image.Image, Spelling.IsImage}
use Rattle.mm_graph.specs.Key.{IsKey, IsRising}
use Rattle.mm_audit.proofs.{HeldSpans.spans_of_marks, LeastTable.least_table}
use Rattle.mm_confine.specs.Reach.{Reaches}
use Rattle.mm_hold.specs.Holdings.{AreReached, AreDoorMarks}
use Rattle.mm_hold.proofs.Reaching.{are_marks, are_doors, reaches_small}
use Rattle.mm_hold.proofs.holdings.holdings_in.Goals as goal

pub reached-requires : goal.reached-requires
reached-requires c = let s = c.requires.exact.size in record { groups = refl; slots = s.slots ∙ sym s.groups }

pub door_marks-requires-clause-keys : goal.door_marks-requires-clause-keys
door_marks-requires-clause-keys c = subst (All IsKey) (sym c.deref.ensures.value) c.requires.exact.all

pub door_marks-requires-clause-size : goal.door_marks-requires-clause-size
door_marks-requires-clause-size c =
    ap length c.deref-2.ensures.value ∙ c.requires.exact.size.groups ∙ ap length (sym c.deref.ensures.value)

pub survey_of-requires-clause-rising : goal.survey_of-requires-clause-rising
survey_of-requires-clause-rising c = subst IsRising (sym c.deref-3.ensures.value) c.requires.exact.rising

pub survey_of-requires-clause-keys : goal.survey_of-requires-clause-keys
survey_of-requires-clause-keys c = subst (All IsKey) (sym c.deref-3.ensures.value) c.requires.exact.all

pub survey_of-requires-clause-nodes : goal.survey_of-requires-clause-nodes
survey_of-requires-clause-nodes c = ap length c.deref-4.ensures.value ∙ c.requires.exact.nodes_len ∙ ap length (sym c.deref-3.ensures.value)

pub survey_of-requires-clause-marks : goal.survey_of-requires-clause-marks
survey_of-requires-clause-marks c =
    ap length c.deref-5.ensures.value ∙ c.in_ok-reached.ensures.len ∙ c.requires.exact.size.groups ∙ ap length (sym c.deref-3.ensures.value)

pub returns : goal.returns
returns c =
    let i = c.args.kernel.now.image in
    let kept = c.args.kernel.now.kept in
    let keys = c.args.graph.keys.items in
    let nodes = c.args.graph.nodes.items in
    let m = c.args.marks in
    let x = c.requires.exact in
    let keeps = c.requires.keeps in
    let image : IsImage i = subst IsImage c.image.ensures c.slots-slots.ensures.image in
    let slots = c.slots-slots.ensures.slots ∙ ap (λ (v : Image). v.slots) c.image.ensures in
    let reached = c.in_ok-reached.reached.items in
    let r : AreReached i.slots m (length keys) reached =
    subst (λ n. AreReached i.slots m n reached) x.size.groups (subst (λ ss. AreReached ss m (length m.groups.items) reached) slots c.in_ok-reached.ensures) in
    let doors = c.in_ok-doors.doors.items in
    let d : AreDoorMarks kept keys m.groups.items (length keys) doors =
    subst (λ p. AreDoorMarks p keys m.groups.items (length keys) doors) c.kept.ensures
    (rw (c.deref.ensures.value, c.deref-2.ensures.value) at c.in_ok-doors.ensures) in
    let survey = c.in_ok-survey.survey in
    let are = spans_of_marks (Reaches i kept) keys nodes reached (are_marks i kept image keeps keys nodes m x reached r) survey.spans
    (rw (c.deref-3.ensures.value, c.deref-4.ensures.value, c.deref-5.ensures.value) at c.in_ok-survey.ensures.spans) in
    record {
      image = image;
      keeps = keeps;
      doors = are_doors i kept image keeps keys nodes m x doors d;
      spans = are;
      served = c.in_ok-survey.ensures.served ∙ c.in_ok-served.ensures;
      least = least_table (Reaches i kept) (reaches_small i kept image) survey.spans are survey.least c.in_ok-survey.ensures.least;
    }
