use Rattle.std.proofs.Common.{length, ap, ◌∙◌, subst}
use Rattle.mm_graph.specs.Masks.{meaning}
use Rattle.mm_model.specs.Reach.{Grants}
use Rattle.mm_audit.{specs.{Serving.served_of, Meeting.HaveMet}, proofs.{LeastTable.least_table, Granted.granted-small}}
use Rattle.mm_audit.proofs.GrantedSpans.{spans_granted, table_granted}
use Rattle.mm_audit.proofs.surveying.survey.Goals as goal

pub returns : goal.returns
returns c = record {
  image = c.slots-slots.ensures.image;
  privileged = c.in_ok-privileged.ensures.privileged;
  spans = c.in_ok-privileged.ensures.spans;
  served = c.in_ok-served.ensures ∙ ap served_of c.slots-slots.ensures.slots;
  least =
      let i = c.args.img.now in
      let e = meaning c.args.entries.now in
      let spans = c.in_ok-privileged.field-0.spans.items in
      let table = c.in_ok-least.least.items in
      table_granted i e table (least_table (Grants i e) (granted-small i e c.slots-slots.ensures.image) spans
      (spans_granted i e spans c.in_ok-privileged.ensures.spans) table
      (subst (λ v. HaveMet v (length v) table) c.deref.ensures.value c.in_ok-least.ensures));
}
