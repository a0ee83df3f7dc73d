use Rattle.std.proofs.Common.{◌≡◌, ◌∙◌, ℕ, Bool, Err, inl, slice_range, subst, ap, arith}
use Rattle.mm_model.{specs.Words.{TextFaultsAt, AddsWord}, proofs.WordTexts.{means_unique, never_both, fault_unique}}
use Rattle.mm_sched.specs.declared.text.SchedError.TheVariants.{Fault}
use Rattle.mm_sched.proofs.Reading.{read_none, read_more, read_fault, read_all}
use Rattle.mm_sched.proofs.item_texts.read_items.{Given.Over, Goals.After-drop-items-then-not-added}
use Rattle.mm_sched.proofs.item_texts.read_items.Goals as goal

pub loop-at-init : goal.loop-at-init
loop-at-init g c = record {
  read = rw c.in_ok-items.ensures.items (read_none c.requires.none c.args.bytes.now c.run_start-at.result c.run_start-at.ensures.same);
  begins = c.run_start-at.ensures.begins;
  inside = c.run_start-at.ensures.end;
}

-- the word here says none, or breaks a rule
faults : (g : Over) (c : After-drop-items-then-not-added g) → TextFaultsAt g.T.TextItem.says g.T.TextItem.keeps c.args.bytes.now c.loop-at.at
faults g c =
    let l = c.loop-at in
    let word = slice_range c.args.bytes.now l.at c.run_end-end.result in
    let P : Bool → Type 0 = λ added. AddsWord g.T.TextItem.says g.T.TextItem.keeps word l.items.items c.add_word.new.items.items added in
    read_fault c.args.bytes.now l.at c.run_end-end.result word l.items.items l.invariant.read c.run_end-end.ensures.run (subst P c.if-not-added.true c.in_ok-added.ensures)

pub returns-then-not-added-clause-fault : goal.returns-then-not-added-clause-fault
returns-then-not-added-clause-fault g c offset e =
    let same : c.loop-at.at ≡ offset = cc in
    subst (λ (at : ℕ). TextFaultsAt g.T.TextItem.says g.T.TextItem.keeps c.args.bytes.now at) same (faults g c)

pub returns-then-not-added-clause-reads : goal.returns-then-not-added-clause-reads
returns-then-not-added-clause-reads g c items means = absurd (never_both c.requires c.args.bytes.now items c.loop-at.at means (faults g c))

pub returns-then-not-added-clause-refuses : goal.returns-then-not-added-clause-refuses
returns-then-not-added-clause-refuses g c offset fault =
    inl (ap Err (c.fault.ensures ∙ ap Fault (fault_unique c.requires c.args.bytes.now c.loop-at.at offset (faults g c) fault)))

pub loop-at-preserved : goal.loop-at-preserved
loop-at-preserved g c = record {
  read =
      let l = c.loop-at in
      let word = slice_range c.args.bytes.now l.at c.run_end-end.result in
      let P : Bool → Type 0 = λ added. AddsWord g.T.TextItem.says g.T.TextItem.keeps word l.items.items c.add_word.new.items.items added in
      let (said, says, is, keeps) = subst P c.if-not-added.false c.in_ok-added.ensures in
      rw is
      (read_more c.args.bytes.now l.at c.run_end-end.result c.run_start-at-in-loop-at.result word l.items.items said l.invariant.read c.run_end-end.ensures.run
      c.run_start-at-in-loop-at.ensures.same says (subst g.T.TextItem.keeps is keeps));
  begins = c.run_start-at-in-loop-at.ensures.begins;
  inside = c.run_start-at-in-loop-at.ensures.end;
}

pub returns-clause-means : goal.returns-clause-means
returns-clause-means g c = read_all c.args.bytes.now c.loop-at.at c.loop-at.items.items (omega arith) c.loop-at.invariant.read

pub returns-clause-reads : goal.returns-clause-reads
returns-clause-reads g c items means = means_unique c.requires c.args.bytes.now c.loop-at.items.items items (returns-clause-means g c) means

pub returns-clause-refuses : goal.returns-clause-refuses
returns-clause-refuses g c offset fault = absurd (never_both c.requires c.args.bytes.now c.loop-at.items.items offset (returns-clause-means g c) fault)
