use Rattle.std.proofs.Common.{◌≡◌, ◌+◌, List, length, sym, ap, ◌∙◌, subst, arith}
use Rattle.std.{proofs.lemmas.{Nat.Bits.bit_at-zero, List.with_items_is}, specs.Int.bit_at}
use Rattle.mm_audit.specs.{Spans.base_at, Opening.AreOpen, declared.shared_words.Meets.Meets}
use Rattle.mm_audit.specs.Meeting.{HaveMet, HasWord, NotesAll}
use Rattle.mm_audit.proofs.{Opens.{none_open, open_later}, Meetings.{none_met, met_skip, met_more, noted_all}}
use Rattle.mm_audit.proofs.least_shared.least_words.Goals.{then-now-last, else-now-last+else-now-last-2}
use Rattle.mm_audit.proofs.least_shared.least_words.Goals as goal

pub enter-requires-clause-open : goal.enter-requires-clause-open
enter-requires-clause-open c = c.loop-k.invariant.stack (base_at c.args.spans.now c.loop-k.k) (λ n lt. c.requires.rise n c.loop-k.k lt c.loop-k-test.true)

pub loop-k-init : goal.loop-k-init
loop-k-init c = record {
  stack = λ from behind. subst (AreOpen c.args.spans.now 0 from) (sym c.new-stack.ensures.items) (none_open c.args.spans.now from);
  met = none_met c.args.spans.now c.in_ok-table.table.items c.in_ok-table.ensures;
  last = λ h g lt small bit. absurd (let z = bit_at-zero h in omega arith);
}

pub loop-k-preserved : goal.loop-k-preserved
loop-k-preserved c = record {
  stack = λ from behind. open_later c.args.spans.now (c.loop-k.k + 1) (base_at c.args.spans.now c.loop-k.k) from c.enter.new.stack.items (behind c.loop-k.k (omega arith)) c.in_ok-now.ensures.open;
  met = elim c.if-now-last.branch [
    | then-now-last w ↦
        let len = c.loop-k.table.ok.0 in
        let old = c.loop-k.invariant.met.rows.len in
        subst (HaveMet c.args.spans.now (c.loop-k.k + 1)) (sym (ap (λ v. v.items) w.table-is ∙ with_items_is c.loop-k.table w.note_all.new.table (let l = w.note_all.ensures.rows.len in omega arith)))
        (met_more c.args.spans.now c.requires c.loop-k.k c.loop-k-test.true c.in_ok-now.now c.in_ok-now.ensures.users c.loop-k.table.items c.loop-k.invariant.met w.note_all.new.table
        (subst (λ v. NotesAll c.in_ok-now.now.write c.in_ok-now.now.touch (base_at c.args.spans.now c.loop-k.k) 64 v w.note_all.new.table) w.deref_mut.ensures.value w.note_all.ensures))
    | else-now-last+else-now-last-2 w ↦
        subst (HaveMet c.args.spans.now (c.loop-k.k + 1)) (sym (ap (λ v. v.items) w.table-is))
        (met_skip c.args.spans.now c.requires c.loop-k.k c.loop-k-test.true c.in_ok-now.now c.in_ok-now.ensures.users c.loop-k.table.items c.loop-k.invariant.met
        (λ h g lt small a b. c.loop-k.invariant.last h g lt small (subst (λ v. bit_at v h ≡ 1) w.if-now-last-2.false a) (subst (λ v. bit_at v g ≡ 1) w.if-now-last.false b)))
  ];
  last = λ h g lt small a b. elim c.if-now-last.branch [
    | then-now-last w ↦
        let len = c.loop-k.table.ok.0 in
        let old = c.loop-k.invariant.met.rows.len in
        subst (λ (t : List Meets). HasWord t h g) (sym (ap (λ v. v.items) w.table-is ∙ with_items_is c.loop-k.table w.note_all.new.table (let l = w.note_all.ensures.rows.len in omega arith)))
        (noted_all c.args.spans.now c.requires c.loop-k.k c.loop-k-test.true c.in_ok-now.now c.in_ok-now.ensures.users c.loop-k.table.items c.loop-k.invariant.met w.note_all.new.table
        (subst (λ v. NotesAll c.in_ok-now.now.write c.in_ok-now.now.touch (base_at c.args.spans.now c.loop-k.k) 64 v
        w.note_all.new.table) w.deref_mut.ensures.value w.note_all.ensures) h g lt small a b)
    | else-now-last+else-now-last-2 w ↦
        subst (λ (t : List Meets). HasWord t h g) (sym (ap (λ v. v.items) w.table-is))
        (c.loop-k.invariant.last h g lt small (subst (λ v. bit_at v h ≡ 1) w.if-now-last-2.false a) (subst (λ v. bit_at v g ≡ 1) w.if-now-last.false b))
  ];
}

pub returns : goal.returns
returns c =
    let all : c.loop-k.k ≡ length c.args.spans.now = omega arith in
    subst (λ v. HaveMet c.args.spans.now v c.loop-k.table.items) all c.loop-k.invariant.met
