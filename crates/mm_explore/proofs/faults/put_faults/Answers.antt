use Rattle.std.proofs.Common.{◌≡◌, ℕ, ◌-◌, List, ◌++◌, length, ◌∙◌, take, ap, sym, append_assoc, arith}
use Rattle.std.{proofs.lemmas.List.{take_all, FromFn.length-range_with_len}, specs.{List.flat_map, BTreeMap.get}}
use Rattle.mm_word.specs.Cause.{cause_numbers}
use Rattle.mm_explore.{specs.{Noting.fault_kept, Results.FaultFound, Words.order}, proofs.LeftOver.range_more}
use Rattle.mm_explore.proofs.faults.put_faults.Goals as goal

pub loop-cause-preserved : goal.loop-cause-preserved
loop-cause-preserved c =
    let f : ℕ → List FaultFound = λ cause. fault_kept c.args.found.now c.args.slot cause (get order c.args.faults.now (c.args.slot, cause)) in
    let cause = c.loop-cause.cause in
    let begin = c.args.out.now.items in
    c.in_ok-put_fault.ensures ∙ ap (λ l. l ++ f cause) c.loop-cause.invariant
    ∙ append_assoc begin (flat_map f (take (cause - 1) cause_numbers)) (f cause)
    ∙ ap (λ l. begin ++ l) (sym (range_more f cause (omega arith) (omega arith)))

pub returns : goal.returns
returns c =
    let f : ℕ → List FaultFound = λ cause. fault_kept c.args.found.now c.args.slot cause (get order c.args.faults.now (c.args.slot, cause)) in
    let long : length cause_numbers ≡ 13 = length-range_with_len 1 13 in
    c.loop-cause.invariant
    ∙ ap (λ l. c.args.out.now.items ++ flat_map f l) (take_all (c.loop-cause.cause - 1) cause_numbers (omega (arith, long)))
