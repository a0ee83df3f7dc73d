use Rattle.std.proofs.Common.{map}
use Rattle.mm_draft.specs.Laws.{failure_pair, least}
use Rattle.mm_asm.specs.{Meaning.object_of, Faults.late_failures}
use Rattle.mm_asm.proofs.{Bounded.drafts_are_bounded, LateSources.{draft_small, early_small}}
use Rattle.mm_asm.proofs.LateAnswers.{first_late, fault_is, first_is, is_meant, is_again, early_is, early_first}
use Rattle.mm_asm.proofs.LateAnswers.{early_again}
use Rattle.mm_asm.proofs.assembling.assemble.Goals as goal

pub assemble_draft-requires : goal.assemble_draft-requires
assemble_draft-requires c = record {
  bounded = drafts_are_bounded c.args.text.now c.in-Ok.draft c.in-Ok.ensures;
  small = draft_small c.args.text.now c.in-Ok.draft c.requires c.in-Ok.ensures;
}

pub early-requires : goal.early-requires
early-requires c = early_small c.args.text.now c.in-Err.error c.requires c.in-Err.ensures

pub returns-in-Ok-clause-means : goal.returns-in-Ok-clause-means
returns-in-Ok-clause-means c = is_meant c.args.text.now c.in-Ok.draft c.assemble_draft.result c.in-Ok.ensures c.assemble_draft.ensures

pub returns-in-Ok-clause-again : goal.returns-in-Ok-clause-again
returns-in-Ok-clause-again c = is_again c.args.text.now c.in-Ok.draft c.assemble_draft.result c.in-Ok.ensures c.assemble_draft.ensures

pub returns-in-Ok-clause-fault : goal.returns-in-Ok-clause-fault
returns-in-Ok-clause-fault c =
    let d = c.in-Ok.draft in
    fault_is c.args.text.now (object_of d) (least (map failure_pair (late_failures d))) c.assemble_draft.result (first_late c.args.text.now d c.in-Ok.ensures) c.assemble_draft.ensures

pub returns-in-Ok-clause-first : goal.returns-in-Ok-clause-first
returns-in-Ok-clause-first c =
    let d = c.in-Ok.draft in
    first_is c.args.text.now (object_of d) (least (map failure_pair (late_failures d))) c.assemble_draft.result (first_late c.args.text.now d c.in-Ok.ensures) c.assemble_draft.ensures

pub returns-in-Err-clause-again : goal.returns-in-Err-clause-again
returns-in-Err-clause-again c = early_again c.args.text.now c.in-Err.error c.early.result c.in-Err.ensures c.early.ensures

pub returns-in-Err-clause-fault : goal.returns-in-Err-clause-fault
returns-in-Err-clause-fault c = early_is c.args.text.now c.in-Err.error c.early.result c.in-Err.ensures c.early.ensures

pub returns-in-Err-clause-first : goal.returns-in-Err-clause-first
returns-in-Err-clause-first c = early_first c.args.text.now c.in-Err.error c.early.result c.in-Err.ensures c.early.ensures
