use Rattle.mm_link.proofs.LinkResults.{is_linked, is_again, is_fault, is_first}
use Rattle.mm_link.proofs.linking.link.Goals as goal

pub returns-clause-linked : goal.returns-clause-linked
returns-clause-linked c = is_linked c.args.objects.now c.image_or_fault.result c.image_or_fault.ensures

pub returns-clause-again : goal.returns-clause-again
returns-clause-again c = λ i. is_again c.args.objects.now c.image_or_fault.result i c.image_or_fault.ensures

pub returns-clause-fault : goal.returns-clause-fault
returns-clause-fault c = λ f. is_fault c.args.objects.now c.image_or_fault.result f c.image_or_fault.ensures

pub returns-clause-first : goal.returns-clause-first
returns-clause-first c = λ f. is_first c.args.objects.now c.image_or_fault.result f c.image_or_fault.ensures
