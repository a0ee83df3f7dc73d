use Rattle.mm_link.proofs.{Acceptance.objects_link_exactly, Imaged.linked_objects_are_images}
use Rattle.mm_link.proofs.laws.objects_link_exactly.Goals as goal

pub returns-clause-images : goal.returns-clause-images
returns-clause-images c = linked_objects_are_images

pub returns-clause-exactly : goal.returns-clause-exactly
returns-clause-exactly c = objects_link_exactly
