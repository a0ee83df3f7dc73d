use Rattle.mm_checkpoint.proofs.Forms.{have_forms}
use Rattle.mm_checkpoint.proofs.laws.snapshots_have_saved_forms.Goals as goal

pub returns : goal.returns
returns c = have_forms
