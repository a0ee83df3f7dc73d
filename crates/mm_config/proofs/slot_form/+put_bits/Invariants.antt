use Rattle.std.proofs.Common.{length}
use Rattle.mm_config.proofs.slot_form.+put_bits.Given as goal

abbrev pub decreases-put_bits : goal.decreases-put_bits
decreases-put_bits l = length l.words.now
