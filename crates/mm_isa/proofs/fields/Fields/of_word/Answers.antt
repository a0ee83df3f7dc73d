use Rattle.std.proofs.Common.{arith}
use Rattle.mm_isa.proofs.Packing.{cut_fields}
use Rattle.mm_isa.proofs.fields.Fields.of_word.Goals as goal

pub returns : goal.returns
returns c =
    cut_fields c.args.w _ _ _ _ (omega arith) c.of_low_bits.ensures c.of_low_bits-2.ensures c.of_low_bits-3.ensures c.cast_signed.ensures
