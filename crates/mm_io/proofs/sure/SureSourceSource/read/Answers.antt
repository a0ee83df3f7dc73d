use Rattle.std.proofs.{Common.{◌-◌, Some, length, drop, ap, sym, ◌∙◌, arith, length-drop}, lemmas.List.length-take}
use Rattle.mm_io.proofs.Reading.{source_step}
use Rattle.mm_io.proofs.sure.SureSourceSource.read.Goals as goal

pub returns-clause-bytes : goal.returns-clause-bytes
returns-clause-bytes c =
    ap Some (sym c.self.view_is ∙ source_step c.self.inside.bytes.items c.deref.result.now c.copy_from_slice.new.self (drop c.min-count.result c.args.buf.now)
    c.self.inside.at c.min-count.result c.deref.ensures.value
    (omega (
      arith,
      c.min-count.ensures,
      ap length c.deref.ensures.value,
      length-take (length c.deref.result.now - c.self.inside.at) (drop c.self.inside.at c.deref.result.now),
      length-drop c.self.inside.at c.deref.result.now,
    ))
    c.copy_from_slice.ensures.after)
