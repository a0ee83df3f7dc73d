use Rattle.std.proofs.{Common.{◌-◌, Some, length, drop, ap, sym, ◌∙◌, arith, length-drop}, lemmas.List.length-take}
use Rattle.mm_io.{specs.Memory.MemorySource, proofs.Reading.source_step}
use Rattle.mm_io.proofs.sources.MemSourceSource.read.Goals as goal

pub returns-clause-bytes : goal.returns-clause-bytes
returns-clause-bytes c =
    ap Some (sym (ap (λ (s : MemorySource). s.left) c.self.view_is) ∙ source_step c.self.inside.bytes.items c.deref-2.result.now c.copy_from_slice.new.self (drop c.min-count.result c.args.buf.now)
    c.self.inside.at c.min-count.result c.deref-2.ensures.value
    (omega (
      arith,
      c.min-count.ensures,
      ap length c.deref-2.ensures.value,
      length-take (length c.deref-2.result.now - c.self.inside.at) (drop c.self.inside.at c.deref-2.result.now),
      length-drop c.self.inside.at c.deref-2.result.now,
    ))
    c.copy_from_slice.ensures.after)
