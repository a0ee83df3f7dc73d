use Rattle.std.proofs.Common.{length}
use Rattle.mm_object.{specs.Objects.is_value, proofs.Bools.all_at}
use Rattle.mm_disasm.specs.Canonical.{register_line}
use Rattle.mm_disasm.proofs.Numbering.{appends_numbered, appends_all, registers_numbered}
use Rattle.mm_disasm.proofs.threads.put_registers.Goals as goal

pub put_register-requires : goal.put_register-requires
put_register-requires g c =
    all_at (is_value c.args.o.now.segments (length c.args.o.now.externals)) c.args.values.now c.requires c.loop-k.k _ c.loop-k-test.true

pub loop-k-preserved : goal.loop-k-preserved
loop-k-preserved g c = appends_numbered (register_line c.args.o.now) c.args.values.now c.loop-k.k _ c.loop-k-test.true c.loop-k.invariant c.put_register.ensures

pub returns : goal.returns
returns g c =
    appends_all (register_line c.args.o.now) c.args.values.now c.loop-k.k c.loop-k-test.false (registers_numbered c.args.o.now 0 c.args.values.now) c.loop-k.invariant
