use Rattle.std.proofs.Common.{length}
use Rattle.mm_text.proofs.Appending.{appends_then}
use Rattle.mm_disasm.{specs.Canonical.thread_text, proofs.Targets.thread_parts}
use Rattle.mm_disasm.proofs.threads.put_thread.Goals as goal

pub put_thread_line-requires : goal.put_thread_line-requires
put_thread_line-requires g c = (thread_parts c.args.o.now.segments (length c.args.o.now.externals) c.args.thread.now c.requires).0

pub put_registers-requires : goal.put_registers-requires
put_registers-requires g c = (thread_parts c.args.o.now.segments (length c.args.o.now.externals) c.args.thread.now c.requires).1

pub returns : goal.returns
unfolding thread_text
returns g c = appends_then c.put_thread_line.ensures c.put_registers.ensures
