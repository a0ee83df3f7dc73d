use Rattle.std.proofs.Common.{append_assoc}
use Rattle.mm_object.proofs.FormatWhole.{object_spelled}
use Rattle.mm_object.proofs.writing.write.Goals as goal

pub returns-clause-written : goal.returns-clause-written
returns-clause-written c =
    rw (
      object_spelled c.args.o.now,
      c.in_ok-put_threads.ensures,
      c.threads.ensures.threads,
      c.in_ok-put_relocs.ensures,
      c.relocs.ensures.relocs,
      c.in_ok-put_names.ensures,
      c.externals.ensures.externals,
      c.in_ok-put_segments.ensures,
      c.segments.ensures.segments,
      c.in_ok-put_header.ensures,
      c.new-out.ensures.items,
    ) (simp append_assoc)

pub returns-clause-spelled : goal.returns-clause-spelled
returns-clause-spelled c = record { object = c.segments.ensures.object; spelled = returns-clause-written c }
