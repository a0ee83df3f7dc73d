use Rattle.std.proofs.Common.{◌++◌, refl}
use Rattle.mm_text.proofs.Appending.{buffered_writes, appends_then}
use Rattle.mm_audit_text.proofs.audit.write_audit_of.Goals as goal

pub returns : goal.returns
returns g c =
    let (own, wrote, is) = c.put_groups.ensures in
    let (line, then, answers) = c.put_apart.ensures in (
      own ++ line,
      buffered_writes c.new-text.ensures (appends_then wrote then) c.finish.ensures,
      λ surveys. (own, is surveys, (line, answers c.args.img.now surveys, refl)),
    )
