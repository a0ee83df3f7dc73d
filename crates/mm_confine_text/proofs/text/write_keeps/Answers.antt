use Rattle.std.proofs.Common.{◌++◌, refl}
use Rattle.mm_text.proofs.Appending.{appends_then, buffered_writes}
use Rattle.mm_keep_text.specs.Answers.{answer_text}
use Rattle.mm_confine_text.proofs.text.write_keeps.Goals as goal

pub returns : goal.returns
returns g c =
    let (groups, wrote, are) = c.put_reach_if.ensures in
    let answer = c.args.found.now.answer in (
      answer_text answer ++ groups,
      buffered_writes c.new-text.ensures (appends_then c.put_keeps.ensures wrote) c.finish.ensures,
      λ i kept limit h. record {
        answer = answer;
        is = h.answer;
        groups = groups;
        groups_are = are i kept limit h.answer h.reach;
        written = refl;
      },
    )
