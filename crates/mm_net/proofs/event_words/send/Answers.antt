use Rattle.std.proofs.Common.{refl}
use Rattle.mm_net.proofs.EventWords.{says_send}
use Rattle.mm_net.proofs.event_words.send.Goals as goal

pub returns-in_err-link-clause-none : goal.returns-in_err-link-clause-none
returns-in_err-link-clause-none c _ item count range says =
    let f = says_send c.args.digits.now item count range says in
    c.in_err-link.ensures.none refl f.number f.limit f.spelled
