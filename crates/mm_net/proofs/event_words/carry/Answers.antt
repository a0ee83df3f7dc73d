use Rattle.std.proofs.Common.{refl}
use Rattle.mm_net.proofs.EventWords.{says_carry}
use Rattle.mm_net.proofs.event_words.carry.Goals as goal

pub returns-in_err-link-clause-none : goal.returns-in_err-link-clause-none
returns-in_err-link-clause-none c _ item count range says =
    let f = says_carry c.args.link.now c.args.integer.now item count c.requires range says in
    c.in_err-link.ensures.none refl f.number f.limit f.spelled

pub returns-in_err-number-clause-none : goal.returns-in_err-number-clause-none
returns-in_err-number-clause-none c _ item count range says =
    let f = says_carry c.args.link.now c.args.integer.now item count c.requires range says in
    c.in_err-number.ensures.none refl f.place f.place_limit f.counted
