use Rattle.std.proofs.Common.{refl}
use Rattle.mm_net.proofs.EventWords.{says_turn}
use Rattle.mm_net.proofs.event_words.turn.Goals as goal

pub returns-in_err-node-clause-none : goal.returns-in_err-node-clause-none
returns-in_err-node-clause-none c _ item count range says =
    let f = says_turn c.args.node.now c.args.rest.now item count c.requires range says in
    c.in_err-node.ensures.none refl f.number f.limit f.spelled

pub returns-in_err-slot-clause-none : goal.returns-in_err-slot-clause-none
returns-in_err-slot-clause-none c _ item count range says =
    let f = says_turn c.args.node.now c.args.rest.now item count c.requires range says in
    c.in_err-slot.ensures.none refl f.slot count f.item_said
