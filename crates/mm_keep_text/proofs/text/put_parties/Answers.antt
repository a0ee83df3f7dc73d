use Rattle.mm_text.proofs.Appending.{appends_item}
use Rattle.mm_keep_text.specs.Answers.{party_lines}
use Rattle.mm_keep_text.proofs.text.put_parties.Goals as goal

pub loop-party-preserved : goal.loop-party-preserved
loop-party-preserved g c = appends_item party_lines c.args.parties.now c.loop-party.party-index
    c.party-item.result c.loop-party-test.true c.party-item.is c.loop-party.invariant c.put_party.ensures
