use Rattle.std.proofs.Common.{[]}
use Rattle.mm_asm.{specs.Names.externals_with, proofs.{ExternalNames.externals_rise, FirstSeen.sorted_is}}
use Rattle.mm_asm.proofs.externals.externals.Goals as goal

pub returns-clause-names : goal.returns-clause-names
returns-clause-names c =
    let d = c.args.draft.now in
    let uses = c.args.uses.now in
    sorted_is (externals_with d [] uses) c.in_ok-names.names.keys c.sort.new.self.keys (externals_rise d uses [] tt) c.in_ok-names.ensures.names
    c.in_ok-sort.ensures.sorted c.sort.ensures.unique c.sort.ensures.reordered.2
