use Rattle.std.proofs.Common.{refl}
use Rattle.mm_model.specs.{Image.start, Run.run}
use Rattle.mm_config.specs.Configurations.{configuration}
use Rattle.mm_explore.proofs.{MoveForms.groups_from, Steps.{begins, ended_begins}}
use Rattle.mm_explore.proofs.search.Search.new.Goals as goal

pub returns-clause-before : goal.returns-clause-before
unfolding run
returns-clause-before c =
    let i = c.args.img.now in
    begins i c.slots.ensures.image c.args.states c.requires.some c.requires.few _ c.new-found.ensures refl refl
    (groups_from i c.slots.result.now c.in_ok-groups.groups.items c.slots.ensures.slots c.in_ok-groups.ensures)
    (record { machine = configuration (start i); stands = c.in_ok-configs.ensures })
    (λ list. c.in_ok-findings.ensures.noted i list) (λ list. ended_begins i list c.in_ok-findings.findings (c.in_ok-findings.ensures.ends i list)) c.new-graph.ensures
