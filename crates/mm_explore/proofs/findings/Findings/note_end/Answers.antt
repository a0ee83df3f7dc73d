use Rattle.mm_explore.specs.Noting.{outcome_held}
use Rattle.std.proofs.Common.{sym}
use Rattle.mm_explore.proofs.Notes.{both_ok, more_ok, ended_next, room_is}
use Rattle.mm_explore.proofs.findings.Findings.note_end.Goals as goal

pub count_end-requires : goal.count_end-requires
count_end-requires c =
    let r = c.requires.room in
    record { room = room_is r.0 r.1 r.2 c.args.self.now r.3 r.4 }

pub returns-clause-noted : goal.returns-clause-noted
returns-clause-noted c = more_ok c.count_end.result (λ entries i list done h. record { touched = h.touched; wrote = h.wrote; faults = h.faults }) c.count_end.ensures.entries

pub returns-clause-ends : goal.returns-clause-ends
returns-clause-ends c =
    both_ok c.count_end.result
    (λ entries unique i list ends t h at is_core is_groups.
    ended_next i list ends (record { schedule = t; outcome = outcome_held c.args.end c.args.core.now c.args.groups.now }) c.args.self.now (record c.args.self.now { ends = c.count_end.new.ends })
    c.args.end c.in_ok-key.key h at c.in_ok-key.ensures (λ j. outcome_held c.args.end (sym is_core j) (sym is_groups j)) entries unique)
    c.count_end.ensures.entries c.count_end.ensures.unique
