use Rattle.std.proofs.Common.{refl}
use Rattle.mm_why.proofs.Working.{no_line, searched_on, now_known}
use Rattle.mm_why.proofs.work.Workspace.ensure_searched.Goals as goal

pub returns-then-was_searched-clause-known : goal.returns-then-was_searched-clause-known
returns-then-was_searched-clause-known c = c.if-was_searched.ensures.known refl

pub search_group-requires-clause-none : goal.search_group-requires-clause-none
search_group-requires-clause-none c = no_line c.args.image.now c.args.graph.now c.args.self.now c.args.group c.requires.work (c.if-was_searched.ensures.none refl)

pub returns-clause-goes_on : goal.returns-clause-goes_on
returns-clause-goes_on c =
    searched_on c.args.image.now c.args.graph.now c.args.self.now (record { lines = c.search_group.new.lines; searches = c.note.new.searches }) c.args.group c.in_ok-found.found
    c.requires.work c.requires.group (c.if-was_searched.ensures.none refl) c.in_ok-found.ensures c.note.ensures

pub returns-clause-known : goal.returns-clause-known
returns-clause-known c =
    now_known c.args.image.now c.args.graph.now c.args.self.now (record { lines = c.search_group.new.lines; searches = c.note.new.searches }) c.args.group c.in_ok-found.found
    c.requires.work c.requires.group (c.if-was_searched.ensures.none refl) c.in_ok-found.ensures c.note.ensures
