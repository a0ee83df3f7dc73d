use Rattle.mm_thread.proofs.{Sound.turn_whole, StepAccesses.turn_exact}
use Rattle.mm_thread.proofs.state.turn_watched.Goals as goal

pub invariant_of-core : goal.invariant_of-core
invariant_of-core g c = turn_whole c.core.inside.tables c.take_item.new.tables (g.M.Memory.meaning c.args.mem.now) c.args.item c.core.invariant c.take_item.ensures.core_is

pub returns-clause-few : goal.returns-clause-few
returns-clause-few g c = (turn_exact c.args.core.now (g.M.Memory.meaning c.args.mem.now) c.args.item).few
