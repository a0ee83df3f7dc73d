use Rattle.std.proofs.Common.{refl, ap}
use Rattle.mm_thread.specs.declared.watch.LastStep.{LastStep}
use Rattle.mm_machine.specs.Machine.{state_of}
use Rattle.mm_machine.proofs.{Keeping.{fault_changed, exactly}, Went.went_stands, Issuing.one_more_of}
use Rattle.mm_machine.proofs.machine.Machine.cycle.Goals as goal

pub returns-clause-state : goal.returns-clause-state
returns-clause-state g c = (one_more_of c.args.self.now c.issue.new.self c.args.item c.issue.ensures.goes).state

pub returns-clause-step : goal.returns-clause-step
returns-clause-step g c = ap (λ (last : LastStep). last.step) (c.issue.ensures.watch c.args.item refl refl)

pub returns-clause-takes : goal.returns-clause-takes
returns-clause-takes g c = (one_more_of c.args.self.now c.issue.new.self c.args.item c.issue.ensures.goes).takes

pub returns-clause-idle : goal.returns-clause-idle
returns-clause-idle g c = (exactly (state_of c.args.self.now) c.args.item _ c.args.self.now.valid (returns-clause-step g c)).idle

pub returns-clause-delivered : goal.returns-clause-delivered
returns-clause-delivered g c = (exactly (state_of c.args.self.now) c.args.item _ c.args.self.now.valid (returns-clause-step g c)).delivered

pub returns-clause-blocked : goal.returns-clause-blocked
returns-clause-blocked g c = (exactly (state_of c.args.self.now) c.args.item _ c.args.self.now.valid (returns-clause-step g c)).blocked

pub returns-clause-faulted : goal.returns-clause-faulted
returns-clause-faulted g c = (exactly (state_of c.args.self.now) c.args.item _ c.args.self.now.valid (returns-clause-step g c)).faulted

pub returns-clause-did : goal.returns-clause-did
returns-clause-did g c = (exactly (state_of c.args.self.now) c.args.item _ c.args.self.now.valid (returns-clause-step g c)).did

pub returns-clause-unchanged : goal.returns-clause-unchanged
returns-clause-unchanged g c = fault_changed (state_of c.args.self.now) _ c.args.item (returns-clause-state g c) c.args.self.now.valid

pub returns-clause-runs : goal.returns-clause-runs
returns-clause-runs g c i items h = went_stands i items _ c.args.self.now c.issue.new.self h (one_more_of c.args.self.now c.issue.new.self c.args.item c.issue.ensures.goes).went
