use Rattle.mm_net.proofs.{NetRuns.goes_on_with, IdleSteps.{send_nothing, carry_nothing}}
use Rattle.mm_net.proofs.net.Net.step.Goals as goal

pub returns-in-Turn-clause-runs : goal.returns-in-Turn-clause-runs
returns-in-Turn-clause-runs g c = goes_on_with c.args.self.now c.turn.new.self c.args.item _ c.turn.result c.in-Turn.is c.turn.ensures.step

pub returns-in-Send-clause-runs : goal.returns-in-Send-clause-runs
returns-in-Send-clause-runs g c = goes_on_with c.args.self.now c.send.new.self c.args.item _ c.send.result c.in-Send.is c.send.ensures

pub returns-in-Carry-clause-runs : goal.returns-in-Carry-clause-runs
returns-in-Carry-clause-runs g c = goes_on_with c.args.self.now c.carry.new.self c.args.item _ c.carry.result c.in-Carry.is c.carry.ensures

pub returns-in-Send-clause-idle : goal.returns-in-Send-clause-idle
returns-in-Send-clause-idle g c = send_nothing c.args.self.now c.send.new.self c.args.item c.in-Send.link c.send.result c.in-Send.is c.send.ensures

pub returns-in-Carry-clause-idle : goal.returns-in-Carry-clause-idle
returns-in-Carry-clause-idle g c = carry_nothing c.args.self.now c.carry.new.self c.args.item c.in-Carry.link c.in-Carry.number c.carry.result c.in-Carry.is c.carry.ensures
