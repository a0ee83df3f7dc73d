use Rattle.std.proofs.Common.{◌∙◌, ap, arith}
use Rattle.mm_model.specs.Turn.{Turned}
use Rattle.mm_config.proofs.TurnMade.{few_turns, own_turn, has_turned}
use Rattle.mm_config.proofs.configs.Configs.turn.Goals as goal

pub turn-step-requires-clause-turns : goal.turn-step-requires-clause-turns
turn-step-requires-clause-turns c = few_turns c.requires.0 c.requires.1 c.args.self.now c.requires.2

pub turn-step-requires-clause-room : goal.turn-step-requires-clause-room
turn-step-requires-clause-room c = c.requires.2.machine.uses

pub note-requires : goal.note-requires
note-requires c =
    has_turned c.requires.0 c.requires.1 c.args.self.now c.requires.2 c.args.item c.before-before.result c.turn-step.result c.turn-step.new.core c.recount.new.self (omega arith)
    c.before-before.ensures c.turn-step.ensures.core (c.recount.ensures.memory ∙ c.turn-step.ensures.memory) c.recount.ensures.uses c.turn-step.ensures.step

pub returns : goal.returns
returns c = record {
  machine = λ i v h.
      c.in_ok-note.ensures (has_turned i v c.args.self.now h c.args.item c.before-before.result c.turn-step.result c.turn-step.new.core c.recount.new.self (omega arith)
      c.before-before.ensures c.turn-step.ensures.core (c.recount.ensures.memory ∙ c.turn-step.ensures.memory) c.recount.ensures.uses c.turn-step.ensures.step);
  step = λ i v h. c.turn-step.ensures.step ∙ ap (λ (t : Turned). t.step) (own_turn i v c.args.self.now h c.args.item);
}
