use Rattle.std.proofs.Common.{ap, ◌∙◌}
use Rattle.mm_model.specs.{Image.start, State.State}
use Rattle.mm_debug.specs.Session.{total_of}
use Rattle.mm_tests.proofs.recorders.recorder.Goals as goal

-- a machine that stands at the start of an image has done no cycle
pub new-requires-5 : goal.new-requires-5
unfolding start
new-requires-5 c = ap (λ (s : State). s.cycles) c.in-Ok-new.ensures.state

-- nor has a session of it
pub new-requires-6 : goal.new-requires-6
unfolding start
new-requires-6 c = ap total_of c.new-5.ensures.session ∙ ap (λ (s : State). s.cycles) c.in-Ok-new.ensures.state
