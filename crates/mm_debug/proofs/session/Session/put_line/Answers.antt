use Rattle.std.proofs.Common.{sym, ap, ◌∙◌, arith}
use Rattle.mm_text.proofs.Appending.{appends_same}
use Rattle.mm_debug.specs.{declared.command.Command.TheVariants.{Step, Run}, Session.{total_of, answer}}
use Rattle.mm_debug.specs.Shown.{session_of}
use Rattle.mm_debug.proofs.{MemoryLines.{words_aligned, words_within}, Standing.{stepped_stands, ran_stands}}
use Rattle.mm_debug.proofs.{StepCounts.steps_issue, Going.answer_goes}
use Rattle.mm_debug.proofs.session.Session.put_line.Goals as goal

pub overflow_sub-total : goal.overflow_sub-total
overflow_sub-total g c = omega (arith, c.total-before.ensures.total, c.total.ensures.total, ap total_of c.step.ensures, (steps_issue (session_of c.args.self.now) c.in-Step.count).total)

pub put_words-requires-clause-aligned : goal.put_words-requires-clause-aligned
put_words-requires-clause-aligned g c = words_aligned c.args.line.now c.read_command.result c.in-Mem.word c.in-Mem.count c.read_command.ensures c.in-Mem.is

pub put_words-requires-clause-within : goal.put_words-requires-clause-within
put_words-requires-clause-within g c = words_within c.args.line.now c.read_command.result c.in-Mem.word c.in-Mem.count c.read_command.ensures c.in-Mem.is

pub returns-in-Step-clause-stands : goal.returns-in-Step-clause-stands
returns-in-Step-clause-stands g c = λ i stands. rw c.step.ensures (stepped_stands i (session_of c.args.self.now) c.in-Step.count stands)

pub returns-in-Run-clause-stands : goal.returns-in-Run-clause-stands
returns-in-Run-clause-stands g c = λ i stands. rw c.run-stop.ensures at (ran_stands i (session_of c.args.self.now) stands)

pub returns-in-Bad-clause-reply : goal.returns-in-Bad-clause-reply
unfolding answer
returns-in-Bad-clause-reply g c =
    appends_same c.put_piece-in-Bad.ensures
    (ap (λ command. (answer (session_of c.args.self.now) command).reply) (sym c.in-Bad.is ∙ c.read_command.ensures))

pub returns-in-Step-clause-fits : goal.returns-in-Step-clause-fits
unfolding answer
returns-in-Step-clause-fits g c = λ p can. rw c.step.ensures (answer_goes (session_of c.args.self.now) (Step c.in-Step.count) p c.args.self.now.machine.valid can)

pub returns-in-Run-clause-fits : goal.returns-in-Run-clause-fits
unfolding answer
returns-in-Run-clause-fits g c = λ p can. rw c.run-stop.ensures at (answer_goes (session_of c.args.self.now) Run p c.args.self.now.machine.valid can)
