use Rattle.std.proofs.{Common.{◌≡◌, [], ◌++◌, length, arith, rules}, lemmas.Bool.Decides.nat_tests}
use Rattle.mm_text.proofs.Appending.{appends_then}
use Rattle.mm_debug.specs.{declared.session.Go.TheVariants.{More, Quit}, Commands.lines_of}
use Rattle.mm_debug.proofs.{Dialogues.{no_text, goes_on, ends_at, ends}, InputLines.no_lines}
use Rattle.mm_debug.proofs.lines.handle_lines.Goals as goal

pub loop-rest-init : goal.loop-rest-init
loop-rest-init g c = record { said = []; appends = no_text; goes = λ text last later. later }

pub loop-rest-preserved : goal.loop-rest-preserved
loop-rest-preserved g c =
    let so_far = c.loop-rest.invariant in
    let more : More ≡ c.handle_line.result = search rules in
    record {
      said = so_far.said ++ c.handle_line.ensures.text;
      appends = appends_then so_far.appends c.handle_line.ensures.appends;
      goes = goes_on c.loop-rest.handler c.handle_line.new.self so_far.said c.handle_line.ensures.text c.handle_line.result
          (lines_of c.loop-rest.rest.now) (lines_of c.first_line.result.1.now) c.first_line.result.0.now
          c.first_line.ensures.lines so_far.goes c.handle_line.ensures.holds more;
    }

-- a `quit`
pub returns-then-eq : goal.returns-then-eq
returns-then-eq g c =
    let so_far = c.loop-rest.invariant in
    let last : Quit ≡ c.handle_line.result = search rules in
    record {
      text = so_far.said ++ c.handle_line.ensures.text;
      appends = appends_then so_far.appends c.handle_line.ensures.appends;
      holds = ends_at c.loop-rest.handler c.handle_line.new.self so_far.said c.handle_line.ensures.text c.handle_line.result
          (lines_of c.loop-rest.rest.now) (lines_of c.first_line.result.1.now) c.first_line.result.0.now
          c.first_line.ensures.lines so_far.goes c.handle_line.ensures.holds last;
    }

-- the end of the input
pub returns-after-loop-rest : goal.returns-after-loop-rest
returns-after-loop-rest g c =
    let so_far = c.loop-rest.invariant in
    let none : length c.loop-rest.rest.now ≡ 0 = grind (arith, nat_tests) in
    record {
      text = so_far.said;
      appends = so_far.appends;
      holds = ends (lines_of c.loop-rest.rest.now) (no_lines c.loop-rest.rest.now none) so_far.goes;
    }
