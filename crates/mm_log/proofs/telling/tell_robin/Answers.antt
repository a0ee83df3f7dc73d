use Rattle.std.proofs.Common.{◌≡◌, ◌+◌, ◌-◌, ◌++◌, ◌∷◌, [], ℕ, List, Option, None, Some, sym, subst, ap, ◌∙◌, arith}
use Rattle.std.proofs.Common.{append-nil}
use Rattle.mm_model.specs.{State.State, Run.{next_running, robin_from}}
use Rattle.mm_log.{specs.Telling.text_of_run, proofs.ToldRuns.{state_more, lines_more, no_state, no_lines}}
use Rattle.mm_text.proofs.Appending.{appends_then, appends_same}
use Rattle.mm_machine.specs.Machine.{state_of, StandsFor}
use Rattle.mm_machine.proofs.Rounds.{after_cycles, one_more, robin_step, robin_over, robin_ends, robin_done}
use Rattle.mm_machine.proofs.Running.{next_is, none_is, zero_of}
use Rattle.mm_log.proofs.telling.tell_robin.Goals as goal

begins : (s : State) (last : Option ℕ) (count : ℕ) → last ≡ None → [] ++ robin_from s last (count - 0) ≡ robin_from s None count
begins s last count none = ap (λ (l : Option ℕ). robin_from s l (count - 0)) none ∙ ap (robin_from s None) (omega arith)

pub loop-init : goal.loop-init
loop-init g c = record {
  cycles = omega arith;
  goes = (
    [],
    (
        λ i before h.
        let P : List ℕ → Type 0 = λ items. StandsFor i items c.args.machine.now in
        subst P (sym (append-nil before)) h
        ),
    no_state (state_of c.args.machine.now),
    no_lines g.T.Teller.of_cycle (state_of c.args.machine.now),
    begins (state_of c.args.machine.now) c.new-robin.result c.args.count c.new-robin.ensures,
  );
}

pub loop-preserved : goal.loop-preserved
loop-preserved g c =
    let (front, goes, state, lines, so_far) = c.loop.invariant.goes in
    let first = state_of c.args.machine.now in
    let item = c.in-Some.item in
    let next : next_running c.loop.machine.core.rows c.loop.robin ≡ Some item =
    next_is (state_of c.loop.machine) c.running.result c.loop.robin item c.loop.machine.valid c.running.ensures c.in-Some.ensures.next.0 in
    record {
      cycles = omega (arith, ap (λ (s : State). s.cycles) c.tell.ensures.state ∙ after_cycles (state_of c.loop.machine) item);
      goes = (
        front ++ item ∷ [],
        (
            λ i before h.
            let P : List ℕ → Type 0 = λ items. StandsFor i items c.tell.new.machine in
            subst P (one_more before front item) (c.tell.ensures.goes i (before ++ front) (goes i before h))
            ),
        state_more first (state_of c.loop.machine) (state_of c.tell.new.machine) front item state c.tell.ensures.state,
        appends_same (appends_then lines c.tell.ensures.line) (lines_more g.T.Teller.of_cycle first (state_of c.loop.machine) front item state),
        robin_step (state_of c.loop.machine) (state_of c.tell.new.machine) c.loop.robin c.next.new.self item (c.args.count - c.loop.counter)
            (c.args.count - (c.loop.counter + 1)) front _ next (omega arith) c.tell.ensures.state c.in-Some.ensures.next.1 so_far,
      );
    }

pub returns-after-loop-clause-goes : goal.returns-after-loop-clause-goes
returns-after-loop-clause-goes g c i before h =
    let (front, goes, state, lines, so_far) = c.loop.invariant.goes in
    let P : List ℕ → Type 0 = λ items. StandsFor i items c.loop.machine in
    let none = robin_done (state_of c.loop.machine) c.loop.robin (c.args.count - c.loop.counter) (omega arith) in
    subst P (ap (λ (items : List ℕ). before ++ items) (robin_over (state_of c.loop.machine) c.loop.robin (c.args.count - c.loop.counter) front _ none so_far)) (goes i before h)

pub returns-after-loop-clause-lines : goal.returns-after-loop-clause-lines
returns-after-loop-clause-lines g c =
    let (front, goes, state, lines, so_far) = c.loop.invariant.goes in
    let none = robin_done (state_of c.loop.machine) c.loop.robin (c.args.count - c.loop.counter) (omega arith) in
    appends_same lines (ap (text_of_run g.T.Teller.of_cycle (state_of c.args.machine.now)) (robin_over (state_of c.loop.machine) c.loop.robin (c.args.count - c.loop.counter) front _ none so_far))

pub returns-in_default-clause-goes : goal.returns-in_default-clause-goes
returns-in_default-clause-goes g c i before h =
    let (front, goes, state, lines, so_far) = c.loop.invariant.goes in
    let P : List ℕ → Type 0 = λ items. StandsFor i items c.loop.machine in
    let next : next_running c.loop.machine.core.rows c.loop.robin ≡ None =
    none_is (state_of c.loop.machine) c.running.result c.loop.robin c.loop.machine.valid c.running.ensures (zero_of _ c.in_default.ensures.some.1) in
    let none = robin_ends (state_of c.loop.machine) c.loop.robin (c.args.count - c.loop.counter) next in
    subst P (ap (λ (items : List ℕ). before ++ items) (robin_over (state_of c.loop.machine) c.loop.robin (c.args.count - c.loop.counter) front _ none so_far)) (goes i before h)

pub returns-in_default-clause-lines : goal.returns-in_default-clause-lines
returns-in_default-clause-lines g c =
    let (front, goes, state, lines, so_far) = c.loop.invariant.goes in
    let next : next_running c.loop.machine.core.rows c.loop.robin ≡ None =
    none_is (state_of c.loop.machine) c.running.result c.loop.robin c.loop.machine.valid c.running.ensures (zero_of _ c.in_default.ensures.some.1) in
    let none = robin_ends (state_of c.loop.machine) c.loop.robin (c.args.count - c.loop.counter) next in
    appends_same lines (ap (text_of_run g.T.Teller.of_cycle (state_of c.args.machine.now)) (robin_over (state_of c.loop.machine) c.loop.robin (c.args.count - c.loop.counter) front _ none so_far))
