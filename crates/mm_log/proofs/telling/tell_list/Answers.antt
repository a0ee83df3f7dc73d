use Rattle.std.proofs.Common.{◌+◌, ◌≡◌, ◌++◌, ◌∷◌, [], ℕ, List, take, get_or, refl, sym, subst, ap, ◌∙◌, arith}
use Rattle.std.proofs.{Common.append-nil, lemmas.List.take_more}
use Rattle.mm_model.specs.{State.State, Run.run}
use Rattle.mm_log.{specs.Telling.text_of_run, proofs.ToldRuns.{state_more, lines_more, no_state, no_lines}}
use Rattle.mm_text.proofs.Appending.{appends_then, appends_same}
use Rattle.mm_machine.{specs.Machine.{state_of, StandsFor}, proofs.Rounds.{after_cycles, one_item_more}}
use Rattle.mm_log.proofs.telling.tell_list.Goals as goal

pub loop-item-init : goal.loop-item-init
loop-item-init g c = record {
  cycles = omega arith;
  goes = λ i before h.
      let P : List ℕ → Type 0 = λ items. StandsFor i items c.args.machine.now in
      subst P (sym (append-nil before)) h;
  state = no_state (state_of c.args.machine.now);
  lines = no_lines g.T.Teller.of_cycle (state_of c.args.machine.now);
}

pub loop-item-preserved : goal.loop-item-preserved
loop-item-preserved g c =
    let first = state_of c.args.machine.now in
    let items = c.args.items.now in
    let at = c.loop-item.item-index in
    let more : take at items ++ get_or items at 0 ∷ [] ≡ take (at + 1) items = sym (take_more items at 0 c.loop-item-test.true) in
    record {
      cycles = omega (arith, ap (λ (s : State). s.cycles) c.tell.ensures.state ∙ after_cycles (state_of c.loop-item.machine) _);
      goes = λ i before h.
          let P : List ℕ → Type 0 = λ xs. StandsFor i xs c.tell.new.machine in
          subst P (one_item_more before items at _ c.loop-item-test.true refl) (c.tell.ensures.goes i _ (c.loop-item.invariant.goes i before h));
      state =
          state_more first (state_of c.loop-item.machine) (state_of c.tell.new.machine) (take at items) (get_or items at 0) c.loop-item.invariant.state c.tell.ensures.state
          ∙ ap (run first) more;
      lines = appends_same (appends_then c.loop-item.invariant.lines c.tell.ensures.line)
          (lines_more g.T.Teller.of_cycle first (state_of c.loop-item.machine) (take at items) (get_or items at 0) c.loop-item.invariant.state ∙ ap (text_of_run g.T.Teller.of_cycle first) more);
    }
