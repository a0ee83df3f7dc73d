-- What is saved of a run is a checkpoint of its image, and goes on as the whole run.
use Rattle.std.proofs.Common.{◌≡◌, ℕ, zero, suc, ◌+◌, ◌<◌, ◌≤◌, Bool, true, false, List, [], ◌∷◌, ◌++◌, length, map}
use Rattle.std.proofs.Common.{Option, Some, None, refl, sym, ap, ◌∙◌, subst, arith}
use Rattle.std.specs.{Prelude.{IfSome, if◌then◌else◌}, List.AllByRecursion, Option.option_or}
use Rattle.mm_model.specs.{State.{ThreadRow, State}, Image.{Image, start}, Bytes.IsBytes, Uses.Use}
use Rattle.mm_model.specs.{declared.counts.Counts.Counts, Turn.is_running}
use Rattle.mm_model.specs.Run.{after, run, uses, next_running, first_running, then_issued, any_number, robin_from}
use Rattle.mm_model.specs.{Run.last_item, Report.report, Spelling.IsImage, Fits.IsSlot}
use Rattle.mm_machine.specs.{Validity.IsValid, Snapshot.{Parts, restored}}
use Rattle.mm_machine.proofs.{Keeping.{valid_start, valid_after}, Returning.put_back}
use Rattle.mm_machine.proofs.Rounds.{robin_length, first_length}
use Rattle.mm_checkpoint.specs.{Checkpoints.{Saved, saved_of}, Format.Saves, States.saved_form, Laws.IsSavedState}
use Rattle.mm_checkpoint.proofs.{CheckpointBytes.checkpoints_are_short, Forms.{have_forms, of_form}}
use Rattle.mm_checkpoint.proofs.{RunCheckpoints.runs_have_checkpoints, SpelledLaws.are_one}
use Rattle.mm_cli.specs.{declared.{table.{Kind.{TheVariants.{Checkpoint as checkpoint_file}}}}}
use Rattle.mm_load.specs.Kinds.{Value, an_image, a_list, a_checkpoint, Accepts}
use Rattle.mm_top.specs.{Orders.{AreIssued, AreIssuedFrom}, Saving.{last_issued, HasState, Continues}}
use Rattle.mm_top.specs.SaveToRun.{IsOneRun, SavesGoOn}
use Rattle.mm_checkpoint.proofs.GoesOn as whole
use Rattle.mm_checkpoint.proofs.RobinOn as robin

-- 1. The slots that round robin issues have one of 64 numbers.

abbrev IsSmall : Option ℕ → Type 0
IsSmall last = IfSome last (λ n. n < 64)

abbrev HasNumber : ThreadRow → Type 0
HasNumber row = row.slot.number < 64

first_small : (passes : ℕ → Bool) (rows : List ThreadRow) → AllByRecursion HasNumber rows → IsSmall (first_running passes rows)
first_small passes [] h = tt
first_small passes (row ∷ rows) h = by (is_running row.slot.state) (passes row.slot.number) (first_small passes rows h.1)
  where
    by : (running : Bool) (fits : Bool) → IsSmall (first_running passes rows)
        → IsSmall (if running then (if fits then Some row.slot.number else first_running passes rows) else first_running passes rows)
    by true true rest = h.0
    by true false rest = rest
    by false fits rest = rest

either_small : (one other : Option ℕ) → IsSmall one → IsSmall other → IsSmall (option_or one other)
either_small None other h small = small
either_small (Some n) other h small = h

next_small : (rows : List ThreadRow) (last : Option ℕ) → AllByRecursion HasNumber rows → IsSmall (next_running rows last)
next_small rows None h = first_small any_number rows h
next_small rows (Some last) h = either_small _ _ (first_small _ rows h) (first_small any_number rows h)

numbered : (rows : List ThreadRow) → AllByRecursion IsSlot (map (λ (row : ThreadRow). row.slot) rows) → AllByRecursion HasNumber rows
numbered [] h = tt
numbered (row ∷ rows) h = (h.0.number, numbered rows h.1)

pub last_small : (s : State) (last : Option ℕ) (count : ℕ) → IsValid s → IsSmall last → IsSmall (last_item last (robin_from s last count))
unfolding robin_from
last_small s last zero kept small = small
last_small s last (suc count) kept small =
    by (next_running s.core.rows last) (next_small s.core.rows last (numbered s.core.rows kept.state.core.slots))
    (λ n few. last_small (after s n) (Some n) count (valid_after s n kept) few)
  where
    by : (o : Option ℕ) → IsSmall o → ((n : ℕ) → n < 64 → IsSmall (last_item (Some n) (robin_from (after s n) (Some n) count)))
        → IsSmall (last_item last (then_issued o (λ n. robin_from (after s n) (Some n) count)))
    by None few rest = small
    by (Some n) few rest = rest n few

-- 2. What goes on from it.

module _ (i : Image) (image : IsImage i) (items : List ℕ) (last : Option ℕ) (saved : IsSavedState i (run (start i) items) last) where
  abbrev there : State
  there = run (start i) items

  abbrev checkpoint : Saved
  checkpoint = saved_of saved.parts last

  form : checkpoint ≡ saved_form there last
  form = have_forms i items saved.parts last image saved.of

  -- it is the run's state
  one_state : (s : State) → HasState i checkpoint s → s ≡ there
  one_state s has =
      sym (put_back (start i) s saved.parts (restored (start i) saved.parts) refl has.alike (of_form s saved.parts last last saved.of.rules (sym has.saved)))
      ∙ (whole.goes_on i items [] saved.parts image saved.of).0

  further_run : (further : List ℕ) → run there further ≡ run (start i) (items ++ further)
  further_run further =
      let on = whole.goes_on i items further saved.parts image saved.of in
      ap (λ (x : State). run x further) (sym on.0) ∙ on.1

  -- round robin of both parts is one
  one_robin : (a b : ℕ) (further : List ℕ) → items ≡ robin_from (start i) None a → further ≡ robin_from there (last_item None items) b → items ++ further ≡ robin_from (start i) None (a + b)
  one_robin a b further first second =
      ap (λ (xs : List ℕ). items ++ xs) second
      ∙ ap (λ (xs : List ℕ). xs ++ robin_from (run (start i) xs) (last_item None xs) b) first
      ∙ sym (robin.goes_on (start i) None a b)

  module _ (tells : List Use → Option Counts) (a : ℕ) (lists : List Value) (issues : AreIssued i a lists items) (known : last ≡ last_issued lists items) where
    one_run : (b : ℕ) (more : List Value) (text : List ℕ) → Continues tells i checkpoint b more text → IsOneRun tells i a b lists more text
    one_run b more text (s, has, (further, behind, is)) =
        let same : s ≡ there = one_state s has in
        let unlisted : more ≡ [] → further ≡ robin_from there (last_issued lists items) b = λ nothing.
        subst (λ (ls : List Value). AreIssuedFrom s last b ls further) nothing behind ∙ ap (λ (x : State). robin_from x last b) same ∙ ap (λ (x : Option ℕ). robin_from there x b) known in
        record {
          items = items;
          further = further;
          issues = issues;
          whole = is ∙ ap (λ (x : State). report (run x further) i (tells (uses x further))) same
              ∙ ap (λ (x : State). report x i (tells (uses there further))) (further_run further);
          unlisted = unlisted;
          robin = λ none nothing.
              one_robin a b further (subst (λ (ls : List Value). AreIssued i a ls items) none issues)
              (unlisted nothing ∙ ap (λ (ls : List Value). robin_from there (last_issued ls items) b) none);
          listed = λ list one. subst (λ (ls : List Value). AreIssuedFrom s last b ls further) one behind;
        }

-- 3. The law.

issued_few : (i : Image) (a : ℕ) (lists : List Value) (items : List ℕ) → AreIssued i a lists items → length items ≤ a
issued_few i a [] items is = subst (λ (xs : List ℕ). length xs ≤ a) (sym is) (robin_length (start i) None a)
issued_few i a (a_list list ∷ []) items is = subst (λ (xs : List ℕ). length xs ≤ a) (sym is) (first_length list a)
issued_few i a lists items is = absurd (assumption is)

issued_small : (i : Image) (a : ℕ) (lists : List Value) (items : List ℕ) → IsImage i → AreIssued i a lists items → IsSmall (last_issued lists items)
issued_small i a [] items image is = subst (λ (xs : List ℕ). IsSmall (last_item None xs)) (sym is) (last_small (start i) None a (valid_start i image) tt)
issued_small i a (list ∷ lists) items image is = tt

-- a checkpoint that bytes are read as is the one that they are
one_checkpoint : (i : Image) (ck : List ℕ) (p : Parts) (last : Option ℕ) → IsImage i → Saves ck i p last → (c : Saved)
    → Accepts checkpoint_file (an_image i ∷ []) ck (a_checkpoint c) → c ≡ saved_of p last
one_checkpoint i ck p last image saves c (q, also, others, read) = read ∙ are_one i ck q p also last image others saves

pub goes_on : SavesGoOn
goes_on tells i a name schedule lists ck image few (items, issues, written) =
    let last = last_issued lists items in
    let short = issued_few i a lists items issues in
    let saved : IsSavedState i (run (start i) items) last = runs_have_checkpoints i items last image (omega (arith, short, few)) (issued_small i a lists items image issues) in
    let saves : Saves ck i saved.parts last = subst (λ (xs : List ℕ). Saves xs i saved.parts last) (sym written) saved.saves in
    record {
      bytes = subst IsBytes (sym written) saved.bytes;
      short = checkpoints_are_short i ck saved.parts last image saves;
      checkpoint = saved_of saved.parts last;
      accepted = (saved.parts, last, saves, refl);
      alone = one_checkpoint i ck saved.parts last image saves;
      goes_on = λ again file b other more text writes. one_run i image items last saved tells a lists issues refl b more text writes;
    }
