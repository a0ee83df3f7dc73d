-- One turn more, and one end more, is noted.
use Rattle.std.proofs.Common.{◌≡◌, ℕ, ◌<◌, ◌^◌, Bool, true, false, cond, nat_eq, List, [], ◌∷◌, ◌++◌, length, Option}
use Rattle.std.proofs.Common.{Some, None, slice_get, Result, Ok, Err, OnOk, sym, ap, ◌∙◌, subst, append-nil}
use Rattle.std.proofs.lemmas.{Grind.flat_map-append, List.Folds.find-append}
use Rattle.std.specs.{List.{AllZip, AllByRecursion, flat_map}, Option.option_or, BTreeMap.get, Global.Vec}
use Rattle.indexmap.specs.IndexMap.{insert_entry, IsUnique}
use lib.Pointwise.{pointwise}
use Rattle.mm_word.specs.declared.perm.Kind.{Kind}
use Rattle.mm_model.specs.{declared.step.Step.Step, Image.{Image, start}, Report.groups_of, Trace.group_in, Counted.writes}
use Rattle.mm_explore.specs.declared.{findings.Findings.Findings, found.Origin.Origin}
use Rattle.mm_explore.specs.{Explored.leads_to, Findings.{Extension, turn_at, any_kind, has_fault}, Outcomes.{End, firsts}}
use Rattle.mm_explore.specs.FoundLists.{IsOrigin}
use Rattle.mm_explore.specs.Noting.{IsFrom, first_kept, first_in, outcome_form, outcome_held, IsKeptEnd, tally_after, Noted, AreNoted}
use Rattle.mm_explore.specs.Words.{order, AreKept, step_words, turn_words}
use Rattle.mm_explore.proofs.Tallies.{ends_more, counts_fit}
use Rattle.mm_explore.specs.declared.ends.End as code_end
use Rattle.indexmap.specs.IndexMap as index

pub more_ok : {T E P Q : Type 0} → (r : Result T E) → (P → Q) → OnOk r P → OnOk r Q
more_ok (Ok t) f h = f h
more_ok (Err e) f h = h

pub both_ok : {T E P Q R : Type 0} → (r : Result T E) → (P → Q → R) → OnOk r P → OnOk r Q → OnOk r R
both_ok (Ok t) f h k = f h k
both_ok (Err e) f h k = h

-- 1. A turn.

words_with : (passes : Kind → Bool) (i : Image) (done : List Extension) (x : Extension) (step : Step) (group : ℕ) → step ≡ (turn_at i x).step → group ≡ group_in (turn_at i x)
    → flat_map (turn_words passes i) done ++ step_words passes group step ≡ flat_map (turn_words passes i) (done ++ x ∷ [])
words_with passes i done x step group is_step is_group =
    (λ j. flat_map (turn_words passes i) done ++ step_words passes (is_group j) (is_step j))
    ∙ ap (λ l. flat_map (turn_words passes i) done ++ l) (sym (append-nil (turn_words passes i x)))
    ∙ sym (flat_map-append (turn_words passes i) done (x ∷ []))

from_next : (list : List (List ℕ)) (was : Option Extension) (kept : Option Origin) (x : Extension) (o : Origin) (b : Bool) → IsFrom list was kept → IsOrigin list o x
    → IsFrom list (option_or was (cond b (Some x) None)) (first_kept kept b o)
from_next list None None x o true h is = is
from_next list None None x o false h is = tt
from_next list None (Some p) x o b h is = absurd h
from_next list (Some y) None x o b h is = absurd h
from_next list (Some y) (Some p) x o b h is = h

module _ (i : Image) (list : List (List ℕ)) (done : List Extension) (x : Extension) (f g : Findings) (step : Step) (group : ℕ) (o : Origin) where
  pub noted_next : Noted i list done f → IsOrigin list o x → step ≡ (turn_at i x).step → group ≡ group_in (turn_at i x)
      → ((kept : List (ℕ × ℕ)) → AreKept kept f.words.touched → AreKept (kept ++ step_words any_kind group step) g.words.touched)
      → ((kept : List (ℕ × ℕ)) → AreKept kept f.words.wrote → AreKept (kept ++ step_words writes group step) g.words.wrote)
      → ((q : ℕ × ℕ) → get order g.faults q ≡ first_kept (get order f.faults q) (has_fault q.0 q.1 step) o)
      → Noted i list (done ++ x ∷ []) g
  noted_next h is is_step is_group touched wrote faults = record {
    touched = subst (λ l. AreKept l g.words.touched) (words_with any_kind i done x step group is_step is_group) (touched (flat_map (turn_words any_kind i) done) h.touched);
    wrote = subst (λ l. AreKept l g.words.wrote) (words_with writes i done x step group is_step is_group) (wrote (flat_map (turn_words writes i) done) h.wrote);
    faults = λ slot cause.
        let p : Extension → Bool = λ y. has_fault slot cause (turn_at i y).step in
        let now : first_in i (done ++ x ∷ []) slot cause ≡ option_or (first_in i done slot cause) (cond (p x) (Some x) None) = find-append p done (x ∷ []) in
        let key : get order g.faults (slot, cause) ≡ first_kept (get order f.faults (slot, cause)) (p x) o =
        faults (slot, cause) ∙ ap (λ (s : Step). first_kept (get order f.faults (slot, cause)) (has_fault slot cause s) o) is_step in
        subst (λ y. IsFrom list y (get order g.faults (slot, cause))) (sym now)
        (subst (IsFrom list (option_or (first_in i done slot cause) (cond (p x) (Some x) None))) (sym key)
        (from_next list (first_in i done slot cause) (get order f.faults (slot, cause)) x o (p x) (h.faults slot cause) is));
  }

-- 2. An end.

module _ (i : Image) (list : List (List ℕ)) (ends : List End) (e : End) (f g : Findings) (at : code_end.End) where
  pub ended_next : (key : Vec ℕ) → AreNoted i list ends f → slice_get list at.at ≡ Some e.schedule → key.items ≡ outcome_form e.outcome
      → outcome_held at (leads_to i e.schedule).core (groups_of (start i).core) ≡ e.outcome
      → g.ends.entries ≡ insert_entry (λ a b. pointwise nat_eq a.items b.items) f.ends.entries key (tally_after at (index.get (λ a b. pointwise nat_eq a.items b.items) f.ends key))
      → IsUnique (λ a b. pointwise nat_eq a.items b.items) g.ends → AreNoted i list (ends ++ e ∷ []) g
  ended_next key h first form held entries unique = record {
    entries = subst (AllZip (λ u entry. IsKeptEnd i list (ends ++ e ∷ []) u entry.0.items entry.1) (firsts (ends ++ e ∷ []))) (sym entries)
        (ends_more (λ k. k.items) i list ends e at key f.ends.entries first form held h.unique h.entries);
    unique = unique;
  }

pub room_is : (i : Image) (list : List (List ℕ)) (ends : List End) (f : Findings) → AreNoted i list ends f → length ends < 2 ^ 32 → AllByRecursion (λ entry. entry.1.count < 2 ^ 63) f.ends.entries
room_is i list ends f h few = counts_fit (λ k. k.items) i list ends f.ends.entries h.entries few
