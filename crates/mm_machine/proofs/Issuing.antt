-- The items of a list and then those of round robin, one cycle more at a time.
use Rattle.std.proofs.Common.{◌≡◌, ℕ, ◌+◌, ◌-◌, ◌<◌, ◌≤◌, List, [], ◌∷◌, ◌++◌, length, take, get_or, Option, Some, None}
use Rattle.std.proofs.Common.{false, true, inl, inr, refl, sym, ap, ◌∙◌, subst, arith, append-nil}
use Rattle.std.{proofs.lemmas.{List.{take_more, take_all}, Bool.cases_lt}, specs.Option.option_or}
use Rattle.mm_mem.specs.declared.memory.Memory.{Ghosts}
use Rattle.mm_model.specs.{State.State, Uses.Use, declared.step.Step.Step}
use Rattle.mm_model.specs.Run.{after, run, uses, turn_of, next_running, robin_from, last_item}
use Rattle.mm_thread.specs.{declared.watch.LastTurn.LastTurn, Told.{There, Told, told_of, kind_of, other_in, keep, there_in}}
use Rattle.mm_thread.specs.{declared.told.Kept.Kept, Told.{shown_in, shown}}
use Rattle.mm_machine.specs.{declared.machine.Machine.Machine, Machine.{state_of, Takes}, Going.WentOn}
use Rattle.mm_machine.proofs.Rounds.{one_more, robin_step, robin_over, robin_ends, robin_done}
use Rattle.mm_machine.proofs.Went.{went_nowhere, went_further, last_more}

-- what an observer becomes by the cycle of an item from a state
abbrev pub watched : {W : Type 0} → (W → Step → W) → (W → Told → W) → W → State → ℕ → W
watched tells looks w s n = tells (shown looks w (told_of s.core s.memory n)) (turn_of s n).step

module _ {M : Type 0} {memory : Ghosts M} where
  -- the machine after this count of cycles, with the slot that round robin issued last
  pub record IsAt (old now : Machine M memory) (items : List ℕ) (behind : Option ℕ) (count at : ℕ) (robin : Option ℕ) : Type 0 where
    -- in the list
    pub listed : at ≤ length items → WentOn old now (take at items) × (robin ≡ behind)
    -- behind its end
    pub further : length items ≤ at → (front : List ℕ) × WentOn old now (items ++ front)
        × (front ++ robin_from (state_of now) robin (length items + count - at) ≡ robin_from (run (state_of old) items) behind count)
        × (last_item behind front ≡ robin)

  -- all of them were
  pub record Ends (old now : Machine M memory) (items : List ℕ) (behind : Option ℕ) (count : ℕ) (robin : Option ℕ) : Type 0 where
    pub goes : WentOn old now (items ++ robin_from (run (state_of old) items) behind count)
    pub last : robin ≡ last_item behind (robin_from (run (state_of old) items) behind count)

  -- behind the list round robin begins
  turns_to_robin : (old now : Machine M memory) (items : List ℕ) (behind robin : Option ℕ) (count at : ℕ) → at ≡ length items → WentOn old now (take at items) → robin ≡ behind
      → (front : List ℕ) × WentOn old now (items ++ front)
      × (front ++ robin_from (state_of now) robin (length items + count - at) ≡ robin_from (run (state_of old) items) behind count)
      × (last_item behind front ≡ robin)
  turns_to_robin old now items behind robin count at whole went same =
      let all : take at items ≡ items = take_all at items (omega (arith, whole)) in
      let state : state_of now ≡ run (state_of old) items = went.state ∙ ap (run (state_of old)) all in
      let left : length items + count - at ≡ count = omega (arith, whole) in (
        [],
        subst (λ (xs : List ℕ). WentOn old now xs) (all ∙ sym (append-nil items)) went,
        ap (λ (s : State). robin_from s robin (length items + count - at)) state
            ∙ ap (λ (o : Option ℕ). robin_from (run (state_of old) items) o (length items + count - at)) same
            ∙ ap (robin_from (run (state_of old) items) behind) left,
        sym same,
      )

  pub begins : (m : Machine M memory) (items : List ℕ) (behind robin : Option ℕ) (count : ℕ) → robin ≡ behind → IsAt m m items behind count 0 robin
  begins m items behind robin count same = record {
    listed = λ le. (went_nowhere m, same);
    further = λ le. turns_to_robin m m items behind robin count 0 (omega (arith, le)) (went_nowhere m) same;
  }

  -- one item of the list more
  item_more : (old mid new : Machine M memory) (items : List ℕ) (behind robin next : Option ℕ) (count at n : ℕ) → IsAt old mid items behind count at robin → at < length items
      → n ≡ get_or items at 0 → next ≡ robin → state_of new ≡ after (state_of mid) n → Takes mid new (turn_of (state_of mid) n).uses → IsAt old new items behind count (at + 1) next
  item_more old mid new items behind robin next count at n so_far inside item keeps is takes =
      let (went, same) = so_far.listed (omega (arith, inside)) in
      let all : take at items ++ n ∷ [] ≡ take (at + 1) items = ap (λ (x : ℕ). take at items ++ x ∷ []) item ∙ sym (take_more items at 0 inside) in
      let further : WentOn old new (take (at + 1) items) = subst (λ (xs : List ℕ). WentOn old new xs) all (went_further old mid new (take at items) n went is takes) in
      record {
        listed = λ le. (further, keeps ∙ same);
        further = λ le. turns_to_robin old new items behind next count (at + 1) (omega (arith, inside, le)) further (keeps ∙ same);
      }

  -- one of round robin more
  robin_more : (old mid new : Machine M memory) (items : List ℕ) (behind robin next : Option ℕ) (count at n : ℕ) → IsAt old mid items behind count at robin → length items ≤ at
      → at < length items + count → next_running (state_of mid).core.rows robin ≡ Some n → state_of new ≡ after (state_of mid) n → Takes mid new (turn_of (state_of mid) n).uses
      → next ≡ Some n → IsAt old new items behind count (at + 1) next
  robin_more old mid new items behind robin next count at n so_far past inside runs is takes same =
      let (front, went, rest, last) = so_far.further past in
      record {
        listed = λ le. absurd (omega (arith, past, le));
        further = λ le. (
          front ++ n ∷ [],
          subst (λ (xs : List ℕ). WentOn old new xs) (one_more items front n) (went_further old mid new (items ++ front) n went is takes),
          robin_step (state_of mid) (state_of new) robin next n (length items + count - at) (length items + count - (at + 1)) front _ runs (omega (arith, inside)) is same rest,
          last_more behind front n ∙ sym same,
        );
      }

  -- one cycle more, of what comes next
  pub cycle_more : (old mid new : Machine M memory) (items : List ℕ) (behind robin next : Option ℕ) (count at n : ℕ) → IsAt old mid items behind count at robin
      → at < length items + count
      → (at < length items → (Some n ≡ Some (get_or items at 0)) × (next ≡ robin))
      → (length items ≤ at → (Some n ≡ next_running (state_of mid).core.rows robin) × (next ≡ option_or (Some n) robin))
      → state_of new ≡ after (state_of mid) n → Takes mid new (turn_of (state_of mid) n).uses → IsAt old new items behind count (at + 1) next
  cycle_more old mid new items behind robin next count at n so_far inside listed past is takes = elim (cases_lt at (length items)) [
    | inl lt ↦
        let (item, keeps) = listed lt in
        item_more old mid new items behind robin next count at n so_far lt (let same : n ≡ get_or items at 0 = cc in same) keeps is takes
    | inr ge ↦
        let (runs, same) = past (omega (arith, ge)) in
        robin_more old mid new items behind robin next count at n so_far (omega (arith, ge)) inside (sym runs) is takes same
  ]

  -- where no slot runs, or no cycle is left, they are all
  over : (old now : Machine M memory) (items : List ℕ) (behind robin : Option ℕ) (count at : ℕ) → IsAt old now items behind count at robin → length items ≤ at
      → robin_from (state_of now) robin (length items + count - at) ≡ [] → Ends old now items behind count robin
  over old now items behind robin count at so_far past none =
      let (front, went, rest, last) = so_far.further past in
      let whole : front ≡ robin_from (run (state_of old) items) behind count = robin_over (state_of now) robin (length items + count - at) front _ none rest in
      record {
        goes = subst (λ (xs : List ℕ). WentOn old now (items ++ xs)) whole went;
        last = sym last ∙ ap (last_item behind) whole;
      }

  pub stops : (old now : Machine M memory) (items : List ℕ) (behind robin next : Option ℕ) (count at : ℕ) (o : Option ℕ) → IsAt old now items behind count at robin → o ≡ None
      → (at < length items → (o ≡ Some (get_or items at 0)) × (next ≡ robin))
      → (length items ≤ at → (o ≡ next_running (state_of now).core.rows robin) × (next ≡ option_or o robin)) → Ends old now items behind count next
  stops old now items behind robin next count at o so_far none listed past = elim (cases_lt at (length items)) [
    | inl lt ↦ let some = (listed lt).0 in absurd (cc)
    | inr ge ↦
        let (runs, same) = past (omega (arith, ge)) in
        let stays : robin ≡ next = ap (λ (x : Option ℕ). option_or x robin) (sym none) ∙ sym same in
        subst (λ (last : Option ℕ). Ends old now items behind count last) stays
        (over old now items behind robin count at so_far (omega (arith, ge)) (robin_ends (state_of now) robin (length items + count - at) (sym runs ∙ none)))
  ]

  pub ends : (old now : Machine M memory) (items : List ℕ) (behind robin : Option ℕ) (count at : ℕ) → IsAt old now items behind count at robin → at ≡ length items + count
      → Ends old now items behind count robin
  ends old now items behind robin count at so_far all =
      over old now items behind robin count at so_far (omega (arith, all)) (robin_done (state_of now) robin (length items + count - at) (omega (arith, all)))

  module _ {W : Type 0} (tells : W → Step → W) (looks : W → Told → W) where
    -- before the first cycle the observer is as it was, and an item that is issued alone was watched
    pub record IsWatched (w : W) (old : Machine M memory) (items : List ℕ) (count at : ℕ) (watch : W) : Type 0 where
      pub begins : at ≡ 0 → watch ≡ w
      pub alone : (n : ℕ) → items ≡ n ∷ [] → count ≡ 0 → at ≡ 1 → watch ≡ watched tells looks w (state_of old) n

    pub cycle_watched : (w : W) (old mid : Machine M memory) (items : List ℕ) (behind robin : Option ℕ) (count at n : ℕ) (before watch : W) → IsAt old mid items behind count at robin
        → IsWatched w old items count at before → (at < length items → Some n ≡ Some (get_or items at 0)) → watch ≡ watched tells looks before (state_of mid) n
        → IsWatched w old items count (at + 1) watch
    unfolding run
    cycle_watched w old mid items behind robin count at n before watch so_far was listed is = record {
      begins = λ first. absurd (omega (arith, first));
      alone = λ m one none first.
          let some : length items ≡ 1 = ap (λ (xs : List ℕ). length xs) one in
          let begin : at ≡ 0 = omega (arith, first) in
          let inside : at < length items = omega (arith, begin, some) in
          let (went, same) = so_far.listed (omega (arith, inside)) in
          let state : state_of mid ≡ state_of old = went.state ∙ ap (λ (k : ℕ). run (state_of old) (take k items)) begin in
          let item : get_or items at 0 ≡ m = ap (λ (k : ℕ). get_or items k 0) begin ∙ ap (λ (xs : List ℕ). get_or xs 0 0) one in
          let given : Some n ≡ Some (get_or items at 0) = listed inside in
          let number : n ≡ get_or items at 0 = cc in
          is ∙ ap (λ (v : W). watched tells looks v (state_of mid) n) (was.begins begin)
          ∙ ap (λ (s : State). watched tells looks w s n) state ∙ ap (watched tells looks w (state_of old)) (number ∙ item);
    }

  -- one item alone
  pub record IsOneMore (old new : Machine M memory) (n : ℕ) : Type 0 where
    pub state : state_of new ≡ after (state_of old) n
    pub takes : Takes old new (turn_of (state_of old) n).uses
    pub went : WentOn old new (n ∷ [])

  pub one_more_of : (old new : Machine M memory) (n : ℕ) → WentOn old new (n ∷ robin_from (run (state_of old) (n ∷ [])) None 0) → IsOneMore old new n
  unfolding run uses robin_from
  one_more_of old new n went = record {
    state = went.state;
    takes = subst (λ (us : List Use). Takes old new us) (append-nil (turn_of (state_of old) n).uses) went.takes;
    went = went;
  }

  -- a list alone
  pub list_of : (old new : Machine M memory) (items : List ℕ) → WentOn old new (items ++ robin_from (run (state_of old) items) None 0) → WentOn old new items
  list_of old new items went =
      subst (λ (xs : List ℕ). WentOn old new xs) (ap (λ (xs : List ℕ). items ++ xs) (robin_done (run (state_of old) items) None 0 refl) ∙ append-nil items) went

  -- round robin alone
  pub robin_of : (old new : Machine M memory) (behind last : Option ℕ) (count : ℕ) → WentOn old new (robin_from (run (state_of old) []) behind count)
      → last ≡ last_item behind (robin_from (run (state_of old) []) behind count)
      → WentOn old new (robin_from (state_of old) behind count) × (last ≡ last_item behind (robin_from (state_of old) behind count))
  unfolding run
  robin_of old new behind last count went is = (went, is)

-- what an observer that keeps what it was shown has kept

there_kept : (w : Kept) (x : There) → there_in (kind_of x) (other_in w.other x) ≡ x
there_kept w There.Nothing = refl
there_kept w (There.CellAt a c) = refl
there_kept w (There.PageAt p b) = refl
there_kept w (There.SlotAt o) = refl

pub told_kept : (w : LastTurn) → w.shown ≡ false → (o : Option Told) → shown_in (shown (λ (v : LastTurn) (b : Told). record v { shown = true; kept = keep v.kept b }) w o) ≡ o
told_kept w none None = rw none refl
told_kept w none (Some b) = ap (λ (x : There). Some (record b { there = x })) (there_kept w.kept b.there)
