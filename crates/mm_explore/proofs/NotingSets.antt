-- Endless sets that are left to be noted.
use Rattle.std.proofs.Common.{◌≡◌, inl, inr, ℕ, ◌+◌, ◌≤◌, true, false, List, [], ◌∷◌, ◌++◌, length, refl, sym, ap, ◌∙◌, subst}
use Rattle.std.proofs.Common.{append_assoc, append-nil, length-append, arith}
use Rattle.std.proofs.lemmas.List.{length-map}
use Rattle.std.proofs.lemmas.List.Elements.{Contains-append_right}
use Rattle.std.specs.{Prelude.{Contains, Some, slice_get}, List.{AllZip}}
use Rattle.mm_model.proofs.CoreRows.{each_push}
use Rattle.mm_model.specs.{Flags.flags, Image.{Image, start}, Report.groups_of, State.Core}
use Rattle.mm_span.proofs.Members.{in_first}
use Rattle.mm_explore.specs.declared.{explored.Ending.TheVariants.Endless, findings.Findings.Findings, search.Search.Search}
use Rattle.mm_explore.specs.{Closed.{IsFirstEndless}, Explored.leads_to, Findings.IsFinal, Noting.{AreNoted, outcome_held}}
use Rattle.mm_explore.specs.Outcomes.{End, Selects, SelectsEndless, IsOutcome, IsEnding, AreEndsOf, slots_at}
use Rattle.mm_explore.specs.Searching.{Ended, AreBusyBy, IsBusySet, AreBusySets, HasEnds}
use Rattle.mm_explore.proofs.{Spelled.map_push, HeldEnds.outcome_so, Selections.is_selected}
use Rattle.mm_explore.specs.declared.ends.End as code_end

-- the ends of a list were noted, but for those of the endless sets that are left
pub record SetsLeft (i : Image) (list : List (List ℕ)) (f : Findings) (rest : List (ℕ × ℕ)) : Type 0 where
  pub finals : List (List ℕ)
  pub final : Selects (IsFinal i) list finals
  pub firsts : List (List ℕ)
  pub endless : Selects (IsFirstEndless i) list firsts
  pub done : List (List ℕ)
  pub left : List (List ℕ)
  pub split : firsts ≡ done ++ left
  pub ends : List End
  pub of : AreEndsOf i (finals ++ done) ends
  pub noted : AreNoted i list ends f
  pub stand : AllZip (IsBusySet i list) left rest

pub sets_begin : (i : Image) (list : List (List ℕ)) (f : Findings) (entries : List (ℕ × ℕ)) → Ended i list list f → AreBusySets i list entries → SetsLeft i list f entries
sets_begin i list f entries e sets = record {
  finals = e.finals;
  final = e.are;
  firsts = sets.firsts;
  endless = sets.are;
  done = [];
  left = sets.firsts;
  split = refl;
  ends = e.ends;
  of = subst (λ l. AreEndsOf i l e.ends) (sym (append-nil e.finals)) e.of;
  noted = e.noted;
  stand = sets.sets;
}

-- schedules that are selected by two conditions that exclude each other are no more than there are
both_few : (P Q : List ℕ → Type 0) → ((t : List ℕ) → P t → Q t → ⊥) → (list a b : List (List ℕ)) → Selects P list a → Selects Q list b → length a + length b ≤ length list
both_few P Q apart [] a b h k = let la = ap length h in let lb = ap length k in omega (arith, la, lb)
both_few P Q apart (t ∷ list) a b (inl h) (inl k) = absurd (apart t h.0 k.0)
both_few P Q apart (t ∷ list) a b (inl h) (inr k) =
    let rest = both_few P Q apart list h.1.0 b h.1.2 k.1 in
    let la = ap length h.1.1 in
    omega (arith, rest, la)
both_few P Q apart (t ∷ list) a b (inr h) (inl k) =
    let rest = both_few P Q apart list a k.1.0 h.1 k.1.2 in
    let lb = ap length k.1.1 in
    omega (arith, rest, lb)
both_few P Q apart (t ∷ list) a b (inr h) (inr k) = let rest = both_few P Q apart list a b h.1 k.1 in omega (arith, rest)

-- the set that is noted next
pub record NextSet (i : Image) (list left : List (List ℕ)) (entry : ℕ × ℕ) (rest : List (ℕ × ℕ)) : Type 0 where
  pub at : List ℕ
  pub later : List (List ℕ)
  pub is : left ≡ at ∷ later
  pub busy : IsBusySet i list at entry
  pub stand : AllZip (IsBusySet i list) later rest

next_set : (i : Image) (list left : List (List ℕ)) (entry : ℕ × ℕ) (rest : List (ℕ × ℕ)) → AllZip (IsBusySet i list) left (entry ∷ rest) → NextSet i list left entry rest
next_set i list [] entry rest h = absurd h
next_set i list (t ∷ left) entry rest h = record { at = t; later = left; is = refl; busy = h.0; stand = h.1 }

none_left : (i : Image) (list left : List (List ℕ)) → AllZip (IsBusySet i list) left [] → left ≡ []
none_left i list [] h = refl
none_left i list (t ∷ left) h = absurd h

module _ (i : Image) (list : List (List ℕ)) (f : Findings) (now : List (ℕ × ℕ)) (h : SetsLeft i list f now) where
  pub ends_few : length h.ends ≤ length list
  ends_few =
      let both = both_few (IsFinal i) (IsFirstEndless i) (λ t final first. first.endless.1 final) list h.finals h.firsts h.final h.endless in
      let split = ap length h.split ∙ length-append h.done h.left in
      let told = ap length h.of.schedules ∙ length-append h.finals h.done in
      let ends = length-map h.ends (λ (e : End). e.schedule) in
      omega (arith, both, split, told, ends)

  module _ (entry : ℕ × ℕ) (rest : List (ℕ × ℕ)) (is : now ≡ entry ∷ rest) where
    pub next : NextSet i list h.left entry rest
    next = next_set i list h.left entry rest (subst (AllZip (IsBusySet i list) h.left) is h.stand)

    -- its first schedule
    abbrev pub next_at : List ℕ
    next_at = next.at

    pub next_here : slice_get list entry.0 ≡ Some next_at
    next_here = next.busy.at

    next_first : IsFirstEndless i next.at
    next_first =
        let inside : Contains h.firsts next.at =
        subst (λ l. Contains l next.at) (sym (h.split ∙ ap (λ l. h.done ++ l) next.is)) (Contains-append_right h.done (next.at ∷ next.later) next.at (in_first next.at next.later)) in
        (is_selected (IsFirstEndless i) list h.firsts h.endless next.at inside).1

    pub set_noted : (g : Findings) (e : code_end.End) (core : Core) (groups : List ℕ) → e.ending ≡ Endless → e.busy ≡ entry.1 → core ≡ (leads_to i next_at).core → groups ≡ groups_of (start i).core
        → AreNoted i list (h.ends ++ (record { schedule = next_at; outcome = outcome_held e core groups }) ∷ []) g → SetsLeft i list g rest
    set_noted g e core groups ending busy is_core is_groups noted =
        let t = next.at in
        let x : End = record { schedule = t; outcome = outcome_held e core groups } in
        let is_ending : IsEnding i t e.ending = subst (IsEnding i t) (sym ending) next_first.endless in
        let is_busy : AreBusyBy i t 0 (flags (length (slots_at i t)) e.busy) = subst (λ n. AreBusyBy i t 0 (flags (length (slots_at i t)) n)) (sym busy) next.busy.slots in
        record {
          finals = h.finals;
          final = h.final;
          firsts = h.firsts;
          endless = h.endless;
          done = h.done ++ t ∷ [];
          left = next.later;
          split = h.split ∙ ap (λ l. h.done ++ l) next.is ∙ sym (append_assoc h.done (t ∷ []) next.later);
          ends = h.ends ++ x ∷ [];
          of = record {
            schedules = map_push (λ (y : End). y.schedule) h.ends x ∙ ap (λ l. l ++ t ∷ []) h.of.schedules ∙ append_assoc h.finals h.done (t ∷ []);
            outcomes = each_push (λ (y : End). IsOutcome i y.schedule y.outcome) h.ends x h.of.outcomes (outcome_so i t e core groups is_core is_groups is_ending is_busy);
          };
          noted = noted;
          stand = next.stand;
        }

  pub sets_end : (s : Search) → s.all ≡ true → s.found ≡ list → s.findings ≡ f → now ≡ [] → HasEnds i s
  sets_end s all same findings none =
      let gone = none_left i list h.left (subst (AllZip (IsBusySet i list) h.left) none h.stand) in
      let whole : h.done ≡ h.firsts = sym (h.split ∙ ap (λ l. h.done ++ l) gone ∙ append-nil h.done) in
      record {
        ends = h.ends;
        noted = subst (λ l. AreNoted i l h.ends s.findings) (sym same) (subst (AreNoted i list h.ends) (sym findings) h.noted);
        are = record {
          finals = h.finals;
          final = subst (λ l. Selects (IsFinal i) l h.finals) (sym same) h.final;
          firsts = h.firsts;
          endless = subst (λ b. SelectsEndless b i s.found h.firsts) (sym all) (subst (λ l. Selects (IsFirstEndless i) l h.firsts) (sym same) h.endless);
          are = subst (λ l. AreEndsOf i (h.finals ++ l) h.ends) whole h.of;
        };
      }

-- a search whose list is not all tells of no endless sets
pub finals_end : (i : Image) (s : Search) → s.all ≡ false → Ended i s.found s.found s.findings → HasEnds i s
finals_end i s more e = record {
  ends = e.ends;
  noted = e.noted;
  are = record {
    finals = e.finals;
    final = e.are;
    firsts = [];
    endless = subst (λ b. SelectsEndless b i s.found []) (sym more) refl;
    are = subst (λ l. AreEndsOf i l e.ends) (sym (append-nil e.finals)) e.of;
  };
}
