-- How one group hands a pointer to another.
use Rattle.std.proofs.Common.{◌≡◌, ℕ, ◌+◌, ◌-◌, ◌<◌, ◌⊎◌, inl, inr, List, length, refl, sym, subst, arith}
use Rattle.std.{proofs.lemmas.List.Elements.{Contains-get_or, at_from_Contains}, specs.List.Contains}
use Rattle.mm_word.specs.Pointer.{Pointer}
use Rattle.mm_model.specs.{Slot.Slot, Image.Image, Reach.{LoadsAt, StoresAt}}
use Rattle.mm_flow.specs.Flow.{Has}
use Rattle.mm_graph.specs.{declared.graph.Graph.Graph, Nodes.IsLinks}
use Rattle.mm_why.specs.{declared.{line.Line.Line, work.Workspace.Workspace}, Derivations.{Says, Follows}}
use Rattle.mm_why.specs.{Rounds.{HandsOn, round_at, AreRounds}, Works.GoesOn, Giving.{HasLine, JoinedAt}}
use Rattle.mm_why.proofs.Working.{says_on}
use Rattle.mm_why.specs.declared.line.Rule.TheVariants as rules

-- the round before stands before the same end
pub sooner : (round top : ℕ) → round < top → round - 1 < top
sooner round top lt = omega arith

-- what comes in a round and had not come in the one before is handed on
pub handed_on : (links meets : List ℕ) (rounds : List (List ℕ)) (before round owner to : ℕ) → AreRounds links meets rounds → round < length rounds → before + 1 ≡ round
    → Has (round_at rounds round) owner to → (Has (round_at rounds before) owner to → ⊥) → HandsOn links meets (round_at rounds before) owner to
handed_on links meets rounds before round owner to r small e come not_yet =
    elim (r.steps.step before (omega (arith, small, e)) owner to (subst (λ v. Has (round_at rounds v) owner to) (sym e) come)) [ inl had ↦ absurd (not_yet had) | inr on ↦ on ]

turned : {A B : Type 0} → A ⊎ B → B ⊎ A
turned (inl a) = inr a
turned (inr b) = inl b

-- a slot joins groups that are linked
pub linked_join : (slots : List Slot) (links : List ℕ) (one other : ℕ) → IsLinks slots links → Has links one other → ((n : ℕ) → JoinedAt slots (length slots) one other n → ⊥) → ⊥
linked_join slots links one other l has none =
    let a = l.only other one has in
    let s = at_from_Contains slots a.served a.one in
    let t = at_from_Contains slots a.server a.other in
    none a.served.number (record {
      at = s.0;
      small = s.1;
      served = a.served;
      is = s.2 a.served;
      number = refl;
      joined = record { at = t.0; small = t.1; server = a.server; is = t.2 a.server; joins = record { handled = a.handled; groups = turned a.groups } };
    })

-- a slot that joins the groups serves
pub served_by : (i : Image) (lines : List Line) (n by to k : ℕ) (p : Pointer) → JoinedAt i.slots (length i.slots) by to n → Says lines (length lines) k by p
    → Follows i lines (length lines) to p (rules.Served n k)
served_by i lines n by to k p j says = record {
  giver = by;
  gives = says;
  serves = record {
    served = j.served;
    server = j.joined.server;
    one = subst (Contains i.slots) j.is (Contains-get_or i.slots j.at j.served j.small);
    other = subst (Contains i.slots) j.joined.is (Contains-get_or i.slots j.joined.at j.joined.server j.joined.small);
    handled = j.joined.joins.handled;
    groups = turned j.joined.joins.groups;
  };
  number = j.number;
}

-- a pointer passes from one group to the other at a word that both reach
pub passes : (i : Image) (lines : List Line) (w k s l by to : ℕ) (p store load : Pointer) → Says lines (length lines) k by p → Says lines (length lines) s by store
    → Says lines (length lines) l to load → StoresAt store w → LoadsAt load w → Follows i lines (length lines) to p (rules.Passed w k s l)
passes i lines w k s l by to p store load says ss sl stores loads = record {
  giver = by;
  gives = says;
  store = store;
  says_store = ss;
  stores = stores;
  load = load;
  says_load = sl;
  loads = loads;
}

pub line_on : (i : Image) (g : Graph) (a b : Workspace) (h : ℕ) (p : Pointer) → GoesOn i g a b → HasLine a.lines.items h p → HasLine b.lines.items h p
line_on i g a b h p x l = (l.0, says_on i g a b l.0 h p x l.1)
