-- Where all configurations are in a list, it is decided whether one leads on to another, and each endless set has a first
-- schedule in the list.
use Rattle.std.proofs.Common.{◌≡◌, ◌⊎◌, inl, inr, ℕ, zero, suc, ◌<◌, List, [], ◌∷◌, length, refl, sym, ap, ◌∙◌, subst, slice_index_or, arith}
use Rattle.std.proofs.lemmas.List.Elements.{Contains-get_or}
use Rattle.std.specs.{Prelude.Contains}
use Rattle.mm_endless.{specs.Graphs.Leads, proofs.Descending.leads_or}
use Rattle.mm_model.specs.Image.{Image}
use Rattle.mm_span.{specs.Pairs.EachPair, proofs.Members.{none_in, in_first, in_rest, in_cases, all_at}}
use Rattle.mm_explore.specs.{Closed.{LeadsOn, IsEndless, IsFirstEndless}, Explored.{leads_to, IsLeast, IsExplored, IsAll}}
use Rattle.mm_explore.specs.{Findings.IsFinal, Schedules.Before, Searching.UpTo}
use Rattle.mm_explore.proofs.{ClosedSets.{all_alike, on_same, on_trans, end_led, final_stays_all}, Orders.{before_self, before_cases, up_to_before, before_through}}
use Rattle.mm_explore.proofs.Turning.{at, node, graph, nodes, node_inside, leads_node, walk_on, follow, same_least}

-- schedules that ascend are at one index each
pub index_one : (ts : List (List ℕ)) → EachPair Before ts → (a b : ℕ) → a < length ts → b < length ts → slice_index_or ts a [] ≡ slice_index_or ts b [] → a ≡ b
index_one [] up a b la lb e = absurd (omega (arith, la))
index_one (t ∷ ts) up zero zero la lb e = refl
index_one (t ∷ ts) up zero (suc b) la lb e =
    absurd (before_self t (subst (Before t) (sym e) (all_at (Before t) ts (slice_index_or ts b []) up.0 (Contains-get_or ts b [] (omega (arith, lb))))))
index_one (t ∷ ts) up (suc a) zero la lb e =
    absurd (before_self t (subst (Before t) e (all_at (Before t) ts (slice_index_or ts a []) up.0 (Contains-get_or ts a [] (omega (arith, la))))))
index_one (t ∷ ts) up (suc a) (suc b) la lb e = ap suc (index_one ts up.1 a b (omega (arith, la)) (omega (arith, lb)) e)

module _ (i : Image) (limit : ℕ) (list : List (List ℕ)) (k : IsExplored i limit list) (all : IsAll i list) where
  abbrev of : List ℕ → ℕ
  of s = node i list k.least all s

  abbrev spelled : ℕ → List ℕ
  spelled a = at i list k.least all a

  -- a node whose schedule leads to a schedule's configuration is its node
  node_one : (a : ℕ) (t : List ℕ) → a < length list → leads_to i (spelled a) ≡ leads_to i t → a ≡ of t
  node_one a t inside e =
      let low = node_inside i list k.least all t in
      index_one list k.in_order a (of t) inside low
      (same_least i list k.least all (spelled a) (spelled (of t)) (Contains-get_or list a [] inside) (Contains-get_or list (of t) [] low) (e ∙ sym (leads_node i list k.least all t)))

  led_to : (s t : List ℕ) → LeadsOn i s t → Leads (graph i list k.least all) (of s) (of t)
  led_to s t on =
      let f = follow i list k.least all (of s) on.items (node_inside i list k.least all s) in
      let same : leads_to i (spelled f.to) ≡ leads_to i t = f.same ∙ all_alike i (spelled (of s)) s on.items (leads_node i list k.least all s) ∙ on.leads in
      subst (Leads (graph i list k.least all) (of s)) (node_one f.to t f.inside same) f.led

  pub leads_on_or : (s t : List ℕ) → LeadsOn i s t ⊎ (LeadsOn i s t → ⊥)
  leads_on_or s t = elim (leads_or (graph i list k.least all) (of s) (of t) (nodes i list k.least all)) [
    | inl l ↦ inl (on_trans i s (spelled (of s)) t (on_same i s (spelled (of s)) (sym (leads_node i list k.least all s)))
        (on_trans i (spelled (of s)) (spelled (of t)) t (walk_on i list k.least all (of s) (of t) l.nodes (node_inside i list k.least all s) l.walk)
        (on_same i (spelled (of t)) t (leads_node i list k.least all t))))
    | inr none ↦ inr (λ on. none (led_to s t on))
  ]

  -- the first schedule of a list to which a schedule leads on
  record FirstOn (s : List ℕ) (ts : List (List ℕ)) : Type 0 where
    first : List ℕ
    inside : Contains ts first
    on : LeadsOn i s first
    before : (u : List ℕ) → Contains ts u → LeadsOn i s u → UpTo first u

  first_on : (s : List ℕ) (ts : List (List ℕ)) → EachPair Before ts → (t : List ℕ) → Contains ts t → LeadsOn i s t → FirstOn s ts
  first_on s [] up t inside on = absurd (none_in t inside)
  first_on s (x ∷ ts) up t inside on = elim (leads_on_or s x) [
    | inl here ↦ record {
      first = x;
      inside = in_first x ts;
      on = here;
      before = λ u there h. elim (in_cases x ts u there) [ inl e ↦ inl e | inr later ↦ inr (all_at (Before x) ts u up.0 later) ];
    }
    | inr none ↦
        let rest = first_on s ts up.1 t (elim (in_cases x ts t inside) [ inl e ↦ absurd (none (subst (LeadsOn i s) (sym e) on)) | inr later ↦ later ]) on in
        record {
          first = rest.first;
          inside = in_rest x ts rest.first rest.inside;
          on = rest.on;
          before = λ u there h. elim (in_cases x ts u there) [ inl e ↦ absurd (none (subst (LeadsOn i s) (sym e) h)) | inr later ↦ rest.before u later h ];
        }
  ]

  -- the least schedule of a configuration comes no later than any
  least_up_to : (s : List ℕ) → UpTo (all s).0 s
  least_up_to s = elim (before_cases (all s).0 s) [
    | inl before ↦ inr before
    | inr other ↦ elim other [
      | inl e ↦ inl e
      | inr behind ↦ absurd (all_at (IsLeast i) list (all s).0 k.least (all s).1 s behind (sym (all s).2))
    ]
  ]

  pub record HasFirstEndless (s : List ℕ) : Type 0 where
    pub first : List ℕ
    pub inside : Contains list first
    pub is : IsFirstEndless i first
    pub on : LeadsOn i s first
    pub early : UpTo first s

  up_to_both : (a b c : List ℕ) → UpTo a b → UpTo b c → UpTo a c
  up_to_both a b c (inl e) h = subst (λ x. UpTo x c) (sym e) h
  up_to_both a b c (inr h) (inl e) = inr (subst (Before a) e h)
  up_to_both a b c (inr h) (inr g) = inr (before_through a b c h g)

  pub first_endless : (s : List ℕ) → IsEndless i s → HasFirstEndless s
  first_endless s endless =
      let there = all s in
      let to : LeadsOn i s there.0 = on_same i s there.0 (sym there.2) in
      let f = first_on s list k.in_order there.0 there.1 to in
      record {
        first = f.first;
        inside = f.inside;
        is = record {
          endless = (end_led i s f.first endless.0 f.on, λ final. endless.1 (final_back f.first f.on final));
          first = λ u before on.
              let c = all u in
              let early : UpTo f.first c.0 = f.before c.0 c.1 (on_trans i s f.first c.0 f.on (on_trans i f.first u c.0 on (on_same i u c.0 (sym c.2)))) in
              before_self f.first (late f.first u c.0 early (least_up_to u) before);
        };
        on = f.on;
        early = up_to_both f.first there.0 s (f.before there.0 there.1 to) (least_up_to s);
      }
    where
      final_back : (t : List ℕ) → LeadsOn i s t → IsFinal i t → IsFinal i s
      final_back t on final =
          let back = Rattle.mm_explore.proofs.ClosedSets.ends_back i s endless.0 t on in
          Rattle.mm_explore.proofs.ClosedSets.final_like i t s (sym (final_stays_all i t back.items final) ∙ back.leads) final

      late : (f u c : List ℕ) → UpTo f c → UpTo c u → Before u f → Before f f
      late f u c a b before = up_to_before f u f (up_to_both f c u a b) before
