-- What is shared is reached, and marks that nothing changes hold all that is reached.
use Rattle.std.proofs.Common.{◌≡◌, ℕ, ◌<◌, ◌≤◌, ◌↔◌, inl, inr, Bool, false, List, length, slice_index, refl, sym, ◌∙◌}
use Rattle.std.{proofs.Common.{subst, arith}, specs.Int.bit_at}
use Rattle.mm_flow.specs.declared.node.Right.TheVariants.{Load, Store, Make}
use Rattle.mm_flow.specs.Edges.{Edges, SharingEdges, enters_at, right_at}
use Rattle.mm_flow.specs.Flow.{Has, Flows, IsFlow}
use Rattle.mm_flow.specs.Flow.Flows.{from as flow_from, along as flow_along, through as flow_through}
use Rattle.mm_flow.specs.Sharing.{Up, AreMarksAbove, AddsEdges, PropagatesShared, Up.{here, over}}
use Rattle.mm_flow.specs.Reached.{HasSome, Shares, AreSharingEdges, SharingSoFar, Reached, IsReach, Saturating}
use Rattle.mm_flow.specs.Reached.Shares.{linked as edge_linked, shared as edge_shared, by_maker as edge_by_maker}
use Rattle.mm_flow.specs.Reached.Reached.{from, along, through, linked, shared, by_maker}
use Rattle.mm_flow.proofs.{Masks.{Within-refl, Within-trans}, Bits.and_both, Walks.at_one}

Up-le : (par : List ℕ) (j k : ℕ) → Up par j k → j ≤ k
Up-le par j k (here e) = omega arith
Up-le par j k (over lt u) = let le = Up-le par j (slice_index par k) u in omega arith

pub sharing_end : (n : SharingEdges) (marks writes touches a b : List ℕ) (r l : ℕ) → length writes ≡ length marks → length touches ≡ length marks
    → AreMarksAbove n.parents marks (right_at n.nodes Store) writes → AreMarksAbove n.parents marks (right_at n.nodes Load) touches → SharingSoFar n.links writes touches (length writes) a
    → ((g : ℕ) → (bit_at r g ≡ 1) ↔ HasSome marks (right_at n.nodes Make) g) → ((g : ℕ) → (bit_at l g ≡ 1) ↔ HasSome marks (right_at n.nodes Load) g) → AddsEdges 64 a r l b → AreSharingEdges n marks b
sharing_end n marks writes touches a b r l lw lt w t f rights loads k = record {
  len = k.len ∙ f.len;
  only = λ h g x. elim (k.only h g x) [
    | inr two ↦ edge_by_maker ((rights h).0 two.0) ((loads g).0 two.1)
    | inl old ↦ elim (f.only h g old) [
      | inl z ↦ edge_linked z
      | inr m ↦ let small = m.1 in edge_shared m.0 (omega arith) (w.only m.0 h m.1 m.2) (t.only m.0 g (omega arith) m.3)
    ]
  ];
  each = λ h g small x. each_edge h g small x;
}
  where
    each_edge : (h g : ℕ) → h < 64 → Shares n marks h g → Has b h g
    each_edge h g small (edge_linked x) = k.keeps h g (f.keeps h g x)
    each_edge h g small (edge_shared m lm x y) = k.keeps h g (f.each h g m small (omega arith) (w.each m h (omega arith) x) (t.each m g (omega arith) y))
    each_edge h g small (edge_by_maker x y) = k.each h g small ((rights h).1 x) ((loads g).1 y)

module _ (e : Edges) (n : SharingEdges) (start : List ℕ) where
  -- what flows from what is reached is reached
  flows_reached : (a : List ℕ) → Saturating e n start a → (g k : ℕ) → Flows e a g k → Reached e n start g k
  flows_reached a s g k (flow_from h) = s.only g k h
  flows_reached a s g k (flow_along x j f lt lo hi is) = along x j (flows_reached a s g x f) (let q = s.len in omega arith) lo hi is
  flows_reached a s g k (flow_through x f lt kept is) = through x (flows_reached a s g x f) (let q = s.len in omega arith) kept is

  shared_reached : (a : List ℕ) → ((g k : ℕ) → Has a k g → Reached e n start g k) → length a ≡ length start → (h g k : ℕ) → h < 64 → Has a k h → Shares n a h g → Reached e n start g k
  shared_reached a only q h g k small has (edge_linked x) = linked h small (only h k has) x
  shared_reached a only q h g k small has (edge_shared m lt x y) =
      shared h m x.node y.node small (only h k has) (omega arith) (only h x.node x.marked) x.kept x.up (only g y.node y.marked) y.kept y.up
  shared_reached a only q h g k small has (edge_by_maker x y) =
      by_maker h x.node y.node small (only h k has) (let lt = x.small in omega arith) (only h x.node x.marked) x.kept (let lt = y.small in omega arith) (only g y.node y.marked) y.kept

  pub saturating_start : Saturating e n start start
  saturating_start = record { len = refl; grows = λ k. Within-refl (slice_index start k); only = λ g k x. from x }

  module _ (a b sharing c : List ℕ) (changed : Bool) (s : Saturating e n start a) (f : IsFlow e a b) (w : AreSharingEdges n b sharing) (d : PropagatesShared sharing b c changed) where
    only_b : (g k : ℕ) → Has b k g → Reached e n start g k
    only_b g k x = flows_reached a s g k (f.sound k g x)

    b_len : length b ≡ length start
    b_len = f.len ∙ s.len

    only_c : (g k : ℕ) → Has c k g → Reached e n start g k
    only_c g k x = elim (d.only k g x) [
      | inl y ↦ only_b g k y
      | inr y ↦ shared_reached b only_b b_len y.by g k y.small y.has (w.only y.by g y.shared_now)
    ]

    pub saturating_more : Saturating e n start c
    saturating_more = record {
      len = d.len ∙ b_len;
      grows = λ k. Within-trans (slice_index start k) (slice_index a k) (slice_index c k) (s.grows k) (Within-trans (slice_index a k) (slice_index b k) (slice_index c k) (f.grows k) (d.grows k));
      only = only_c;
    }

    module _ (still : changed ≡ false) where
      gets : (h g k : ℕ) → h < 64 → k < length b → Has b k h → Shares n b h g → Has b k g
      gets h g k small lt has x =
          let same = d.same still in
          subst (λ v. Has v k g) same (d.still still k g (let q = d.len in omega arith)
          (record {
            by = h;
            small = small;
            has = subst (λ v. Has v k h) (sym same) has;
            shared_now = w.each h g
                small x;
          }))

      complete : (g k : ℕ) → k < length b → Reached e n start g k → Has b k g
      complete g k lt (from x) = at_one _ _ g (f.grows k) (at_one _ _ g (s.grows k) x)
      complete g k lt (along v j r small lo hi is) =
          subst (λ z. Has b z g) is (at_one _ _ g ((f.saturated v (let q = b_len in omega arith)).cells j lo hi) (complete g v (let q = b_len in omega arith) r))
      complete g k lt (through v r small kept is) =
          subst (λ z. Has b z g) is (at_one _ _ g ((f.saturated v (let q = b_len in omega arith)).entry)
          (and_both (slice_index b v) (enters_at e v) g (complete g v (let q = b_len in omega arith) r) kept))
      complete g k lt (linked h small r x) = gets h g k small lt (complete h k lt r) (edge_linked x)
      complete g k lt (shared h m x y small r lm rx sx ux ry ly uy) =
          let q = b_len in
          let le = Up-le n.parents x m ux in
          let le2 = Up-le n.parents y m uy in
          gets h g k small lt (complete h k lt r) (edge_shared m (omega arith)
          (record { node = x; up = ux; marked = complete h x (omega arith) rx; kept = sx })
          (record { node = y; up = uy; marked = complete g y (omega arith) ry; kept = ly }))
      complete g k lt (by_maker h x y small r lx rx kx ly ry ky) =
          gets h g k small lt (complete h k lt r) (edge_by_maker (record { node = x; small = (let q = b_len in omega arith); marked = complete h x (let q = b_len in omega arith) rx; kept = kx })
          (record { node = y; small = (let q = b_len in omega arith); marked = complete g y (let q = b_len in omega arith) ry; kept = ky }))

      pub reach_end : IsReach e n start c
      reach_end = let same = d.same still in subst (IsReach e n start) (sym same) (record { len = b_len; only = only_b; each = λ g k lt r. complete g k lt r })
