-- The marks of a graph are a sound and closed summary of its image.
use Rattle.std.proofs.lemmas.{Nat.Bits.bit_at_above, Bool.cases_lt}
use Rattle.std.proofs.Common.{◌≡◌, ℕ, ◌<◌, ◌^◌, ◌⊎◌, ◌↔◌, inl, inr, Bool, IsTrue, List, length, slice_index, Some, refl}
use Rattle.std.{proofs.Common.{sym, ap, ◌∙◌, subst, arith, eqb-true, eq-eqb}, specs.Int.bit_at}
use Rattle.mm_word.specs.declared.{perm.Perm.TheVariants.{Rw, Xp, Eu, Ep}, word.{Word.TheVariants.Ptr, Cell.Cell}}
use Rattle.mm_word.specs.Pointer.{Pointer, IsBelow, enter_result}
use Rattle.mm_model.specs.{Memory.cell_at, Image.Image, Flags.in_mask}
use Rattle.mm_model.specs.Reach.{Entries, Grants, MayEnter, LoadsAt, StoresAt}
use Rattle.mm_model.specs.Reach.Grants.{in_cell, below, passed, entered, served, made}
use Rattle.mm_flow.specs.{declared.node.Right.TheVariants.Make, Edges.{Edges, SharingEdges, entry_at, right_at}}
use Rattle.mm_flow.specs.Flow.{Has}
use Rattle.mm_flow.specs.Reached.{HasSome, Reached, IsReach, Reached.{from, along, through, linked, shared, by_maker}}
use Rattle.mm_graph.specs.Summary.{IsPowerless, Holds, Includes, IsClosed, IsSound, IsExact}
use Rattle.mm_graph.specs.GraphOf.{IsGraphOf, Started, Marked}
use Rattle.mm_graph.proofs.Summaries.{exact, whole_by, whole_covers, whole_fits}

module _ (i : Image) (e : Entries) (node : ℕ → Pointer) (n : Edges) (t : SharingEdges) (start : List ℕ) (graph : IsGraphOf i e node n t start) where
  -- what is reached is granted
  granted : (g k : ℕ) → Reached n t start g k → Grants i e g (node k)
  granted g k (from h) = graph.starts k g h
  granted g k (along a j r lt lo hi is) =
      let cell = graph.targets a j lt lo hi in
      subst (λ v. Grants i e g (node v)) is (below cell.holds (in_cell (node a) cell.word cell.cell (granted g a r) cell.loads cell.at cell.is) cell.below)
  granted g k (through a r lt kept is) =
      let entry = graph.entries a g lt kept in
      subst (λ v. Grants i e g (node v)) is (below entry.to (entered (node a) (granted g a r) entry.perm entry.may entry.enters) entry.below)
  granted g k (linked h small r x) = served h (granted h k r) (graph.served g h x)
  granted g k (shared h m a b small r lm ra sa ua rb lb ub) =
      let both = graph.meeting m a b lm ua ub sa lb in
      passed h both.word (node a) (node b) (granted h k r) (granted h a ra) both.stores (granted g b rb) both.loads
  granted g k (by_maker h a b small r la ra ka lb rb kb) =
      let w = graph.loading b lb kb in
      passed h w.word (whole_by Rw) (node b) (granted h k r) (made (node a) (granted h a ra) (graph.makes a la ka) (whole_fits Rw))
      (record { word = w.loads.word; right = refl; covers = whole_covers w.word w.loads.word w.small }) (granted g b rb) w.loads

  module _ (marks : List ℕ) (r : IsReach n t start marks) (fits : (k : ℕ) → slice_index marks k < 2 ^ 64) (rights : ℕ)
      (right : (g : ℕ) → (bit_at rights g ≡ 1) ↔ HasSome marks (right_at t.nodes Make) g) where
    abbrev privileged : ℕ → Bool
    privileged = in_mask rights

    abbrev known : ℕ → Pointer → Type 0
    known = Marked node marks

    fit : (k : ℕ) → k < length marks → k < length start
    fit k lt = let q = r.len in omega arith

    unfit : (k : ℕ) → k < length start → k < length marks
    unfit k lt = let q = r.len in omega arith

    small_group : (k g : ℕ) → Has marks k g → g < 64
    small_group k g h = elim (cases_lt g 64) [ inl lt ↦ lt | inr le ↦ absurd (let none = bit_at_above (slice_index marks k) 64 g (fits k) le in omega arith) ]

    sound : IsSound i e privileged known
    sound = record {
      rights = λ g h. let x = (right g).0 (eqb-true _ _ h) in
          record { by = node x.node; granted = granted g x.node (r.only g x.node x.marked); perm = graph.makes x.node (fit x.node x.small) x.kept };
      pointers = λ g p x. subst (Grants i e g) x.is (granted g x.at (r.only g x.at x.marked));
    }

    -- a node that is marked holds its pointer, and all below it
    holds : (g k : ℕ) (q : Pointer) → k < length marks → Has marks k g → IsBelow q (node k) → Holds privileged known g q
    holds g k q lt h b = inr (inr (record { by = node k; knows = record { at = k; small = lt; marked = h; is = refl }; below = b }))

    started : (g : ℕ) (q : Pointer) → IsPowerless q ⊎ Started node start g q → Holds privileged known g q
    started g q (inl x) = inr (inl x)
    started g q (inr s) = holds g s.at q (unfit s.at s.small) (r.each g s.at (unfit s.at s.small) (from s.marked)) s.below

    makes_right : (g k : ℕ) → k < length marks → Has marks k g → (node k).perm ≡ Xp → IsTrue (privileged g)
    makes_right g k lt h x = eq-eqb _ _ ((right g).1 (record { node = k; small = lt; marked = h; kept = graph.rights k (fit k lt) x }))

    -- where each node of the one group is reached by the other
    includes : (g h : ℕ) → ((k : ℕ) → k < length marks → Has marks k h → Reached n t start g k) → Includes privileged known g h
    includes g h f = record {
      rights = λ x. let y = (right h).0 (eqb-true _ _ x) in
          makes_right g y.node y.small (r.each g y.node y.small (f y.node y.small y.marked)) (graph.makes y.node (fit y.node y.small) y.kept);
      pointers = λ p x. holds g x.at p x.small (r.each g x.at x.small (f x.at x.small x.marked)) (inl (sym x.is));
    }

    cells : (g w : ℕ) (q : Pointer) (c : Cell) (a : ℕ) → a < length marks → Has marks a g → LoadsAt (node a) w → cell_at i.memory w ≡ Some c → c.word ≡ Ptr q → Holds privileged known g q
    cells g w q c a lt h ld at is = elim (graph.cells a w c q (fit a lt) ld at is) [
      | inl x ↦ inr (inl x)
      | inr x ↦
          let lt2 = unfit (slice_index n.targets x.at) x.small in
          holds g (slice_index n.targets x.at) q lt2 (r.each g (slice_index n.targets x.at) lt2 (along a x.at (r.only g a h) (fit a lt) x.low x.high refl)) x.below
    ]

    enter : (g : ℕ) (q : Pointer) (a : ℕ) → a < length marks → Has marks a g → MayEnter e g (node a)
        → ((node a).perm ≡ Eu) ⊎ ((node a).perm ≡ Ep) → enter_result (node a) ≡ Some q → Holds privileged known g q
    enter g q a lt h may perm is = elim (graph.enters a g q (fit a lt) (small_group a g h) may perm is) [
      | inl x ↦ inr (inl x)
      | inr x ↦
          let lt2 = unfit (entry_at n a) x.small in
          holds g (entry_at n a) q lt2 (r.each g (entry_at n a) lt2 (through a (r.only g a h) (fit a lt) x.kept refl)) x.below
    ]

    shares : (g h w a b : ℕ) → a < length marks → b < length marks → Has marks a h → Has marks b g → StoresAt (node a) w → LoadsAt (node b) w → Includes privileged known g h
    shares g h w a b la lb ha hb st ld =
        let m = graph.meets a b w (fit a la) (fit b lb) st ld in
        includes g h (λ k lt x. shared h m.at a b (small_group a h ha) (r.only h k x) m.small (r.only h a ha)
        (graph.stores a w (fit a la) st) m.left (r.only g b hb) (graph.loads b w (fit b lb) ld) m.right)

    lends : (g h w b : ℕ) → b < length marks → Has marks b g → LoadsAt (node b) w → HasSome marks (right_at t.nodes Make) h → IsTrue (privileged g)
    lends g h w b lb hb ld x =
        makes_right g x.node x.small (r.each g x.node x.small (by_maker h x.node b (small_group x.node h x.marked)
        (r.only h x.node x.marked) (fit x.node x.small) (r.only h x.node x.marked) x.kept (fit b lb) (r.only g b hb)
        (graph.loads b w (fit b lb) ld)))
        (graph.makes x.node (fit x.node x.small) x.kept)

    closed : IsClosed i e privileged known
    closed = record {
      held = λ s q at reg. started s.group q (graph.held s q at reg);
      runs = λ s at. started s.group s.ip (graph.runs s at);
      loaded = λ g w p q c x ld at is. cells g w q c x.at x.small x.marked (subst (λ v. LoadsAt v w) (sym x.is) ld) at is;
      shared = λ g h w p q x st y ld. shares g h w x.at y.at x.small y.small x.marked y.marked (subst (λ v. StoresAt v w) (sym x.is) st) (subst (λ v. LoadsAt v w) (sym y.is) ld);
      by_maker = λ g h w q x y ld. lends g h w y.at y.small y.marked (subst (λ v. LoadsAt v w) (sym y.is) ld) ((right h).0 (eqb-true _ _ x));
      served = λ g h s. includes g h (λ k lt x. linked h (small_group k h x) (r.only h k x) (graph.serves g h s));
      enters = λ g p q x may perm is. enter g q x.at x.small x.marked (subst (MayEnter e g) (sym x.is) may) (subst (λ v. (v.perm ≡ Eu) ⊎ (v.perm ≡ Ep)) (sym x.is) perm) (ap enter_result x.is ∙ is);
      makes = λ g p x xp. makes_right g x.at x.small x.marked (ap (λ v. v.perm) x.is ∙ xp);
    }

    -- the audit by nodes is exact
    pub exact_marks : IsExact i e privileged known
    exact_marks = exact i e privileged known sound closed
