-- The way over the nodes within one.
use Rattle.std.proofs.lemmas.{Bool.{cases_lt, cases_eq}, Nat.Bits.{bit_at-lt, bit_at-zero, bit_at_and}}
use Rattle.std.proofs.Common.{◌≡◌, ℕ, zero, suc, ◌+◌, ◌<◌, ◌≤◌, inl, inr, List, ◌∷◌, length, slice_index, slice_set}
use Rattle.std.proofs.Common.{max, min, bit_and, bit_or, refl, sym, ap, ◌∙◌, subst, arith}
use Rattle.std.specs.Int.{bit_at}
use Rattle.mm_flow.specs.{Edges.{Edges, low_at, high_at, entry_at, enters_at}, Flow.{Within, Has}}
use Rattle.mm_flow.specs.Work.{Propagated, IsAmong, IsListed, StaysListed, HasPropagated, IsPassed, IsReady, Working}
use Rattle.mm_flow.specs.Work.{IsInner, IsOnWay, Walked, Walking, Will, Worklist, pass_of, way_of}
use Rattle.mm_flow.proofs.Masks.{Within-refl, Within-trans, Within-or_left, Within-or_right, set_cases, length_set, Set}
use Rattle.mm_flow.proofs.{Masks.Set.{here, there}, Bits.{or_cases, and_both, both_bits}}

pub at_one : (x y g : ℕ) → Within x y → bit_at x g ≡ 1 → bit_at y g ≡ 1
at_one x y g h one = let le = h g in let lt = bit_at-lt y g in omega arith

pub within_from : (x y : ℕ) → ((g : ℕ) → bit_at x g ≡ 1 → bit_at y g ≡ 1) → Within x y
within_from x y h g = two (bit_at x g) (bit_at y g) (bit_at-lt x g) (h g)
  where
    two : (a b : ℕ) → a < 2 → (a ≡ 1 → b ≡ 1) → a ≤ b
    two zero b lt f = omega arith
    two (suc zero) b lt f = let e = f refl in omega arith
    two (suc (suc n)) b lt f = absurd (omega arith)

pub zero_within : (m : ℕ) → Within 0 m
zero_within m g = let z = bit_at-zero g in omega arith

none_within : (x m : ℕ) → Within (bit_and x 0) m
none_within x m g = least _ _ _ (bit_at_and x 0 g) (bit_at-zero g)
  where
    least : (x y z : ℕ) → z ≡ min x y → y ≡ 0 → {w : ℕ} → z ≤ w
    least x y z is none = omega arith

pub and_within : (x y z : ℕ) → Within x y → Within (bit_and x z) (bit_and y z)
and_within x y z h g = least _ _ _ _ _ (bit_at_and x z g) (bit_at_and y z g) (h g)
  where
    least : (a b c d e : ℕ) → d ≡ min a c → e ≡ min b c → a ≤ b → d ≤ e
    least a b c d e p q le = omega arith

abbrev pub state : List ℕ → List ℕ → List ℕ → Worklist
state marks pending propagated = record { marks = marks; propagated = propagated; pending = pending }

-- where there are no targets
pub propagated_none : (targets old p : List ℕ) (mask lo hi : ℕ) → hi ≤ lo → Propagated (IsAmong targets lo hi) old p mask old p
propagated_none targets old p mask lo hi none = record {
  len = refl;
  grows = λ k. Within-refl (slice_index old k);
  each = λ t m. absurd (let a = m.low in let b = m.high in omega arith);
  keeps = λ k h. h;
  only = λ k g h. inl h;
  bounded = λ k h. inl h;
  no_rise = omega arith;
  room = omega arith;
}

module _ (targets old p a q : List ℕ) (mask lo d : ℕ) (h : Propagated (IsAmong targets lo d) old p mask a q) where
  wider : (d2 t : ℕ) → d ≤ d2 → IsAmong targets lo d t → IsAmong targets lo d2 t
  wider d2 t le m = record { at = m.at; low = m.low; high = (let lt = m.high in omega arith); is = m.is }

  -- targets that have the mask already
  pub propagated_free : (d2 : ℕ) → d ≤ d2 → ((j : ℕ) → d ≤ j → j < d2 → Within mask (slice_index a (slice_index targets j))) → Propagated (IsAmong targets lo d2) old p mask a q
  propagated_free d2 le free = record {
    len = h.len;
    grows = h.grows;
    each = λ t m. elim (cases_lt m.at d) [
      | inl lt ↦ h.each t (record { at = m.at; low = m.low; high = lt; is = m.is })
      | inr ge ↦ subst (λ v. Within mask (slice_index a v)) m.is (free m.at ge m.high)
    ];
    keeps = h.keeps;
    only = λ k g x. elim (h.only k g x) [ inl y ↦ inl y | inr y ↦ inr (wider d2 k le y.0, y.1) ];
    bounded = h.bounded;
    no_rise = h.no_rise;
    room = h.room;
  }

  -- targets further on
  pub propagated_on : (d2 : ℕ) (b r : List ℕ) → lo ≤ d → d ≤ d2 → Propagated (IsAmong targets d d2) a q mask b r → Propagated (IsAmong targets lo d2) old p mask b r
  propagated_on d2 b r from le k = record {
    len = k.len ∙ h.len;
    grows = λ n. Within-trans (slice_index old n) (slice_index a n) (slice_index b n) (h.grows n) (k.grows n);
    each = λ t m. elim (cases_lt m.at d) [
      | inl lt ↦ Within-trans mask (slice_index a t) (slice_index b t) (h.each t (record { at = m.at; low = m.low; high = lt; is = m.is })) (k.grows t)
      | inr ge ↦ k.each t (record { at = m.at; low = ge; high = m.high; is = m.is })
    ];
    keeps = λ n x. k.keeps n (h.keeps n x);
    only = λ n g x. elim (k.only n g x) [
      | inr y ↦ inr (record { at = y.0.at; low = (let ge = y.0.low in omega arith); high = y.0.high; is = y.0.is }, y.1)
      | inl y ↦ elim (h.only n g y) [ inl z ↦ inl z | inr z ↦ inr (wider d2 n le z.0, z.1) ]
    ];
    bounded = λ n x. elim (k.bounded n x) [
      | inr y ↦ inr (let e = h.len in omega arith)
      | inl y ↦ h.bounded n y
    ];
    no_rise = let x = h.no_rise in let y = k.no_rise in omega arith;
    room = let x = h.room in let y = k.room in omega arith;
  }

-- the steps of the way
module _ (e : Edges) (k mask at done : ℕ) (old p propagated : List ℕ) (fit : done ≤ high_at e k) where
  -- past a node that has propagated the mask from now on
  pub walked_marked : at < length propagated → IsInner e at k → enters_at e at ≡ 0 → Walked (pass_of e k mask) (way_of at done (state old p propagated))
      (way_of (at + 1) done (state old p (slice_set propagated at (bit_or (slice_index propagated at) mask))))
  walked_marked lt inner none = record {
    forth = omega arith;
    low = omega arith;
    high = fit;
    marks = propagated_none e.targets old p mask done done (omega arith);
    stays = λ i x. x;
    len = length_set propagated at _;
    others = λ i ne. elim (set_cases propagated at (bit_or (slice_index propagated at) mask) i lt) [ here is f ↦ absurd (ne is) | there nothere f ↦ f ];
    own = elim (set_cases propagated at (bit_or (slice_index propagated at) mask) at lt) [ here is f ↦ inr (f, inner, none) | there ne f ↦ absurd (ne refl) ];
  }

  -- past all that a node holds which has propagated the mask
  pub walked_by : (at2 start done2 : ℕ) (new q : List ℕ) → at < at2 → start ≡ max done (low_at e at) → done2 ≡ max start (high_at e at) → low_at e at ≤ high_at e at → IsInner e at k
      → bit_or mask (slice_index propagated at) ≡ slice_index propagated at → HasPropagated e old propagated at
      → Propagated (IsAmong e.targets done start) old p mask new q → StaysListed propagated old p new q
      → Walked (pass_of e k mask) (way_of at done (state old p propagated))
      (way_of at2 done2 (state new q propagated))
  walked_by at2 start done2 new q forth is is2 order inner has passed v stays =
      let high = inner.1 in
      record {
        forth = forth;
        low = omega arith;
        high = omega arith;
        marks = propagated_free e.targets old p new q mask done start v done2 (omega arith) (λ j lo hi.
            Within-trans mask (slice_index old (slice_index e.targets j)) (slice_index new (slice_index e.targets j))
            (Within-trans mask (slice_index propagated at) (slice_index old (slice_index e.targets j))
            (subst (Within mask) has (Within-or_left mask (slice_index propagated at)))
            (passed j (omega arith) (omega arith)))
            (v.grows (slice_index e.targets j)));
        stays = stays;
        len = refl;
        others = λ i ne. refl;
        own = inl refl;
      }

-- the start, once the mask is at the entry
module _ (e : Edges) (k : ℕ) (old p propagated a q : List ℕ) (working : Working e old propagated (k ∷ p)) (small : k < length old) (order : low_at e k ≤ high_at e k)
    (c : Propagated (λ t. t ≡ entry_at e k) old p (bit_and (slice_index old k) (enters_at e k)) a q) (stays : StaysListed propagated old p a q) where
  abbrev own : ℕ
  own = slice_index old k

  abbrev propagated2 : List ℕ
  propagated2 = slice_set propagated k (bit_or (slice_index propagated k) own)

  start_case : (i : ℕ) → Set propagated k (bit_or (slice_index propagated k) own) i
  start_case i = set_cases propagated k (bit_or (slice_index propagated k) own) i (let e = working.ready.len in omega arith)

  passed : IsPassed e old propagated
  passed = working.ready.passed

  still_listed : (i : ℕ) → (i ≡ k → ⊥) → IsListed a propagated q i
  still_listed i ne = stays i (elim (working.listed i) [
    | inr w ↦ inr w
    | inl m ↦ elim m [ inl same ↦ absurd (ne same) | inr x ↦ inl x ]
  ])

  -- it has propagated its mark, though its entry may have added to it
  own_listed : Within (slice_index a k) (bit_or (slice_index propagated k) own)
  own_listed = within_from (slice_index a k) (bit_or (slice_index propagated k) own)
      (λ g has. at_one own (bit_or (slice_index propagated k) own) g (Within-or_right (slice_index propagated k) own)
      (elim (c.only k g has) [
        | inl x ↦ x
        | inr y ↦ (both_bits own (enters_at e k) g y.1).0
      ]))

  start_entry : Within (bit_and (bit_or (slice_index propagated k) own) (enters_at e k)) (slice_index a (entry_at e k))
  start_entry = within_from (bit_and (bit_or (slice_index propagated k) own) (enters_at e k)) (slice_index a (entry_at e k)) (λ g has.
      let two = both_bits (bit_or (slice_index propagated k) own) (enters_at e k) g has in
      elim (or_cases (slice_index propagated k) own g two.0) [
        | inl x ↦ at_one (slice_index old (entry_at e k)) (slice_index a (entry_at e k)) g (c.grows (entry_at e k))
            (at_one (bit_and (slice_index propagated k) (enters_at e k)) (slice_index old (entry_at e k)) g
            (passed.entry k) (and_both (slice_index propagated k) (enters_at e k) g x two.1))
        | inr x ↦ at_one (bit_and own (enters_at e k)) (slice_index a (entry_at e k)) g (c.each (entry_at e k) refl) (and_both own (enters_at e k) g x two.1)
      ])

  grown_cells : (i j g : ℕ) → low_at e i ≤ j → j < high_at e i → Has propagated i g → Has a (slice_index e.targets j) g
  grown_cells i j g lo hi has = at_one (slice_index old (slice_index e.targets j))
      (slice_index a (slice_index e.targets j)) g (c.grows (slice_index e.targets j))
      (at_one (slice_index propagated i) (slice_index old (slice_index e.targets j)) g (passed.cells i j lo hi) has)

  pub walking_start : Walking (pass_of e k own) (state a q propagated2) (way_of (k + 1) (low_at e k) (state a q propagated2))
  walking_start = record {
    nodes = working.ready.nodes ∙ sym c.len;
    low = omega arith;
    high = order;
    marks = propagated_none e.targets a q own (low_at e k) (low_at e k) (omega arith);
    listed = λ i. elim (start_case i) [
      | here same f ↦ inr (rw (f, same) own_listed)
      | there ne f ↦ elim (still_listed i ne) [ inl m ↦ inl m | inr w ↦ inr (subst (Within (slice_index a i)) (sym f) w) ]
    ];
    len = length_set propagated k _ ∙ working.ready.len ∙ sym c.len;
    ahead = λ i le j lo hi. elim (start_case i) [
      | here same f ↦ absurd (omega arith)
      | there ne f ↦ subst (λ v. Within v (slice_index a (slice_index e.targets j))) (sym f)
          (Within-trans (slice_index propagated i) (slice_index old (slice_index e.targets j))
          (slice_index a (slice_index e.targets j)) (passed.cells i j lo hi) (c.grows (slice_index e.targets j)))
    ];
    entry = λ i. elim (start_case i) [
      | here same f ↦ rw (f, same) start_entry
      | there ne f ↦ subst (λ v. Within (bit_and v (enters_at e i)) (slice_index a (entry_at e i))) (sym f)
          (Within-trans (bit_and (slice_index propagated i) (enters_at e i)) (slice_index old (entry_at e i))
          (slice_index a (entry_at e i)) (passed.entry i) (c.grows (entry_at e i)))
    ];
    before = λ i j g lo hi has. elim (start_case i) [
      | there ne f ↦ inl (grown_cells i j g lo hi (ap (λ v. bit_at v g) (sym f) ∙ has))
      | here same f ↦ elim (or_cases (slice_index propagated k) own g (ap (λ v. bit_at v g) (sym f) ∙ has)) [
        | inl x ↦ inl (grown_cells i j g lo hi (subst (λ v. Has propagated v g) (sym same) x))
        | inr x ↦ inr (x, subst (λ v. IsInner e v k) (sym same) (omega arith, omega arith))
      ]
    ];
  }

module _ (e : Edges) (k mask at done : ℕ) (start : Worklist) (a q propagated : List ℕ)
    (w : Walking (pass_of e k mask) start (way_of at done (state a q propagated))) where
  abbrev old : List ℕ
  old = start.marks

  abbrev p : List ℕ
  p = start.pending

  pub on_way : k < length old → at < length old → IsOnWay (pass_of e k mask) (way_of at done (state a q propagated))
  on_way lk la =
      let same : length old ≡ length a = sym w.marks.len in
      record { nodes = w.nodes ∙ same; len = w.len ∙ same; outer = omega arith; node = omega arith; end = w.high; passed = w.ahead at (omega arith) }

  module _ (at2 done2 : ℕ) (b r propagated2 : List ℕ) (s : Walked (pass_of e k mask) (way_of at done (state a q propagated)) (way_of at2 done2 (state b r propagated2))) where
    grown : (i j g : ℕ) → Has a (slice_index e.targets j) g → Has b (slice_index e.targets j) g
    grown i j g h = at_one _ _ g (s.marks.grows (slice_index e.targets j)) h

    still : (i j g : ℕ) → low_at e i ≤ j → j < high_at e i → Has propagated i g → Will (pass_of e k mask) b i j g
    still i j g lo hi has = elim (w.before i j g lo hi has) [ inl x ↦ inl (grown i j g x) | inr x ↦ inr x ]

    itself : (j g : ℕ) → low_at e at ≤ j → j < high_at e at → Has propagated2 at g → Will (pass_of e k mask) b at j g
    itself j g lo hi has = elim s.own [
      | inl same ↦ still at j g lo hi (ap (λ v. bit_at v g) (sym same) ∙ has)
      | inr more ↦ elim (or_cases (slice_index propagated at) mask g (ap (λ v. bit_at v g) (sym more.0) ∙ has)) [
        | inl x ↦ still at j g lo hi x
        | inr x ↦ inr (x, more.1)
      ]
    ]

    more : (n : ℕ) → Within (slice_index propagated n) (slice_index propagated2 n)
    more n = elim (cases_eq n at) [
      | inr ne ↦ subst (Within (slice_index propagated n)) (sym (s.others n ne)) (Within-refl (slice_index propagated n))
      | inl same ↦ subst (λ v. Within (slice_index propagated v) (slice_index propagated2 v)) (sym same) (elim s.own [
        | inl kept ↦ subst (Within (slice_index propagated at)) (sym kept) (Within-refl (slice_index propagated at))
        | inr new ↦ subst (Within (slice_index propagated at)) (sym new.0) (Within-or_left (slice_index propagated at) mask)
      ])
    ]

    kept_entry : (i : ℕ) → slice_index propagated2 i ≡ slice_index propagated i → Within (bit_and (slice_index propagated2 i) (enters_at e i)) (slice_index b (entry_at e i))
    kept_entry i same = subst (λ v. Within (bit_and v (enters_at e i)) (slice_index b (entry_at e i))) (sym same)
        (Within-trans (bit_and (slice_index propagated i) (enters_at e i)) (slice_index a (entry_at e i)) (slice_index b (entry_at e i)) (w.entry i) (s.marks.grows (entry_at e i)))

    pub walking_more : Walking (pass_of e k mask) start (way_of at2 done2 (state b r propagated2))
    walking_more = record {
      nodes = w.nodes;
      low = let x = w.low in let y = s.low in omega arith;
      high = s.high;
      marks = propagated_on e.targets old p a q mask (low_at e k) done w.marks done2 b r w.low s.low s.marks;
      listed = λ i. elim (s.stays i (w.listed i)) [ inl m ↦ inl m | inr x ↦ inr (Within-trans (slice_index b i) (slice_index propagated i) (slice_index propagated2 i) x (more i)) ];
      len = s.len ∙ w.len;
      ahead = λ i le j lo hi.
          let forth = s.forth in
          let kept : slice_index propagated2 i ≡ slice_index propagated i = s.others i (λ same. omega arith) in
          subst (λ v. Within v (slice_index b (slice_index e.targets j))) (sym kept)
          (Within-trans (slice_index propagated i) (slice_index a (slice_index e.targets j))
          (slice_index b (slice_index e.targets j)) (w.ahead i (omega arith) j lo hi)
          (s.marks.grows (slice_index e.targets j)));
      entry = λ i. elim (cases_eq i at) [
        | inr ne ↦ kept_entry i (s.others i ne)
        | inl same ↦ subst (λ v. Within (bit_and (slice_index propagated2 v) (enters_at e v)) (slice_index b (entry_at e v))) (sym same) (elim s.own [
          | inl kept ↦ kept_entry at kept
          | inr new ↦ subst (λ v. Within (bit_and (slice_index propagated2 at) v) (slice_index b (entry_at e at)))
              (sym new.2) (none_within (slice_index propagated2 at) (slice_index b (entry_at e at)))
        ])
      ];
      before = λ i j g lo hi has. elim (cases_eq i at) [
        | inl same ↦ subst (λ v. Will (pass_of e k mask) b v j g) (sym same)
            (itself j g (subst (λ v. low_at e v ≤ j) same lo) (subst (λ v. j < high_at e v) same hi)
            (subst (λ v. Has propagated2 v g) same has))
        | inr ne ↦ still i j g lo hi (ap (λ v. bit_at v g) (sym (s.others i ne)) ∙ has)
      ];
    }

  module _ (b r : List ℕ) (v : Propagated (IsAmong e.targets done (high_at e k)) a q mask b r) where
    pub walking_marks : Propagated (IsAmong e.targets (low_at e k) (high_at e k)) old p mask b r
    walking_marks = propagated_on e.targets old p a q mask (low_at e k) done w.marks (high_at e k) b r w.low w.high v

    cells : (i j : ℕ) → low_at e i ≤ j → j < high_at e i → Within (slice_index propagated i) (slice_index b (slice_index e.targets j))
    cells i j lo hi = within_from _ _ (λ g has. elim (w.before i j g lo hi has) [
      | inl x ↦ at_one _ _ g (v.grows (slice_index e.targets j)) x
      | inr x ↦
          let low = x.1.0 in
          let high = x.1.1 in
          at_one _ _ g (walking_marks.each (slice_index e.targets j) (record { at = j; low = omega arith; high = omega arith; is = refl })) x.0
    ])

    walking_passed : IsPassed e b propagated
    walking_passed = record {
      cells = cells;
      entry = λ i. Within-trans (bit_and (slice_index propagated i) (enters_at e i)) (slice_index a (entry_at e i)) (slice_index b (entry_at e i)) (w.entry i) (v.grows (entry_at e i));
    }

    pub walking_working : StaysListed propagated a q b r → Working e b propagated r
    walking_working stays =
        let same : length old ≡ length b = sym w.marks.len ∙ sym v.len in
        record { ready = record { nodes = w.nodes ∙ same; len = w.len ∙ same; passed = walking_passed }; listed = λ i. stays i (w.listed i) }

-- what nodes have propagated stays at their targets when marks grow
passed_still : (e : Edges) (a b propagated : List ℕ) → ((n : ℕ) → Within (slice_index a n) (slice_index b n)) → IsPassed e a propagated → IsPassed e b propagated
passed_still e a b propagated grows h = record {
  cells = λ i j lo hi. Within-trans (slice_index propagated i) (slice_index a (slice_index e.targets j))
      (slice_index b (slice_index e.targets j)) (h.cells i j lo hi) (grows (slice_index e.targets j));
  entry = λ i. Within-trans (bit_and (slice_index propagated i) (enters_at e i)) (slice_index a (entry_at e i)) (slice_index b (entry_at e i)) (h.entry i) (grows (entry_at e i));
}

pub ready_still : (e : Edges) (a b propagated : List ℕ) → length b ≡ length a → ((n : ℕ) → Within (slice_index a n) (slice_index b n)) → IsReady e a propagated → IsReady e b propagated
ready_still e a b propagated len grows h = record { nodes = h.nodes ∙ sym len; len = h.len ∙ sym len; passed = passed_still e a b propagated grows h.passed }
