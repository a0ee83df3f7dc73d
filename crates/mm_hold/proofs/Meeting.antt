-- Who passes on by a store, node by node and row by row.
use Rattle.std.proofs.Common.{◌≡◌, ◌⊎◌, ◌↔◌, inl, inr, ℕ, ◌+◌, ◌<◌, ◌≤◌, Bool, true, false, ◌||◌, List, [], ◌∷◌, ◌++◌, length, get_or, slice_index, bit_and}
use Rattle.std.proofs.Common.{refl, sym, ap, ◌∙◌, subst, arith}
use Rattle.std.proofs.lemmas.Bool.{or_parts}
use Rattle.std.specs.{Prelude.Contains, List.AllByRecursion, Int.bit_at}
use Rattle.mm_model.proofs.CoreRows.{each_get}
use Rattle.mm_flow.proofs.{Bits.zero_bit, Masks.below_cases}
use Rattle.mm_flow.specs.{declared.node.{Node.Node, Right.{TheVariants.{Load, Store}}}}
use Rattle.mm_confine.specs.declared.party.Party.{Party, TheVariants.{Group, KernelSlot}}
use Rattle.mm_hold.specs.declared.{parties.Parties.Parties, sharing.Sharing.Sharing, marks.Marks.Marks}
use Rattle.mm_hold.specs.Parties.{In, Is, Small, Shares, SharedBy, Across, Adds as AddsShared}
use Rattle.mm_hold.specs.Marks.{parties_at, Held, room_of, Grows, Gives, Adds, AreAbove, MeetAt, MeetAbove}
use Rattle.mm_hold.specs.Marks.{MayPass, Below, IsNumber, PassesByStore, PassesInRow, PassesBelow, Behind, GivesBehind}
use Rattle.mm_hold.specs.Marks.{Behind.{held, behind as by_door}, Handed, SharedAt}
use Rattle.mm_hold.proofs.{PartySets.{group_is, slot_among, adds_then, adds_as}, Sets.{got_old, got_new, got_cases}}

-- 1. Nodes.

pub sets_same : (a b : Parties) → a.groups ≡ b.groups → a.slots ≡ b.slots → a ≡ b
sets_same a b e f = λ j. record { groups = e j; slots = f j }

pub shares_same : (s : Sharing) (last_from last_to from to : Parties) → last_from ≡ from → last_to ≡ to
    → ((y x : Party) → Across last_from last_to y x → Shares s y x) → AddsShared (Across from to) s s
shares_same s last_from last_to from to e f h y x = (
  λ k. inl k,
  λ k. elim k [
    | inl old ↦ old
    | inr both ↦ h y x (subst (In y) (sym e) both.0, subst (In x) (sym f) both.1)
  ],
)

pub meet_none : (a b : Marks) (s : Sharing) → AddsShared (MeetAt 0 a b) s s
meet_none a b s y x = (λ k. inl k, λ k. elim k [ inl old ↦ old | inr m ↦ let lt = m.small in absurd (omega arith) ])

pub meet_more : (a b : Marks) (n : ℕ) (s t u : Sharing) → AddsShared (MeetAt n a b) s t → AddsShared (Across (parties_at a n) (parties_at b n)) t u
    → AddsShared (MeetAt (n + 1) a b) s u
meet_more a b n s t u h k =
    adds_as (λ y x. MeetAt n a b y x ⊎ Across (parties_at a n) (parties_at b n) y x) (MeetAt (n + 1) a b) s u
    (λ y x m. elim m [
      | inl r ↦ let lt = r.small in record { at = r.at; small = omega arith; left = r.left; right = r.right }
      | inr r ↦ record { at = n; small = omega arith; left = r.0; right = r.1 }
    ])
    (λ y x m. elim (below_cases m.at n m.small) [
      | inl lt ↦ inl (record { at = m.at; small = lt; left = m.left; right = m.right })
      | inr e ↦ inr (subst (λ v. Held a y v) e m.left, subst (λ v. Held b x v) e m.right)
    ])
    (adds_then (MeetAt n a b) (Across (parties_at a n) (parties_at b n)) s t u h k)

pub last_shared : (from to : Parties) (s t : Sharing) → AddsShared (Across from to) s t → (y x : Party) → Across from to y x → Shares t y x
last_shared from to s t h y x k = (h y x).1 (inr k)

pub meets_are : (par : List ℕ) (nodes : List Node) (m stores loads : Marks) (s t : Sharing) → AreAbove par nodes Store m stores → AreAbove par nodes Load m loads
    → ((y x : Party) → Shares s y x → ⊥) → AddsShared (MeetAt (length stores.groups.items) stores loads) s t
    → (y x : Party) → Shares t y x ↔ MeetAbove par nodes m y x
meets_are par nodes m stores loads s t a b none h y x = (
  λ k. elim ((h y x).0 k) [
    | inl old ↦ absurd (none y x old)
    | inr r ↦
        let size = a.size.groups in
        let lt = r.small in
        let small : r.at < length m.groups.items = omega arith in
        record { at = r.at; small = small; stores = (a.each y r.at small).0 r.left; loads = (b.each x r.at small).0 r.right }
  ],
  λ r.
      let size = a.size.groups in
      let lt = r.small in
      (h y x).1 (inr (record { at = r.at; small = omega arith; left = (a.each y r.at r.small).1 r.stores; right = (b.each x r.at r.small).1 r.loads })),
)

-- 2. Rows.

module _ (meets : Sharing) (senders n mask : ℕ) (lt : n < 64) (e : (g : ℕ) → (bit_at mask g ≡ 1) ↔ ((g ≡ n) × (g < 64))) (groups slots : Parties)
    (rg : Is groups (Shares meets (Group n))) (rs : Is slots (Shares meets (KernelSlot n))) where
  abbrev group : Parties
  group = record { groups = mask; slots = 0 }

  abbrev slot : Parties
  slot = record { groups = 0; slots = bit_and mask senders }

  row_to : (y x : Party) → Across group groups y x ⊎ Across slot slots y x → PassesInRow meets senders n y x
  row_to y x (inl r) =
      let own = ((group_is n mask e y).0 r.0).0 in
      record {
        number = subst (IsNumber n) (sym own) refl;
        passes = record { may = subst (MayPass senders) (sym own) tt; meet = subst (λ z. Shares meets z x) (sym own) ((rg x).0 r.1) };
      }
  row_to y x (inr r) =
      let q = (slot_among n mask e senders y).0 r.0 in
      record {
        number = subst (IsNumber n) (sym q.0) refl;
        passes = record { may = subst (MayPass senders) (sym q.0) q.2; meet = subst (λ z. Shares meets z x) (sym q.0) ((rs x).0 r.1) };
      }

  row_back : (y x : Party) → PassesInRow meets senders n y x → Across group groups y x ⊎ Across slot slots y x
  row_back (Group g) x p =
      let same : g ≡ n = p.number in
      inl ((group_is n mask e (Group g)).1 (ap Group same, omega arith), (rg x).1 (subst (λ v. Shares meets (Group v) x) same p.passes.meet))
  row_back (KernelSlot m) x p =
      let same : m ≡ n = p.number in
      inr (
        (slot_among n mask e senders (KernelSlot m)).1 (ap KernelSlot same, omega arith, ap (bit_at senders) (sym same) ∙ p.passes.may),
        (rs x).1 (subst (λ v. Shares meets (KernelSlot v) x) same p.passes.meet),
      )

  pub row_is : (s t u : Sharing) → AddsShared (Across group groups) s t → AddsShared (Across slot slots) t u → AddsShared (PassesInRow meets senders n) s u
  row_is s t u h k =
      adds_as (λ y x. Across group groups y x ⊎ Across slot slots y x) (PassesInRow meets senders n) s u row_to row_back
      (adds_then (Across group groups) (Across slot slots) s t u h k)

pub rows_none : (meets : Sharing) (senders : ℕ) (s : Sharing) → AddsShared (PassesBelow meets senders 0) s s
rows_none meets senders s y x = (λ k. inl k, λ k. elim k [ inl old ↦ old | inr p ↦ absurd (none y p.number) ])
  where
    none : (z : Party) → Below 0 z → ⊥
    none (Group g) lt = omega arith
    none (KernelSlot n) lt = omega arith

pub rows_more : (meets : Sharing) (senders n : ℕ) (s t u : Sharing) → AddsShared (PassesBelow meets senders n) s t → AddsShared (PassesInRow meets senders n) t u
    → AddsShared (PassesBelow meets senders (n + 1)) s u
rows_more meets senders n s t u h k =
    adds_as (λ y x. PassesBelow meets senders n y x ⊎ PassesInRow meets senders n y x) (PassesBelow meets senders (n + 1)) s u
    (λ y x m. elim m [
      | inl p ↦ record { number = wider y p.number; passes = p.passes }
      | inr p ↦ record { number = last y p.number; passes = p.passes }
    ])
    (λ y x p. elim (which y p.number) [
      | inl lt ↦ inl (record { number = lt; passes = p.passes })
      | inr e ↦ inr (record { number = e; passes = p.passes })
    ])
    (adds_then (PassesBelow meets senders n) (PassesInRow meets senders n) s t u h k)
  where
    wider : (z : Party) → Below n z → Below (n + 1) z
    wider (Group g) lt = omega arith
    wider (KernelSlot m) lt = omega arith

    last : (z : Party) → IsNumber n z → Below (n + 1) z
    last (Group g) e = omega arith
    last (KernelSlot m) e = omega arith

    which : (z : Party) → Below (n + 1) z → Below n z ⊎ IsNumber n z
    which (Group g) lt = below_cases g n lt
    which (KernelSlot m) lt = below_cases m n lt

pub rows_all : (meets : Sharing) (senders : ℕ) (s t : Sharing) → ((y x : Party) → Shares meets y x → Small y) → AddsShared (PassesBelow meets senders 64) s t
    → AddsShared (PassesByStore meets senders) s t
rows_all meets senders s t small h =
    adds_as (PassesBelow meets senders 64) (PassesByStore meets senders) s t (λ y x p. p.passes) (λ y x p. record { number = below y (small y x p.meet); passes = p }) h
  where
    below : (z : Party) → Small z → Below 64 z
    below (Group g) lt = lt
    below (KernelSlot n) lt = lt

-- 3. What is given, one after the other.

or_falls : (a b : Bool) (old now new : Marks) → Grows old now b → Grows now new a → Grows old new (a || b)
or_falls a b old now new h k = record {
  groups = k.groups ∙ h.groups;
  slots = k.slots ∙ h.slots;
  no_rise = let x = h.no_rise in let y = k.no_rise in omega arith;
  falls = by a b h.falls k.falls;
}
  where
    by : (a b : Bool) → (b ≡ true → room_of now + 1 ≤ room_of old) → (a ≡ true → room_of new + 1 ≤ room_of now) → (a || b) ≡ true → room_of new + 1 ≤ room_of old
    by true b f g e = let x = g refl in let y = h.no_rise in omega arith
    by false true f g e = let x = f refl in let y = k.no_rise in omega arith
    by false false f g e = cc

grows_none : (m : Marks) → Grows m m false
grows_none m = record { groups = refl; slots = refl; no_rise = omega arith; falls = λ e. cc }

pub handed_none : (to : ℕ → Party → Type 0) (m : Marks) → Adds (Handed [] to) m m false
handed_none to m = record {
  grows = grows_none m;
  each = λ x k. (λ h. inl h, λ h. elim h [ inl old ↦ old | inr p ↦ absurd (let lt = p.inside.1 in omega arith) ]);
  still = λ e x k p. absurd (let lt = p.inside.1 in omega arith);
}

pub handed_more : (to : ℕ → Party → Type 0) (xs ys : List (ℕ × ℕ)) (n node : ℕ) (set : Parties) (old now new : Marks) (a b : Bool) → ys ≡ xs ++ (n, node) ∷ []
    → Is set (to n) → Adds (Handed xs to) old now b → Gives node set now new a → Adds (Handed ys to) old new (a || b)
handed_more to xs ys n node set old now new a b is e h k = record {
  grows = or_falls a b old now new h.grows k.grows;
  each = λ x m. (
    λ there. elim ((k.each x m).0 there) [
      | inl before ↦ elim ((h.each x m).0 before) [
        | inl start ↦ inl start
        | inr p ↦ inr (record { slot = p.slot; inside = got_old xs ys (n, node) is (p.slot, m) p.inside; gets = p.gets })
      ]
      | inr one ↦ inr (record { slot = n; inside = subst (λ v. Contains ys (n, v)) (sym one.0) (got_new xs ys (n, node) is); gets = (e x).0 one.1 })
    ],
    λ from. elim from [
      | inl start ↦ (k.each x m).1 (inl ((h.each x m).1 (inl start)))
      | inr p ↦ elim (got_cases xs ys (n, node) is (p.slot, m) p.inside) [
        | inl before ↦ (k.each x m).1 (inl ((h.each x m).1 (inr (record { slot = p.slot; inside = before; gets = p.gets }))))
        | inr same ↦
            let first : n ≡ p.slot = ap (λ (v : ℕ × ℕ). v.0) same in
            let second : node ≡ m = ap (λ (v : ℕ × ℕ). v.1) same in
            (k.each x m).1 (inr (sym second, (e x).1 (subst (λ v. to v x) (sym first) p.gets)))
      ]
    ],
  );
  still = λ f x m p.
      let parts = or_parts a b f in
      elim (got_cases xs ys (n, node) is (p.slot, m) p.inside) [
        | inl before ↦ h.still parts.1 x m (record { slot = p.slot; inside = before; gets = p.gets })
        | inr same ↦
            let first : n ≡ p.slot = ap (λ (v : ℕ × ℕ). v.0) same in
            let second : node ≡ m = ap (λ (v : ℕ × ℕ). v.1) same in
            let there : Held now x m = subst (λ v. Held now x v) second (k.still parts.0 x ((e x).1 (subst (λ v. to v x) (sym first) p.gets))) in
            elim ((h.each x m).0 there) [
              | inl start ↦ start
              | inr q ↦ h.still parts.1 x m q
            ]
      ];
}

behind_wider : (xs ys : List (ℕ × ℕ)) (m : Marks) → ((b : ℕ × ℕ) → Contains xs b → Contains ys b) → {x : Party} {k : ℕ} → Behind xs m x k → Behind ys m x k
behind_wider xs ys m f (held x k h) = held x k h
behind_wider xs ys m f (by_door g d k h c) = by_door g d k (behind_wider xs ys m f h) (f (d, k) c)

pub behind_none : (m : Marks) → GivesBehind [] m m false
behind_none m = record {
  grows = grows_none m;
  keeps = λ x k h. h;
  only = λ x k h. held x k h;
  same = λ e x k h. h;
  still = λ e g d k c. absurd (let lt = c.1 in omega arith);
}

pub behind_more : (xs ys : List (ℕ × ℕ)) (d node : ℕ) (old now new : Marks) (a b : Bool) → ys ≡ xs ++ (d, node) ∷ []
    → GivesBehind xs old now b → Gives node (record { groups = slice_index now.groups.items d; slots = 0 }) now new a → GivesBehind ys old new (a || b)
behind_more xs ys d node old now new a b is h k = record {
  grows = or_falls a b old now new h.grows k.grows;
  keeps = λ x m start. (k.each x m).1 (inl (h.keeps x m start));
  only = only;
  same = λ f x m there.
      let parts = or_parts a b f in
      elim ((k.each x m).0 there) [
        | inl before ↦ h.same parts.1 x m before
        | inr one ↦ h.same parts.1 x m (subst (λ v. Held now x v) (sym one.0) (k.still parts.0 x one.1))
      ];
  still = λ f g e m c start.
      let parts = or_parts a b f in
      elim (got_cases xs ys (d, node) is (e, m) c) [
        | inl before ↦ h.still parts.1 g e m before start
        | inr same ↦
            let first : d ≡ e = ap (λ (v : ℕ × ℕ). v.0) same in
            let second : node ≡ m = ap (λ (v : ℕ × ℕ). v.1) same in
            let own : Held now (Group g) d = subst (λ v. Held now (Group g) v) (sym first) (h.keeps (Group g) e start) in
            h.same parts.1 (Group g) m (subst (λ v. Held now (Group g) v) second (k.still parts.0 (Group g) own))
      ];
}
  where
    wider : (x : Party) (m : ℕ) → Held now x m → Behind ys old x m
    wider x m there = behind_wider xs ys old (λ p c. got_old xs ys (d, node) is p c) (h.only x m there)

    only : (x : Party) (m : ℕ) → Held new x m → Behind ys old x m
    only (Group g) m there = elim ((k.each (Group g) m).0 there) [
      | inl before ↦ wider (Group g) m before
      | inr one ↦ by_door g d m (wider (Group g) d one.1) (subst (λ v. Contains ys (d, v)) (sym one.0) (got_new xs ys (d, node) is))
    ]
    only (KernelSlot n) m there = elim ((k.each (KernelSlot n) m).0 there) [
      | inl before ↦ wider (KernelSlot n) m before
      | inr one ↦ absurd (zero_bit n one.1)
    ]

-- 4. What is shared.

pub shared_none : (s : Sharing) (set shared : Parties) → Is set (λ x. ⊥) → Is shared (λ x. ⊥) → Is shared (SharedBy s set)
shared_none s set shared e f x = (λ h. absurd ((f x).0 h), λ r. absurd ((e r.by).0 r.among))

shared_as : (s : Sharing) (a b : Parties) (x : Party) → ((y : Party) → In y a → In y b) → SharedBy s a x → SharedBy s b x
shared_as s a b x f r = record { by = r.by; among = f r.by r.among; shares = r.shares }

pub record SharedSoFar (top : ℕ) (s : Sharing) (old now : Marks) (changed : Bool) : Type 0 where
  pub adds : Adds (SharedAt top s old) old now changed
  pub rest : (x : Party) (k : ℕ) → top ≤ k → Held now x k → Held old x k

pub so_far_none : (s : Sharing) (m : Marks) → SharedSoFar 0 s m m false
so_far_none s m = record {
  adds = record {
    grows = grows_none m;
    each = λ x k. (λ h. inl h, λ h. elim h [ inl old ↦ old | inr p ↦ let lt = p.small in absurd (omega arith) ]);
    still = λ e x k p. let lt = p.small in absurd (omega arith);
  };
  rest = λ x k le h. h;
}

pub so_far_more : (n : ℕ) (s : Sharing) (old now new : Marks) (set : Parties) (a b : Bool) → SharedSoFar n s old now b → Is set (SharedBy s (parties_at now n))
    → Gives n set now new a → SharedSoFar (n + 1) s old new (a || b)
so_far_more n s old now new set a b h e k = record {
  adds = record {
    grows = or_falls a b old now new h.adds.grows k.grows;
    each = λ x m. (
      λ there. elim ((k.each x m).0 there) [
        | inl before ↦ elim ((h.adds.each x m).0 before) [
          | inl start ↦ inl start
          | inr p ↦ let lt = p.small in inr (record { small = omega arith; shared = p.shared })
        ]
        | inr one ↦
            let same = one.0 in
            inr (record { small = omega arith; shared = subst (λ v. SharedBy s (parties_at old v) x) (sym one.0) (to_old x ((e x).0 one.1)) })
      ],
      λ from. elim from [
        | inl start ↦ (k.each x m).1 (inl ((h.adds.each x m).1 (inl start)))
        | inr p ↦ elim (below_cases m n p.small) [
          | inl lt ↦ (k.each x m).1 (inl ((h.adds.each x m).1 (inr (record { small = lt; shared = p.shared }))))
          | inr same ↦ (k.each x m).1 (inr (same, (e x).1 (to_now x (subst (λ v. SharedBy s (parties_at old v) x) same p.shared))))
        ]
      ],
    );
    still = λ f x m p.
        let parts = or_parts a b f in
        elim (below_cases m n p.small) [
          | inl lt ↦ h.adds.still parts.1 x m (record { small = lt; shared = p.shared })
          | inr same ↦
              let own : Held now x n = k.still parts.0 x ((e x).1 (to_now x (subst (λ v. SharedBy s (parties_at old v) x) same p.shared))) in
              subst (λ v. Held old x v) (sym same) (h.rest x n (omega arith) own)
        ];
  };
  rest = λ x m le there. elim ((k.each x m).0 there) [
    | inl before ↦ h.rest x m (omega arith) before
    | inr one ↦ let same = one.0 in absurd (omega arith)
  ];
}
  where
    to_old : (x : Party) → SharedBy s (parties_at now n) x → SharedBy s (parties_at old n) x
    to_old x r = shared_as s (parties_at now n) (parties_at old n) x (λ y i. h.rest y n (omega arith) i) r

    to_now : (x : Party) → SharedBy s (parties_at old n) x → SharedBy s (parties_at now n) x
    to_now x r = shared_as s (parties_at old n) (parties_at now n) x (λ y i. (h.adds.each y n).1 (inl i)) r

pub shared_all : (s : Sharing) (old new : Marks) (n : ℕ) (changed : Bool) → n ≡ length old.groups.items → SharedSoFar n s old new changed
    → Adds (SharedAt (length old.groups.items) s old) old new changed
shared_all s old new n changed e h = subst (λ v. Adds (SharedAt v s old) old new changed) e h.adds

-- 5. Nodes within the marks.

pub node_inside : {A : Type 0} (size : ℕ) (at : A → ℕ) (xs : List A) (n : ℕ) (x : A) → AllByRecursion (λ (y : A). at y < size) xs → n < length xs → x ≡ get_or xs n x → at x < size
node_inside size at xs n x all lt e = subst (λ y. at y < size) (sym e) (each_get (λ y. at y < size) xs n x all lt)
