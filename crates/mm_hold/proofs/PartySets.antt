-- Sets of parties, and what is added to who passes on.
use Rattle.std.proofs.Common.{◌≡◌, ◌⊎◌, ◌↔◌, inl, inr, ℕ, zero, suc, ◌*◌, ◌%◌, ◌^◌, ◌<◌, ◌≤◌, Bool, true, false, List, [], ◌∷◌, ◌++◌}
use Rattle.std.proofs.Common.{replicate, length, slice_index, bit_and, bit_or, refl, sym, ap, ◌∙◌, subst, arith}
use Rattle.std.proofs.lemmas.{Nat.Bits.{bit_at-pow_same, bit_at-pow_other, bit_at_above}, Bool.{cases_eq, cases_lt}}
use Rattle.std.specs.{Int.bit_at}
use Rattle.mm_model.specs.{Slot.Slot, Image.Image, Turn.is_handler}
use Rattle.mm_flow.specs.{Flow.Has, Sharing.{AddsEdges, SharedBy as FlowShared}}
use Rattle.mm_flow.proofs.Bits.{or_left, or_right, or_cases, and_both, both_bits, zero_bit}
use Rattle.mm_graph.proofs.OneBits.{one_bit}
use Rattle.mm_kernel.specs.{Segments.Segment, Threads.is_kernel}
use Rattle.mm_confine.specs.declared.party.Party.{Party, TheVariants.{Group, KernelSlot}}
use Rattle.mm_confine.specs.Grants.{IsOf, IsOf.{with_group, by_itself}}
use Rattle.mm_hold.specs.declared.{parties.Parties.Parties, sharing.Sharing.Sharing, conduct.Conduct.Conduct}
use Rattle.mm_hold.specs.Parties.{In, Is, Small, IsGroup, Shares, SharedBy, SharesBit, Adds, AddsBits, Across, IsPartyOf, ServedPartyOf}
use Rattle.mm_hold.specs.Parties.{ServedParty, PassesByCaller, PassesByCaller.{serves, is_served}, PassesByKernel}
use Rattle.mm_hold.specs.Parties.{PassesByKernel.{freed, gives, sees}, PassesBySlot, PassesBySlot.{of_kernel, of_caller}, PassesAlways}
use Rattle.mm_span.proofs.Members.{none_in}
use Rattle.mm_hold.proofs.Sets.{got_old, got_new, got_cases}

-- 1. Masks.

pub mask_is : (n g : ℕ) → n < 64 → (bit_at (1 * 2 ^ n % 2 ^ 64) g ≡ 1) ↔ ((g ≡ n) × (g < 64))
mask_is n g lt = (
  λ h. elim (cases_eq g n) [
    | inl same ↦ (same, omega arith)
    | inr other ↦
        let zero = bit_at-pow_other n g other in
        let e = ap (λ v. bit_at v g) (one_bit n lt) in
        absurd (omega arith)
  ],
  λ h. ap (λ v. bit_at v g) (one_bit n lt) ∙ ap (bit_at (2 ^ n)) h.0 ∙ bit_at-pow_same n,
)

-- the mask of an equal number
pub mask_as : (m a b : ℕ) → a ≡ b → ((g : ℕ) → (bit_at m g ≡ 1) ↔ ((g ≡ a) × (g < 64))) → (g : ℕ) → (bit_at m g ≡ 1) ↔ ((g ≡ b) × (g < 64))
mask_as m a b e h = subst (λ v. (g : ℕ) → (bit_at m g ≡ 1) ↔ ((g ≡ v) × (g < 64))) e h

-- the test of an equal number
pub test_as : (t : Bool) (mask a b : ℕ) → a ≡ b → ((t ≡ true) ↔ ((a < 64) × (bit_at mask a ≡ 1))) → (t ≡ true) ↔ ((b < 64) × (bit_at mask b ≡ 1))
test_as t mask a b e h = subst (λ v. (t ≡ true) ↔ ((v < 64) × (bit_at mask v ≡ 1))) e h

pub no_mask : (n g : ℕ) → 64 ≤ n → (bit_at 0 g ≡ 1) ↔ ((g ≡ n) × (g < 64))
no_mask n g le = (λ h. absurd (zero_bit g h), λ h. let e = h.0 in let lt = h.1 in absurd (omega arith))

pub bit_below : (m g : ℕ) → m < 2 ^ 64 → bit_at m g ≡ 1 → g < 64
bit_below m g lt h = elim (cases_lt g 64) [
  | inl small ↦ small
  | inr large ↦ let zero = bit_at_above m 64 g lt large in absurd (omega arith)
]

-- 2. Sets.

abbrev none : Parties
none = record { groups = 0; slots = 0 }

pub none_is : Is (record { groups = 0; slots = 0 }) (λ x. ⊥)
none_is (Group g) = (zero_bit g, λ h. absurd h)
none_is (KernelSlot n) = (zero_bit n, λ h. absurd h)

pub both_are : (a b : Parties) → Is (record { groups = bit_or a.groups b.groups; slots = bit_or a.slots b.slots }) (λ x. In x a ⊎ In x b)
both_are a b (Group g) = (
  or_cases a.groups b.groups g,
  λ h. elim h [ inl l ↦ or_left a.groups b.groups g l | inr r ↦ or_right a.groups b.groups g r ],
)
both_are a b (KernelSlot n) = (
  or_cases a.slots b.slots n,
  λ h. elim h [ inl l ↦ or_left a.slots b.slots n l | inr r ↦ or_right a.slots b.slots n r ],
)

pub is_as : (set : Parties) (P Q : Party → Type 0) → ((x : Party) → P x → Q x) → ((x : Party) → Q x → P x) → Is set P → Is set Q
is_as set P Q to back h x = (λ k. to x ((h x).0 k), λ q. (h x).1 (back x q))

-- the set of one group, and of one slot
module _ (n m : ℕ) (e : (g : ℕ) → (bit_at m g ≡ 1) ↔ ((g ≡ n) × (g < 64))) where
  pub group_is : (x : Party) → In x (record { groups = m; slots = 0 }) ↔ ((x ≡ Group n) × Small x)
  group_is (Group g) = (
    λ h. let r = (e g).0 h in (ap Group r.0, r.1),
    λ h. let both = h.0 in let same : g ≡ n = cc in (e g).1 (same, h.1),
  )
  group_is (KernelSlot k) = (λ h. absurd (zero_bit k h), λ h. let no = h.0 in absurd (cc))

  pub slot_is : (x : Party) → In x (record { groups = 0; slots = m }) ↔ ((x ≡ KernelSlot n) × Small x)
  slot_is (KernelSlot k) = (
    λ h. let r = (e k).0 h in (ap KernelSlot r.0, r.1),
    λ h. let both = h.0 in let same : k ≡ n = cc in (e k).1 (same, h.1),
  )
  slot_is (Group g) = (λ h. absurd (zero_bit g h), λ h. let no = h.0 in absurd (cc))

  -- one slot, if it is one of a mask
  pub slot_among : (mask : ℕ) (x : Party) → In x (record { groups = 0; slots = bit_and m mask }) ↔ ((x ≡ KernelSlot n) × Small x × (bit_at mask n ≡ 1))
  slot_among mask (KernelSlot k) = (
    λ h.
        let b = both_bits m mask k h in
        let r = (e k).0 b.0 in
        (ap KernelSlot r.0, r.1, ap (bit_at mask) (sym r.0) ∙ b.1),
    λ h.
        let both = h.0 in
        let same : k ≡ n = cc in
        and_both m mask k ((e k).1 (same, h.1)) (ap (bit_at mask) same ∙ h.2),
  )
  slot_among mask (Group g) = (λ h. absurd (zero_bit g h), λ h. let no = h.0 in absurd (cc))

-- 3. Rows.

pub zeros : (n h : ℕ) → slice_index (replicate n 0) h ≡ 0
zeros zero h = refl
zeros (suc n) zero = refl
zeros (suc n) (suc h) = zeros n h

pub no_bits : (h g : ℕ) → Has (replicate 64 0) h g → ⊥
no_bits h g k = zero_bit g (ap (λ v. bit_at v g) (sym (zeros 64 h)) ∙ k)

pub none_shares : (s : Sharing) → s.groups_to_groups ≡ replicate 64 0 → s.groups_to_slots ≡ replicate 64 0 → s.slots_to_groups ≡ replicate 64 0
    → s.slots_to_slots ≡ replicate 64 0 → (y x : Party) → Shares s y x → ⊥
none_shares s a b c d (Group h) (Group g) k = no_bits h g (subst (λ l. Has l h g) a k)
none_shares s a b c d (Group h) (KernelSlot n) k = no_bits h n (subst (λ l. Has l h n) b k)
none_shares s a b c d (KernelSlot m) (Group g) k = no_bits m g (subst (λ l. Has l m g) c k)
none_shares s a b c d (KernelSlot m) (KernelSlot n) k = no_bits m n (subst (λ l. Has l m n) d k)

pub group_row : (s : Sharing) (h : ℕ) → Is (record { groups = slice_index s.groups_to_groups h; slots = slice_index s.groups_to_slots h }) (Shares s (Group h))
group_row s h (Group g) = (λ k. k, λ k. k)
group_row s h (KernelSlot n) = (λ k. k, λ k. k)

pub slot_row : (s : Sharing) (h : ℕ) → Is (record { groups = slice_index s.slots_to_groups h; slots = slice_index s.slots_to_slots h }) (Shares s (KernelSlot h))
slot_row s h (Group g) = (λ k. k, λ k. k)
slot_row s h (KernelSlot n) = (λ k. k, λ k. k)

pub edges_are : (old new : List ℕ) (from to : ℕ) → from < 2 ^ 64 → AddsEdges 64 old from to new → AddsBits old from to new
edges_are old new from to lt e h g = (
  λ k. e.only h g k,
  λ k. elim k [
    | inl before ↦ e.keeps h g before
    | inr both ↦ e.each h g (bit_below from h lt both.0) both.0 both.1
  ],
)

pub bits_are : (all from : ℕ) (sharing : List ℕ) → from < 2 ^ 64 → ((g : ℕ) → (bit_at all g ≡ 1) ↔ FlowShared 64 from sharing g)
    → (g : ℕ) → (bit_at all g ≡ 1) ↔ SharesBit from sharing g
bits_are all from sharing lt h g = (
  λ k. let r = (h g).0 k in record { by = r.by; has = r.has; shares = r.shared_now },
  λ r. (h g).1 (record { by = r.by; small = bit_below from r.by lt r.has; has = r.has; shared_now = r.shares }),
)

pub across : (s t : Sharing) (from to : Parties) → AddsBits s.groups_to_groups from.groups to.groups t.groups_to_groups
    → AddsBits s.groups_to_slots from.groups to.slots t.groups_to_slots → AddsBits s.slots_to_groups from.slots to.groups t.slots_to_groups
    → AddsBits s.slots_to_slots from.slots to.slots t.slots_to_slots → Adds (Across from to) s t
across s t from to a b c d (Group h) (Group g) = a h g
across s t from to a b c d (Group h) (KernelSlot n) = b h n
across s t from to a b c d (KernelSlot m) (Group g) = c m g
across s t from to a b c d (KernelSlot m) (KernelSlot n) = d m n

module _ (s : Sharing) (from : Parties) where
  shared_bit : (a c g : ℕ) (to_x from_x : List ℕ) (x : Party) → ((bit_at a g ≡ 1) ↔ SharesBit from.groups to_x g) → ((bit_at c g ≡ 1) ↔ SharesBit from.slots from_x g)
      → ((h : ℕ) → Has to_x h g ↔ Shares s (Group h) x) → ((m : ℕ) → Has from_x m g ↔ Shares s (KernelSlot m) x)
      → (bit_at (bit_or a c) g ≡ 1) ↔ SharedBy s from x
  shared_bit a c g to_x from_x x ea ec eg es = (
    λ h. elim (or_cases a c g h) [
      | inl l ↦ let k = ea.0 l in record { by = Group k.by; among = k.has; shares = (eg k.by).0 k.shares }
      | inr r ↦ let k = ec.0 r in record { by = KernelSlot k.by; among = k.has; shares = (es k.by).0 k.shares }
    ],
    λ k. by k.by k.among k.shares,
  )
    where
      by : (y : Party) → In y from → Shares s y x → bit_at (bit_or a c) g ≡ 1
      by (Group h) m sh = or_left a c g (ea.1 (record { by = h; has = m; shares = (eg h).1 sh }))
      by (KernelSlot h) m sh = or_right a c g (ec.1 (record { by = h; has = m; shares = (es h).1 sh }))

  pub shared_is : (a b c d : ℕ) → ((g : ℕ) → (bit_at a g ≡ 1) ↔ SharesBit from.groups s.groups_to_groups g)
      → ((g : ℕ) → (bit_at b g ≡ 1) ↔ SharesBit from.groups s.groups_to_slots g) → ((g : ℕ) → (bit_at c g ≡ 1) ↔ SharesBit from.slots s.slots_to_groups g)
      → ((g : ℕ) → (bit_at d g ≡ 1) ↔ SharesBit from.slots s.slots_to_slots g)
      → Is (record { groups = bit_or a c; slots = bit_or b d }) (SharedBy s from)
  shared_is a b c d ea eb ec ed (Group g) =
      shared_bit a c g s.groups_to_groups s.slots_to_groups (Group g) (ea g) (ec g) (λ h. (λ k. k, λ k. k)) (λ h. (λ k. k, λ k. k))
  shared_is a b c d ea eb ec ed (KernelSlot n) =
      shared_bit b d n s.groups_to_slots s.slots_to_slots (KernelSlot n) (eb n) (ed n) (λ h. (λ k. k, λ k. k)) (λ h. (λ k. k, λ k. k))

-- 4. What is added.

pub adds_then : (A B : Party → Party → Type 0) (s t u : Sharing) → Adds A s t → Adds B t u → Adds (λ y x. A y x ⊎ B y x) s u
adds_then A B s t u h k y x = (
  λ sh. elim ((k y x).0 sh) [
    | inl before ↦ elim ((h y x).0 before) [ inl old ↦ inl old | inr a ↦ inr (inl a) ]
    | inr b ↦ inr (inr b)
  ],
  λ is. elim is [
    | inl old ↦ (k y x).1 (inl ((h y x).1 (inl old)))
    | inr more ↦ elim more [
      | inl a ↦ (k y x).1 (inl ((h y x).1 (inr a)))
      | inr b ↦ (k y x).1 (inr b)
    ]
  ],
)

pub adds_as : (A B : Party → Party → Type 0) (s t : Sharing) → ((y x : Party) → A y x → B y x) → ((y x : Party) → B y x → A y x) → Adds A s t → Adds B s t
adds_as A B s t to back h y x = (
  λ sh. elim ((h y x).0 sh) [ inl old ↦ inl old | inr a ↦ inr (to y x a) ],
  λ is. elim is [ inl old ↦ (h y x).1 (inl old) | inr b ↦ (h y x).1 (inr (back y x b)) ],
)

-- 5. Slots and what they serve.

module _ (i : Image) (kept : List Segment) where
  abbrev pub OfAs : Slot → Party → Type 0
  OfAs s (Group g) = g ≡ s.group
  OfAs s (KernelSlot n) = (is_kernel i kept s.number ≡ true) × (n ≡ s.number)

  pub of_then : (s : Slot) {x : Party} → IsOf i kept s x → OfAs s x
  of_then s with_group = refl
  of_then s (by_itself e) = (e, refl)

  pub party_is : (s : Slot) (m k : ℕ) → ((g : ℕ) → (bit_at m g ≡ 1) ↔ ((g ≡ s.group) × (g < 64)))
      → ((n : ℕ) → (bit_at k n ≡ 1) ↔ ((is_kernel i kept s.number ≡ true) × (n ≡ s.number) × (n < 64)))
      → Is (record { groups = m; slots = k }) (IsPartyOf i kept s)
  party_is s m k em ek (Group g) = (
    λ h. let r = (em g).0 h in record { of = subst (λ v. IsOf i kept s (Group v)) (sym r.0) with_group; small = r.1 },
    λ p. (em g).1 (of_then s p.of, p.small),
  )
  party_is s m k em ek (KernelSlot n) = (
    λ h. let r = (ek n).0 h in record { of = subst (λ v. IsOf i kept s (KernelSlot v)) (sym r.1) (by_itself r.0); small = r.2 },
    λ p. let o = of_then s p.of in (ek n).1 (o.0, o.1, p.small),
  )

  pub served_then : (set : Parties) (s : Slot) (n : ℕ) → is_handler n s.handler ≡ true → Is set (IsPartyOf i kept s) → Is set (ServedPartyOf i kept s n)
  served_then set s n e h x = (λ k. record { handled = e; party = (h x).0 k }, λ k. (h x).1 k.party)

  pub served_else : (set : Parties) (s : Slot) (n : ℕ) → is_handler n s.handler ≡ false → Is set (λ x. ⊥) → Is set (ServedPartyOf i kept s n)
  served_else set s n e h x = (λ k. absurd ((h x).0 k), λ k. let yes = k.handled in absurd (cc))

  pub served_none : (set : Parties) (n : ℕ) → Is set (λ x. ⊥) → Is set (ServedParty i kept [] n)
  served_none set n h x = (λ k. absurd ((h x).0 k), λ k. absurd (none_in k.slot k.inside))

  pub served_more : (xs ys : List Slot) (s : Slot) (n : ℕ) (old one new : Parties) → ys ≡ xs ++ s ∷ [] → Is old (ServedParty i kept xs n)
      → Is one (ServedPartyOf i kept s n) → Is new (λ x. In x old ⊎ In x one) → Is new (ServedParty i kept ys n)
  served_more xs ys s n old one new is h k both x = (
    λ m. elim ((both x).0 m) [
      | inl before ↦ let r = (h x).0 before in record { slot = r.slot; inside = got_old xs ys s is r.slot r.inside; served = r.served }
      | inr now ↦ record { slot = s; inside = got_new xs ys s is; served = (k x).0 now }
    ],
    λ r. elim (got_cases xs ys s is r.slot r.inside) [
      | inl before ↦ (both x).1 (inl ((h x).1 (record { slot = r.slot; inside = before; served = r.served })))
      | inr same ↦ (both x).1 (inr ((k x).1 (subst (λ t. ServedPartyOf i kept t n x) (sym same) r.served)))
    ],
  )

  -- 6. What slots pass on.

  -- the groups alone of what a slot serves
  groups_are : (n : ℕ) (set alone : Parties) → alone.groups ≡ set.groups → alone.slots ≡ 0 → Is set (ServedParty i kept i.slots n)
      → Is alone (λ x. IsGroup x × ServedParty i kept i.slots n x)
  groups_are n set alone eg es h (Group g) = (
    λ k. (tt, (h (Group g)).0 (ap (λ v. bit_at v g) (sym eg) ∙ k)),
    λ k. ap (λ v. bit_at v g) eg ∙ (h (Group g)).1 k.1,
  )
  groups_are n set alone eg es h (KernelSlot m) = (
    λ k. absurd (zero_bit m (ap (λ v. bit_at v m) (sym es) ∙ k)),
    λ k. absurd k.0,
  )

  pub by_caller : (s : Slot) (m : ℕ) (set alone : Parties) (a b c : Sharing) → ((g : ℕ) → (bit_at m g ≡ 1) ↔ ((g ≡ s.group) × (g < 64)))
      → alone.groups ≡ set.groups → alone.slots ≡ 0 → Is set (ServedParty i kept i.slots s.number)
      → Adds (Across (record { groups = m; slots = 0 }) alone) a b → Adds (Across alone (record { groups = m; slots = 0 })) b c → Adds (PassesByCaller i kept s) a c
  by_caller s m set alone a b c e eg es h one two =
      let own : Parties = record { groups = m; slots = 0 } in
      let mine = group_is s.group m e in
      let theirs = groups_are s.number set alone eg es h in
      adds_as (λ y x. Across own alone y x ⊎ Across alone own y x) (PassesByCaller i kept s) a c
      (λ y x k. elim k [
        | inl there ↦
            let p = (mine y).0 there.0 in
            let q = (theirs x).0 there.1 in
            serves p.0 p.1 q.0 q.1
        | inr back ↦
            let q = (theirs y).0 back.0 in
            let p = (mine x).0 back.1 in
            is_served q.0 q.1 p.0 p.1
      ])
      (λ y x k. elim k [
        | serves same small is served ↦ inl ((mine y).1 (same, small), (theirs x).1 (is, served))
        | is_served is served same small ↦ inr ((theirs y).1 (is, served), (mine x).1 (same, small))
      ])
      (adds_then (Across own alone) (Across alone own) a b c one two)

  module _ (k : Conduct) (s : Slot) where
    -- a set that is taken if a mask has the number of the slot
    on_mask : (mask : ℕ) (b : Bool) (own set : Parties) (m : ℕ) → ((g : ℕ) → (bit_at m g ≡ 1) ↔ ((g ≡ s.number) × (g < 64))) → own ≡ record { groups = 0; slots = m }
        → ((b ≡ true) ↔ ((s.number < 64) × (bit_at mask s.number ≡ 1))) → Is set (λ x. (b ≡ true) × In x own)
        → Is set (λ x. (bit_at mask s.number ≡ 1) × (x ≡ KernelSlot s.number) × Small x)
    on_mask mask b own set m e is eb h x =
        let mine = slot_is s.number m e x in (
          λ q.
              let r = (h x).0 q in
              let p = mine.0 (subst (In x) is r.1) in
              ((eb.0 r.0).1, p.0, p.1),
          λ q.
              let small : s.number < 64 = subst Small q.1 q.2 in
              (h x).1 (eb.1 (small, q.0), subst (In x) (sym is) (mine.1 (q.1, q.2))),
        )

    pub by_kernel : (m gm : ℕ) (own set bf bg bs : Parties) (tf tg ts : Bool) (a b c d : Sharing) → ((g : ℕ) → (bit_at m g ≡ 1) ↔ ((g ≡ s.number) × (g < 64)))
        → ((g : ℕ) → (bit_at gm g ≡ 1) ↔ ((g ≡ s.group) × (g < 64))) → own ≡ record { groups = 0; slots = m }
        → Is set (ServedParty i kept i.slots s.number)
        → ((tf ≡ true) ↔ ((s.number < 64) × (bit_at k.freed s.number ≡ 1))) → Is bf (λ x. (tf ≡ true) × In x own)
        → ((tg ≡ true) ↔ ((s.number < 64) × (bit_at k.givers s.number ≡ 1))) → Is bg (λ x. (tg ≡ true) × In x own)
        → ((ts ≡ true) ↔ ((s.number < 64) × (bit_at k.seeing s.number ≡ 1))) → Is bs (λ x. (ts ≡ true) × In x own)
        → Adds (Across bf (record { groups = gm; slots = 0 })) a b → Adds (Across bg set) b c → Adds (Across set bs) c d → Adds (PassesByKernel i kept k s) a d
    by_kernel m gm own set bf bg bs tf tg ts a b c d e eg is h ef hf eg2 hg es hs one two three =
        let group : Parties = record { groups = gm; slots = 0 } in
        let f = on_mask k.freed tf own bf m e is ef hf in
        let g = on_mask k.givers tg own bg m e is eg2 hg in
        let v = on_mask k.seeing ts own bs m e is es hs in
        let mine = group_is s.group gm eg in
        adds_as (λ y x. (Across bf group y x ⊎ Across bg set y x) ⊎ Across set bs y x) (PassesByKernel i kept k s) a d
        (λ y x q. elim q [
          | inl r ↦ elim r [
            | inl out ↦ let p = (f y).0 out.0 in let w = (mine x).0 out.1 in freed p.0 p.1 p.2 w.0 w.1
            | inr given ↦ let p = (g y).0 given.0 in gives p.0 p.1 p.2 ((h x).0 given.1)
          ]
          | inr seen ↦ let p = (v x).0 seen.1 in sees p.0 ((h y).0 seen.0) p.1 p.2
        ])
        (λ y x q. elim q [
          | freed bit same small other tiny ↦ inl (inl ((f y).1 (bit, same, small), (mine x).1 (other, tiny)))
          | gives bit same small served ↦ inl (inr ((g y).1 (bit, same, small), (h x).1 served))
          | sees bit served same small ↦ inr ((h y).1 served, (v x).1 (bit, same, small))
        ])
        (adds_then (λ y x. Across bf group y x ⊎ Across bg set y x) (Across set bs) a c d (adds_then (Across bf group) (Across bg set) a b c one two) three)

  pub always_none : (k : Conduct) (s : Sharing) → ((y x : Party) → Shares s y x → ⊥) → (y x : Party) → Shares s y x ↔ PassesAlways i kept k [] y x
  always_none k s h y x = (λ q. absurd (h y x q), λ p. absurd (none_in p.slot p.inside))

  pub always_more : (k : Conduct) (xs ys : List Slot) (t : Slot) (a b : Sharing) → ys ≡ xs ++ t ∷ [] → ((y x : Party) → Shares a y x ↔ PassesAlways i kept k xs y x)
      → Adds (PassesBySlot i kept k t) a b → (y x : Party) → Shares b y x ↔ PassesAlways i kept k ys y x
  always_more k xs ys t a b is h more y x = (
    λ q. elim ((more y x).0 q) [
      | inl old ↦ let p = (h y x).0 old in record { slot = p.slot; inside = got_old xs ys t is p.slot p.inside; passes = p.passes }
      | inr now ↦ record { slot = t; inside = got_new xs ys t is; passes = now }
    ],
    λ p. elim (got_cases xs ys t is p.slot p.inside) [
      | inl old ↦ (more y x).1 (inl ((h y x).1 (record { slot = p.slot; inside = old; passes = p.passes })))
      | inr same ↦ (more y x).1 (inr (subst (λ u. PassesBySlot i kept k u y x) (sym same) p.passes))
    ],
  )

  module _ (k : Conduct) (t : Slot) (a b : Sharing) where
    pub slot_kernel : is_kernel i kept t.number ≡ true → Adds (PassesByKernel i kept k t) a b → Adds (PassesBySlot i kept k t) a b
    slot_kernel e h = adds_as (PassesByKernel i kept k t) (PassesBySlot i kept k t) a b (λ y x p. of_kernel e p)
        (λ y x p. elim p [ of_kernel f q ↦ q | of_caller f q ↦ absurd (cc) ]) h

    pub slot_caller : is_kernel i kept t.number ≡ false → Adds (PassesByCaller i kept t) a b → Adds (PassesBySlot i kept k t) a b
    slot_caller e h = adds_as (PassesByCaller i kept t) (PassesBySlot i kept k t) a b (λ y x p. of_caller e p)
        (λ y x p. elim p [ of_kernel f q ↦ absurd (cc) | of_caller f q ↦ q ]) h

-- 7. Rows of arrays.

pub has_below : (xs : List ℕ) (k g : ℕ) → Has xs k g → k < length xs
has_below [] k g h = absurd (zero_bit g h)
has_below (x ∷ xs) zero g h = omega arith
has_below (x ∷ xs) (suc k) g h = let lt = has_below xs k g h in omega arith

pub row_small : (s : Sharing) → length s.groups_to_groups ≡ 64 → length s.groups_to_slots ≡ 64 → length s.slots_to_groups ≡ 64 → length s.slots_to_slots ≡ 64
    → (y x : Party) → Shares s y x → Small y
row_small s a b c d (Group h) (Group g) k = let lt = has_below s.groups_to_groups h g k in omega arith
row_small s a b c d (Group h) (KernelSlot n) k = let lt = has_below s.groups_to_slots h n k in omega arith
row_small s a b c d (KernelSlot m) (Group g) k = let lt = has_below s.slots_to_groups m g k in omega arith
row_small s a b c d (KernelSlot m) (KernelSlot n) k = let lt = has_below s.slots_to_slots m n k in omega arith
