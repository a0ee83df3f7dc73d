-- Who runs the threads that use kept words.
use Rattle.std.proofs.Common.{◌≡◌, ◌⊎◌, ◌↔◌, inl, inr, ℕ, ◌+◌, ◌<◌, ◌&&◌, Bool, true, false, not, List, [], ◌∷◌, length, slice_index}
use Rattle.std.proofs.Common.{Option, Some, None, refl, sym, ap, ◌∙◌, subst, arith}
use Rattle.std.proofs.lemmas.{List.get_or_default, Bool.Decides.nat_tests}
use Rattle.std.specs.{Prelude.{All, Contains, MatchOption}, List.{filter}, Int.bit_at}
use Rattle.std.specs.declared.ops.Bound.TheVariants.{Included, Excluded}
use Rattle.std.specs.{Ordering.{nat_cmp, ordering_then, is_le}, BTreeMap.Range.range_contains}
use Rattle.mm_word.specs.Pointer.{Pointer, bits_of, base_of, pointer_of, SpellsPointer}
use Rattle.mm_model.specs.Image.{Image}
use Rattle.mm_flow.{specs.Flow.Has, proofs.Bits.zero_bit}
use Rattle.mm_graph.specs.declared.canonical_ptr.CanonicalPtr.{CanonicalPtr}
use Rattle.mm_graph.specs.Key.{IsKey, IsRising, key_at, key_of, no_key, pointer_at}
use Rattle.mm_graph.proofs.Rising.{same_fields, same_place}
use Rattle.mm_kernel.specs.{Segments.{Segment, is_door}, Threads.is_kernel}
use Rattle.mm_confine.specs.declared.party.Party.{Party, TheVariants.{Group, KernelSlot}}
use Rattle.mm_hold.specs.declared.{parties.Parties.Parties, sharing.Sharing.Sharing, marks.Marks.Marks}
use Rattle.mm_hold.specs.Parties.{In, Is, Across, Adds, Shares}
use Rattle.mm_hold.specs.Passing.{DoorAt, IsDoorNode, Runs, Runs.{itself, through}, RunsAtWord, PassesAtWord}
use Rattle.mm_span.proofs.Members.{none_in, in_first, in_rest, in_cases, in_filter, filter_in}

-- 1. Doors.

module _ (kept : List Segment) (keys : List CanonicalPtr) (all : All IsKey keys) where
  key_is : (k bits : ℕ) (p : Pointer) → k < length keys → (key_at keys k).bits ≡ bits → pointer_of bits ≡ p → bits_of p ≡ bits → key_at keys k ≡ key_of p
  key_is k bits p lt same is again =
      let key = all k no_key lt in
      let own : pointer_at (key_at keys k) ≡ p = ap pointer_of same ∙ is in
      let narrow = key.narrow in
      let long = ap (λ (q : Pointer). q.log) own in
      same_fields (key_at keys k) (key_of p) (key.base ∙ ap base_of own) (omega arith) (same ∙ sym again)

  pub door_found : (bits : ℕ) (p : Pointer) → pointer_of bits ≡ p → bits_of p ≡ bits → is_door kept p ≡ true → (o : Option ℕ)
      → MatchOption o (Contains keys (key_of p) → ⊥) (λ k. (k < length keys) × (key_at keys k ≡ key_of p)) → IsDoorNode kept keys bits o
  door_found bits p is again door None h =
      λ k at. h (k, at.small, get_or_default keys k (key_of p) no_key at.small ∙ key_is k bits p at.small at.same is again)
  door_found bits p is again door (Some k) h = record {
    small = h.0;
    same = ap (λ (x : CanonicalPtr). x.bits) h.1 ∙ again;
    is = ap (is_door kept) (ap pointer_at h.1 ∙ ap pointer_of again ∙ is) ∙ door;
  }

  pub door_none : (bits : ℕ) (p : Pointer) → pointer_of bits ≡ p → is_door kept p ≡ false → IsDoorNode kept keys bits None
  door_none bits p is door = λ k at.
      let yes = at.is in
      let same = ap (is_door kept) (ap pointer_of at.same ∙ is) in
      absurd (cc)

  pub door_spelled : (bits : ℕ) → (SpellsPointer bits → ⊥) → IsDoorNode kept keys bits None
  door_spelled bits none = λ k at. none (subst SpellsPointer at.same (all k no_key at.small).spells)

  pub one_node : IsRising keys → (bits j k : ℕ) → DoorAt kept keys bits j → DoorAt kept keys bits k → j ≡ k
  one_node rising bits j k a b =
      let kj = all j no_key a.small in
      let kk = all k no_key b.small in
      let same : (key_at keys j).bits ≡ (key_at keys k).bits = a.same ∙ sym b.same in
      let own : pointer_at (key_at keys j) ≡ pointer_at (key_at keys k) = ap pointer_of same in
      let nj = kj.narrow in
      let nk = kk.narrow in
      let long = ap (λ (q : Pointer). q.log) own in
      same_place keys j k rising a.small b.small (same_fields (key_at keys j) (key_at keys k) (kj.base ∙ ap base_of own ∙ sym kk.base) (omega arith) same)

-- 2. Origins.

module _ (i : Image) (kept : List Segment) (keys : List CanonicalPtr) (m : Marks) where
  abbrev R : ℕ × ℕ → Party → Type 0
  R o x = Runs i kept keys m o x

  no_kind : (n bits : ℕ) → ◌≡◌ {A = ℕ × ℕ} (0, bits) (1, n) → ⊥
  no_kind n bits e = let no : ◌≡◌ {A = ℕ} 0 1 = ap (λ (o : ℕ × ℕ). o.0) e in omega (arith, no)

  pub door_runs : All IsKey keys → IsRising keys → (bits k : ℕ) → DoorAt kept keys bits k → Is (record { groups = slice_index m.groups.items k; slots = 0 }) (R (0, bits))
  door_runs all rising bits k at (Group g) = (
    λ h. through k g refl at h refl,
    λ r. by r,
  )
    where
      by : R (0, bits) (Group g) → Has m.groups.items k g
      by (itself n e lt o same) = absurd (no_kind n bits o)
      by (through j f z there has same) =
          let group : g ≡ f = cc in
          subst (λ v. Has m.groups.items v g) (one_node kept keys all rising bits j k there at) (subst (Has m.groups.items j) (sym group) has)
  door_runs all rising bits k at (KernelSlot n) = (λ h. absurd (zero_bit n h), λ r. absurd (by r))
    where
      by : R (0, bits) (KernelSlot n) → ⊥
      by (itself s e lt o same) = no_kind s bits o
      by (through j f z there has same) = cc

  pub no_door_runs : (bits : ℕ) → IsDoorNode kept keys bits None → (set : Parties) → Is set (λ x. ⊥) → Is set (R (0, bits))
  no_door_runs bits none set h x = (λ k. absurd ((h x).0 k), λ r. absurd (by r))
    where
      by : R (0, bits) x → ⊥
      by (itself s e lt o same) = no_kind s bits o
      by (through j f z there has same) = none j there

  pub slot_runs : (n mask : ℕ) → n < 64 → ((k : ℕ) → (bit_at mask k ≡ 1) ↔ ((is_kernel i kept n ≡ true) × (k ≡ n) × (k < 64)))
      → Is (record { groups = 0; slots = mask }) (R (1, n))
  slot_runs n mask small e (KernelSlot k) = (
    λ h. let r = (e k).0 h in itself n r.0 small refl (ap KernelSlot r.1),
    λ r. by r,
  )
    where
      by : R (1, n) (KernelSlot k) → bit_at mask k ≡ 1
      by (itself s kernel lt o same) =
          let number : n ≡ s = ap (λ (v : ℕ × ℕ). v.1) o in
          let own : k ≡ s = cc in
          (e k).1 (subst (λ v. is_kernel i kept v ≡ true) (sym number) kernel, own ∙ sym number, omega arith)
      by (through j f z there has same) = absurd (let no : ◌≡◌ {A = ℕ} 1 0 = z in omega (arith, no))
  slot_runs n mask small e (Group g) = (λ h. absurd (zero_bit g h), λ r. absurd (by r))
    where
      by : R (1, n) (Group g) → ⊥
      by (itself s kernel lt o same) = cc
      by (through j f z there has same) = let no : ◌≡◌ {A = ℕ} 1 0 = z in omega (arith, no)

  pub none_runs : (o : ℕ × ℕ) → (o.0 ≡ 0 → ⊥) → (o.0 ≡ 1 → o.1 < 64 → ⊥) → (set : Parties) → Is set (λ x. ⊥) → Is set (R o)
  none_runs o zero one set h x = (λ k. absurd ((h x).0 k), λ r. absurd (by r))
    where
      by : R o x → ⊥
      by (itself s kernel lt e same) = one (ap (λ (v : ℕ × ℕ). v.0) e) (let number = ap (λ (v : ℕ × ℕ). v.1) e in omega arith)
      by (through j f z there has same) = zero z

  -- 3. Words.

  -- the uses of a word
  abbrev pub of_word : ℕ → ℕ × (ℕ × ℕ) → Bool
  of_word w = range_contains (λ (x y : ℕ × (ℕ × ℕ)). ordering_then (nat_cmp x.0 y.0) (ordering_then (nat_cmp x.1.0 y.1.0) (nat_cmp x.1.1 y.1.1)))
      (Included (w, (0, 0))) (Excluded (w + 1, (0, 0)))

  from_word : (w a b c : ℕ)
      → (is_le (ordering_then (nat_cmp w a) (ordering_then (nat_cmp 0 b) (nat_cmp 0 c)))
      && not (is_le (ordering_then (nat_cmp (w + 1) a) (ordering_then (nat_cmp 0 b) (nat_cmp 0 c))))) ≡ true → a ≡ w
  from_word w a b c h = grind (arith, nat_tests)

  to_word : (w b c : ℕ)
      → (is_le (ordering_then (nat_cmp w w) (ordering_then (nat_cmp 0 b) (nat_cmp 0 c)))
      && not (is_le (ordering_then (nat_cmp (w + 1) w) (ordering_then (nat_cmp 0 b) (nat_cmp 0 c))))) ≡ true
  to_word w b c = grind (arith, nat_tests)

  -- one of the uses is of an origin whose threads the party runs
  pub record SomeRuns (uses : List (ℕ × (ℕ × ℕ))) (x : Party) : Type 0 where
    pub use_of : ℕ × (ℕ × ℕ)
    pub inside : Contains uses use_of
    pub runs : R use_of.1 x

  pub some_none : (x : Party) → SomeRuns [] x → ⊥
  some_none x r = none_in r.use_of r.inside

  pub some_more : (u : ℕ × (ℕ × ℕ)) (us : List (ℕ × (ℕ × ℕ))) (x : Party) → SomeRuns (u ∷ us) x ↔ (R u.1 x ⊎ SomeRuns us x)
  some_more u us x = (
    λ r. elim (in_cases u us r.use_of r.inside) [
      | inl same ↦ inl (subst (λ (v : ℕ × (ℕ × ℕ)). R v.1 x) (sym same) r.runs)
      | inr later ↦ inr (record { use_of = r.use_of; inside = later; runs = r.runs })
    ],
    λ k. elim k [
      | inl r ↦ record { use_of = u; inside = in_first u us; runs = r }
      | inr r ↦ record { use_of = r.use_of; inside = in_rest u us r.use_of r.inside; runs = r.runs }
    ],
  )

  pub word_runs : (uses : List (ℕ × (ℕ × ℕ))) (w : ℕ) (x : Party) → SomeRuns (filter (of_word w) uses) x ↔ RunsAtWord i kept keys m uses w x
  word_runs uses w x = (
    λ r.
        let u = r.use_of in
        let passed = filter_in (of_word w) uses u r.inside in
        let same = from_word w u.0 u.1.0 u.1.1 passed.1 in
        record { origin = u.1; inside = subst (λ v. Contains uses (v, u.1)) same passed.0; runs = r.runs },
    λ r. record {
      use_of = (w, r.origin);
      inside = in_filter (of_word w) uses (w, r.origin) r.inside (to_word w r.origin.0 r.origin.1);
      runs = r.runs;
    },
  )

  -- what is left to add
  pub users_more : (all left rest : List (ℕ × (ℕ × ℕ))) (u : ℕ × (ℕ × ℕ)) (old one new : Parties) → left ≡ u ∷ rest
      → ((x : Party) → (In x old ⊎ SomeRuns left x) ↔ SomeRuns all x) → Is one (R u.1) → Is new (λ x. In x old ⊎ In x one)
      → (x : Party) → (In x new ⊎ SomeRuns rest x) ↔ SomeRuns all x
  users_more all left rest u old one new is h k both x = (
    λ q. elim q [
      | inl i1 ↦ elim ((both x).0 i1) [
        | inl before ↦ (h x).0 (inl before)
        | inr now ↦ (h x).0 (inr (subst (λ l. SomeRuns l x) (sym is) ((some_more u rest x).1 (inl ((k x).0 now)))))
      ]
      | inr later ↦ (h x).0 (inr (subst (λ l. SomeRuns l x) (sym is) ((some_more u rest x).1 (inr later))))
    ],
    λ r. elim ((h x).1 r) [
      | inl before ↦ inl ((both x).1 (inl before))
      | inr left_one ↦ elim ((some_more u rest x).0 (subst (λ l. SomeRuns l x) is left_one)) [
        | inl now ↦ inl ((both x).1 (inr ((k x).1 now)))
        | inr later ↦ inr later
      ]
    ],
  )

  pub users_all : (uses left : List (ℕ × (ℕ × ℕ))) (w : ℕ) (set : Parties) → left ≡ []
      → ((x : Party) → (In x set ⊎ SomeRuns left x) ↔ SomeRuns (filter (of_word w) uses) x) → Is set (RunsAtWord i kept keys m uses w)
  users_all uses left w set is h x = (
    λ q. (word_runs uses w x).0 ((h x).0 (inl q)),
    λ r. elim ((h x).1 ((word_runs uses w x).1 r)) [
      | inl q ↦ q
      | inr none ↦ absurd (some_none x (subst (λ l. SomeRuns l x) is none))
    ],
  )

  -- at one of these words
  pub record PassesAmong (stored loaded : List (ℕ × (ℕ × ℕ))) (y x : Party) : Type 0 where
    pub store : ℕ × (ℕ × ℕ)
    pub inside : Contains stored store
    pub runs : R store.1 y
    pub loads : RunsAtWord i kept keys m loaded store.0 x

  pub among_whole : (stored loaded : List (ℕ × (ℕ × ℕ))) (y x : Party) → PassesAmong stored loaded y x ↔ PassesAtWord i kept keys m stored loaded y x
  among_whole stored loaded y x = (
    λ p. record { word = p.store.0; stores = record { origin = p.store.1; inside = p.inside; runs = p.runs }; loads = p.loads },
    λ p. record { store = (p.word, p.stores.origin); inside = p.stores.inside; runs = p.stores.runs; loads = p.loads },
  )

  pub among_more : (all left rest loaded : List (ℕ × (ℕ × ℕ))) (u : ℕ × (ℕ × ℕ)) (from to : Parties) (s t v : Sharing) → left ≡ u ∷ rest
      → ((y x : Party) → (Shares t y x ⊎ PassesAmong left loaded y x) ↔ (Shares s y x ⊎ PassesAmong all loaded y x))
      → Is from (R u.1) → Is to (RunsAtWord i kept keys m loaded u.0) → Adds (Across from to) t v
      → (y x : Party) → (Shares v y x ⊎ PassesAmong rest loaded y x) ↔ (Shares s y x ⊎ PassesAmong all loaded y x)
  among_more all left rest loaded u from to s t v is h f g more y x = (
    λ q. elim q [
      | inl sh ↦ elim ((more y x).0 sh) [
        | inl old ↦ (h y x).0 (inl old)
        | inr now ↦ (h y x).0 (inr (subst (λ l. PassesAmong l loaded y x) (sym is)
            (record { store = u; inside = in_first u rest; runs = (f y).0 now.0; loads = (g x).0 now.1 })))
      ]
      | inr p ↦ (h y x).0 (inr (subst (λ l. PassesAmong l loaded y x) (sym is)
          (record { store = p.store; inside = in_rest u rest p.store p.inside; runs = p.runs; loads = p.loads })))
    ],
    λ q. elim ((h y x).1 q) [
      | inl old ↦ inl ((more y x).1 (inl old))
      | inr p ↦ by (subst (λ l. PassesAmong l loaded y x) is p)
    ],
  )
    where
      by : PassesAmong (u ∷ rest) loaded y x → Shares v y x ⊎ PassesAmong rest loaded y x
      by p = elim (in_cases u rest p.store p.inside) [
        | inl same ↦ inl ((more y x).1 (inr (
          (f y).1 (subst (λ (w : ℕ × (ℕ × ℕ)). R w.1 y) (sym same) p.runs),
          (g x).1 (subst (λ (w : ℕ × (ℕ × ℕ)). RunsAtWord i kept keys m loaded w.0 x) (sym same) p.loads),
        )))
        | inr later ↦ inr (record { store = p.store; inside = later; runs = p.runs; loads = p.loads })
      ]

  pub among_all : (stored left loaded : List (ℕ × (ℕ × ℕ))) (s t : Sharing) → left ≡ []
      → ((y x : Party) → (Shares t y x ⊎ PassesAmong left loaded y x) ↔ (Shares s y x ⊎ PassesAmong stored loaded y x))
      → Adds (PassesAtWord i kept keys m stored loaded) s t
  among_all stored left loaded s t is h y x = (
    λ sh. elim ((h y x).0 (inl sh)) [ inl old ↦ inl old | inr p ↦ inr ((among_whole stored loaded y x).0 p) ],
    λ q. by (elim q [ inl old ↦ (h y x).1 (inl old) | inr p ↦ (h y x).1 (inr ((among_whole stored loaded y x).1 p)) ]),
  )
    where
      by : Shares t y x ⊎ PassesAmong left loaded y x → Shares t y x
      by (inl sh) = sh
      by (inr p) = absurd (none_in p.store (subst (λ l. Contains l p.store) is p.inside))
