-- What a conduct has noted, deed by deed.
use Rattle.std.proofs.Common.{◌≡◌, ◌⊎◌, ◌↔◌, inl, inr, ℕ, ◌<◌, List, [], ◌∷◌, ◌++◌, bit_or, sym, ap, ◌∙◌, subst}
use Rattle.std.proofs.lemmas.List.Elements.{Contains-append_left, Contains-append_right, Contains-append_cases}
use Rattle.std.specs.{Prelude.Contains, Int.bit_at, List.flat_map, BTreeSet.{BTreeSet, insert_key}}
use Rattle.std.specs.Ordering.{nat_cmp, ordering_then}
use Rattle.mm_word.specs.Pointer.{Pointer as PointerValue, SpellsPointer, bits_of, pointer_of}
use Rattle.mm_model.specs.{Image.Image, Spelling.IsImage}
use Rattle.mm_flow.proofs.Bits.{or_left, or_right, or_cases, zero_bit}
use Rattle.mm_kernel.specs.{Segments.Segment, declared.thread.Origin.Origin}
use Rattle.mm_span.proofs.Members.{none_in, in_first, in_cases, in_flat, flat_in}
use Rattle.mm_hold.specs.declared.{deed.Deed.Deed, conduct.Conduct.Conduct}
use Rattle.mm_hold.specs.Deeds.{Findings, all_deeds}
use Rattle.mm_hold.specs.Conducts.{AreAll, AreDeeds, AreFindings, Grown, IsRead, IsSpelled, Marks, MarksAll, Notes, NotesFrom, SomeDeed}
use Rattle.mm_hold.specs.Conducts.{AreConduct, origin_numbers, has_in, stored_by, loaded_by, sent_in, given_in}
use Rattle.mm_hold.specs.Conducts.{sends_in, gives_in, sees_in, goes_in}
use Rattle.mm_hold.proofs.{Sets.{all_same, all_then, all_as, pair_added, first_added, last_added}, Deeds.deeds_are}
use Rattle.mm_hold.specs.declared.deed.Deed.TheVariants as deed

-- 1. Deeds of two lists.

module _ {K : Type 0} (of : Deed → List K) (a b : List Deed) (e : K) where
  of_left : Contains (flat_map of a) e → Contains (flat_map of (a ++ b)) e
  of_left h = let k = flat_in of a e h in in_flat of (a ++ b) k.source e (Contains-append_left a b k.source k.inside) k.has

  of_right : Contains (flat_map of b) e → Contains (flat_map of (a ++ b)) e
  of_right h = let k = flat_in of b e h in in_flat of (a ++ b) k.source e (Contains-append_right a b k.source k.inside) k.has

  of_cases : Contains (flat_map of (a ++ b)) e → Contains (flat_map of a) e ⊎ Contains (flat_map of b) e
  of_cases h =
      let k = flat_in of (a ++ b) e h in
      elim (Contains-append_cases a b k.source k.inside) [
        | inl left ↦ inl (in_flat of a k.source e left k.has)
        | inr right ↦ inr (in_flat of b k.source e right k.has)
      ]

grown_join : {K : Type 0} (of : Deed → List K) (a b : List Deed) (x y z : List K) → Grown of a x y → Grown of b y z → Grown of (a ++ b) x z
grown_join of a b x y z h k =
    all_then (Contains (flat_map of a)) (Contains (flat_map of b)) (Contains (flat_map of (a ++ b))) x y z
    (of_left of a b) (of_right of a b) (of_cases of a b) h k

marks_join : (of : Deed → List ℕ) (a b : List Deed) (x y z : ℕ) → Marks of a x y → Marks of b y z → Marks of (a ++ b) x z
marks_join of a b x y z h k n = (
  λ m. elim ((k n).0 m) [
    | inl before ↦ elim ((h n).0 before) [ inl old ↦ inl old | inr one ↦ inr (one.0, of_left of a b n one.1) ]
    | inr two ↦ inr (two.0, of_right of a b n two.1)
  ],
  λ is. elim is [
    | inl old ↦ (k n).1 (inl ((h n).1 (inl old)))
    | inr some ↦ elim (of_cases of a b n some.1) [
      | inl one ↦ (k n).1 (inl ((h n).1 (inr (some.0, one))))
      | inr two ↦ (k n).1 (inr (some.0, two))
    ]
  ],
)

pub notes_join : (a b : List Deed) (x y z : Conduct) → Notes a x y → Notes b y z → Notes (a ++ b) x z
notes_join a b x y z h k = record {
  has = grown_join has_in a b x.has.keys y.has.keys z.has.keys h.has k.has;
  stored = grown_join stored_by a b x.stored.keys y.stored.keys z.stored.keys h.stored k.stored;
  loaded = grown_join loaded_by a b x.loaded.keys y.loaded.keys z.loaded.keys h.loaded k.loaded;
  sent = grown_join sent_in a b x.sent.keys y.sent.keys z.sent.keys h.sent k.sent;
  given = grown_join given_in a b x.given.keys y.given.keys z.given.keys h.given k.given;
  senders = marks_join sends_in a b x.senders y.senders z.senders h.senders k.senders;
  givers = marks_join gives_in a b x.givers y.givers z.givers h.givers k.givers;
  seeing = marks_join sees_in a b x.seeing y.seeing z.seeing h.seeing k.seeing;
  freed = marks_join goes_in a b x.freed y.freed z.freed h.freed k.freed;
  read = λ d c. elim (Contains-append_cases a b d c) [ inl left ↦ h.read d left | inr right ↦ k.read d right ];
}

pub notes_more : (a b c : List Deed) (x y z : Conduct) → c ≡ a ++ b → Notes a x y → Notes b y z → Notes c x z
notes_more a b c x y z is h k = subst (λ l. Notes l x z) (sym is) (notes_join a b x y z h k)

-- 2. One deed.

still : (m : ℕ) (n : ℕ) → (bit_at m n ≡ 1) ↔ ((bit_at m n ≡ 1) ⊎ ((n < 64) × Contains [] n))
still m n = (λ h. inl h, λ h. elim h [ inl old ↦ old | inr one ↦ absurd (none_in n one.1) ])

one_mark : (m k n : ℕ) → ((g : ℕ) → (bit_at k g ≡ 1) ↔ ((g ≡ n) × (g < 64))) → (g : ℕ) → (bit_at (bit_or m k) g ≡ 1) ↔ ((bit_at m g ≡ 1) ⊎ ((g < 64) × Contains (n ∷ []) g))
one_mark m k n e g = (
  λ h. elim (or_cases m k g h) [
    | inl old ↦ inl old
    | inr one ↦ let r = (e g).0 one in inr (r.1, subst (Contains (n ∷ [])) (sym r.0) (in_first n []))
  ],
  λ h. elim h [
    | inl old ↦ or_left m k g old
    | inr one ↦ elim (in_cases n [] g one.1) [
      | inl same ↦ or_right m k g ((e g).1 (sym same, one.0))
      | inr none ↦ absurd (none_in g none)
    ]
  ],
)

-- a pointer is spelled by the bits that are its own
pub spelled : (p : PointerValue) (b : ℕ) → b ≡ bits_of p → SpellsPointer b → pointer_of b ≡ p → IsSpelled p
spelled p b is spells again = record { spells = subst SpellsPointer is spells; again = ap pointer_of (sym is) ∙ again }

-- one deed that is read
one_read : (d : Deed) → IsRead d → (e : Deed) → Contains (d ∷ []) e → IsRead e
one_read d r e c = elim (in_cases d [] e c) [ inl same ↦ subst IsRead same r | inr none ↦ absurd (none_in e none) ]

pub notes_none : (x : Conduct) → Notes [] x x
notes_none x = record {
  has = all_same x.has.keys;
  stored = all_same x.stored.keys;
  loaded = all_same x.loaded.keys;
  sent = all_same x.sent.keys;
  given = all_same x.given.keys;
  senders = still x.senders;
  givers = still x.givers;
  seeing = still x.seeing;
  freed = still x.freed;
  read = λ d c. absurd (none_in d c);
}

pub noted_has : (x : Conduct) (s : BTreeSet ((ℕ × ℕ) × ℕ)) (from : Origin) (p : PointerValue) (n : ℕ × ℕ) (b : ℕ) → n ≡ origin_numbers from → b ≡ bits_of p
    → IsRead (deed.Has from p) → s.keys ≡ insert_key (λ (x y : (ℕ × ℕ) × ℕ). ordering_then (ordering_then (nat_cmp x.0.0 y.0.0) (nat_cmp x.0.1 y.0.1)) (nat_cmp x.1 y.1)) x.has.keys (n, b)
    → Notes (deed.Has from p ∷ []) x (record x { has = s })
noted_has x s from p n b en eb read is = record {
  has = subst (λ (v : ℕ × ℕ). AreAll (λ e. Contains x.has.keys e ⊎ Contains ((v, bits_of p) ∷ []) e) s.keys) en
      (subst (λ v. AreAll (λ e. Contains x.has.keys e ⊎ Contains ((n, v) ∷ []) e) s.keys) eb
      (subst (AreAll (λ e. Contains x.has.keys e ⊎ Contains ((n, b) ∷ []) e)) (sym is) (first_added x.has.keys (n, b))));
  stored = all_same x.stored.keys;
  loaded = all_same x.loaded.keys;
  sent = all_same x.sent.keys;
  given = all_same x.given.keys;
  senders = still x.senders;
  givers = still x.givers;
  seeing = still x.seeing;
  freed = still x.freed;
  read = one_read (deed.Has from p) read;
}

use_noted : (old new : List (ℕ × (ℕ × ℕ))) (w : ℕ) (from : Origin) (n : ℕ × ℕ) → n ≡ origin_numbers from
    → new ≡ insert_key (λ (x y : ℕ × (ℕ × ℕ)). ordering_then (nat_cmp x.0 y.0) (ordering_then (nat_cmp x.1.0 y.1.0) (nat_cmp x.1.1 y.1.1))) old (w, n)
    → AreAll (λ e. Contains old e ⊎ Contains ((w, origin_numbers from) ∷ []) e) new
use_noted old new w from n en is =
    subst (λ (v : ℕ × ℕ). AreAll (λ e. Contains old e ⊎ Contains ((w, v) ∷ []) e) new) en
    (subst (AreAll (λ e. Contains old e ⊎ Contains ((w, n) ∷ []) e)) (sym is) (last_added old (w, n)))

pub noted_stored : (x : Conduct) (s : BTreeSet (ℕ × (ℕ × ℕ))) (w : ℕ) (from : Origin) (n : ℕ × ℕ) → n ≡ origin_numbers from → IsRead (deed.Stored w from)
    → s.keys ≡ insert_key (λ (x y : ℕ × (ℕ × ℕ)). ordering_then (nat_cmp x.0 y.0) (ordering_then (nat_cmp x.1.0 y.1.0) (nat_cmp x.1.1 y.1.1))) x.stored.keys (w, n)
    → Notes (deed.Stored w from ∷ []) x (record x { stored = s })
noted_stored x s w from n en read is = record {
  has = all_same x.has.keys;
  stored = use_noted x.stored.keys s.keys w from n en is;
  loaded = all_same x.loaded.keys;
  sent = all_same x.sent.keys;
  given = all_same x.given.keys;
  senders = still x.senders;
  givers = still x.givers;
  seeing = still x.seeing;
  freed = still x.freed;
  read = one_read (deed.Stored w from) read;
}

pub noted_loaded : (x : Conduct) (s : BTreeSet (ℕ × (ℕ × ℕ))) (w : ℕ) (from : Origin) (n : ℕ × ℕ) → n ≡ origin_numbers from → IsRead (deed.Loaded w from)
    → s.keys ≡ insert_key (λ (x y : ℕ × (ℕ × ℕ)). ordering_then (nat_cmp x.0 y.0) (ordering_then (nat_cmp x.1.0 y.1.0) (nat_cmp x.1.1 y.1.1))) x.loaded.keys (w, n)
    → Notes (deed.Loaded w from ∷ []) x (record x { loaded = s })
noted_loaded x s w from n en read is = record {
  has = all_same x.has.keys;
  stored = all_same x.stored.keys;
  loaded = use_noted x.loaded.keys s.keys w from n en is;
  sent = all_same x.sent.keys;
  given = all_same x.given.keys;
  senders = still x.senders;
  givers = still x.givers;
  seeing = still x.seeing;
  freed = still x.freed;
  read = one_read (deed.Loaded w from) read;
}

hand_noted : (old new : List (ℕ × ℕ)) (n b : ℕ) (p : PointerValue) → b ≡ bits_of p
    → new ≡ insert_key (λ (x y : ℕ × ℕ). ordering_then (nat_cmp x.0 y.0) (nat_cmp x.1 y.1)) old (n, b)
    → AreAll (λ e. Contains old e ⊎ Contains ((n, bits_of p) ∷ []) e) new
hand_noted old new n b p eb is =
    subst (λ v. AreAll (λ e. Contains old e ⊎ Contains ((n, v) ∷ []) e) new) eb
    (subst (AreAll (λ e. Contains old e ⊎ Contains ((n, b) ∷ []) e)) (sym is) (pair_added old (n, b)))

pub noted_sent : (x : Conduct) (s : BTreeSet (ℕ × ℕ)) (n b : ℕ) (p : PointerValue) → b ≡ bits_of p → IsRead (deed.Sent n p)
    → s.keys ≡ insert_key (λ (x y : ℕ × ℕ). ordering_then (nat_cmp x.0 y.0) (nat_cmp x.1 y.1)) x.sent.keys (n, b) → Notes (deed.Sent n p ∷ []) x (record x { sent = s })
noted_sent x s n b p eb read is = record {
  has = all_same x.has.keys;
  stored = all_same x.stored.keys;
  loaded = all_same x.loaded.keys;
  sent = hand_noted x.sent.keys s.keys n b p eb is;
  given = all_same x.given.keys;
  senders = still x.senders;
  givers = still x.givers;
  seeing = still x.seeing;
  freed = still x.freed;
  read = one_read (deed.Sent n p) read;
}

pub noted_given : (x : Conduct) (s : BTreeSet (ℕ × ℕ)) (n b : ℕ) (p : PointerValue) → b ≡ bits_of p → IsRead (deed.Given n p)
    → s.keys ≡ insert_key (λ (x y : ℕ × ℕ). ordering_then (nat_cmp x.0 y.0) (nat_cmp x.1 y.1)) x.given.keys (n, b) → Notes (deed.Given n p ∷ []) x (record x { given = s })
noted_given x s n b p eb read is = record {
  has = all_same x.has.keys;
  stored = all_same x.stored.keys;
  loaded = all_same x.loaded.keys;
  sent = all_same x.sent.keys;
  given = hand_noted x.given.keys s.keys n b p eb is;
  senders = still x.senders;
  givers = still x.givers;
  seeing = still x.seeing;
  freed = still x.freed;
  read = one_read (deed.Given n p) read;
}

module _ (x : Conduct) (n k : ℕ) (e : (g : ℕ) → (bit_at k g ≡ 1) ↔ ((g ≡ n) × (g < 64))) where
  pub noted_sends : Notes (deed.Sends n ∷ []) x (record x { senders = bit_or x.senders k })
  noted_sends = record {
    has = all_same x.has.keys;
    stored = all_same x.stored.keys;
    loaded = all_same x.loaded.keys;
    sent = all_same x.sent.keys;
    given = all_same x.given.keys;
    senders = one_mark x.senders k n e;
    givers = still x.givers;
    seeing = still x.seeing;
    freed = still x.freed;
    read = one_read (deed.Sends n) tt;
  }

  pub noted_gives : Notes (deed.Gives n ∷ []) x (record x { givers = bit_or x.givers k })
  noted_gives = record {
    has = all_same x.has.keys;
    stored = all_same x.stored.keys;
    loaded = all_same x.loaded.keys;
    sent = all_same x.sent.keys;
    given = all_same x.given.keys;
    senders = still x.senders;
    givers = one_mark x.givers k n e;
    seeing = still x.seeing;
    freed = still x.freed;
    read = one_read (deed.Gives n) tt;
  }

  pub noted_sees : Notes (deed.Sees n ∷ []) x (record x { seeing = bit_or x.seeing k })
  noted_sees = record {
    has = all_same x.has.keys;
    stored = all_same x.stored.keys;
    loaded = all_same x.loaded.keys;
    sent = all_same x.sent.keys;
    given = all_same x.given.keys;
    senders = still x.senders;
    givers = still x.givers;
    seeing = one_mark x.seeing k n e;
    freed = still x.freed;
    read = one_read (deed.Sees n) tt;
  }

  pub noted_goes : Notes (deed.GoesOn n ∷ []) x (record x { freed = bit_or x.freed k })
  noted_goes = record {
    has = all_same x.has.keys;
    stored = all_same x.stored.keys;
    loaded = all_same x.loaded.keys;
    sent = all_same x.sent.keys;
    given = all_same x.given.keys;
    senders = still x.senders;
    givers = still x.givers;
    seeing = still x.seeing;
    freed = one_mark x.freed k n e;
    read = one_read (deed.GoesOn n) tt;
  }

-- 3. All deeds of a kernel.

module _ (i : Image) (kept : List Segment) (deeds : List Deed) (d : AreDeeds i kept deeds) where
  all_keys : {K : Type 0} (of : Deed → List K) (none keys : List K) → none ≡ [] → Grown of deeds none keys → AreAll (SomeDeed i kept of) keys
  all_keys of none keys is h =
      all_as (λ e. Contains none e ⊎ Contains (flat_map of deeds) e) (SomeDeed i kept of) keys
      (λ e k. elim k [
        | inl old ↦ absurd (none_in e (subst (λ l. Contains l e) is old))
        | inr new ↦ let w = flat_in of deeds e new in record { deed = w.source; means = (d.each w.source).0 w.inside; has = w.has }
      ])
      (λ e k. inr (in_flat of deeds k.deed e ((d.each k.deed).1 k.means) k.has)) h

  all_marks : (of : Deed → List ℕ) (none mask : ℕ) → none ≡ 0 → Marks of deeds none mask → MarksAll i kept of mask
  all_marks of none mask is h n = (
    λ m. elim ((h n).0 m) [
      | inl old ↦ absurd (zero_bit n (ap (λ v. bit_at v n) (sym is) ∙ old))
      | inr new ↦ let w = flat_in of deeds n new.1 in (new.0, record { deed = w.source; means = (d.each w.source).0 w.inside; has = w.has })
    ],
    λ k. (h n).1 (inr (k.0, in_flat of deeds k.1.deed n ((d.each k.1.deed).1 k.1.means) k.1.has)),
  )

  all_noted : (c : Conduct) → NotesFrom deeds c → AreConduct i kept c
  all_noted c h = record {
    has = all_keys has_in h.none.has.keys c.has.keys h.is_none.has h.notes.has;
    stored = all_keys stored_by h.none.stored.keys c.stored.keys h.is_none.stored h.notes.stored;
    loaded = all_keys loaded_by h.none.loaded.keys c.loaded.keys h.is_none.loaded h.notes.loaded;
    sent = all_keys sent_in h.none.sent.keys c.sent.keys h.is_none.sent h.notes.sent;
    given = all_keys given_in h.none.given.keys c.given.keys h.is_none.given h.notes.given;
    senders = all_marks sends_in h.none.senders c.senders h.is_none.senders h.notes.senders;
    givers = all_marks gives_in h.none.givers c.givers h.is_none.givers h.notes.givers;
    seeing = all_marks sees_in h.none.seeing c.seeing h.is_none.seeing h.notes.seeing;
    freed = all_marks goes_in h.none.freed c.freed h.is_none.freed h.notes.freed;
    read = λ x m. h.notes.read x ((d.each x).1 m);
  }

pub conduct_is : (i : Image) (kept : List Segment) → IsImage i → (f : Findings) → AreFindings i kept f → (c : Conduct)
    → NotesFrom (all_deeds i kept f) c → AreConduct i kept c
conduct_is i kept img f fd c h = all_noted i kept (all_deeds i kept f) (deeds_are i kept img f fd) c h
