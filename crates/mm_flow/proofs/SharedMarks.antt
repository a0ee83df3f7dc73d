-- The steps of giving.
use Rattle.std.proofs.lemmas.Nat.{le_or_l}
use Rattle.std.proofs.Common.{◌≡◌, ℕ, zero, suc, ◌+◌, ◌^◌, ◌<◌, ◌≤◌, ◌⊎◌, ◌↔◌, inl, inr, Bool, true, false, List, []}
use Rattle.std.proofs.Common.{◌∷◌, ◌++◌, length, slice_index, slice_index_or, slice_set, bit_or, refl, sym, ap, ◌∙◌}
use Rattle.std.{proofs.Common.{subst, arith, length-append}, specs.Int.bit_at}
use Rattle.mm_seg.proofs.Searches.{same_or_below}
use Rattle.mm_flow.specs.Flow.{Has, Within, room}
use Rattle.mm_flow.specs.Sharing.{Up, MarkedAbove, AreMarksAbove, AddsEdges, SharedBy, PropagatingShared, kept_mark}
use Rattle.mm_flow.specs.Sharing.Up.{here, over}
use Rattle.mm_flow.proofs.Bits.{or_left, or_right, or_cases, zero_bit}
use Rattle.mm_flow.proofs.Masks.{set_cases, length_set, room_set, Within-refl, Within-trans, Within-or_left}
use Rattle.mm_flow.proofs.Masks.Set.{here as set_here, there as set_there}

-- the groups of one more
module _ (old a : List ℕ) (from to h : ℕ) (k : AddsEdges h old from to a) where
  pub edges_more : h < length a → bit_at from h ≡ 1 → AddsEdges (h + 1) old from to (slice_set a h (bit_or (slice_index a h) to))
  edges_more lt bit = record {
    len = length_set a h _ ∙ k.len;
    only = λ n g x. elim (set_cases a h (bit_or (slice_index a h) to) n lt) [
      | set_there ne f ↦ k.only n g (ap (λ v. bit_at v g) (sym f) ∙ x)
      | set_here e f ↦ elim (or_cases (slice_index a h) to g (ap (λ v. bit_at v g) (sym f) ∙ x)) [
        | inl y ↦ k.only n g (ap (λ v. bit_at (slice_index a v) g) e ∙ y)
        | inr y ↦ inr (ap (bit_at from) e ∙ bit, y)
      ]
    ];
    keeps = λ n g x. kept n g (k.keeps n g x);
    each = λ n g small f t. elim (same_or_below n h small) [
      | inl lt2 ↦ kept n g (k.each n g lt2 f t)
      | inr e ↦ elim (set_cases a h (bit_or (slice_index a h) to) n lt) [
        | set_there ne is ↦ absurd (ne e)
        | set_here e2 is ↦ ap (λ v. bit_at v g) is ∙ or_right (slice_index a h) to g t
      ]
    ];
  }
    where
      kept : (n g : ℕ) → Has a n g → Has (slice_set a h (bit_or (slice_index a h) to)) n g
      kept n g x = elim (set_cases a h (bit_or (slice_index a h) to) n lt) [
        | set_there ne f ↦ ap (λ v. bit_at v g) f ∙ x
        | set_here e f ↦ ap (λ v. bit_at v g) f ∙ or_left (slice_index a h) to g (ap (λ v. bit_at (slice_index a v) g) (sym e) ∙ x)
      ]

  pub edges_skip : (bit_at from h ≡ 1 → ⊥) → AddsEdges (h + 1) old from to a
  edges_skip no_bit = record {
    len = k.len;
    only = k.only;
    keeps = k.keeps;
    each = λ n g small f t. elim (same_or_below n h small) [
      | inl lt ↦ k.each n g lt f t
      | inr e ↦ absurd (no_bit (ap (bit_at from) (sym e) ∙ f))
    ];
  }

shared_wider : (mask h g : ℕ) (sharing : List ℕ) → SharedBy h mask sharing g → SharedBy (h + 1) mask sharing g
shared_wider mask h g sharing x = record { by = x.by; small = (let lt = x.small in omega arith); has = x.has; shared_now = x.shared_now }

-- one group more that shares
pub shared_more : (mask h all g : ℕ) (sharing : List ℕ) → bit_at mask h ≡ 1
    → ((bit_at all g ≡ 1) ↔ SharedBy h mask sharing g) → (bit_at (bit_or all (slice_index sharing h)) g ≡ 1) ↔ SharedBy
    (h + 1) mask sharing g
shared_more mask h all g sharing bit k = (
  λ x. elim (or_cases all (slice_index sharing h) g x) [
    | inl y ↦ shared_wider mask h g sharing (k.0 y)
    | inr y ↦ record { by = h; small = omega arith; has = bit; shared_now = y }
  ],
  λ x. elim (same_or_below x.by h x.small) [
    | inl lt ↦ or_left all (slice_index sharing h) g (k.1 (record { by = x.by; small = lt; has = x.has; shared_now = x.shared_now }))
    | inr e ↦ or_right all (slice_index sharing h) g (ap (λ v. bit_at (slice_index sharing v) g) (sym e) ∙ x.shared_now)
  ],
)

pub shared_skip : (mask h all g : ℕ) (sharing : List ℕ) → (bit_at mask h ≡ 1 → ⊥) → ((bit_at all g ≡ 1) ↔ SharedBy h mask sharing g) → (bit_at all g ≡ 1) ↔ SharedBy (h + 1) mask sharing g
shared_skip mask h all g sharing no_bit k = (
  λ y. shared_wider mask h g sharing (k.0 y),
  λ x. elim (same_or_below x.by h x.small) [
    | inl lt ↦ k.1 (record { by = x.by; small = lt; has = x.has; shared_now = x.shared_now })
    | inr e ↦ absurd (no_bit (ap (bit_at mask) (sym e) ∙ x.has))
  ],
)

-- what stands at a place after a push
pub data Pushed (xs : List ℕ) (v k : ℕ) : Type 0 where
  last : k ≡ length xs → slice_index (xs ++ v ∷ []) k ≡ v → Pushed xs v k
  before : k < length xs → slice_index (xs ++ v ∷ []) k ≡ slice_index xs k → Pushed xs v k

pub push_cases : (xs : List ℕ) (v k : ℕ) → k < length xs + 1 → Pushed xs v k
push_cases [] v zero lt = last refl refl
push_cases [] v (suc k) lt = absurd (omega arith)
push_cases (x ∷ xs) v zero lt = before (omega arith) refl
push_cases (x ∷ xs) v (suc k) lt = elim (push_cases xs v k (omega arith)) [ last e f ↦ last (omega arith) f | before small f ↦ before (omega arith) f ]

pub kept_then : (b : Bool) (m g : ℕ) → bit_at (kept_mark b m) g ≡ 1 → (bit_at m g ≡ 1) × (b ≡ true)
kept_then true m g h = (h, refl)
kept_then false m g h = absurd (zero_bit g h)

pub then_kept : (b : Bool) (m g : ℕ) → bit_at m g ≡ 1 → b ≡ true → bit_at (kept_mark b m) g ≡ 1
then_kept b m g h e = rw e h

-- the marks above one node more
module _ (par marks : List ℕ) (keep : ℕ → Bool) (out : List ℕ) (k v w : ℕ) (h : AreMarksAbove par marks keep out) (len : length out ≡ k) (is : v ≡ bit_or (kept_mark (keep k) (slice_index marks k)) w)
    (from : ((slice_index par k < k) × (w ≡ slice_index out (slice_index par k))) ⊎ ((k ≤ slice_index par k) × (w ≡ 0))) where
  grown : length (out ++ v ∷ []) ≡ k + 1
  grown = let e = length-append out (v ∷ []) in omega arith

  only_last : (g : ℕ) → bit_at v g ≡ 1 → MarkedAbove par marks keep k g
  only_last g x = elim (or_cases (kept_mark (keep k) (slice_index marks k)) w g (ap (λ z. bit_at z g) (sym is) ∙ x)) [
    | inl y ↦ let two = kept_then (keep k) (slice_index marks k) g y in record { node = k; up = here refl; marked = two.0; kept = two.1 }
    | inr y ↦ elim from [
      | inr z ↦ absurd (zero_bit g (ap (λ u. bit_at u g) (sym z.1) ∙ y))
      | inl z ↦ let more = h.only (slice_index par k) g (let lt = z.0 in omega arith) (ap (λ u. bit_at u g) (sym z.1) ∙ y) in
          record { node = more.node; up = over z.0 more.up; marked = more.marked; kept = more.kept }
    ]
  ]

  each_up : (g j : ℕ) → Up par j k → Has marks j g → keep j ≡ true → bit_at v g ≡ 1
  each_up g j (here e) m p = ap (λ z. bit_at z g) is ∙ or_left (kept_mark (keep k) (slice_index marks k)) w g
      (then_kept (keep k) (slice_index marks k) g (ap (λ z. bit_at (slice_index marks z) g) (sym e) ∙ m) (ap keep (sym e) ∙ p))
  each_up g j (over lt u) m p = elim from [
    | inr z ↦ absurd (let le = z.0 in omega arith)
    | inl z ↦ ap (λ y. bit_at y g) is ∙ or_right (kept_mark (keep k) (slice_index marks k)) w g
        (ap (λ y. bit_at y g) z.1 ∙ h.each (slice_index par k) g (omega arith) (record { node = j; up = u; marked = m; kept = p }))
  ]

  pub above_more : AreMarksAbove par marks keep (out ++ v ∷ [])
  above_more = record {
    only = λ n g small x. elim (push_cases out v n (let e = grown in omega arith)) [
      | last e f ↦ subst (λ z. MarkedAbove par marks keep z g) (sym (e ∙ len)) (only_last g (ap (λ z. bit_at z g) (sym f) ∙ x))
      | before lt f ↦ h.only n g lt (ap (λ z. bit_at z g) (sym f) ∙ x)
    ];
    each = λ n g small x. elim (push_cases out v n (let e = grown in omega arith)) [
      | last e f ↦ ap (λ z. bit_at z g) f ∙ each_up g x.node (subst (Up par x.node) (e ∙ len) x.up) x.marked x.kept
      | before lt f ↦ ap (λ z. bit_at z g) f ∙ h.each n g lt x
    ];
  }

module _ (sharing old a : List ℕ) (ch : Bool) (k r : ℕ) (s : PropagatingShared k sharing old a ch)
    (small : k < length a) (is : (g : ℕ) → (bit_at r g ≡ 1) ↔ SharedBy 64 (slice_index a k) sharing g) where
  at_node : slice_index a k ≡ slice_index old k
  at_node = s.rest k (omega arith)

  pub shared_keep : bit_or (slice_index a k) r ≡ slice_index a k → PropagatingShared (k + 1) sharing old a ch
  shared_keep e = record {
    len = s.len;
    only = s.only;
    still = λ f n g lt x. elim (same_or_below n k lt) [
      | inl lt2 ↦ s.still f n g lt2 x
      | inr same ↦
          let y = subst (λ v. SharedBy 64 (slice_index old v) sharing g) same x in
          let bit = (is g).1 (subst (λ v. SharedBy 64 v sharing g) (sym at_node) y) in
          ap (λ v. bit_at (slice_index old v) g) same ∙ ap (λ v. bit_at v g) (sym at_node) ∙ ap (λ v. bit_at v g) (sym e) ∙ or_right (slice_index a k) r g bit
    ];
    rest = λ n le. s.rest n (omega arith);
    same = s.same;
    grows = s.grows;
    no_rise = s.no_rise;
    falls = s.falls;
  }

  pub shared_write : (bit_or (slice_index a k) r ≡ slice_index a k → ⊥) → slice_index a k < 2 ^ 64 → PropagatingShared (k + 1) sharing old (slice_set a k (bit_or (slice_index a k) r)) true
  shared_write ne below = record {
    len = length_set a k _ ∙ s.len;
    only = λ n g x. elim (set_cases a k (bit_or (slice_index a k) r) n small) [
      | set_there other f ↦ s.only n g (ap (λ v. bit_at v g) (sym f) ∙ x)
      | set_here e f ↦ elim (or_cases (slice_index a k) r g (ap (λ v. bit_at v g) (sym f) ∙ x)) [
        | inl y ↦ s.only n g (ap (λ v. bit_at (slice_index a v) g) e ∙ y)
        | inr y ↦ inr (subst (λ v. SharedBy 64 (slice_index old v) sharing g) (sym e) (subst (λ v. SharedBy 64 v sharing g) at_node ((is g).0 y)))
      ]
    ];
    still = λ f. cc;
    rest = λ n le. elim (set_cases a k (bit_or (slice_index a k) r) n small) [
      | set_there other f ↦ f ∙ s.rest n (omega arith)
      | set_here e f ↦ absurd (omega arith)
    ];
    same = λ f. cc;
    grows = λ n. Within-trans (slice_index old n) (slice_index a n) _ (s.grows n) (grew n);
    no_rise = let x = fell in let y = s.no_rise in omega arith;
    falls = λ f. let x = fell in let y = s.no_rise in omega arith;
  }
    where
      grew : (n : ℕ) → Within (slice_index a n) (slice_index (slice_set a k (bit_or (slice_index a k) r)) n)
      grew n = elim (set_cases a k (bit_or (slice_index a k) r) n small) [
        | set_there other f ↦ subst (Within (slice_index a n)) (sym f) (Within-refl (slice_index a n))
        | set_here e f ↦ subst (Within (slice_index a n)) (sym f) (subst (λ v. Within (slice_index a v) (bit_or (slice_index a k) r)) (sym e) (Within-or_left (slice_index a k) r))
      ]

      fell : room (2 ^ 64) (slice_set a k (bit_or (slice_index a k) r)) + 1 ≤ room (2 ^ 64) a
      fell = let up = le_or_l (slice_index a k) r in room_set (2 ^ 64) a k (bit_or (slice_index a k) r) small (omega arith) below

-- within the list the default does not count
pub same_default : (xs : List ℕ) (i d : ℕ) → i < length xs → slice_index_or xs i d ≡ slice_index xs i
same_default [] i d lt = absurd (omega arith)
same_default (x ∷ xs) zero d lt = refl
same_default (x ∷ xs) (suc i) d lt = same_default xs i d (omega arith)

pub push_length : (xs : List ℕ) (v k : ℕ) → length xs ≡ k → length (xs ++ v ∷ []) ≡ k + 1
push_length xs v k e = omega (arith, length-append xs (v ∷ []))
