-- The open spans, with one span more.
use Rattle.std.proofs.Common.{◌≡◌, ℕ, ◌+◌, ◌-◌, ◌<◌, ◌≤◌, ◌⊎◌, ◌↔◌, inl, inr, List, [], ◌∷◌, ◌++◌, length}
use Rattle.std.proofs.Common.{length-append, bit_or, refl, sym, ap, ◌∙◌, subst, arith, pow_pos}
use Rattle.std.proofs.lemmas.{List.{get_or-take, get_or_append_left, get_or_push}, Nat.Bits.bit_at-zero, Bool.cases_lt}
use Rattle.std.specs.Int.{bit_at}
use Rattle.mm_seg.proofs.Searches.{same_or_below}
use Rattle.mm_model.specs.declared.word_use.WordUse.{WordUse, TheVariants.{Touch, Write}}
use Rattle.mm_audit.specs.declared.{span.Span.Span, open_spans.Open.Open}
use Rattle.mm_audit.specs.Spans.{AreInOrder, Uses, mask, span_at, base_at, end_at}
use Rattle.mm_audit.specs.Opening.{IsLive, Closed, IsLast, IsInnermost, AreOpen, IsOpenAt, no_open, open_at, open_end}
use Rattle.mm_audit.specs.Opening.{users}
use Rattle.mm_flow.proofs.Bits.{or_left, or_right, or_cases}

-- 1. Before any span, and at later addresses.

pub none_open : (spans : List Span) (from : ℕ) → AreOpen spans 0 from []
none_open spans from = record {
  fall = λ m n lt small. absurd (omega arith);
  ends = λ n lt. absurd (omega arith);
  inside = λ how n a g le inn. absurd (let small = inn.small in omega arith);
  outside = λ how a g le past live. let small = live.small in omega arith;
}

pub open_later : (spans : List Span) (top from upto : ℕ) (stack : List Open) → from ≤ upto → AreOpen spans top from stack → AreOpen spans top upto stack
open_later spans top from upto stack le h = record {
  fall = h.fall;
  ends = h.ends;
  inside = λ how n a g low inn. h.inside how n a g (omega arith) inn;
  outside = λ how a g low past. h.outside how a g (omega arith) past;
}

users_none : (how : WordUse) (g : ℕ) → bit_at (users how no_open) g ≡ 1 → ⊥
users_none Touch g h = let z = bit_at-zero g in omega arith
users_none Write g h = let z = bit_at-zero g in omega arith

module _ (spans : List Span) (o : AreInOrder spans) (k : ℕ) (place : k < length spans) (old : List Open)
    (h : AreOpen spans k (base_at spans k) old) (new : List Open) (cl : Closed (base_at spans k) old new)
    (over : Open) (last : IsLast new over) where
  abbrev base : ℕ
  base = base_at spans k

  abbrev end : ℕ
  end = end_at spans k

  -- 2. Without those that have ended.

  new_at : (n : ℕ) → n < length new → open_at new n ≡ open_at old n
  new_at n lt = ap (λ l. open_at l n) cl.front ∙ get_or-take (length new) old n no_open lt

  new_end : (n : ℕ) → n < length new → open_end new n ≡ open_end old n
  new_end n lt = ap (λ (v : Open). v.end) (new_at n lt)

  still : AreOpen spans k base new
  still = record {
    fall = λ m n lt small. let f = h.fall m n lt (let a = cl.fits in omega arith) in let p = new_end m (omega arith) in let q = new_end n small in omega arith;
    ends = λ n lt. let e = h.ends n (let a = cl.fits in omega arith) in (e.0, e.1, new_end n lt ∙ e.2);
    inside = λ how n a g low inn. subst (λ v. (bit_at (users how v) g ≡ 1) ↔ IsLive spans how k a g) (sym (new_at n inn.small)) (h.inside how n a g low (old_innermost n a low inn));
    outside = λ how a g low past. h.outside how a g low (old_past a low past);
  }
    where
      old_innermost : (n a : ℕ) → base ≤ a → IsInnermost new n a → IsInnermost old n a
      old_innermost n a low inn = record {
        small = (let s = inn.small in let f = cl.fits in omega arith);
        holds = (let t = inn.holds in let e = new_end n inn.small in omega arith);
        last = λ lt. elim (cases_lt (n + 1) (length new)) [
          | inl less ↦ let t = inn.last less in let e = new_end (n + 1) less in omega arith
          | inr le ↦ let t = cl.ended (n + 1) le lt in omega arith
        ];
      }

      old_past : (a : ℕ) → base ≤ a → (0 < length new → open_end new 0 ≤ a) → 0 < length old → open_end old 0 ≤ a
      old_past a low past some = elim (cases_lt 0 (length new)) [
        | inl less ↦ let t = past less in let e = new_end 0 less in omega arith
        | inr le ↦ let t = cl.ended 0 le some in omega arith
      ]

  -- each of the others ends behind the base, and so at the span's end or behind it
  ends_late : (n : ℕ) → n < length new → base < open_end new n
  ends_late n lt = elim (cases_lt n (length new - 1)) [
    | inl less ↦ let f = still.fall n (length new - 1) less (omega arith) in let t = cl.last (omega arith) in omega arith
    | inr le ↦ let e : n ≡ length new - 1 = omega arith in subst (λ v. base < open_end new v) (sym e) (cl.last (omega arith))
  ]

  holds_end : (n : ℕ) → n < length new → end ≤ open_end new n
  holds_end n lt =
      let e = still.ends n lt in
      let late = ends_late n lt in
      let same = e.2 in
      let t = o.nested e.0 k e.1 place (omega arith) in
      omega arith

  -- 3. Who uses the span, or one around it.

  over_users : (how : WordUse) (a g : ℕ) → base ≤ a → (0 < length new → a < open_end new (length new - 1)) → (bit_at (users how over) g ≡ 1) ↔ IsLive spans how k a g
  over_users how a g low inner = elim (cases_lt 0 (length new)) [
    | inl some ↦ subst (λ v. (bit_at (users how v) g ≡ 1) ↔ IsLive spans how k a g) (sym (last.some some))
        (still.inside how (length new - 1) a g low (record { small = omega arith; holds = inner some; last = λ lt. absurd (omega arith) }))
    | inr none ↦
        let e = last.none (omega arith) in (
          λ bit. absurd (users_none how g (subst (λ v. bit_at (users how v) g ≡ 1) e bit)),
          λ live. absurd (still.outside how a g low (λ some. absurd (omega arith)) live),
        )
  ]

  abbrev Now : ℕ → Open
  Now last_end = record { end = last_end; touch = bit_or (span_at spans k).touch over.touch; write = bit_or (span_at spans k).write over.write }

  now_users : (how : WordUse) (last_end : ℕ) → users how (Now last_end) ≡ bit_or (mask how (span_at spans k)) (users how over)
  now_users Touch last_end = refl
  now_users Write last_end = refl

  wider : (how : WordUse) (a g : ℕ) → IsLive spans how k a g → IsLive spans how (k + 1) a g
  wider how a g live = record { span = live.span; small = (let s = live.small in omega arith); uses = live.uses; live = live.live }

  -- a span that is live is one of the first, or the one at the place
  live_cases : (how : WordUse) (a g : ℕ) → IsLive spans how (k + 1) a g → IsLive spans how k a g ⊎ (Uses spans how k g × (a < end))
  live_cases how a g live = elim (same_or_below live.span k live.small) [
    | inl less ↦ inl (record { span = live.span; small = less; uses = live.uses; live = live.live })
    | inr e ↦ inr (subst (λ v. Uses spans how v g × (a < end_at spans v)) e (live.uses, live.live))
  ]

  users_at : (how : WordUse) (last_end a g : ℕ) → base ≤ a → a < end → (bit_at (users how (Now last_end)) g ≡ 1) ↔ IsLive spans how (k + 1) a g
  users_at how last_end a g low lt =
      let o_users = over_users how a g low (λ some. let t = holds_end (length new - 1) (omega arith) in omega arith) in
      subst (λ v. (bit_at v g ≡ 1) ↔ IsLive spans how (k + 1) a g) (sym (now_users how last_end)) (
        λ bit. elim (or_cases (mask how (span_at spans k)) (users how over) g bit) [
          | inl own ↦ record { span = k; small = omega arith; uses = own; live = lt }
          | inr around ↦ wider how a g (o_users.0 around)
        ],
        λ live. elim (live_cases how a g live) [
          | inl earlier ↦ or_right (mask how (span_at spans k)) (users how over) g (o_users.1 earlier)
          | inr own ↦ or_left (mask how (span_at spans k)) (users how over) g own.0
        ],
      )

  some_room : base < end
  some_room = let s = o.segments k place in let room = pow_pos (span_at spans k).log in omega arith

  pub open_users : (last_end : ℕ) → IsOpenAt spans k (Now last_end)
  open_users last_end how g = users_at how last_end base g (omega arith) some_room

  -- 4. With the span.

  module _ (last_end : ℕ) (is_end : last_end ≡ end) where
    abbrev after : List Open
    after = new ++ Now last_end ∷ []

    after_len : length after ≡ length new + 1
    after_len = let e = length-append new (Now last_end ∷ []) in omega arith

    after_before : (n : ℕ) → n < length new → open_at after n ≡ open_at new n
    after_before n lt = get_or_append_left new (Now last_end ∷ []) no_open n lt

    after_last : (n : ℕ) → n ≡ length new → open_at after n ≡ Now last_end
    after_last n e = get_or_push new (Now last_end) no_open n (sym e)

    before_end : (n : ℕ) → n < length new → open_end after n ≡ open_end new n
    before_end n lt = ap (λ (v : Open). v.end) (after_before n lt)

    last_end_is : (n : ℕ) → n ≡ length new → open_end after n ≡ end
    last_end_is n e = ap (λ (v : Open). v.end) (after_last n e) ∙ is_end

    -- no open span ends before the new one
    none_shorter : (n : ℕ) → n < length after → end ≤ open_end after n
    none_shorter n lt = elim (same_or_below n (length new) (let l = after_len in omega arith)) [
      | inl less ↦ let e = before_end n less in let t = holds_end n less in omega arith
      | inr e ↦ let f = last_end_is n e in omega arith
    ]

    inside_before : (how : WordUse) (n a g : ℕ) → base ≤ a → n < length new → IsInnermost after n a → (bit_at (users how (open_at after n)) g ≡ 1) ↔ IsLive spans how (k + 1) a g
    inside_before how n a g low less inn =
        let past = inn.last (let l = after_len in omega arith) in
        let ended = none_shorter (n + 1) (let l = after_len in omega arith) in
        let inner : IsInnermost new n a = record {
          small = less;
          holds = (let t = inn.holds in let e = before_end n less in omega arith);
          last = λ lt. let t = inn.last (let l = after_len in omega arith) in let e = before_end (n + 1) lt in omega arith;
        } in
        let w = still.inside how n a g low inner in
        subst (λ v. (bit_at (users how v) g ≡ 1) ↔ IsLive spans how (k + 1) a g) (sym (after_before n less)) (
          λ bit. wider how a g (w.0 bit),
          λ live. elim (live_cases how a g live) [ inl earlier ↦ w.1 earlier | inr own ↦ absurd (let lt = own.1 in omega arith) ],
        )

    inside_last : (how : WordUse) (n a g : ℕ) → base ≤ a → n ≡ length new → IsInnermost after n a → (bit_at (users how (open_at after n)) g ≡ 1) ↔ IsLive spans how (k + 1) a g
    inside_last how n a g low e inn =
        let t = inn.holds in
        let f = last_end_is n e in
        subst (λ v. (bit_at (users how v) g ≡ 1) ↔ IsLive spans how (k + 1) a g) (sym (after_last n e)) (users_at how last_end a g low (omega arith))

    pub still_open : AreOpen spans (k + 1) base after
    still_open = record {
      fall = λ m n lt small. elim (same_or_below n (length new) (let l = after_len in omega arith)) [
        | inl less ↦ let f = still.fall m n lt less in let p = before_end m (omega arith) in let q = before_end n less in omega arith
        | inr e ↦ let f = last_end_is n e in let t = none_shorter m (omega arith) in omega arith
      ];
      ends = λ n lt. elim (same_or_below n (length new) (let l = after_len in omega arith)) [
        | inl less ↦ let e = still.ends n less in let lt2 = e.1 in (e.0, omega arith, before_end n less ∙ e.2)
        | inr e ↦ (k, omega arith, last_end_is n e)
      ];
      inside = λ how n a g low inn. elim (same_or_below n (length new) (let l = after_len in let s = inn.small in omega arith)) [
        | inl less ↦ inside_before how n a g low less inn
        | inr e ↦ inside_last how n a g low e inn
      ];
      outside = λ how a g low past live.
          let l = after_len in
          let first = past (omega arith) in
          let ended = none_shorter 0 (omega arith) in
          elim (live_cases how a g live) [
            | inl earlier ↦ still.outside how a g low (λ some. let e = before_end 0 some in omega arith) earlier
            | inr own ↦ let lt = own.1 in omega arith
          ];
    }
