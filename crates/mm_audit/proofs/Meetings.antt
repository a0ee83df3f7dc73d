-- The words at which groups meet, with one span more.
use Rattle.std.proofs.Common.{◌≡◌, ℕ, ◌+◌, ◌<◌, ◌≤◌, ◌⊎◌, inl, inr, List, length, slice_index, slice_set, sym, ap, ◌∙◌}
use Rattle.std.proofs.Common.{subst, arith}
use Rattle.std.proofs.lemmas.{List.{get_or-set_same, get_or-set_other, length-set}, Nat.Bits.bit_at-zero, Bool.cases_eq}
use Rattle.std.specs.Int.{bit_at}
use Rattle.mm_seg.proofs.Searches.{same_or_below}
use Rattle.mm_model.specs.declared.word_use.WordUse.TheVariants.{Touch, Write}
use Rattle.mm_audit.specs.declared.{span.Span.Span, open_spans.Open.Open, shared_words.Meets.Meets}
use Rattle.mm_audit.specs.{Spans.{AreInOrder, base_at}, Opening.IsOpenAt}
use Rattle.mm_audit.specs.Meeting.{NotesWord, NotesAll, AreNoRows, MeetAt, IsMeeting, HaveMet, HasWord, no_row, row_at}
use Rattle.mm_audit.{specs.Meeting.word_at, proofs.Bits.zero_or_one}

-- 1. One row more.

module _ (writers touchers word h : ℕ) (old now : List Meets) (n : NotesAll writers touchers word h old now) where
  pub note_skip : (bit_at writers h ≡ 1 → ⊥) → NotesAll writers touchers word (h + 1) old now
  note_skip clear = record {
    rows = n.rows;
    notes = λ k lt bit. elim (same_or_below k h lt) [ inl less ↦ n.notes k less bit | inr e ↦ absurd (clear (subst (λ v. bit_at writers v ≡ 1) e bit)) ];
    keeps = λ k out. elim out [ inl no_bit ↦ n.keeps k (inl no_bit) | inr past ↦ n.keeps k (inr (omega arith)) ];
  }

  pub note_more : (row : Meets) → h < 64 → bit_at writers h ≡ 1 → NotesWord touchers word (row_at now h) row → NotesAll writers touchers word (h + 1) old (slice_set now h row)
  note_more row lt bit noted = record {
    rows = record {
      len = length-set now h row ∙ n.rows.len;
      rows = λ k small. elim (cases k) [
        | inl e ↦ subst (λ (v : Meets). length v.words ≡ 64) (sym (here k e)) (noted.len ∙ n.rows.rows h lt)
        | inr other ↦ subst (λ (v : Meets). length v.words ≡ 64) (sym (there k other)) (n.rows.rows k small)
      ];
    };
    notes = λ k less b. elim (same_or_below k h less) [
      | inl before ↦ subst (NotesWord touchers word (row_at old k)) (sym (there k (λ e. let e2 : k ≡ h = e in omega arith))) (n.notes k before b)
      | inr e ↦ subst (NotesWord touchers word (row_at old k)) (sym (here k e))
          (subst (λ v. NotesWord touchers word v row) (n.keeps h (inr (omega arith)) ∙ ap (row_at old) (sym e)) noted)
    ];
    keeps = λ k out. there k (other k out) ∙ n.keeps k (elim out [ inl no_bit ↦ inl no_bit | inr past ↦ inr (omega arith) ]);
  }
    where
      inside : h < length now
      inside = let l = n.rows.len in omega arith

      here : (k : ℕ) → k ≡ h → row_at (slice_set now h row) k ≡ row
      here k e = ap (row_at (slice_set now h row)) e ∙ get_or-set_same now h row no_row inside

      there : (k : ℕ) → (k ≡ h → ⊥) → row_at (slice_set now h row) k ≡ row_at now k
      there k other = get_or-set_other now h k row no_row other

      cases : (k : ℕ) → (k ≡ h) ⊎ (k ≡ h → ⊥)
      cases k = cases_eq k h

      other : (k : ℕ) → (bit_at writers k ≡ 1 → ⊥) ⊎ (h + 1 ≤ k) → k ≡ h → ⊥
      other k (inl no_bit) e = no_bit (subst (λ v. bit_at writers v ≡ 1) (sym e) bit)
      other k (inr past) e = omega arith

-- 2. One span more.

pub none_met : (spans : List Span) (table : List Meets) → AreNoRows 64 table → HaveMet spans 0 table
none_met spans table rows = record {
  rows = record { len = rows.len; rows = λ h lt. ap (λ (v : Meets). length v.words) (rows.rows h lt) };
  some = λ h g lt small has. absurd (let z = bit_at-zero g in let e = ap (λ (v : Meets). bit_at v.groups g) (rows.rows h lt) in omega arith);
  each = λ k h g lt. absurd (omega arith);
}

module _ (spans : List Span) (order : AreInOrder spans) (k : ℕ) (place : k < length spans) (now : Open) (open_at : IsOpenAt spans k now) (old : List Meets) (m : HaveMet spans k old) where
  wider : (h g w : ℕ) → IsMeeting spans k h g w → IsMeeting spans (k + 1) h g w
  wider h g w x = record { span = x.span; small = (let s = x.small in omega arith); is = x.is; meet = x.meet }

  -- an earlier word is no greater than the base
  not_later : (h g : ℕ) → h < 64 → g < 64 → HasWord old h g → word_at old h g ≤ base_at spans k
  not_later h g lt small has = let x = m.some h g lt small has in let up = order.rise x.span k x.small place in let is = x.is in omega arith

  -- where each two that meet have a word already
  pub met_skip : ((h g : ℕ) → h < 64 → g < 64 → bit_at now.write h ≡ 1 → bit_at now.touch g ≡ 1 → HasWord old h g) → HaveMet spans (k + 1) old
  met_skip all = record {
    rows = m.rows;
    some = λ h g lt small has. wider h g (word_at old h g) (m.some h g lt small has);
    each = λ n h g less lt small meet. elim (same_or_below n k less) [
      | inl before ↦ m.each n h g before lt small meet
      | inr e ↦
          let here = subst (λ v. MeetAt spans v h g) e meet in
          let has = all h g lt small ((open_at Write h).1 here.writes) ((open_at Touch g).1 here.touches) in
          (has, subst (λ v. word_at old h g ≤ base_at spans v) (sym e) (not_later h g lt small has))
    ];
  }

  module _ (new : List Meets) (n : NotesAll now.write now.touch (base_at spans k) 64 old new) where
    -- a word that is there stays
    stays : (h g : ℕ) → h < 64 → g < 64 → HasWord old h g → HasWord new h g × (word_at new h g ≡ word_at old h g)
    stays h g lt small has = elim (zero_or_one now.write h) [
      | inl clear ↦ let same = n.keeps h (inl clear) in (subst (λ (v : Meets). bit_at v.groups g ≡ 1) (sym same) has, ap (λ (v : Meets). slice_index v.words g) same)
      | inr bit ↦ let w = n.notes h lt bit in ((w.has g small).1 (inl has), w.keeps g small has)
    ]

    -- a word is there already, or is the base
    word_from : (h g : ℕ) → h < 64 → g < 64 → HasWord new h g → HasWord old h g ⊎ ((word_at new h g ≡ base_at spans k) × MeetAt spans k h g)
    word_from h g lt small has = elim (zero_or_one now.write h) [
      | inl clear ↦ inl (subst (λ (v : Meets). bit_at v.groups g ≡ 1) (n.keeps h (inl clear)) has)
      | inr bit ↦
          let w = n.notes h lt bit in
          elim (zero_or_one (row_at old h).groups g) [
            | inr had ↦ inl had
            | inl out ↦ elim ((w.has g small).0 has) [
              | inl had ↦ absurd (out had)
              | inr touches ↦ inr (
                w.notes g small touches out,
                record {
                  writes = (open_at Write h).0 bit;
                  touches = (open_at Touch g).0
                      touches;
                },
              )
            ]
          ]
    ]

    pub noted_all : (h g : ℕ) → h < 64 → g < 64 → bit_at now.write h ≡ 1 → bit_at now.touch g ≡ 1 → HasWord new h g
    noted_all h g lt small writes touches = ((n.notes h lt writes).has g small).1 (inr touches)

    no_greater : (h g : ℕ) → h < 64 → g < 64 → HasWord new h g → word_at new h g ≤ base_at spans k
    no_greater h g lt small has = elim (word_from h g lt small has) [
      | inl had ↦ let same = (stays h g lt small had).1 in let le = not_later h g lt small had in omega arith
      | inr fresh ↦ let e = fresh.0 in omega arith
    ]

    pub met_more : HaveMet spans (k + 1) new
    met_more = record {
      rows = n.rows;
      some = λ h g lt small has. elim (word_from h g lt small has) [
        | inl had ↦ subst (IsMeeting spans (k + 1) h g) (sym ((stays h g lt small had).1)) (wider h g (word_at old h g) (m.some h g lt small had))
        | inr fresh ↦ record { span = k; small = omega arith; is = fresh.0; meet = fresh.1 }
      ];
      each = λ j h g less lt small meet. elim (same_or_below j k less) [
        | inl before ↦
            let had = m.each j h g before lt small meet in
            let s = stays h g lt small had.0 in
            (s.0, let le = had.1 in let same = s.1 in omega arith)
        | inr e ↦
            let here = subst (λ v. MeetAt spans v h g) e meet in
            let has = noted_all h g lt small ((open_at Write h).1 here.writes) ((open_at Touch g).1 here.touches) in
            (has, subst (λ v. word_at new h g ≤ base_at spans v) (sym e) (no_greater h g lt small has))
      ];
    }
