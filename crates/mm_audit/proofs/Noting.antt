-- One word noted in a row.
use Rattle.std.proofs.{Common.{◌≡◌, ℕ, ◌<◌, inl, inr, List, bit_or, refl, ap, ◌∙◌, arith}, lemmas.Nat.Bits.bit_at-zero}
use Rattle.std.specs.Int.{bit_at}
use Rattle.mm_audit.specs.{declared.shared_words.Meets.Meets, Meeting.{FillsWords, IsWithout, NotesWord}}
use Rattle.mm_audit.proofs.Bits.{zero_or_one}
use Rattle.mm_flow.proofs.Bits.{or_left, or_right, or_cases}

module _ (groups word fresh : ℕ) (old : Meets) (is : IsWithout groups old.groups fresh) where
  pub noted : (words : List ℕ) → FillsWords fresh word 64 old.words words → NotesWord groups word old (record { groups = bit_or old.groups fresh; words = words })
  noted words f = record {
    len = f.len;
    has = λ g lt. (
      λ h. elim (or_cases old.groups fresh g h) [ inl y ↦ inl y | inr y ↦ inr ((is g lt).0 y).0 ],
      λ h. elim h [ inl y ↦ or_left old.groups fresh g y | inr y ↦ either g lt y ],
    );
    keeps = λ g lt had. f.keeps g (λ bit. ((is g lt).0 bit).1 had);
    notes = λ g lt bit out. f.put g lt ((is g lt).1 (bit, out));
  }
    where
      either : (g : ℕ) → g < 64 → bit_at groups g ≡ 1 → bit_at (bit_or old.groups fresh) g ≡ 1
      either g lt y = elim (zero_or_one old.groups g) [
        | inl none ↦ or_right old.groups fresh g ((is g lt).1 (y, none))
        | inr one ↦ or_left old.groups fresh g one
      ]

  pub nothing_noted : fresh ≡ 0 → NotesWord groups word old old
  nothing_noted e = record {
    len = refl;
    has = λ g lt. (λ h. inl h, λ h. elim h [ inl y ↦ y | inr y ↦ elim (zero_or_one old.groups g) [ inr one ↦ one | inl none ↦ absurd (not_fresh g lt y none) ] ]);
    keeps = λ g lt had. refl;
    notes = λ g lt bit out. absurd (not_fresh g lt bit out);
  }
    where
      not_fresh : (g : ℕ) → g < 64 → bit_at groups g ≡ 1 → (bit_at old.groups g ≡ 1 → ⊥) → ⊥
      not_fresh g lt bit out =
          let one = (is g lt).1 (bit, out) in
          let clear = ap (λ v. bit_at v g) e ∙ bit_at-zero g in
          omega arith
