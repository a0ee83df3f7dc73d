-- Marks, one after the other.
use Rattle.std.proofs.Common.{◌≡◌, ℕ, zero, suc, ◌+◌, ◌<◌, inl, inr, List, [], ◌∷◌, ◌++◌, length, take, replicate}
use Rattle.std.proofs.Common.{slice_index, get_or, refl, sym, ap, ◌∙◌, subst, arith}
use Rattle.std.proofs.lemmas.List.{take_more, length-replicate}
use Rattle.std.proofs.lemmas.List.Elements.{Contains-append_left, Contains-push, Contains-push_cases}
use Rattle.std.specs.{List.Contains, Int.bit_at}
use Rattle.mm_flow.{specs.Flow.Has, proofs.Bits.zero_bit}
use Rattle.mm_graph.specs.{declared.{canonical_ptr.CanonicalPtr.CanonicalPtr, seed.Seed.Seed}, Key.{IsRising, key_at}}
use Rattle.mm_graph.specs.{Marking.IsMark, Nodes.IsMarks}
use Rattle.mm_graph.proofs.Rising.{same_place}
use Rattle.mm_graph.proofs.OneBits.{with_bit, with_bit-only, with_bit-keeps, with_bit-there, with_bit-length}

zero_at : (n k : ℕ) → slice_index (replicate n 0) k ≡ 0
zero_at zero k = refl
zero_at (suc n) zero = refl
zero_at (suc n) (suc k) = zero_at n k

pub no_mark : (n k g : ℕ) → Has (replicate n 0) k g → ⊥
no_mark n k g h = zero_bit g (ap (λ v. bit_at v g) (sym (zero_at n k)) ∙ h)

pub same_seed : (s : Seed) (g : ℕ) (key : CanonicalPtr) → s.group ≡ g → s.key ≡ key → s ≡ record { group = g; key = key }
same_seed s g key e f = λ i. record { group = e i; key = f i }

pub one_mark : (keys : List CanonicalPtr) (s : Seed) (old : List ℕ) (k : ℕ) → IsRising keys → length old ≡ length keys
    → k < length keys → key_at keys k ≡ s.key → s.group < 64 → IsMark keys s old (with_bit old k s.group)
one_mark keys s old k rising len lt is small =
    let fit : k < length old = omega arith in
    record {
      len = with_bit-length old k s.group fit small;
      only = λ n g h. elim (with_bit-only old k s.group fit small n g h) [
        | inl x ↦ inl x
        | inr y ↦ inr (subst (λ v. v < 64) (sym y.1) small, same_seed s g (key_at keys n) (sym y.1) (sym is ∙ ap (key_at keys) (sym y.0)))
      ];
      keeps = λ n g h. with_bit-keeps old k s.group fit small n g h;
      each = λ n ln sg e. subst (λ v. Has (with_bit old k s.group) v s.group) (same_place keys k n rising lt ln (is ∙ sym e)) (with_bit-there old k s.group fit small);
    }

pub marks_start : (keys : List CanonicalPtr) (n : ℕ) → n ≡ length keys → IsMarks keys [] (replicate n 0)
marks_start keys n e = record {
  len = length-replicate n 0 ∙ e;
  only = λ k g h. absurd (no_mark n k g h);
  each = λ k g lt small m. absurd (let l = m.1 in omega arith);
}

pub marks_more : (keys : List CanonicalPtr) (seeds : List Seed) (k : ℕ) (d : Seed) (a b : List ℕ) → k < length seeds
    → IsMarks keys (take k seeds) a → IsMark keys (get_or seeds k d) a b → IsMarks keys (take (k + 1) seeds) b
marks_more keys seeds k d a b lt x y = rw (take_more seeds k d lt) (record {
  len = y.len ∙ x.len;
  only = λ n g h. elim (y.only n g h) [
    | inl w ↦ let z = x.only n g w in (z.0, Contains-append_left (take k seeds) (get_or seeds k d ∷ []) _ z.1)
    | inr w ↦ (w.0, subst (Contains (take k seeds ++ get_or seeds k d ∷ [])) w.1 (Contains-push (take k seeds) (get_or seeds k d)))
  ];
  each = λ n g ln small m. elim (Contains-push_cases (take k seeds) (get_or seeds k d) _ m) [
    | inl w ↦ y.keeps n g (x.each n g ln small w)
    | inr e ↦
        let group : (get_or seeds k d).group ≡ g = ap (λ (v : Seed). v.group) e in
        let key : (get_or seeds k d).key ≡ key_at keys n = ap (λ (v : Seed). v.key) e in
        subst (λ v. Has b n v) group (y.each n ln (omega arith) (sym key))
  ];
})
