-- Links, one after the other.
use Rattle.std.proofs.Common.{◌≡◌, ℕ, ◌<◌, inl, inr, List, length, get_or, sym, ◌∙◌, arith}
use Rattle.mm_flow.specs.Flow.{Has}
use Rattle.mm_model.specs.Slot.{Slot}
use Rattle.mm_graph.specs.{Linking.{IsLink, ServedBy}, Nodes.AreLinked}
use Rattle.mm_graph.proofs.OneBits.{with_bit, with_bit-only, with_bit-keeps, with_bit-there, with_bit-length}

pub both_ways : (old : List ℕ) (a b : ℕ) → length old ≡ 64 → a < 64 → b < 64 → IsLink a b old (with_bit (with_bit old a b) b a)
both_ways old a b len la lb =
    let mid = with_bit old a b in
    let small_a : a < length old = omega arith in
    let mid_len = with_bit-length old a b small_a lb in
    let small_b : b < length (with_bit old a b) = omega arith in
    record {
      len = with_bit-length (with_bit old a b) b a small_b la ∙ mid_len;
      only = λ h g x. elim (with_bit-only (with_bit old a b) b a small_b la h g x) [
        | inr y ↦ inr (inr (sym y.0, sym y.1))
        | inl y ↦ elim (with_bit-only old a b small_a lb h g y) [ inl z ↦ inl z | inr z ↦ inr (inl (sym z.0, sym z.1)) ]
      ];
      keeps = λ h g x. with_bit-keeps (with_bit old a b) b a small_b la h g (with_bit-keeps old a b small_a lb h g x);
      there = λ p q. (with_bit-keeps (with_bit old a b) b a small_b la a b (with_bit-there old a b small_a lb), with_bit-there (with_bit old a b) b a small_b la);
    }

-- the links of the slots before one
pub record LinksBefore (slots : List Slot) (k : ℕ) (links : List ℕ) : Type 0 where
  pub len : length links ≡ 64
  pub only : (h g : ℕ) → Has links h g → AreLinked slots g h
  pub each : (h g n : ℕ) (served : Slot) → h < 64 → g < 64 → n < k → get_or slots n served ≡ served → ServedBy slots served (length slots) h g → Has links h g
