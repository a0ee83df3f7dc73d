-- The steps of the flow.
use Rattle.std.proofs.{lemmas.Bool.cases_lt, Math.ListN.get_or-eq_default}
use Rattle.std.proofs.Common.{◌≡◌, ℕ, ◌<◌, ◌⊎◌, inl, inr, List, [], ◌∷◌, length, slice_index, bit_and, refl, sym, ◌∙◌}
use Rattle.std.proofs.Common.{subst, arith}
use Rattle.mm_flow.specs.Edges.{Edges, entry_at, enters_at}
use Rattle.mm_flow.specs.Flow.{Within, Has, Flows, IsSaturated, IsFlow, Flows.{from, along, through}}
use Rattle.mm_flow.specs.Work.{IsIn, Propagated, IsTarget, IsPassed, IsReady, Working, IsTaken, Flowing}
use Rattle.mm_flow.proofs.{Masks.{Within-refl, Within-trans}, Bits.both_bits, Walks.{and_within, zero_within}}

pub flowing_start : (e : Edges) (old propagated p : List ℕ) → IsReady e old propagated
    → ((k : ℕ) → IsIn k p → k < length old) → ((k : ℕ) → k < length old → IsIn k p ⊎ (slice_index old k ≡ 0))
    → Flowing e old old propagated p
flowing_start e old propagated p ready nodes all = record {
  len = refl;
  grows = λ k. Within-refl (slice_index old k);
  nodes = nodes;
  working = record {
    ready = ready;
    listed = λ k. elim (cases_lt k (length old)) [
      | inl lt ↦ elim (all k lt) [ inl x ↦ inl x | inr none ↦ inr (unmarked k none) ]
      | inr ge ↦ inr (unmarked k (get_or-eq_default old 0 ge))
    ];
  };
  sound = λ k g h. from h;
  no_rise = omega arith;
}
  where
    unmarked : (k : ℕ) → slice_index old k ≡ 0 → Within (slice_index old k) (slice_index propagated k)
    unmarked k none = subst (λ v. Within v (slice_index propagated k)) (sym none) (zero_within (slice_index propagated k))

-- a node that has propagated its mark is saturated
saturated : (e : Edges) (marks propagated : List ℕ) (k : ℕ) → IsPassed e marks propagated → Within (slice_index marks k) (slice_index propagated k) → IsSaturated e marks k
saturated e marks propagated k passed within = record {
  cells = λ j lo hi. Within-trans (slice_index marks k) (slice_index propagated k) (slice_index marks (slice_index e.targets j)) within (passed.cells k j lo hi);
  entry = Within-trans (bit_and (slice_index marks k) (enters_at e k)) (bit_and (slice_index propagated k) (enters_at e k)) (slice_index marks (entry_at e k))
      (and_within (slice_index marks k) (slice_index propagated k) (enters_at e k) within) (passed.entry k);
}

pub flowing_end : (e : Edges) (old marks propagated : List ℕ) → Flowing e old marks propagated [] → IsFlow e old marks
flowing_end e old marks propagated h = record {
  len = h.len;
  grows = h.grows;
  saturated = λ k lt. elim (h.working.listed k) [ inl no_one ↦ absurd no_one | inr within ↦ saturated e marks propagated k h.working.ready.passed within ];
  sound = h.sound;
  no_rise = h.no_rise;
}

module _ (e : Edges) (old marks propagated p a q b propagated2 r : List ℕ) (k : ℕ) (all : List ℕ) (h : Flowing e old marks propagated all) (t : IsTaken k all p) (lt : k < length old)
    (c : Propagated (λ t. t ≡ entry_at e k) marks p (bit_and (slice_index marks k) (enters_at e k)) a q)
    (v : Propagated (IsTarget e k) a q (slice_index marks k) b r) where
  sound_a : (n g : ℕ) → Has a n g → Flows e old g n
  sound_a n g x = elim (c.only n g x) [
    | inl y ↦ h.sound n g y
    | inr y ↦ let two = both_bits (slice_index marks k) (enters_at e k) g y.1 in through k (h.sound k g two.0) lt two.1 (sym y.0)
  ]

  sound_b : (n g : ℕ) → Has b n g → Flows e old g n
  sound_b n g x = elim (v.only n g x) [
    | inl y ↦ sound_a n g y
    | inr y ↦ along k y.0.at (h.sound k g y.1) lt y.0.low y.0.high y.0.is
  ]

  pub flowing_step : Working e b propagated2 r → Flowing e old b propagated2 r
  flowing_step working = record {
    len = v.len ∙ c.len ∙ h.len;
    grows = λ n. Within-trans (slice_index old n) (slice_index marks n) (slice_index b n) (h.grows n) (Within-trans (slice_index marks n) (slice_index a n) (slice_index b n) (c.grows n) (v.grows n));
    nodes = λ n x. elim (v.bounded n x) [
      | inr y ↦ let e1 = c.len in let e2 = h.len in omega arith
      | inl y ↦ elim (c.bounded n y) [
        | inr z ↦ let e2 = h.len in omega arith
        | inl z ↦ h.nodes n (t.keeps n z)
      ]
    ];
    working = working;
    sound = sound_b;
    no_rise = let x = h.no_rise in let y = v.no_rise in let z = c.no_rise in omega arith;
  }

-- where a pending node is taken, it alone may neither be pending nor have propagated its mark
pub working_taken : (e : Edges) (marks propagated all p : List ℕ) (k : ℕ) → Working e marks propagated all → IsTaken k all p → Working e marks propagated (k ∷ p)
working_taken e marks propagated all p k h t = record { ready = h.ready; listed = λ n. elim (h.listed n) [ inl m ↦ inl (t.cases n m) | inr w ↦ inr w ] }
