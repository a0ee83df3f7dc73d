-- What is among the targets of a draft.
use Rattle.std.proofs.Common.{◌⊎◌, ℕ, Bool, true, false, nat_lt, if◌then◌else◌, List, [], ◌∷◌, sym, subst, inl, inr}
use Rattle.std.specs.List.{flat_map, AllByRecursion}
use Rattle.mm_line.specs.declared.statement.{Constant.{Constant, TheVariants.{Integer, Pointer}}, Content.Content}
use Rattle.mm_line.specs.Ranges.{IsContent}
use Rattle.mm_draft.specs.{declared.source.Source.Source, Drafts.{Segment, Thread, Draft}}
use Rattle.mm_asm.specs.Names.{Use, constant_uses, content_uses, word_uses, segment_uses, register_uses, thread_uses}
use Rattle.mm_asm.specs.Names.{merge, uses_of}
use Rattle.mm_asm.specs.Bounds.{IsWord, IsValue, IsPlaced, IsRegister, IsSegment, IsThread, IsDraft}
use Rattle.mm_object.proofs.Members.{In, from_flat, each_in}
use Rattle.mm_line.specs.declared.statement.Content.TheVariants as content

-- 1. Two lists merged.

module _ (u : Use) where
  abbrev Keeps : List Use → Type 0
  Keeps xs = (ys : List Use) → In u xs ⊎ In u ys → In u (merge xs ys)

  keeps : (x : Use) (xs ys : List Use) → Keeps xs → In u (x ∷ xs) ⊎ In u ys → In u (merge (x ∷ xs) ys)
  keeps x xs [] k (inl (inl e)) = inl e
  keeps x xs [] k (inl (inr m)) = inr (k [] (inl m))
  keeps x xs [] k (inr n) = absurd n
  keeps x xs (y ∷ ys) k h = by (nat_lt y.source.line x.source.line) (λ g. keeps x xs ys k g) h
    where
      by : (b : Bool) → (In u (x ∷ xs) ⊎ In u ys → In u (merge (x ∷ xs) ys)) → In u (x ∷ xs) ⊎ In u (y ∷ ys) → In u (if b then y ∷ merge (x ∷ xs) ys else x ∷ merge xs (y ∷ ys))
      by true g (inl m) = inr (g (inl m))
      by true g (inr (inl e)) = inl e
      by true g (inr (inr n)) = inr (g (inr n))
      by false g (inl (inl e)) = inl e
      by false g (inl (inr m)) = inr (k (y ∷ ys) (inl m))
      by false g (inr n) = inr (k (y ∷ ys) (inr n))

  pub in_merge : (xs : List Use) → Keeps xs
  in_merge [] ys (inl m) = absurd m
  in_merge [] ys (inr n) = n
  in_merge (x ∷ xs) ys h = keeps x xs ys (in_merge xs) h

  abbrev IsOfEither : List Use → Type 0
  IsOfEither xs = (ys : List Use) → In u (merge xs ys) → In u xs ⊎ In u ys

  gives : (x : Use) (xs ys : List Use) → IsOfEither xs → In u (merge (x ∷ xs) ys) → In u (x ∷ xs) ⊎ In u ys
  gives x xs [] k (inl e) = inl (inl e)
  gives x xs [] k (inr m) = elim (k [] m) [ inl l ↦ inl (inr l) | inr r ↦ absurd r ]
  gives x xs (y ∷ ys) k h = by (nat_lt y.source.line x.source.line) (λ g. gives x xs ys k g) h
    where
      by : (b : Bool) → (In u (merge (x ∷ xs) ys) → In u (x ∷ xs) ⊎ In u ys) → In u (if b then y ∷ merge (x ∷ xs) ys else x ∷ merge xs (y ∷ ys)) → In u (x ∷ xs) ⊎ In u (y ∷ ys)
      by true g (inl e) = inr (inl e)
      by true g (inr m) = elim (g m) [ inl l ↦ inl l | inr r ↦ inr (inr r) ]
      by false g (inl e) = inl (inl e)
      by false g (inr m) = elim (k (y ∷ ys) m) [ inl l ↦ inl (inr l) | inr r ↦ inr r ]

  pub from_merge : (xs : List Use) → IsOfEither xs
  from_merge [] ys h = inr h
  from_merge (x ∷ xs) ys h = gives x xs ys (from_merge xs) h

-- 2. Each target is one that a line can say.

value_placed : (u : Use) (source : Source) (c : Constant) → IsValue c → In u (constant_uses source c) → IsPlaced u.target
value_placed u source (Integer n) h m = absurd m
value_placed u source (Pointer perm t) h (inl e) = subst (λ (v : Use). IsPlaced v.target) (sym e) h
value_placed u source (Pointer perm t) h (inr m) = absurd m

word_placed : (u : Use) (source : Source) (c : Content) → ((most : ℕ) × IsContent most c) → In u (content_uses source c) → IsPlaced u.target
word_placed u source (content.Constant c) h m = value_placed u source c h m
word_placed u source (content.Code c) h m = absurd m

pub segment_placed : (u : Use) (segments : List Segment) → AllByRecursion IsSegment segments → In u (flat_map segment_uses segments) → IsPlaced u.target
segment_placed u segments h m =
    let s = from_flat segment_uses u segments m in
    let w = from_flat word_uses u s.0.words s.2 in
    let is_segment : IsSegment s.0 = each_in IsSegment s.0 segments h s.1 in
    word_placed u w.0.source w.0.content (each_in IsWord w.0 s.0.words is_segment.words w.1) w.2

thread_placed : (u : Use) (t : Thread) → IsThread t → In u (thread_uses t) → IsPlaced u.target
thread_placed u t h (inl e) = subst (λ (v : Use). IsPlaced v.target) (sym e) h.target
thread_placed u t h (inr m) =
    let r = from_flat register_uses u t.registers m in
    value_placed u r.0.source r.0.value (each_in IsRegister r.0 t.registers h.registers r.1).1 r.2

pub threads_placed : (u : Use) (threads : List Thread) → AllByRecursion IsThread threads → In u (flat_map thread_uses threads) → IsPlaced u.target
threads_placed u threads h m =
    let t = from_flat thread_uses u threads m in
    thread_placed u t.0 (each_in IsThread t.0 threads h t.1) t.2

pub uses_placed : (d : Draft) (u : Use) → IsDraft d → In u (uses_of d) → IsPlaced u.target
unfolding uses_of
uses_placed d u h m =
    elim (from_merge u (flat_map segment_uses d.segments) (flat_map thread_uses d.threads) m) [
      | inl l ↦ segment_placed u d.segments h.segments.each l
      | inr r ↦ threads_placed u d.threads h.threads.each r
    ]
