-- Runs that words are given to one by one.
use Rattle.std.proofs.Common.{◌≡◌, ℕ, zero, suc, ◌+◌, ◌*◌, ◌%◌, ◌^◌, ◌<◌, ◌≤◌, List, [], ◌∷◌, ◌++◌, Option, Some, None, sym, ap}
use Rattle.std.proofs.Common.{◌∙◌, subst, append_assoc, append-nil, add-one, arith}
use Rattle.std.proofs.lemmas.{Grind.flat_map-append, Map.Keys.{sorted_head, sorted_tail}, Cmp.ranked}
use Rattle.std.specs.declared.cmp.Ordering.TheVariants.{Less}
use Rattle.std.specs.{Prelude.Contains, List.{AllByRecursion, flat_map, Sorted.IsStrictlySortedBy}, Ordering.nat_cmp}
use Rattle.mm_span.specs.Pairs.{EachPair}
use Rattle.mm_span.specs.Spans.{Span, word_in, AreSpans, IsWord, IsBuilt, words_from, words_of, given, spans_after}
use Rattle.mm_span.proofs.{Members.{all_at, all_of}, Runs.spans_are}

-- 1. One word more.

from_more : (n w : ℕ) → words_from w (suc n) ≡ words_from w n ++ (w + 8 * n) ∷ []
from_more zero w = ap (λ (x : ℕ). x ∷ []) (omega arith)
from_more (suc n) w =
    ap (λ (l : List ℕ). w ∷ l) (from_more n (w + 8) ∙ ap (λ (x : ℕ). words_from (w + 8) n ++ x ∷ []) (omega arith))

pub given_new : (spans : List Span) (s : Span) (w : ℕ)
    → given (spans ++ s ∷ []) (Some (record { first = w; count = 1 })) ≡ given spans (Some s) ++ w ∷ []
given_new spans s w =
    ap (λ (l : List ℕ). l ++ w ∷ []) (flat_map-append words_of spans (s ∷ []) ∙ ap (λ (l : List ℕ). flat_map words_of spans ++ l) (append-nil (words_of s)))

pub given_longer : (spans : List Span) (s : Span) (w : ℕ) → word_in s s.count ≡ w
    → given spans (Some (record { first = s.first; count = s.count + 1 })) ≡ given spans (Some s) ++ w ∷ []
given_longer spans s w next =
    let one_more : words_from s.first (s.count + 1) ≡ words_of s ++ w ∷ [] =
    ap (words_from s.first) (add-one s.count) ∙ from_more s.count s.first ∙ ap (λ (x : ℕ). words_of s ++ x ∷ []) next in
    ap (λ (l : List ℕ). flat_map words_of spans ++ l) one_more ∙ sym (append_assoc (flat_map words_of spans) (words_of s) (w ∷ []))

pub built_more : (old new : List Span) (last : Option Span) (s : Span) (w : ℕ)
    → ((more : List ℕ) → new ++ spans_after (Some s) more ≡ old ++ spans_after last (w ∷ more))
    → given new (Some s) ≡ given old last ++ w ∷ [] → word_in s s.count ≤ 2 ^ 54 → IsBuilt old last → IsBuilt new (Some s)
built_more old new last s w goes is room h = record {
  room = room;
  runs = λ more.
      goes more ∙ h.runs (w ∷ more)
      ∙ ap (spans_after None) (sym (append_assoc (given old last) (w ∷ []) more) ∙ ap (λ (l : List ℕ). l ++ more) (sym is));
}

-- 2. All words.

pub built_whole : (spans done : List Span) (last : Option Span) → IsBuilt spans last → EachPair ◌<◌ (given spans last)
    → AllByRecursion IsWord (given spans last) → done ≡ spans ++ spans_after last [] → AreSpans (Contains (given spans last)) done
built_whole spans done last h up words is =
    let ws = given spans last in
    subst (AreSpans (Contains ws)) (sym (is ∙ h.runs [] ∙ ap (spans_after None) (append-nil ws)))
    (spans_are ws up (all_of (λ w. w % 8 ≡ 0) ws (λ w there. (all_at IsWord ws w words there).0)))

-- 3. Sets of words.

pub rises : (words : List ℕ) → IsStrictlySortedBy nat_cmp words → EachPair ◌<◌ words
rises [] h = tt
rises (w ∷ ws) h = (
  all_of (λ x. w < x) ws (λ x there. ranked w x Less (sym (all_at (λ y. nat_cmp w y ≡ Less) ws x (sorted_head nat_cmp w ws h) there))),
  rises ws (sorted_tail nat_cmp w ws h),
)

-- no words are left after those so far
pub so_far : (words left keys : List ℕ) → left ≡ [] → words ++ left ≡ keys → words ≡ keys
so_far words left keys none whole = sym (append-nil words) ∙ ap (λ l. words ++ l) (sym none) ∙ whole
