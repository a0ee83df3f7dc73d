-- What a draft becomes, over plain variables.
use Rattle.std.proofs.Common.{◌≡◌, ℕ, zero, suc, ◌+◌, ◌-◌, ◌<◌, true, false, List, [], ◌∷◌, ◌++◌, length, replicate}
use Rattle.std.proofs.Common.{Option, Some, None, refl, sym, ap, subst, ◌∙◌, arith}
use Rattle.std.proofs.lemmas.List.{length-replicate, append-nil, replicate_more}
use Rattle.mm_line.specs.declared.name.Mark.{Mark}
use Rattle.mm_draft.specs.declared.{source.Source.Source, segment.Word.Word}
use Rattle.mm_draft.specs.Drafts.{Segment, Thread, Entry, Draft, last, words_so_far, words_of, pointers_of}
use Rattle.mm_draft.specs.Drafts.{pointers_among, change_last, with_words, add_label, add_segment, add_words, zero_word}
use Rattle.mm_draft.specs.{Faults.one_if_pointer, Counts.{Counts, HasRoom}}
use Rattle.mm_draft.proofs.Lasts.{words_more, pointers_more, words_begin, pointers_begin, change_last_none, words_twice}

pub label_step : (v d : Draft) (mark : Mark) (names : List Entry) (bytes : List ℕ) (segment word : ℕ) → v ≡ d
    → bytes ≡ mark.name → segment ≡ length v.segments - 1 → word ≡ words_so_far (last d.segments)
    → names ≡ v.names ++ record { name = bytes; location = record { segment = segment; word = word; is_label = true } } ∷ [] → record v { names = names } ≡ add_label mark d
label_step v d mark names bytes segment word e b s w n =
    let u : word ≡ words_so_far (last v.segments) = w ∙ ap (λ (x : Draft). words_so_far (last x.segments)) (sym e) in
    ap (λ x. record v { names = x }) (n ∙ (λ i. v.names ++ record { name = b i; location = record { segment = s i; word = u i; is_label = true } } ∷ [])) ∙ ap (add_label mark) e

pub segment_step : (v d : Draft) (mark : Mark) (log : ℕ) (names : List Entry) (segments : List Segment) (bytes : List ℕ)
    (words : List Word) (segment : ℕ) → v ≡ d → bytes ≡ mark.name → segment ≡ length v.segments → words ≡ []
    → names ≡ v.names ++ record { name = bytes; location = record { segment = segment; word = 0; is_label = false } } ∷ []
    → segments ≡ v.segments ++ record { name = mark.name; log = log; words = words } ∷ [] → record v { names = names; segments = segments } ≡ add_segment mark log d
segment_step v d mark log names segments bytes words segment e b s w n g =
    let n' : names ≡ v.names ++ record {
      name = mark.name;
      location = record {
        segment = length v.segments;
        word = 0;
        is_label = false;
      };
    } ∷ [] = n ∙
    (λ i. v.names ++ record { name = b i; location = record { segment = s i; word = 0; is_label = false } } ∷ []) in
    let g' : segments ≡ v.segments ++ record { name = mark.name; log = log; words = [] } ∷ [] = g ∙ (λ i. v.segments ++ record { name = mark.name; log = log; words = w i } ∷ []) in
    (λ i. record v { names = n' i; segments = g' i }) ∙ ap (add_segment mark log) e

-- the counts, after words are added to the last segment
pub counts_more : (v d : Draft) (x : Segment) (ws : List Word) (segments : List Segment) (words pointers m q : ℕ) → v ≡ d → Counts v.segments words pointers → HasRoom d m q → last v.segments ≡ Some x
    → m ≡ length ws → q ≡ pointers_among ws → segments ≡ change_last (with_words ws) v.segments → Counts segments (words + m) (pointers + q)
counts_more v d x ws segments words pointers m q e k room l lm lq s =
    let w = words_more ws v.segments x l in
    let p = pointers_more ws v.segments x l in
    let sw = ap words_of s in
    let sp = ap pointers_of s in
    let ew : words_of v.segments ≡ words_of d.segments = ap (λ (y : Draft). words_of y.segments) e in
    let ep : pointers_of v.segments ≡ pointers_of d.segments = ap (λ (y : Draft). pointers_of y.segments) e in
    let a = k.words_are in
    let b = k.pointers_are in
    let r = room.words_fit in
    let t = room.pointers_fit in
    record { words_are = omega arith; pointers_are = omega arith; words_fit = omega arith; pointers_fit = omega arith }

-- a segment that begins has no words
pub counts_begin : (xs ys : List Segment) (s : Segment) (words pointers : ℕ) → Counts xs words pointers → s.words ≡ [] → ys ≡ xs ++ s ∷ [] → Counts ys words pointers
counts_begin xs ys s words pointers k none e = record {
  words_are = k.words_are ∙ sym (words_begin xs s none) ∙ ap words_of (sym e);
  pointers_are = k.pointers_are ∙ sym (pointers_begin xs s none) ∙ ap pointers_of (sym e);
  words_fit = k.words_fit;
  pointers_fit = k.pointers_fit;
}

pub zeros_point_nowhere : (source : Source) (k : ℕ) → pointers_among (replicate k (zero_word source)) ≡ 0
zeros_point_nowhere source zero = refl
zeros_point_nowhere source (suc k) = omega (arith, zeros_point_nowhere source k)

by_last : {P : Type 0} (xs : List Segment) → (last xs ≡ None → P) → ((x : Segment) → last xs ≡ Some x → P) → P
by_last {P} xs none some = of (last xs) refl
  where
    of : (o : Option Segment) → last xs ≡ o → P
    of None e = none e
    of (Some x) e = some x e

-- so many zeros leave room for one more
room_after : (d : Draft) (source : Source) (k count : ℕ) → k < count → HasRoom d count 0 → HasRoom (add_words (replicate k (zero_word source)) d) 1 0
room_after d source k count lt room =
    let ws : List Word = replicate k (zero_word source) in
    let n : length ws ≡ k = length-replicate k (zero_word source) in
    let z : pointers_among ws ≡ 0 = zeros_point_nowhere source k in
    let r = room.words_fit in
    let t = room.pointers_fit in
    by_last d.segments
    (λ none. let e = change_last_none (with_words ws) d.segments none in
    let ew = ap words_of e in
    let ep = ap pointers_of e in
    record { words_fit = omega arith; pointers_fit = omega arith })
    (λ x some. let w = words_more ws d.segments x some in
    let p = pointers_more ws d.segments x some in
    record { words_fit = omega arith; pointers_fit = omega arith })

pub add_nothing : (d : Draft) → add_words [] d ≡ d
add_nothing d = ap (λ s. record d { segments = s }) (nothing_more d.segments)
  where
    nothing_more : (xs : List Segment) → change_last (with_words []) xs ≡ xs
    nothing_more [] = refl
    nothing_more (x ∷ []) = ap (λ w. record x { words = w } ∷ []) (append-nil x.words)
    nothing_more (x ∷ y ∷ rest) = ap (λ r. x ∷ r) (nothing_more (y ∷ rest))

add_twice : (ws vs : List Word) (d : Draft) → add_words vs (add_words ws d) ≡ add_words (ws ++ vs) d
add_twice ws vs d = ap (λ s. record d { segments = s }) (words_twice ws vs d.segments)

pub segments_step : (v d : Draft) (f : Segment → Segment) (segments : List Segment) → v ≡ d → segments ≡ change_last f
    v.segments → record v { segments = segments } ≡ record d { segments = change_last f d.segments }
segments_step v d f segments e s = ap (λ x. record v { segments = x }) s ∙ ap (λ (x : Draft). record x { segments = change_last f x.segments }) e

pub threads_step : (v d : Draft) (f : Thread → Thread) (threads : List Thread) → v ≡ d → threads ≡ change_last f
    v.threads → record v { threads = threads } ≡ record d { threads = change_last f d.threads }
threads_step v d f threads e s = ap (λ x. record v { threads = x }) s ∙ ap (λ (x : Draft). record x { threads = change_last f x.threads }) e

-- a zero more
pub zeros_more : (d e f : Draft) (source : Source) (w : Word) (k : ℕ) → e ≡ add_words (replicate k (zero_word source)) d
    → w ≡ zero_word source → f ≡ add_words (w ∷ []) e → f ≡ add_words (replicate (k + 1) (zero_word source)) d
zeros_more d e f source w k before is after =
    after ∙ (λ i. add_words (is i ∷ []) (before i)) ∙ add_twice (replicate k (zero_word source)) (zero_word source ∷ []) d ∙ ap (λ ws. add_words ws d) (replicate_more k (zero_word source))

pub room_more : (d e : Draft) (source : Source) (w : Word) (k count : ℕ) → k < count → HasRoom d count 0
    → e ≡ add_words (replicate k (zero_word source)) d → w ≡ zero_word source → HasRoom e 1 (one_if_pointer w.content)
room_more d e source w k count lt room before is =
    let P : Draft → Word → Type 0 = λ x y. HasRoom x 1 (one_if_pointer y.content) in
    subst (λ y. P e y) (sym is) (subst (λ x. P x (zero_word source)) (sym before) (room_after d source k count lt room))
