-- What a line adds leaves a draft within its bounds.
use Rattle.std.proofs.Common.{◌≡◌, ℕ, zero, suc, ◌+◌, ◌-◌, ◌<◌, ◌≤◌, Bool, true, false, ◌||◌, ◌==◌, nat_lt}
use Rattle.std.proofs.Common.{if◌then◌else◌, List, [], ◌∷◌, ◌++◌, map, length, replicate, slice_get, Option, Some, None}
use Rattle.std.proofs.Common.{is_some, bytes_eq, refl, sym, ap, ◌∙◌, subst, arith, length-append}
use Rattle.std.proofs.lemmas.List.{map-append, Folds.list_any-append}
use Rattle.std.proofs.lemmas.Bool.{or_parts, false_from_ne_true, or_from, ltb-false, Decides.nat_tests}
use Rattle.std.{proofs.lemmas.Slice.Eq.bytes_eq-Decides, specs.List.{list_any, AllByRecursion}}
use Rattle.mm_draft.proofs.{Lasts.pointers_append, Allowed.good}
use Rattle.mm_draft.specs.declared.{source.Source.Source, segment.Word.Word, location.Location.Location}
use Rattle.mm_draft.specs.declared.thread.Register.{Register}
use Rattle.mm_draft.specs.Drafts.{Segment, Entry, Thread, Draft, place_in, last, words_so_far, words_of, pointers_among}
use Rattle.mm_draft.specs.Drafts.{pointers_of, change_last, with_words, with_register, zero_word}
use Rattle.mm_draft.specs.Faults.{room_of, fault_if, has_register, words_faults}
use Rattle.mm_model.{proofs.CoreRows.into_map, specs.Limits.{segment_limit, word_limit, reloc_limit}}
use Rattle.mm_line.specs.declared.fault.Fault.TheVariants.{Full, Limit}
use Rattle.mm_object.specs.{Names.is_name, Objects.{is_among, are_apart}}
use Rattle.mm_object.proofs.{Bools.any-map, Apartness.apart-push, Members.each_more}
use Rattle.mm_asm.specs.Bounds.{IsWord, IsRegister, AreApart, IsSegment, IsThread, HasWord, IsLocation, AreNamed}
use Rattle.mm_asm.specs.Bounds.{AreSegments, AreThreads}
use Rattle.mm_asm.proofs.Lists.{each_weaker, each_changed, length_changed, map_changed, total, total_more}
use Rattle.mm_asm.proofs.{Lists.{total_changed, none_both}, Order.{is_other, each_among}}

-- 1. Names.

place_more : (entries more : List Entry) (name : List ℕ) (p : Location) → place_in entries name ≡ Some p → place_in (entries ++ more) name ≡ Some p
place_more [] more name p e = absurd cc
place_more (x ∷ entries) more name p e = by (bytes_eq name x.name) e (place_more entries more name p)
  where
    by : (b : Bool) → (if b then Some x.location else place_in entries name) ≡ Some p → (place_in entries name ≡ Some p → place_in (entries ++ more) name ≡ Some p) →
        (if b then Some x.location else place_in (entries ++ more) name) ≡ Some p
    by true f later = f
    by false f later = later f

-- a name that stands for nothing stands for what is entered with it
place_new : (entries : List Entry) (e : Entry) → is_some (place_in entries e.name) ≡ false → place_in (entries ++ e ∷ []) e.name ≡ Some e.location
place_new [] e new = by (bytes_eq e.name e.name) ((bytes_eq-Decides e.name e.name).1 refl)
  where
    by : (b : Bool) → b ≡ true → (if b then Some e.location else None) ≡ Some e.location
    by true f = refl
    by false f = absurd cc
place_new (x ∷ entries) e new = by (bytes_eq e.name x.name) new (place_new entries e)
  where
    by : (b : Bool) → is_some (if b then Some x.location else place_in entries e.name) ≡ false → (is_some (place_in entries e.name) ≡ false → place_in (entries ++ e ∷ []) e.name ≡ Some e.location) →
        (if b then Some x.location else place_in (entries ++ e ∷ []) e.name) ≡ Some e.location
    by true f later = absurd cc
    by false f later = later f

-- and is among no entries
entry_is_new : (entries : List Entry) (name : List ℕ) → is_some (place_in entries name) ≡ false → is_among name (map (λ (e : Entry). e.name) entries) ≡ false
entry_is_new [] name new = refl
entry_is_new (x ∷ entries) name new = by (bytes_eq name x.name) refl new (entry_is_new entries name)
  where
    by : (b : Bool) → bytes_eq name x.name ≡ b → is_some (if b then Some x.location else place_in entries name) ≡ false
        → (is_some (place_in entries name) ≡ false → is_among name (map (λ (e : Entry). e.name) entries) ≡ false) →
        is_among name (map (λ (e : Entry). e.name) (x ∷ entries)) ≡ false
    by true e f later = absurd cc
    by false e f later = or_from _ _ (is_other name x.name (λ same. let t = (bytes_eq-Decides name x.name).1 same in cc (t, e))) (later f)

entries_apart : (entries : List Entry) (e : Entry) → are_apart (map (λ (x : Entry). x.name) entries) ≡ true
    → is_some (place_in entries e.name) ≡ false → are_apart (map (λ (x : Entry). x.name) (entries ++ e ∷ [])) ≡ true
entries_apart entries e h new =
    ap are_apart (map-append (λ (x : Entry). x.name) entries (e ∷ [])) ∙ apart-push (map (λ (x : Entry). x.name) entries) e.name h (entry_is_new entries e.name new)

named_more : (entries : List Entry) (e : Entry) (k : ℕ) (segments : List Segment) → AreNamed entries k segments → AreNamed (entries ++ e ∷ []) k segments
named_more entries e k [] h = tt
named_more entries e k (s ∷ segments) h = (place_more entries (e ∷ []) s.name (record { segment = k; word = 0; is_label = false }) h.0, named_more entries e (k + 1) segments h.1)

named_push : (entries : List Entry) (k : ℕ) (segments : List Segment) (s : Segment) → AreNamed entries k segments
    → place_in entries s.name ≡ Some (record { segment = k + length segments; word = 0; is_label = false })
    → AreNamed entries k (segments ++ s ∷ [])
named_push entries k [] s h e =
    let same : k + 0 ≡ k = omega arith in
    (e ∙ ap (λ (i : ℕ). Some (let p : Location = record { segment = i; word = 0; is_label = false } in p)) same, tt)
named_push entries k (x ∷ segments) s h e =
    let same : k + length (x ∷ segments) ≡ k + 1 + length segments = omega arith in
    (h.0, named_push entries (k + 1) segments s h.1 (e ∙ ap (λ (i : ℕ). Some (let p : Location = record { segment = i; word = 0; is_label = false } in p)) same))

named_longer : (entries : List Entry) (words : List Word) (k : ℕ) (segments : List Segment) → AreNamed entries k segments → AreNamed entries k (change_last (with_words words) segments)
named_longer entries words k [] h = tt
named_longer entries words k (x ∷ []) h = h
named_longer entries words k (x ∷ y ∷ segments) h = (h.0, named_longer entries words (k + 1) (y ∷ segments) h.1)

-- each segment's name stands for something
pub each_stands : (entries : List Entry) (k : ℕ) (segments : List Segment) → AreNamed entries k segments
    → AllByRecursion (λ (s : Segment). (p : Location) × (place_in entries s.name ≡ Some p)) segments
each_stands entries k [] h = tt
each_stands entries k (s ∷ segments) h = ((record { segment = k; word = 0; is_label = false }, h.0), each_stands entries (k + 1) segments h.1)

-- a name that stands for nothing is that of no segment
name_is_new : (entries : List Entry) (name : List ℕ) (segments : List Segment) → AreNamed entries 0 segments
    → is_some (place_in entries name) ≡ false → is_among name (map (λ (s : Segment). s.name) segments) ≡ false
name_is_new entries name segments h new = false_from_ne_true (is_among name (map (λ (s : Segment). s.name) segments)) (λ among.
    let Stands : List ℕ → Type 0 = λ n. (p : Location) × (place_in entries n ≡ Some p) in
    let stands : (p : Location) × (place_in entries name ≡ Some p) = each_among Stands name
    (map (λ (s : Segment). s.name) segments) (into_map Stands (λ (s : Segment). s.name) segments
    (each_stands entries 0 segments h)) among in
    let some : is_some (place_in entries name) ≡ true = ap is_some stands.1 in
    cc (some, new))

-- 2. Places.

place_stays : (segments more : List Segment) (i word : ℕ) → HasWord (slice_get segments i) word → HasWord (slice_get (segments ++ more) i) word
place_stays [] more i word h = absurd h
place_stays (s ∷ segments) more zero word h = h
place_stays (s ∷ segments) more (suc i) word h = place_stays segments more i word h

place_of_last : (segments : List Segment) (s : Segment) → HasWord (slice_get (segments ++ s ∷ []) (length segments)) 0
place_of_last [] s = omega arith
place_of_last (x ∷ segments) s = place_of_last segments s

place_of_label : (segments : List Segment) (s : Segment) → last segments ≡ Some s → HasWord (slice_get segments (length segments - 1)) (words_so_far (last segments))
place_of_label [] s e = absurd cc
place_of_label (x ∷ []) s e = le_self (length x.words)
  where
    le_self : (n : ℕ) → n ≤ n
    le_self n = omega arith
place_of_label (x ∷ y ∷ segments) s e =
    let next : length (x ∷ y ∷ segments) - 1 ≡ suc (length (y ∷ segments) - 1) = omega arith in
    subst (λ (i : ℕ). HasWord (slice_get (x ∷ y ∷ segments) i) (words_so_far (last (y ∷ segments)))) (sym next) (place_of_label (y ∷ segments) s e)

place_in_longer : (words : List Word) (segments : List Segment) (i word : ℕ) → HasWord (slice_get segments i) word → HasWord (slice_get (change_last (with_words words) segments) i) word
place_in_longer words [] i word h = absurd h
place_in_longer words (x ∷ []) zero word h = omega (arith, h, length-append x.words words)
place_in_longer words (x ∷ []) (suc i) word h = absurd h
place_in_longer words (x ∷ y ∷ segments) zero word h = h
place_in_longer words (x ∷ y ∷ segments) (suc i) word h = place_in_longer words (y ∷ segments) i word h

-- 3. Sums.

words_total : (segments : List Segment) → words_of segments ≡ total (λ (s : Segment). length s.words) segments
words_total [] = refl
words_total (s ∷ segments) = omega (arith, words_total segments)

pointers_total : (segments : List Segment) → pointers_of segments ≡ total (λ (s : Segment). pointers_among s.words) segments
pointers_total [] = refl
pointers_total (s ∷ segments) = omega (arith, pointers_total segments)

-- 4. Segments.

pub label_kept : (segments : List Segment) (entries : List Entry) (name : List ℕ) (s : Segment) → AreSegments segments entries → last segments ≡ Some s → is_some (place_in entries name) ≡ false →
    AreSegments segments (entries ++ record { name = name; location = record { segment = length segments - 1; word = words_so_far (last segments); is_label = true } } ∷ [])
label_kept segments entries name s h e new =
    let entered : Entry = record { name = name; location = record { segment = length segments - 1; word = words_so_far (last segments); is_label = true } } in
    record {
      few = h.few;
      each = h.each;
      names = h.names;
      words = h.words;
      pointers = h.pointers;
      named = named_more entries entered 0 segments h.named;
      alone = entries_apart entries entered h.alone new;
      places = each_more (λ (x : Entry). IsLocation segments x.location) entries (entered ∷ []) h.places (place_of_label segments s e, tt);
    }

module _ (segments : List Segment) (entries : List Entry) (name : List ℕ) (log : ℕ) (h : AreSegments segments entries) where
  abbrev begun : Segment
  begun = record { name = name; log = log; words = [] }

  abbrev entered : Entry
  entered = record { name = name; location = record { segment = length segments; word = 0; is_label = false } }

  pub begin_kept : length segments < segment_limit → is_some (place_in entries name) ≡ false → is_name name ≡ true → 3 ≤ log → log ≤ 20 → AreSegments (segments ++ begun ∷ []) (entries ++ entered ∷ [])
  begin_kept few new is least greatest =
      let same : length segments ≡ 0 + length segments = omega arith in
      let first : Some entered.location ≡ Some (record { segment = 0 + length segments; word = 0; is_label = false }) = ap
      (λ (i : ℕ). Some (let p : Location = record { segment = i; word = 0; is_label = false } in p)) same in
      let is_segment : IsSegment begun = record { name = is; least = least; greatest = greatest; room = omega arith; words = tt } in
      let words_same : words_of (segments ++ begun ∷ []) ≡ words_of segments = omega (
        arith,
        words_total (segments ++ begun ∷ []),
        words_total segments,
        total_more
            (λ (s : Segment). length s.words) segments (begun ∷ []),
      ) in
      let pointers_same : pointers_of (segments ++ begun ∷ []) ≡ pointers_of segments = omega (
        arith,
        pointers_total (segments ++ begun ∷ []),
        pointers_total segments,
        total_more
            (λ (s : Segment). pointers_among s.words) segments (begun ∷ []),
      ) in
      let names_same : map (λ (s : Segment). s.name) (segments ++ begun ∷ []) ≡ map (λ (s : Segment). s.name) segments ++ name ∷ [] = map-append (λ (s : Segment). s.name) segments (begun ∷ []) in
      record {
        few = omega (arith, length-append segments (begun ∷ []), few);
        each = each_more IsSegment segments (begun ∷ []) h.each (is_segment, tt);
        names = ap are_apart names_same ∙ apart-push (map (λ (s : Segment). s.name) segments) name h.names (name_is_new entries name segments h.named new);
        named = named_push (entries ++ entered ∷ []) 0 segments begun (named_more entries entered 0 segments h.named) (place_new entries entered new ∙ first);
        alone = entries_apart entries entered h.alone new;
        words = omega (arith, words_same, h.words);
        pointers = omega (arith, pointers_same, h.pointers);
        places = each_more (λ (x : Entry). IsLocation (segments ++ begun ∷ []) x.location) entries (entered ∷ [])
            (each_weaker (λ (x : Entry). IsLocation segments x.location) (λ (x : Entry). IsLocation (segments ++ begun ∷ [])
            x.location) entries (λ x k. place_stays segments (begun ∷ []) x.location.segment x.location.word k) h.places)
            (place_of_last segments begun, tt);
      }

module _ (d : Draft) (h : AreSegments d.segments d.names) (words : List Word) (count pointers left : ℕ)
    (is_count : length words ≡ count) (is_pointers : pointers_among words ≡ pointers)
    (are : AllByRecursion IsWord words) where
  abbrev longer : List Segment
  longer = change_last (with_words words) d.segments

  with_room : (s : Segment) → last d.segments ≡ Some s → length s.words + count ≤ room_of s → words_of d.segments +
      count ≤ word_limit → pointers_of d.segments + pointers ≤ reloc_limit → AreSegments longer d.names
  with_room s is_last room word_room pointer_room =
      let grown : (x : Segment) → last d.segments ≡ Some x → IsSegment x → IsSegment (with_words words x) = λ x e k.
      let same : x ≡ s = cc (e, is_last) in
      let fits : length x.words + count ≤ room_of x = subst (λ (y : Segment). length y.words + count ≤ room_of y) (sym same) room in
      record { name = k.name; least = k.least; greatest = k.greatest; room = omega (arith, length-append x.words words, fits, is_count); words = each_more IsWord x.words words k.words are } in
      let words_grow = total_changed (λ (x : Segment). length x.words) (with_words words) (length words) d.segments (λ x. omega (arith, length-append x.words words)) in
      let pointers_grow = total_changed (λ (x : Segment). pointers_among x.words) (with_words words) (pointers_among words) d.segments (λ x. omega (arith, pointers_append x.words words)) in
      let names_same : map (λ (x : Segment). x.name) longer ≡ map (λ (x : Segment). x.name) d.segments = map_changed (with_words words) (λ (x : Segment). x.name) d.segments (λ x. refl) in
      record {
        few = omega (arith, length_changed (with_words words) d.segments, h.few);
        each = each_changed (with_words words) IsSegment d.segments h.each grown;
        names = ap are_apart names_same ∙ h.names;
        named = named_longer d.names words 0 d.segments h.named;
        alone = h.alone;
        words = omega (arith, words_total longer, words_total d.segments, words_grow, is_count, word_room);
        pointers = omega (arith, pointers_total longer, pointers_total d.segments, pointers_grow, is_pointers, pointer_room);
        places = each_weaker (λ (x : Entry). IsLocation d.segments x.location) (λ (x : Entry). IsLocation longer x.location) d.names
            (λ x k. place_in_longer words d.segments x.location.segment x.location.word k) h.places;
      }

  pub words_kept : words_faults d count pointers left (last d.segments) ≡ [] → AreSegments longer d.names
  words_kept none = by (last d.segments) refl none
    where
      by : (o : Option Segment) → last d.segments ≡ o → words_faults d count pointers left o ≡ [] → AreSegments longer d.names
      by None e f = absurd cc
      by (Some s) e f =
          let full : Bool = nat_lt (room_of s) (length s.words + count) in
          let many : Bool = nat_lt word_limit (words_of d.segments + count) || nat_lt reloc_limit (pointers_of d.segments + pointers) in
          let both = none_both (fault_if full Full left) (fault_if many Limit left) f in
          let limits = or_parts (nat_lt word_limit (words_of d.segments + count)) (nat_lt reloc_limit (pointers_of d.segments + pointers)) (good many Limit left both.1) in
          with_room s e (ltb-false (room_of s) (length s.words + count) (good full Full left both.0))
          (ltb-false word_limit (words_of d.segments + count) limits.0) (ltb-false reloc_limit (pointers_of d.segments + pointers) limits.1)

-- integers that are 0
pub zeros_are : (source : Source) (n : ℕ) → AllByRecursion IsWord (replicate n (zero_word source))
zeros_are source zero = tt
zeros_are source (suc n) = ((0, omega arith), zeros_are source n)

-- 5. Threads.

apart_push : (numbers : List ℕ) (n : ℕ) → AreApart numbers → list_any (λ m. m == n) numbers ≡ false → AreApart (numbers ++ n ∷ [])
apart_push [] n h new = (refl, tt)
apart_push (m ∷ numbers) n h new =
    let both = or_parts (m == n) (list_any (λ k. k == n) numbers) new in
    let first : list_any (λ k. k == m) (numbers ++ n ∷ []) ≡ false =
    list_any-append (λ k. k == m) numbers (n ∷ []) ∙ or_from _ _ h.0 (or_from (n == m) false (turn m n both.0) refl) in
    (first, apart_push numbers n h.1 both.1)
  where
    turn : (a b : ℕ) → (a == b) ≡ false → (b == a) ≡ false
    turn a b e = grind (arith, nat_tests)

keys_push : {A : Type 0} (key : A → ℕ) (xs : List A) (x : A) → AreApart (map key xs) → list_any (λ y. key y == key x) xs ≡ false → AreApart (map key (xs ++ x ∷ []))
keys_push key xs x h new = subst AreApart (sym (map-append key xs (x ∷ []))) (apart_push (map key xs) (key x) h (any-map (λ m. m == key x) key xs ∙ new))

pub thread_kept : (threads : List Thread) (t : Thread) → AreThreads threads → IsThread t → list_any (λ (x : Thread). x.slot == t.slot) threads ≡ false → AreThreads (threads ++ t ∷ [])
thread_kept threads t h is new = record {
  each = each_more IsThread threads (t ∷ []) h.each (is, tt);
  apart = keys_push (λ (x : Thread). x.slot) threads t h.apart new;
}

pub register_kept : (threads : List Thread) (r : Register) → AreThreads threads → IsRegister r → has_register (last threads) r.number ≡ false → AreThreads (change_last (with_register r) threads)
register_kept threads r h is new =
    let grown : (t : Thread) → last threads ≡ Some t → IsThread t → IsThread (with_register r t) = λ t e k.
    let other : list_any (λ (x : Register). x.number == r.number) t.registers ≡ false = ap (λ (o : Option Thread). has_register o r.number) (sym e) ∙ new in
    record {
      slot = k.slot;
      group = k.group;
      handler = k.handler;
      perm = k.perm;
      target = k.target;
      registers = each_more IsRegister t.registers (r ∷ []) k.registers (is, tt);
      apart = keys_push (λ (x : Register). x.number) t.registers r k.apart other;
    } in
    let slots_same : map (λ (t : Thread). t.slot) (change_last (with_register r) threads) ≡ map (λ (t : Thread). t.slot)
    threads = map_changed (with_register r) (λ (t : Thread). t.slot) threads (λ t. refl) in
    record {
      each = each_changed (with_register r) IsThread threads h.each grown;
      apart = subst AreApart (sym slots_same) h.apart;
    }
