-- Words, flags and registers, read again from their numbers.
use Rattle.std.proofs.Common.{◌≡◌, ℕ, suc, ◌+◌, ◌*◌, ◌/◌, ◌%◌, ◌<◌, Bool, true, false, not, ◌&&◌, if◌then◌else◌, List}
use Rattle.std.proofs.Common.{[], ◌∷◌, ◌++◌, map, length, refl, sym, ap, ◌∙◌, arith, append_assoc}
use Rattle.std.specs.{Prelude.◌==◌, List.{AllByRecursion, flat_map}}
use Rattle.mm_model.proofs.{Sames.words_same, Bytes.SpelledRecords.is_spelled, OneIf.one_back}
use Rattle.mm_model.specs.{declared.slot.Pending.Pending, Effect.same_word, Flags.{one_if, flags, number_of_flags}}
use Rattle.mm_word.specs.{declared.word.Word.{Word, TheVariants.{Int, Ptr}}, Perm.can_fetch}
use Rattle.mm_word.specs.{Pointer.{Pointer, IsWellFormed, pointer_of, bits_of}, Word.{IsWord, word_bits, is_pointer}}
use Rattle.mm_word.proofs.Packing.{pointer_of-bits_of}
use Rattle.mm_config.specs.Forms.{word_of, word_form, word_from, changed_flags, changed_bits, bits_set, words_from, load_form}
use Rattle.mm_config.specs.Forms.{loads_from, ip_of}

-- 1. Flags.

low_flag : (b : Bool) (m : ℕ) → ((one_if b + 2 * m) % 2 == 1) ≡ b
low_flag true m = let e : (1 + 2 * m) % 2 ≡ 1 = omega arith in ap (λ n. n == 1) e
low_flag false m = let e : (0 + 2 * m) % 2 ≡ 0 = omega arith in ap (λ n. n == 1) e

high_flags : (b : Bool) (m : ℕ) → (one_if b + 2 * m) / 2 ≡ m
high_flags true m = omega arith
high_flags false m = omega arith

pub flags_again : (bs : List Bool) → flags (length bs) (number_of_flags bs) ≡ bs
flags_again [] = refl
flags_again (b ∷ bs) =
    let m = number_of_flags bs in
    ap (λ c. c ∷ flags (length bs) ((one_if b + 2 * m) / 2)) (low_flag b m)
    ∙ ap (λ n. b ∷ flags (length bs) n) (high_flags b m)
    ∙ ap (λ l. b ∷ l) (flags_again bs)

pub flags_of : (k : ℕ) (bs : List Bool) → length bs ≡ k → flags k (number_of_flags bs) ≡ bs
flags_of k bs e = ap (λ n. flags n (number_of_flags bs)) (sym e) ∙ flags_again bs

-- 2. Words.

pub word_again : (w : Word) → IsWord w → word_of (is_pointer w) (word_bits w) ≡ w
word_again (Int bits) h = refl
word_again (Ptr p) h =
    ap (λ b. if b then Ptr (pointer_of (bits_of p)) else Int (bits_of p)) (is_spelled p h) ∙ ap Ptr (pointer_of-bits_of p h)

pub word_read : (w : Word) (ns : List ℕ) → IsWord w → word_from (word_form w ++ ns) ≡ (w, ns)
word_read w ns h =
    ap (λ b. (word_of b (word_bits w), ns)) (one_back (is_pointer w)) ∙ ap (λ x. (x, ns)) (word_again w h)

pub ip_again : (other p : Pointer) → IsWellFormed p → can_fetch p.perm ≡ true → ip_of other (bits_of p) ≡ p
ip_again other p h fetches =
    ap (λ b. if b && can_fetch (pointer_of (bits_of p)).perm then pointer_of (bits_of p) else other) (is_spelled p h)
    ∙ ap (λ (q : Pointer). if can_fetch q.perm then q else other) (pointer_of-bits_of p h)
    ∙ ap (λ b. if b then p else other) fetches

-- 3. The registers of a slot.

abbrev pub AreWords : List Word → Type 0
AreWords words = AllByRecursion IsWord words

pub words_read : (base words : List Word) (ns : List ℕ) → length base ≡ length words → AreWords base → AreWords words
    → words_from (changed_flags base words) (map is_pointer words) base (changed_bits base words ++ ns) ≡ (words, ns)
words_read [] [] ns e h k = refl
words_read [] (w ∷ words) ns e h k = absurd (omega (arith, e))
words_read (b ∷ base) [] ns e h k = absurd (omega (arith, e))
words_read (b ∷ base) (w ∷ words) ns e h k = by (same_word b w) refl (words_read base words ns (omega (arith, e)) h.1 k.1)
  where
    by : (same : Bool) → same_word b w ≡ same
        → words_from (changed_flags base words) (map is_pointer words) base (changed_bits base words ++ ns) ≡ (words, ns)
        → words_from (not same ∷ changed_flags base words) (is_pointer w ∷ map is_pointer words) (b ∷ base)
        ((if same then changed_bits base words else word_bits w ∷ changed_bits base words) ++ ns) ≡ (w ∷ words, ns)
    by true is rest = ap (λ (r : List Word × List ℕ). (b ∷ r.0, r.1)) rest ∙ ap (λ x. (x ∷ words, ns)) (words_same b w h.0 k.0 is)
    by false is rest = ap (λ (r : List Word × List ℕ). (word_of (is_pointer w) (word_bits w) ∷ r.0, r.1)) rest ∙ ap (λ x. (x ∷ words, ns)) (word_again w k.0)

pub length-changed : (base words : List Word) → length base ≡ length words → length (changed_flags base words) ≡ length words
length-changed [] [] e = refl
length-changed [] (w ∷ words) e = absurd (omega (arith, e))
length-changed (b ∷ base) [] e = absurd (omega (arith, e))
length-changed (b ∷ base) (w ∷ words) e = ap suc (length-changed base words (omega (arith, e)))

-- the words that differ, by their flags
flagged : (base words : List Word) → length base ≡ length words → bits_set (changed_flags base words) words ≡ changed_bits base words
flagged [] [] e = refl
flagged [] (w ∷ words) e = absurd (omega (arith, e))
flagged (b ∷ base) [] e = absurd (omega (arith, e))
flagged (b ∷ base) (w ∷ words) e = by (same_word b w) (flagged base words (omega (arith, e)))
  where
    by : (same : Bool) → bits_set (changed_flags base words) words ≡ changed_bits base words
        → (if not same then word_bits w ∷ bits_set (changed_flags base words) words else bits_set (changed_flags base words) words)
        ≡ (if same then changed_bits base words else word_bits w ∷ changed_bits base words)
    by true rest = rest
    by false rest = ap (λ l. word_bits w ∷ l) rest

pub bits_changed : (base words : List Word) (mask : ℕ) → length base ≡ length words → mask ≡ number_of_flags (changed_flags base words)
    → bits_set (flags (length words) mask) words ≡ changed_bits base words
bits_changed base words mask e is =
    ap (λ n. bits_set (flags (length words) n) words) is
    ∙ ap (λ l. bits_set l words) (flags_of (length words) (changed_flags base words) (length-changed base words e))
    ∙ flagged base words e

pub none_set : (words : List Word) → bits_set (flags (length words) 0) words ≡ []
none_set [] = refl
none_set (w ∷ words) = none_set words

-- a load that can be kept
pub record IsLoad (p : Pending) : Type 0 where
  pub reg : p.reg < 16
  pub word : IsWord p.word

pub loads_read : (loads : List Pending) (ns : List ℕ) → AllByRecursion IsLoad loads → loads_from (length loads) (flat_map load_form loads ++ ns) ≡ (loads, ns)
loads_read [] ns h = refl
loads_read (p ∷ loads) ns h =
    let tail = flat_map load_form loads ++ ns in
    let low = h.0.reg in
    let reg : p.reg % 256 ≡ p.reg = omega (arith, low) in
    let make : ℕ → Word × List ℕ → List Pending × List ℕ = λ r w. let later = loads_from (length loads) w.1 in (record { reg = r; word = w.0 } ∷ later.0, later.1) in
    ap (λ l. make (p.reg % 256) (word_from l)) (append_assoc (word_form p.word) (flat_map load_form loads) ns)
    ∙ ap (λ r. make r (word_from (word_form p.word ++ tail))) reg
    ∙ ap (make p.reg) (word_read p.word tail h.0.word)
    ∙ ap (λ (r : List Pending × List ℕ). (p ∷ r.0, r.1)) (loads_read loads ns h.1)
