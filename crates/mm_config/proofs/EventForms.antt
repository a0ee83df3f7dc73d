-- Queues, read again from their numbers.
use Rattle.std.proofs.Common.{◌≡◌, ℕ, ◌%◌, ◌<◌, ◌≤◌, if◌then◌else◌, List, [], ◌∷◌, ◌++◌, length, refl, sym, ap, ◌∙◌, arith, append_assoc}
use Rattle.std.specs.{Prelude.{unwrap_or, Option}, List.{AllByRecursion}}
use Rattle.mm_model.proofs.{Bytes.SpelledRecords.is_spelled}
use Rattle.mm_model.specs.{declared.event.Event.Event, Fits.EventHoldsWords}
use Rattle.mm_word.specs.declared.{cause.Cause.{Cause, TheVariants.NotPointer}, perm.Perm.TheVariants.Key, word.Word.Word}
use Rattle.mm_word.specs.{Pointer.{Pointer, IsWellFormed, pointer_of, bits_of}, Cause.{number_of, cause_of}}
use Rattle.mm_word.proofs.{Causes.cause_back, Packing.pointer_of-bits_of}
use Rattle.mm_config.specs.Forms.{word_form, word_from, pointer_or_key, event_form, event_from, queue_form, queue_from}
use Rattle.mm_config.proofs.WordForms.{word_read}

-- 1. A queue after the first event.

pub queue_next : (ns : List ℕ) → 7 ≤ length ns → queue_from ns ≡ (event_from ns).0 ∷ queue_from (event_from ns).1
unfolding event_from
queue_next (a ∷ b ∷ c ∷ d ∷ e ∷ f ∷ g ∷ ns) le = refl
queue_next _ le = absurd (omega (arith, le))

pub queue_ends : (ns : List ℕ) → length ns < 7 → queue_from ns ≡ []
queue_ends (a ∷ b ∷ c ∷ d ∷ e ∷ f ∷ g ∷ ns) lt = absurd (omega (arith, lt))
queue_ends _ lt = refl

pub fewer : (ns : List ℕ) → 7 ≤ length ns → length (event_from ns).1 < length ns
unfolding event_from
fewer (a ∷ b ∷ c ∷ d ∷ e ∷ f ∷ g ∷ ns) le = omega arith
fewer _ le = absurd (omega (arith, le))

-- one more event is read
pub events_more : (ns later : List ℕ) (all old items more : List Event) (e : Event) → 7 ≤ length ns → e ≡ (event_from ns).0 → later ≡ (event_from ns).1
    → more ≡ items ++ e ∷ [] → items ++ queue_from ns ≡ old ++ all → more ++ queue_from later ≡ old ++ all
events_more ns later all old items more e le is rest pushed so =
    ap (λ l. l ++ queue_from later) pushed ∙ append_assoc items (e ∷ []) (queue_from later)
    ∙ (λ j. items ++ is j ∷ queue_from (rest j)) ∙ ap (λ l. items ++ l) (sym (queue_next ns le)) ∙ so

-- 2. A queue from its form.

-- an event that can be kept
pub record IsKeptEvent (e : Event) : Type 0 where
  pub slot : e.slot < 64
  pub words : EventHoldsWords e

key_again : (p : Pointer) → IsWellFormed p → pointer_or_key (bits_of p) ≡ p
key_again p h =
    ap (λ b. if b then pointer_of (bits_of p) else record { perm = Key; log = 0; addr = 0 }) (is_spelled p h) ∙ pointer_of-bits_of p h

low : (n : ℕ) → n < 64 → n % 256 ≡ n
low n lt = omega (arith, lt)

event_read : (e : Event) (ns : List ℕ) → IsKeptEvent e → event_from (event_form e ++ ns) ≡ (e, ns)
unfolding event_from
event_read e ns h =
    let slot = low e.slot h.slot in
    let cause = ap (λ (o : Option Cause). unwrap_or o NotPointer) (cause_back e.cause) in
    let ip = key_again e.ip h.words.ip in
    let addr = word_read e.addr_op (word_form e.value_op ++ ns) h.words.address in
    let value = word_read e.value_op ns h.words.value in
    let made : ℕ → Cause → Pointer → Word → Word × List ℕ → Event × List ℕ =
    λ slot cause ip addr value. (record { slot = slot; cause = cause; ip = ip; addr_op = addr; value_op = value.0 }, value.1) in
    let with : Word × List ℕ → Event × List ℕ = λ a. made (e.slot % 256) (unwrap_or (cause_of (number_of e.cause)) NotPointer) (pointer_or_key (bits_of e.ip)) a.0 (word_from a.1) in
    ap with addr ∙ (λ j. made (slot j) (cause j) (ip j) e.addr_op (value j))

pub queue_read : (events : List Event) → AllByRecursion IsKeptEvent events → queue_from (queue_form events) ≡ events
queue_read [] h = refl
queue_read (e ∷ events) h =
    let all = queue_form events in
    let first : queue_from (event_form e ++ all) ≡ (event_from (event_form e ++ all)).0 ∷ queue_from all = refl in
    first ∙ ap (λ (r : Event × List ℕ). r.0 ∷ queue_from all) (event_read e all h.0) ∙ ap (λ l. e ∷ l) (queue_read events h.1)

-- so a form is that of one queue
pub queue_tells : (a b : List Event) → AllByRecursion IsKeptEvent a → AllByRecursion IsKeptEvent b → queue_form a ≡ queue_form b → a ≡ b
queue_tells a b h k e = sym (queue_read a h) ∙ ap queue_from e ∙ queue_read b k
