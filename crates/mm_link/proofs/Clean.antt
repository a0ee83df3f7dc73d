-- Objects without a fault: none of the seven.
use Rattle.std.proofs.Common.{◌≡◌, ℕ, ◌<◌, ◌≤◌, ◌*◌, Bool, true, false, cond, List, [], ◌∷◌, length, find, Option, Some}
use Rattle.std.proofs.Common.{None, option_map, refl, arith, eq-eqb, ltb-false}
use Rattle.std.specs.{Prelude.{nat_lt, ◌==◌}, List.list_any}
use Rattle.mm_object.specs.{declared.thread.Thread.Thread, Objects.Object}
use Rattle.mm_object.proofs.Members.{In, in_range, in_filter, none_passes, not_found}
use Rattle.mm_link.specs.declared.fault.LinkFault.TheVariants.{SlotTwice, Handler, TooLarge}
use Rattle.mm_link.specs.Placing.{parts_of, bytes_of}
use Rattle.mm_link.specs.Faults.{first_of, twice, undefined, offset, slot_twice, no_thread, no_thread_of, handler}
use Rattle.mm_link.specs.Faults.{too_large, link_fault, threads_of, with_slot, slot_numbers, is_absent, page_count}
use Rattle.mm_link.specs.Faults.{frames_of}

pub record IsClean (objects : List Object) : Type 0 where
  pub names : twice objects ≡ None
  pub externals : undefined objects ≡ None
  pub offsets : offset objects ≡ None
  pub slots : slot_twice objects ≡ None
  pub threads : no_thread objects ≡ None
  pub handlers : handler objects ≡ None
  pub size : too_large objects ≡ None

split : {A : Type 0} (o : Option A) (rest : List (Option A)) → first_of (o ∷ rest) ≡ None → (o ≡ None) × (first_of rest ≡ None)
split None rest h = (refl, h)
split (Some x) rest h = absurd cc

pub clean : (objects : List Object) → link_fault objects ≡ None → IsClean objects
unfolding link_fault
clean objects h =
    let a = split (twice objects) _ h in
    let b = split (undefined objects) _ a.1 in
    let c = split (offset objects) _ b.1 in
    let d = split (slot_twice objects) _ c.1 in
    let e = split (no_thread objects) _ d.1 in
    let f = split (handler objects) _ e.1 in
    let g = split (too_large objects) _ f.1 in
    record { names = a.0; externals = b.0; offsets = c.0; slots = d.0; threads = e.0; handlers = f.0; size = g.0 }

pub unmapped : {A B : Type 0} (f : A → B) (o : Option A) → option_map f o ≡ None → o ≡ None
unmapped f None h = refl
unmapped f (Some x) h = absurd cc

-- 1. Slots.

-- no two threads have one slot
pub one_thread : (objects : List Object) → slot_twice objects ≡ None → (slot : ℕ) → slot < 16 → length (with_slot slot (threads_of objects)) ≤ 1
one_thread objects h slot lt =
    let none = unmapped SlotTwice (find (λ n. nat_lt 1 (length (with_slot n (threads_of objects)))) slot_numbers) h in
    ltb-false 1 (length (with_slot slot (threads_of objects)))
    (not_found (λ n. nat_lt 1 (length (with_slot n (threads_of objects)))) slot_numbers none slot (in_range 16 0 slot (omega arith) (omega arith)))

some_of : (threads : List Thread) → no_thread_of threads ≡ None → 1 ≤ length threads
some_of [] h = absurd cc
some_of (t ∷ threads) h = omega arith

-- there is a thread
pub some_thread : (objects : List Object) → no_thread objects ≡ None → 1 ≤ length (threads_of objects)
some_thread objects h = some_of (threads_of objects) h

-- the handler of each thread is a thread's slot
pub handler_there : (objects : List Object) → handler objects ≡ None → (t : Thread) → In t (threads_of objects) → t.slot < 16 → is_absent (threads_of objects) t.handler ≡ false
handler_there objects h t is lt =
    let threads = threads_of objects in
    let without : Thread → Bool = λ u. is_absent threads u.handler in
    let none = unmapped Handler (find (λ n. list_any without (with_slot n threads)) slot_numbers) h in
    let here = not_found (λ n. list_any without (with_slot n threads)) slot_numbers none t.slot (in_range 16 0 t.slot (omega arith) (omega arith)) in
    none_passes without (with_slot t.slot threads) here t (in_filter (λ (u : Thread). u.slot == t.slot) t threads is (eq-eqb t.slot t.slot refl))

-- 2. Frames.

within_limit : (n : ℕ) (large : Bool) → nat_lt 256 n ≡ large → cond large (Some TooLarge) None ≡ None → n ≤ 256
within_limit n true e k = absurd cc
within_limit n false e k = ltb-false 256 n e

pub few_frames : (objects : List Object) → too_large objects ≡ None → frames_of objects ≤ 256
few_frames objects h = within_limit (frames_of objects) (nat_lt 256 (frames_of objects)) refl h

pub page_frames : (objects : List Object) → page_count objects ≤ frames_of objects
page_frames objects = omega arith

pub some_frames : (objects : List Object) → 1 ≤ frames_of objects
some_frames objects = omega arith

-- all bytes are within the pages
pub few_bytes : (objects : List Object) → bytes_of (parts_of objects) ≤ 4096 * page_count objects
few_bytes objects = omega arith
