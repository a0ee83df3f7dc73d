-- What is kept after an entry is set.
use Rattle.std.proofs.Common.{◌≡◌, ℕ, ◌+◌, ◌<◌, refl, Bool, true, false, nat_lt, List, length, ap, subst, ◌∙◌, sym}
use Rattle.std.proofs.{Common.{arith, Result, Ok, Err}, lemmas.{Cmp.{nat_cmp_total, on_total, then_total}, Bool.lt-ltb}}
use Rattle.std.specs.{Prelude.{◌↔◌, ◌==◌, if◌then◌else◌}, Result.{is_ok, IsOk, OnOk, OnErr}}
use Rattle.std.specs.List.{list_any, insert, Sorted.{IsSearchInRange, IsBinarySearchResult}}
use Rattle.std.specs.{Cmp.{IsTotalOrder, unsigned_ties, both_tied}, Ordering.{nat_cmp, is_eq}}
use Rattle.std.specs.declared.cmp.Ordering.{Ordering}
use Rattle.arrayvec.specs.ArrayVec.{ArrayVec}
use Rattle.mm_debug.specs.declared.breakpoints.Break.{Break}
use Rattle.mm_debug.specs.Breakpoints.{AreEntries, break_cmp, is_break, placed, fits, entered}
use Rattle.mm_debug.proofs.Rising.{rise_placed, placed_new, searchable, any_there, any_new}

pub break_total : IsTotalOrder break_cmp
break_total = then_total (on_total (λ (b : Break). b.slot) nat_cmp_total) (on_total (λ (b : Break). b.address) nat_cmp_total)

pub break_ties : (slot address : ℕ) (b : Break) → is_break slot address b ≡ is_eq (break_cmp b (record { slot = slot; address = address }))
break_ties slot address b = both_tied (b.slot == slot) (b.address == address) (nat_cmp b.slot slot) (nat_cmp b.address address) (unsigned_ties b.slot slot) (unsigned_ties b.address address)

room : (count : ℕ) (t : Bool) → (t ≡ true → count < 64) → (count < 64 → t ≡ true) → t ≡ nat_lt count 64
room count true small there = sym (lt-ltb count 64 (small refl))
room count false small there = grind arith

-- a list that a binary search for an entry has looked through
pub record Searched {A : Type 0} (cmp : A → A → Ordering) (test : A → Bool) (x : A) (entries : List A) (r : Result ℕ ℕ) : Type 0 where
  pub total : IsTotalOrder cmp
  -- only the entry passes the test
  pub tests : (y : A) → test y ≡ is_eq (cmp y x)
  pub kept : AreEntries cmp entries
  pub bound : IsSearchInRange r (length entries)
  pub position : IsBinarySearchResult (λ y. cmp y x) entries r

-- a search for a break, and one for a word, through what is seen of the entries
pub break_searched : (slot address : ℕ) (entries seen : List Break) (r : Result ℕ ℕ) → seen ≡ entries → AreEntries break_cmp entries → IsSearchInRange r (length seen)
    → IsBinarySearchResult (λ y. break_cmp y (record { slot = slot; address = address })) seen r → Searched break_cmp (is_break slot address) (record { slot = slot; address = address }) entries r
break_searched slot address entries seen r same kept bound position = record {
  total = break_total;
  tests = break_ties slot address;
  kept = kept;
  bound = subst (λ (ys : List Break). IsSearchInRange r (length ys)) same bound;
  position = subst (λ (ys : List Break). IsBinarySearchResult (λ y. break_cmp y (record { slot = slot; address = address })) ys r) same position;
}

pub word_searched : (word : ℕ) (entries seen : List ℕ) (r : Result ℕ ℕ) → seen ≡ entries → AreEntries nat_cmp entries → IsSearchInRange r (length seen)
    → IsBinarySearchResult (λ y. nat_cmp y word) seen r → Searched nat_cmp (λ y. y == word) word entries r
word_searched word entries seen r same kept bound position = record {
  total = nat_cmp_total;
  tests = λ y. unsigned_ties y word;
  kept = kept;
  bound = subst (λ (ys : List ℕ). IsSearchInRange r (length ys)) same bound;
  position = subst (λ (ys : List ℕ). IsBinarySearchResult (λ y. nat_cmp y word) ys r) same position;
}

module _ {A : Type 0} {cmp : A → A → Ordering} {test : A → Bool} {x : A} {entries : List A} where
  -- it says whether the entry is there
  pub answered : (r : Result ℕ ℕ) → Searched cmp test x entries r → is_ok r ≡ list_any test entries
  answered (Ok i) s = sym (any_there s.total test x s.tests entries i s.bound s.position)
  answered (Err i) s = sym (any_new s.total test x s.tests entries i (s.position (searchable s.total x entries s.kept.rise)))

  -- where it is there all stays as it is
  pub there_fits : (i : ℕ) → Searched cmp test x entries (Ok i) → true ≡ fits (list_any test entries) entries
  there_fits i s = ap (λ there. fits there entries) (answered (Ok i) s)

  pub there_stays : (i : ℕ) → Searched cmp test x entries (Ok i) → entries ≡ entered (list_any test entries) entries (placed cmp x entries)
  there_stays i s = ap (λ there. entered there entries (placed cmp x entries)) (answered (Ok i) s)

-- where it is not there it is put in its place, if there is room
module _ {A : Type 0} {cmp : A → A → Ordering} {test : A → Bool} {x : A} {T E : Type 0} where
  placed_by : (i : ℕ) (old new : ArrayVec A) → Searched cmp test x old.items (Err i) → (r : Result T E) → OnOk r (new.items ≡ insert old.items i x) → OnErr r (new ≡ old)
      → new.items ≡ (if is_ok r then placed cmp x old.items else old.items)
  placed_by i old new s (Ok done) ok err = ok ∙ sym (placed_new s.total x old.items i (s.position (searchable s.total x old.items s.kept.rise)))
  placed_by i old new s (Err e) ok err = ap (λ (v : ArrayVec A). v.items) err

  pub new_fits : (i : ℕ) (old : ArrayVec A) → Searched cmp test x old.items (Err i) → (r : Result T E) → (IsOk r ↔ (length old.items < 64)) → is_ok r ≡ fits (list_any test old.items) old.items
  new_fits i old s r variant = room (length old.items) (is_ok r) variant.0 variant.1 ∙ ap (λ there. fits there old.items) (answered (Err i) s)

  pub new_placed : (i : ℕ) (old new : ArrayVec A) → Searched cmp test x old.items (Err i) → (r : Result T E) → (IsOk r ↔ (length old.items < 64))
      → OnOk r (new.items ≡ insert old.items i x) → OnErr r (new ≡ old) → new.items ≡ entered (list_any test old.items) old.items (placed cmp x old.items)
  new_placed i old new s r variant ok err =
      placed_by i old new s r ok err
      ∙ ap (λ (b : Bool). if b then placed cmp x old.items else old.items) (room (length old.items) (is_ok r) variant.0 variant.1)
      ∙ ap (λ there. entered there old.items (placed cmp x old.items)) (answered (Err i) s)

  -- and the entries are still such
  pub new_kept : (i : ℕ) (old new : ArrayVec A) → Searched cmp test x old.items (Err i) → (r : Result T E) → (IsOk r ↔ (length old.items < 64))
      → OnOk r (new.items ≡ insert old.items i x) → OnOk r (length new.items ≡ length old.items + 1) → OnErr r (new ≡ old) → AreEntries cmp new.items
  new_kept i old new s (Ok done) variant ok longer err =
      let few : length old.items < 64 = variant.0 refl in
      let same : new.items ≡ placed cmp x old.items = placed_by i old new s (Ok done) ok err in
      record { rise = rw same (rise_placed s.total x old.items s.kept.rise); few = omega arith }
  new_kept i old new s (Err e) variant ok longer err = subst (λ (v : ArrayVec A). AreEntries cmp v.items) (sym err) s.kept
