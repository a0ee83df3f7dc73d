-- What groups of worked examples can touch and write.
use Rattle.std.proofs.Common.{◌≡◌, ℕ, zero, suc, ◌%◌, ◌⊎◌, inl, inr, Bool, true, false, ◌&&◌, ◌==◌, cond, List, [], ◌∷◌}
use Rattle.std.proofs.Common.{refl, sym, subst, ◌∙◌, arith, Contains, Some, None}
use Rattle.std.specs.{List.{list_all, slice_get}, Ordering.{nat_cmp, eq_by_cmp}, FinMap.Entries.find}
use Rattle.mm_word.specs.declared.perm.Perm.TheVariants.{Rw, Xu, Xp, Eu, Ep}
use Rattle.mm_word.specs.{declared.word.{Word.{Word, TheVariants.{Int, Ptr}}, Cell.Cell}, Perm.can_store}
use Rattle.mm_word.{specs.Pointer.{Pointer, IsBelow, enter_result}, proofs.Below.IsBelow-trans}
use Rattle.mm_model.specs.{Memory.{Memory, cell_at, cell_in, page_of, place_of}, Slot.Slot}
use Rattle.mm_model.specs.Reach.{Grants, LoadsAt, StoresAt}
use Rattle.mm_model.specs.Reach.Grants.{in_register, runs_by, in_cell, below, passed, entered, served, made}
use Rattle.mm_model.specs.Reach.Entries.{All}
use Rattle.mm_examples.specs.Images.{two_groups, one_pointer_too_many, pointer, code, slot}
use Rattle.mm_examples.specs.WorkedReach.{TouchesItsCode, NoGroupWrites, WritesNoCode, TwoGroupsStandApart}
use Rattle.mm_examples.specs.WorkedReach.{BothCanWrite, NeitherStandsApart}

-- 1. Words and cells that hold no pointer.

abbrev is_int : Word → Bool
is_int (Int n) = true
is_int (Ptr p) = false

not_a_pointer : (w : Word) (q : Pointer) → is_int w ≡ true → w ≡ Ptr q → ⊥
not_a_pointer (Int n) q h e = cc
not_a_pointer (Ptr p) q h e = cc

register-no_pointer : (words : List Word) (q : Pointer) → list_all is_int words ≡ true → Contains words (Ptr q) → ⊥
register-no_pointer [] q h (k, within, e) = absurd (omega arith)
register-no_pointer (Int n ∷ words) q h (zero, within, e) = cc
register-no_pointer (Int n ∷ words) q h (suc k, within, e) = register-no_pointer words q h (k, omega arith, e)
register-no_pointer (Ptr p ∷ words) q h c = cc

abbrev cell_is_int : Cell → Bool
cell_is_int c = is_int c.word

abbrev page_is_int : ℕ × List Cell → Bool
page_is_int page = list_all cell_is_int page.1

and-left : (a b : Bool) → (a && b) ≡ true → a ≡ true
and-left true b h = refl
and-left false b h = h

and-right : (a b : Bool) → (a && b) ≡ true → b ≡ true
and-right true b h = h
and-right false b h = cc

cells-no_pointer : (cells : List Cell) (k : ℕ) (c : Cell) → list_all cell_is_int cells ≡ true → slice_get cells k ≡ Some c → is_int c.word ≡ true
cells-no_pointer [] k c h e = cc
cells-no_pointer (d ∷ cells) zero c h e =
    let same : d ≡ c = cc in
    rw (← same) (and-left (cell_is_int d) (list_all cell_is_int cells) h)
cells-no_pointer (d ∷ cells) (suc k) c h e = cells-no_pointer cells k c (and-right (cell_is_int d) (list_all cell_is_int cells) h) e

pages-no_pointer : (pages : List (ℕ × List Cell)) (p k : ℕ) (c : Cell) → list_all page_is_int pages ≡ true → cell_in (find nat_cmp p pages) k ≡ Some c → is_int c.word ≡ true
pages-no_pointer [] p k c h e = cc
pages-no_pointer (page ∷ pages) p k c h e =
    elim (eq_by_cmp nat_cmp p page.0) as (λ b. cell_in (cond b (Some page.1) (find nat_cmp p pages)) k ≡ Some c → is_int c.word ≡ true) [
      | true ↦ λ at. cells-no_pointer page.1 k c (and-left (page_is_int page) (list_all page_is_int pages) h) at
      | false ↦ λ at. pages-no_pointer pages p k c (and-right (page_is_int page) (list_all page_is_int pages) h) at
    ] e

cell_at-no_pointer : (m : Memory) (w : ℕ) (c : Cell) → list_all page_is_int m.pages ≡ true → cell_at m w ≡ Some c → is_int c.word ≡ true
unfolding cell_at
cell_at-no_pointer m w c h e =
    elim (w % 8 == 0) as (λ b. cond b (cell_in (find nat_cmp (page_of w) m.pages) (place_of w)) None ≡ Some c → is_int c.word ≡ true) [
      | true ↦ λ at. pages-no_pointer m.pages (page_of w) (place_of w) c h at
      | false ↦ λ at. cc
    ] e

-- 2. Pointers below a pointer of user code.

below-stores_nothing : (p q : Pointer) → p.perm ≡ Xu → IsBelow q p → can_store q.perm ≡ true → ⊥
below-stores_nothing p q user (inl same) stores = grind arith
below-stores_nothing p q user (inr narrows) stores = grind arith

below-unprivileged : (p q : Pointer) → p.perm ≡ Xu → IsBelow q p → q.perm ≡ Xp → ⊥
below-unprivileged p q user h privileged = grind arith

below-entered : (p q r : Pointer) → p.perm ≡ Xu → IsBelow q p → (q.perm ≡ Eu) ⊎ (q.perm ≡ Ep) → enter_result q ≡ Some r → IsBelow r p
below-entered p q r user h gate e = grind arith

-- 3. Statements.

pub touches_its_code : TouchesItsCode
touches_its_code = record {
  by = code;
  granted = runs_by (slot 0 0 code ((1, Int 0x41) ∷ [])) (0, omega arith, refl) refl refl;
  loads = record { word = refl; right = refl; covers = λ i h. omega arith };
}

-- a slot of the image runs the code, holds no pointer and has no handler
record IsPlain (s : Slot) : Type 0 where
  ip : s.ip ≡ code
  regs : list_all is_int s.regs ≡ true
  handler : s.handler ≡ None

slots-plain : (s : Slot) → Contains two_groups.slots s → IsPlain s
slots-plain s (zero, within, e) = subst (λ t. IsPlain t) e (record { ip = refl; regs = refl; handler = refl })
slots-plain s (suc zero, within, e) = subst (λ t. IsPlain t) e (record { ip = refl; regs = refl; handler = refl })
slots-plain s (suc (suc k), within, e) = absurd (omega arith)

memory-no_pointer : (w : ℕ) (c : Cell) → cell_at two_groups.memory w ≡ Some c → is_int c.word ≡ true
memory-no_pointer w c e = cell_at-no_pointer two_groups.memory w c refl e

below_code : {g : ℕ} {q : Pointer} → Grants two_groups All g q → IsBelow q code
below_code (in_register {q = q} s one group holds) = absurd (register-no_pointer s.regs q (slots-plain s one).regs holds)
below_code (runs_by s one group ip) = inl (sym ip ∙ (slots-plain s one).ip)
below_code (in_cell {q = q} p w c granted loads at is) = absurd (not_a_pointer c.word q (memory-no_pointer w c at) is)
below_code (below {q = q} p granted lower) = IsBelow-trans code p q (below_code granted) lower
below_code (passed h w p r granted _ _ _ _) = below_code granted
below_code (entered {q = q} p granted gate may e) = below-entered code p q refl (below_code granted) gate e
below_code (served h granted _) = below_code granted
below_code (made p granted privileged _) = absurd (below-unprivileged code p refl (below_code granted) privileged)

pub no_group_writes : NoGroupWrites
no_group_writes g w can = below-stores_nothing code can.by refl (below_code can.granted) can.stores.right

pub writes_no_code : WritesNoCode
writes_no_code = no_group_writes 0 0x100000

pub two_groups_stand_apart : TwoGroupsStandApart
two_groups_stand_apart = record {
  writes = λ g w outside can. absurd (no_group_writes g w can);
  handlers = λ s h s_in h_in e. absurd (let none = (slots-plain s s_in).handler in cc);
}

-- the pointer that is one too many
abbrev extra : Pointer
extra = pointer Rw 3 0x100018

abbrev victim : Slot
victim = slot 0 0 code []

abbrev intruder : Slot
intruder = slot 1 1 (pointer Xu 12 0x101000) ((1, Ptr extra) ∷ [])

extra-stores : StoresAt extra 0x100018
extra-stores = record { word = refl; right = refl; covers = λ i h. omega arith }

extra-loads : LoadsAt extra 0x100018
extra-loads = record { word = refl; right = refl; covers = λ i h. omega arith }

code-loads : LoadsAt code 0x100018
code-loads = record { word = refl; right = refl; covers = λ i h. omega arith }

code-granted : Grants one_pointer_too_many All 0 code
code-granted = runs_by victim (0, omega arith, refl) refl refl

extra-granted : Grants one_pointer_too_many All 1 extra
extra-granted = in_register intruder (1, omega arith, refl) refl (1, omega arith, refl)

-- the second group stores it where the first one loads
extra-passed : Grants one_pointer_too_many All 0 extra
extra-passed = passed 1 0x100018 extra code extra-granted extra-granted extra-stores code-granted code-loads

pub both_can_write : BothCanWrite
both_can_write = (
  record { by = extra; granted = extra-passed; stores = extra-stores },
  record { by = extra; granted = extra-granted; stores = extra-stores },
)

pub neither_stands_apart : NeitherStandsApart
neither_stands_apart = (
  λ apart. apart.writes 1 0x100018 refl both_can_write.1 (record {
    group = 0;
    member = refl;
    touches = record { by = code; granted = code-granted; loads = code-loads };
  }),
  λ apart. apart.writes 0 0x100018 refl both_can_write.0 (record {
    group = 1;
    member = refl;
    touches = record { by = extra; granted = extra-granted; loads = extra-loads };
  }),
)
