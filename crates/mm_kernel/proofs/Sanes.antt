-- Every derived fact is sane: its pointers that meet the kept segments are inside.
use Rattle.std.proofs.Common.{◌≡◌, ℕ, zero, suc, Bool, true, false, ◌&&◌, not, ◌==◌, nat_lt, ◌%◌, ◌/◌, ◌^◌}
use Rattle.std.proofs.Common.{if◌then◌else◌, cond, ℤ, pos, ◌+ℤ◌, ◌*ℤ◌, List, [], ◌∷◌, ◌++◌, map, slice_get, is_some}
use Rattle.std.proofs.Common.{Option, Some, None, Result, Ok, Err, refl, ap, ◌∙◌, subst, arith}
use Rattle.std.proofs.lemmas.{Bool.{and_from, not-true, or_parts, not_from_false}, Nat.shl-shr}
use Rattle.std.specs.{Prelude.Contains, Int.{w64, cast_unsigned, cast_signed}}
use Rattle.std.specs.{List.{AllByRecursion, flat_map, list_any}, Ordering.{nat_cmp, eq_by_cmp}, FinMap.find}
use Rattle.mm_word.specs.declared.perm.Perm.{Perm, TheVariants.{Ro, Rw, Xu, Xp, Eu, Ep, Key}}
use Rattle.mm_word.specs.declared.{perm.Kind.{Kind, TheVariants.{Fetch, Store}}, cause.Cause.Cause}
use Rattle.mm_word.specs.declared.word.{Pre.Pre, Word.{Word, TheVariants.{Int, Ptr}}, Cell.Cell}
use Rattle.mm_word.specs.Access.{AccessValue, check_result}
use Rattle.mm_word.specs.Perm.{can_move, can_become, allows, execute_form, code_of}
use Rattle.mm_word.specs.Pointer.{Pointer, bits_of, base_of, next_result, enter_result, lea_result, leab_result}
use Rattle.mm_word.specs.Pointer.{subseg_result}
use Rattle.mm_isa.specs.declared.instr.{AluOp.{AluOp, TheVariants.Add}, How.{How, TheVariants.{Retry, Skip, Kill}}}
use Rattle.mm_isa.specs.declared.instr.DivZero.{DivZero}
use Rattle.mm_isa.specs.declared.instr.Instr.{Instr}
use Rattle.mm_isa.specs.declared.instr.Instr.TheVariants.{Halt, Nop, Ldi, Ldhi, Mov, Isptr, Eqw, Out, SelfSlot, Alu}
use Rattle.mm_isa.specs.declared.instr.Instr.TheVariants.{Addi, Lea, Leai, Leab, Restrict, Subseg, Setptr, Ld, St, Br}
use Rattle.mm_isa.specs.declared.instr.Instr.TheVariants.{Bz, Bnz, Jmp, Jal, Lip, Trap, Evt, Resume, Rreg, Wreg, Map}
use Rattle.mm_isa.specs.{declared.instr.Instr.TheVariants.Unmap, Alu.{alu_result, divides}}
use Rattle.mm_model.specs.{Memory.{cell_at, cell_in, page_at, page_of, place_of}, Slot.Slot, Image.Image, Ask.load_kind}
use Rattle.mm_model.specs.{Operands.{field_a, field_b, field_imm}, Turn.instr_in}
use Rattle.mm_model.proofs.CoreRows.{each_map, each_contained, into_map}
use Rattle.mm_kernel.specs.Segments.{Segment, is_kept, is_fixed, is_inside, meets, pointers_in, slot_pointers}
use Rattle.mm_kernel.specs.Segments.{page_pointers, running_slots, live_pointers, runs_privileged, is_user}
use Rattle.mm_kernel.specs.declared.form.Form.{Form}
use Rattle.mm_kernel.specs.declared.form.Form.TheVariants.{Number, Pointer as Exactly, Integer, Open, Any, Inside}
use Rattle.mm_kernel.specs.declared.{outcome.Outcome.Outcome, thread.Thread.Thread}
use Rattle.mm_kernel.specs.Forms.{exactly, exact, exact_bits, stored_form, around, around_as}
use Rattle.mm_kernel.specs.Threads.{form_in, with_form, stepped, going_to, own_thread, thread_through, handler_of}
use Rattle.mm_kernel.specs.Facts.{Fact, hand_out, take_up, Fact.{HasThread, HasForm}}
use Rattle.mm_kernel.specs.Operations.{small_result, alu_form, alu_if_exact, alu_by, leaves_code, equal_form}
use Rattle.mm_kernel.specs.Operations.{equal_if_exact, high_form, high_if_exact, choices, with_permission}
use Rattle.mm_kernel.specs.Operations.{permission_of, inside_as}
use Rattle.mm_kernel.specs.Turns.{outcomes, outcomes_of, decoded, fetched, aimed, fault, early_fault, operand_a}
use Rattle.mm_kernel.specs.Turns.{operand_b, sets, moves, moved, moved_somewhere, restricts, restricted, may_refuse}
use Rattle.mm_kernel.specs.Turns.{loads, loaded_by, loaded_at, word_loaded, waits, stores, stored_by, stored_at}
use Rattle.mm_kernel.specs.Turns.{word_stored, stores_outside, branches, branched, branches_if, jumps, jumped, links}
use Rattle.mm_kernel.specs.Turns.{at_distance, tests_tag, computes, with_event, seen_as}
use Rattle.mm_kernel.specs.Derived.{Derived, Keeps, first_form, cell_facts, has_segment, outcome_facts, on_after}
use Rattle.mm_kernel.specs.Derived.{resumed}
use Rattle.mm_kernel.specs.Derived.Derived.{begins_in_cell, begins_in_slot, reaches, enters, turns, loads as by_load}
use Rattle.mm_kernel.specs.Derived.Derived.{stores as by_store, takes, resumes, reads_served, writes_served}
use Rattle.mm_kernel.proofs.{Segs.inside_within, Values.Moved}
use Rattle.mm_kernel.proofs.Results.{lea_moved, leab_moved, subseg_moved, choice_becomes}
use Rattle.mm_kernel.proofs.{Ups.{each_from, each_split, each_join, each_unflat}, Rows.WholeForm}
use Rattle.mm_kernel.proofs.Whole.{Sane, become_user, moves_segment, sane_moved, self_within, sane_as, sane_next}
use Rattle.mm_kernel.proofs.Whole.{sane_advanced, sane_distance, sane_entered, SaneForm, SaneThread, SaneFact}
use Rattle.mm_kernel.proofs.Whole.{SaneOutcome, sane_form, sane_with, sane_stepped, sane_event, sane_exactly}
use Rattle.mm_kernel.proofs.Whole.{sane_stored, sane_whole, hands_out, takes_up, outcome_sane}
use Rattle.mm_word.specs.declared.word.Pre.TheVariants as pres
use Rattle.mm_kernel.specs.declared.fact.Leak.TheVariants as leak
use Rattle.mm_kernel.specs.declared.outcome.Outcome.TheVariants as outcome

-- 1. The image.

none_any : {A : Type 0} (p : A → Bool) (xs : List A) → list_any p xs ≡ false → AllByRecursion (λ (x : A). p x ≡ false) xs
none_any p [] e = tt
none_any p (x ∷ xs) e = let parts = or_parts (p x) (list_any p xs) e in (parts.0, none_any p xs parts.1)

each_got : {A : Type 0} (P : A → Type 0) (xs : List A) (n : ℕ) (x : A) → AllByRecursion P xs → slice_get xs n ≡ Some x → P x
each_got P [] n x h e = cc
each_got P (y ∷ xs) zero x h e = let same : y ≡ x = cc in subst P same h.0
each_got P (y ∷ xs) (suc n) x h e = each_got P xs n x h.1 e

found_page : (P : List Cell → Type 0) (es : List (ℕ × List Cell)) (q : ℕ) (cells : List Cell) → AllByRecursion (λ (e : ℕ × List Cell). P e.1) es → find nat_cmp q es ≡ Some cells → P cells
found_page P [] q cells h is = cc
found_page P (e ∷ es) q cells h is = by (eq_by_cmp nat_cmp q e.0) is (λ at. found_page P es q cells h.1 at)
  where
    by : (b : Bool) → cond b (Some e.1) (find nat_cmp q es) ≡ Some cells → (find nat_cmp q es ≡ Some cells → P cells) → P cells
    by true found later = let same : e.1 ≡ cells = cc in subst P same h.0
    by false found later = later found

base_same : (p : Pointer) → base_of p / 2 ^ p.log ≡ p.addr / 2 ^ p.log
base_same p = shl-shr (p.addr / 2 ^ p.log) p.log

module _ (i : Image) (kept : List Segment) (ks : Keeps i kept) where
  sane_live : (p : Pointer) → Contains (live_pointers i) p → Sane kept p
  unfolding is_user
  sane_live p c = record {
    user = each_contained (λ (x : Pointer). runs_privileged x.perm ≡ false) (live_pointers i) p
        (none_any (λ (x : Pointer). runs_privileged x.perm) (live_pointers i) (not-true (list_any (λ (x : Pointer). runs_privileged x.perm) (live_pointers i)) ks.user)) c;
    whole = λ seg m. by (is_inside kept p) refl seg m;
  }
    where
      by : (b : Bool) → is_inside kept p ≡ b → has_segment p.perm ≡ true → meets kept p ≡ true → is_inside kept p ≡ true
      by true e seg m = e
      by false e seg m =
          absurd (ks.no_leak (leak.Across p) (reaches p c
          (and_from (has_segment p.perm) (meets kept p && not (is_inside kept p)) seg (and_from (meets kept p) (not (is_inside kept p)) m (not_from_false (is_inside kept p) e)))))

  live : AllByRecursion (Sane kept) (flat_map slot_pointers (running_slots i)) × AllByRecursion (Sane kept) (flat_map page_pointers i.memory.pages)
  unfolding live_pointers
  live = each_split (Sane kept) (flat_map slot_pointers (running_slots i)) (flat_map page_pointers i.memory.pages) (each_from (Sane kept) (live_pointers i) sane_live)

  cells_sane : (cells : List Cell) → AllByRecursion (Sane kept) (flat_map (λ (c : Cell). pointers_in c.word) cells) → (place : ℕ) (c : Cell) → slice_get cells place ≡ Some c
      → AllByRecursion (Sane kept) (pointers_in c.word)
  cells_sane cells h place c e = each_got (λ (x : Cell). AllByRecursion (Sane kept) (pointers_in x.word)) cells place c (each_unflat (Sane kept) (λ (x : Cell). pointers_in x.word) cells h) e

  cell_sane : (w : ℕ) (c : Cell) → cell_at i.memory w ≡ Some c → AllByRecursion (Sane kept) (pointers_in c.word)
  unfolding cell_at
  cell_sane w c is = by (w % 8 == 0) is
    where
      inside : (o : Option (List Cell)) → page_at i.memory (page_of w) ≡ o → cell_in o (place_of w) ≡ Some c → AllByRecursion (Sane kept) (pointers_in c.word)
      inside None at e = cc
      inside (Some cells) at e =
          cells_sane cells
          (found_page (λ (cs : List Cell). AllByRecursion (Sane kept) (flat_map (λ (x : Cell). pointers_in x.word) cs)) i.memory.pages (page_of w) cells
          (each_unflat (Sane kept) page_pointers i.memory.pages live.1) at) (place_of w) c e

      by : (b : Bool) → (if b then cell_in (page_at i.memory (page_of w)) (place_of w) else None) ≡ Some c → AllByRecursion (Sane kept) (pointers_in c.word)
      by true e = inside (page_at i.memory (page_of w)) refl e
      by false e = cc

  slot_sane : (s : Slot) → Contains (running_slots i) s → AllByRecursion (Sane kept) (slot_pointers s)
  slot_sane s c = each_contained (λ (x : Slot). AllByRecursion (Sane kept) (slot_pointers x)) (running_slots i) s (each_unflat (Sane kept) slot_pointers (running_slots i) live.0) c

  own_sane : (s : Slot) → Contains (running_slots i) s → SaneThread kept (own_thread i kept s)
  own_sane s c =
      let h = slot_sane s c in
      record {
        ip = h.0;
        forms = into_map (SaneForm kept) exactly s.regs
            (each_map (λ (w : Word). AllByRecursion (Sane kept) (pointers_in w)) (λ (w : Word). SaneForm kept (exactly w)) (sane_exactly kept) s.regs (each_unflat (Sane kept) pointers_in s.regs h.1));
      }

  -- 2. What a sane thread can come to.

  small_sane : (r : Result ℕ DivZero) → SaneForm kept (small_result r)
  small_sane (Ok n) = by (nat_lt n 64)
    where
      by : (b : Bool) → SaneForm kept (if b then Number n else Integer)
      by true = tt
      by false = tt
  small_sane (Err e) = tt

  code_sane : (b : Bool) (n : ℕ) → SaneForm kept (if b then Number n else Integer)
  code_sane true n = tt
  code_sane false n = tt

  alu_sane : (op : AluOp) (a b : Form) → SaneForm kept (alu_form op a b)
  unfolding alu_form
  alu_sane op a b = by (exact_bits b)
    where
      known : (a : Form) (n : ℕ) → SaneForm kept (alu_by op a n)
      known (Number x) n = small_sane (alu_result op x n)
      known (Exactly p) n = small_sane (alu_result op (bits_of p) n)
      known (Open perm) n = code_sane (leaves_code op n) (code_of perm)
      known (Inside p) n = code_sane (leaves_code op n) (code_of p.perm)
      known Integer n = tt
      known Any n = tt

      by : (o : Option ℕ) → SaneForm kept (alu_if_exact op a o)
      by None = tt
      by (Some n) = known a n

  equal_sane : (a b : Form) → SaneForm kept (equal_form a b)
  unfolding equal_form
  equal_sane a b = by (exact a) (exact b)
    where
      by : (o p : Option Word) → SaneForm kept (equal_if_exact o p)
      by None p = tt
      by (Some v) None = tt
      by (Some v) (Some w) = tt

  high_sane : (a : Form) (imm : ℤ) → SaneForm kept (high_form a imm)
  unfolding high_form
  high_sane a imm = by (exact_bits a)
    where
      by : (o : Option ℕ) → SaneForm kept (high_if_exact o imm)
      by None = tt
      by (Some n) = tt

  permitted : (f : Form) (from to : Perm) → permission_of f ≡ Some from → can_become from to ≡ true → SaneForm kept f → SaneForm kept (with_permission f to)
  unfolding with_permission
  permitted (Exactly p) from to e b h =
      let is : p.perm ≡ from = cc in
      let k = become_user p.perm to h.user (ap (λ y. can_become y to) is ∙ b) in
      sane_as kept p to k.0 k.1 h
  permitted (Inside p) from to e b h =
      let is : p.perm ≡ from = cc in
      let k = become_user p.perm to h.0 (ap (λ y. can_become y to) is ∙ b) in
      by to k.0
    where
      in_it : (c : Perm) → is_inside kept (record p { perm = c }) ≡ true
      in_it c = inside_within kept (record p { perm = c }) p (self_within kept p c) h.1

      by : (c : Perm) → runs_privileged c ≡ false → SaneForm kept (inside_as p c)
      by Key u = tt
      by Ro u = (u, in_it Ro)
      by Rw u = (u, in_it Rw)
      by Xu u = (u, in_it Xu)
      by Xp u = (u, in_it Xp)
      by Eu u = (u, in_it Eu)
      by Ep u = (u, in_it Ep)
  permitted (Open perm) from to e b h = tt
  permitted (Number n) from to e b h = tt
  permitted Integer from to e b h = tt
  permitted Any from to e b h = tt

  module _ (t : Thread) (h : SaneThread kept t) where
    abbrev O : Outcome → Type 0
    O o = SaneOutcome kept o

    abbrev Os : List Outcome → Type 0
    Os os = AllByRecursion (SaneOutcome kept) os

    form : (r : ℕ) → SaneForm kept (form_in t r)
    form r = sane_form kept t h r

    faults : (x : Instr) → O (fault t x)
    unfolding fault
    faults x = (first (field_a x), second (field_b x))
      where
        first : (o : Option ℕ) → SaneForm kept (operand_a t o)
        first None = tt
        first (Some r) = form r

        second : (o : Option ℕ) → SaneForm kept (operand_b t o (field_imm x))
        second None = tt
        second (Some r) = form r

    next : SaneThread kept (stepped t)
    next = sane_stepped kept t h

    setting : (rd : ℕ) (f : Form) → SaneForm kept f → O (sets t rd f)
    unfolding sets
    setting rd f k = sane_with kept (stepped t) rd f next k

    going : (p : Pointer) → Sane kept p → SaneThread kept (going_to t p)
    going p k = record { ip = k; forms = h.forms }

    somewhere : (x : Instr) (rd : ℕ) (perm : Perm) (f : Form) → (can_move perm ≡ true → SaneForm kept f) → Os (moved_somewhere t x rd perm f)
    somewhere x rd perm f k = by (can_move perm) refl
      where
        by : (b : Bool) → can_move perm ≡ b → Os (if b then fault t x ∷ sets t rd f ∷ [] else fault t x ∷ [])
        by true e = (faults x, (setting rd f (k e), tt))
        by false e = (faults x, tt)

    around_sane : (p : Pointer) → Sane kept p → can_move p.perm ≡ true → SaneForm kept (around kept p)
    unfolding around
    around_sane p k mv = by (meets kept p) refl
      where
        by : (b : Bool) → meets kept p ≡ b → SaneForm kept (around_as p b)
        by true e = (k.user, inside_within kept (record p { addr = base_of p }) p (record { shorter = omega arith; here = base_same p }) (k.whole (moves_segment p.perm k.user mv) e))
        by false e = tt

    moving : (x : Instr) (rd : ℕ) (f : Form) (o : Option ℕ) (by : Pointer → ℕ → Result Pointer Cause) → SaneForm kept f → ((p q : Pointer) (n : ℕ) → by p n ≡ Ok q → Moved q p)
        → Os (moves kept t x rd f o by)
    unfolding moves
    moving x rd (Number n) o by k mv = (faults x, tt)
    moving x rd Integer o by k mv = (faults x, tt)
    moving x rd Any o by k mv = (faults x, (setting rd Any tt, tt))
    moving x rd (Open perm) o by k mv = somewhere x rd perm (Open perm) (λ e. tt)
    moving x rd (Inside p) o by k mv = somewhere x rd p.perm (Inside p) (λ e. k)
    moving x rd (Exactly p) None by k mv = somewhere x rd p.perm (around kept p) (around_sane p k)
    moving x rd (Exactly p) (Some n) by k mv = go (by p n) refl
      where
        go : (r : Result Pointer Cause) → by p n ≡ r → Os (moved t x rd r)
        go (Ok q) e = (setting rd (Exactly q) (sane_moved kept q p (mv p q n e) k), tt)
        go (Err c) e = (faults x, tt)

    choosing : (x : Instr) (rd : ℕ) (f b : Form) (from : Perm) → permission_of f ≡ Some from → SaneForm kept f → Os (restricted t x rd f b (choices from b))
    choosing x rd f b from e k =
        each_join (SaneOutcome kept) (map (λ perm. sets t rd (with_permission f perm)) (choices from b)) (if may_refuse (exact_bits b) (choices from b) then fault t x ∷ [] else [])
        (into_map (SaneOutcome kept) (λ perm. sets t rd (with_permission f perm)) (choices from b)
        (each_from (λ (to : Perm). O (sets t rd (with_permission f to))) (choices from b) (λ to c. setting rd (with_permission f to) (permitted f from to e (choice_becomes i kept from to b c).0 k))))
        (last (may_refuse (exact_bits b) (choices from b)))
      where
        last : (z : Bool) → Os (if z then fault t x ∷ [] else [])
        last true = (faults x, tt)
        last false = tt

    narrowing : (x : Instr) (rd : ℕ) (f b : Form) → SaneForm kept f → Os (restricts t x rd f b)
    unfolding restricts
    narrowing x rd (Number n) b k = (faults x, tt)
    narrowing x rd Integer b k = (faults x, tt)
    narrowing x rd Any b k = (faults x, (setting rd Any tt, tt))
    narrowing x rd (Exactly p) b k = choosing x rd (Exactly p) b p.perm refl k
    narrowing x rd (Open perm) b k = choosing x rd (Open perm) b perm refl k
    narrowing x rd (Inside p) b k = choosing x rd (Inside p) b p.perm refl k

    waiting : (x : Instr) (pre : Pre) → Os (waits t x pre)
    waiting x pres.Any = tt
    waiting x pres.Full = (faults x, tt)
    waiting x pres.Empty = (faults x, tt)

    word_sane : (rd w : ℕ) (c : Cell) → cell_at i.memory w ≡ Some c → O (word_loaded i kept t rd w c)
    word_sane rd w c at = by (is_kept kept w) (is_fixed i w)
      where
        by : (a b : Bool) → O (if a then outcome.Loads (w, 3) rd (stepped t) else if b then sets t rd (exactly c.word) else sets t rd Any)
        by true b = next
        by false true = setting rd (exactly c.word) (sane_exactly kept c.word (cell_sane w c at))
        by false false = setting rd Any tt

    loaded_from : (x : Instr) (rd : ℕ) (pre : Pre) (r : Result AccessValue Cause) → Os (loaded_by i kept t x rd pre r)
    loaded_from x rd pre (Err c) = (faults x, tt)
    loaded_from x rd pre (Ok a) = by (cell_at i.memory a.addr) refl
      where
        by : (o : Option Cell) → cell_at i.memory a.addr ≡ o → Os (loaded_at i kept t x rd pre a.addr o)
        by None e = (faults x, tt)
        by (Some c) e = (word_sane rd a.addr c e, waiting x pre)

    two : (b : Bool) (x : Instr) (o : Outcome) → O o → Os (if b then fault t x ∷ o ∷ [] else fault t x ∷ [])
    two true x o k = (faults x, (k, tt))
    two false x o k = (faults x, tt)

    loading : (x : Instr) (rd : ℕ) (f : Form) (imm : ℤ) (pre : Pre) (kind : Kind) → Os (loads i kept t x rd f imm pre kind)
    unfolding loads
    loading x rd (Number n) imm pre kind = (faults x, tt)
    loading x rd Integer imm pre kind = (faults x, tt)
    loading x rd Any imm pre kind = (faults x, (setting rd Any tt, tt))
    loading x rd (Open perm) imm pre kind = two (allows perm kind) x (sets t rd Any) (setting rd Any tt)
    loading x rd (Inside p) imm pre kind = two (allows p.perm kind) x (outcome.Loads (p.addr, p.log) rd (stepped t)) next
    loading x rd (Exactly p) imm pre kind = loaded_from x rd pre (check_result (Ptr p) imm kind)

    three : (b : Bool) (x : Instr) (o : Outcome) → O o → Os (if b then fault t x ∷ o ∷ outcome.Goes (stepped t) ∷ [] else fault t x ∷ [])
    three true x o k = (faults x, (k, (next, tt)))
    three false x o k = (faults x, tt)

    word_put : (rb w : ℕ) → O (word_stored kept t rb w)
    word_put rb w = by (is_kept kept w)
      where
        by : (b : Bool) → O (if b then outcome.Stores (w, 3) (stored_form (form_in t rb)) else stores_outside t rb)
        by true = sane_stored kept (form_in t rb) (form rb)
        by false = form rb

    stored_from : (x : Instr) (rb : ℕ) (pre : Pre) (r : Result AccessValue Cause) → Os (stored_by i kept t x rb pre r)
    stored_from x rb pre (Err c) = (faults x, tt)
    stored_from x rb pre (Ok a) = by (cell_at i.memory a.addr)
      where
        by : (o : Option Cell) → Os (stored_at kept t x rb pre a.addr o)
        by None = (faults x, tt)
        by (Some c) = (word_put rb a.addr, (next, waiting x pre))

    storing : (x : Instr) (f : Form) (rb : ℕ) (imm : ℤ) (pre : Pre) → Os (stores i kept t x f rb imm pre)
    unfolding stores
    storing x (Number n) rb imm pre = (faults x, tt)
    storing x Integer rb imm pre = (faults x, tt)
    storing x Any rb imm pre = (faults x, (form rb, (next, tt)))
    storing x (Open perm) rb imm pre = three (allows perm Store) x (stores_outside t rb) (form rb)
    storing x (Inside p) rb imm pre = three (allows p.perm Store) x (outcome.Stores (p.addr, p.log) (stored_form (form_in t rb))) (sane_stored kept (form_in t rb) (form rb))
    storing x (Exactly p) rb imm pre = stored_from x rb pre (check_result (Ptr p) imm Store)

    branching : (x : Instr) (imm : ℤ) → O (branches t x imm)
    unfolding branches
    branching x imm = by (at_distance t imm) refl
      where
        by : (r : Result Pointer Cause) → at_distance t imm ≡ r → O (branched t x r)
        by (Ok q) e = going q (sane_distance kept t.ip q (pos t.ip.addr +ℤ (pos 8 *ℤ imm)) e h.ip)
        by (Err c) e = faults x

    one_of : (b : Bool) (o p : Outcome) → O o → O p → Os ((if b then o else p) ∷ [])
    one_of true o p k j = (k, tt)
    one_of false o p k j = (j, tt)

    branching_if : (z : Bool) (x : Instr) (o : Option ℕ) (imm : ℤ) → Os (branches_if z t x o imm)
    branching_if true x None imm = (branching x imm, (next, tt))
    branching_if false x None imm = (branching x imm, (next, tt))
    branching_if true x (Some n) imm = one_of (n == 0) (branches t x imm) (outcome.Goes (stepped t)) (branching x imm) next
    branching_if false x (Some n) imm = one_of (n == 0) (outcome.Goes (stepped t)) (branches t x imm) next (branching x imm)

    one_more : (b : Bool) (o p : Outcome) → O o → O p → Os (if b then o ∷ [] else p ∷ [])
    one_more true o p k j = (k, tt)
    one_more false o p k j = (j, tt)

    jumping : (l : Thread) (x : Instr) (ra : ℕ) (f : Form) → SaneThread kept l → SaneForm kept f → Os (jumps t l x ra f)
    unfolding jumps
    jumping l x ra (Number n) k j = (faults x, tt)
    jumping l x ra Integer k j = (faults x, tt)
    jumping l x ra Any k j = (faults x, (k, tt))
    jumping l x ra (Open perm) k j = one_more (is_some (execute_form perm)) (outcome.Leaves l) (fault t x) k (faults x)
    jumping l x ra (Inside p) k j = one_more (is_some (execute_form p.perm)) (outcome.Leaks (leak.Enter t.ip.addr ra (Inside p))) (fault t x) tt (faults x)
    jumping l x ra (Exactly p) k j = by (enter_result p) refl
      where
        by : (o : Option Pointer) → enter_result p ≡ o → Os (jumped t l x o)
        by None e = (faults x, tt)
        by (Some to) e = (record { ip = sane_entered kept p to e j; forms = k.forms }, tt)

    linking : (x : Instr) (rd ra : ℕ) (o : Option Pointer) → next_result t.ip ≡ o → Os (links t x rd ra o)
    linking x rd ra None e = (faults x, tt)
    linking x rd ra (Some back) e = jumping (with_form t rd (Exactly back)) x ra (form_in t ra) (sane_with kept t rd (Exactly back) h (sane_next kept t.ip back e h.ip)) (form ra)

    lipping : (x : Instr) (rd : ℕ) (r : Result Pointer Cause) (imm : ℤ) → at_distance t imm ≡ r → Os (moved t x rd r)
    lipping x rd (Ok q) imm e = (setting rd (Exactly q) (sane_distance kept t.ip q (pos t.ip.addr +ℤ (pos 8 *ℤ imm)) e h.ip), tt)
    lipping x rd (Err c) imm e = (faults x, tt)

    seeing : (rd ra : ℕ) (f : Form) (tag : ℕ) → SaneForm kept f → O (seen_as t rd ra f tag)
    seeing rd ra f tag k = sane_with kept (with_form (stepped t) ra f) rd (Number tag) (sane_with kept (stepped t) ra f next k) tt

    testing : (rd ra : ℕ) (f : Form) → Os (tests_tag t rd ra f)
    unfolding tests_tag
    testing rd ra (Number n) = (setting rd (Number 0) tt, tt)
    testing rd ra Integer = (setting rd (Number 0) tt, tt)
    testing rd ra (Exactly p) = (setting rd (Number 1) tt, tt)
    testing rd ra (Open perm) = (setting rd (Number 1) tt, tt)
    testing rd ra (Inside p) = (setting rd (Number 1) tt, tt)
    testing rd ra Any =
        (seeing rd ra Integer 0 tt, (seeing rd ra (Open Ro) 1 tt, (seeing rd ra (Open Rw) 1 tt, (seeing rd ra (Open Xu) 1 tt, (seeing rd ra (Open Eu) 1 tt, (seeing rd ra (Open Key) 1 tt, tt))))))

    computing : (x : Instr) (b : Bool) (rd : ℕ) (f : Form) (o : Option ℕ) → SaneForm kept f → Os (computes t x b rd f o)
    computing x false rd f o k = (setting rd f k, tt)
    computing x true rd f None k = (faults x, (setting rd f k, tt))
    computing x true rd f (Some n) k = by (n == 0)
      where
        by : (b : Bool) → Os ((if b then fault t x ∷ [] else []) ++ (if b then [] else sets t rd f ∷ []))
        by true = (faults x, tt)
        by false = (setting rd f k, tt)

    instr_sane : (x : Instr) → Os (outcomes_of i kept t x)
    unfolding outcomes_of
    instr_sane Halt = tt
    instr_sane Nop = (next, tt)
    instr_sane (Ldi rd imm) = (setting rd (Number (cast_unsigned w64 imm)) tt, tt)
    instr_sane (Ldhi rd imm) = (setting rd (high_form (form_in t rd) imm) (high_sane (form_in t rd) imm), tt)
    instr_sane (Mov rd ra) = (setting rd (form_in t ra) (form ra), tt)
    instr_sane (Isptr rd ra) = testing rd ra (form_in t ra)
    instr_sane (Eqw rd ra rb) = (setting rd (equal_form (form_in t ra) (form_in t rb)) (equal_sane (form_in t ra) (form_in t rb)), tt)
    instr_sane (Out ra) = (faults (Out ra), (next, tt))
    instr_sane (SelfSlot rd) = (setting rd Integer tt, tt)
    instr_sane (Alu op rd ra rb) = computing (Alu op rd ra rb) (divides op) rd (alu_form op (form_in t ra) (form_in t rb)) (exact_bits (form_in t rb)) (alu_sane op (form_in t ra) (form_in t rb))
    instr_sane (Addi rd ra imm) = (setting rd (alu_form Add (form_in t ra) (Number (cast_unsigned w64 imm))) (alu_sane Add (form_in t ra) (Number (cast_unsigned w64 imm))), tt)
    instr_sane (Lea rd ra rb) = moving (Lea rd ra rb) rd (form_in t ra) (exact_bits (form_in t rb)) (λ p bits. lea_result p (cast_signed w64 bits)) (form ra)
        (λ p q n e. lea_moved i kept p q (cast_signed w64 n) e)
    instr_sane (Leai rd ra imm) = moving (Leai rd ra imm) rd (form_in t ra) (Some 0) (λ p bits. lea_result p imm) (form ra) (λ p q n e. lea_moved i kept p q imm e)
    instr_sane (Leab rd ra rb) = moving (Leab rd ra rb) rd (form_in t ra) (exact_bits (form_in t rb)) (λ p bits. leab_result p (cast_signed w64 bits)) (form ra)
        (λ p q n e. leab_moved i kept p q (cast_signed w64 n) e)
    instr_sane (Restrict rd ra rb) = narrowing (Restrict rd ra rb) rd (form_in t ra) (form_in t rb) (form ra)
    instr_sane (Subseg rd ra rb) = moving (Subseg rd ra rb) rd (form_in t ra) (exact_bits (form_in t rb)) subseg_result (form ra) (λ p q n e. subseg_moved i kept p q n e)
    instr_sane (Setptr rd ra) = (faults (Setptr rd ra), tt)
    instr_sane (Ld rd ra pre post imm) = loading (Ld rd ra pre post imm) rd (form_in t ra) imm pre (load_kind post)
    instr_sane (St ra rb pre post imm) = storing (St ra rb pre post imm) (form_in t ra) rb imm pre
    instr_sane (Br imm) = (branching (Br imm) imm, tt)
    instr_sane (Bz ra imm) = branching_if true (Bz ra imm) (exact_bits (form_in t ra)) imm
    instr_sane (Bnz ra imm) = branching_if false (Bnz ra imm) (exact_bits (form_in t ra)) imm
    instr_sane (Jmp ra) = jumping t (Jmp ra) ra (form_in t ra) h (form ra)
    instr_sane (Jal rd ra) = linking (Jal rd ra) rd ra (next_result t.ip) refl
    instr_sane (Lip rd imm) = lipping (Lip rd imm) rd (at_distance t imm) imm refl
    instr_sane (Trap imm) = (faults (Trap imm), tt)
    instr_sane (Evt rd) = (sane_event kept (stepped t) rd Any Any Any next tt tt tt, (next, tt))
    instr_sane (Resume ra how) = (faults (Resume ra how), (next, (tt, tt)))
    instr_sane (Rreg rd ra reg) = (faults (Rreg rd ra reg), (setting rd Any tt, (next, tt)))
    instr_sane (Wreg ra rb reg) = (faults (Wreg ra rb reg), (next, (form rb, (form rb, tt))))
    instr_sane (Map rd ra) = (faults (Map rd ra), tt)
    instr_sane (Unmap rd ra) = (faults (Unmap rd ra), tt)

    turn_sane : Os (outcomes i kept t)
    unfolding outcomes
    turn_sane = by t.past
      where
        read : (o : Option Instr) → Os (decoded i kept t o)
        read None = ((tt, tt), tt)
        read (Some x) = instr_sane x

        word_is : (w : ℕ) (c : Cell) (b : Bool) → Os (if b then decoded i kept t (instr_in c.word) else outcome.Leaks (leak.Code w) ∷ [])
        word_is w c true = read (instr_in c.word)
        word_is w c false = (tt, tt)

        got : (w : ℕ) (o : Option Cell) → Os (fetched i kept t w o)
        got w None = ((tt, tt), tt)
        got w (Some c) = word_is w c (is_fixed i w)

        aims : (r : Result AccessValue Cause) → Os (aimed i kept t r)
        aims (Err c) = ((tt, tt), tt)
        aims (Ok a) = got a.addr (cell_at i.memory a.addr)

        by : (b : Bool) → Os (if b then early_fault ∷ [] else aimed i kept t (check_result (Ptr t.ip) (pos 0) Fetch))
        by true = ((tt, tt), tt)
        by false = aims (check_result (Ptr t.ip) (pos 0) Fetch)

    outcome_is : (o : Outcome) → Contains (outcomes i kept t) o → SaneOutcome kept o
    outcome_is o c = each_contained (SaneOutcome kept) (outcomes i kept t) o turn_sane c

  -- 3. The facts.

  cell_begins : (w : ℕ) (c : Cell) → cell_at i.memory w ≡ Some c → AllByRecursion (SaneFact kept) (cell_facts i kept w c.word)
  cell_begins w c at = by (is_kept kept w)
    where
      sane : SaneForm kept (exactly c.word)
      sane = sane_exactly kept c.word (cell_sane w c at)

      first : (b : Bool) (v : Word) → SaneForm kept (exactly v) → SaneForm kept (first_form b v)
      first true (Int n) k = tt
      first false (Int n) k = tt
      first true (Ptr p) k = k
      first false (Ptr p) k = k

      by : (b : Bool) → AllByRecursion (SaneFact kept) (if b then HasForm w (first_form (is_fixed i w) c.word) ∷ [] else hand_out kept (exactly c.word) (leak.Cell w (exactly c.word)))
      by true = (first (is_fixed i w) c.word sane, tt)
      by false = hands_out kept (exactly c.word) (leak.Cell w (exactly c.word)) sane

  after_sane : (u : Thread) → SaneThread kept u → SaneThread kept (on_after u)
  after_sane u h = record { ip = sane_advanced kept u.ip h.ip; forms = h.forms }

  resumed_sane : (how : How) (u next : Thread) → SaneThread kept u → Contains (resumed how u) next → SaneThread kept next
  resumed_sane Retry u next h c = each_contained (SaneThread kept) (u ∷ []) next (h, tt) c
  resumed_sane Skip u next h c = each_contained (SaneThread kept) (on_after u ∷ []) next (after_sane u h, tt) c
  resumed_sane Kill u next h c = each_contained (SaneThread kept) [] next tt c

  pub facts_sane : {fact : Fact} → Derived i kept fact → SaneFact kept fact
  facts_sane (begins_in_cell {fact = f} w c at k) = each_contained (SaneFact kept) (cell_facts i kept w c.word) f (cell_begins w c at) k
  facts_sane (begins_in_slot {fact = f} s among k) = each_contained (SaneFact kept) (take_up i kept (own_thread i kept s)) f (takes_up kept i (own_thread i kept s) (own_sane s among)) k
  facts_sane (reaches p c e) = tt
  facts_sane (enters {fact = f} door ip s d e among k) =
      let t : Thread = thread_through door ip (handler_of i kept s.handler) in
      each_contained (SaneFact kept) (take_up i kept t) f
      (takes_up kept i t (record { ip = sane_entered kept door ip e (facts_sane d); forms = (tt, (tt, (tt, (tt, (tt, (tt, (tt, (tt, (tt, (tt, (tt, (tt, (tt, (tt, (tt, (tt, tt)))))))))))))))) })) k
  facts_sane (turns {fact = f} t o d c k) =
      let h : SaneThread kept t = facts_sane d in
      each_contained (SaneFact kept) (outcome_facts i kept t o) f (outcome_sane kept i t o h (outcome_is t h o c)) k
  facts_sane (by_load {fact = f} t next part reg w g d c held inside k) =
      each_contained (SaneFact kept) (take_up i kept (with_form next reg g)) f
      (takes_up kept i (with_form next reg g) (sane_with kept next reg g (outcome_is t (facts_sane d) (outcome.Loads part reg next) c) (facts_sane held))) k
  facts_sane (by_store t part w c g d among at is inside) = outcome_is t (facts_sane d) (outcome.Stores part g) among
  facts_sane (takes {fact = f} t next h reg e d from c held k) =
      let ev : SaneForm kept e.ip × SaneForm kept e.address × SaneForm kept e.value = facts_sane held in
      each_contained (SaneFact kept) (take_up i kept (with_event next reg e.ip e.address e.value)) f
      (takes_up kept i (with_event next reg e.ip e.address e.value) (sane_event kept next reg e.ip e.address e.value (outcome_is t (facts_sane d) (outcome.TakesEvent reg next) c) ev.0 ev.1 ev.2)) k
  facts_sane (resumes {fact = f} t u next h how d from c held among k) =
      each_contained (SaneFact kept) (take_up i kept next) f (takes_up kept i next (resumed_sane how u next (facts_sane held) among)) k
  facts_sane (reads_served {fact = f} t u next h reg from d own c held k) =
      let su : SaneThread kept u = facts_sane held in
      each_contained (SaneFact kept) (take_up i kept (with_form next reg (form_in u from))) f
      (takes_up kept i (with_form next reg (form_in u from))
      (sane_with kept next reg (form_in u from) (outcome_is t (facts_sane d) (outcome.ReadsServed reg from next) c) (sane_form kept u su from))) k
  facts_sane (writes_served t u h reg g d from c held) = sane_with kept u reg g (facts_sane held) (outcome_is t (facts_sane d) (outcome.WritesServed reg g) c)

  -- each form of a derived thread: what is known of its pointers
  pub thread_whole : (t : Thread) → Derived i kept (HasThread t) → (r : ℕ) → WholeForm kept (form_in t r)
  thread_whole t d r = sane_whole kept (form_in t r) (sane_form kept t (facts_sane d) r)

  -- and of the pointer by which it runs
  pub ip_whole : (t : Thread) → Derived i kept (HasThread t) → has_segment t.ip.perm ≡ true → meets kept t.ip ≡ true → is_inside kept t.ip ≡ true
  ip_whole t d = (facts_sane d).ip.whole
