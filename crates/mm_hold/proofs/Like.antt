-- What each outcome of a turn keeps of its thread: how many registers it has, its origin, and the form that it hands out.
use Rattle.std.proofs.Common.{◌≡◌, ℕ, ◌+◌, Bool, true, false, ◌==◌, if◌then◌else◌, ℤ, pos, List, [], ◌∷◌, ◌++◌, map}
use Rattle.std.proofs.Common.{length, is_some, Option, Some, None, Result, Ok, Err, refl, ◌∙◌, arith}
use Rattle.std.proofs.lemmas.List.{length-set}
use Rattle.std.specs.{Prelude.Contains, Int.{w64, cast_unsigned, cast_signed}}
use Rattle.std.specs.List.{AllByRecursion}
use Rattle.mm_word.specs.declared.perm.Perm.{Perm, TheVariants.{Ro, Rw, Xu, Eu, Key}}
use Rattle.mm_word.specs.declared.{perm.Kind.{Kind, TheVariants.{Fetch, Store}}, cause.Cause.Cause}
use Rattle.mm_word.specs.declared.word.{Pre.Pre, Word.{TheVariants.{Ptr}}, Cell.Cell}
use Rattle.mm_word.specs.Access.{AccessValue, check_result}
use Rattle.mm_word.specs.Perm.{can_move, allows, execute_form}
use Rattle.mm_word.specs.Pointer.{Pointer, next_result, enter_result, lea_result, leab_result, subseg_result}
use Rattle.mm_isa.specs.declared.instr.{AluOp.TheVariants.Add}
use Rattle.mm_isa.specs.declared.instr.Instr.{Instr}
use Rattle.mm_isa.specs.declared.instr.Instr.TheVariants.{Halt, Nop, Ldi, Ldhi, Mov, Isptr, Eqw, Out, SelfSlot, Alu}
use Rattle.mm_isa.specs.declared.instr.Instr.TheVariants.{Addi, Lea, Leai, Leab, Restrict, Subseg, Setptr, Ld, St, Br}
use Rattle.mm_isa.specs.declared.instr.Instr.TheVariants.{Bz, Bnz, Jmp, Jal, Lip, Trap, Evt, Resume, Rreg, Wreg, Map}
use Rattle.mm_isa.specs.{declared.instr.Instr.TheVariants.Unmap, Alu.divides}
use Rattle.mm_model.specs.{Memory.cell_at, Image.{Image}, Ask.load_kind, Turn.instr_in}
use Rattle.mm_model.{proofs.CoreRows.{each_contained, into_map}}
use Rattle.mm_kernel.specs.Segments.{Segment, is_kept, is_fixed}
use Rattle.mm_kernel.specs.declared.fact.{Leak.{Leak, TheVariants.{Loose, FaultPointer, Fault, Jump, Cell as InCell}}}
use Rattle.mm_kernel.specs.declared.form.Form.{Form}
use Rattle.mm_kernel.specs.declared.form.Form.TheVariants.{Number, Pointer as Exactly, Integer, Open, Any, Inside}
use Rattle.mm_kernel.specs.declared.{outcome.Outcome.Outcome, thread.Thread.Thread}
use Rattle.mm_kernel.specs.Forms.{exactly, exact_bits, stored_form, around}
use Rattle.mm_kernel.specs.Threads.{form_in, with_form, stepped}
use Rattle.mm_kernel.specs.Operations.{alu_form, equal_form, high_form, choices, with_permission}
use Rattle.mm_kernel.specs.Turns.{outcomes, outcomes_of, decoded, fetched, aimed, fault, early_fault, sets, moves, moved}
use Rattle.mm_kernel.specs.Turns.{moved_somewhere, restricts, restricted, may_refuse, loads, loaded_by, loaded_at}
use Rattle.mm_kernel.specs.Turns.{word_loaded, waits, stores, stored_by, stored_at, word_stored, stores_outside}
use Rattle.mm_kernel.specs.Turns.{branches, branched, branches_if, jumps, jumped, links, at_distance, tests_tag}
use Rattle.mm_kernel.specs.Turns.{computes, with_event, seen_as}
use Rattle.mm_kernel.proofs.Ups.{each_from, each_join}
use Rattle.mm_word.specs.declared.word.Pre.TheVariants as pres
use Rattle.mm_kernel.specs.declared.fact.Leak.TheVariants as leak
use Rattle.mm_kernel.specs.declared.outcome.Outcome.TheVariants as outcome

-- the next thread has as many registers, and is of the same origin
abbrev pub AsLong : Thread → Thread → Type 0
AsLong t next = (next.origin ≡ t.origin) × (length next.forms ≡ length t.forms)

-- a store that hands out a form names it
abbrev pub SameForm : Form → Leak → Type 0
SameForm f (leak.Store at reg g) = g ≡ f
SameForm f _ = Unit {0}

-- a register of the thread has the form
pub record InRegister (t : Thread) (f : Form) : Type 0 where
  pub reg : ℕ
  pub is : form_in t reg ≡ f

-- one of the outcomes hands out the form
pub record HandedIn (all : List Outcome) (f : Form) : Type 0 where
  pub by : Leak
  pub inside : Contains all (outcome.HandsOut f by)

abbrev pub Like : List Outcome → Thread → Outcome → Type 0
Like all t (outcome.Goes next) = AsLong t next
Like all t (outcome.Loads part reg next) = AsLong t next
Like all t (outcome.HandsOut f leak) = SameForm f leak × InRegister t f
Like all t (outcome.Leaves linked) = AsLong t linked
Like all t (outcome.TakesEvent reg next) = AsLong t next
Like all t (outcome.ReadsServed reg from next) = AsLong t next
Like all t (outcome.WritesServed reg f) = InRegister t f × HandedIn all f
Like all t _ = Unit {0}

pub then_long : (t u v : Thread) → AsLong t u → AsLong u v → AsLong t v
then_long t u v h k = (k.0 ∙ h.0, k.1 ∙ h.1)

pub with_long : (u : Thread) (r : ℕ) (f : Form) → AsLong u (with_form u r f)
unfolding with_form
with_long u r f = (refl, length-set u.forms r f)

pub event_long : (u : Thread) (rd : ℕ) (a b c : Form) → AsLong u (with_event u rd a b c)
event_long u rd a b c =
    let u1 = with_form u rd Integer in
    let u2 = with_form u1 (rd + 1) a in
    let u3 = with_form u2 (rd + 2) b in
    then_long u u1 (with_form u3 (rd + 3) c) (with_long u rd Integer)
    (then_long u1 u2 (with_form u3 (rd + 3) c) (with_long u1 (rd + 1) a)
    (then_long u2 u3 (with_form u3 (rd + 3) c) (with_long u2 (rd + 2) b) (with_long u3 (rd + 3) c)))

module _ (i : Image) (kept : List Segment) (t : Thread) (all : List Outcome) where
  abbrev O : Outcome → Type 0
  O o = Like all t o

  abbrev Os : List Outcome → Type 0
  Os os = AllByRecursion (Like all t) os

  faults : (x : Instr) → O (fault t x)
  unfolding fault
  faults x = tt

  next : AsLong t (stepped t)
  unfolding stepped
  next = (refl, refl)

  setting : (rd : ℕ) (f : Form) → O (sets t rd f)
  unfolding sets
  setting rd f = then_long t (stepped t) (with_form (stepped t) rd f) next (with_long (stepped t) rd f)

  somewhere : (x : Instr) (rd : ℕ) (perm : Perm) (f : Form) → Os (moved_somewhere t x rd perm f)
  somewhere x rd perm f = by (can_move perm)
    where
      by : (b : Bool) → Os (if b then fault t x ∷ sets t rd f ∷ [] else fault t x ∷ [])
      by true = (faults x, (setting rd f, tt))
      by false = (faults x, tt)

  moving : (x : Instr) (rd : ℕ) (f : Form) (o : Option ℕ) (by : Pointer → ℕ → Result Pointer Cause) → Os (moves kept t x rd f o by)
  unfolding moves
  moving x rd (Number n) o by = (faults x, tt)
  moving x rd Integer o by = (faults x, tt)
  moving x rd Any o by = (faults x, (setting rd Any, tt))
  moving x rd (Open perm) o by = somewhere x rd perm (Open perm)
  moving x rd (Inside p) o by = somewhere x rd p.perm (Inside p)
  moving x rd (Exactly p) None by = somewhere x rd p.perm (around kept p)
  moving x rd (Exactly p) (Some n) by = go (by p n)
    where
      go : (r : Result Pointer Cause) → Os (moved t x rd r)
      go (Ok q) = (setting rd (Exactly q), tt)
      go (Err c) = (faults x, tt)

  choosing : (x : Instr) (rd : ℕ) (f b : Form) (to : List Perm) → Os (restricted t x rd f b to)
  choosing x rd f b to =
      each_join (Like all t) (map (λ perm. sets t rd (with_permission f perm)) to) (if may_refuse (exact_bits b) to then fault t x ∷ [] else [])
      (into_map (Like all t) (λ perm. sets t rd (with_permission f perm)) to
      (each_from (λ (c : Perm). O (sets t rd (with_permission f c))) to (λ c k. setting rd (with_permission f c))))
      (last (may_refuse (exact_bits b) to))
    where
      last : (z : Bool) → Os (if z then fault t x ∷ [] else [])
      last true = (faults x, tt)
      last false = tt

  narrowing : (x : Instr) (rd : ℕ) (f b : Form) → Os (restricts t x rd f b)
  unfolding restricts
  narrowing x rd (Number n) b = (faults x, tt)
  narrowing x rd Integer b = (faults x, tt)
  narrowing x rd Any b = (faults x, (setting rd Any, tt))
  narrowing x rd (Exactly p) b = choosing x rd (Exactly p) b (choices p.perm b)
  narrowing x rd (Open perm) b = choosing x rd (Open perm) b (choices perm b)
  narrowing x rd (Inside p) b = choosing x rd (Inside p) b (choices p.perm b)

  waiting : (x : Instr) (pre : Pre) → Os (waits t x pre)
  waiting x pres.Any = tt
  waiting x pres.Full = (faults x, tt)
  waiting x pres.Empty = (faults x, tt)

  word_like : (rd w : ℕ) (c : Cell) → O (word_loaded i kept t rd w c)
  word_like rd w c = by (is_kept kept w) (is_fixed i w)
    where
      by : (a b : Bool) → O (if a then outcome.Loads (w, 3) rd (stepped t) else if b then sets t rd (exactly c.word) else sets t rd Any)
      by true b = next
      by false true = setting rd (exactly c.word)
      by false false = setting rd Any

  loaded_from : (x : Instr) (rd : ℕ) (pre : Pre) (r : Result AccessValue Cause) → Os (loaded_by i kept t x rd pre r)
  loaded_from x rd pre (Err c) = (faults x, tt)
  loaded_from x rd pre (Ok a) = by (cell_at i.memory a.addr)
    where
      by : (o : Option Cell) → Os (loaded_at i kept t x rd pre a.addr o)
      by None = (faults x, tt)
      by (Some c) = (word_like rd a.addr c, waiting x pre)

  two : (b : Bool) (x : Instr) (o : Outcome) → O o → Os (if b then fault t x ∷ o ∷ [] else fault t x ∷ [])
  two true x o k = (faults x, (k, tt))
  two false x o k = (faults x, tt)

  loading : (x : Instr) (rd : ℕ) (f : Form) (imm : ℤ) (pre : Pre) (kind : Kind) → Os (loads i kept t x rd f imm pre kind)
  unfolding loads
  loading x rd (Number n) imm pre kind = (faults x, tt)
  loading x rd Integer imm pre kind = (faults x, tt)
  loading x rd Any imm pre kind = (faults x, (setting rd Any, tt))
  loading x rd (Open perm) imm pre kind = two (allows perm kind) x (sets t rd Any) (setting rd Any)
  loading x rd (Inside p) imm pre kind = two (allows p.perm kind) x (outcome.Loads (p.addr, p.log) rd (stepped t)) next
  loading x rd (Exactly p) imm pre kind = loaded_from x rd pre (check_result (Ptr p) imm kind)

  three : (b : Bool) (x : Instr) (o : Outcome) → O o → Os (if b then fault t x ∷ o ∷ outcome.Goes (stepped t) ∷ [] else fault t x ∷ [])
  three true x o k = (faults x, (k, (next, tt)))
  three false x o k = (faults x, tt)

  handing : (rb : ℕ) → O (stores_outside t rb)
  handing rb = (refl, record { reg = rb; is = refl })

  word_put : (rb w : ℕ) → O (word_stored kept t rb w)
  word_put rb w = by (is_kept kept w)
    where
      by : (b : Bool) → O (if b then outcome.Stores (w, 3) (stored_form (form_in t rb)) else stores_outside t rb)
      by true = tt
      by false = handing rb

  stored_from : (x : Instr) (rb : ℕ) (pre : Pre) (r : Result AccessValue Cause) → Os (stored_by i kept t x rb pre r)
  stored_from x rb pre (Err c) = (faults x, tt)
  stored_from x rb pre (Ok a) = by (cell_at i.memory a.addr)
    where
      by : (o : Option Cell) → Os (stored_at kept t x rb pre a.addr o)
      by None = (faults x, tt)
      by (Some c) = (word_put rb a.addr, (next, waiting x pre))

  storing : (x : Instr) (f : Form) (rb : ℕ) (imm : ℤ) (pre : Pre) → Os (stores i kept t x f rb imm pre)
  unfolding stores
  storing x (Number n) rb imm pre = (faults x, tt)
  storing x Integer rb imm pre = (faults x, tt)
  storing x Any rb imm pre = (faults x, (handing rb, (next, tt)))
  storing x (Open perm) rb imm pre = three (allows perm Store) x (stores_outside t rb) (handing rb)
  storing x (Inside p) rb imm pre = three (allows p.perm Store) x (outcome.Stores (p.addr, p.log) (stored_form (form_in t rb))) tt
  storing x (Exactly p) rb imm pre = stored_from x rb pre (check_result (Ptr p) imm Store)

  branching : (x : Instr) (imm : ℤ) → O (branches t x imm)
  unfolding branches
  branching x imm = by (at_distance t imm)
    where
      by : (r : Result Pointer Cause) → O (branched t x r)
      by (Ok q) = (refl, refl)
      by (Err c) = faults x

  one_of : (b : Bool) (o p : Outcome) → O o → O p → Os ((if b then o else p) ∷ [])
  one_of true o p k j = (k, tt)
  one_of false o p k j = (j, tt)

  branching_if : (z : Bool) (x : Instr) (o : Option ℕ) (imm : ℤ) → Os (branches_if z t x o imm)
  branching_if true x None imm = (branching x imm, (next, tt))
  branching_if false x None imm = (branching x imm, (next, tt))
  branching_if true x (Some n) imm = one_of (n == 0) (branches t x imm) (outcome.Goes (stepped t)) (branching x imm) next
  branching_if false x (Some n) imm = one_of (n == 0) (outcome.Goes (stepped t)) (branches t x imm) next (branching x imm)

  one_more : (b : Bool) (o p : Outcome) → O o → O p → Os (if b then o ∷ [] else p ∷ [])
  one_more true o p k j = (k, tt)
  one_more false o p k j = (j, tt)

  jumping : (l : Thread) (x : Instr) (ra : ℕ) (f : Form) → AsLong t l → Os (jumps t l x ra f)
  unfolding jumps
  jumping l x ra (Number n) k = (faults x, tt)
  jumping l x ra Integer k = (faults x, tt)
  jumping l x ra Any k = (faults x, (k, tt))
  jumping l x ra (Open perm) k = one_more (is_some (execute_form perm)) (outcome.Leaves l) (fault t x) k (faults x)
  jumping l x ra (Inside p) k = one_more (is_some (execute_form p.perm)) (outcome.Leaks (leak.Enter t.ip.addr ra (Inside p))) (fault t x) tt (faults x)
  jumping l x ra (Exactly p) k = by (enter_result p)
    where
      by : (o : Option Pointer) → Os (jumped t l x o)
      by None = (faults x, tt)
      by (Some to) = (k, tt)

  linking : (x : Instr) (rd ra : ℕ) (o : Option Pointer) → Os (links t x rd ra o)
  linking x rd ra None = (faults x, tt)
  linking x rd ra (Some back) = jumping (with_form t rd (Exactly back)) x ra (form_in t ra) (with_long t rd (Exactly back))

  lipping : (x : Instr) (rd : ℕ) (r : Result Pointer Cause) → Os (moved t x rd r)
  lipping x rd (Ok q) = (setting rd (Exactly q), tt)
  lipping x rd (Err c) = (faults x, tt)

  seeing : (rd ra : ℕ) (f : Form) (tag : ℕ) → O (seen_as t rd ra f tag)
  seeing rd ra f tag =
      let u = stepped t in
      let v = with_form u ra f in
      then_long t u (with_form v rd (Number tag)) next (then_long u v (with_form v rd (Number tag)) (with_long u ra f) (with_long v rd (Number tag)))

  testing : (rd ra : ℕ) (f : Form) → Os (tests_tag t rd ra f)
  unfolding tests_tag
  testing rd ra (Number n) = (setting rd (Number 0), tt)
  testing rd ra Integer = (setting rd (Number 0), tt)
  testing rd ra (Exactly p) = (setting rd (Number 1), tt)
  testing rd ra (Open perm) = (setting rd (Number 1), tt)
  testing rd ra (Inside p) = (setting rd (Number 1), tt)
  testing rd ra Any =
      (seeing rd ra Integer 0, (seeing rd ra (Open Ro) 1, (seeing rd ra (Open Rw) 1, (seeing rd ra (Open Xu) 1, (seeing rd ra (Open Eu) 1, (seeing rd ra (Open Key) 1, tt))))))

  computing : (x : Instr) (b : Bool) (rd : ℕ) (f : Form) (o : Option ℕ) → Os (computes t x b rd f o)
  computing x false rd f o = (setting rd f, tt)
  computing x true rd f None = (faults x, (setting rd f, tt))
  computing x true rd f (Some n) = by (n == 0)
    where
      by : (b : Bool) → Os ((if b then fault t x ∷ [] else []) ++ (if b then [] else sets t rd f ∷ []))
      by true = (faults x, tt)
      by false = (setting rd f, tt)

  instr_like : (x : Instr) → ((o : Outcome) → Contains (outcomes_of i kept t x) o → Contains all o) → Os (outcomes_of i kept t x)
  unfolding outcomes_of
  instr_like Halt among = tt
  instr_like Nop among = (next, tt)
  instr_like (Ldi rd imm) among = (setting rd (Number (cast_unsigned w64 imm)), tt)
  instr_like (Ldhi rd imm) among = (setting rd (high_form (form_in t rd) imm), tt)
  instr_like (Mov rd ra) among = (setting rd (form_in t ra), tt)
  instr_like (Isptr rd ra) among = testing rd ra (form_in t ra)
  instr_like (Eqw rd ra rb) among = (setting rd (equal_form (form_in t ra) (form_in t rb)), tt)
  instr_like (Out ra) among = (faults (Out ra), (next, tt))
  instr_like (SelfSlot rd) among = (setting rd Integer, tt)
  instr_like (Alu op rd ra rb) among = computing (Alu op rd ra rb) (divides op) rd (alu_form op (form_in t ra) (form_in t rb)) (exact_bits (form_in t rb))
  instr_like (Addi rd ra imm) among = (setting rd (alu_form Add (form_in t ra) (Number (cast_unsigned w64 imm))), tt)
  instr_like (Lea rd ra rb) among = moving (Lea rd ra rb) rd (form_in t ra) (exact_bits (form_in t rb)) (λ p bits. lea_result p (cast_signed w64 bits))
  instr_like (Leai rd ra imm) among = moving (Leai rd ra imm) rd (form_in t ra) (Some 0) (λ p bits. lea_result p imm)
  instr_like (Leab rd ra rb) among = moving (Leab rd ra rb) rd (form_in t ra) (exact_bits (form_in t rb)) (λ p bits. leab_result p (cast_signed w64 bits))
  instr_like (Restrict rd ra rb) among = narrowing (Restrict rd ra rb) rd (form_in t ra) (form_in t rb)
  instr_like (Subseg rd ra rb) among = moving (Subseg rd ra rb) rd (form_in t ra) (exact_bits (form_in t rb)) subseg_result
  instr_like (Setptr rd ra) among = (faults (Setptr rd ra), tt)
  instr_like (Ld rd ra pre post imm) among = loading (Ld rd ra pre post imm) rd (form_in t ra) imm pre (load_kind post)
  instr_like (St ra rb pre post imm) among = storing (St ra rb pre post imm) (form_in t ra) rb imm pre
  instr_like (Br imm) among = (branching (Br imm) imm, tt)
  instr_like (Bz ra imm) among = branching_if true (Bz ra imm) (exact_bits (form_in t ra)) imm
  instr_like (Bnz ra imm) among = branching_if false (Bnz ra imm) (exact_bits (form_in t ra)) imm
  instr_like (Jmp ra) among = jumping t (Jmp ra) ra (form_in t ra) (refl, refl)
  instr_like (Jal rd ra) among = linking (Jal rd ra) rd ra (next_result t.ip)
  instr_like (Lip rd imm) among = lipping (Lip rd imm) rd (at_distance t imm)
  instr_like (Trap imm) among = (faults (Trap imm), tt)
  instr_like (Evt rd) among = (then_long t (stepped t) (with_event (stepped t) rd Any Any Any) next (event_long (stepped t) rd Any Any Any), (next, tt))
  instr_like (Resume ra how) among = (faults (Resume ra how), (next, (tt, tt)))
  instr_like (Rreg rd ra reg) among = (faults (Rreg rd ra reg), (setting rd Any, (next, tt)))
  instr_like (Wreg ra rb reg) among =
      let handed = among (outcome.HandsOut (form_in t rb) (leak.Give t.ip.addr rb (form_in t rb))) (2, omega arith, refl) in
      (faults (Wreg ra rb reg), (next, ((tt, record { reg = rb; is = refl }), ((record { reg = rb; is = refl }, record { by = leak.Give t.ip.addr rb (form_in t rb); inside = handed }), tt))))
  instr_like (Map rd ra) among = (faults (Map rd ra), tt)
  instr_like (Unmap rd ra) among = (faults (Unmap rd ra), tt)

module _ (i : Image) (kept : List Segment) (t : Thread) where
  abbrev Among : List Outcome → Type 0
  Among os = (o : Outcome) → Contains os o → Contains (outcomes i kept t) o

  abbrev Likes : List Outcome → Type 0
  Likes os = AllByRecursion (Like (outcomes i kept t) t) os

  read : (o : Option Instr) → Among (decoded i kept t o) → Likes (decoded i kept t o)
  read None among = (tt, tt)
  read (Some x) among = instr_like i kept t (outcomes i kept t) x among

  word_is : (w : ℕ) (c : Cell) (b : Bool) → Among (if b then decoded i kept t (instr_in c.word) else outcome.Leaks (leak.Code w) ∷ [])
      → Likes (if b then decoded i kept t (instr_in c.word) else outcome.Leaks (leak.Code w) ∷ [])
  word_is w c true among = read (instr_in c.word) among
  word_is w c false among = (tt, tt)

  got : (w : ℕ) (o : Option Cell) → Among (fetched i kept t w o) → Likes (fetched i kept t w o)
  got w None among = (tt, tt)
  got w (Some c) among = word_is w c (is_fixed i w) among

  aims : (r : Result AccessValue Cause) → Among (aimed i kept t r) → Likes (aimed i kept t r)
  aims (Err c) among = (tt, tt)
  aims (Ok a) among = got a.addr (cell_at i.memory a.addr) among

  turn_like : Likes (outcomes i kept t)
  unfolding outcomes
  turn_like = by t.past (λ o c. c)
    where
      by : (b : Bool) → Among (if b then early_fault ∷ [] else aimed i kept t (check_result (Ptr t.ip) (pos 0) Fetch))
          → Likes (if b then early_fault ∷ [] else aimed i kept t (check_result (Ptr t.ip) (pos 0) Fetch))
      by true among = (tt, tt)
      by false among = aims (check_result (Ptr t.ip) (pos 0) Fetch) among

  pub outcome_like : (o : Outcome) → Contains (outcomes i kept t) o → Like (outcomes i kept t) t o
  outcome_like o c = each_contained (Like (outcomes i kept t) t) (outcomes i kept t) o turn_like c
