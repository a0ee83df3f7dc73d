-- Each row of the table of instructions: what it does, one of its thread's outcomes stands for.
use Rattle.std.proofs.Common.{◌≡◌, ℕ, ◌+◌, ◌/◌, ◌%◌, ◌<◌, Bool, true, false, ◌==◌, if◌then◌else◌, eqb-true, eq-eqb}
use Rattle.std.proofs.Common.{List, [], ◌∷◌, ◌++◌, slice_set, slice_index_or, Option, Some, None, Result, Ok, Err, refl}
use Rattle.std.{proofs.{Common.{sym, ap, ◌∙◌, subst}, lemmas.List.set-get_or}, specs.List.AllByRecursion}
use Rattle.mm_word.specs.declared.{perm.Perm.{Perm, TheVariants.{Ro, Rw, Xu, Xp, Eu, Ep, Key}}, cause.Cause.Cause}
use Rattle.mm_word.specs.{declared.word.Word.{Word, TheVariants.{Int, Ptr}}, Perm.{can_fetch, can_move}}
use Rattle.mm_word.specs.{Pointer.{Pointer, IsBelow}, Word.{IsWord, word_bits, is_pointer}}
use Rattle.mm_isa.specs.declared.instr.AluOp.{AluOp}
use Rattle.mm_isa.specs.declared.instr.AluOp.TheVariants.{Add, Sub, Mul, Divu, Remu, And, Or, Xor, Shl, Shr, Sar, Eq}
use Rattle.mm_isa.specs.declared.instr.{AluOp.TheVariants.{Ltu, Lts}, DivZero.DivZero, Instr.Instr}
use Rattle.mm_isa.specs.Alu.{alu_result, divides, div_zero}
use Rattle.mm_model.specs.{declared.slot.SlotState.TheVariants.Running, Memory.Memory, Slot.{Slot, register, is_empty}}
use Rattle.mm_model.specs.{State.{Core, slot_at}, Image.Image, Fits.{Matches, identity_of}}
use Rattle.mm_model.specs.Effect.{Effect, advanced, runs_past, plain, sets, sets_pointer, sets_number, if_pointer, test}
use Rattle.mm_model.specs.{Effect.Effect.{Fault, Block, Deliver, Do}, Turn.slot_after}
use Rattle.mm_kernel.specs.{Segments.{Segment, meets, is_inside, runs_privileged}, Derived.has_segment}
use Rattle.mm_kernel.specs.declared.form.Form.{Form}
use Rattle.mm_kernel.specs.declared.form.Form.TheVariants.{Number, Pointer as Exactly, Integer, Open, Any, Inside}
use Rattle.mm_kernel.specs.{declared.{outcome.Outcome.Outcome, thread.Thread.Thread}, Forms.{exact_bits, around}}
use Rattle.mm_kernel.specs.{Threads.{form_in, with_form, stepped}, Operations.alu_form}
use Rattle.mm_kernel.proofs.{Owns.{Mode, World, party}, Shares.around_has, Results.{has_below, owes_any}}
use Rattle.mm_kernel.proofs.Values.{Clean, clean_below, Holds, Fits, fits_number, fits_integer, Moved}
use Rattle.mm_kernel.proofs.{Ups.{Next, Follows}, Anyone.advanced_below, Slots.Held}
use Rattle.mm_kernel.proofs.Slots.{Sound, sound_at, Match, match_write, match_at, Came, came_like, RunningOk, SlotOk}
use Rattle.mm_kernel.proofs.Cores.{RowsOk, MemOk, ChangeOk}
use Rattle.mm_kernel.proofs.Results.{exact_bits_is, alu_fits, open_moved, any_moved, inside_moved, around_moved}
use Rattle.mm_isa.specs.declared.instr.Instr.TheVariants as instr
use Rattle.mm_kernel.specs.declared.outcome.Outcome.TheVariants as outcome
use Rattle.mm_kernel.specs.Turns as kernel

-- what is known of a form: a part lies in the kept segments
abbrev pub WholeForm : List Segment → Form → Type 0
WholeForm kept (Exactly p) = has_segment p.perm ≡ true → meets kept p ≡ true → is_inside kept p ≡ true
WholeForm kept (Inside p) = is_inside kept p ≡ true
WholeForm kept f = Unit {0}

-- a machine whose slots and cells are as they must be
pub record Machine (i : Image) (kept : List Segment) (wd : World i kept) (core : Core) (m : Memory) : Type 0 where
  pub rows : RowsOk i kept wd core
  pub cells : MemOk i kept wd m
  pub sound : (n : ℕ) (of : Slot) → slot_at core n ≡ Some of → Sound of
  pub mode : core.split ≡ false → (n : ℕ) (of : Slot) (r : ℕ) → slot_at core n ≡ Some of → is_empty of r ≡ false
  pub runs : (n : ℕ) (of : Slot) → slot_at core n ≡ Some of → can_fetch of.ip.perm ≡ true
  pub words : (n : ℕ) (of : Slot) (r : ℕ) → slot_at core n ≡ Some of → IsWord (register of r)
  pub matched : Matches core

-- a running slot for which a thread stands
pub record Acts (i : Image) (kept : List Segment) (wd : World i kept) (md : Mode) (core : Core) (s : Slot) (t : Thread) : Type 0 where
  pub at : slot_at core s.number ≡ Some s
  pub came : Came i kept wd s
  pub next : Next i kept wd md t
  pub matches : Match i kept wd md t s
  pub whole : (r : ℕ) → WholeForm kept (form_in t r)

-- a register that an instruction names: one of sixteen, and it waits for nothing
pub record Ready (s : Slot) (r : ℕ) : Type 0 where
  pub small : r < 16
  pub free : is_empty s r ≡ false

pub alu_err : (op : AluOp) (a b : ℕ) (e : DivZero) → alu_result op a b ≡ Err e → (divides op ≡ true) × (b ≡ 0)
alu_err Divu a b e r = by (b == 0) refl r
  where
    by : (z : Bool) → (b == 0) ≡ z → (if z then Err div_zero else Ok (a / b)) ≡ Err e → (true ≡ true) × (b ≡ 0)
    by true at k = (refl, eqb-true b 0 at)
    by false at k = cc
alu_err Remu a b e r = by (b == 0) refl r
  where
    by : (z : Bool) → (b == 0) ≡ z → (if z then Err div_zero else Ok (a % b)) ≡ Err e → (true ≡ true) × (b ≡ 0)
    by true at k = (refl, eqb-true b 0 at)
    by false at k = cc
alu_err Add a b e r = cc
alu_err Sub a b e r = cc
alu_err Mul a b e r = cc
alu_err And a b e r = cc
alu_err Or a b e r = cc
alu_err Xor a b e r = cc
alu_err Shl a b e r = cc
alu_err Shr a b e r = cc
alu_err Sar a b e r = cc
alu_err Eq a b e r = cc
alu_err Ltu a b e r = cc
alu_err Lts a b e r = cc

pub alu_some : (op : AluOp) (a b x : ℕ) → alu_result op a b ≡ Ok x → divides op ≡ true → (b == 0) ≡ false
alu_some Divu a b x r d = by (b == 0) r
  where
    by : (z : Bool) → (if z then Err div_zero else Ok (a / b)) ≡ Ok x → z ≡ false
    by true k = cc
    by false k = refl
alu_some Remu a b x r d = by (b == 0) r
  where
    by : (z : Bool) → (if z then Err div_zero else Ok (a % b)) ≡ Ok x → z ≡ false
    by true k = cc
    by false k = refl
alu_some Add a b x r d = cc
alu_some Sub a b x r d = cc
alu_some Mul a b x r d = cc
alu_some And a b x r d = cc
alu_some Or a b x r d = cc
alu_some Xor a b x r d = cc
alu_some Shl a b x r d = cc
alu_some Shr a b x r d = cc
alu_some Sar a b x r d = cc
alu_some Eq a b x r d = cc
alu_some Ltu a b x r d = cc
alu_some Lts a b x r d = cc

module _ (i : Image) (kept : List Segment) (wd : World i kept) (md : Mode) (core : Core) (m : Memory) (k : Machine i kept wd core m) (s : Slot) (t : Thread) (a : Acts i kept wd md core s t) where
  abbrev pub All : List Outcome → Type 0
  All os = AllByRecursion (Follows i kept wd md t) os

  -- what an effect has to be
  abbrev pub EffectOk : Instr → Effect → Type 0
  EffectOk x (Fault c) = Follows i kept wd md t (kernel.fault t x)
  EffectOk x Block = Unit {0}
  EffectOk x (Deliver o) = SlotOk i kept wd o
  EffectOk x (Do c) = ChangeOk i kept wd m s c

  pub sound : Sound s
  sound = k.sound s.number s a.at

  pub reg : (r : ℕ) → Ready s r → Fits i kept (Held i kept wd md t s) (form_in t r) (register s r)
  reg r h = a.matches.registers r h.free

  pub word : (r : ℕ) → IsWord (register s r)
  word r = k.words s.number s r a.at

  abbrev pub next_slot : Slot
  next_slot = record s { ip = advanced s.ip; past = runs_past s.ip; turns = s.turns + 1; state = Running }

  -- a pointer below that by which it runs
  pub ip_below : (q : Pointer) → IsBelow q s.ip → Held i kept wd md t s (Exactly q) q
  ip_below q b = has_below i kept wd (party md t.origin s.group) md (Exactly s.ip) (Exactly q) s.ip q (λ e. e) b a.matches.mine

  pub next_match : Match i kept wd md (stepped t) next_slot
  unfolding stepped
  next_match =
      match_at i kept wd md t s (advanced t.ip) (advanced s.ip) (runs_past t.ip) (runs_past s.ip) (s.turns + 1) Running a.matches (ap advanced a.matches.ip) (ap runs_past a.matches.ip)
      (clean_below i (advanced s.ip) s.ip (advanced_below s.ip) a.matches.clean) (ip_below (advanced s.ip) (advanced_below s.ip))

  pub next_sound : Sound next_slot
  next_sound = sound_at s (advanced s.ip) (runs_past s.ip) (s.turns + 1) Running sound

  pub next_free : (r : ℕ) → Ready s r → is_empty next_slot r ≡ false
  unfolding is_empty
  next_free r h = h.free

  pub runs_on : (t' : Thread) (s' : Slot) → identity_of s ≡ identity_of s' → Next i kept wd md t' → Match i kept wd md t' s' → RunningOk i kept wd s'
  runs_on t' s' e up match = record { came = came_like i kept wd s s' e a.came; mode = md; thread = t'; next = up; matches = match }

  pub steps_on : Next i kept wd md (stepped t) → RunningOk i kept wd next_slot
  steps_on up = runs_on (stepped t) next_slot refl up next_match

  pub writes_on : (rd : ℕ) (f : Form) (w : Word) → Ready s rd → Next i kept wd md (with_form (stepped t) rd f) → Fits i kept (Held i kept wd md t s) f w → RunningOk i kept wd (record next_slot { regs = slice_set s.regs rd w })
  unfolding stepped
  writes_on rd f w h up fits =
      runs_on (with_form (stepped t) rd f) (record next_slot { regs = slice_set s.regs rd w }) refl up
      (match_write i kept wd md (stepped t) next_slot rd f w next_match next_sound h.small (next_free rd h) fits)

  -- the rows

  pub plain_ok : (x : Instr) → Follows i kept wd md t (outcome.Goes (stepped t)) → EffectOk x (Do (plain s))
  unfolding plain slot_after
  plain_ok x up = record { own = steps_on up; cell = tt; pages = refl; queue = tt; other = tt }

  pub sets_ok : (x : Instr) (rd : ℕ) (f : Form) (w : Word) → Ready s rd → Follows i kept wd md t (kernel.sets t rd f) → Fits i kept (Held i kept wd md t s) f w → EffectOk x (sets s rd w)
  unfolding plain slot_after kernel.sets
  sets_ok x rd f w h up fits = record { own = writes_on rd f w h up fits; cell = tt; pages = refl; queue = tt; other = tt }

  pub halts_ok : (x : Instr) → EffectOk x (Do (record (plain s) { next = s.ip; past = s.past; halts = true }))
  unfolding plain slot_after
  halts_ok x = record { own = tt; cell = tt; pages = refl; queue = tt; other = tt }

  -- a register keeps its word, of which more is known
  seen_ok : (rd ra : ℕ) (f : Form) (tag : ℕ) → Ready s rd → Ready s ra → Follows i kept wd md t (kernel.seen_as t rd ra f tag) → Fits i kept (Held i kept wd md t s) f (register s ra)
      → EffectOk (instr.Isptr rd ra) (sets s rd (Int tag))
  unfolding plain slot_after register is_empty stepped with_form
  seen_ok rd ra f tag hd ha up fits =
      let one = match_write i kept wd md (stepped t) next_slot ra f (register s ra) next_match next_sound ha.small (next_free ra ha) fits in
      let same : slice_set s.regs ra (slice_index_or s.regs ra (Int 0)) ≡ s.regs = set-get_or s.regs ra (Int 0) in
      let two : Match i kept wd md (with_form (stepped t) ra f) next_slot = subst (λ (regs : List Word). Match i kept wd md (with_form (stepped t) ra f) (record next_slot { regs = regs })) same one in
      record {
        own = runs_on (with_form (with_form (stepped t) ra f) rd (Number tag)) (record next_slot { regs = slice_set s.regs rd (Int tag) }) refl up
            (match_write i kept wd md (with_form (stepped t) ra f) next_slot rd (Number tag) (Int tag) two next_sound hd.small hd.free (fits_number i kept (Held i kept wd md t s) tag));
        cell = tt;
        pages = refl;
        queue = tt;
        other = tt;
      }

  pub tests_ok : (rd ra : ℕ) (f : Form) (w : Word) → Ready s rd → Ready s ra → w ≡ register s ra → Fits i kept (Held i kept wd md t s) f w → All (kernel.tests_tag t rd ra f)
      → EffectOk (instr.Isptr rd ra) (sets s rd (Int (test (is_pointer w))))
  unfolding kernel.tests_tag
  tests_ok rd ra (Number b) (Int n) hd ha e h all = sets_ok (instr.Isptr rd ra) rd (Number 0) (Int 0) hd all.0 (fits_number i kept (Held i kept wd md t s) 0)
  tests_ok rd ra (Number b) (Ptr p) hd ha e h all = let no = h.holds in cc
  tests_ok rd ra Integer (Int n) hd ha e h all = sets_ok (instr.Isptr rd ra) rd (Number 0) (Int 0) hd all.0 (fits_number i kept (Held i kept wd md t s) 0)
  tests_ok rd ra Integer (Ptr p) hd ha e h all = let no = h.holds in cc
  tests_ok rd ra (Exactly q) (Int n) hd ha e h all = let no = h.holds in cc
  tests_ok rd ra (Exactly q) (Ptr p) hd ha e h all = sets_ok (instr.Isptr rd ra) rd (Number 1) (Int 1) hd all.0 (fits_number i kept (Held i kept wd md t s) 1)
  tests_ok rd ra (Open perm) (Int n) hd ha e h all = absurd h.holds.0
  tests_ok rd ra (Open perm) (Ptr p) hd ha e h all = sets_ok (instr.Isptr rd ra) rd (Number 1) (Int 1) hd all.0 (fits_number i kept (Held i kept wd md t s) 1)
  tests_ok rd ra (Inside outer) (Int n) hd ha e h all = absurd h.holds
  tests_ok rd ra (Inside outer) (Ptr p) hd ha e h all = sets_ok (instr.Isptr rd ra) rd (Number 1) (Int 1) hd all.0 (fits_number i kept (Held i kept wd md t s) 1)
  tests_ok rd ra Any (Int n) hd ha e h all = seen_ok rd ra Integer 0 hd ha all.0 (subst (Fits i kept (Held i kept wd md t s) Integer) e (fits_integer i kept (Held i kept wd md t s) n))
  tests_ok rd ra Any (Ptr p) hd ha e h all = by p.perm refl
    where
      fits : (perm : Perm) → p.perm ≡ perm → Fits i kept (Held i kept wd md t s) (Open perm) (register s ra)
      fits perm is = subst (Fits i kept (Held i kept wd md t s) (Open perm)) e (record { holds = (is, h.holds); clean = h.clean; mine = λ o. h.mine (owes_any md) })

      by : (perm : Perm) → p.perm ≡ perm → EffectOk (instr.Isptr rd ra) (sets s rd (Int 1))
      by Ro is = seen_ok rd ra (Open Ro) 1 hd ha all.1.0 (fits Ro is)
      by Rw is = seen_ok rd ra (Open Rw) 1 hd ha all.1.1.0 (fits Rw is)
      by Xu is = seen_ok rd ra (Open Xu) 1 hd ha all.1.1.1.0 (fits Xu is)
      by Eu is = seen_ok rd ra (Open Eu) 1 hd ha all.1.1.1.1.0 (fits Eu is)
      by Key is = seen_ok rd ra (Open Key) 1 hd ha all.1.1.1.1.1.0 (fits Key is)
      by Xp is = let no = h.clean.user in absurd (cc (ap runs_privileged is))
      by Ep is = let no = h.clean.user in absurd (cc (ap runs_privileged is))

  -- arithmetic

  pub computes_ok : (x : Instr) (op : AluOp) (rd : ℕ) (f g : Form) (v w : Word) → Ready s rd → IsWord v → Holds i kept f v → Holds i kept g w
      → All (kernel.computes t x (divides op) rd (alu_form op f g) (exact_bits g)) → EffectOk x (sets_number s rd (alu_result op (word_bits v) (word_bits w)))
  computes_ok x op rd f g v w hd ok hf hg all = by (alu_result op (word_bits v) (word_bits w)) refl
    where
      faults : (b : Bool) (o : Option ℕ) → b ≡ true → ((n : ℕ) → o ≡ Some n → n ≡ 0) → All (kernel.computes t x b rd (alu_form op f g) o) → Follows i kept wd md t (kernel.fault t x)
      faults false o e z h = cc
      faults true None e z h = h.0
      faults true (Some n) e z h = faulty (n == 0) (eq-eqb n 0 (z n refl)) h
        where
          faulty : (b : Bool) → b ≡ true → All ((if b then kernel.fault t x ∷ [] else []) ++ (if b then [] else kernel.sets t rd (alu_form op f g) ∷ [])) → Follows i kept wd md t (kernel.fault t x)
          faulty true e h = h.0
          faulty false e h = cc

      does : (b : Bool) (o : Option ℕ) → (b ≡ true → (n : ℕ) → o ≡ Some n → (n == 0) ≡ false) → All (kernel.computes t x b rd (alu_form op f g) o)
          → Follows i kept wd md t (kernel.sets t rd (alu_form op f g))
      does false o z h = h.0
      does true None z h = h.1.0
      does true (Some n) z h = doing (n == 0) (z refl n refl) h
        where
          doing : (b : Bool) → b ≡ false → All ((if b then kernel.fault t x ∷ [] else []) ++ (if b then [] else kernel.sets t rd (alu_form op f g) ∷ []))
              → Follows i kept wd md t (kernel.sets t rd (alu_form op f g))
          doing true e h = cc
          doing false e h = h.0

      by : (r : Result ℕ DivZero) → alu_result op (word_bits v) (word_bits w) ≡ r → EffectOk x (sets_number s rd r)
      by (Ok n) e =
          sets_ok x rd (alu_form op f g) (Int n) hd
          (does (divides op) (exact_bits g) (λ d b is. ap (λ z. z == 0) (exact_bits_is i kept g w hg b is) ∙ alu_some op (word_bits v) (word_bits w) n e d) all)
          (alu_fits i kept (Held i kept wd md t s) op f g v w n ok hf hg e)
      by (Err d) e =
          let both = alu_err op (word_bits v) (word_bits w) d e in
          faults (divides op) (exact_bits g) both.0 (λ b is. exact_bits_is i kept g w hg b is ∙ both.1) all

  -- pointers

  pub moves_ok : (x : Instr) (rd ra : ℕ) (f : Form) (w : Word) (o : Option ℕ) (n : ℕ) (by : Pointer → ℕ → Result Pointer Cause) → Ready s rd → Ready s ra → f ≡ form_in t ra → Fits i kept (Held i kept wd md t s) f w → ((b : ℕ) → o ≡ Some b → b ≡ n)
      → ((p q : Pointer) → by p n ≡ Ok q → Moved q p) → All (kernel.moves kept t x rd f o by) → EffectOk x (if_pointer w (λ p. sets_pointer s rd (by p n)))
  unfolding kernel.moves
  moves_ok x rd ra (Number b) (Int c) o n by hd ha at h ex mv all = all.0
  moves_ok x rd ra (Number b) (Ptr p) o n by hd ha at h ex mv all = let no = h.holds in cc
  moves_ok x rd ra Integer (Int c) o n by hd ha at h ex mv all = all.0
  moves_ok x rd ra Integer (Ptr p) o n by hd ha at h ex mv all = let no = h.holds in cc
  moves_ok x rd ra Any (Int c) o n by hd ha at h ex mv all = all.0
  moves_ok x rd ra Any (Ptr p) o n by hd ha at h ex mv all = go (by p n) refl
    where
      go : (r : Result Pointer Cause) → by p n ≡ r → EffectOk x (sets_pointer s rd r)
      go (Ok q) e = sets_ok x rd Any (Ptr q) hd all.1.0 (any_moved i kept wd (party md t.origin s.group) md q p (mv p q e) h)
      go (Err c) e = all.0
  moves_ok x rd ra (Open perm) (Int c) o n by hd ha at h ex mv all = absurd h.holds.0
  moves_ok x rd ra (Open perm) (Ptr p) o n by hd ha at h ex mv all = go (by p n) refl
    where
      faulty : (b : Bool) → All (if b then kernel.fault t x ∷ kernel.sets t rd (Open perm) ∷ [] else kernel.fault t x ∷ []) → Follows i kept wd md t (kernel.fault t x)
      faulty true h = h.0
      faulty false h = h.0

      go : (r : Result Pointer Cause) → by p n ≡ r → EffectOk x (sets_pointer s rd r)
      go (Ok q) e =
          let v = mv p q e in
          let yes : can_move perm ≡ true = ap can_move (sym h.holds.0) ∙ v.movable in
          let al : All (kernel.fault t x ∷ kernel.sets t rd (Open perm) ∷ []) = subst (λ b. All (if b then kernel.fault t x ∷ kernel.sets t rd (Open perm) ∷ [] else kernel.fault t x ∷ [])) yes all in
          sets_ok x rd (Open perm) (Ptr q) hd al.1.0 (open_moved i kept wd (party md t.origin s.group) md perm q p v h)
      go (Err c) e = faulty (can_move perm) all
  moves_ok x rd ra (Inside outer) (Int c) o n by hd ha at h ex mv all = absurd h.holds
  moves_ok x rd ra (Inside outer) (Ptr p) o n by hd ha at h ex mv all = go (by p n) refl
    where
      faulty : (b : Bool) → All (if b then kernel.fault t x ∷ kernel.sets t rd (Inside outer) ∷ [] else kernel.fault t x ∷ []) → Follows i kept wd md t (kernel.fault t x)
      faulty true h = h.0
      faulty false h = h.0

      go : (r : Result Pointer Cause) → by p n ≡ r → EffectOk x (sets_pointer s rd r)
      go (Ok q) e =
          let v = mv p q e in
          let yes : can_move outer.perm ≡ true = ap can_move (sym h.holds.perm) ∙ v.movable in
          let al : All (kernel.fault t x ∷ kernel.sets t rd (Inside outer) ∷ []) = subst
          (λ b. All (if b then kernel.fault t x ∷ kernel.sets t rd (Inside outer) ∷ [] else kernel.fault t x ∷ [])) yes all in
          sets_ok x rd (Inside outer) (Ptr q) hd al.1.0 (inside_moved i kept wd (party md t.origin s.group) md outer q p v h)
      go (Err c) e = faulty (can_move outer.perm) all
  moves_ok x rd ra (Exactly p) (Int c) o n by hd ha at h ex mv all = let no = h.holds in cc
  moves_ok x rd ra (Exactly p) (Ptr p') None n by hd ha at h ex mv all =
      subst (λ (y : Pointer). EffectOk x (sets_pointer s rd (by y n))) (sym same) (go (by p n) refl)
    where
      same : p' ≡ p
      same = let held : Ptr p' ≡ Ptr p = h.holds in cc

      faulty : (b : Bool) → All (if b then kernel.fault t x ∷ kernel.sets t rd (around kept p) ∷ [] else kernel.fault t x ∷ []) → Follows i kept wd md t (kernel.fault t x)
      faulty true h = h.0
      faulty false h = h.0

      go : (r : Result Pointer Cause) → by p n ≡ r → EffectOk x (sets_pointer s rd r)
      go (Ok q) e =
          let v = mv p q e in
          let al : All (kernel.fault t x ∷ kernel.sets t rd (around kept p) ∷ []) = subst
          (λ b. All (if b then kernel.fault t x ∷ kernel.sets t rd (around kept p) ∷ [] else kernel.fault t x ∷ [])) v.movable all in
          sets_ok x rd (around kept p) (Ptr q) hd al.1.0
          (around_moved i kept wd (party md t.origin s.group) md q p v (subst (Clean i) same h.clean)
          (around_has i kept wd md t s ra p a.matches a.next ha.small (sym at) (subst (λ (y : Pointer). Fits i kept (Held i kept wd md t s) (Exactly p) (Ptr y)) same h)))
      go (Err c) e = faulty (can_move p.perm) all
  moves_ok x rd ra (Exactly p) (Ptr p') (Some b) n by hd ha at h ex mv all =
      subst (λ (y : Pointer). EffectOk x (sets_pointer s rd (by y n))) (sym same) (go (by p n) refl)
    where
      same : p' ≡ p
      same = let held : Ptr p' ≡ Ptr p = h.holds in cc

      known : All (kernel.moved t x rd (by p n))
      known = subst (λ c. All (kernel.moved t x rd (by p c))) (ex b refl) all

      go : (r : Result Pointer Cause) → by p n ≡ r → EffectOk x (sets_pointer s rd r)
      go (Ok q) e =
          let al : All (kernel.moved t x rd (Ok q)) = subst (λ r. All (kernel.moved t x rd r)) e known in
          sets_ok x rd (Exactly q) (Ptr q) hd al.0
          (record {
            holds = refl;
            clean = clean_below i q p (mv p q e).below (subst (Clean i) same h.clean);
            mine = has_below i kept wd (party md t.origin s.group) md (Exactly p) (Exactly q) p q (λ e. e) (mv p q e).below (subst (Held i kept wd md t s (Exactly p)) same h.mine);
          })
      go (Err c) e = let al : All (kernel.moved t x rd (Err c)) = subst (λ r. All (kernel.moved t x rd r)) e known in al.0
