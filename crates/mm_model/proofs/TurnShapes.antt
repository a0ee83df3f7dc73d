-- The shapes that a turn can have, each with its instruction and the uses that it makes.
use Rattle.std.proofs.Common.{◌≡◌, ℕ, ◌-◌, ◌≤◌, Bool, true, false, ◌&&◌, nat_le, if◌then◌else◌, pos, List, [], ◌∷◌}
use Rattle.std.proofs.Common.{Option, Some, None, Result, Ok, Err, refl, sym, ap, subst, ◌∙◌, arith, leb-true}
use Rattle.std.{proofs.Common.leb-false, specs.Prelude.{IfSome, slice_get, option_map}}
use Rattle.mm_word.specs.declared.perm.Kind.TheVariants.{Fetch}
use Rattle.mm_word.specs.declared.cause.Cause.{Cause, TheVariants.{Bounds, NoPage, Illegal}}
use Rattle.mm_word.specs.declared.word.{Word.{Word, TheVariants.{Int, Ptr}}, Cell.Cell}
use Rattle.mm_word.specs.{Access.{AccessValue, check_result}, Pointer.Pointer}
use Rattle.mm_isa.{specs.{declared.instr.Instr.Instr, Table.IsInstr}, proofs.Spelling.instr_of-spelled}
use Rattle.mm_model.specs.{declared.slot.Pending.Pending, Memory.{Memory, cell_at}, Uses.{Use, Accessed}, Slot.Slot}
use Rattle.mm_model.specs.{State.{Core, slot_at}, Operands.lacks, Effect.delivered}
use Rattle.mm_model.specs.Turn.{Turned, faulted, blocked, executed, issued, decoded, instr_in, fetched, aimed, started}
use Rattle.mm_model.specs.Turn.{idle, arrives, port_of, taken_by_port, taken_by, is_running, turn}
use Rattle.mm_model.{specs.Outcomes.{Runs, IsPort}, proofs.CoreRows.slot_at-number}

-- 1. The instruction that a turn fetches.

-- the access that fetches the slot's instruction
abbrev pub Fetches : Slot → AccessValue → Type 0
Fetches s f = check_result (Ptr s.ip) (pos 0) Fetch ≡ Ok f

-- it finds a cell whose word is this instruction, whose fields are in range
pub record Decodes (m : Memory) (f : AccessValue) (i : Instr) : Type 0 where
  pub cell : Cell
  pub found : cell_at m f.addr ≡ Some cell
  pub spelled : instr_in cell.word ≡ Some i
  pub whole : IsInstr i

spelled_instr : (w : Word) (i : Instr) → instr_in w ≡ Some i → IsInstr i
spelled_instr (Int bits) i is = (instr_of-spelled bits i is).0
spelled_instr (Ptr p) i is = cc

-- the uses of a fetch: none if there is no access
abbrev pub fetch_uses : Option AccessValue → Bool → List Use
fetch_uses None done = []
fetch_uses (Some f) done = Accessed f.kind f.addr done done ∷ []

abbrev pub fetch_use : AccessValue → Use
fetch_use f = Accessed f.kind f.addr true true

-- 2. The turns of two slots that run and fetch the same.

pub record FetchAlike (core core' : Core) (m m' : Memory) (s s' : Slot) : Type 0 where
  pub past : s.past ≡ s'.past
  pub ip : s.ip ≡ s'.ip
  pub cells : (f : AccessValue) → Fetches s f → cell_at m f.addr ≡ cell_at m' f.addr
  pub lacking : (i : Instr) → (core.split && lacks i s) ≡ (core'.split && lacks i s')

-- what is to be shown of two such turns
pub record StartCases (core core' : Core) (m m' : Memory) (s s' : Slot) (R : Turned → Turned → Type 0) : Type 0 where
  -- the turn faults before there is an instruction: there is no access, or one that finds no page or no instruction
  pub faults : (c : Cause) (f : Option AccessValue) (done : Bool) → IfSome f (Fetches s)
      → R (faulted core m s c (Int 0) (Int 0) f None (fetch_uses f done)) (faulted core' m' s' c (Int 0) (Int 0) f None (fetch_uses f done))
  -- the instruction needs a register that waits for a load
  pub lacks_register : (f : AccessValue) (i : Instr) → Fetches s f → Decodes m f i → (core.split && lacks i s) ≡ true
      → R (blocked core m (delivered s) f None (fetch_use f ∷ [])) (blocked core' m' (delivered s') f None (fetch_use f ∷ []))
  -- the instruction is executed
  pub carries_out : (f : AccessValue) (i : Instr) → Fetches s f → Decodes m f i → (core.split && lacks i s) ≡ false
      → R (executed core m s f (fetch_use f) i) (executed core' m' s' f (fetch_use f) i)

module _ (core core' : Core) (m m' : Memory) (s s' : Slot) (h : FetchAlike core core' m m' s s') (R : Turned → Turned → Type 0) (k : StartCases core core' m m' s s' R) where
  issued_by : (f : AccessValue) (i : Instr) → Fetches s f → Decodes m f i → R (issued core m s f (fetch_use f) i) (issued core' m' s' f (fetch_use f) i)
  unfolding issued
  issued_by f i aim is = subst (λ y. R (one (core.split && lacks i s)) (other y)) (h.lacking i) (by (core.split && lacks i s) refl)
    where
      one : Bool → Turned
      one b = if b then blocked core m (delivered s) f None (fetch_use f ∷ []) else executed core m s f (fetch_use f) i

      other : Bool → Turned
      other b = if b then blocked core' m' (delivered s') f None (fetch_use f ∷ []) else executed core' m' s' f (fetch_use f) i

      by : (b : Bool) → (core.split && lacks i s) ≡ b → R (one b) (other b)
      by true e = k.lacks_register f i aim is e
      by false e = k.carries_out f i aim is e

  decoded_by : (f : AccessValue) (c : Cell) (o : Option Instr) → Fetches s f → cell_at m f.addr ≡ Some c → instr_in c.word ≡ o
      → R (decoded core m s f (fetch_use f) o) (decoded core' m' s' f (fetch_use f) o)
  decoded_by f c None aim found is = k.faults Illegal (Some f) true aim
  decoded_by f c (Some i) aim found is = issued_by f i aim (record { cell = c; found = found; spelled = is; whole = spelled_instr c.word i is })

  fetched_by : (f : AccessValue) (o : Option Cell) → Fetches s f → cell_at m f.addr ≡ o → R (fetched core m s f o) (fetched core' m' s' f o)
  fetched_by f None aim found = k.faults NoPage (Some f) false aim
  fetched_by f (Some c) aim found = decoded_by f c (instr_in c.word) aim found refl

  aimed_by : (x : Result AccessValue Cause) → check_result (Ptr s.ip) (pos 0) Fetch ≡ x → R (aimed core m s x) (aimed core' m' s' x)
  aimed_by (Err c) aim = k.faults c None false tt
  aimed_by (Ok f) aim = subst (λ o. R (fetched core m s f (cell_at m f.addr)) (fetched core' m' s' f o)) (h.cells f aim) (fetched_by f (cell_at m f.addr) aim refl)

  -- two such turns have the same shape
  pub started_by : R (started core m s) (started core' m' s')
  unfolding started
  started_by = subst (λ x. R (one s.past) (other s'.past x)) (ap found h.ip) (subst (λ b. R (one s.past) (other b (found s.ip))) h.past (by s.past))
    where
      found : Pointer → Result AccessValue Cause
      found p = check_result (Ptr p) (pos 0) Fetch

      one : Bool → Turned
      one b = if b then faulted core m s Bounds (Int 0) (Int 0) None None [] else aimed core m s (found s.ip)

      other : Bool → Result AccessValue Cause → Turned
      other b x = if b then faulted core' m' s' Bounds (Int 0) (Int 0) None None [] else aimed core' m' s' x

      by : (b : Bool) → R (one b) (other b (found s.ip))
      by true = k.faults Bounds None false tt
      by false = aimed_by (found s.ip) refl

-- the turn of one slot that runs
pub started_one : (core : Core) (m : Memory) (s : Slot) (P : Turned → Type 0) → StartCases core core m m s s (λ t u. P t) → P (started core m s)
started_one core m s P k = started_by core core m m s s (record { past = refl; ip = refl; cells = λ f aim. refl; lacking = λ i. refl }) (λ t u. P t) k

-- 3. The turns of an item in two machines.

-- the item names a slot in one and what g makes of it in the other, or the port of one, or nothing in both
pub record ItemAlike (core core' : Core) (n : ℕ) (g : Slot → Slot) : Type 0 where
  pub slots : slot_at core' n ≡ option_map g (slot_at core n)
  pub ports : slot_at core n ≡ None → port_of core' n ≡ option_map g (port_of core n)
  pub number : (s : Slot) → s.number ≡ (g s).number
  pub state : (s : Slot) → s.state ≡ (g s).state
  pub pending : (s : Slot) → s.pending ≡ (g s).pending

-- the item is the number of no slot that runs and, if it is that of no slot, not the port of one with a pending load
pub record NamesNone (core : Core) (n : ℕ) : Type 0 where
  pub no_slot : (s : Slot) → ¬ (Runs core n s)
  pub no_port : slot_at core n ≡ None → (s : Slot) (p : Pending) → ¬ (IsPort core n s p)

-- what is to be shown of two such turns
pub record ItemCases (core core' : Core) (m m' : Memory) (n : ℕ) (g : Slot → Slot) (R : Turned → Turned → Type 0) : Type 0 where
  -- nothing happens
  pub idles : (k : ℕ) → NamesNone core n → R (idle core m k) (idle core' m' k)
  -- a port delivers a load
  pub arrives_at : (s : Slot) (p : Pending) (rest : List Pending) → slot_at core n ≡ None → IsPort core n s p → s.pending ≡ p ∷ rest
      → R (arrives core m s (p ∷ rest)) (arrives core' m' (g s) (p ∷ rest))
  -- a slot runs
  pub starts : (s : Slot) → Runs core n s → slot_at core s.number ≡ Some s → R (started core m s) (started core' m' (g s))

-- two numbers that are the same have one slot
pub same_slot : (core : Core) (n k : ℕ) (s t : Slot) → slot_at core n ≡ Some s → slot_at core k ≡ Some t → n ≡ k → s ≡ t
same_slot core n k s t a b e =
    let two : ◌≡◌ {A = Option Slot} (Some s) (Some t) = sym a ∙ ap (slot_at core) e ∙ b in
    cc

module _ (core core' : Core) (m m' : Memory) (n : ℕ) (g : Slot → Slot) (h : ItemAlike core core' n g) (R : Turned → Turned → Type 0) (k : ItemCases core core' m m' n g R) where
  own_at : (j : ℕ) (s : Slot) → slot_at core j ≡ Some s → slot_at core s.number ≡ Some s
  own_at j s at = ap (slot_at core) (slot_at-number core j s at) ∙ at

  module _ (free : slot_at core n ≡ None) where
    idle_by : (j : ℕ) → ((s : Slot) (p : Pending) → ¬ (IsPort core n s p)) → R (idle core m j) (idle core' m' j)
    idle_by j none = k.idles j (record { no_slot = λ s r. cc (free, r.at); no_port = λ e. none })

    arrives_by : core.split ≡ true → 128 ≤ n → (s : Slot) (ps : List Pending) → slot_at core (n - 128) ≡ Some s → s.pending ≡ ps → R (arrives core m s ps) (arrives core' m' (g s) ps)
    arrives_by split le s [] at is =
        subst (λ j. R (idle core m s.number) (idle core' m' j)) (h.number s)
        (idle_by s.number (λ t p port.
        let number = port.number in
        let same = same_slot core t.number (n - 128) t s port.at at (omega arith) in
        let none : slice_get t.pending 0 ≡ None = ap (λ (x : Slot). slice_get x.pending 0) same ∙ ap (λ ps. slice_get ps 0) is in
        cc (none, port.oldest)))
    arrives_by split le s (p ∷ rest) at is =
        let number = slot_at-number core (n - 128) s at in
        k.arrives_at s p rest free (record { split = split; number = omega arith; at = own_at (n - 128) s at; oldest = ap (λ ps. slice_get ps 0) is }) is

    port_by : (a b : Bool) → core.split ≡ a → nat_le 128 n ≡ b
        → R (taken_by_port core m n (if a && b then slot_at core (n - 128) else None)) (taken_by_port core' m' n (option_map g (if a && b then slot_at core (n - 128) else None)))
    port_by false b split le = idle_by n (λ s p port. cc (split, port.split))
    port_by true false split le = idle_by n (λ s p port. let lt = leb-false 128 n le in let number = port.number in omega arith)
    port_by true true split le = by (slot_at core (n - 128)) refl
      where
        by : (o : Option Slot) → slot_at core (n - 128) ≡ o → R (taken_by_port core m n o) (taken_by_port core' m' n (option_map g o))
        by None is = idle_by n (λ s p port. let number = port.number in cc (ap (slot_at core) (let e : s.number ≡ n - 128 = omega arith in e), is, port.at))
        by (Some s) is = subst (λ ps. R (arrives core m s s.pending) (arrives core' m' (g s) ps)) (h.pending s) (arrives_by split (leb-true 128 n le) s s.pending is refl)

  -- two such turns have the same shape
  pub turn_both : R (turn core m n) (turn core' m' n)
  unfolding turn
  turn_both = subst (λ o. R (taken_by core m n (slot_at core n)) (taken_by core' m' n o)) (sym h.slots) (by (slot_at core n) refl)
    where
      runs : (s : Slot) → slot_at core n ≡ Some s → (b : Bool) → is_running s.state ≡ b → R (if b then started core m s else idle core m n) (if b then started core' m' (g s) else idle core' m' n)
      runs s is true running = k.starts s (record { at = is; running = running }) (own_at n s is)
      runs s is false running =
          k.idles n (record {
            no_slot = λ t r. let same = same_slot core n n s t is r.at refl in cc (ap (λ (x : Slot). is_running x.state) same, running, r.running);
            no_port = λ free. cc (free, is);
          })

      by : (o : Option Slot) → slot_at core n ≡ o → R (taken_by core m n o) (taken_by core' m' n (option_map g o))
      by None is = subst (λ o. R (taken_by_port core m n (port_of core n)) (taken_by_port core' m' n o)) (sym (h.ports is)) (port_by is core.split (nat_le 128 n) refl refl)
      by (Some s) is =
          subst (λ x. R (if is_running s.state then started core m s else idle core m n) (if is_running x then started core' m' (g s) else idle core' m' n)) (h.state s)
          (runs s is (is_running s.state) refl)

-- 4. One turn.

abbrev pub TurnCases : Core → Memory → ℕ → (Turned → Type 0) → Type 0
TurnCases core m n P = ItemCases core core m m n (λ s. s) (λ t u. P t)

pub same_option : (o : Option Slot) → o ≡ option_map (λ s. s) o
same_option None = refl
same_option (Some s) = refl

-- each turn has one of these shapes
pub turn_by : (core : Core) (m : Memory) (n : ℕ) (P : Turned → Type 0) → TurnCases core m n P → P (turn core m n)
turn_by core m n P k =
    turn_both core core m m n (λ s. s)
    (record { slots = same_option (slot_at core n); ports = λ free. same_option (port_of core n); number = λ s. refl; state = λ s. refl; pending = λ s. refl }) (λ t u. P t) k

-- that of an item which names a slot that runs
pub turn_runs : (core : Core) (m : Memory) (n : ℕ) (s : Slot) → Runs core n s → turn core m n ≡ started core m s
unfolding turn
turn_runs core m n s r = ap (taken_by core m n) r.at ∙ ap (λ b. if b then started core m s else idle core m n) r.running
