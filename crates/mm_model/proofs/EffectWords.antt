-- No row of the table of instructions makes a malformed pointer or a word that does not fit.
use Rattle.std.proofs.Common.{◌≡◌, ℕ, zero, suc, ◌+◌, ◌*◌, ◌<◌, ◌≤◌, ◌^◌, ◌%◌, Bool, true, false, cond, ◌&&◌, ◌==◌}
use Rattle.std.proofs.Common.{nat_lt, if◌then◌else◌, List, [], ◌∷◌, length, Option, Some, None, Result, Ok, Err, refl}
use Rattle.std.proofs.Common.{ap, ◌∙◌, subst, arith, ltb-true, ℤ, pos, negsuc, ◌*ℤ◌, ◌+ℤ◌, slice_set, slice_get}
use Rattle.std.proofs.{Common.{slice_index_or, IfOk, FitsSigned, lit<, unwrap_or}, lemmas.Int.ints}
use Rattle.std.specs.{Int.{w32, w64, cast_unsigned, cast_signed}, List.AllByRecursion, Ordering.{nat_cmp, eq_by_cmp}}
use Rattle.std.specs.FinMap.{find}
use Rattle.mm_word.specs.declared.{perm.{Perm.Perm, Kind.TheVariants.Store}, cause.Cause.Cause}
use Rattle.mm_word.specs.declared.word.{Pre.Pre, Post.Post, Word.{Word, TheVariants.{Int, Ptr}}, Cell.Cell}
use Rattle.mm_word.specs.{Access.{AccessValue, check_result}, Cause.number_of, Perm.{can_fetch, can_move}}
use Rattle.mm_word.specs.Pointer.{Pointer, IsWellFormed, moved_to, lea_result, leab_result, restrict_result}
use Rattle.mm_word.specs.Pointer.{subseg_result, setptr_result, next_result, enter_result}
use Rattle.mm_word.specs.Word.{IsWord, word_bits, is_pointer}
use Rattle.mm_word.proofs.{Packing.code_of-in_range, Below.IsBelow-well_formed}
use Rattle.mm_word.proofs.Results.{lea_result-IsBelow, leab_result-IsBelow, restrict_result-IsBelow}
use Rattle.mm_word.proofs.Results.{subseg_result-IsBelow, next_result-IsBelow, enter_result-well_formed}
use Rattle.mm_word.proofs.Results.{setptr_result-well_formed}
use Rattle.mm_isa.specs.declared.instr.{DivZero.DivZero, How.{How, TheVariants.{Retry, Skip, Kill}}}
use Rattle.mm_isa.specs.declared.instr.Instr.{Instr}
use Rattle.mm_isa.specs.declared.instr.Instr.TheVariants.{Halt, Nop, Ldi, Ldhi, Mov, Isptr, Eqw, Out, SelfSlot, Alu}
use Rattle.mm_isa.specs.declared.instr.Instr.TheVariants.{Addi, Lea, Leai, Leab, Restrict, Subseg, Setptr, Ld, St, Br}
use Rattle.mm_isa.specs.declared.instr.Instr.TheVariants.{Bz, Bnz, Jmp, Jal, Lip, Trap, Evt, Resume, Rreg, Wreg, Map}
use Rattle.mm_isa.specs.declared.instr.Instr.TheVariants.{Unmap}
use Rattle.mm_isa.specs.declared.operand.Operand.{Operand, TheVariants.{Imm, Distance, RegisterNumber}}
use Rattle.mm_isa.specs.{Alu.alu_result, Table.{operation_of, IsInRange, IsInstr}}
use Rattle.mm_isa.proofs.{Operands.number_fits, Packing.cast_below, Arithmetics.alu_result-fits}
use Rattle.mm_model.specs.declared.{slot.Pending.Pending, event.Event.Event}
use Rattle.mm_model.specs.Memory.{Memory, page_of, place_of, page_at, cell_in, cell_at, is_mapped, can_map, passes}
use Rattle.mm_model.specs.Slot.{Slot, register, is_empty}
use Rattle.mm_model.specs.State.{ThreadRow, Core, row_in, slot_of, queue_of, slot_at, queue_at, output_of}
use Rattle.mm_model.specs.{Image.output_limit, Spelling.HoldsWords}
use Rattle.mm_model.specs.Operands.{addr_operand, value_operand, word_a, word_b, first, field_a, field_b, imm_in}
use Rattle.mm_model.specs.Operands.{field_imm}
use Rattle.mm_model.specs.Ask.{ask, is_privileged, load_kind, reaching, Ask.{Refuse, MapPage, UnmapPage}}
use Rattle.mm_model.specs.Effect.{Reply, Change, Pages, Effect, effect, advanced, plain, moved_on, sets, sets_pointer}
use Rattle.mm_model.specs.Effect.{sets_number, if_pointer, test, same_word, high_and_low, puts_out, set_by, loaded}
use Rattle.mm_model.specs.Effect.{stored, at_distance, branches, jumps, links, takes, resumed_by, resumes, delivers}
use Rattle.mm_model.specs.Effect.{delivered, reads_of, writes_of, maps, unmaps}
use Rattle.mm_model.specs.Effect.{Reply.{Fine, Refused, Got, Paged, Took, Served}, Pages.{Keep, Add, Remove}}
use Rattle.mm_model.specs.Effect.Effect.{Fault, Block, Deliver, Do}
use Rattle.mm_model.specs.Turn.{reply, reached, event_reply, first_event, served, is_taken, is_handler}
use Rattle.mm_model.specs.Fits.{IsSlot, IsFormed, SlotHoldsWords, EventHoldsWords, RowHoldsWords}
use Rattle.mm_model.proofs.CoreRows.{each_set, slot_at-number, slot_has}
use Rattle.mm_word.specs.declared.cause.Cause.TheVariants as cause
use Rattle.mm_word.specs.declared.word.Post.TheVariants as posts

-- 1. What an effect has to be.

abbrev pub IssueWords : Option Pending → Type 0
IssueWords None = Unit {0}
IssueWords (Some p) = IsWord p.word

abbrev pub CellWords : Option (ℕ × Cell) → Type 0
CellWords None = Unit {0}
CellWords (Some w) = IsWord w.1.word

-- a page is mapped where it can be
abbrev pub PagesFit : Memory → Option (ℕ × Cell) → Pages → Type 0
PagesFit m cell Keep = Unit {0}
PagesFit m cell (Add page) = (cell ≡ None) × (can_map m page ≡ true) × (page < 2 ^ 42)
PagesFit m cell (Remove page) = Unit {0}

abbrev pub QueueWords : Option (List Event) → Type 0
QueueWords None = Unit {0}
QueueWords (Some q) = AllByRecursion EventHoldsWords q

abbrev pub OtherWords : Option Slot → Type 0
OtherWords None = Unit {0}
OtherWords (Some o) = SlotHoldsWords o

pub record ChangeWords (m : Memory) (c : Change) : Type 0 where
  pub next : IsWellFormed c.next
  pub writes : AllByRecursion (λ (w : ℕ × Word). IsWord w.1) c.writes
  pub issue : IssueWords c.issue
  pub cell : CellWords c.cell
  pub pages : PagesFit m c.cell c.pages
  pub queue : QueueWords c.queue
  pub other : OtherWords c.other

abbrev pub EffectWords : Memory → Effect → Type 0
EffectWords m (Fault c) = Unit {0}
EffectWords m Block = Unit {0}
EffectWords m (Deliver o) = SlotHoldsWords o
EffectWords m (Do c) = ChangeWords m c

-- 2. Words of slots, queues and cells.

zero_fits : IsWord (Int 0)
zero_fits = lit< tt

pub each_or : {A : Type 0} (P : A → Type 0) (xs : List A) (n : ℕ) (d : A) → AllByRecursion P xs → P d → P (slice_index_or xs n d)
each_or P [] n d h p = p
each_or P (x ∷ xs) zero d h p = h.0
each_or P (x ∷ xs) (suc n) d h p = each_or P xs n d h.1 p

each_got : {A : Type 0} (P : A → Type 0) (xs : List A) (n : ℕ) (x : A) → AllByRecursion P xs → slice_get xs n ≡ Some x → P x
each_got P [] n x h e = cc
each_got P (y ∷ xs) zero x h e = let same : y ≡ x = cc in subst P same h.0
each_got P (y ∷ xs) (suc n) x h e = each_got P xs n x h.1 e

pub register_fits : (s : Slot) (r : ℕ) → AllByRecursion IsWord s.regs → IsWord (register s r)
unfolding register
register_fits s r h = each_or IsWord s.regs r (Int 0) h zero_fits

pub bits_fit : (w : Word) → IsWord w → word_bits w < 2 ^ 64
bits_fit (Int n) h = h
bits_fit (Ptr p) h = let code = code_of-in_range p.perm in omega (arith, h.log_in_range, h.addr_in_range)

pub delivered_words : (s : Slot) → SlotHoldsWords s → SlotHoldsWords (delivered s)
unfolding delivered
delivered_words s h = by s.pending h.pending
  where
    by : (ps : List Pending) → AllByRecursion (λ (p : Pending). IsWord p.word) ps → SlotHoldsWords (delivers s ps)
    by [] k = h
    by (p ∷ rest) k = record { registers = each_set IsWord s.regs p.reg p.word h.registers k.0; ip = h.ip; pending = k.1 }

row_words : (rows : List ThreadRow) (n : ℕ) (s : Slot) → AllByRecursion RowHoldsWords rows → slot_of (row_in rows n) ≡ Some s → SlotHoldsWords s
row_words [] n s h is = cc
row_words (row ∷ rows) n s h is = by (row.slot.number == n) is h (λ k e. row_words rows n s k e)
  where
    by : (b : Bool) → slot_of (if b then Some row else row_in rows n) ≡ Some s → AllByRecursion RowHoldsWords
        (row ∷ rows) → (AllByRecursion RowHoldsWords rows → slot_of (row_in rows n) ≡ Some s → SlotHoldsWords s)
        → SlotHoldsWords s
    by true e k later = let same : row.slot ≡ s = cc in subst SlotHoldsWords same k.0.slot
    by false e k later = later k.1 e

pub slot_words : (core : Core) (n : ℕ) (s : Slot) → AllByRecursion RowHoldsWords core.rows → slot_at core n ≡ Some s → SlotHoldsWords s
unfolding slot_at
slot_words core n s h is = row_words core.rows n s h is

pub events_words : (rows : List ThreadRow) (n : ℕ) → AllByRecursion RowHoldsWords rows → AllByRecursion EventHoldsWords (queue_of (row_in rows n))
events_words [] n h = tt
events_words (row ∷ rows) n h = by (row.slot.number == n) (events_words rows n h.1)
  where
    by : (b : Bool) → AllByRecursion EventHoldsWords (queue_of (row_in rows n)) → AllByRecursion EventHoldsWords (queue_of (if b then Some row else row_in rows n))
    by true later = h.0.events
    by false later = later

pub queue_words : (core : Core) (n : ℕ) → AllByRecursion RowHoldsWords core.rows → AllByRecursion EventHoldsWords (queue_at core n)
unfolding queue_at
queue_words core n h = events_words core.rows n h

pub page_words : (es : List (ℕ × List Cell)) (q : ℕ) (cells : List Cell) → AllByRecursion HoldsWords es → find nat_cmp q es ≡ Some cells → AllByRecursion (λ (c : Cell). IsWord c.word) cells
page_words [] q cells h is = cc
page_words (e ∷ es) q cells h is = by (eq_by_cmp nat_cmp q e.0) is (λ at. page_words es q cells h.1 at)
  where
    by : (b : Bool) → cond b (Some e.1) (find nat_cmp q es) ≡ Some cells
        → (find nat_cmp q es ≡ Some cells → AllByRecursion (λ (c : Cell). IsWord c.word) cells)
        → AllByRecursion (λ (c : Cell). IsWord c.word) cells
    by true found later = let same : e.1 ≡ cells = cc in subst (AllByRecursion (λ (c : Cell). IsWord c.word)) same h.0
    by false found later = later found

pub cell_words : (m : Memory) (w : ℕ) (c : Cell) → AllByRecursion HoldsWords m.pages → cell_at m w ≡ Some c → IsWord c.word
unfolding cell_at
cell_words m w c h is = by (w % 8 == 0) is
  where
    inside : (o : Option (List Cell)) → page_at m (page_of w) ≡ o → cell_in o (place_of w) ≡ Some c → IsWord c.word
    inside None at e = cc
    inside (Some cells) at e = each_got (λ (x : Cell). IsWord x.word) cells (place_of w) c (page_words m.pages (page_of w) cells h at) e

    by : (b : Bool) → (if b then cell_in (page_at m (page_of w)) (place_of w) else None) ≡ Some c → IsWord c.word
    by true e = inside (page_at m (page_of w)) refl e
    by false e = cc

-- 3. Numbers and pointers that operations make.

imm_fits : (z : ℤ) → FitsSigned w32 z → cast_unsigned w64 z < 2 ^ 64
imm_fits (pos n) h = omega (arith, ints)
imm_fits (negsuc n) h = omega arith

high_and_low-fits : (bits : ℕ) (z : ℤ) → FitsSigned w32 z → high_and_low bits z < 2 ^ 64
high_and_low-fits bits z h = let low : cast_unsigned w32 z < 2 ^ 32 = cast_below z h in omega arith

test_fits : (b : Bool) → test b < 2 ^ 64
test_fits true = lit< tt
test_fits false = lit< tt

event_number_fits : (c : Cause) (n : ℕ) → n < 64 → number_of c + 256 * n < 2 ^ 64
event_number_fits c n h = let few = cause_few c in omega arith
  where
    cause_few : (c : Cause) → number_of c ≤ 13
    cause_few c = grind arith

pub executable_moves : (p : Perm) → can_fetch p ≡ true → can_move p ≡ true
executable_moves p e = grind arith

pub advanced_fits : (p : Pointer) → IsWellFormed p → IsWellFormed (advanced p)
unfolding advanced
advanced_fits p h = by (next_result p) refl
  where
    by : (o : Option Pointer) → next_result p ≡ o → IsWellFormed (moved_on p o)
    by None e = h
    by (Some q) e = IsBelow-well_formed p q h (next_result-IsBelow p q e)

distance_fits : (s : Slot) (imm : ℤ) (q : Pointer) → can_fetch s.ip.perm ≡ true → IsWellFormed s.ip → at_distance s imm ≡ Ok q → IsWellFormed q
distance_fits s imm q runs h e =
    let moves = executable_moves s.ip.perm runs in
    let same : lea_result s.ip (pos 8 *ℤ imm) ≡ Ok q = ap (λ b. if b then moved_to s.ip (pos s.ip.addr +ℤ (pos 8 *ℤ imm)) else Err cause.Perm) moves ∙ e in
    IsBelow-well_formed s.ip q h (lea_result-IsBelow s.ip q (pos 8 *ℤ imm) same)

-- 4. The rows.

-- the operands that a fault reports
pub addr_operand-fits : (i : Instr) (s : Slot) → AllByRecursion IsWord s.regs → IsWord (addr_operand i s)
unfolding addr_operand
addr_operand-fits i s h = by (field_a i)
  where
    by : (o : Option ℕ) → IsWord (word_a s o)
    by None = zero_fits
    by (Some r) = register_fits s r h

imm_of_operands : (os : List Operand) → AllByRecursion IsInRange os → cast_unsigned w64 (unwrap_or (first imm_in os) (pos 0)) < 2 ^ 64
imm_of_operands [] h = lit< tt
imm_of_operands (Imm n ∷ os) h = imm_fits n h.0
imm_of_operands (Distance n ∷ os) h = imm_fits n h.0
imm_of_operands (RegisterNumber r ∷ os) h = imm_fits (pos r) (number_fits r h.0)
imm_of_operands (_ ∷ os) h = imm_of_operands os h.1

pub value_operand-fits : (i : Instr) (s : Slot) → IsInstr i → AllByRecursion IsWord s.regs → IsWord (value_operand i s)
unfolding value_operand
value_operand-fits i s instr h = by (field_b i)
  where
    by : (o : Option ℕ) → IsWord (word_b s o (field_imm i))
    by None = imm_of_operands (operation_of i).operands instr.operands
    by (Some r) = register_fits s r h

module _ (core : Core) (h : IsFormed core) (rows : AllByRecursion RowHoldsWords core.rows) (m : Memory)
    (cells : AllByRecursion HoldsWords m.pages) (s : Slot) (at : slot_at core s.number ≡ Some s) where
  own_words : SlotHoldsWords s
  own_words = slot_words core s.number s rows at

  own_slot : IsSlot s
  own_slot = slot_has IsSlot core s.number s h.slots at

  reg : (r : ℕ) → IsWord (register s r)
  reg r = register_fits s r own_words.registers

  bits : (r : ℕ) → word_bits (register s r) < 2 ^ 64
  bits r = bits_fit (register s r) (reg r)

  advances : IsWellFormed (advanced s.ip)
  advances = advanced_fits s.ip own_words.ip

  plain_words : EffectWords m (Do (plain s))
  unfolding plain
  plain_words = record { next = advances; writes = tt; issue = tt; cell = tt; pages = tt; queue = tt; other = tt }

  sets_words : (rd : ℕ) (w : Word) → IsWord w → EffectWords m (sets s rd w)
  unfolding plain
  sets_words rd w fits = record { next = advances; writes = (fits, tt); issue = tt; cell = tt; pages = tt; queue = tt; other = tt }

  pointer_words : (rd : ℕ) (r : Result Pointer Cause) → ((p : Pointer) → r ≡ Ok p → IsWellFormed p) → EffectWords m (sets_pointer s rd r)
  pointer_words rd (Ok p) fits = sets_words rd (Ptr p) (fits p refl)
  pointer_words rd (Err c) fits = tt

  number_words : (rd : ℕ) (r : Result ℕ DivZero) → IfOk r (λ n. n < 2 ^ 64) → EffectWords m (sets_number s rd r)
  number_words rd (Ok n) fits = sets_words rd (Int n) fits
  number_words rd (Err e) fits = tt

  if_pointer_words : (w : Word) (f : Pointer → Effect) → IsWord w → ((p : Pointer) → IsWellFormed p → EffectWords m (f p)) → EffectWords m (if_pointer w f)
  if_pointer_words (Int b) f fits k = tt
  if_pointer_words (Ptr p) f fits k = k p fits

  if_words : (b : Bool) (x y : Effect) → EffectWords m x → EffectWords m y → EffectWords m (if b then x else y)
  if_words true x y p q = p
  if_words false x y p q = q

  out_words : (byte : ℕ) (b : Bool) → EffectWords m (puts_out s byte (if b then Fine else Refused cause.OutFull))
  unfolding plain
  out_words byte true = record { next = advances; writes = tt; issue = tt; cell = tt; pages = tt; queue = tt; other = tt }
  out_words byte false = tt

  set_words : (post : Post) (w : ℕ) (c : Cell) → IsWord c.word → CellWords (set_by post w c)
  set_words posts.Keep w c fits = tt
  set_words posts.Full w c fits = fits
  set_words posts.Empty w c fits = fits

  got_words : (split : Bool) (rd : ℕ) (post : Post) (a : AccessValue) (c : Cell) → IsWord c.word → EffectWords m (loaded split s rd post (Got a c))
  unfolding plain
  got_words false rd post a c fits = record { next = advances; writes = (fits, tt); issue = tt; cell = set_words post a.addr c fits; pages = tt; queue = tt; other = tt }
  got_words true rd post a c fits = record { next = advances; writes = (zero_fits, tt); issue = fits; cell = set_words post a.addr c fits; pages = tt; queue = tt; other = tt }

  load_words : (split : Bool) (rd : ℕ) (post : Post) (pre : Pre) (r : Result AccessValue Cause) → EffectWords m (loaded split s rd post (reply core m s.number (reaching r pre)))
  unfolding reply
  load_words split rd post pre (Err c) = tt
  load_words split rd post pre (Ok a) = by (cell_at m a.addr) refl
    where
      passed : (c : Cell) (b : Bool) → IsWord c.word → EffectWords m (loaded split s rd post (if b then Got a c else Refused cause.Sync))
      passed c true fits = got_words split rd post a c fits
      passed c false fits = tt

      by : (o : Option Cell) → cell_at m a.addr ≡ o → EffectWords m (loaded split s rd post (reached a pre o))
      by None is = tt
      by (Some c) is = passed c (passes pre c.full) (cell_words m a.addr c cells is)

  store_words : (w : Word) (post : Post) (pre : Pre) (r : Result AccessValue Cause) → IsWord w → EffectWords m (stored s w post (reply core m s.number (reaching r pre)))
  unfolding reply plain
  store_words w post pre (Err c) fits = tt
  store_words w post pre (Ok a) fits = by (cell_at m a.addr)
    where
      passed : (c : Cell) (b : Bool) → EffectWords m (stored s w post (if b then Got a c else Refused cause.Sync))
      passed c true = record { next = advances; writes = tt; issue = tt; cell = fits; pages = tt; queue = tt; other = tt }
      passed c false = tt

      by : (o : Option Cell) → EffectWords m (stored s w post (reached a pre o))
      by None = tt
      by (Some c) = passed c (passes pre c.full)

  distance_words : (imm : ℤ) (p : Pointer) → at_distance s imm ≡ Ok p → IsWellFormed p
  distance_words imm p is = distance_fits s imm p own_slot.executable own_words.ip is

  branch_words : (imm : ℤ) → EffectWords m (branches s (at_distance s imm))
  unfolding plain
  branch_words imm = by (at_distance s imm) refl
    where
      by : (r : Result Pointer Cause) → at_distance s imm ≡ r → EffectWords m (branches s r)
      by (Ok p) is = record { next = distance_words imm p is; writes = tt; issue = tt; cell = tt; pages = tt; queue = tt; other = tt }
      by (Err c) is = tt

  jump_words : (p : Pointer) (o : Option Pointer) → IsWellFormed p → enter_result p ≡ o → EffectWords m (jumps s p o)
  unfolding plain
  jump_words p None fits is = tt
  jump_words p (Some to) fits is = record { next = enter_result-well_formed p to fits is; writes = tt; issue = tt; cell = tt; pages = tt; queue = tt; other = tt }

  link_words : (rd : ℕ) (p : Pointer) (o behind : Option Pointer) → IsWellFormed p → enter_result p ≡ o → next_result s.ip ≡ behind → EffectWords m (links s rd p o behind)
  unfolding plain
  link_words rd p None behind fits is next = tt
  link_words rd p (Some to) None fits is next = tt
  link_words rd p (Some to) (Some back) fits is next =
      record {
        next = enter_result-well_formed p to fits is;
        writes = (
          IsBelow-well_formed s.ip back own_words.ip
              (next_result-IsBelow s.ip back next),
          tt,
        );
        issue = tt;
        cell = tt;
        pages = tt;
        queue = tt;
        other = tt;
      }

  took_words : (rd : ℕ) (e : Event) (rest : List Event) (of : Slot) → slot_at core e.slot ≡ Some of → EventHoldsWords e
      → AllByRecursion EventHoldsWords rest → EffectWords m (takes s rd (Took e rest of))
  unfolding plain
  took_words rd e rest of is first others =
      let old = slot_words core e.slot of rows is in
      let slot = slot_has IsSlot core e.slot of h.slots is in
      let number : number_of e.cause + 256 * e.slot < 2 ^ 64 = event_number_fits e.cause e.slot (subst (λ n. n < 64) (slot_at-number core e.slot of is) slot.number) in
      record {
        next = advances;
        writes = (number, (first.ip, (first.address, (first.value, tt))));
        issue = tt;
        cell = tt;
        pages = tt;
        queue = others;
        other = record { registers = old.registers; ip = old.ip; pending = old.pending };
      }

  event_words : (rd : ℕ) (q : List Event) → AllByRecursion EventHoldsWords q → EffectWords m (takes s rd (first_event core q))
  event_words rd [] k = tt
  event_words rd (e ∷ rest) k = by (slot_at core e.slot) refl
    where
      by : (o : Option Slot) → slot_at core e.slot ≡ o → EffectWords m (takes s rd (event_reply e rest o))
      by None is = tt
      by (Some of) is = took_words rd e rest of is k.0 k.1

  serve_words : (k : ℕ) (f : Reply → Effect) → ((c : Cause) → EffectWords m (f (Refused c)))
      → ((of : Slot) → SlotHoldsWords of → EffectWords m (f (Served of)))
      → EffectWords m (f (served s.number (slot_at core k)))
  serve_words k f refused served_words = by (slot_at core k) refl
    where
      passed : (of : Slot) (b : Bool) → slot_at core k ≡ Some of → EffectWords m (f (if b then Served of else Refused cause.NoSlot))
      passed of true is = served_words of (slot_words core k of rows is)
      passed of false is = refused cause.NoSlot

      by : (o : Option Slot) → slot_at core k ≡ o → EffectWords m (f (served s.number o))
      by None is = refused cause.NoSlot
      by (Some of) is = passed of (is_handler s.number of.handler && is_taken of.state) is

  resumed_words : (how : How) (of : Slot) → SlotHoldsWords of → SlotHoldsWords (resumed_by how of)
  resumed_words Retry of k = record { registers = k.registers; ip = k.ip; pending = k.pending }
  resumed_words Skip of k = record { registers = k.registers; ip = advanced_fits of.ip k.ip; pending = k.pending }
  resumed_words Kill of k = record { registers = k.registers; ip = k.ip; pending = k.pending }

  resume_words : (how : How) (of : Slot) → SlotHoldsWords of → EffectWords m (resumes s how (Served of))
  unfolding plain
  resume_words how of k = record { next = advances; writes = tt; issue = tt; cell = tt; pages = tt; queue = tt; other = resumed_words how of k }

  read_words : (split : Bool) (rd reg : ℕ) (of : Slot) → SlotHoldsWords of → EffectWords m (reads_of split s rd reg (Served of))
  read_words split rd reg of k = if_words (split && is_empty of reg) (Deliver (delivered of))
      (sets s rd (register of reg)) (delivered_words of k)
      (sets_words rd (register of reg) (register_fits of reg k.registers))

  write_words : (split : Bool) (reg : ℕ) (w : Word) (of : Slot) → IsWord w → SlotHoldsWords of → EffectWords m (writes_of split s reg w (Served of))
  unfolding plain
  write_words split reg w of fits k =
      if_words (split && is_empty of reg) (Deliver (delivered of)) (Do (record (plain s) { other = Some (record of { regs = slice_set of.regs reg w }) })) (delivered_words of k)
      (record {
        next = advances;
        writes = tt;
        issue = tt;
        cell = tt;
        pages = tt;
        queue = tt;
        other = record { registers = each_set IsWord of.regs reg w k.registers fits; ip = k.ip; pending = k.pending };
      })

  one_fits : IsWord (Int 1)
  one_fits = lit< tt

  map_words : (rd page : ℕ) (b c : Bool) → nat_lt page (2 ^ 42) ≡ c
      → EffectWords m (maps s rd (reply core m s.number (if b then (if c then MapPage page else Refuse cause.Bounds)
      else Refuse cause.Priv)))
  unfolding reply plain
  map_words rd page true true small = by (can_map m page) refl
    where
      by : (b : Bool) → can_map m page ≡ b → EffectWords m (maps s rd (Paged page b))
      by true can = record { next = advances; writes = (one_fits, tt); issue = tt; cell = tt; pages = (refl, can, ltb-true page (2 ^ 42) small); queue = tt; other = tt }
      by false can = sets_words rd (Int 0) zero_fits
  map_words rd page true false small = tt
  map_words rd page false c small = tt

  unmap_words : (rd page : ℕ) (b c : Bool) → EffectWords m (unmaps s rd (reply core m s.number (if b then (if c then UnmapPage page else Refuse cause.Bounds) else Refuse cause.Priv)))
  unfolding reply plain
  unmap_words rd page true true = by (is_mapped m page)
    where
      by : (b : Bool) → EffectWords m (unmaps s rd (Paged page b))
      by true = record { next = advances; writes = (one_fits, tt); issue = tt; cell = tt; pages = tt; queue = tt; other = tt }
      by false = sets_words rd (Int 0) zero_fits
  unmap_words rd page true false = tt
  unmap_words rd page false c = tt

  halt_words : EffectWords m (Do (record (plain s) { next = s.ip; past = s.past; halts = true }))
  unfolding plain
  halt_words = record { next = own_words.ip; writes = tt; issue = tt; cell = tt; pages = tt; queue = tt; other = tt }

  -- what an instruction does makes words, where the slots, the events and the cells hold words
  pub effect_words : (i : Instr) → IsInstr i → EffectWords m (effect core.split i s (reply core m s.number (ask i s)))
  unfolding effect ask reply
  effect_words Halt instr = halt_words
  effect_words Nop instr = plain_words
  effect_words (Ldi rd imm) instr = sets_words rd (Int (cast_unsigned w64 imm)) (imm_fits imm instr.operands.1.0)
  effect_words (Ldhi rd imm) instr = sets_words rd (Int (high_and_low (word_bits (register s rd)) imm)) (high_and_low-fits (word_bits (register s rd)) imm instr.operands.1.0)
  effect_words (Mov rd ra) instr = sets_words rd (register s ra) (reg ra)
  effect_words (Isptr rd ra) instr = sets_words rd (Int (test (is_pointer (register s ra)))) (test_fits (is_pointer (register s ra)))
  effect_words (Eqw rd ra rb) instr = sets_words rd (Int (test (same_word (register s ra) (register s rb)))) (test_fits (same_word (register s ra) (register s rb)))
  effect_words (Out ra) instr = out_words (word_bits (register s ra) % 256) (nat_lt (length (output_of core s.group)) (output_limit core.version))
  effect_words (SelfSlot rd) instr = sets_words rd (Int s.number) (let few = own_slot.number in omega arith)
  effect_words (Alu op rd ra rb) instr = number_words rd (alu_result op (word_bits (register s ra))
      (word_bits (register s rb))) (alu_result-fits op (word_bits (register s ra)) (word_bits (register s rb)) (bits ra)
      (bits rb))
  effect_words (Addi rd ra imm) instr = sets_words rd (Int ((word_bits (register s ra) + cast_unsigned w64 imm) % 2 ^ 64)) (omega arith)
  effect_words (Lea rd ra rb) instr =
      if_pointer_words (register s ra) (λ p. sets_pointer s rd (lea_result p (cast_signed w64 (word_bits (register s rb))))) (reg ra)
      (λ p fits. pointer_words rd (lea_result p (cast_signed w64 (word_bits (register s rb))))
      (λ q is. IsBelow-well_formed p q fits (lea_result-IsBelow p q (cast_signed w64 (word_bits (register s rb)))
      is)))
  effect_words (Leai rd ra imm) instr =
      if_pointer_words (register s ra) (λ p. sets_pointer s rd (lea_result p imm)) (reg ra)
      (λ p fits. pointer_words rd (lea_result p imm)
      (λ q is. IsBelow-well_formed p q fits (lea_result-IsBelow p q imm is)))
  effect_words (Leab rd ra rb) instr =
      if_pointer_words (register s ra) (λ p. sets_pointer s rd (leab_result p (cast_signed w64 (word_bits (register s rb))))) (reg ra)
      (λ p fits. pointer_words rd (leab_result p (cast_signed w64 (word_bits (register s rb))))
      (λ q is. IsBelow-well_formed p q fits (leab_result-IsBelow p q (cast_signed w64 (word_bits (register s rb)))
      is)))
  effect_words (Restrict rd ra rb) instr =
      if_pointer_words (register s ra) (λ p. sets_pointer s rd (restrict_result p (word_bits (register s rb)))) (reg ra)
      (λ p fits. pointer_words rd (restrict_result p (word_bits (register s rb))) (λ q is. IsBelow-well_formed p q fits (restrict_result-IsBelow p q (word_bits (register s rb)) is)))
  effect_words (Subseg rd ra rb) instr =
      if_pointer_words (register s ra) (λ p. sets_pointer s rd (subseg_result p (word_bits (register s rb)))) (reg ra)
      (λ p fits. pointer_words rd (subseg_result p (word_bits (register s rb))) (λ q is. IsBelow-well_formed p q fits (subseg_result-IsBelow p q (word_bits (register s rb)) is)))
  effect_words (Setptr rd ra) instr =
      if_words (is_privileged s.ip.perm) (sets_pointer s rd (setptr_result (word_bits (register s ra)))) (Fault cause.Priv)
      (pointer_words rd (setptr_result (word_bits (register s ra))) (λ q is. setptr_result-well_formed (word_bits (register s ra)) q is)) tt
  effect_words (Ld rd ra pre post imm) instr = load_words core.split rd post pre (check_result (register s ra) imm (load_kind post))
  effect_words (St ra rb pre post imm) instr = store_words (register s rb) post pre (check_result (register s ra) imm Store) (reg rb)
  effect_words (Br imm) instr = branch_words imm
  effect_words (Bz ra imm) instr = if_words (word_bits (register s ra) == 0) (branches s (at_distance s imm)) (Do (plain s)) (branch_words imm) plain_words
  effect_words (Bnz ra imm) instr = if_words (word_bits (register s ra) == 0) (Do (plain s)) (branches s (at_distance s imm)) plain_words (branch_words imm)
  effect_words (Jmp ra) instr = if_pointer_words (register s ra) (λ p. jumps s p (enter_result p)) (reg ra) (λ p fits. jump_words p (enter_result p) fits refl)
  effect_words (Jal rd ra) instr = if_pointer_words (register s ra)
      (λ p. links s rd p (enter_result p) (next_result s.ip)) (reg ra) (λ p fits. link_words rd p (enter_result p)
      (next_result s.ip) fits refl refl)
  effect_words (Lip rd imm) instr = pointer_words rd (at_distance s imm) (distance_words imm)
  effect_words (Trap imm) instr = tt
  effect_words (Evt rd) instr = event_words rd (queue_at core s.number) (queue_words core s.number rows)
  effect_words (Resume ra how) instr = serve_words (word_bits (register s ra)) (resumes s how) (λ c. tt) (λ of k. resume_words how of k)
  effect_words (Rreg rd ra r) instr = serve_words (word_bits (register s ra)) (reads_of core.split s rd r) (λ c. tt) (λ of k. read_words core.split rd r of k)
  effect_words (Wreg ra rb r) instr = serve_words (word_bits (register s ra)) (writes_of core.split s r (register s rb)) (λ c. tt) (λ of k. write_words core.split r (register s rb) of (reg rb) k)
  effect_words (Map rd ra) instr = map_words rd (word_bits (register s ra)) (is_privileged s.ip.perm) (nat_lt (word_bits (register s ra)) (2 ^ 42)) refl
  effect_words (Unmap rd ra) instr = unmap_words rd (word_bits (register s ra)) (is_privileged s.ip.perm) (nat_lt (word_bits (register s ra)) (2 ^ 42))
