-- Each row of the table of instructions: what it does is granted, where the slot's words and the reply's are.
use Rattle.std.proofs.Common.{◌≡◌, ℕ, ◌+◌, ◌<◌, ◌^◌, ◌%◌, ◌⊎◌, inl, inr, Bool, true, false, ◌&&◌, ◌==◌, nat_lt}
use Rattle.std.proofs.Common.{if◌then◌else◌, List, [], ◌∷◌, length, map, Option, Some, None, Result, Ok, Err, refl, sym}
use Rattle.std.proofs.Common.{ap, ◌∙◌, subst, arith, ltb-true, ℤ, pos, negsuc, ◌*ℤ◌, ◌+ℤ◌, slice_set}
use Rattle.std.proofs.lemmas.{Grind.common_steps, Bool.and_parts}
use Rattle.std.specs.{Prelude.option_map, Int.{w64, cast_unsigned, cast_signed}, List.AllByRecursion}
use Rattle.mm_word.specs.declared.perm.Perm.{Perm, TheVariants.{Ro, Rw, Xu, Xp, Eu, Ep, Key}}
use Rattle.mm_word.specs.declared.{perm.Kind.{Kind, TheVariants.Store}, cause.Cause.Cause}
use Rattle.mm_word.specs.declared.word.{Pre.Pre, Post.Post, Word.{Word, TheVariants.{Int, Ptr}}, Cell.Cell}
use Rattle.mm_word.specs.Access.{AccessValue, IsGranted, touch_at, check_result}
use Rattle.mm_word.specs.Perm.{can_load, can_store, allows, execute_form}
use Rattle.mm_word.specs.Pointer.{Pointer, IsBelow, moved_to, lea_result, leab_result, restrict_result, subseg_result}
use Rattle.mm_word.specs.{Pointer.{setptr_result, next_result, enter_result}, Word.{IsWord, word_bits, is_pointer}}
use Rattle.mm_word.proofs.Results.{lea_result-IsBelow, leab_result-IsBelow, restrict_result-IsBelow}
use Rattle.mm_word.proofs.Results.{subseg_result-IsBelow, next_result-IsBelow, setptr_result-well_formed}
use Rattle.mm_word.proofs.Results.{check_result-IsGranted}
use Rattle.mm_isa.specs.declared.instr.{DivZero.DivZero, How.{How, TheVariants.{Retry, Skip, Kill}}}
use Rattle.mm_isa.specs.declared.instr.Instr.{Instr}
use Rattle.mm_isa.specs.declared.instr.Instr.TheVariants.{Halt, Nop, Ldi, Ldhi, Mov, Isptr, Eqw, Out, SelfSlot, Alu}
use Rattle.mm_isa.specs.declared.instr.Instr.TheVariants.{Addi, Lea, Leai, Leab, Restrict, Subseg, Setptr, Ld, St, Br}
use Rattle.mm_isa.specs.declared.instr.Instr.TheVariants.{Bz, Bnz, Jmp, Jal, Lip, Trap, Evt, Resume, Rreg, Wreg, Map}
use Rattle.mm_isa.specs.{declared.instr.Instr.TheVariants.Unmap, Alu.alu_result}
use Rattle.mm_model.specs.declared.{slot.Pending.Pending, event.Event.Event}
use Rattle.mm_model.specs.{Memory.{Memory, cell_at, is_mapped, can_map, passes}, Slot.{Slot, register, is_empty}}
use Rattle.mm_model.specs.{State.{Core, slot_at, queue_at, output_of}, Image.{Image, output_limit}}
use Rattle.mm_model.specs.Fits.{is_waiting, identity_of, IsSlot, IsFormed, RowHoldsWords}
use Rattle.mm_model.specs.Operands.{addr_operand, value_operand, word_a, word_b, field_a, field_b, field_imm}
use Rattle.mm_model.specs.Ask.{ask, is_privileged, load_kind, reaching, Ask.{Refuse, MapPage, UnmapPage}}
use Rattle.mm_model.specs.Effect.{Reply, Change, Pages, Effect, effect, advanced, plain, moved_on, sets, sets_pointer}
use Rattle.mm_model.specs.Effect.{sets_number, if_pointer, test, same_word, high_and_low, puts_out, set_by, loaded}
use Rattle.mm_model.specs.Effect.{stored, at_distance, branches, entry_as, entry_of, jumps, links, takes, resumed_by}
use Rattle.mm_model.specs.Effect.{resumes, delivered, reads_of, writes_of, maps, unmaps}
use Rattle.mm_model.specs.Effect.{Reply.{Fine, Refused, Got, Paged, Took, Served}, Pages.{Keep, Add, Remove}}
use Rattle.mm_model.specs.Effect.Effect.{Fault, Block, Deliver, Do}
use Rattle.mm_model.specs.Turn.{reply, reached, event_reply, first_event, served, is_taken, is_handler}
use Rattle.mm_model.specs.Reach.{Entries, Grants, CanWrite, Privileged, Grants.below}
use Rattle.mm_model.proofs.{CoreRows.{each_set, slot_at-number, slot_has, identities_of}, SlotSteps.delivered_from}
use Rattle.mm_model.proofs.CoreSteps.{Fitting, handler_is, queued_waits}
use Rattle.mm_model.proofs.EffectWords.{slot_words, register_fits, executable_moves}
use Rattle.mm_laws.specs.Granted.{WordGranted, SlotGranted, EventGranted, RowGranted, CellsGranted}
use Rattle.mm_laws.proofs.GrantedWords.{slot_granted, queue_granted, register_granted, delivered_granted, BothServe}
use Rattle.mm_laws.proofs.GrantedWords.{serving, word_served, load_granted}
use Rattle.mm_word.specs.declared.cause.Cause.TheVariants as cause
use Rattle.mm_word.specs.declared.word.Post.TheVariants as posts

-- 1. What an effect has to be.

-- a cell that is written stands already, at a word that the group can write
pub record WriteGranted (i : Image) (e : Entries) (m : Memory) (g : ℕ) (w : ℕ × Cell) : Type 0 where
  pub old : Cell
  pub stands : cell_at m w.0 ≡ Some old
  pub writes : CanWrite i e g w.0
  pub word : WordGranted i e g w.1.word

abbrev pub CellWritten : Image → Entries → Memory → ℕ → Option (ℕ × Cell) → Type 0
CellWritten i e m g None = Unit {0}
CellWritten i e m g (Some w) = WriteGranted i e m g w

-- pages come and go by privileged code alone
pub record PageGranted (i : Image) (e : Entries) (g page : ℕ) : Type 0 where
  pub privileged : Privileged i e g
  pub small : page < 2 ^ 42

abbrev pub PagesGranted : Image → Entries → ℕ → Pages → Type 0
PagesGranted i e g Keep = Unit {0}
PagesGranted i e g (Add page) = PageGranted i e g page
PagesGranted i e g (Remove page) = PageGranted i e g page

-- a slot that this one serves takes its own place
pub record OtherGranted (i : Image) (e : Entries) (core : Core) (n : ℕ) (o : Slot) : Type 0 where
  pub old : Slot
  pub stands : slot_at core o.number ≡ Some old
  pub group : old.group ≡ o.group
  pub handler : old.handler ≡ o.handler
  pub served : old.handler ≡ Some n
  pub granted : SlotGranted i e o

abbrev pub OtherSlot : Image → Entries → Core → ℕ → Option Slot → Type 0
OtherSlot i e core n None = Unit {0}
OtherSlot i e core n (Some o) = OtherGranted i e core n o

abbrev pub QueueGranted : Image → Entries → ℕ → Option (List Event) → Type 0
QueueGranted i e g None = Unit {0}
QueueGranted i e g (Some q) = AllByRecursion (EventGranted i e g) q

abbrev pub IssueGranted : Image → Entries → ℕ → Option Pending → Type 0
IssueGranted i e g None = Unit {0}
IssueGranted i e g (Some p) = WordGranted i e g p.word

-- the next instruction is at the execute form of a granted enter pointer
pub record Enters (i : Image) (e : Entries) (g : ℕ) (p next : Pointer) : Type 0 where
  pub enters : (p.perm ≡ Eu) ⊎ (p.perm ≡ Ep)
  pub granted : Grants i e g p
  pub form : enter_result p ≡ Some next

abbrev pub NextGranted : Image → Entries → ℕ → Pointer → Option Pointer → Type 0
NextGranted i e g next None = Grants i e g next
NextGranted i e g next (Some p) = Enters i e g p next

pub record ChangeGranted (i : Image) (e : Entries) (core : Core) (m : Memory) (s : Slot) (c : Change) : Type 0 where
  pub writes : AllByRecursion (λ (w : ℕ × Word). WordGranted i e s.group w.1) c.writes
  pub next : NextGranted i e s.group c.next c.entered
  pub issue : IssueGranted i e s.group c.issue
  pub cell : CellWritten i e m s.group c.cell
  pub pages : PagesGranted i e s.group c.pages
  pub queue : QueueGranted i e s.group c.queue
  pub other : OtherSlot i e core s.number c.other

abbrev pub EffectGranted : Image → Entries → Core → Memory → Slot → Effect → Type 0
EffectGranted i e core m s (Fault c) = Unit {0}
EffectGranted i e core m s Block = Unit {0}
EffectGranted i e core m s (Deliver o) = OtherGranted i e core s.number o
EffectGranted i e core m s (Do c) = ChangeGranted i e core m s c

-- 2. Pointers that operations make.

pub is_xp : (p : Perm) → is_privileged p ≡ true → p ≡ Xp
is_xp Ro e = cc
is_xp Rw e = cc
is_xp Xu e = cc
is_xp Xp e = refl
is_xp Eu e = cc
is_xp Ep e = cc
is_xp Key e = cc

kind_loads : (post : Post) (p : Perm) → allows p (load_kind post) ≡ true → can_load p ≡ true
kind_loads posts.Keep p e = e
kind_loads posts.Full p e = (and_parts (can_load p) (can_store p) e).0
kind_loads posts.Empty p e = (and_parts (can_load p) (can_store p) e).0

-- what a jump through a pointer leaves: its execute form, where the jump enters; else itself
pub data JumpsTo (p to : Pointer) : Type 0 where
  enters : (p.perm ≡ Eu) ⊎ (p.perm ≡ Ep) → entry_of p ≡ Some p → JumpsTo p to
  stays : to ≡ p → entry_of p ≡ None → JumpsTo p to

jumps_to : (p to : Pointer) → enter_result p ≡ Some to → JumpsTo p to
jumps_to p to is = by p.perm refl is
  where
    by : (perm : Perm) → p.perm ≡ perm → option_map (λ (x : Perm). record p { perm = x }) (execute_form perm) ≡ Some to → JumpsTo p to
    by Ro at e = cc
    by Rw at e = cc
    by Key at e = cc
    by Xu at e = let same : record p { perm = Xu } ≡ to = cc in stays (sym same ∙ ap (λ (x : Perm). record p { perm = x }) (sym at)) (ap (entry_as p) at)
    by Xp at e = let same : record p { perm = Xp } ≡ to = cc in stays (sym same ∙ ap (λ (x : Perm). record p { perm = x }) (sym at)) (ap (entry_as p) at)
    by Eu at e = enters (inl at) (ap (entry_as p) at)
    by Ep at e = enters (inr at) (ap (entry_as p) at)

-- an access that passed its tests, through a word
pub record Checked (w : Word) (kind : Kind) (t : AccessValue) : Type 0 where
  pub is : w ≡ Ptr t.ptr
  pub kind_is : t.kind ≡ kind
  pub granted : IsGranted t

touch_at-tells : (p : Pointer) (z : ℤ) (kind : Kind) (t : AccessValue) → touch_at p z kind ≡ Ok t → (t.ptr ≡ p) × (t.kind ≡ kind)
touch_at-tells p (pos a) kind t e = grind (arith, common_steps)
touch_at-tells p (negsuc a) kind t e = cc

check_result-tells : (p : Pointer) (by : ℤ) (kind : Kind) (t : AccessValue) → check_result (Ptr p) by kind ≡ Ok t → touch_at p (pos p.addr +ℤ by) kind ≡ Ok t
check_result-tells p by kind t e = grind (arith, common_steps)

pub checked : (w : Word) (by : ℤ) (kind : Kind) (t : AccessValue) → IsWord w → check_result w by kind ≡ Ok t → Checked w kind t
checked (Int bits) by kind t h e = cc
checked (Ptr p) by kind t h e =
    let tells = touch_at-tells p (pos p.addr +ℤ by) kind t (check_result-tells p by kind t e) in
    record { is = ap (λ (q : Pointer). Ptr q) (sym tells.0); kind_is = tells.1; granted = check_result-IsGranted (Ptr p) by kind t h e }

-- 3. The rows.

-- a core and a memory that fit an image and whose words are granted
pub record Stands (i : Image) (e : Entries) (core : Core) (m : Memory) : Type 0 where
  pub formed : IsFormed core
  pub fitting : Fitting core
  pub same : identities_of core ≡ map identity_of i.slots
  pub words : AllByRecursion RowHoldsWords core.rows
  pub rows : AllByRecursion (RowGranted i e) core.rows
  pub cells : CellsGranted i e m

module _ (i : Image) (e : Entries) (core : Core) (m : Memory) (st : Stands i e core m) (s : Slot) (at : slot_at core s.number ≡ Some s) where
  abbrev Is : Effect → Type 0
  Is x = EffectGranted i e core m s x

  own : SlotGranted i e s
  own = slot_granted i e core st.rows s.number s at

  own_slot : IsSlot s
  own_slot = slot_has IsSlot core s.number s st.formed.slots at

  pub reg : (r : ℕ) → WordGranted i e s.group (register s r)
  reg r = register_granted i e s own r

  advanced_granted : (o : Slot) → SlotGranted i e o → Grants i e o.group (advanced o.ip)
  unfolding advanced
  advanced_granted o g = by (next_result o.ip) refl
    where
      by : (n : Option Pointer) → next_result o.ip ≡ n → Grants i e o.group (moved_on o.ip n)
      by None is = g.ip
      by (Some q) is = below o.ip g.ip (next_result-IsBelow o.ip q is)

  advances : Grants i e s.group (advanced s.ip)
  advances = advanced_granted s own

  plain_granted : Is (Do (plain s))
  unfolding plain
  plain_granted = record { writes = tt; next = advances; issue = tt; cell = tt; pages = tt; queue = tt; other = tt }

  sets_granted : (rd : ℕ) (w : Word) → WordGranted i e s.group w → Is (sets s rd w)
  unfolding plain
  sets_granted rd w g = record { writes = (g, tt); next = advances; issue = tt; cell = tt; pages = tt; queue = tt; other = tt }

  pointer_granted : (rd : ℕ) (r : Result Pointer Cause) → ((q : Pointer) → r ≡ Ok q → Grants i e s.group q) → Is (sets_pointer s rd r)
  pointer_granted rd (Ok q) g = sets_granted rd (Ptr q) (g q refl)
  pointer_granted rd (Err c) g = tt

  number_granted : (rd : ℕ) (r : Result ℕ DivZero) → Is (sets_number s rd r)
  number_granted rd (Ok n) = sets_granted rd (Int n) tt
  number_granted rd (Err c) = tt

  if_pointer_granted : (w : Word) (f : Pointer → Effect) → WordGranted i e s.group w → ((p : Pointer) → Grants i e s.group p → Is (f p)) → Is (if_pointer w f)
  if_pointer_granted (Int bits) f g k = tt
  if_pointer_granted (Ptr p) f g k = k p g

  -- an operation on a pointer makes one below it
  below_granted : (rd : ℕ) (w : Word) (f : Pointer → Result Pointer Cause) → WordGranted i e s.group w → ((p q : Pointer) → f p ≡ Ok q → IsBelow q p) → Is (if_pointer w (λ p. sets_pointer s rd (f p)))
  below_granted rd w f g k = if_pointer_granted w (λ p. sets_pointer s rd (f p)) g (λ p gp. pointer_granted rd (f p) (λ q is. below p gp (k p q is)))

  if_granted : (b : Bool) (x y : Effect) → Is x → Is y → Is (if b then x else y)
  if_granted true x y p q = p
  if_granted false x y p q = q

  halts_granted : Is (Do (record (plain s) { next = s.ip; past = s.past; halts = true }))
  unfolding plain
  halts_granted = record { writes = tt; next = own.ip; issue = tt; cell = tt; pages = tt; queue = tt; other = tt }

  out_granted : (byte : ℕ) (b : Bool) → Is (puts_out s byte (if b then Fine else Refused cause.OutFull))
  unfolding plain
  out_granted byte true = record { writes = tt; next = advances; issue = tt; cell = tt; pages = tt; queue = tt; other = tt }
  out_granted byte false = tt

  own_privileged : is_privileged s.ip.perm ≡ true → Privileged i e s.group
  own_privileged y = record { by = s.ip; granted = own.ip; perm = is_xp s.ip.perm y }

  setptr_granted : (rd bits : ℕ) (b : Bool) → is_privileged s.ip.perm ≡ b → Is (if b then sets_pointer s rd (setptr_result bits) else Fault cause.Priv)
  setptr_granted rd bits false y = tt
  setptr_granted rd bits true y = pointer_granted rd (setptr_result bits) (λ q is. Grants.made s.ip own.ip (is_xp s.ip.perm y) (setptr_result-well_formed bits q is))

  -- a pointer of the running code, at another address
  distance_granted : (imm : ℤ) (q : Pointer) → at_distance s imm ≡ Ok q → Grants i e s.group q
  distance_granted imm q is =
      let moves = executable_moves s.ip.perm own_slot.executable in
      let lea : lea_result s.ip (pos 8 *ℤ imm) ≡ Ok q = ap (λ b. if b then moved_to s.ip (pos s.ip.addr +ℤ (pos 8 *ℤ imm)) else Err cause.Perm) moves ∙ is in
      below s.ip own.ip (lea_result-IsBelow s.ip q (pos 8 *ℤ imm) lea)

  branch_granted : (imm : ℤ) → Is (branches s (at_distance s imm))
  unfolding plain
  branch_granted imm = by (at_distance s imm) refl
    where
      by : (r : Result Pointer Cause) → at_distance s imm ≡ r → Is (branches s r)
      by (Ok p) is = record { writes = tt; next = distance_granted imm p is; issue = tt; cell = tt; pages = tt; queue = tt; other = tt }
      by (Err c) is = tt

  next_granted : (p to : Pointer) → Grants i e s.group p → enter_result p ≡ Some to → NextGranted i e s.group to (entry_of p)
  next_granted p to g is = elim (jumps_to p to is) [
    | JumpsTo.enters perm entry ↦ subst (NextGranted i e s.group to) (sym entry) (record { enters = perm; granted = g; form = is })
    | JumpsTo.stays it entry ↦ subst (NextGranted i e s.group to) (sym entry) (subst (Grants i e s.group) (sym it) g)
  ]

  jump_granted : (p : Pointer) (o : Option Pointer) → Grants i e s.group p → enter_result p ≡ o → Is (jumps s p o)
  unfolding plain
  jump_granted p None g is = tt
  jump_granted p (Some to) g is = record { writes = tt; next = next_granted p to g is; issue = tt; cell = tt; pages = tt; queue = tt; other = tt }

  link_granted : (rd : ℕ) (p : Pointer) (o behind : Option Pointer) → Grants i e s.group p → enter_result p ≡ o → next_result s.ip ≡ behind → Is (links s rd p o behind)
  unfolding plain
  link_granted rd p None behind g is next = tt
  link_granted rd p (Some to) None g is next = tt
  link_granted rd p (Some to) (Some back) g is next =
      record { writes = (below s.ip own.ip (next_result-IsBelow s.ip back next), tt); next = next_granted p to g is; issue = tt; cell = tt; pages = tt; queue = tt; other = tt }

  -- loads and stores

  pub word_at : (r : ℕ) → IsWord (register s r)
  word_at r = register_fits s r (slot_words core s.number s st.words at).registers

  -- the pointer of an access through a granted word
  through : (w : Word) (kind : Kind) (t : AccessValue) → WordGranted i e s.group w → Checked w kind t → Grants i e s.group t.ptr
  through w kind t g ok = subst (WordGranted i e s.group) ok.is g

  may_write : (t : AccessValue) → Grants i e s.group t.ptr → IsGranted t → can_store t.ptr.perm ≡ true → CanWrite i e s.group t.addr
  may_write t g ok right = record { by = t.ptr; granted = g; stores = record { word = ok.aligned; right = right; covers = ok.inside } }

  set_granted : (post : Post) (w : Word) (t : AccessValue) (c : Cell) → cell_at m t.addr ≡ Some c → WordGranted i e s.group w
      → Checked w (load_kind post) t → WordGranted i e s.group c.word → CellWritten i e m s.group (set_by post t.addr c)
  set_granted posts.Keep w t c is g ok fits = tt
  set_granted posts.Full w t c is g ok fits =
      let right : allows t.ptr.perm (load_kind posts.Full) ≡ true = ap (allows t.ptr.perm) (sym ok.kind_is) ∙ ok.granted.right in
      record { old = c; stands = is; writes = may_write t (through w (load_kind posts.Full) t g ok) ok.granted (and_parts (can_load t.ptr.perm) (can_store t.ptr.perm) right).1; word = fits }
  set_granted posts.Empty w t c is g ok fits =
      let right : allows t.ptr.perm (load_kind posts.Empty) ≡ true = ap (allows t.ptr.perm) (sym ok.kind_is) ∙ ok.granted.right in
      record { old = c; stands = is; writes = may_write t (through w (load_kind posts.Empty) t g ok) ok.granted (and_parts (can_load t.ptr.perm) (can_store t.ptr.perm) right).1; word = fits }

  got_granted : (split : Bool) (rd : ℕ) (post : Post) (w : Word) (t : AccessValue) (c : Cell) → cell_at m t.addr ≡ Some c
      → WordGranted i e s.group w → Checked w (load_kind post) t → Is (loaded split s rd post (Got t c))
  unfolding plain
  got_granted split rd post w t c is g ok = by split
    where
      word : WordGranted i e s.group c.word
      word =
          let right = ap (allows t.ptr.perm) (sym ok.kind_is) ∙ ok.granted.right in
          load_granted i e s.group t.addr t.ptr c.word (through w (load_kind post) t g ok)
          (record {
            word = ok.granted.aligned;
            right = kind_loads post t.ptr.perm right;
            covers = ok.granted.inside;
          }) (st.cells t.addr c is)

      by : (split : Bool) → Is (loaded split s rd post (Got t c))
      by false = record { writes = (word, tt); next = advances; issue = tt; cell = set_granted post w t c is g ok word; pages = tt; queue = tt; other = tt }
      by true = record { writes = (tt, tt); next = advances; issue = word; cell = set_granted post w t c is g ok word; pages = tt; queue = tt; other = tt }

  load_row : (rd : ℕ) (post : Post) (pre : Pre) (w : Word) (r : Result AccessValue Cause) → WordGranted i e s.group w
      → ((t : AccessValue) → r ≡ Ok t → Checked w (load_kind post) t)
      → Is (loaded core.split s rd post (reply core m s.number (reaching r pre)))
  unfolding reply
  load_row rd post pre w (Err c) g ok = tt
  load_row rd post pre w (Ok t) g ok = by (cell_at m t.addr) refl
    where
      passed : (c : Cell) (b : Bool) → cell_at m t.addr ≡ Some c → Is (loaded core.split s rd post (if b then Got t c else Refused cause.Sync))
      passed c true is = got_granted core.split rd post w t c is g (ok t refl)
      passed c false is = tt

      by : (o : Option Cell) → cell_at m t.addr ≡ o → Is (loaded core.split s rd post (reached t pre o))
      by None is = tt
      by (Some c) is = passed c (passes pre c.full) is

  store_row : (v w : Word) (post : Post) (pre : Pre) (r : Result AccessValue Cause) → WordGranted i e s.group v
      → WordGranted i e s.group w → ((t : AccessValue) → r ≡ Ok t → Checked w Store t)
      → Is (stored s v post (reply core m s.number (reaching r pre)))
  unfolding reply plain
  store_row v w post pre (Err c) gv g ok = tt
  store_row v w post pre (Ok t) gv g ok = by (cell_at m t.addr) refl
    where
      writes : CanWrite i e s.group t.addr
      writes = let fits = ok t refl in may_write t (through w Store t g fits) fits.granted (ap (allows t.ptr.perm) (sym fits.kind_is) ∙ fits.granted.right)

      passed : (c : Cell) (b : Bool) → cell_at m t.addr ≡ Some c → Is (stored s v post (if b then Got t c else Refused cause.Sync))
      passed c true is = record { writes = tt; next = advances; issue = tt; cell = record { old = c; stands = is; writes = writes; word = gv }; pages = tt; queue = tt; other = tt }
      passed c false is = tt

      by : (o : Option Cell) → cell_at m t.addr ≡ o → Is (stored s v post (reached t pre o))
      by None is = tt
      by (Some c) is = passed c (passes pre c.full) is

  -- events and other slots

  stands_at : (k : ℕ) (of : Slot) → slot_at core k ≡ Some of → slot_at core of.number ≡ Some of
  stands_at k of is = ap (slot_at core) (slot_at-number core k of is) ∙ is

  serve : (k : ℕ) (of : Slot) → slot_at core k ≡ Some of → of.handler ≡ Some s.number → BothServe i s.group of.group
  serve k of is handled = serving i core st.same k s.number of s is at handled

  took_granted : (rd : ℕ) (event : Event) (rest : List Event) (of : Slot) → slot_at core event.slot ≡ Some of →
      of.handler ≡ Some s.number → EventGranted i e s.group event → AllByRecursion (EventGranted i e s.group) rest
      → Is (takes s rd (Took event rest of))
  unfolding plain
  took_granted rd event rest of is handled first others =
      let old = slot_granted i e core st.rows event.slot of is in
      record {
        writes = (tt, (first.ip, (first.address, (first.value, tt))));
        next = advances;
        issue = tt;
        cell = tt;
        pages = tt;
        queue = others;
        other = record {
          old = of;
          stands = stands_at event.slot of is;
          group = refl;
          handler = refl;
          served = handled;
          granted = record { registers = old.registers; ip = old.ip; pending = old.pending };
        };
      }

  event_row : (rd : ℕ) (q : List Event) → queue_at core s.number ≡ q → AllByRecursion (EventGranted i e s.group) q → Is (takes s rd (first_event core q))
  event_row rd [] is k = tt
  event_row rd (event ∷ rest) is k = by (slot_at core event.slot) refl
    where
      by : (o : Option Slot) → slot_at core event.slot ≡ o → Is (takes s rd (event_reply event rest o))
      by None found = tt
      by (Some of) found =
          let waits = (subst (AllByRecursion (λ (x : Event). x.slot ≡ event.slot → (is_waiting of.state ≡ true)
          × (of.handler ≡ Some s.number))) is (queued_waits core st.fitting.matched event.slot of found s.number)).0
          refl in
          took_granted rd event rest of found waits.1 k.0 k.1

  serve_row : (k : ℕ) (f : Reply → Effect) → ((c : Cause) → Is (f (Refused c)))
      → ((of : Slot) → slot_at core k ≡ Some of → of.handler ≡ Some s.number → Is (f (Served of)))
      → Is (f (served s.number (slot_at core k)))
  serve_row k f refused good = by (slot_at core k) refl
    where
      passed : (of : Slot) (b : Bool) → slot_at core k ≡ Some of → (is_handler s.number of.handler && is_taken of.state) ≡ b → Is (f (if b then Served of else Refused cause.NoSlot))
      passed of true is both = good of is (handler_is s.number of.handler (and_parts (is_handler s.number of.handler) (is_taken of.state) both).0)
      passed of false is both = refused cause.NoSlot

      by : (o : Option Slot) → slot_at core k ≡ o → Is (f (served s.number o))
      by None is = refused cause.NoSlot
      by (Some of) is = passed of (is_handler s.number of.handler && is_taken of.state) is refl

  resumed_granted : (how : How) (k : ℕ) (of : Slot) → slot_at core k ≡ Some of → of.handler ≡ Some s.number → OtherGranted i e core s.number (resumed_by how of)
  resumed_granted how k of is handled = by how
    where
      old : SlotGranted i e of
      old = slot_granted i e core st.rows k of is

      by : (how : How) → OtherGranted i e core s.number (resumed_by how of)
      by Retry = record { old = of; stands = stands_at k of is; group = refl; handler = refl; served = handled; granted = record { registers = old.registers; ip = old.ip; pending = old.pending } }
      by Skip = record {
        old = of;
        stands = stands_at k of is;
        group = refl;
        handler = refl;
        served = handled;
        granted = record { registers = old.registers; ip = advanced_granted of old; pending = old.pending };
      }
      by Kill = record { old = of; stands = stands_at k of is; group = refl; handler = refl; served = handled; granted = record { registers = old.registers; ip = old.ip; pending = old.pending } }

  resume_granted : (how : How) (k : ℕ) (of : Slot) → slot_at core k ≡ Some of → of.handler ≡ Some s.number → Is (resumes s how (Served of))
  unfolding plain
  resume_granted how k of is handled = record { writes = tt; next = advances; issue = tt; cell = tt; pages = tt; queue = tt; other = resumed_granted how k of is handled }

  other_delivered : (k : ℕ) (of : Slot) → slot_at core k ≡ Some of → of.handler ≡ Some s.number → OtherGranted i e core s.number (delivered of)
  other_delivered k of is handled =
      let from = delivered_from of in
      record {
        old = of;
        stands = ap (slot_at core) from.number ∙ stands_at k of is;
        group = sym from.group;
        handler = sym from.handler;
        served = handled;
        granted = delivered_granted i e of (slot_granted i e core st.rows k of is);
      }

  read_granted : (rd r k : ℕ) (of : Slot) → slot_at core k ≡ Some of → of.handler ≡ Some s.number → Is (reads_of core.split s rd r (Served of))
  read_granted rd r k of is handled =
      if_granted (core.split && is_empty of r) (Deliver (delivered of)) (sets s rd (register of r)) (other_delivered k of is handled)
      (sets_granted rd (register of r) (word_served i e s.group of.group (register of r) (register_granted i e of (slot_granted i e core st.rows k of is) r) (serve k of is handled).here))

  write_granted : (r k : ℕ) (w : Word) (of : Slot) → WordGranted i e s.group w → slot_at core k ≡ Some of → of.handler ≡ Some s.number → Is (writes_of core.split s r w (Served of))
  unfolding plain
  write_granted r k w of g is handled =
      let old = slot_granted i e core st.rows k of is in
      if_granted (core.split && is_empty of r) (Deliver (delivered of)) (Do (record (plain s) { other = Some (record of { regs = slice_set of.regs r w }) })) (other_delivered k of is handled)
      (record {
        writes = tt;
        next = advances;
        issue = tt;
        cell = tt;
        pages = tt;
        queue = tt;
        other = record {
          old = of;
          stands = stands_at k of is;
          group = refl;
          handler = refl;
          served = handled;
          granted = record {
            registers = each_set (WordGranted i e of.group) of.regs r w old.registers
                (word_served i e of.group s.group w g (serve k of is handled).there);
            ip = old.ip;
            pending = old.pending;
          };
        };
      })

  -- pages

  map_row : (rd page : ℕ) (b c : Bool) → is_privileged s.ip.perm ≡ b → nat_lt page (2 ^ 42) ≡ c
      → Is (maps s rd (reply core m s.number (if b then (if c then MapPage page else Refuse cause.Bounds) else Refuse
      cause.Priv)))
  unfolding reply plain
  map_row rd page true true y small = by (can_map m page)
    where
      by : (b : Bool) → Is (maps s rd (Paged page b))
      by true = record { writes = (tt, tt); next = advances; issue = tt; cell = tt; pages = record { privileged = own_privileged y; small = ltb-true page (2 ^ 42) small }; queue = tt; other = tt }
      by false = sets_granted rd (Int 0) tt
  map_row rd page true false y small = tt
  map_row rd page false c y small = tt

  unmap_row : (rd page : ℕ) (b c : Bool) → is_privileged s.ip.perm ≡ b → nat_lt page (2 ^ 42) ≡ c
      → Is (unmaps s rd (reply core m s.number (if b then (if c then UnmapPage page else Refuse cause.Bounds) else
      Refuse cause.Priv)))
  unfolding reply plain
  unmap_row rd page true true y small = by (is_mapped m page)
    where
      by : (b : Bool) → Is (unmaps s rd (Paged page b))
      by true = record { writes = (tt, tt); next = advances; issue = tt; cell = tt; pages = record { privileged = own_privileged y; small = ltb-true page (2 ^ 42) small }; queue = tt; other = tt }
      by false = sets_granted rd (Int 0) tt
  unmap_row rd page true false y small = tt
  unmap_row rd page false c y small = tt

  -- what an instruction does is granted
  pub effect_granted : (instr : Instr) → Is (effect core.split instr s (reply core m s.number (ask instr s)))
  unfolding effect ask reply
  effect_granted Halt = halts_granted
  effect_granted Nop = plain_granted
  effect_granted (Ldi rd imm) = sets_granted rd (Int (cast_unsigned w64 imm)) tt
  effect_granted (Ldhi rd imm) = sets_granted rd (Int (high_and_low (word_bits (register s rd)) imm)) tt
  effect_granted (Mov rd ra) = sets_granted rd (register s ra) (reg ra)
  effect_granted (Isptr rd ra) = sets_granted rd (Int (test (is_pointer (register s ra)))) tt
  effect_granted (Eqw rd ra rb) = sets_granted rd (Int (test (same_word (register s ra) (register s rb)))) tt
  effect_granted (Out ra) = out_granted (word_bits (register s ra) % 256) (nat_lt (length (output_of core s.group)) (output_limit core.version))
  effect_granted (SelfSlot rd) = sets_granted rd (Int s.number) tt
  effect_granted (Alu op rd ra rb) = number_granted rd (alu_result op (word_bits (register s ra)) (word_bits (register s rb)))
  effect_granted (Addi rd ra imm) = sets_granted rd (Int ((word_bits (register s ra) + cast_unsigned w64 imm) % 2 ^ 64)) tt
  effect_granted (Lea rd ra rb) = below_granted rd (register s ra)
      (λ p. lea_result p (cast_signed w64 (word_bits (register s rb)))) (reg ra)
      (λ p q is. lea_result-IsBelow p q (cast_signed w64 (word_bits (register s rb))) is)
  effect_granted (Leai rd ra imm) = below_granted rd (register s ra) (λ p. lea_result p imm) (reg ra) (λ p q is. lea_result-IsBelow p q imm is)
  effect_granted (Leab rd ra rb) = below_granted rd (register s ra)
      (λ p. leab_result p (cast_signed w64 (word_bits (register s rb)))) (reg ra)
      (λ p q is. leab_result-IsBelow p q (cast_signed w64 (word_bits (register s rb))) is)
  effect_granted (Restrict rd ra rb) = below_granted rd (register s ra)
      (λ p. restrict_result p (word_bits (register s rb))) (reg ra)
      (λ p q is. restrict_result-IsBelow p q (word_bits (register s rb)) is)
  effect_granted (Subseg rd ra rb) = below_granted rd (register s ra) (λ p. subseg_result p (word_bits (register s rb))) (reg ra) (λ p q is. subseg_result-IsBelow p q (word_bits (register s rb)) is)
  effect_granted (Setptr rd ra) = setptr_granted rd (word_bits (register s ra)) (is_privileged s.ip.perm) refl
  effect_granted (Ld rd ra pre post imm) =
      load_row rd post pre (register s ra) (check_result (register s ra) imm (load_kind post)) (reg ra) (λ t is. checked (register s ra) imm (load_kind post) t (word_at ra) is)
  effect_granted (St ra rb pre post imm) =
      store_row (register s rb) (register s ra) post pre (check_result (register s ra) imm Store) (reg rb) (reg ra) (λ t is. checked (register s ra) imm Store t (word_at ra) is)
  effect_granted (Br imm) = branch_granted imm
  effect_granted (Bz ra imm) = if_granted (word_bits (register s ra) == 0) (branches s (at_distance s imm)) (Do (plain s)) (branch_granted imm) plain_granted
  effect_granted (Bnz ra imm) = if_granted (word_bits (register s ra) == 0) (Do (plain s)) (branches s (at_distance s imm)) plain_granted (branch_granted imm)
  effect_granted (Jmp ra) = if_pointer_granted (register s ra) (λ p. jumps s p (enter_result p)) (reg ra) (λ p g. jump_granted p (enter_result p) g refl)
  effect_granted (Jal rd ra) = if_pointer_granted (register s ra)
      (λ p. links s rd p (enter_result p) (next_result s.ip)) (reg ra) (λ p g. link_granted rd p (enter_result p)
      (next_result s.ip) g refl refl)
  effect_granted (Lip rd imm) = pointer_granted rd (at_distance s imm) (distance_granted imm)
  effect_granted (Trap imm) = tt
  effect_granted (Evt rd) = event_row rd (queue_at core s.number) refl (queue_granted i e core st.rows s.number s at)
  effect_granted (Resume ra how) = serve_row (word_bits (register s ra)) (resumes s how) (λ c. tt) (λ of is handled. resume_granted how (word_bits (register s ra)) of is handled)
  effect_granted (Rreg rd ra r) = serve_row (word_bits (register s ra)) (reads_of core.split s rd r) (λ c. tt) (λ of is handled. read_granted rd r (word_bits (register s ra)) of is handled)
  effect_granted (Wreg ra rb r) =
      serve_row (word_bits (register s ra)) (writes_of core.split s r (register s rb)) (λ c. tt) (λ of is handled. write_granted r (word_bits (register s ra)) (register s rb) of (reg rb) is handled)
  effect_granted (Map rd ra) = map_row rd (word_bits (register s ra)) (is_privileged s.ip.perm) (nat_lt (word_bits (register s ra)) (2 ^ 42)) refl refl
  effect_granted (Unmap rd ra) = unmap_row rd (word_bits (register s ra)) (is_privileged s.ip.perm) (nat_lt (word_bits (register s ra)) (2 ^ 42)) refl refl

  -- the operands that a fault reports are granted

  pub addr_operand-granted : (instr : Instr) → WordGranted i e s.group (addr_operand instr s)
  unfolding addr_operand
  addr_operand-granted instr = by (field_a instr)
    where
      by : (o : Option ℕ) → WordGranted i e s.group (word_a s o)
      by None = tt
      by (Some r) = reg r

  pub value_operand-granted : (instr : Instr) → WordGranted i e s.group (value_operand instr s)
  unfolding value_operand
  value_operand-granted instr = by (field_b instr)
    where
      by : (o : Option ℕ) → WordGranted i e s.group (word_b s o (field_imm instr))
      by None = tt
      by (Some r) = reg r
