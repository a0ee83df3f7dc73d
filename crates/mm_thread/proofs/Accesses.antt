-- What the rows that ask for memory leave.
use Rattle.std.proofs.Common.{◌≡◌, ℕ, ◌+◌, ◌<◌, ◌^◌, Bool, true, false, cond, ltb, List, [], ◌∷◌, length, Option, Some}
use Rattle.std.proofs.Common.{None, Result, Ok, Err, refl, sym, ap, subst, ◌∙◌, arith, ℤ}
use Rattle.mm_word.specs.declared.cause.Cause.{Cause, TheVariants.{Bounds, Sync, Priv}}
use Rattle.mm_word.specs.declared.word.{Pre.Pre, Post.Post, Word.{Word, TheVariants.Int}, Cell.Cell}
use Rattle.mm_word.specs.{Word.word_bits, Access.AccessValue}
use Rattle.mm_isa.specs.declared.instr.Instr.{Instr, TheVariants.{Out, Ld, St, Evt, Resume, Rreg, Wreg, Map, Unmap}}
use Rattle.mm_isa.specs.declared.instr.How.{How}
use Rattle.mm_model.specs.{Memory.{Memory, passes}, Slot.{Slot, register, is_empty}, Operands.lacks}
use Rattle.mm_model.specs.{State.{Core, slot_at}, Uses.{Use, accesses, TakesUses, takes_none}}
use Rattle.mm_model.specs.Ask.{Ask, ask, is_privileged, page_asked, Ask.Refuse}
use Rattle.mm_model.specs.Effect.{Effect, effect, plain, loads, loaded, stored, maps, unmaps, set_by, test}
use Rattle.mm_model.specs.Effect.Reply.{Refused, Paged}
use Rattle.mm_model.specs.Turn.{reply, reached, removal_use, touch_of, asked_use, slot_after, core_after, memory_after}
use Rattle.mm_mem.specs.{Answers.{loaded as loaded_answer, stored as stored_answer, set_where, put_where}}
use Rattle.mm_thread.specs.declared.completion.{Completion.{Completion, TheVariants.Did}, Retired.Retired}
use Rattle.mm_thread.specs.{Ends.is_alone, SlotIndices.{slot_in, with_slot}}
use Rattle.mm_thread.specs.Execution.{Leaves, effect_in, Executes, core_loaded, completion_loaded, core_stored}
use Rattle.mm_thread.specs.{Execution.{completion_stored, page_named}, Tables.AreNumbered}
use Rattle.mm_thread.proofs.SlotUpdates.{own_put}

-- 1. An instruction by what it asks.

module _ {M : Type 0} (meaning : M → Memory) (uses : M → ℕ) (stands : M → List Use → Type 0) where
  pub executes_by : (core : Core) (s : Slot) (i : Instr) (old new : M) (core' : Core) (retired : Retired) (a : Ask) → ask i s ≡ a
      → Leaves core (meaning old) s (effect core.split i s (reply core (meaning old) s.number a)) core' (meaning new) retired.completion
      → retired.touched ≡ touch_of a → TakesUses stands old new (asked_use (meaning old) a) → uses new ≡ uses old + accesses (asked_use (meaning old) a)
      → Executes meaning uses stands core s i old new core' retired
  executes_by core s i old new core' retired a is leaves touched takes count =
      let Left : Ask → Type 0 = λ b. Leaves core (meaning old) s (effect core.split i s (reply core (meaning old) s.number b)) core' (meaning new) retired.completion in
      let Takes : Ask → Type 0 = λ b. TakesUses stands old new (asked_use (meaning old) b) in
      record {
        leaves = subst Left (sym is) leaves;
        touched = touched ∙ ap touch_of (sym is);
        takes = subst Takes (sym is) takes;
        count = count ∙ ap (λ b. uses old + accesses (asked_use (meaning old) b)) (sym is);
      }

  -- what no memory is asked for
  pub executes_quietly : (core : Core) (s : Slot) (i : Instr) (old : M) (core' : Core) (retired : Retired) (a : Ask) → ask i s ≡ a → touch_of a ≡ None → asked_use (meaning old) a ≡ []
      → Leaves core (meaning old) s (effect_in core (meaning old) s i) core' (meaning old) retired.completion → retired.touched ≡ None
      → Executes meaning uses stands core s i old old core' retired
  executes_quietly core s i old core' retired a is untouched unasked leaves touched =
      let none : asked_use (meaning old) (ask i s) ≡ [] = ap (asked_use (meaning old)) is ∙ unasked in
      let Takes : List Use → Type 0 = λ us. TakesUses stands old old us in
      record {
        leaves = leaves;
        touched = touched ∙ sym (ap touch_of is ∙ untouched);
        takes = subst Takes (sym none) (takes_none old);
        count = rw none (omega arith);
      }

-- 2. Loads and stores.

module _ (core : Core) (apart : AreNumbered core.rows) (p : ℕ) (within : p < length core.rows) where
  abbrev s : Slot
  s = slot_in core p

  load_core : (split : Bool) (rd : ℕ) (w : Word) (cell : Option (ℕ × Cell)) → core_after core s (record (loads split s rd w) { cell = cell }) ≡ with_slot core p (slot_after s (loads split s rd w))
  unfolding core_after plain slot_after
  load_core true rd w cell = own_put core apart p within (loads true s rd w)
  load_core false rd w cell = own_put core apart p within (loads false s rd w)

  load_memory : (m : Memory) (split : Bool) (rd : ℕ) (w : Word) (cell : Option (ℕ × Cell)) → memory_after m (record (loads split s rd w) { cell = cell }) ≡ Rattle.mm_model.specs.Turn.with_cell m cell
  unfolding memory_after plain
  load_memory m true rd w cell = refl
  load_memory m false rd w cell = refl

  load_goes : (split : Bool) (rd : ℕ) (w : Word) (cell : Option (ℕ × Cell)) → Did (loads split s rd w).entered ≡ Did None
  unfolding plain
  load_goes true rd w cell = refl
  load_goes false rd w cell = refl

  pub load_leaves : (m : Memory) (a : AccessValue) (rd : ℕ) (pre : Pre) (post : Post) (o : Option Cell)
      → Leaves core m s (loaded core.split s rd post (reached a pre o)) (core_loaded core p rd (loaded_answer pre o)) (set_where m a.addr pre post o) (completion_loaded (loaded_answer pre o))
  load_leaves m a rd pre post None = record { core_is = refl; memory_is = refl; completion_is = refl; stays = λ e. cc }
  load_leaves m a rd pre post (Some c) = by (passes pre c.full)
    where
      by : (b : Bool) → Leaves core m s
          (loaded core.split s rd post (cond b (Rattle.mm_model.specs.Effect.Reply.Got a c) (Refused Sync)))
          (core_loaded core p rd (cond b (Rattle.mm_mem.specs.declared.answer.Loaded.TheVariants.Value c.word)
          Rattle.mm_mem.specs.declared.answer.Loaded.TheVariants.NotReady))
          (cond b (Rattle.mm_model.specs.Turn.with_cell m (set_by post a.addr c)) m)
          (completion_loaded (cond b (Rattle.mm_mem.specs.declared.answer.Loaded.TheVariants.Value c.word)
          Rattle.mm_mem.specs.declared.answer.Loaded.TheVariants.NotReady))
      by true = record {
        core_is = sym (load_core core.split rd c.word (set_by post a.addr c));
        memory_is = sym (load_memory m core.split rd c.word (set_by post a.addr c));
        completion_is = sym (load_goes core.split rd c.word None);
        stays = λ e. cc;
      }
      by false = record { core_is = refl; memory_is = refl; completion_is = refl; stays = λ e. cc }

  pub store_leaves : (m : Memory) (a : AccessValue) (w : Word) (pre : Pre) (post : Post) (o : Option Cell)
      → Leaves core m s (stored s w post (reached a pre o)) (core_stored core p (stored_answer pre o))
      (put_where m a.addr pre o (λ c. record {
        word = w;
        full = Rattle.mm_model.specs.Memory.full_after post c.full;
      })) (completion_stored (stored_answer pre o))
  unfolding core_after memory_after plain slot_after
  store_leaves m a w pre post None = record { core_is = refl; memory_is = refl; completion_is = refl; stays = λ e. cc }
  store_leaves m a w pre post (Some c) = by (passes pre c.full)
    where
      by : (b : Bool) → Leaves core m s
          (stored s w post (cond b (Rattle.mm_model.specs.Effect.Reply.Got a c) (Refused Sync)))
          (core_stored core p (cond b Rattle.mm_mem.specs.declared.answer.Stored.TheVariants.Done
          Rattle.mm_mem.specs.declared.answer.Stored.TheVariants.NotReady))
          (cond b (Rattle.mm_model.specs.Memory.put_cell m a.addr
          (record { word = w; full = Rattle.mm_model.specs.Memory.full_after post c.full })) m)
          (completion_stored (cond b Rattle.mm_mem.specs.declared.answer.Stored.TheVariants.Done
          Rattle.mm_mem.specs.declared.answer.Stored.TheVariants.NotReady))
      by true = record { core_is = sym (own_put core apart p within (plain s)); memory_is = refl; completion_is = refl; stays = λ e. cc }
      by false = record { core_is = refl; memory_is = refl; completion_is = refl; stays = λ e. cc }

  -- 3. Pages.

  pub map_leaves : (m : Memory) (rd page : ℕ) (b : Bool)
      → Leaves core m s (maps s rd (Paged page b))
      (with_slot core p (slot_after s (record (plain s) { writes = (rd, Int (test b)) ∷ [] })))
      (cond b (Rattle.mm_model.specs.Memory.map_page m page) m) (Did None)
  unfolding core_after memory_after plain slot_after
  map_leaves m rd page true = record { core_is = sym (own_put core apart p within (record (plain s) { writes = (rd, Int 1) ∷ [] })); memory_is = refl; completion_is = refl; stays = λ e. cc }
  map_leaves m rd page false = record { core_is = sym (own_put core apart p within (record (plain s) { writes = (rd, Int 0) ∷ [] })); memory_is = refl; completion_is = refl; stays = λ e. cc }

  pub unmap_leaves : (m : Memory) (rd page : ℕ) (b : Bool)
      → Leaves core m s (unmaps s rd (Paged page b))
      (with_slot core p (slot_after s (record (plain s) { writes = (rd, Int (test b)) ∷ [] })))
      (cond b (Rattle.mm_model.specs.Memory.unmap_page m page) m) (Did None)
  unfolding core_after memory_after plain slot_after
  unmap_leaves m rd page true = record { core_is = sym (own_put core apart p within (record (plain s) { writes = (rd, Int 1) ∷ [] })); memory_is = refl; completion_is = refl; stays = λ e. cc }
  unmap_leaves m rd page false = record { core_is = sym (own_put core apart p within (record (plain s) { writes = (rd, Int 0) ∷ [] })); memory_is = refl; completion_is = refl; stays = λ e. cc }

-- what is asked with the page that a register names
abbrev pub page_ask : (ℕ → Ask) → Result ℕ Cause → Ask
page_ask asked (Ok page) = asked page
page_ask asked (Err c) = Refuse c

pub page_asked-named : (s : Slot) (ra : ℕ) (asked : ℕ → Ask) → page_asked s.ip.perm (word_bits (register s ra)) (asked (word_bits (register s ra))) ≡ page_ask asked (page_named s ra)
page_asked-named s ra asked = by (is_privileged s.ip.perm) (ltb (word_bits (register s ra)) (2 ^ 42))
  where
    n : ℕ
    n = word_bits (register s ra)

    by : (b d : Bool) → cond b (cond d (asked n) (Refuse Bounds)) (Refuse Priv) ≡ page_ask asked (cond b (cond d (Ok n) (Err Bounds)) (Err Priv))
    by true true = refl
    by true false = refl
    by false d = refl

-- where no register waits that a load names, that which it fills does not
pub free_destination : (s : Slot) (rd ra : ℕ) (pre : Pre) (post : Post) (imm : ℤ) → lacks (Ld rd ra pre post imm) s ≡ false → is_empty s rd ≡ false
unfolding lacks
free_destination s rd ra pre post imm free = by (is_empty s rd) refl
  where
    by : (b : Bool) → is_empty s rd ≡ b → is_empty s rd ≡ false
    by false e = e
    by true e = let h = rw e at free in cc

pub leaves_all : (core : Core) (m : Memory) (s : Slot) (e : Effect) (k : Core) (n : Memory) (o : Completion) (k' : Core) (n' : Memory) (o' : Completion)
    → Leaves core m s e k n o → k' ≡ k → n' ≡ n → o' ≡ o → Leaves core m s e k' n' o'
leaves_all core m s e k n o k' n' o' h same_core same_memory same_completion = record {
  core_is = same_core ∙ h.core_is;
  memory_is = same_memory ∙ h.memory_is;
  completion_is = same_completion ∙ h.completion_is;
  stays = λ e. ap (λ (x : Core). slot_at x s.number) same_core ∙ h.stays (sym same_completion ∙ e);
}

-- a removal is no access
pub no_access : (page : ℕ) (b : Bool) → accesses (removal_use page b) ≡ 0
no_access page true = refl
no_access page false = refl

module _ {M : Type 0} (meaning : M → Memory) (uses : M → ℕ) (stands : M → List Use → Type 0) where
  -- what reaches no cell
  pub executes_untouched : (core : Core) (s : Slot) (i : Instr) (old : M) (core' : Core) (retired : Retired) (o : Completion) (a : Ask) → retired ≡ record { completion = o; touched = None }
      → ask i s ≡ a → touch_of a ≡ None → asked_use (meaning old) a ≡ [] → Leaves core (meaning old) s (effect_in core (meaning old) s i) core' (meaning old) o
      → Executes meaning uses stands core s i old old core' retired
  executes_untouched core s i old core' retired o a is asks untouched unasked leaves =
      executes_quietly meaning uses stands core s i old core' retired a asks untouched unasked
      (leaves_all core (meaning old) s _ core' (meaning old) o core' (meaning old) retired.completion leaves refl refl (ap (λ (x : Retired). x.completion) is))
      (ap (λ (x : Retired). x.touched) is)

pub is_alone-others : (i : Instr) → ((ra : ℕ) → i ≡ Out ra → ⊥) → ((rd ra : ℕ) (pre : Pre) (post : Post) (imm : ℤ)
    → i ≡ Ld rd ra pre post imm → ⊥) → ((ra rb : ℕ) (pre : Pre) (post : Post) (imm : ℤ) → i ≡ St ra rb pre post imm → ⊥)
    → ((rd : ℕ) → i ≡ Evt rd → ⊥) → ((ra : ℕ) (how : How) → i ≡ Resume ra how → ⊥) → ((rd ra reg : ℕ) → i ≡ Rreg rd ra reg → ⊥) → ((ra rb reg : ℕ) → i ≡ Wreg ra rb reg → ⊥)
    → ((rd ra : ℕ) → i ≡ Map rd ra → ⊥) → ((rd ra : ℕ) → i ≡ Unmap rd ra → ⊥) → is_alone i ≡ true
is_alone-others (Out ra) out ld st evt resume rreg wreg mapped unmapped = absurd (out ra refl)
is_alone-others (Ld rd ra pre post imm) out ld st evt resume rreg wreg mapped unmapped = absurd (ld rd ra pre post imm refl)
is_alone-others (St ra rb pre post imm) out ld st evt resume rreg wreg mapped unmapped = absurd (st ra rb pre post imm refl)
is_alone-others (Evt rd) out ld st evt resume rreg wreg mapped unmapped = absurd (evt rd refl)
is_alone-others (Resume ra how) out ld st evt resume rreg wreg mapped unmapped = absurd (resume ra how refl)
is_alone-others (Rreg rd ra reg) out ld st evt resume rreg wreg mapped unmapped = absurd (rreg rd ra reg refl)
is_alone-others (Wreg ra rb reg) out ld st evt resume rreg wreg mapped unmapped = absurd (wreg ra rb reg refl)
is_alone-others (Map rd ra) out ld st evt resume rreg wreg mapped unmapped = absurd (mapped rd ra refl)
is_alone-others (Unmap rd ra) out ld st evt resume rreg wreg mapped unmapped = absurd (unmapped rd ra refl)
is_alone-others _ out ld st evt resume rreg wreg mapped unmapped = refl
