-- A free slot stands for the thread of which nothing is known but where it is: what it can come to leaves all as it is.
use Rattle.std.proofs.Common.{◌≡◌, ℕ, ◌+◌, ◌<◌, inl, Bool, true, false, if◌then◌else◌, ℤ, pos, ◌+ℤ◌, ◌*ℤ◌, List, []}
use Rattle.std.proofs.Common.{◌∷◌, replicate, slice_set, Option, Some, None, Result, Ok, Err, refl, sym, ap, ◌∙◌, subst}
use Rattle.std.{proofs.Common.arith, specs.{List.AllByRecursion, Int.{w64, cast_unsigned, cast_signed}}}
use Rattle.mm_word.specs.declared.{perm.{Perm.TheVariants.{Ro, Rw, Xu, Eu, Key}, Kind.Kind}, cause.Cause.Cause}
use Rattle.mm_word.specs.{declared.word.Pre.Pre, Perm.can_fetch}
use Rattle.mm_word.specs.Pointer.{Pointer, IsBelow, moved_to, lea_result, leab_result, subseg_result, next_result}
use Rattle.mm_word.proofs.Results.{lea_result-IsBelow, next_result-IsBelow}
use Rattle.mm_isa.specs.declared.instr.Instr.{Instr}
use Rattle.mm_isa.specs.declared.instr.Instr.TheVariants.{Halt, Nop, Ldi, Ldhi, Mov, Isptr, Eqw, Out, SelfSlot, Alu}
use Rattle.mm_isa.specs.declared.instr.Instr.TheVariants.{Addi, Lea, Leai, Leab, Restrict, Subseg, Setptr, Ld, St, Br}
use Rattle.mm_isa.specs.declared.instr.Instr.TheVariants.{Bz, Bnz, Jmp, Jal, Lip, Trap, Evt, Resume, Rreg, Wreg, Map}
use Rattle.mm_isa.specs.{declared.instr.{Instr.TheVariants.Unmap, AluOp.TheVariants.Add}, Table.IsInstr, Alu.divides}
use Rattle.mm_model.specs.{Effect.{advanced, moved_on}, Image.Image, Ask.load_kind}
use Rattle.mm_model.proofs.{CoreRows.{each_get, each_set}, EffectWords.{executable_moves, each_or}}
use Rattle.mm_model.proofs.EffectSteps.{moved_perm}
use Rattle.mm_kernel.specs.Segments.{Segment, meets, runs_privileged}
use Rattle.mm_kernel.specs.declared.form.{Form.{Form, TheVariants.{Number, Pointer as Exactly, Integer, Open, Any}}}
use Rattle.mm_kernel.specs.declared.{outcome.Outcome.Outcome, thread.{Origin.TheVariants.Door, Thread.Thread}}
use Rattle.mm_kernel.specs.{Forms.{zero_form, exact_bits}, Threads.{form_in, with_form, stepped, going_to}}
use Rattle.mm_kernel.specs.Operations.{alu_form, high_form, equal_form}
use Rattle.mm_kernel.specs.Turns.{outcomes_of, fault, sets, moves, moved, restricts, loads, stores, branches, branched}
use Rattle.mm_kernel.specs.Turns.{branches_if, jumps, links, at_distance, tests_tag, computes, with_event, seen_as}
use Rattle.mm_kernel.proofs.Segs.{below_within, outside_within}
use Rattle.mm_kernel.proofs.Values.{Public, public_any, public_number, public_integer, public_open, public_outside}
use Rattle.mm_kernel.proofs.{Owns.{Mode.AsAnyone, World}, Ups.{Free, Follows}}
use Rattle.mm_word.specs.declared.cause.Cause.TheVariants as cause
use Rattle.mm_kernel.specs.declared.outcome.Outcome.TheVariants as outcome

-- 1. Pointers from the running code.

pub advanced_below : (p : Pointer) → IsBelow (advanced p) p
unfolding advanced
advanced_below p = by (next_result p) refl
  where
    by : (o : Option Pointer) → next_result p ≡ o → IsBelow (moved_on p o) p
    by None e = inl refl
    by (Some q) e = next_result-IsBelow p q e

pub distance_below : (p q : Pointer) (imm : ℤ) → can_fetch p.perm ≡ true → moved_to p (pos p.addr +ℤ (pos 8 *ℤ imm)) ≡ Ok q → IsBelow q p
distance_below p q imm runs is =
    let moves = executable_moves p.perm runs in
    let lea : lea_result p (pos 8 *ℤ imm) ≡ Ok q = ap (λ b. if b then moved_to p (pos p.addr +ℤ (pos 8 *ℤ imm)) else Err cause.Perm) moves ∙ is in
    lea_result-IsBelow p q (pos 8 *ℤ imm) lea

pub next_perm : (p q : Pointer) → next_result p ≡ Some q → q.perm ≡ p.perm
next_perm p q e = grind arith

-- 2. The thread.

-- the thread of a free slot: at its place, with anything that is shared in its registers
abbrev pub anyone : Thread → Thread
anyone t = record { origin = Door t.ip; handler = t.handler; ip = t.ip; past = t.past; forms = replicate 16 Any }

pub any_register : (t : Thread) (r : ℕ) → r < 16 → form_in (anyone t) r ≡ Any
unfolding form_in
any_register t r lt = each_get (λ (f : Form). f ≡ Any) (replicate 16 Any) r zero_form
    (refl, (refl, (refl, (refl, (refl, (refl, (refl, (refl, (refl, (refl, (refl, (refl, (refl, (refl, (refl, (refl, tt)))))))))))))))) lt

module _ (i : Image) (kept : List Segment) (wd : World i kept) (t : Thread) (out : meets kept t.ip ≡ false) (user : runs_privileged t.ip.perm ≡ false) (runs : can_fetch t.ip.perm ≡ true) where
  abbrev ft : Thread
  ft = anyone t

  all_any : AllByRecursion (Public i kept) (replicate 16 Any)
  all_any = let p = public_any i kept in (p, (p, (p, (p, (p, (p, (p, (p, (p, (p, (p, (p, (p, (p, (p, (p, tt))))))))))))))))

  pub anyone_free : Free i kept (anyone t)
  anyone_free = record { outside = out; forms = all_any; fast = tt }

  abbrev F : Outcome → Type 0
  F o = Follows i kept wd AsAnyone (anyone t) o

  abbrev All : List Outcome → Type 0
  All os = AllByRecursion (Follows i kept wd AsAnyone (anyone t)) os

  faults : (instr : Instr) → F (fault ft instr)
  unfolding fault
  faults instr = anyone_free

  advanced_out : meets kept (advanced t.ip) ≡ false
  advanced_out = outside_within kept (advanced t.ip) t.ip (below_within (advanced t.ip) t.ip (advanced_below t.ip)) out

  goes_on : F (outcome.Goes (stepped ft))
  unfolding stepped
  goes_on = (record { outside = advanced_out; forms = all_any; fast = tt })

  sets_public : (rd : ℕ) (f : Form) → Public i kept f → F (sets ft rd f)
  unfolding stepped sets with_form
  sets_public rd f p = (record { outside = advanced_out; forms = each_set (Public i kept) (replicate 16 Any) rd f all_any p; fast = tt })

  goes_to : (p : Pointer) → IsBelow p t.ip → F (outcome.Goes (going_to ft p))
  goes_to p below = (record { outside = outside_within kept p t.ip (below_within p t.ip below) out; forms = all_any; fast = tt })

  any : (r : ℕ) → r < 16 → form_in ft r ≡ Any
  any = any_register t

  any_public : (r : ℕ) → r < 16 → Public i kept (form_in ft r)
  any_public r lt = subst (Public i kept) (sym (any r lt)) (public_any i kept)

  -- with a known form in place of that of a register
  by_form : (P : Form → List Outcome) (r : ℕ) → r < 16 → All (P Any) → All (P (form_in ft r))
  by_form P r lt h = subst (λ f. All (P f)) (sym (any r lt)) h

  sees : (rd ra : ℕ) (f : Form) (tag : ℕ) → Public i kept f → F (seen_as ft rd ra f tag)
  unfolding stepped with_form
  sees rd ra f tag p =
      let first = each_set (Public i kept) (replicate 16 Any) ra f all_any p in
      (record { outside = advanced_out; forms = each_set (Public i kept) (slice_set (replicate 16 Any) ra f) rd (Number tag) first (public_number i kept tag); fast = tt })

  tested : (rd ra : ℕ) → All (tests_tag ft rd ra Any)
  unfolding tests_tag
  tested rd ra = (
    sees rd ra Integer 0 (public_integer i kept),
    (
      sees rd ra (Open Ro) 1 (public_open i kept Ro),
      (
        sees rd ra (Open Rw) 1 (public_open i kept Rw),
        (
          sees rd ra (Open Xu) 1 (public_open i kept Xu),
          (
            sees rd ra (Open Eu) 1 (public_open i kept Eu),
            (sees rd ra (Open Key) 1 (public_open i kept Key), tt),
          ),
        ),
      ),
    ),
  )

  moved_any : (instr : Instr) (rd : ℕ) (bits : Option ℕ) (by : Pointer → ℕ → Result Pointer Cause) → All (moves kept ft instr rd Any bits by)
  unfolding moves
  moved_any instr rd bits by = (faults instr, (sets_public rd Any (public_any i kept), tt))

  any_moves : (instr : Instr) (rd ra : ℕ) (bits : Option ℕ) (by : Pointer → ℕ → Result Pointer Cause) → ra < 16 → All (moves kept ft instr rd (form_in ft ra) bits by)
  any_moves instr rd ra bits by lt = by_form (λ f. moves kept ft instr rd f bits by) ra lt (moved_any instr rd bits by)

  restricted_any : (instr : Instr) (rd : ℕ) (b : Form) → All (restricts ft instr rd Any b)
  unfolding restricts
  restricted_any instr rd b = (faults instr, (sets_public rd Any (public_any i kept), tt))

  computed : (instr : Instr) (b : Bool) (rd : ℕ) → All (computes ft instr b rd Integer None)
  computed instr false rd = (sets_public rd Integer (public_integer i kept), tt)
  computed instr true rd = (faults instr, (sets_public rd Integer (public_integer i kept), tt))

  loaded_any : (instr : Instr) (rd : ℕ) (imm : ℤ) (pre : Pre) (kind : Kind) → All (loads i kept ft instr rd Any imm pre kind)
  unfolding loads
  loaded_any instr rd imm pre kind = (faults instr, (sets_public rd Any (public_any i kept), tt))

  stored_any : (instr : Instr) (rb : ℕ) (imm : ℤ) (pre : Pre) → rb < 16 → All (stores i kept ft instr Any rb imm pre)
  unfolding stores
  stored_any instr rb imm pre lt = (faults instr, ((tt, any_public rb lt), (goes_on, tt)))

  at : (imm : ℤ) (q : Pointer) → at_distance ft imm ≡ Ok q → IsBelow q t.ip
  at imm q is = distance_below t.ip q imm runs is

  branch : (instr : Instr) (imm : ℤ) → F (branches ft instr imm)
  unfolding branches
  branch instr imm = by (at_distance ft imm) refl
    where
      by : (r : Result Pointer Cause) → at_distance ft imm ≡ r → F (branched ft instr r)
      by (Ok p) is = goes_to p (at imm p is)
      by (Err c) is = faults instr

  link_public : (back : Pointer) → IsBelow back t.ip → back.perm ≡ t.ip.perm → Public i kept (Exactly back)
  link_public back below perm = public_outside i kept back (outside_within kept back t.ip (below_within back t.ip below) out) (ap runs_privileged perm ∙ user)

  lips : (instr : Instr) (rd : ℕ) (imm : ℤ) (r : Result Pointer Cause) → at_distance ft imm ≡ r → All (moved ft instr rd r)
  lips instr rd imm (Ok p) is = (sets_public rd (Exactly p) (link_public p (at imm p is) (moved_perm t.ip p (pos t.ip.addr +ℤ (pos 8 *ℤ imm)) is)), tt)
  lips instr rd imm (Err c) is = (faults instr, tt)

  leaves : F (outcome.Leaves ft)
  leaves = (tt, any_public, tt)

  leaves_linked : (rd : ℕ) (back : Pointer) → Public i kept (Exactly back) → F (outcome.Leaves (with_form ft rd (Exactly back)))
  unfolding with_form form_in
  leaves_linked rd back p = (
    tt,
    (λ r lt. each_or (Public i kept) (slice_set (replicate 16 Any) rd (Exactly back)) r zero_form (each_set (Public i kept) (replicate 16 Any) rd (Exactly back) all_any p)
        (public_number i kept 0)),
    tt,
  )

  jumped_any : (linked : Thread) (instr : Instr) (ra : ℕ) → F (outcome.Leaves linked) → All (jumps ft linked instr ra Any)
  unfolding jumps
  jumped_any linked instr ra h = (faults instr, (h, tt))

  linked_any : (instr : Instr) (rd ra : ℕ) → ra < 16 → (o : Option Pointer) → next_result t.ip ≡ o → All (links ft instr rd ra o)
  linked_any instr rd ra lt None is = (faults instr, tt)
  linked_any instr rd ra lt (Some back) is =
      by_form (jumps ft (with_form ft rd (Exactly back)) instr ra) ra lt
      (jumped_any (with_form ft rd (Exactly back)) instr ra (leaves_linked rd back (link_public back (next_result-IsBelow t.ip back is) (next_perm t.ip back is))))

  events : (rd : ℕ) → F (outcome.Goes (with_event (stepped ft) rd Any Any Any))
  unfolding stepped with_form
  events rd =
      let p = public_any i kept in
      (record {
        outside = advanced_out;
        forms =
            each_set (Public i kept) _ (rd + 3) Any
            (each_set (Public i kept) _ (rd + 2) Any
            (each_set (Public i kept) _ (rd + 1) Any
            (each_set (Public i kept) (replicate 16 Any) rd Integer all_any (public_integer i kept)) p) p) p;
        fast = tt;
      })

  -- what it can come to is as harmless as it is
  pub anyone_follows : (instr : Instr) → IsInstr instr → All (outcomes_of i kept ft instr)
  unfolding outcomes_of alu_form high_form equal_form
  anyone_follows Halt h = tt
  anyone_follows Nop h = (goes_on, tt)
  anyone_follows (Ldi rd imm) h = (sets_public rd _ (public_number i kept _), tt)
  anyone_follows (Ldhi rd imm) h = by_form (λ f. sets ft rd (high_form f imm) ∷ []) rd h.operands.0 (sets_public rd Integer (public_integer i kept), tt)
  anyone_follows (Mov rd ra) h = (sets_public rd (form_in ft ra) (any_public ra h.operands.1.0), tt)
  anyone_follows (Isptr rd ra) h = by_form (tests_tag ft rd ra) ra h.operands.1.0 (tested rd ra)
  anyone_follows (Eqw rd ra rb) h = by_form (λ f. sets ft rd (equal_form f (form_in ft rb)) ∷ []) ra h.operands.1.0 (sets_public rd Integer (public_integer i kept), tt)
  anyone_follows (Out ra) h = (faults (Out ra), (goes_on, tt))
  anyone_follows (SelfSlot rd) h = (sets_public rd Integer (public_integer i kept), tt)
  anyone_follows (Alu op rd ra rb) h =
      by_form (λ f. computes ft (Alu op rd ra rb) (divides op) rd (alu_form op (form_in ft ra) f) (exact_bits f)) rb h.operands.1.1.0 (computed (Alu op rd ra rb) (divides op) rd)
  anyone_follows (Addi rd ra imm) h = by_form (λ f. sets ft rd (alu_form Add f (Number (cast_unsigned w64 imm))) ∷ []) ra h.operands.1.0 (sets_public rd Integer (public_integer i kept), tt)
  anyone_follows (Lea rd ra rb) h = any_moves (Lea rd ra rb) rd ra (exact_bits (form_in ft rb)) (λ p bits. lea_result p (cast_signed w64 bits)) h.operands.1.0
  anyone_follows (Leai rd ra imm) h = any_moves (Leai rd ra imm) rd ra (Some 0) (λ p bits. lea_result p imm) h.operands.1.0
  anyone_follows (Leab rd ra rb) h = any_moves (Leab rd ra rb) rd ra (exact_bits (form_in ft rb)) (λ p bits. leab_result p (cast_signed w64 bits)) h.operands.1.0
  anyone_follows (Restrict rd ra rb) h = by_form (λ f. restricts ft (Restrict rd ra rb) rd f (form_in ft rb)) ra h.operands.1.0 (restricted_any (Restrict rd ra rb) rd (form_in ft rb))
  anyone_follows (Subseg rd ra rb) h = any_moves (Subseg rd ra rb) rd ra (exact_bits (form_in ft rb)) (subseg_result) h.operands.1.0
  anyone_follows (Setptr rd ra) h = (faults (Setptr rd ra), tt)
  anyone_follows (Ld rd ra pre post imm) h = by_form (λ f. loads i kept ft (Ld rd ra pre post imm) rd f imm pre (load_kind post)) ra h.operands.1.0
      (loaded_any (Ld rd ra pre post imm) rd imm pre (load_kind post))
  anyone_follows (St ra rb pre post imm) h = by_form (λ f. stores i kept ft (St ra rb pre post imm) f rb imm pre) ra h.operands.0 (stored_any (St ra rb pre post imm) rb imm pre h.operands.1.0)
  anyone_follows (Br imm) h = (branch (Br imm) imm, tt)
  anyone_follows (Bz ra imm) h = by_form (λ f. branches_if true ft (Bz ra imm) (exact_bits f) imm) ra h.operands.0 (branch (Bz ra imm) imm, (goes_on, tt))
  anyone_follows (Bnz ra imm) h = by_form (λ f. branches_if false ft (Bnz ra imm) (exact_bits f) imm) ra h.operands.0 (branch (Bnz ra imm) imm, (goes_on, tt))
  anyone_follows (Jmp ra) h = by_form (jumps ft ft (Jmp ra) ra) ra h.operands.0 (jumped_any ft (Jmp ra) ra leaves)
  anyone_follows (Jal rd ra) h = linked_any (Jal rd ra) rd ra h.operands.1.0 (next_result t.ip) refl
  anyone_follows (Lip rd imm) h = lips (Lip rd imm) rd imm (at_distance ft imm) refl
  anyone_follows (Trap imm) h = (faults (Trap imm), tt)
  anyone_follows (Evt rd) h = (events rd, ((tt, (λ k e from held. cc)), tt))
  anyone_follows (Resume ra how) h = (faults (Resume ra how), (goes_on, ((λ k u next from held among. cc), tt)))
  anyone_follows (Rreg rd ra reg) h = (faults (Rreg rd ra reg), (sets_public rd Any (public_any i kept), ((tt, (λ k u from held. cc)), tt)))
  anyone_follows (Wreg ra rb reg) h = (faults (Wreg ra rb reg), (goes_on, ((tt, any_public rb h.operands.1.0), ((tt, (λ k u from held. cc)), tt))))
  anyone_follows (Map rd ra) h = (faults (Map rd ra), tt)
  anyone_follows (Unmap rd ra) h = (faults (Unmap rd ra), tt)
