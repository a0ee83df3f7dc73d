-- What the assembler answers is what a text means, or its first fault.
use Rattle.std.proofs.Common.{◌≡◌, ℕ, List, [], map, Option, Some, None, Result, Ok, Err, refl, sym, ap, ◌∙◌, subst}
use Rattle.std.specs.{Prelude.IfOk, Result.IsErrAnd}
use Rattle.mm_model.specs.Answers.{IsUnless, ValueOrFault}
use Rattle.mm_line.specs.{declared.fault.Fault.Fault, Faults.number_of}
use Rattle.mm_draft.specs.{Drafts.Draft, Seen.Reads, declared.fault.{DraftError.DraftError, Failure.Failure}}
use Rattle.mm_draft.{specs.{Faults.draft_of, Laws.{Pair, failure_pair, least}}, proofs.Least.first_is_least}
use Rattle.mm_object.specs.Objects.{Object}
use Rattle.mm_asm.specs.{declared.fault.AsmError.AsmError, Meaning.object_of}
use Rattle.mm_asm.specs.{Faults.{late_failures, first_fault, Means}, Answers.{Fails, pair_of_error}}
use Rattle.mm_asm.proofs.{Lists.none_map, Texts.{none_least, ok_same}}
use Rattle.mm_draft.specs.declared.fault.DraftError.TheVariants as early
use Rattle.mm_asm.specs.declared.fault.AsmError.TheVariants as errors

-- failures without a least one are none
pub none_late : (failures : List Failure) → least (map failure_pair failures) ≡ None → failures ≡ []
none_late failures e = none_map failure_pair failures (none_least (map failure_pair failures) e)

-- 1. The first fault.

module _ (text : List ℕ) where
  pub first_late : (d : Draft) → draft_of text ≡ Ok d → first_fault text ≡ least (map failure_pair (late_failures d))
  unfolding first_fault
  first_late d e = rw (← first_is_least text, e) refl

  pub first_early : (f : Failure) → draft_of text ≡ Err f → first_fault text ≡ Some (failure_pair f)
  unfolding first_fault
  first_early f e = rw (← first_is_least text, e) refl

  -- 2. Answers.

  pub fault_is : {X : Type 0} (value : X) (q : Option Pair) (r : Result X AsmError) → first_fault text ≡ q → ValueOrFault Fails q value r
      → (kind : Fault) (line column : ℕ) → r ≡ Err (errors.Fault kind line column) → first_fault text ≡ Some (record { line = line; column = column; number = number_of kind })
  fault_is value q r e g kind line column is = e ∙ (rw is at g)

  pub first_is : {X : Type 0} (value : X) (q : Option Pair) (r : Result X AsmError) → first_fault text ≡ q → ValueOrFault Fails q value r
      → (p : Pair) → first_fault text ≡ Some p → IsErrAnd r (Fails (Some p))
  first_is value q (Ok x) e g p f = let none = g.0 in cc
  first_is value q (Err x) e g p f = subst (λ (o : Option Pair). Fails o x) (sym e ∙ f) g

  pub is_meant : (d : Draft) (r : Result Object AsmError) → draft_of text ≡ Ok d → ValueOrFault Fails (least (map failure_pair (late_failures d))) (object_of d) r → IfOk r (λ o. Means text o)
  is_meant d (Ok o) e g = record { draft = d; early = e; late = none_late (late_failures d) g.0; object = g.1 }
  is_meant d (Err x) e g = tt

  pub is_again : (d : Draft) (r : Result Object AsmError) → draft_of text ≡ Ok d
      → ValueOrFault Fails (least (map failure_pair (late_failures d))) (object_of d) r → (o : Object) → Means text o
      → IsUnless errors.NoMemory o r
  is_again d r e g o m = by r g
    where
      same : m.draft ≡ d
      same = ok_same m.draft d (sym m.early ∙ e)

      none : least (map failure_pair (late_failures d)) ≡ None
      none = ap (λ (failures : List Failure). least (map failure_pair failures)) (ap late_failures (sym same) ∙ m.late)

      by : (s : Result Object AsmError) → ValueOrFault Fails (least (map failure_pair (late_failures d))) (object_of d) s → IsUnless errors.NoMemory o s
      by (Ok x) h = h.1 ∙ ap object_of (sym same) ∙ sym m.object
      by (Err (errors.Fault kind line column)) h = absurd (let k = sym none ∙ h in cc)
      by (Err errors.NoMemory) h = refl

-- where reading stopped
module _ (text : List ℕ) where
  pub early_is : {X : Type 0} (error : DraftError) (x : AsmError) → Reads (let r : Result Draft DraftError = Err error in r) (draft_of text) → Fails (pair_of_error error) x
      → (kind : Fault) (line column : ℕ) → (let r : Result X AsmError = Err x in r) ≡ Err
      (errors.Fault kind line column) → first_fault text ≡ Some
      (record { line = line; column = column; number = number_of kind })
  early_is (early.Fault failure) x e g kind line column is =
      let same : x ≡ errors.Fault kind line column = cc in
      first_early text failure e ∙ (rw same at g)
  early_is early.NoMemory x e g kind line column is =
      let same : x ≡ errors.Fault kind line column = cc in
      let none = rw same at g in
      absurd (let k : None ≡ Some (let p : Pair = record { line = line; column = column; number = number_of kind } in p) = none in cc)

  pub early_first : (error : DraftError) (x : AsmError) → Reads (let r : Result Draft DraftError = Err error in r)
      (draft_of text) → Fails (pair_of_error error) x → (p : Pair) → first_fault text ≡ Some p → Fails (Some p) x
  early_first (early.Fault failure) x e g p f = subst (λ (o : Option Pair). Fails o x) (sym (first_early text failure e) ∙ f) g
  early_first early.NoMemory (errors.Fault kind line column) e g p f = absurd cc
  early_first early.NoMemory errors.NoMemory e g p f = tt

  pub early_again : (error : DraftError) (x : AsmError) → Reads (let r : Result Draft DraftError = Err error in r)
      (draft_of text) → Fails (pair_of_error error) x → (o : Object) → Means text o → x ≡ errors.NoMemory
  early_again (early.Fault failure) x e g o m = absurd (let h = m.early in cc (e, h))
  early_again early.NoMemory (errors.Fault kind line column) e g o m = absurd cc
  early_again early.NoMemory errors.NoMemory e g o m = refl
