-- Answers of functions that may run out of memory.
use Rattle.std.{proofs.Common.{◌≡◌, Option, None, Result, Ok, Err, sym, subst}, specs.Prelude.{IfOk, IsOkUnless}}
use Rattle.mm_model.specs.Answers.{ValueOrFault}

-- what is made where there is no fault, unless the answer is an error that is allowed
pub gives_value : {X F E : Type 0} (Allows : Option F → E → Type 0) (want : E) (fault : Option F) (value : X) (r : Result X E) → Allows fault want → fault ≡ None
    → IfOk r (λ x. x ≡ value) → IsOkUnless r want → ValueOrFault Allows fault value r
gives_value Allows want fault value (Ok x) allowed none is memory = (none, is)
gives_value Allows want fault value (Err e) allowed none is memory = subst (Allows fault) (sym memory) allowed
