-- A line that says something, without a fault behind a draft, adds it to the draft.
use Rattle.std.proofs.Common.{◌≡◌, ℕ, ◌+◌, Bool, false, nat_le, List, [], ◌∷◌, ◌++◌, length, Some, None, is_some}
use Rattle.std.{proofs.Common.{Result, Ok, refl, ap, ◌∙◌, subst}, specs.Prelude.is_none}
use Rattle.mm_line.specs.declared.{fault.{Fault.Fault, Problem.Problem}, statement.Statement.Statement, line.Line.Line}
use Rattle.mm_line.specs.{Tokens.{token_at, next_token}, Statements.{line_of, body_of}, Ranges.{Names, NamesItsClaim}}
use Rattle.mm_line.proofs.Claims.{line_claims}
use Rattle.mm_draft.specs.declared.fault.Failure.{Failure}
use Rattle.mm_draft.specs.Drafts.{Draft, place_of, last, add_segment, add_words, add_register, add_statement, add_line}
use Rattle.mm_draft.specs.Faults.{fault_if, has_slot, has_register, words_faults, one_if_pointer, claim_faults}
use Rattle.mm_draft.specs.Faults.{statement_faults, line_faults, first_of, source_of, step_by, step, ◌then◌, lines_from}
use Rattle.mm_object.specs.{declared.{item.Item.Item, thread.{Value.Value, Thread.Thread}}, Objects.{Segment, Object}}
use Rattle.mm_disasm.proofs.Saying.{Says, SaysSpare, SaysBegin, SaysWord, SaysThread, SaysRegister, spare_of, begin_of}
use Rattle.mm_disasm.proofs.Saying.{word_of, thread_of, register_of}
use Rattle.mm_model.specs.Limits.{segment_limit}
use Rattle.mm_line.specs.declared.fault.Fault.TheVariants as faults
use Rattle.mm_line.specs.declared.statement.Statement.TheVariants as statement
use Rattle.mm_draft.specs.Drafts as draft

-- a test that does not hold is no fault
pub clear : (b : Bool) (fault : Fault) (left : ℕ) → b ≡ false → fault_if b fault left ≡ []
clear b fault left e = ap (λ (x : Bool). fault_if x fault left) e

-- 1. Any line.

module _ (line : List ℕ) (P : Statement → Type 0) (h : Says line P) where
  claimed : (s : Statement) → h.statement ≡ s → Names s h.left h.claim
  claimed s e = subst (λ (x : Statement). Names x h.left h.claim) e (subst (λ (l : Line). NamesItsClaim l.body) h.is (line_claims line) h.statement refl)

  module _ (number : ℕ) (d : Draft) (s : Statement) (is : h.statement ≡ s) (new : claim_faults d h.claim ≡ []) (free : statement_faults d h.left s ≡ []) where
    no_faults : line_faults d (line_of line) ≡ []
    unfolding line_faults
    no_faults =
        ap (line_faults d) h.is ∙ ap (λ (problems : List Problem). problems ++ statement_faults d h.left h.statement) new
        ∙ ap (statement_faults d h.left) is ∙ free

    adds : step number line d ≡ Ok (add_statement (source_of number line) s d)
    unfolding step add_line
    adds =
        ap (λ (problems : List Problem). step_by (first_of problems) (source_of number line) (line_of line) d) no_faults
        ∙ ap (λ (l : Line). let r : Result Draft Failure = Ok (add_line (source_of number line) l d) in r) h.is
        ∙ ap (λ (x : Statement). let r : Result Draft Failure = Ok (add_statement (source_of number line) x d) in r) is

    pub goes_on : (more : List (List ℕ)) → lines_from number d (line ∷ more) ≡ lines_from (number + 1) (add_statement (source_of number line) s d) more
    unfolding lines_from
    goes_on more = ap (λ (r : Result Draft Failure). r then (λ e. lines_from (number + 1) e more)) adds

-- the empty line says nothing
pub nothing_read : (number : ℕ) (d : Draft) → lines_from number d ([] ∷ []) ≡ Ok d
unfolding lines_from step line_faults add_line line_of body_of next_token token_at
nothing_read number d = refl

-- 2. The lines of an object.

module _ (o : Object) (number : ℕ) (d : Draft) (more : List (List ℕ)) where
  pub spare_read : (frames : ℕ) → Says (spare_of frames) (SaysSpare frames) → d.spare ≡ None →
      lines_from number d (spare_of frames ∷ more) ≡ lines_from (number + 1) (record d { spare = Some frames }) more
  unfolding statement_faults add_statement
  spare_read frames h none =
      let s : Statement = statement.Spare frames in
      let claim = claimed (spare_of frames) (SaysSpare frames) h s h.means in
      let new : claim_faults d h.claim ≡ [] = ap (claim_faults d) claim ∙ clear (is_some d.spare) faults.Twice h.left (ap is_some none) in
      goes_on (spare_of frames) (SaysSpare frames) h number d s h.means new refl more

  pub begin_read : (s : Segment) (h : Says (begin_of s) (SaysBegin s)) → is_some (place_of d s.name) ≡ false → nat_le segment_limit (length d.segments) ≡ false →
      lines_from number d (begin_of s ∷ more) ≡ lines_from (number + 1) (add_segment (record { name = s.name; left = h.means.0 }) s.log d) more
  unfolding statement_faults add_statement
  begin_read s h other few =
      let left : ℕ = h.means.0 in
      let says : Statement = statement.Begin (record { name = s.name; left = left }) s.log in
      let claim = claimed (begin_of s) (SaysBegin s) h says h.means.1 in
      let new : claim_faults d h.claim ≡ [] = ap (claim_faults d) claim ∙ clear (is_some (place_of d s.name)) faults.Twice left other in
      goes_on (begin_of s) (SaysBegin s) h number d says h.means.1 new (clear (nat_le segment_limit (length d.segments)) faults.Limit h.left few) more

  pub word_read : (segment k : ℕ) (item : Item) (h : Says (word_of o segment k item) (SaysWord o segment k item)) →
      words_faults d 1 (one_if_pointer h.means.0) h.left (last d.segments) ≡ [] →
      lines_from number d (word_of o segment k item ∷ more)
      ≡ lines_from (number + 1) (add_words (record { full = item.full; content = h.means.0; source = source_of number (word_of o segment k item) } ∷ []) d) more
  unfolding statement_faults add_statement
  word_read segment k item h free =
      let s : Statement = statement.Word item.full h.means.0 in
      let claim = claimed (word_of o segment k item) (SaysWord o segment k item) h s h.means.1 in
      goes_on (word_of o segment k item) (SaysWord o segment k item) h number d s h.means.1 (ap (claim_faults d) claim) free more

  pub thread_read : (t : Thread) (h : Says (thread_of o t) (SaysThread o t)) → has_slot d t.slot ≡ false →
      let begun : draft.Thread = record { slot = t.slot; group = t.group; handler = t.handler; perm = t.perm; target = h.means.0; source = source_of number (thread_of o t); registers = [] } in
      lines_from number d (thread_of o t ∷ more) ≡ lines_from (number + 1) (record d { threads = d.threads ++ begun ∷ [] }) more
  unfolding statement_faults add_statement
  thread_read t h other =
      let s : Statement = statement.Thread t.slot t.group t.handler t.perm h.means.0 in
      let claim = claimed (thread_of o t) (SaysThread o t) h s h.means.1 in
      let new : claim_faults d h.claim ≡ [] = ap (claim_faults d) claim.1 ∙ clear (has_slot d t.slot) faults.Twice claim.0 other in
      goes_on (thread_of o t) (SaysThread o t) h number d s h.means.1 new refl more

  pub register_read : (k : ℕ) (v : Value) (h : Says (register_of o k v) (SaysRegister o k v)) → is_none (last d.threads) ≡ false → has_register (last d.threads) k ≡ false →
      lines_from number d (register_of o k v ∷ more)
      ≡ lines_from (number + 1) (add_register (record { number = k; value = h.means.0; source = source_of number (register_of o k v) }) d) more
  unfolding statement_faults add_statement
  register_read k v h some other =
      let s : Statement = statement.Register k h.means.0 in
      let claim = claimed (register_of o k v) (SaysRegister o k v) h s h.means.1 in
      let new : claim_faults d h.claim ≡ [] = ap (claim_faults d) claim.1 ∙ clear (has_register (last d.threads) k) faults.Twice claim.0 other in
      goes_on (register_of o k v) (SaysRegister o k v) h number d s h.means.1 new (clear (is_none (last d.threads)) faults.Place h.left some) more
