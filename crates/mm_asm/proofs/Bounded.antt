-- The draft of a text is within its bounds.
use Rattle.std.proofs.Common.{◌≡◌, ℕ, ◌+◌, ◌<◌, Bool, true, false, nat_le, if◌then◌else◌, List, [], ◌∷◌, length}
use Rattle.std.proofs.Common.{replicate, Option, Some, None, is_some, Result, Ok, Err, refl, sym, ap, ◌∙◌, subst, arith}
use Rattle.std.{proofs.lemmas.{List.length-replicate, Bool.Decides.nat_tests}, specs.Prelude.is_none}
use Rattle.mm_draft.proofs.{Steps.zeros_point_nowhere, Allowed.good, Firsts.no_fault}
use Rattle.mm_draft.specs.declared.{source.Source.Source, segment.Word.Word, thread.Register.Register}
use Rattle.mm_draft.specs.declared.fault.Failure.{Failure}
use Rattle.mm_draft.specs.Drafts.{place_in, Segment, Thread, Draft, nothing, last, zero_word, add_statement}
use Rattle.mm_draft.specs.Drafts.{add_reading, add_body, add_maybe_label, add_line}
use Rattle.mm_draft.specs.Faults.{fault_if, is_named, has_slot, has_register, claim_faults, maybe_label_faults}
use Rattle.mm_draft.specs.Faults.{one_if_pointer, statement_faults, reading_faults, body_faults, line_faults, is_before}
use Rattle.mm_draft.specs.Faults.{lesser, first_of, source_of, step_by, step, ◌then◌, lines_from, lines_of, draft_of}
use Rattle.mm_line.specs.declared.{fault.Problem.Problem, name.Mark.Mark, statement.Statement.Statement}
use Rattle.mm_line.specs.{declared.line.{Claim.Claim, Body.Body, Line.Line}, Statements.line_of}
use Rattle.mm_line.specs.Ranges.{IsStatement, IsOptionalBody, IsLine, Names, NamesItsClaim}
use Rattle.mm_line.proofs.{StatementRanges.line_is, Claims.line_claims}
use Rattle.mm_asm.specs.{Bounds.{IsRegister, IsThread, IsDraft}, Laws.DraftsAreBounded}
use Rattle.mm_asm.proofs.{Lists.none_both, Segments.mark_name}
use Rattle.mm_asm.proofs.Kept.{label_kept, begin_kept, words_kept, zeros_are, thread_kept, register_kept}
use Rattle.mm_model.specs.Limits.{segment_limit}
use Rattle.mm_line.specs.declared.fault.Fault.TheVariants as faults
use Rattle.mm_line.specs.declared.statement.Statement.TheVariants as statement
use Rattle.mm_line.specs.declared.line.Claim.TheVariants as claims

-- 1. Statements.

-- what a statement claims was not there
abbrev NoClaim : Draft → Option Claim → Type 0
NoClaim d claim = claim_faults d claim ≡ []

claimed : (d : Draft) (claim c : Option Claim) → claim ≡ c → NoClaim d claim → NoClaim d c
claimed d claim c e h = ap (claim_faults d) (sym e) ∙ h

statement_kept : (source : Source) (most left : ℕ) (d : Draft) (claim : Option Claim) (s : Statement) → IsDraft d
    → statement_faults d left s ≡ [] → NoClaim d claim → Names s left claim → IsStatement most s
    → IsDraft (add_statement source s d)
unfolding statement_faults add_statement
statement_kept source most left d claim (statement.Spare frames) h none new names is = record { segments = h.segments; threads = h.threads; spare = is }
statement_kept source most left d claim (statement.Begin mark log) h none new names is =
    let full = good (nat_le segment_limit (length d.segments)) faults.Limit left none in
    let few : length d.segments < segment_limit = grind (arith, nat_tests, full) in
    let other = good (is_named d mark.name) faults.Twice mark.left (claimed d claim (Some (claims.Segment mark)) names new) in
    record { segments = begin_kept d.segments d.names mark.name log h.segments few other (mark_name most mark is.0) is.1 is.2; threads = h.threads; spare = h.spare }
statement_kept source most left d claim (statement.Fill words) h none new names is =
    record {
      segments = words_kept d h.segments (replicate words (zero_word source)) words 0 left
          (length-replicate words (zero_word source)) (zeros_point_nowhere source words) (zeros_are source words) none;
      threads = h.threads;
      spare = h.spare;
    }
statement_kept source most left d claim (statement.Word full what) h none new names is =
    let w : Word = record { full = full; content = what; source = source } in
    record { segments = words_kept d h.segments (w ∷ []) 1 (one_if_pointer what) left refl (omega arith) ((most, is), tt) none; threads = h.threads; spare = h.spare }
statement_kept source most left d claim (statement.Thread slot group handler perm target) h none new names is =
    let t : Thread = record { slot = slot; group = group; handler = handler; perm = perm; target = target; source = source; registers = [] } in
    let is_thread : IsThread t = record { slot = is.0; group = is.1; handler = is.2; perm = is.3; target = (most, is.4); registers = tt; apart = tt } in
    let other = good (has_slot d slot) faults.Twice names.0 (claimed d claim (Some (claims.Slot slot names.0)) names.1 new) in
    record { segments = h.segments; threads = thread_kept d.threads t h.threads is_thread other; spare = h.spare }
statement_kept source most left d claim (statement.Register number value) h none new names is =
    let r : Register = record { number = number; value = value; source = source } in
    let is_register : IsRegister r = (is.0, (most, is.1)) in
    let other = good (has_register (last d.threads) number) faults.Twice names.0 (claimed d claim (Some (claims.Register number names.0)) names.1 new) in
    record { segments = h.segments; threads = register_kept d.threads r h.threads is_register other; spare = h.spare }

-- 2. Lines.

body_kept : (source : Source) (most : ℕ) (d : Draft) (body : Option Body) → IsDraft d → body_faults d body ≡ [] → IsOptionalBody most body → NamesItsClaim body → IsDraft (add_body source body d)
body_kept source most d None h none is names = h
body_kept source most d (Some body) h none is names = by body.reading refl parts.1
  where
    parts : (claim_faults d body.claim ≡ []) × (reading_faults d body.left body.reading ≡ [])
    parts = none_both (claim_faults d body.claim) (reading_faults d body.left body.reading) none

    by : (r : Result Statement Problem) → body.reading ≡ r → reading_faults d body.left r ≡ [] → IsDraft (add_reading source r d)
    by (Ok s) e f = statement_kept source body.left body.left d body.claim s h f parts.0 (names s e) (is.reading.ok s e)
    by (Err problem) e f = absurd cc

label_is_kept : (d : Draft) (label : Option (Result Mark Problem)) → IsDraft d → maybe_label_faults d label ≡ [] → IsDraft (add_maybe_label label d)
label_is_kept d None h none = h
label_is_kept d (Some (Err problem)) h none = absurd cc
label_is_kept d (Some (Ok mark)) h none = by (last d.segments) refl first
  where
    both : (fault_if (is_none (last d.segments)) faults.Place mark.left ≡ []) × (fault_if (is_named d mark.name) faults.Twice mark.left ≡ [])
    both = none_both (fault_if (is_none (last d.segments)) faults.Place mark.left) (fault_if (is_named d mark.name) faults.Twice mark.left) none

    first : is_none (last d.segments) ≡ false
    first = good (is_none (last d.segments)) faults.Place mark.left both.0

    new : is_some (place_in d.names mark.name) ≡ false
    new = good (is_named d mark.name) faults.Twice mark.left both.1

    by : (o : Option Segment) → last d.segments ≡ o → is_none o ≡ false → IsDraft (add_maybe_label (Some (Ok mark)) d)
    by None e f = absurd cc
    by (Some s) e f = record { segments = label_kept d.segments d.names mark.name s h.segments e new; threads = h.threads; spare = h.spare }

line_kept : (source : Source) (bytes : List ℕ) (d : Draft) → IsDraft d → line_faults d (line_of bytes) ≡ [] → IsDraft (add_line source (line_of bytes) d)
unfolding line_faults add_line
line_kept source bytes d h none =
    let line : Line = line_of bytes in
    let is : IsLine (length bytes) line = line_is bytes in
    let parts = none_both (maybe_label_faults d line.label) (body_faults (add_maybe_label line.label d) line.body) none in
    body_kept source (length bytes) (add_maybe_label line.label d) line.body (label_is_kept d line.label h parts.0) parts.1 is.body (line_claims bytes)

-- 3. Texts.

lesser_is : (p : Problem) (o : Option Problem) → lesser p o ≡ None → ⊥
lesser_is p None e = cc
lesser_is p (Some q) e = by (is_before q p) e
  where
    by : (b : Bool) → (if b then Some q else Some p) ≡ None → ⊥
    by true f = cc
    by false f = cc

step_kept : (number : ℕ) (bytes : List ℕ) (d e : Draft) → IsDraft d → step number bytes d ≡ Ok e → IsDraft e
unfolding step
step_kept number bytes d e h is = by (first_of (line_faults d (line_of bytes))) refl is
  where
    by : (o : Option Problem) → first_of (line_faults d (line_of bytes)) ≡ o → step_by o (source_of number bytes) (line_of bytes) d ≡ Ok e → IsDraft e
    by None f g =
        let same : add_line (source_of number bytes) (line_of bytes) d ≡ e = cc g in
        subst IsDraft same (line_kept (source_of number bytes) bytes d h (no_fault (line_faults d (line_of bytes)) f))
    by (Some problem) f g = absurd cc

lines_kept : (lines : List (List ℕ)) (number : ℕ) (d e : Draft) → IsDraft d → lines_from number d lines ≡ Ok e → IsDraft e
unfolding lines_from
lines_kept [] number d e h is = subst IsDraft (let same : d ≡ e = cc is in same) h
lines_kept (bytes ∷ lines) number d e h is = by (step number bytes d) refl is (λ f k. lines_kept lines (number + 1) f e k)
  where
    by : (r : Result Draft Failure) → step number bytes d ≡ r → (r then (λ f. lines_from (number + 1) f lines)) ≡ Ok e
        → ((f : Draft) → IsDraft f → lines_from (number + 1) f lines ≡ Ok e → IsDraft e) → IsDraft e
    by (Ok f) g k later = later f (step_kept number bytes d f h g) k
    by (Err failure) g k later = absurd cc

nothing_is : IsDraft nothing
nothing_is = record {
  segments = record { few = omega arith; each = tt; names = refl; words = omega arith; pointers = omega arith; named = tt; alone = refl; places = tt };
  threads = record { each = tt; apart = tt };
  spare = omega arith;
}

pub drafts_are_bounded : DraftsAreBounded
unfolding draft_of
drafts_are_bounded text d e = lines_kept (lines_of text) 0 nothing d nothing_is e
