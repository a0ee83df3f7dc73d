-- A line of a text, and the loop over its lines.
use Rattle.std.proofs.Common.{◌≡◌, ℕ, ◌+◌, ◌<◌, ◌≤◌, List, length, drop, get_or, Option, Some, None, Result, Ok, Err}
use Rattle.std.proofs.Common.{refl, sym, ap, subst, ◌∙◌, arith}
use Rattle.std.proofs.lemmas.List.{drop_more, drop_all, FromFn.{length-enumerate_from, get_or-enumerate_from}}
use Rattle.std.specs.{List.enumerate_from, Option.option_or}
use Rattle.mm_line.specs.{declared.{fault.Problem.Problem, line.Line.Line}, Statements.line_of}
use Rattle.mm_draft.specs.declared.source.Source.{Source}
use Rattle.mm_draft.specs.declared.fault.{Failure.Failure, DraftError.{DraftError, TheVariants.{Fault, NoMemory}}}
use Rattle.mm_draft.specs.Drafts.{Draft, add_line, add_body, add_maybe_label}
use Rattle.mm_draft.specs.Faults.{first_of, maybe_label_faults, body_faults, source_of, step, step_by, lines_from}
use Rattle.mm_draft.{specs.{Faults.◌then◌, Seen.{Leaves, Reads, unless}}, proofs.Positions.line_first}

-- 1. A line is its label and then its statement.

step_unless : (o : Option Problem) (source : Source) (line : Line) (d : Draft) → step_by o source line d ≡ unless o source (add_line source line d)
step_unless None source line d = refl
step_unless (Some p) source line d = refl

pub step_is : (number : ℕ) (bytes : List ℕ) (d : Draft) → let line = line_of bytes in
    step number bytes d ≡ unless (option_or (first_of (maybe_label_faults d line.label))
    (first_of (body_faults (add_maybe_label line.label d) line.body))) (source_of number bytes)
    (add_body (source_of number bytes) line.body (add_maybe_label line.label d))
unfolding step add_line
step_is number bytes d = step_unless _ _ _ d ∙ ap (λ o. unless o (source_of number bytes) (add_line (source_of number bytes) (line_of bytes) d)) (line_first d bytes)

label_stops : (o q : Option Problem) (source : Source) (d e : Draft) (failure : Failure) → unless o source d ≡ Err failure → unless (option_or o q) source e ≡ Err failure
label_stops None q source d e failure h = cc
label_stops (Some p) q source d e failure h = h

label_goes : (o q : Option Problem) (source : Source) (d e : Draft) (next : Draft) → unless o source d ≡ Ok next → unless (option_or o q) source e ≡ unless q source e
label_goes None q source d e next h = refl
label_goes (Some p) q source d e next h = cc

same_draft : (o : Option Problem) (source : Source) (d next : Draft) → unless o source d ≡ Ok next → d ≡ next
same_draft None source d next h = cc
same_draft (Some p) source d next h = cc

-- the label has a fault
stops : (number : ℕ) (bytes : List ℕ) (line : Line) (d : Draft) (failure : Failure) → line ≡ line_of bytes
    → unless (first_of (maybe_label_faults d line.label)) (source_of number bytes) (add_maybe_label line.label d) ≡ Err failure → step number bytes d ≡ Err failure
stops number bytes line d failure is h =
    let h' = subst (λ (l : Line). unless (first_of (maybe_label_faults d l.label)) (source_of number bytes) (add_maybe_label l.label d) ≡ Err failure) is h in
    step_is number bytes d ∙ label_stops _ _ _ _ _ failure h'

pub label_err : (X : Type 0) (number : ℕ) (bytes : List ℕ) (line : Line) (d new : Draft) (error : DraftError) → line ≡ line_of bytes
    → Leaves {X = X} (Err error) new (unless (first_of (maybe_label_faults d line.label)) (source_of number bytes)
    (add_maybe_label line.label d)) → Leaves {X = X} (Err error) new (step number bytes d)
label_err X number bytes line d new (Fault failure) is h = stops number bytes line d failure is h
label_err X number bytes line d new NoMemory is h = tt

-- the label has none, and the statement follows
pub goes : (number : ℕ) (bytes : List ℕ) (line : Line) (d next : Draft) → line ≡ line_of bytes
    → unless (first_of (maybe_label_faults d line.label)) (source_of number bytes) (add_maybe_label line.label d) ≡ Ok next
    → step number bytes d ≡ unless (first_of (body_faults next line.body)) (source_of number bytes) (add_body (source_of number bytes) line.body next)
goes number bytes line d next is h =
    let source = source_of number bytes in
    let h' = subst (λ (l : Line). unless (first_of (maybe_label_faults d l.label)) source (add_maybe_label l.label d) ≡ Ok next) is h in
    let same = same_draft _ _ _ next h' in
    step_is number bytes d ∙ label_goes _ _ _ _ _ next h' ∙ (λ i. unless (first_of (body_faults (same i) (line_of bytes).body)) source (add_body source (line_of bytes).body (same i)))
    ∙ ap (λ (l : Line). unless (first_of (body_faults next l.body)) source (add_body source l.body next)) (sym is)

-- 2. The lines from a number on.

front : (lines : List (List ℕ)) (n : ℕ) (x : List ℕ) (d : Draft) → n < length lines → lines_from n d (drop n lines) ≡ (step n (get_or lines n x) d then λ e. lines_from (n + 1) e (drop (n + 1) lines))
unfolding lines_from
front lines n x d lt = ap (lines_from n d) (drop_more lines n x lt)

line_ok : (lines : List (List ℕ)) (n : ℕ) (x : List ℕ) (d e : Draft) → n < length lines → x ≡ get_or lines n x
    → step n x d ≡ Ok e → lines_from n d (drop n lines) ≡ lines_from (n + 1) e (drop (n + 1) lines)
line_ok lines n x d e lt at h = front lines n x d lt
    ∙ ap (λ y. step n y d then λ e. lines_from (n + 1) e (drop (n + 1) lines)) (sym at)
    ∙ ap (λ (r : Result Draft Failure). r then λ e. lines_from (n + 1) e (drop (n + 1) lines)) h

line_err : (lines : List (List ℕ)) (n : ℕ) (x : List ℕ) (d : Draft) (failure : Failure) → n < length lines
    → x ≡ get_or lines n x → step n x d ≡ Err failure → lines_from n d (drop n lines) ≡ Err failure
line_err lines n x d failure lt at h = front lines n x d lt
    ∙ ap (λ y. step n y d then λ e. lines_from (n + 1) e (drop (n + 1) lines)) (sym at)
    ∙ ap (λ (r : Result Draft Failure). r then λ e. lines_from (n + 1) e (drop (n + 1) lines)) h

line_end : (lines : List (List ℕ)) (n : ℕ) (d : Draft) → length lines ≤ n → lines_from n d (drop n lines) ≡ Ok d
unfolding lines_from
line_end lines n d le = ap (lines_from n d) (drop_all n lines le)

-- 3. A turn of the loop over the lines with their numbers.

pub record IsLineAt (lines : List (List ℕ)) (n number : ℕ) (x : List ℕ) : Type 0 where
  pub within : n < length lines
  pub number_is : number ≡ n
  pub bytes_are : x ≡ get_or lines n x

pub at_turn : (lines : List (List ℕ)) (n : ℕ) (p : ℕ × List ℕ) → (n < length (enumerate_from 0 lines)) × (p ≡ get_or (enumerate_from 0 lines) n p) → IsLineAt lines n p.0 p.1
at_turn lines n p h =
    let lt : n < length lines = omega (arith, h.0, length-enumerate_from 0 lines) in
    let e = h.1 ∙ get_or-enumerate_from 0 lines n p lt in
    record { within = lt; number_is = let a = ap (λ (q : ℕ × List ℕ). q.0) e in omega arith; bytes_are = ap (λ (q : ℕ × List ℕ). q.1) e }

-- a line that stops the reading
pub text_err : (X : Type 0) (lines : List (List ℕ)) (n number : ℕ) (x : List ℕ) (d new : Draft) (error : DraftError) (total : Result Draft Failure) → IsLineAt lines n number x
    → lines_from n d (drop n lines) ≡ total → Leaves {X = X} (Err error) new (step number x d) → Reads (Err error) total
text_err X lines n number x d new (Fault failure) total at so_far h = sym so_far ∙ line_err lines n x d failure at.within at.bytes_are (ap (λ m. step m x d) (sym at.number_is) ∙ h)
text_err X lines n number x d new NoMemory total at so_far h = tt

-- a line that is read
pub text_ok : (lines : List (List ℕ)) (n number m : ℕ) (x : List ℕ) (d e : Draft) (total : Result Draft Failure) → IsLineAt lines n number x → m ≡ n + 1
    → lines_from n d (drop n lines) ≡ total → step number x d ≡ Ok e → lines_from m e (drop m lines) ≡ total
text_ok lines n number m x d e total at next so_far h =
    ap (λ k. lines_from k e (drop k lines)) next ∙ sym (line_ok lines n x d e at.within at.bytes_are (ap (λ k. step k x d) (sym at.number_is) ∙ h)) ∙ so_far

-- the last line was read
pub text_end : (lines : List (List ℕ)) (n : ℕ) (d : Draft) (total : Result Draft Failure) → n ≡ length (enumerate_from 0 lines) → lines_from n d (drop n lines) ≡ total → total ≡ Ok d
text_end lines n d total all so_far = sym so_far ∙ line_end lines n d (omega (arith, all, length-enumerate_from 0 lines))
