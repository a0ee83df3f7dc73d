-- What the clauses of the top call say, from what the answer to the words says.
use Rattle.std.proofs.Common.{◌≡◌, ◌↔◌, ℕ, List, [], Option, Result, Ok, Err, inl, inr, refl, sym, ap, ◌∙◌, subst}
use Rattle.std.{proofs.Common.append-nil, specs.{Result.OnOk, Io.KnownBytes.append_known}}
use Rattle.mm_io.{specs.{Files.Rose, Sinks.{TookPart, Writes}}, proofs.Known.writes_none}
use Rattle.mm_load.specs.declared.status.Refusal.{Refusal}
use Rattle.mm_load.specs.declared.status.Status.{Status}
use Rattle.mm_load.specs.declared.status.Status.TheVariants.{Done, Usage, Refused, ReadFault, WriteFault, NoMemory}
use Rattle.mm_load.specs.{declared.status.CommandError.CommandError, Files.{AsksFiles, ReadsWhole}, Lines.line_of}
use Rattle.mm_cli.{specs.Table.{Row, Matches, InNoRow, files_of}, proofs.Rows.one_row}
use Rattle.mm_top.specs.Answers.{Answers, Call, ComesTo, ReadFailed, RowEnds, TookLine, refuse, write, status_of}
use Rattle.mm_load.specs.declared.status.CommandError.TheVariants as stop

-- 1. A status other than that of usage, and the end of the command that it comes from.

-- the command that the words ask for ended so
pub record EndsSo (c : Call) (words : List (List ℕ)) (result : Result (Unit {0}) CommandError) : Type 0 where
  pub row : Row
  pub asks : Matches words row
  pub ends : RowEnds c row result

result_at : Status → Result (Unit {0}) CommandError
result_at (Refused r) = Err (stop.Refused r)
result_at ReadFault = Err stop.ReadFault
result_at WriteFault = Err stop.WriteFault
result_at NoMemory = Err stop.NoMemory
result_at _ = Ok tt

at_status : (result : Result (Unit {0}) CommandError) → result_at (status_of result) ≡ result
unfolding result_at
at_status (Ok done) = refl
at_status (Err (stop.Refused r)) = refl
at_status (Err stop.ReadFault) = refl
at_status (Err stop.WriteFault) = refl
at_status (Err stop.NoMemory) = refl

result_of : (result other : Result (Unit {0}) CommandError) → status_of result ≡ status_of other → result ≡ other
result_of result other same = sym (at_status result) ∙ ap result_at same ∙ at_status other

pub not_usage : (result : Result (Unit {0}) CommandError) → status_of result ≡ Usage → ⊥
not_usage (Ok done) same = cc
not_usage (Err (stop.Refused r)) same = cc
not_usage (Err stop.ReadFault) same = cc
not_usage (Err stop.WriteFault) same = cc
not_usage (Err stop.NoMemory) same = cc

ended : {c : Call} {words : List (List ℕ)} {status : Status} → Answers c words status → (result : Result (Unit {0}) CommandError) → status ≡ status_of result → EndsSo c words result
ended {c = c} answers result same = elim answers.cases [
  | inl none ↦ absurd (not_usage result (sym same ∙ none.1))
  | inr says ↦
      let one : says.result ≡ result = result_of says.result result (sym says.answers ∙ same) in
      record { row = says.row; asks = says.asks; ends = subst (λ (x : Result (Unit {0}) CommandError). RowEnds c says.row x) one says.ends }
]

-- 2. The clauses.

pub usage : {c : Call} {words : List (List ℕ)} {status : Status} → Answers c words status → (status ≡ Usage) ↔ InNoRow words
usage answers = elim answers.cases [
  | inl none ↦ (λ _. none.0, λ _. none.1)
  | inr says ↦ (λ same. absurd (not_usage says.result (sym says.answers ∙ same)), λ none. absurd (none says.row says.asks))
]

pub refused : {c : Call} {words : List (List ℕ)} {status : Status} → Answers c words status → (r : Refusal) → status ≡ Refused r
    → ComesTo c.tells c.files.held c.input.left words (refuse r)
refused answers r same = let e = ended answers (Err (stop.Refused r)) same in record { row = e.row; asks = e.asks; gives = e.ends.0 }

pub read_fault : {c : Call} {words : List (List ℕ)} {status : Status} → Answers c words status → status ≡ ReadFault → ReadFailed c.files c.input words
read_fault answers same = let e = ended answers (Err stop.ReadFault) same in (e.row, e.asks, e.ends.0)

pub write_fault : {c : Call} {words : List (List ℕ)} {status : Status} → Answers c words status → status ≡ WriteFault → Rose c.out.before c.out.now
write_fault answers same = let e = ended answers (Err stop.WriteFault) same in e.ends.3

pub asks : {c : Call} {words : List (List ℕ)} {status : Status} → Answers c words status → (row : Row) → Matches words row → AsksFiles c.files [] (files_of row)
asks {c = c} {words = words} answers row in_row = elim answers.cases [
  | inl none ↦ absurd (none.0 row in_row)
  | inr says ↦ subst (λ (x : Row). AsksFiles c.files [] (files_of x)) (one_row words says.row row says.asks in_row) says.asked
]

pub whole : {c : Call} {words : List (List ℕ)} {status : Status} → Answers c words status → status ≡ Done → (row : Row) → Matches words row → ReadsWhole c.files (files_of row)
whole {c = c} {words = words} answers same row in_row = elim answers.cases [
  | inl none ↦ absurd (none.0 row in_row)
  | inr says ↦
      let ok : says.result ≡ Ok tt = result_of says.result (Ok tt) (sym says.answers ∙ same) in
      subst (λ (x : Row). ReadsWhole c.files (files_of x)) (one_row words says.row row says.asks in_row)
      (subst (λ (x : Result (Unit {0}) CommandError). OnOk x (ReadsWhole c.files (files_of says.row))) ok says.whole)
]

pub done : {c : Call} {words : List (List ℕ)} {status : Status} → Answers c words status → status ≡ Done
    → (text : List ℕ) × ComesTo c.tells c.files.held c.input.left words (write text) × (c.out.taken ≡ append_known c.out.taken_before text)
done answers same = let e = ended answers (Ok tt) same in (e.ends.0, record { row = e.row; asks = e.asks; gives = e.ends.1 }, e.ends.2)

pub part : {c : Call} {words : List (List ℕ)} {status : Status} → Answers c words status → status ≡ WriteFault
    → (text : List ℕ) × ComesTo c.tells c.files.held c.input.left words (write text) × TookPart c.out.taken_before c.out.taken text
part answers same = let e = ended answers (Err stop.WriteFault) same in (e.ends.0, record { row = e.row; asks = e.asks; gives = e.ends.1 }, e.ends.2)

pub line : {S T E : Type 0} {taken : S → Option (List ℕ)} {faults : S → ℕ} {old new : S} {result : Result T E} {text : List ℕ}
    → Writes taken faults old new text result → TookLine (taken old) (taken new) (faults old) (faults new) text
line {taken = taken} {faults = faults} {old = old} {new = new} {result = Ok done} {text = text} wrote = record {
  part = record { part = text; rest = []; splits = sym (append-nil text); took = wrote.whole };
  whole = λ _. wrote.whole;
}
line {result = Err fault} wrote = record { part = wrote.part; whole = λ still. absurd (still wrote.failed) }

pub silent : {S T E : Type 0} {taken : S → Option (List ℕ)} {faults : S → ℕ} {old new : S} {result : Result T E} {status : Status}
    → status ≡ Done → Writes taken faults old new (line_of status) result → taken new ≡ taken old
silent same wrote = writes_none (rw same at wrote)
