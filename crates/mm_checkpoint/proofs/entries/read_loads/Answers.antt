use Rattle.std.proofs.Common.{◌≡◌, ℕ, ◌-◌, List, [], ◌∷◌, ◌++◌, refl, subst, ◌∙◌, arith}
use Rattle.std.proofs.lemmas.{List.length-append, Result.err_from_is_err_and}
use Rattle.mm_word.specs.Word.{IsWord}
use Rattle.mm_model.{specs.declared.slot.Pending.Pending, proofs.CoreRows.each_push}
use Rattle.mm_format.specs.{Formats.{Format, times, Parsed.Got}, Reading.FailsOr}
use Rattle.mm_format.proofs.Loops.{nothing_before, times_more, times_stop, times_read}
use Rattle.mm_image.specs.Faults.{number_of}
use Rattle.mm_checkpoint.specs.Format.{load}
use Rattle.mm_checkpoint.proofs.entries.read_loads.Goals as goal

abbrev push : List Pending → Pending → List Pending
push earlier p = earlier ++ p ∷ []

abbrev loads : ℕ → ℕ → List Pending → Format (List Pending)
loads empty = times (load empty) push

pub loop-init : goal.loop-init
loop-init c =
    let reader = c.args.reader.now in
    let all : c.args.count - 0 ≡ c.args.count = omega arith in
    let none : c.new-entries.result.items ≡ [] = c.new-entries.ensures in
    record {
      read = rw (none, all) (nothing_before ((loads c.args.empty c.args.count []).read reader.bytes.now reader.at));
      same = refl;
      words = rw none tt;
      few = rw none (omega arith);
    }

pub returns-in_err-entry-clause-read : goal.returns-in_err-entry-clause-read
returns-in_err-entry-clause-read c =
    let p = err_from_is_err_and c.from_residual.result c.from_residual.ensures.1 in
    let l = c.loop in
    let empty = c.args.empty in
    let bytes = l.reader.bytes.now in
    let e = c.in_err-entry.field-0.0 in
    let fails = subst (λ xs. FailsOr ⊥ number_of ((load empty xs).read bytes l.reader.at) e) c.as_slice.ensures.value
    c.in_err-entry.ensures.read.0 in (
      rw (p.1, p.2) (times_stop (load empty) push c.args.count l.counter l.entries.items bytes l.reader.at l.entries.items
          _ l.invariant.read (omega (arith, c.loop-test.true, c.from-end.ensures)) number_of _ e fails),
      c.in_err-entry.ensures.read.1 ∙ c.loop.invariant.same,
    )

pub loop-preserved : goal.loop-preserved
loop-preserved c =
    let l = c.loop in
    let empty = c.args.empty in
    let bytes = l.reader.bytes.now in
    let a = c.in_ok-entry.entry in
    let next = c.read_load.new.reader.at in
    let read = subst (λ xs. (load empty xs).read bytes l.reader.at ≡ Got a next) c.as_slice.ensures.value
    c.in_ok-entry.ensures.read.0 in
    record {
      read = rw (c.in_ok-entry.ensures.read.1, c.push.ensures.items)
          (times_more (load empty) push c.args.count l.counter l.entries.items bytes l.reader.at l.entries.items _
          l.invariant.read (omega (arith, c.loop-test.true, c.from-end.ensures)) a next read);
      same = c.in_ok-entry.ensures.read.1 ∙ l.invariant.same;
      words = rw c.push.ensures.items (each_push (λ (p : Pending). IsWord p.word) l.entries.items a l.invariant.words
          c.in_ok-entry.ensures.holds);
      few = rw c.push.ensures.items (omega (arith, length-append l.entries.items (a ∷ []), l.invariant.few));
    }

pub returns-clause-read : goal.returns-clause-read
returns-clause-read c =
    let l = c.loop in (
      times_read (load c.args.empty) push c.args.count l.counter l.entries.items l.reader.bytes.now l.reader.at
          l.entries.items _ l.invariant.read (omega (arith, c.loop-test.false, c.from-end.ensures)),
      l.invariant.same,
    )
