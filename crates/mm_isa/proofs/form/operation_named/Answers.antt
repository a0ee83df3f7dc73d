use Rattle.std.proofs.Common.{rules, ◌≡◌, ℕ, Some, None, ap, sym, ◌∙◌, subst, arith}
use borrow.Author.Count.{below_more}
use Rattle.mm_isa.specs.{Table.unused, Decode.{row_of, operation_named}}
use Rattle.mm_isa.proofs.Forms.{NamesOther, name_read, name_not_read, operation_named-name, operation_named-none}
use Rattle.mm_isa.proofs.{Forms.no_instr_named, form.operation_named.Goals.{in-Some+else-is_named, in_default}}
use Rattle.mm_isa.proofs.form.operation_named.Goals as goal

pub returns-then-is_named-clause-value : goal.returns-then-is_named-clause-value
returns-then-is_named-clause-value c =
    let same = name_read c.args.name.now c.in-Some.instr (sym c.is_named.ensures ∙ c.if-is_named.true) in
    ap Some c.form.ensures ∙ sym (operation_named-name c.in-Some.instr) ∙ ap operation_named same

pub loop-code-preserved : goal.loop-code-preserved
loop-code-preserved c =
    let P : ℕ → Type 0 = λ code. NamesOther c.args.name.now (row_of (unused code)) in
    let row : c.row.result ≡ row_of (unused c.loop-code.code) = c.row.ensures ∙ ap row_of c.unused.ensures in
    below_more P c.loop-code.code c.loop-code.invariant
    (elim c.match-row.branch [
      | in-Some+else-is_named w ↦
          let other = name_not_read c.args.name.now w.in-Some.instr (sym w.is_named.ensures ∙ w.if-is_named.false) in
          subst (NamesOther c.args.name.now) (sym w.in-Some.is ∙ row) other
      | in_default w ↦
          let none : c.row.result ≡ None = search rules in
          subst (NamesOther c.args.name.now) (sym none ∙ row) tt
    ])

pub returns-clause-value : goal.returns-clause-value
returns-clause-value c =
    sym (operation_named-none c.args.name.now (no_instr_named c.args.name.now (λ code small. c.loop-code.invariant code (omega arith))))

pub returns-clause-none : goal.returns-clause-none
returns-clause-none c = no_instr_named c.args.name.now (λ code small. c.loop-code.invariant code (omega arith))
