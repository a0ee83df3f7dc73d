use Rattle.std.{proofs.Common.{List, ℕ, Some, ap, sym, ◌∙◌}, specs.Option.option_map}
use Rattle.mm_link.{specs.declared.fault.LinkFault.TheVariants.Twice, proofs.Again.{name_here, name_next}}
use Rattle.mm_link.proofs.names.check_apart.Goals as goal

pub returns-then-not-branch : goal.returns-then-not-branch
returns-then-not-branch c =
    let l = c.loop-part in
    ap (option_map Twice) (name_here l.names.keys c.args.parts.now l.part-index c.part-item.result c.name.result l.invariant c.loop-part-test.true c.part-item.is c.name.ensures
    c.in_ok-insert.field-0 c.in_ok-insert.ensures.added c.if-not-branch.true)
    ∙ ap (λ (n : List ℕ). Some (Twice n)) (sym c.copied_name.ensures)

pub loop-part-preserved : goal.loop-part-preserved
loop-part-preserved c =
    let l = c.loop-part in
    name_next l.names.keys c.args.parts.now l.part-index c.part-item.result c.name.result l.invariant c.loop-part-test.true c.part-item.is c.name.ensures c.in_ok-insert.field-0
    c.insert.new.self.keys c.in_ok-insert.ensures.added c.if-not-branch.false
    c.in_ok-insert.ensures.keys
