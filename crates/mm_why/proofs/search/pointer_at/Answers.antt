use Rattle.std.proofs.Common.{◌≡◌, ◌%◌, sym, ap, ◌∙◌, subst}
use Rattle.mm_model.specs.Memory.{cell_at}
use Rattle.mm_why.{specs.Graphs.IsFound, proofs.GraphFacts.{found_at, never_none, found_pointer, same_pointer}}
use Rattle.mm_why.proofs.search.pointer_at.Goals as goal

pub cell-requires : goal.cell-requires
cell-requires c =
    subst (λ v. v % 8 ≡ 0) (sym c.word_at.ensures) (found_at c.args.image.now c.args.graph.now c.requires.graph c.args.k c.requires.small).1.aligned

pub unreachable-requires : goal.unreachable-requires
unreachable-requires c =
    never_none c.args.image.now c.args.graph.now c.requires.graph c.args.k c.requires.small
    (ap (cell_at c.args.image.now.memory) (sym c.word_at.ensures) ∙ sym c.cell.ensures ∙ c.in_default.is)

pub unreachable-requires-in_default-pointer_in : goal.unreachable-requires-in_default-pointer_in
unreachable-requires-in_default-pointer_in c =
    let f = found_pointer c.args.image.now c.args.graph.now c.requires.graph c.args.k c.requires.small c.in-Some.cell
    (ap (cell_at c.args.image.now.memory) (sym c.word_at.ensures) ∙ sym c.cell.ensures ∙ c.in-Some.is) in
    c.in_default-pointer_in.not-Some f.0 (c.pointer_in.ensures f.0 f.1)

pub returns : goal.returns
returns c =
    let f = found_pointer c.args.image.now c.args.graph.now c.requires.graph c.args.k c.requires.small c.in-Some.cell
    (ap (cell_at c.args.image.now.memory) (sym c.word_at.ensures) ∙ sym c.cell.ensures ∙ c.in-Some.is) in
    subst (IsFound c.args.image.now c.args.graph.now c.args.k) (same_pointer c.pointer_in.result f.0 c.in-Some-pointer_in.pointer (c.pointer_in.ensures f.0 f.1) c.in-Some-pointer_in.is) f.2
