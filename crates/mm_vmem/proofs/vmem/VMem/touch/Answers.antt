use Rattle.std.proofs.Common.{◌≡◌, ℕ, ◌+◌, true, false, [], ◌∷◌, ◌++◌, sym, ap, subst, ◌∙◌, arith}
use Rattle.mm_model.specs.{Memory.cell_at, Uses.Accessed, Counted.block_of}
use Rattle.mm_frames.specs.Framed.{memory_of}
use Rattle.mm_cache.specs.{Lines.hits, Over.over}
use Rattle.mm_vmem.specs.{contracts.vmem.VMem.the_view, Cached.{Cached, meaning, StandsTo}}
use Rattle.mm_vmem.proofs.{CellsRead.{cell_is_hit, no_cell_no_hit, read_there}, UsesTaken.{stands_hit, stands_miss}}
use Rattle.mm_vmem.proofs.vmem.VMem.touch.Goals as goal

pub returns-in-Some-clause-answer : goal.returns-in-Some-clause-answer
returns-in-Some-clause-answer c =
    let at = sym c.cell.ensures ∙ c.in-Some.is in
    sym (sym (ap (λ (m : Cached). cell_at (meaning m) c.args.word) c.self.view_is)
    ∙ read_there (the_view c.self.inside) c.args.word c.self.invariant c.requires.aligned (cell_is_hit c.self.inside.lines c.args.word c.in-Some.cell at) ∙ at)

pub returns-in-Some-clause-after : goal.returns-in-Some-clause-after
unfolding meaning
returns-in-Some-clause-after c = ap (λ (m : Cached). over (memory_of m.frames) m.lines) c.self.view_is

pub returns-in-Some-clause-takes : goal.returns-in-Some-clause-takes
returns-in-Some-clause-takes c us kind done nothing old =
    let hit : hits c.args.self.now.lines (block_of c.args.word) ≡ true =
    sym (ap (λ (m : Cached). hits m.lines (block_of c.args.word)) c.self.view_is) ∙ cell_is_hit c.self.inside.lines c.args.word c.in-Some.cell (sym c.cell.ensures ∙ c.in-Some.is) in
    let one_more : c.self.inside.others + c.self.inside.tally.hits + 1 ≡ c.self.inside.others + (c.self.inside.tally.hits + 1) = omega arith in
    let counted : Cached → ℕ → Cached = λ m n. record m { uses = n; numbers = record m.numbers { hits = m.numbers.hits + 1 } } in
    subst (λ (n : ℕ). StandsTo (counted (the_view c.self.inside) n) (us ++ Accessed kind c.args.word true done ∷ [])) one_more
    (subst (λ (m : Cached). StandsTo (counted m (m.uses + 1)) (us ++ Accessed kind c.args.word true done ∷ [])) (sym c.self.view_is)
    (stands_hit c.args.self.now c.args.word us kind done hit nothing old))

pub returns-in-None-clause-answer : goal.returns-in-None-clause-answer
unfolding meaning
returns-in-None-clause-answer c = c.miss.ensures.answer ∙ ap (λ (m : Cached). cell_at (over (memory_of m.frames) m.lines) c.args.word) c.self.view_is

pub returns-in-None-clause-after : goal.returns-in-None-clause-after
unfolding meaning
returns-in-None-clause-after c = c.miss.ensures.after ∙ ap (λ (m : Cached). over (memory_of m.frames) m.lines) c.self.view_is

pub returns-in-None-clause-takes : goal.returns-in-None-clause-takes
returns-in-None-clause-takes c us kind done nothing old =
    let absent : hits c.args.self.now.lines (block_of c.args.word) ≡ false =
    sym (ap (λ (m : Cached). hits m.lines (block_of c.args.word)) c.self.view_is) ∙ no_cell_no_hit c.self.inside.lines c.args.word c.self.invariant.cover.lines (sym c.cell.ensures ∙ c.in-None.is) in
    let one_more : c.self.inside.others + 1 + c.self.inside.tally.hits ≡ c.self.inside.others + c.self.inside.tally.hits + 1 = omega arith in
    stands_miss c.args.self.now (the_view (record c.self.inside { others = c.self.inside.others + 1 })) c.miss.new.self c.args.word us kind done c.miss.result
    (ap (λ (n : ℕ). record (the_view c.self.inside) { uses = n }) one_more ∙ ap (λ (m : Cached). record m { uses = m.uses + 1 }) c.self.view_is) absent nothing c.miss.ensures.count c.miss.ensures.same
    c.miss.ensures.lines c.miss.ensures.entries c.miss.ensures.numbers old
