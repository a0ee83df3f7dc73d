use Rattle.std.proofs.Common.{◌≡◌, ◌<◌, ℕ, List, Option, length, sym, ap, subst, ◌∙◌, arith, get_or, set, refl}
use Rattle.mm_model.specs.Counted.{block_of, line_of}
use Rattle.mm_cache.specs.declared.line.CacheLine.{CacheLine}
use Rattle.mm_cache.specs.Lines.{AreLines, line_in, line_with, is_in, hits, with_cell}
use Rattle.mm_cache.proofs.{DropPage.index_in, Placed.lines_written}
use Rattle.mm_cache.proofs.lines.Lines.put.Goals as goal

-- the index is that of the word's block
index : (c : goal.After-write) → c.line_of.result ≡ line_of (block_of c.args.word)
index c = c.line_of.ensures.index ∙ ap line_of c.block_of.ensures

-- the line that is written is the one with that index
its_line : (c : goal.After-write) → get_or c.self.inside.lines c.line_of.result c.index-self-line_of.result ≡ line_in c.self.inside.lines (line_of (block_of c.args.word))
its_line c =
    let within : c.line_of.result < length c.self.inside.lines = omega (arith, c.line_of.ensures.within, c.self.invariant.many) in
    sym (index_in c.self.inside.lines c.line_of.result c.index-self-line_of.result within)
    ∙ ap (line_in c.self.inside.lines) (index c)

written : (c : goal.After-write) → set c.self.inside.lines c.line_of.result c.write.new.line ≡ with_cell c.self.inside.lines c.args.word c.args.cell
written c =
    let ls : List (Option CacheLine) = c.self.inside.lines in
    ap (λ (i : ℕ). set ls i c.write.new.line) (index c)
    ∙ ap (set ls (line_of (block_of c.args.word))) (c.write.ensures.after ∙ ap (λ (o : Option CacheLine). line_with o c.args.word c.args.cell) (its_line c))

pub invariant_of-self : goal.invariant_of-self
invariant_of-self c =
    let ls : List (Option CacheLine) = c.self.inside.lines in
    subst AreLines (sym (written c)) (lines_written ls c.args.word c.args.cell (line_in ls (line_of (block_of c.args.word))) c.self.invariant refl)

pub returns-clause-answer : goal.returns-clause-answer
returns-clause-answer c =
    c.write.ensures.answer ∙ ap (λ (o : Option CacheLine). is_in o (block_of c.args.word)) (its_line c) ∙ ap (λ (ls : List (Option CacheLine)). hits ls (block_of c.args.word)) c.self.view_is

pub returns-clause-after : goal.returns-clause-after
returns-clause-after c = written c ∙ ap (λ (ls : List (Option CacheLine)). with_cell ls c.args.word c.args.cell) c.self.view_is
