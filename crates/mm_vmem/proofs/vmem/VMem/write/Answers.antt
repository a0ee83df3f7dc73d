use Rattle.std.proofs.Common.{true, List, [], ◌∷◌, ◌++◌, Option, sym, ap, subst, ◌∙◌}
use Rattle.mm_model.specs.{Memory.put_cell, Uses.Accessed, Counted.block_of}
use Rattle.mm_frames.specs.Framed.{memory_of}
use Rattle.mm_cache.specs.{declared.line.CacheLine.CacheLine, Lines.{hits, with_cell}, Over.over, Laws.Cover}
use Rattle.mm_cache.proofs.WriteCells.{writes_are_over}
use Rattle.mm_vmem.{specs.Cached.{Cached, meaning, StandsTo}, proofs.UsesTaken.stands_written}
use Rattle.mm_vmem.proofs.vmem.VMem.write.Goals as goal

pub invariant_of-self : goal.invariant_of-self
invariant_of-self c = record {
  cover = subst (λ (ls : List (Option CacheLine)). Cover ls (memory_of c.self.inside.frames)) (sym c.put.ensures.after)
      (writes_are_over.cover (memory_of c.self.inside.frames) c.self.inside.lines c.args.word c.args.cell c.self.invariant.cover
      (ap (λ (m : Cached). hits m.lines (block_of c.args.word)) c.self.view_is ∙ c.requires));
  right = c.self.invariant.right;
  few = c.self.invariant.few;
}

pub returns-clause-after : goal.returns-clause-after
unfolding meaning
returns-clause-after c =
    ap (over (memory_of c.self.inside.frames)) c.put.ensures.after
    ∙ writes_are_over.map (memory_of c.self.inside.frames) c.self.inside.lines c.args.word c.args.cell c.self.invariant.cover
    (ap (λ (m : Cached). hits m.lines (block_of c.args.word)) c.self.view_is ∙ c.requires)
    ∙ ap (λ (m : Cached). put_cell (over (memory_of m.frames) m.lines) c.args.word c.args.cell) c.self.view_is

pub returns-clause-takes : goal.returns-clause-takes
returns-clause-takes c us kind writing old =
    subst (λ (m : Cached). StandsTo (record m { lines = c.put.new.self }) (us ++ Accessed kind c.args.word true true ∷ [])) (sym c.self.view_is)
    (stands_written c.args.self.now c.put.new.self c.args.word c.args.cell us kind
    (c.put.ensures.after ∙ ap (λ (m : Cached). with_cell m.lines c.args.word c.args.cell) c.self.view_is) c.requires writing old)
