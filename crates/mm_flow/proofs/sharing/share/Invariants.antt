use Rattle.mm_flow.specs.Sharing.{AddsEdges}
use Rattle.mm_flow.proofs.sharing.share.Given as goal

abbrev pub invariant-loop-h : goal.invariant-loop-h
invariant-loop-h l = AddsEdges l.h l.fn.sharing l.from l.to l.sharing
