use Rattle.std.{proofs.Common.take, specs.List.All}
use Rattle.mm_net.specs.Net.{AllStart, IsUnused}
use Rattle.mm_top.proofs.nets.boot_nodes.Given as goal

-- the machines of the images so far
abbrev pub invariant-loop-image : goal.invariant-loop-image
invariant-loop-image g l = record {
  start : AllStart (take l.image-index l.images) l.nodes.items;
  unused : All IsUnused l.nodes.items;
}
