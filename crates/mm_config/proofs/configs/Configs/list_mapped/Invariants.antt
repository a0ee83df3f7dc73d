use Rattle.std.proofs.Common.{◌≡◌, take}
use Rattle.mm_config.specs.Noting.{mapped_pages}
use Rattle.mm_config.proofs.configs.Configs.list_mapped.Given as goal

abbrev pub invariant-loop-i : goal.invariant-loop-i
invariant-loop-i l = record {
  list : l.self.mapped.items ≡ take l.i (mapped_pages l.fn.self.mem.memory);
  others : l.self ≡ record l.fn.self { mapped = l.self.mapped };
}
