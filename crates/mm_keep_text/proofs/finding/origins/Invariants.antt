use Rattle.std.proofs.Common.{◌≡◌, map, take}
use Rattle.mm_kernel.specs.declared.thread.Origin.TheVariants.{Door}
use Rattle.mm_keep_text.proofs.finding.origins.Given as goal

abbrev pub invariant-loop-door : goal.invariant-loop-door
invariant-loop-door l = l.origins.items ≡ map Door (take l.door-index l.doors)
