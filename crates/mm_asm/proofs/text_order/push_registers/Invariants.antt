use Rattle.std.{proofs.Common.{◌≡◌, ◌++◌, take}, specs.List.flat_map}
use Rattle.mm_asm.specs.Names.{register_uses}
use Rattle.mm_asm.proofs.text_order.push_registers.Given as goal

abbrev pub invariant-loop-register : goal.invariant-loop-register
invariant-loop-register l = l.uses.items ≡ l.initial.uses.items ++ flat_map register_uses (take l.register-index l.registers)
