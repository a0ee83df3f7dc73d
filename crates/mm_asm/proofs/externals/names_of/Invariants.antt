use Rattle.std.proofs.Common.{◌≡◌, ◌++◌}
use Rattle.mm_object.specs.Steps.{key_names}
use Rattle.mm_asm.proofs.externals.names_of.Given as goal

abbrev pub invariant-loop-name : goal.invariant-loop-name
invariant-loop-name l = l.made.items ++ key_names l.name-iterator ≡ key_names l.names.keys
