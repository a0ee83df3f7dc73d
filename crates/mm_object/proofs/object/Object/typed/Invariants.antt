use Rattle.std.{proofs.Common.take, specs.List.AllByRecursion}
use Rattle.mm_object.specs.Objects.{IsObject}
use Rattle.mm_object.proofs.object.Object.typed.Given as goal

-- of the objects so far
abbrev pub invariant-loop-object : goal.invariant-loop-object
invariant-loop-object l = AllByRecursion IsObject (take l.object-index l.objects)
