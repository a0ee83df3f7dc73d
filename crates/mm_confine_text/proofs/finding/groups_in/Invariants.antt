use Rattle.std.{proofs.Common.{take}, specs.List.{filter, range_with_len}}
use Rattle.mm_model.specs.Groups.{has_group}
use Rattle.mm_confine_text.specs.Found.{AreGroups}
use Rattle.mm_confine_text.proofs.finding.groups_in.Given as goal

abbrev pub invariant-loop-number : goal.invariant-loop-number
invariant-loop-number l = AreGroups l.kernel.image l.kernel.kept (filter (has_group l.kernel.image.slots) (take l.number (range_with_len 0 64))) l.groups.items
