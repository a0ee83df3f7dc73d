-- One step of the limit of externals.
use Rattle.std.specs.Prelude.{ℕ, ◌&&◌, List}
use Rattle.mm_line.specs.declared.fault.Fault.TheVariants.{Limit}
use Rattle.mm_draft.specs.{Drafts.Draft, Faults.fault_if, declared.fault.Failure.Failure}
use Rattle.mm_asm.specs.{Names.{Use, is_external, name_of}, Faults.{in_source, is_too_many}}

-- one external too many at this use, after uses with these externals
abbrev pub limit_failure : Draft → List (List ℕ) → Use → List Failure
limit_failure d names u =
    in_source u.source (fault_if (is_external d u && is_too_many names (name_of u)) Limit u.target.mark.left)
