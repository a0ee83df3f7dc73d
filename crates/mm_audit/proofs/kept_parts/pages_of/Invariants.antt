use Rattle.std.proofs.Common.{◌≡◌, take}
use Rattle.mm_audit.specs.Own.{is_covered, kept_pages}
use Rattle.mm_audit.proofs.kept_parts.pages_of.Given as goal

abbrev pub invariant-loop-page : goal.invariant-loop-page
invariant-loop-page l = l.kept.items ≡ kept_pages (is_covered l.set) (take l.page-index l.pages)
