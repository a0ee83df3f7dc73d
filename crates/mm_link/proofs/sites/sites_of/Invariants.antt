use Rattle.std.proofs.Common.{◌≡◌, ◌++◌, ◌+◌, ◌*◌, ◌^◌, ◌≤◌, drop, take}
use Rattle.mm_link.{specs.{Placing.{sites_from, origin}, Steps.part_names}, proofs.Places.site_names}
use Rattle.mm_link.proofs.sites.sites_of.Given as goal

abbrev pub invariant-loop-part : goal.invariant-loop-part
invariant-loop-part l = record {
  sites : l.sites ++ sites_from l.base (drop l.part-index l.parts) ≡ sites_from origin l.parts;
  names : site_names l.sites ≡ part_names (take l.part-index l.parts);
  near : l.base ≤ origin + 2 ^ 20 * l.part-index;
}
