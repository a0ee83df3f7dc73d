use Rattle.std.{proofs.Common.{◌≡◌, ◌≤◌, map, take}, specs.List.All}
use Rattle.mm_net.specs.{declared.link.Link.Link, Nets.nothing_carried, Wires.{Wired, link_list, carried_list}}
use Rattle.mm_net.proofs.wire.wires_of.Given as goal

-- so far the links are those that were gone over, and each has its room
abbrev pub invariant-loop-link : goal.invariant-loop-link
invariant-loop-link l = record {
  links : link_list l.wires.items ≡ take l.link-index l.links;
  carried : carried_list l.wires.items ≡ map (λ (_ : Link). nothing_carried) (take l.link-index l.links);
  room : All (λ (w : Wired). l.room ≤ w.room) l.wires.items;
}
