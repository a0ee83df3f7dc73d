use Rattle.std.{proofs.Common.{◌≡◌, ◌+◌, ◌-◌, ◌≤◌, ◌^◌, List, ◌++◌, length, take, drop}, specs.List.count_by}
use Rattle.mm_model.specs.Image.{Image}
use Rattle.mm_net.specs.declared.item.NetItem.{NetItem}
use Rattle.mm_net.specs.Net.{net_of, links_of, steps_of, room_of, sent_count, StandsFor}
use Rattle.mm_top.specs.Nodes.{is_send}
use Rattle.mm_top.proofs.nets.issue_items.Given as goal

-- the net went on with the items so far, and there is room for what the others send
abbrev pub invariant-loop-item : goal.invariant-loop-item
invariant-loop-item g l = record {
  few : steps_of l.net + (length l.items - l.item-index) ≤ 2 ^ 32;
  room : sent_count (net_of l.net) + count_by is_send (drop l.item-index l.items) ≤ room_of l.net;
  runs : (images : List Image) (before : List NetItem) → StandsFor images before l.initial.net → StandsFor images (before ++ take l.item-index l.items) l.net;
  links : links_of l.net ≡ links_of l.initial.net;
  count : length (net_of l.net).nodes ≡ length (net_of l.initial.net).nodes;
}
