use Rattle.std.proofs.Common.{◌≡◌, ℕ, List, [], length, take, refl, sym, ap, ◌∙◌, subst, arith}
use Rattle.std.{proofs.lemmas.List.{length-map, take_min}, specs.List.All}
use Rattle.mm_io.proofs.Known.{writes_same}
use Rattle.mm_machine.specs.Machine.{state_of}
use Rattle.mm_net.specs.{declared.{link.Link.Link, item.NetItem.NetItem}, Nets.NetState}
use Rattle.mm_net.specs.{Net.{HasNodes, net_of, links_of, sent_count, StandsFor}, Texts.net_text}
use Rattle.mm_net.proofs.SentCounts.{begun_sent}
use Rattle.mm_top.{specs.Nodes.NoneLacking, proofs.{Joined.{all_joined, as_many}, Reported.ends_written}}
use Rattle.mm_top.proofs.nets.write_net.Goals as goal

pub new-requires-clause-some : goal.new-requires-clause-some
new-requires-clause-some g c = omega (arith, c.requires.some, as_many c.args.images.now c.in_ok-nodes.nodes.items c.in_ok-nodes.ensures.start)

pub new-requires-clause-most : goal.new-requires-clause-most
new-requires-clause-most g c = omega (arith, c.requires.few, as_many c.args.images.now c.in_ok-nodes.nodes.items c.in_ok-nodes.ensures.start)

pub new-requires-clause-ends : goal.new-requires-clause-ends
new-requires-clause-ends g c =
    let count = length c.args.images.now in
    let none : NoneLacking c.args.links count = subst (λ (ls : List Link). NoneLacking ls count) c.items.ensures.items c.in_default.ensures in
    subst (λ (nodes : ℕ). All (HasNodes nodes) c.args.links) (sym (as_many c.args.images.now c.in_ok-nodes.nodes.items c.in_ok-nodes.ensures.start)) (all_joined c.args.links count none)

pub issue_items-requires-clause-room : goal.issue_items-requires-clause-room
issue_items-requires-clause-room g c =
    let none : sent_count (net_of c.in_ok-net.net) ≡ 0 = ap sent_count c.in_ok-net.ensures.state ∙ begun_sent c.args.links in
    omega (arith, none, c.in_ok-net.ensures.room, c.count_sends.ensures.count)

pub report-requires : goal.report-requires
report-requires g c =
    let nodes = c.in_ok-nodes.nodes.items in
    sym
    (c.issue_items.ensures.count ∙ ap (λ (s : NetState). length s.nodes) c.in_ok-net.ensures.state ∙ length-map nodes (λ m. state_of m)
    ∙ as_many c.args.images.now nodes c.in_ok-nodes.ensures.start)

pub returns : goal.returns
returns g c =
    let images = c.args.images.now in
    let tells = g.M.Inspect.tells in
    let net = c.issue_items.new.net in
    let first : List NetItem = take c.min.result c.items-items.result.now in
    let is : first ≡ take c.args.cycles c.args.events.now =
    ap (λ (n : ℕ). take n c.items-items.result.now) c.min.ensures ∙ take_min c.args.cycles c.items-items.result.now ∙ ap (take c.args.cycles) c.items-items.ensures.items in
    let stands : StandsFor images first net = c.issue_items.ensures.runs images [] (c.in_ok-net.ensures.stands images c.in_ok-nodes.ensures.start) in
    let links : links_of net ≡ c.args.links = c.issue_items.ensures.links ∙ c.in_ok-net.ensures.links in
    let none : NoneLacking c.args.links (length images) = subst (λ (ls : List Link). NoneLacking ls (length images)) c.items.ensures.items c.in_default.ensures in
    ends_written _ _ _ _ (none, refl) _ _ c.ended.ensures
    (writes_same (c.report.ensures.run first stands)
    (ap (λ (ls : List Link). net_text tells ls images first) links ∙ ap (net_text tells c.args.links images) is))
