use Rattle.std.proofs.Common.{◌≡◌, ◌<◌, length, get_or, slice_get, Some, sym, ap, arith}
use Rattle.std.proofs.lemmas.{List.{length-map, take_all}, Option.{slice_get-get_or, get_or_from_slice_get}}
use Rattle.std.specs.List.{flat_map, enumerate_from}
use Rattle.mm_text.proofs.Appending.{appends_item, appends_same, buffered_writes}
use Rattle.mm_net.specs.{Nets.{Carried, nothing_carried}, Net.net_of, Texts.link_line}
use Rattle.mm_net.proofs.{Stepping.{link_by, carried_by}, Written.{placed, places_count}}
use Rattle.mm_net.proofs.net_text.write_links.Goals as goal

pub loop-link-preserved : goal.loop-link-preserved
loop-link-preserved g c =
    let wires = c.args.net.now.wires.items in
    let links = (net_of c.args.net.now).links in
    let l = c.loop-link.link in
    let inside : l < length links = omega (arith, c.link_count-link-end.ensures.count, c.loop-link-test.true, length-map wires link_by, length-map wires carried_by) in
    let carried : Carried = get_or links l nothing_carried in
    let is : slice_get links l ≡ Some carried = slice_get-get_or links l nothing_carried inside in
    appends_item (λ x. link_line x.0 x.1) (enumerate_from 0 links) l (l, carried)
    (omega (arith, inside, places_count links))
    (placed links l carried inside (sym (get_or_from_slice_get links l carried carried is)))
    c.loop-link.invariant (c.put_link.ensures carried is)

pub returns : goal.returns
returns g c =
    let wires = c.args.net.now.wires.items in
    let links = (net_of c.args.net.now).links in
    buffered_writes c.new-text.ensures
    (appends_same c.loop-link.invariant
    (ap (flat_map (λ x. link_line x.0 x.1)) (take_all c.loop-link.link (enumerate_from 0 links)
    (omega (arith, c.link_count-link-end.ensures.count, c.loop-link-test.false, length-map wires link_by, length-map wires carried_by, places_count links)))))
    c.finish.ensures
