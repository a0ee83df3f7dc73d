use Rattle.std.proofs.Common.{◌++◌, sym, refl}
use Rattle.mm_io.proofs.Known.{writes_then, writes_same, writes_cut}
use Rattle.mm_net.specs.{Nets.{net_start, net_uses}, Net.{net_of, links_of}, Texts.{link_lines, nodes_text, net_text}}
use Rattle.mm_net.proofs.Written.{is_an_error, text_is}
use Rattle.mm_net.proofs.net_text.report.Goals as goal

pub returns-in_err-write_nodes-clause-text : goal.returns-in_err-write_nodes-clause-text
returns-in_err-write_nodes-clause-text g c =
    let net = net_of c.args.net.now in
    let w = c.in_err-write_nodes.ensures.text in (
      w.0,
      writes_cut w.1 (nodes_text c.args.images.now net.nodes w.0 ++ link_lines net.links) (link_lines net.links) refl
          c.from_residual.result (is_an_error _ c.from_residual.result c.from_residual.ensures.1),
    )

pub returns-in_err-write_nodes-clause-state : goal.returns-in_err-write_nodes-clause-state
returns-in_err-write_nodes-clause-state g c uses h =
    let net = net_of c.args.net.now in
    writes_cut (c.in_err-write_nodes.ensures.counts uses h)
    (nodes_text c.args.images.now net.nodes (λ n. g.M.Inspect.tells (uses n)) ++ link_lines net.links)
    (link_lines net.links) refl
    c.from_residual.result (is_an_error _ c.from_residual.result c.from_residual.ensures.1)

pub returns-in_err-write_nodes-clause-run : goal.returns-in_err-write_nodes-clause-run
returns-in_err-write_nodes-clause-run g c items h =
    let tells = g.M.Inspect.tells in
    let links = links_of c.args.net.now in
    let uses = net_uses links (net_start c.args.images.now links) items in
    writes_cut (c.in_err-write_nodes.ensures.counts uses h.uses_made) (net_text tells links c.args.images.now items) (link_lines (net_of c.args.net.now).links)
    (text_is tells links c.args.images.now items (net_of c.args.net.now) h.state)
    c.from_residual.result (is_an_error _ c.from_residual.result c.from_residual.ensures.1)

pub returns-clause-text : goal.returns-clause-text
returns-clause-text g c =
    (c.in_ok-write_nodes.ensures.text.0, writes_then c.in_ok-write_nodes.ensures.text.1 c.write_links.ensures)

pub returns-clause-state : goal.returns-clause-state
returns-clause-state g c uses h = writes_then (c.in_ok-write_nodes.ensures.counts uses h) c.write_links.ensures

pub returns-clause-run : goal.returns-clause-run
returns-clause-run g c items h =
    let tells = g.M.Inspect.tells in
    let links = links_of c.args.net.now in
    let uses = net_uses links (net_start c.args.images.now links) items in
    writes_same (writes_then (c.in_ok-write_nodes.ensures.counts uses h.uses_made) c.write_links.ensures)
    (sym (text_is tells links c.args.images.now items (net_of c.args.net.now) h.state))
