use Rattle.std.{proofs.Common.{None, Some, Ok, arith}, specs.List.{enumerate_from, zip}}
use Rattle.mm_machine.specs.Machine.{state_of}
use Rattle.mm_net.specs.{Net.{net_of, node_in}, Texts.node_text}
use Rattle.mm_net.proofs.ListPlaces.{map_at}
use Rattle.mm_net.proofs.Written.{looked_up, writes_nothing, writes_item, writes_all, writes_stop, is_an_error, is_item}
use Rattle.mm_net.proofs.Written.{item_count, with_counts, counted_before, counted_now}
use Rattle.mm_net.proofs.net_text.write_nodes.Goals as goal

pub loop-n-init : goal.loop-n-init
loop-n-init g c =
    let nothing = writes_nothing g.O.Sink.taken g.O.Sink.faults c.args.out.now in
    record { text = (λ n. None, nothing); counts = λ uses stands. nothing }

pub returns-in_err-write_node-clause-text : goal.returns-in_err-write_node-clause-text
returns-in_err-write_node-clause-text g c =
    let net = c.args.net.now in
    let states = (net_of net).nodes in
    let n = c.loop-n.n in
    let m = c.unwrap-node.result.now in
    let here = looked_up c.node.result (node_in net n) c.unwrap-node.result c.node.ensures c.unwrap-node.ensures in
    let item = is_item c.args.images.now states n c.index-images-n.result (state_of m) c.requires (omega (arith, c.node_count-n-end.ensures.count, c.loop-n-test.true)) c.index-images-n.is
    (map_at state_of net.nodes.items n (Some m) here) in
    let before = c.loop-n.invariant.text in
    let now = c.in_err-write_node.ensures.text in
    let counts = with_counts before.0 n now.0 in (
      counts,
      writes_stop (λ x. node_text x.0 x.1.0 x.1.1 (counts x.0)) (enumerate_from 0 (zip c.args.images.now states)) n (n, (c.index-images-n.result, state_of m)) item.inside item.item
          (counted_before before.0 n now.0 (zip c.args.images.now states) before.1)
          (counted_now before.0 n now.0 c.index-images-n.result (state_of m) now.1) c.from_residual.result (is_an_error _ c.from_residual.result c.from_residual.ensures.1),
    )

pub returns-in_err-write_node-clause-counts : goal.returns-in_err-write_node-clause-counts
returns-in_err-write_node-clause-counts g c uses stands =
    let net = c.args.net.now in
    let states = (net_of net).nodes in
    let n = c.loop-n.n in
    let m = c.unwrap-node.result.now in
    let here = looked_up c.node.result (node_in net n) c.unwrap-node.result c.node.ensures c.unwrap-node.ensures in
    let item = is_item c.args.images.now states n c.index-images-n.result (state_of m) c.requires (omega (arith, c.node_count-n-end.ensures.count, c.loop-n-test.true)) c.index-images-n.is
    (map_at state_of net.nodes.items n (Some m) here) in
    writes_stop (λ x. node_text x.0 x.1.0 x.1.1 (g.M.Inspect.tells (uses x.0))) (enumerate_from 0 (zip c.args.images.now states)) n (n, (c.index-images-n.result, state_of m)) item.inside item.item
    (c.loop-n.invariant.counts uses stands) (c.in_err-write_node.ensures.counts (uses n) (stands n m here)) c.from_residual.result (is_an_error _ c.from_residual.result c.from_residual.ensures.1)

pub loop-n-preserved : goal.loop-n-preserved
loop-n-preserved g c =
    let net = c.args.net.now in
    let states = (net_of net).nodes in
    let n = c.loop-n.n in
    let m = c.unwrap-node.result.now in
    let here = looked_up c.node.result (node_in net n) c.unwrap-node.result c.node.ensures c.unwrap-node.ensures in
    let item = is_item c.args.images.now states n c.index-images-n.result (state_of m) c.requires (omega (arith, c.node_count-n-end.ensures.count, c.loop-n-test.true)) c.index-images-n.is
    (map_at state_of net.nodes.items n (Some m) here) in
    let items = enumerate_from 0 (zip c.args.images.now states) in
    let before = c.loop-n.invariant.text in
    let now = c.in_ok-write_node.ensures.text in
    let counts = with_counts before.0 n now.0 in
    record {
      text = (
        counts,
        writes_item {T = Unit {0}} {result = Ok tt} (λ x. node_text x.0 x.1.0 x.1.1 (counts x.0)) items n (n, (c.index-images-n.result, state_of m)) item.inside item.item
            (counted_before before.0 n now.0 (zip c.args.images.now states) before.1)
            (counted_now before.0 n now.0 c.index-images-n.result (state_of m) now.1),
      );
      counts = λ uses stands.
          writes_item {T = Unit {0}} {result = Ok tt} (λ x. node_text x.0 x.1.0 x.1.1 (g.M.Inspect.tells (uses x.0))) items n (n, (c.index-images-n.result, state_of m)) item.inside
          item.item
          (c.loop-n.invariant.counts uses stands) (c.in_ok-write_node.ensures.counts (uses n) (stands n m here));
    }

pub returns-clause-text : goal.returns-clause-text
returns-clause-text g c =
    let states = (net_of c.args.net.now).nodes in
    let counts = c.loop-n.invariant.text.0 in (
      counts,
      writes_all {T = Unit {0}} {result = Ok tt} (λ x. node_text x.0 x.1.0 x.1.1 (counts x.0)) (enumerate_from 0 (zip c.args.images.now states)) c.loop-n.n
          (omega (arith, c.node_count-n-end.ensures.count, c.loop-n-test.false, item_count c.args.images.now states c.requires)) c.loop-n.invariant.text.1,
    )

pub returns-clause-counts : goal.returns-clause-counts
returns-clause-counts g c uses stands =
    let states = (net_of c.args.net.now).nodes in
    writes_all {T = Unit {0}} {result = Ok tt} (λ x. node_text x.0 x.1.0 x.1.1 (g.M.Inspect.tells (uses x.0))) (enumerate_from 0 (zip c.args.images.now states)) c.loop-n.n
    (omega (arith, c.node_count-n-end.ensures.count, c.loop-n-test.false, item_count c.args.images.now states c.requires)) (c.loop-n.invariant.counts uses stands)
