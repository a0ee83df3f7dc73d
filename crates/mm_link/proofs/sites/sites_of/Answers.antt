use Rattle.std.proofs.Common.{ap, ◌∙◌, arith}
use Rattle.mm_link.{specs.Placing.{site_in, sites_from, origin}, proofs.Places.{not_yet, names_more, placed_next}}
use Rattle.mm_link.proofs.sites.sites_of.Goals as goal

pub push-requires-clause-new : goal.push-requires-clause-new
push-requires-clause-new c =
    let l = c.loop-part in
    ap (site_in l.sites) c.name.ensures ∙ not_yet c.args.parts.now l.part-index c.part-item.result l.sites c.requires.apart c.loop-part-test.true c.part-item.is l.invariant.names

pub loop-part-preserved : goal.loop-part-preserved
loop-part-preserved c =
    let l = c.loop-part in
    let parts = c.args.parts.now in
    let p = c.part-item.result in
    record {
      sites = placed_next l.sites c.push.new.self (sites_from origin parts) parts l.part-index l.base p c.name.result.now c.log.result c.size-base.result c.loop-part-test.true
          c.part-item.is l.invariant.sites c.name.ensures c.log.ensures.log
          c.size-base.ensures.size c.in_ok-push.ensures.sites;
      names = names_more l.sites c.push.new.self (record { name = c.name.result.now; log = c.log.result; base = l.base }) parts l.part-index p c.loop-part-test.true
          c.part-item.is l.invariant.names c.in_ok-push.ensures.sites c.name.ensures;
      near = let s = c.size-base.ensures.small in let n = l.invariant.near in omega (arith, s, n);
    }
