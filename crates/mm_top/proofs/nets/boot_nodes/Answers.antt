use Rattle.std.proofs.{Common.{[], subst}, lemmas.List.Elements.All-push}
use Rattle.mm_model.specs.Image.{Image}
use Rattle.mm_machine.specs.Machine.{StandsFor}
use Rattle.mm_net.specs.Net.{IsUnused}
use Rattle.mm_top.proofs.Joined.{zip_next}
use Rattle.mm_top.proofs.nets.boot_nodes.Goals as goal

pub loop-image-preserved : goal.loop-image-preserved
loop-image-preserved g c =
    let node = c.in_ok-node.node in
    let P : Image → Type 0 = λ i. StandsFor i [] node in
    record {
      start = zip_next (λ i m. StandsFor i [] m) c.args.images.now c.loop-image.image-index c.image-item.result c.loop-image.nodes.items c.push.new.self.items node c.loop-image-test.true
          c.in_ok-push.ensures.items c.loop-image.invariant.start (subst P c.image-item.is c.in_ok-node.ensures.stands);
      unused = rw c.in_ok-push.ensures.items (All-push IsUnused c.loop-image.nodes.items node c.loop-image.invariant.unused c.in_ok-node.ensures.unused);
    }
