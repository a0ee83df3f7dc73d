use Rattle.mm_text.proofs.Appending.{appends_item}
use Rattle.mm_explore.specs.Results.{output_text}
use Rattle.mm_explore.proofs.text.put_outputs.Goals as goal

pub loop-output-preserved : goal.loop-output-preserved
loop-output-preserved g c = appends_item output_text c.args.outputs.now c.loop-output.output-index c.output-item.result
    c.loop-output-test.true c.output-item.is c.loop-output.invariant c.put_output_text.ensures
