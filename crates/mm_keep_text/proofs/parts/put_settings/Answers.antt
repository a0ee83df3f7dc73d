use Rattle.mm_kernel.specs.Uses.{SetsBit}
use Rattle.mm_keep_text.proofs.{Sets.then_ok, Uses.settings}
use Rattle.mm_keep_text.proofs.parts.put_settings.Goals as goal

pub returns-then-sets_bit : goal.returns-then-sets_bit
returns-then-sets_bit c =
    then_ok c.put_loads.result
    (settings (SetsBit c.args.kernel.now.image c.args.t.now) c.args.uses.now.keys c.put_loads.new.uses.keys c.args.origin c.args.outcomes.now (c.sets_bit.ensures.0 c.if-sets_bit.true))
    c.put_loads.ensures
