use Rattle.std.proofs.Common.{◌∙◌, sym}
use Rattle.mm_config.specs.Keeping.{IsKeyOf}
use Rattle.mm_config.proofs.Zips.{zip_long}
use Rattle.mm_config.proofs.configs.Configs.len.Goals as goal

pub returns : goal.returns
returns c = λ i v h.
    let me = c.args.self.now in
    c.len.ensures ∙ sym (zip_long (IsKeyOf i.slots me.depth me.store) v.kept me.kept h.each)
