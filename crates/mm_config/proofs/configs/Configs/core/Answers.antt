use Rattle.mm_config.proofs.configs.Configs.core.Goals as goal

pub returns : goal.returns
returns c = λ i v h. h.machine.core
