use Rattle.std.proofs.Common.{ap, ◌∙◌}
use Rattle.mm_object.{specs.{Objects.is_among, Steps.key_names}, proofs.Keys.contained}
use Rattle.mm_object.proofs.known.is_known.Goals as goal

pub returns : goal.returns
returns c = c.contains.ensures ∙ contained c.args.known.now.keys c.bytes.result.now ∙ ap (λ n. is_among n (key_names c.args.known.now.keys)) c.bytes.ensures.bytes
