use Rattle.std.proofs.Common.{refl}
use Rattle.mm_line.specs.Tokens.{token_at, next_token}
use Rattle.mm_line.proofs.laws.worked_tokens.Goals as goal

pub returns : goal.returns
unfolding token_at next_token
returns c = (refl, (refl, (refl, (refl, (refl, (refl, (refl, (refl, (refl, tt)))))))))
