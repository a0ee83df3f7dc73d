use Rattle.mm_debug.proofs.LineTokens.{after_start, token_cut, end_cut}
use Rattle.mm_debug.proofs.command.take_token.Goals as goal

pub returns-clause-token : goal.returns-clause-token
returns-clause-token c =
    token_cut c.args.line.now _ c.split_at.result.0.now c.split_at.result.1.now c.token_len.result
    (after_start c.args.line.now c.blank_len-start.result c.blank_len-start.ensures.is) c.token_len.ensures.is c.split_at.ensures.front c.split_at.ensures.back

pub returns-clause-end : goal.returns-clause-end
returns-clause-end c none =
    end_cut c.args.line.now _ c.split_at.result.0.now c.split_at.result.1.now c.token_len.result
    (after_start c.args.line.now c.blank_len-start.result c.blank_len-start.ensures.is) c.token_len.ensures.is c.split_at.ensures.front c.split_at.ensures.back none
