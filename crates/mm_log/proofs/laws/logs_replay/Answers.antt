use Rattle.mm_log.proofs.Logs.{logs_replay}
use Rattle.mm_log.proofs.laws.logs_replay.Goals as goal

pub returns : goal.returns
returns c = logs_replay
