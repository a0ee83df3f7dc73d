use Rattle.std.proofs.lemmas.Result.{on_ok_weaker}
use Rattle.mm_config.proofs.OneNote.{queue_of_one, queue_of_none}
use Rattle.mm_config.proofs.configs.Configs.note_queue_of.Goals as goal

pub returns-in-Some : goal.returns-in-Some
returns-in-Some c =
    on_ok_weaker c.note_queue.result
    (queue_of_one c.args.self.now c.args.number c.requires c.known.ensures c.in-Some.at c.note_queue.new.self c.in-Some.ensures.within c.in-Some.ensures.number) c.note_queue.ensures

pub returns-in-None : goal.returns-in-None
returns-in-None c = queue_of_none c.args.self.now c.args.number c.requires c.known.ensures c.in-None.ensures.missing
