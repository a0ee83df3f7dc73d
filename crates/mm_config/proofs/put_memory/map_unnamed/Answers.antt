use Rattle.mm_config.proofs.PutCells.{mapped_page}
use Rattle.mm_config.proofs.put_memory.map_unnamed.Goals as goal

pub returns-then-before-eq0-clause-mapped : goal.returns-then-before-eq0-clause-mapped
returns-then-before-eq0-clause-mapped c = λ none. mapped_page c.args.mem.now c.map.new.self c.args.number (c.requires.room none) c.map.ensures.after c.map.ensures.count
