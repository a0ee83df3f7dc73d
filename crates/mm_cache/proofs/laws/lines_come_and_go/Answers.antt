use Rattle.mm_cache.proofs.{FillLines.{fills_are_over, clean_lines_go}, WriteBack.lines_are_written_back}
use Rattle.mm_cache.proofs.MapPages.{empty_lines_are_over}
use Rattle.mm_cache.proofs.laws.lines_come_and_go.Goals as goal

pub returns-clause-none : goal.returns-clause-none
returns-clause-none c = empty_lines_are_over

pub returns-clause-fills : goal.returns-clause-fills
returns-clause-fills c = fills_are_over

pub returns-clause-clean : goal.returns-clause-clean
returns-clause-clean c = clean_lines_go

pub returns-clause-back : goal.returns-clause-back
returns-clause-back c = lines_are_written_back
