use Rattle.std.proofs.Common.{◌==◌, rules, tests}
use Rattle.std.proofs.lemmas.Iterator.{YieldsList-from_slice, Search.position_from_yields_List}
use Prim.Native.Char.{code}
use Rattle.mm_debug.proofs.InputLines.{none_found, found_at}
use Rattle.mm_debug.proofs.command.first_line.Goals as goal

pub returns-in-None-clause-lines : goal.returns-in-None-clause-lines
returns-in-None-clause-lines c =
    let input = c.args.input.now in
    none_found input c.position.result c.requires
    (position_from_yields_List (λ b. b == code "\n") _ _ c.position.result c.position.ensures.ran (YieldsList-from_slice input cc) (λ x b q k. search (rules, tests))) c.in-None.is

pub returns-in-Some-clause-lines : goal.returns-in-Some-clause-lines
returns-in-Some-clause-lines c =
    let input = c.args.input.now in
    found_at input c.position.result c.in-Some.end
    (position_from_yields_List (λ b. b == code "\n") _ _ c.position.result c.position.ensures.ran (YieldsList-from_slice input cc) (λ x b q k. search (rules, tests))) c.in-Some.is
