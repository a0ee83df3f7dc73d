use Rattle.std.proofs.Common.{◌++◌, codes, decimal, sym, ap}
use Rattle.mm_model.specs.Digits.{hex}
use Rattle.mm_text.proofs.Appending.{appends_same}
use Rattle.mm_why.{specs.Text.{number_text, rule_text}, proofs.Texts.appends_word}
use Rattle.mm_why.proofs.text.put_rule.Goals as goal

pub returns-in-Register : goal.returns-in-Register
returns-in-Register g c =
    let slot = codes "register " ++ decimal c.in-Register.slot in
    appends_same (appends_word slot (codes " ") (decimal c.in-Register.register) c.put_slot.ensures c.put.ensures) (sym (ap rule_text c.in-Register.is))

pub returns-in-Cell : goal.returns-in-Cell
returns-in-Cell g c =
    let cell = codes "cell " ++ hex 14 c.in-Cell.word in
    appends_same (appends_word cell (codes " by ") (number_text c.in-Cell.by) c.put_at.ensures c.put_named.ensures) (sym (ap rule_text c.in-Cell.is))

pub returns-in-Passed : goal.returns-in-Passed
returns-in-Passed g c =
    let at = codes "passed " ++ hex 14 c.in-Passed.word in
    let from = number_text c.in-Passed.from in
    let store = number_text c.in-Passed.store in
    let load = number_text c.in-Passed.load in
    let one = appends_word at (codes " from ") from c.put_at-in-Passed.ensures c.put_named-in-Passed.ensures in
    let two = appends_word (at ++ codes " from " ++ from) (codes " store ") store one c.put_named-in-Passed-2.ensures in
    let three = appends_word (at ++ codes " from " ++ from ++ codes " store " ++ store) (codes " load ") load two c.put_named-in-Passed-3.ensures in
    appends_same three (sym (ap rule_text c.in-Passed.is))

pub returns-in-Served : goal.returns-in-Served
returns-in-Served g c =
    let slot = codes "served " ++ decimal c.in-Served.slot in
    appends_same (appends_word slot (codes " from ") (number_text c.in-Served.from) c.put_slot-in-Served.ensures c.put_named-in-Served.ensures) (sym (ap rule_text c.in-Served.is))
