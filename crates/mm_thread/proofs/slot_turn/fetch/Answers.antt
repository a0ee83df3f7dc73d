use Rattle.std.proofs.Common.{◌≡◌, [], ◌∷◌, true, false, Some, None, sym, ap, ◌∙◌}
use Rattle.mm_word.specs.declared.{cause.Cause.TheVariants.{NoPage, Illegal}}
use Rattle.mm_model.specs.{Memory.{Memory, cell_at}, Uses.Accessed, Turn.instr_in}
use Rattle.mm_thread.specs.{SlotIndices.slot_in, Told.told_at}
use Rattle.mm_thread.proofs.Turns.{faults_give, fetched-none, fetched-some}
use Rattle.mm_thread.proofs.slot_turn.fetch.Goals as goal

pub returns-in_default : goal.returns-in_default
returns-in_default g c =
    let a = c.args in
    let t = a.tables.now in
    let f = a.access in
    let m : Memory = g.M.Memory.meaning a.mem.now in
    let s = slot_in t a.slot_index in
    let seen = g.W.Watch.looks a.watch.now (told_at t m s None) in
    let cell : cell_at m f.addr ≡ None = fetched-none (cell_at m f.addr) (sym c.fetch.ensures.answer ∙ c.in_default.is) in
    let takes = rw cell at c.fetch.ensures.takes in
    rw cell (faults_give g.M.Memory.meaning g.M.Memory.uses g.M.Memory.stands g.W.Watch.tells seen t m s NoPage (Some f)
    (Accessed f.kind f.addr false false ∷ []) a.mem.now c.fetch.new.self c.fail_fetched.new.tables
    c.fail_fetched.new.watch
    c.fail_fetched.ensures.core c.fetch.ensures.after (c.fail_fetched.ensures.watch f c.requires.passed) takes c.fetch.ensures.count)

pub returns-in_default-word : goal.returns-in_default-word
returns-in_default-word g c =
    let a = c.args in
    let t = a.tables.now in
    let f = a.access in
    let m : Memory = g.M.Memory.meaning a.mem.now in
    let s = slot_in t a.slot_index in
    let seen = g.W.Watch.looks a.watch.now (told_at t m s None) in
    let found = fetched-some (cell_at m f.addr) c.in-Some.word (sym c.fetch.ensures.answer ∙ c.in-Some.is) in
    let takes = rw found.1 at c.fetch.ensures.takes in
    let none : instr_in (found.0).word ≡ None = ap instr_in (found.2 ∙ c.in_default-word.is) in
    rw (found.1, none) (faults_give g.M.Memory.meaning g.M.Memory.uses g.M.Memory.stands g.W.Watch.tells seen t m s Illegal
    (Some f) (Accessed f.kind f.addr true true ∷ []) a.mem.now c.fetch.new.self c.fail_fetched-in_default-word.new.tables
    c.fail_fetched-in_default-word.new.watch
    c.fail_fetched-in_default-word.ensures.core c.fetch.ensures.after (c.fail_fetched-in_default-word.ensures.watch f c.requires.passed) takes c.fetch.ensures.count)

pub returns-in-Some-likely : goal.returns-in-Some-likely
returns-in-Some-likely g c =
    let a = c.args in
    let f = a.access in
    let m : Memory = g.M.Memory.meaning a.mem.now in
    let found = fetched-some (cell_at m f.addr) c.in-Some.word (sym c.fetch.ensures.answer ∙ c.in-Some.is) in
    let takes = rw found.1 at c.fetch.ensures.takes in
    let some : instr_in (found.0).word ≡ Some c.in-Some-likely.instr = ap instr_in (found.2 ∙ c.in-Int.is) ∙ c.in-Some-likely.ensures.spelled in
    rw (found.1, some) (c.carry_on.ensures a.mem.now (Accessed f.kind f.addr true true) takes c.fetch.ensures.after c.fetch.ensures.count)

pub returns-in-None : goal.returns-in-None
returns-in-None g c =
    let a = c.args in
    let f = a.access in
    let m : Memory = g.M.Memory.meaning a.mem.now in
    let found = fetched-some (cell_at m f.addr) c.in-Some.word (sym c.fetch.ensures.answer ∙ c.in-Some.is) in
    let takes = rw found.1 at c.fetch.ensures.takes in
    rw found.1 (c.read_on.ensures a.mem.now f found.0 c.requires.passed takes c.fetch.ensures.after c.fetch.ensures.count (found.2 ∙ c.in-Int.is))
