use Rattle.std.proofs.Common.{refl}
use Rattle.mm_model.specs.Ask.{Ask.{Nothing}}
use Rattle.mm_thread.specs.SlotIndices.{slot_in}
use Rattle.mm_thread.proofs.{SlotUpdates.asks_nothing, Accesses.{executes_untouched, is_alone-others}}
use Rattle.mm_thread.proofs.execute.execute.Goals as goal

pub returns-in_default : goal.returns-in_default
returns-in_default g c =
    let a = c.args in
    let t = a.tables.now in
    let s = slot_in t a.slot_index in
    let n = c.in_default in
    let is = is_alone-others a.instr.now n.not-Out n.not-Ld n.not-St n.not-Evt n.not-Resume n.not-Rreg n.not-Wreg n.not-Map n.not-Unmap in
    executes_untouched g.M.Memory.meaning g.M.Memory.uses g.M.Memory.stands t s a.instr.now a.mem.now
    c.go_alone.new.tables c.untouched.result c.go_alone.result Nothing c.untouched.ensures
    (asks_nothing a.instr.now s is) refl refl (c.go_alone.ensures (g.M.Memory.meaning a.mem.now))
