use Rattle.std.proofs.Common.{refl}
use Rattle.mm_word.specs.Word.{word_bits}
use Rattle.mm_isa.specs.declared.instr.Instr.TheVariants.{Out, Evt, Resume, Rreg, Wreg}
use Rattle.mm_model.specs.{Slot.register, Ask.{ask, Ask.{NextEvent, Room, Serve}}}
use Rattle.mm_thread.specs.SlotIndices.{slot_in}
use Rattle.mm_thread.proofs.Accesses.{executes_untouched}
use Rattle.mm_thread.proofs.execute.reach_out.Goals as goal

pub returns-in-Out : goal.returns-in-Out
unfolding ask
returns-in-Out g c =
    let a = c.args in
    let t = a.tables.now in
    let s = slot_in t a.slot_index in
    rw c.in-Out.is (executes_untouched g.M.Memory.meaning g.M.Memory.uses g.M.Memory.stands t s (Out c.in-Out.ra)
    a.mem.now c.put_out.new.tables c.untouched.result c.put_out.result (Room s.group) c.untouched.ensures refl refl
    refl (c.put_out.ensures (g.M.Memory.meaning a.mem.now)))

pub returns-in-Evt : goal.returns-in-Evt
unfolding ask
returns-in-Evt g c =
    let a = c.args in
    let t = a.tables.now in
    let s = slot_in t a.slot_index in
    rw c.in-Evt.is (executes_untouched g.M.Memory.meaning g.M.Memory.uses g.M.Memory.stands t s (Evt c.in-Evt.rd)
    a.mem.now c.next_event.new.tables c.untouched-in-Evt.result c.next_event.result (NextEvent)
    c.untouched-in-Evt.ensures refl refl refl (c.next_event.ensures (g.M.Memory.meaning a.mem.now)))

pub returns-in-Resume : goal.returns-in-Resume
unfolding ask
returns-in-Resume g c =
    let a = c.args in
    let t = a.tables.now in
    let s = slot_in t a.slot_index in
    rw c.in-Resume.is (executes_untouched g.M.Memory.meaning g.M.Memory.uses g.M.Memory.stands t s
    (Resume c.in-Resume.ra c.in-Resume.how) a.mem.now c.resume.new.tables c.untouched-in-Resume.result
    c.resume.result (Serve (word_bits (register s c.in-Resume.ra))) c.untouched-in-Resume.ensures refl refl refl
    (c.resume.ensures (g.M.Memory.meaning a.mem.now)))

pub returns-in-Rreg : goal.returns-in-Rreg
unfolding ask
returns-in-Rreg g c =
    let a = c.args in
    let t = a.tables.now in
    let s = slot_in t a.slot_index in
    rw c.in-Rreg.is (executes_untouched g.M.Memory.meaning g.M.Memory.uses g.M.Memory.stands t s
    (Rreg c.in-Rreg.rd c.in-Rreg.ra c.in-Rreg.reg) a.mem.now c.read_register.new.tables c.untouched-in-Rreg.result
    c.read_register.result (Serve (word_bits (register s c.in-Rreg.ra))) c.untouched-in-Rreg.ensures refl refl refl
    (c.read_register.ensures (g.M.Memory.meaning a.mem.now)))

pub returns-in-Wreg : goal.returns-in-Wreg
unfolding ask
returns-in-Wreg g c =
    let a = c.args in
    let t = a.tables.now in
    let s = slot_in t a.slot_index in
    rw c.in-Wreg.is (executes_untouched g.M.Memory.meaning g.M.Memory.uses g.M.Memory.stands t s
    (Wreg c.in-Wreg.ra c.in-Wreg.rb c.in-Wreg.reg) a.mem.now c.write_register.new.tables c.untouched-in-Wreg.result
    c.write_register.result (Serve (word_bits (register s c.in-Wreg.ra))) c.untouched-in-Wreg.ensures refl refl refl
    (c.write_register.ensures (g.M.Memory.meaning a.mem.now)))
