use Rattle.std.proofs.Common.{ap, ◌∙◌}
use Rattle.mm_keep.{specs.{Claims.sizes_of, Rows.{leak_of, pointer_in, slot_and_event, slot_and_how, slot_and_thread, slot_and_write, thread_of, word_and_form}}, proofs.Reading.{sized, all_eight}}
use Rattle.mm_keep.proofs.tables.Tables.size.Goals as goal

pub returns : goal.returns
returns c =
    let k = c.self.inside in
    all_eight _ _ _ _ _ _ _ _ _ _ _ _ _ _ _ _
    (sized thread_of k.threads.keys _ c.len.ensures.len)
    (sized pointer_in k.doors.keys _ c.len-2.ensures.len)
    (sized leak_of k.leaks.keys _ c.len-3.ensures.len)
    (sized word_and_form k.stored.keys _ c.len-4.ensures.len)
    (sized slot_and_event k.events.keys _ c.len-5.ensures.len)
    (sized slot_and_thread k.faulted.keys _ c.len-6.ensures.len)
    (sized slot_and_how k.resumes.keys _ c.len-7.ensures.len)
    (sized slot_and_write k.writes.keys _ c.len-8.ensures.len)
    ∙ ap sizes_of c.self.view_is
