use Rattle.std.proofs.Common.{◌≡◌, ◌<◌, ◌∙◌, refl, sym, ap, subst, length, slice_index_or, arith}
use Rattle.std.proofs.lemmas.List.{get_or_default}
use Rattle.mm_model.specs.{Slot.Slot, State.Core}
use Rattle.mm_thread.specs.SlotIndices.{no_slot}
use Rattle.mm_config.specs.Turning.{WasOutput, NotesOutputs}
use Rattle.mm_config.proofs.{NotedTurn.slots_long, OneNote.still_same, PageCells.more_pairs, Noted.still_more}
use Rattle.mm_config.proofs.NotedWhole.{nobody_stands, in_base_1, trees_1, in_base_2, trees_2, in_base_3, was_output, was_memory, rest_left, stands_after}
use Rattle.mm_config.proofs.configs.Configs.note.Goals as goal

pub returns-in_default : goal.returns-in_default
returns-in_default c = λ t. nobody_stands c.args.before c.args.step.now c.args.self.now t c.in_default.ensures.missing

pub note_slots-requires-clause-trees : goal.note_slots-requires-clause-trees
note_slots-requires-clause-trees c =
    let me = c.args.self.now in
    let at = c.in-Some.at in
    let low = c.in-Some.ensures.within in
    let rows = slots_long me.core in
    let within : at < length me.core.rows = omega (arith, low, rows) in
    trees_1 c.args.before c.args.step.now me c.requires at within c.in-Some.ensures.number (record me { core = c.uncount.new.self }) (ap (λ (k : Core). record me { core = k }) c.uncount.ensures)

pub note_slots-requires-clause-within : goal.note_slots-requires-clause-within
note_slots-requires-clause-within c =
    let me = c.args.self.now in
    let at = c.in-Some.at in
    let low = c.in-Some.ensures.within in
    let rows = slots_long me.core in
    let within : at < length me.core.rows = omega (arith, low, rows) in
    in_base_1 c.args.before c.args.step.now me c.requires at within c.in-Some.ensures.number (record me { core = c.uncount.new.self }) (ap (λ (k : Core). record me { core = k }) c.uncount.ensures)

pub note_queues-requires-clause-trees : goal.note_queues-requires-clause-trees
note_queues-requires-clause-trees c =
    let me = c.args.self.now in
    let at = c.in-Some.at in
    let low = c.in-Some.ensures.within in
    let rows = slots_long me.core in
    let within : at < length me.core.rows = omega (arith, low, rows) in
    trees_2 c.args.before c.args.step.now me c.requires at within c.in-Some.ensures.number (record me { core = c.uncount.new.self }) (ap (λ (k : Core). record me { core = k }) c.uncount.ensures)
    c.note_slots.new.self c.in_ok-note_slots.ensures

pub note_queues-requires-clause-within : goal.note_queues-requires-clause-within
note_queues-requires-clause-within c =
    let me = c.args.self.now in
    let at = c.in-Some.at in
    let low = c.in-Some.ensures.within in
    let rows = slots_long me.core in
    let within : at < length me.core.rows = omega (arith, low, rows) in
    in_base_2 c.args.before c.args.step.now me c.requires at within c.in-Some.ensures.number (record me { core = c.uncount.new.self }) (ap (λ (k : Core). record me { core = k }) c.uncount.ensures)
    c.note_slots.new.self c.in_ok-note_slots.ensures

pub index-slot-requires : goal.index-slot-requires
index-slot-requires c =
    let me = c.args.self.now in
    let at = c.in-Some.at in
    let low = c.in-Some.ensures.within in
    let rows = slots_long me.core in
    let within : at < length me.core.rows = omega (arith, low, rows) in
    let inside = in_base_3 c.args.before c.args.step.now me c.requires at within c.in-Some.ensures.number (record me { core = c.uncount.new.self }) (ap (λ (k : Core). record me { core = k }) c.uncount.ensures)
    c.note_slots.new.self c.in_ok-note_slots.ensures c.note_queues.new.self c.in_ok-note_queues.ensures in
    let long = c.note_queues.new.self.base.ok.0 in
    omega (arith, inside, long)

pub note_output-requires : goal.note_output-requires
note_output-requires c =
    let me = c.args.self.now in
    let at = c.in-Some.at in
    let low = c.in-Some.ensures.within in
    let rows = slots_long me.core in
    let within : at < length me.core.rows = omega (arith, low, rows) in
    let c3 = c.note_queues.new.self in
    let core_1 = ap (λ (k : Core). record me { core = k }) c.uncount.ensures in
    let inside =
    in_base_3 c.args.before c.args.step.now me c.requires at within c.in-Some.ensures.number (record me { core = c.uncount.new.self }) core_1 c.note_slots.new.self c.in_ok-note_slots.ensures
    c3 c.in_ok-note_queues.ensures in
    let slot : c.index-slot.result.now ≡ slice_index_or c3.base.items at no_slot = c.index-slot.ensures ∙ get_or_default c3.base.items at c.index-slot.result.now no_slot inside in
    let group : c.slot.inside.group ≡ (slice_index_or c3.base.items at no_slot).group = ap (λ (s : Slot). s.group) (c.slot.view_is ∙ slot) in
    subst (λ g. WasOutput g c.args.before.put_out c3) (sym group)
    (was_output c.args.before c.args.step.now me c.requires at within c.in-Some.ensures.number (record me { core = c.uncount.new.self }) core_1 c.note_slots.new.self c.in_ok-note_slots.ensures
    c3 c.in_ok-note_queues.ensures)

pub note_memory-requires : goal.note_memory-requires
note_memory-requires c =
    let me = c.args.self.now in
    let at = c.in-Some.at in
    let low = c.in-Some.ensures.within in
    let rows = slots_long me.core in
    let within : at < length me.core.rows = omega (arith, low, rows) in
    let c3 = c.note_queues.new.self in
    let c4 = c.note_output.new.self in
    let core_1 = ap (λ (k : Core). record me { core = k }) c.uncount.ensures in
    let inside =
    in_base_3 c.args.before c.args.step.now me c.requires at within c.in-Some.ensures.number (record me { core = c.uncount.new.self }) core_1 c.note_slots.new.self c.in_ok-note_slots.ensures
    c3 c.in_ok-note_queues.ensures in
    let slot : c.index-slot.result.now ≡ slice_index_or c3.base.items at no_slot = c.index-slot.ensures ∙ get_or_default c3.base.items at c.index-slot.result.now no_slot inside in
    let group : c.slot.inside.group ≡ (slice_index_or c3.base.items at no_slot).group = ap (λ (s : Slot). s.group) (c.slot.view_is ∙ slot) in
    was_memory c.args.before c.args.step.now me c.requires at within c.in-Some.ensures.number (record me { core = c.uncount.new.self }) core_1 c.note_slots.new.self c.in_ok-note_slots.ensures
    c3 c.in_ok-note_queues.ensures c4 (subst (λ g. NotesOutputs (λ k. k ≡ g) c3 c4) group c.in_ok-note_output.ensures)

pub returns-then-is_same_rest : goal.returns-then-is_same_rest
returns-then-is_same_rest c =
    let me = c.args.self.now in
    let at = c.in-Some.at in
    let low = c.in-Some.ensures.within in
    let rows = slots_long me.core in
    let within : at < length me.core.rows = omega (arith, low, rows) in
    let c3 = c.note_queues.new.self in
    let c4 = c.note_output.new.self in
    let c5 = c.note_memory.new.self in
    let core_1 = ap (λ (k : Core). record me { core = k }) c.uncount.ensures in
    let inside =
    in_base_3 c.args.before c.args.step.now me c.requires at within c.in-Some.ensures.number (record me { core = c.uncount.new.self }) core_1 c.note_slots.new.self c.in_ok-note_slots.ensures
    c3 c.in_ok-note_queues.ensures in
    let slot : c.index-slot.result.now ≡ slice_index_or c3.base.items at no_slot = c.index-slot.ensures ∙ get_or_default c3.base.items at c.index-slot.result.now no_slot inside in
    let group : c.slot.inside.group ≡ (slice_index_or c3.base.items at no_slot).group = ap (λ (s : Slot). s.group) (c.slot.view_is ∙ slot) in
    let outputs = subst (λ g. NotesOutputs (λ k. k ≡ g) c3 c4) group c.in_ok-note_output.ensures in
    let same = c.is_same_rest.ensures.0 c.if-is_same_rest.true in
    λ t. stands_after c.args.before c.args.step.now me t at within c.in-Some.ensures.number (record me { core = c.uncount.new.self }) core_1 c.note_slots.new.self c.in_ok-note_slots.ensures
    c3 c.in_ok-note_queues.ensures c4 outputs c5 c5 c.in_ok-note_memory.ensures refl (still_same c5.store)
    (rest_left c.args.before c.args.step.now me t at within c.in-Some.ensures.number (record me { core = c.uncount.new.self }) core_1 c.note_slots.new.self c.in_ok-note_slots.ensures
    c3 c.in_ok-note_queues.ensures c4 outputs c5 c.in_ok-note_memory.ensures same)

pub returns : goal.returns
returns c =
    let me = c.args.self.now in
    let at = c.in-Some.at in
    let low = c.in-Some.ensures.within in
    let rows = slots_long me.core in
    let within : at < length me.core.rows = omega (arith, low, rows) in
    let c3 = c.note_queues.new.self in
    let c4 = c.note_output.new.self in
    let c5 = c.note_memory.new.self in
    let core_1 = ap (λ (k : Core). record me { core = k }) c.uncount.ensures in
    let inside =
    in_base_3 c.args.before c.args.step.now me c.requires at within c.in-Some.ensures.number (record me { core = c.uncount.new.self }) core_1 c.note_slots.new.self c.in_ok-note_slots.ensures
    c3 c.in_ok-note_queues.ensures in
    let slot : c.index-slot.result.now ≡ slice_index_or c3.base.items at no_slot = c.index-slot.ensures ∙ get_or_default c3.base.items at c.index-slot.result.now no_slot inside in
    let group : c.slot.inside.group ≡ (slice_index_or c3.base.items at no_slot).group = ap (λ (s : Slot). s.group) (c.slot.view_is ∙ slot) in
    let outputs = subst (λ g. NotesOutputs (λ k. k ≡ g) c3 c4) group c.in_ok-note_output.ensures in
    let pairs = c.rest.new.pairs in
    let c6 = record c5 { store = record c5.store { pairs = pairs }; rest = c.in_ok-self.field-0 } in
    λ t. stands_after c.args.before c.args.step.now me t at within c.in-Some.ensures.number (record me { core = c.uncount.new.self }) core_1 c.note_slots.new.self c.in_ok-note_slots.ensures
    c3 c.in_ok-note_queues.ensures c4 outputs c5 c6 c.in_ok-note_memory.ensures refl
    (still_more c5.store (record c5.store { pairs = pairs }) (more_pairs c5.store pairs c.in_ok-self.ensures.grown)) c.in_ok-self.ensures.rest
