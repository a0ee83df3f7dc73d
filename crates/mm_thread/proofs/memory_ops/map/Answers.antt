use Rattle.std.proofs.Common.{◌≡◌, ℕ, [], ◌∷◌, None, Ok, Err, refl, sym, ap, ◌∙◌, arith}
use Rattle.mm_word.specs.declared.word.Word.TheVariants.{Int}
use Rattle.mm_isa.specs.declared.instr.Instr.TheVariants.{Map}
use Rattle.mm_model.specs.{Memory.{Memory, can_map}, Slot.Slot, Ask.{ask, Ask.{Refuse, MapPage}}}
use Rattle.mm_model.specs.{Effect.{effect, plain, test}, Turn.{reply, slot_after}, Uses.takes_none}
use Rattle.mm_thread.specs.{SlotIndices.{slot_in, with_slot}, Execution.page_named}
use Rattle.mm_thread.specs.declared.completion.{Completion.TheVariants.Did, Retired.Retired}
use Rattle.mm_thread.proofs.Accesses.{executes_by, map_leaves, leaves_all, page_ask, page_asked-named}
use Rattle.mm_thread.proofs.RowIndex.{apart_in}
use Rattle.mm_thread.proofs.memory_ops.map.Goals as goal

pub returns-in-Err : goal.returns-in-Err
unfolding ask effect reply
returns-in-Err g c =
    let a = c.args in
    let t = a.tables.now in
    let s = slot_in t a.slot_index in
    let named : page_named s a.ra ≡ Err c.in-Err.cause = ap (λ (x : Slot). page_named x a.ra) (sym c.slot.ensures) ∙ sym c.in-Err.ensures.value in
    executes_by g.M.Memory.meaning g.M.Memory.uses g.M.Memory.stands t s (Map a.rd a.ra) a.mem.now a.mem.now t c.untouched.result (Refuse c.in-Err.cause)
    (page_asked-named s a.ra MapPage ∙ ap (page_ask MapPage) named)
    (record { core_is = refl; memory_is = refl; completion_is = ap (λ (x : Retired). x.completion) c.untouched.ensures; stays = λ e. refl })
    (ap (λ (x : Retired). x.touched) c.untouched.ensures) (takes_none a.mem.now) (omega arith)

pub returns-in-Ok : goal.returns-in-Ok
unfolding ask effect reply
returns-in-Ok g c =
    let a = c.args in
    let t = a.tables.now in
    let r = c.requires.can in
    let s = slot_in t a.slot_index in
    let m : Memory = g.M.Memory.meaning a.mem.now in
    let page = c.in-Ok.page in
    let named : page_named s a.ra ≡ Ok page = ap (λ (x : Slot). page_named x a.ra) (sym c.slot.ensures) ∙ sym c.in-Ok.ensures.value in
    let answer = c.flag.ensures ∙ ap test c.map-mapped.ensures.answer in
    executes_by g.M.Memory.meaning g.M.Memory.uses g.M.Memory.stands t s (Map a.rd a.ra) a.mem.now c.map-mapped.new.self c.sets.new.self c.untouched-in-Ok.result (MapPage page)
    (page_asked-named s a.ra MapPage ∙ ap (page_ask MapPage) named)
    (leaves_all t m s _ (with_slot t a.slot_index (slot_after s (record (plain s) { writes = (a.rd, Int (test (can_map m page))) ∷ [] }))) _ (Did None)
    c.sets.new.self (g.M.Memory.meaning c.map-mapped.new.self) c.untouched-in-Ok.result.completion
    (map_leaves t (apart_in t r.whole) a.slot_index r.within m a.rd page (can_map m page))
    (c.sets.ensures ∙ ap (λ (n : ℕ). with_slot t a.slot_index (slot_after s (record (plain s) { writes = (a.rd, Int n) ∷ [] }))) answer)
    c.map-mapped.ensures.after
    (ap (λ (x : Retired). x.completion) c.untouched-in-Ok.ensures))
    (ap (λ (x : Retired). x.touched) c.untouched-in-Ok.ensures) c.map-mapped.ensures.takes
    (c.map-mapped.ensures.count ∙ omega arith)
