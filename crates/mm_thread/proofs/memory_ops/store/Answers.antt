use Rattle.std.proofs.{Common.{◌≡◌, ℕ, ◌+◌, Result, refl, sym, ap, ◌∙◌, rules, arith}, lemmas.Int.to_z-of_z}
use Rattle.std.specs.{Prelude.FitsSigned, Int.w32}
use Rattle.mm_mem.{proofs.Counted.one, specs.Answers.{stored, put_where}}
use Rattle.mm_word.specs.{declared.{cause.Cause.Cause, word.{Word.Word, Cell.Cell}}, Access.AccessValue}
use Rattle.mm_isa.specs.declared.instr.Instr.TheVariants.{St}
use Rattle.mm_model.specs.{Memory.{Memory, cell_at, full_after}, Slot.{Slot, register}}
use Rattle.mm_model.specs.{Ask.{ask, reaching, Ask.{Refuse, Reach}}, Effect.effect, Turn.reply, Uses.takes_none}
use Rattle.mm_thread.specs.{SlotIndices.slot_in, Execution.{core_stored, completion_stored}}
use Rattle.mm_thread.specs.declared.completion.Retired.{Retired}
use Rattle.mm_thread.proofs.{Accesses.{executes_by, store_leaves, leaves_all}, RowIndex.apart_in}
use Rattle.mm_thread.proofs.memory_ops.store.Goals as goal

pub returns-in-Err : goal.returns-in-Err
unfolding ask effect reply
returns-in-Err g c =
    let a = c.args in
    let t = a.tables.now in
    let s = slot_in t a.slot_index in
    let fits : FitsSigned w32 a.at.offset = search rules in
    let checked = rw (to_z-of_z w32 a.at.offset fits, c.slot.ensures) at c.in-Err.ensures.value in
    executes_by g.M.Memory.meaning g.M.Memory.uses g.M.Memory.stands t s (St a.at.base a.rb a.at.pre a.at.post a.at.offset) a.mem.now a.mem.now t c.untouched.result (Refuse c.in-Err.cause)
    (ap (λ (x : Result AccessValue Cause). reaching x a.at.pre) (sym checked))
    (record { core_is = refl; memory_is = refl; completion_is = ap (λ (x : Retired). x.completion) c.untouched.ensures; stays = λ e. refl })
    (ap (λ (x : Retired). x.touched) c.untouched.ensures) (takes_none a.mem.now) (omega arith)

pub returns-in-Ok : goal.returns-in-Ok
unfolding ask effect reply
returns-in-Ok g c =
    let a = c.args in
    let t = a.tables.now in
    let r = c.requires.can in
    let s = slot_in t a.slot_index in
    let m : Memory = g.M.Memory.meaning a.mem.now in
    let access : AccessValue = c.in-Ok.access in
    let fits : FitsSigned w32 a.at.offset = search rules in
    let checked = rw (to_z-of_z w32 a.at.offset fits, c.slot.ensures) at c.in-Ok.ensures.value in
    let answer = c.store-stored.ensures.answer in
    let word : c.word_of-word.result ≡ register s a.rb = c.word_of-word.ensures ∙ ap (λ (x : Slot). register x a.rb) c.slot-in-Ok.ensures in
    executes_by g.M.Memory.meaning g.M.Memory.uses g.M.Memory.stands t s
    (St a.at.base a.rb a.at.pre a.at.post a.at.offset) a.mem.now c.store-stored.new.self
    c.finish_store-completion.new.tables c.touching.result (Reach access a.at.pre)
    (ap (λ (x : Result AccessValue Cause). reaching x a.at.pre) (sym checked))
    (leaves_all t m s _ (core_stored t a.slot_index (stored a.at.pre (cell_at m access.addr))) _ (completion_stored (stored a.at.pre (cell_at m access.addr)))
    c.finish_store-completion.new.tables (g.M.Memory.meaning c.store-stored.new.self) c.touching.result.completion
    (store_leaves t (apart_in t r.whole) a.slot_index r.within m access (register s a.rb) a.at.pre a.at.post (cell_at m access.addr))
    (c.finish_store-completion.ensures.core ∙ ap (core_stored t a.slot_index) answer)
    (c.store-stored.ensures.after ∙ ap (λ (w : Word). put_where m access.addr a.at.pre (cell_at m access.addr) (λ (x : Cell). record { word = w; full = full_after a.at.post x.full })) word)
    (ap (λ (x : Retired). x.completion) c.touching.ensures ∙ c.finish_store-completion.ensures.completion ∙ ap completion_stored answer))
    (ap (λ (x : Retired). x.touched) c.touching.ensures) c.store-stored.ensures.takes
    (c.store-stored.ensures.count ∙ ap (λ (n : ℕ). g.M.Memory.uses a.mem.now + n) (sym (one access a.at.pre (cell_at m access.addr))))
