use Rattle.std.proofs.Common.{◌≡◌, ℕ, ◌+◌, Bool, false, Result, refl, sym, ap, ◌∙◌, rules, arith}
use Rattle.std.{proofs.lemmas.Int.to_z-of_z, specs.{Prelude.{FitsSigned, ◌&&◌}, Int.w32}}
use Rattle.mm_mem.{proofs.Counted.one, specs.Answers.loaded}
use Rattle.mm_word.specs.{declared.cause.Cause.Cause, Access.AccessValue}
use Rattle.mm_isa.specs.declared.instr.Instr.TheVariants.{Ld}
use Rattle.mm_model.specs.{Memory.{Memory, cell_at}, Operands.lacks, Ask.{ask, reaching, Ask.{Refuse, Reach}}}
use Rattle.mm_model.specs.{Effect.effect, Turn.reply, Uses.takes_none}
use Rattle.mm_thread.specs.{SlotIndices.slot_in, Execution.{core_loaded, completion_loaded}}
use Rattle.mm_thread.specs.declared.completion.Retired.{Retired}
use Rattle.mm_thread.proofs.{Cores.pending_room, Accesses.{executes_by, load_leaves, free_destination, leaves_all}}
use Rattle.mm_thread.proofs.RowIndex.{apart_in}
use Rattle.mm_thread.proofs.memory_ops.load.Goals as goal

pub receive-completion-requires-clause-room : goal.receive-completion-requires-clause-room
receive-completion-requires-clause-room g c = λ split.
    let a = c.args in
    let t = a.tables.now in
    let r = c.requires.can in
    let s = slot_in t a.slot_index in
    let free : lacks (Ld a.rd a.at.base a.at.pre a.at.post a.at.offset) s ≡ false = ap (λ (b : Bool). b && lacks (Ld a.rd a.at.base a.at.pre a.at.post a.at.offset) s) (sym split) ∙ c.requires.free in
    pending_room t r.whole a.slot_index r.within a.rd (search rules) (free_destination s a.rd a.at.base a.at.pre a.at.post a.at.offset free)

pub returns-in-Err : goal.returns-in-Err
unfolding ask effect reply
returns-in-Err g c =
    let a = c.args in
    let t = a.tables.now in
    let s = slot_in t a.slot_index in
    let fits : FitsSigned w32 a.at.offset = search rules in
    let checked = rw (to_z-of_z w32 a.at.offset fits, c.load_kind.ensures, c.slot.ensures) at c.in-Err.ensures.value in
    executes_by g.M.Memory.meaning g.M.Memory.uses g.M.Memory.stands t s (Ld a.rd a.at.base a.at.pre a.at.post a.at.offset) a.mem.now a.mem.now t c.untouched.result (Refuse c.in-Err.cause)
    (ap (λ (x : Result AccessValue Cause). reaching x a.at.pre) (sym checked))
    (record { core_is = refl; memory_is = refl; completion_is = ap (λ (x : Retired). x.completion) c.untouched.ensures; stays = λ e. refl })
    (ap (λ (x : Retired). x.touched) c.untouched.ensures) (takes_none a.mem.now) (omega arith)

pub returns-in-Ok : goal.returns-in-Ok
unfolding ask effect reply
returns-in-Ok g c =
    let a = c.args in
    let t = a.tables.now in
    let r = c.requires.can in
    let s = slot_in t a.slot_index in
    let m : Memory = g.M.Memory.meaning a.mem.now in
    let access : AccessValue = c.in-Ok.access in
    let fits : FitsSigned w32 a.at.offset = search rules in
    let checked = rw (to_z-of_z w32 a.at.offset fits, c.load_kind.ensures, c.slot.ensures) at c.in-Ok.ensures.value in
    let answer = c.load-loaded.ensures.answer in
    executes_by g.M.Memory.meaning g.M.Memory.uses g.M.Memory.stands t s
    (Ld a.rd a.at.base a.at.pre a.at.post a.at.offset) a.mem.now c.load-loaded.new.self c.receive-completion.new.tables
    c.touching.result (Reach access a.at.pre)
    (ap (λ (x : Result AccessValue Cause). reaching x a.at.pre) (sym checked))
    (leaves_all t m s _ (core_loaded t a.slot_index a.rd (loaded a.at.pre (cell_at m access.addr))) _ (completion_loaded (loaded a.at.pre (cell_at m access.addr)))
    c.receive-completion.new.tables (g.M.Memory.meaning c.load-loaded.new.self) c.touching.result.completion
    (load_leaves t (apart_in t r.whole) a.slot_index r.within m access a.rd a.at.pre a.at.post (cell_at m access.addr))
    (c.receive-completion.ensures.core ∙ ap (core_loaded t a.slot_index a.rd) answer)
    c.load-loaded.ensures.after
    (ap (λ (x : Retired). x.completion) c.touching.ensures ∙ c.receive-completion.ensures.completion ∙ ap completion_loaded answer))
    (ap (λ (x : Retired). x.touched) c.touching.ensures) c.load-loaded.ensures.takes
    (c.load-loaded.ensures.count ∙ ap (λ (n : ℕ). g.M.Memory.uses a.mem.now + n) (sym (one access a.at.pre (cell_at m access.addr))))
