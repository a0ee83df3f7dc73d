use Rattle.std.proofs.Common.{ℕ, refl, sym, subst}
use Rattle.mm_config.specs.declared.configs.Configs as code
use Rattle.std.proofs.lemmas.Result.{on_ok_weaker}
use Rattle.mm_config.specs.{Keeping.Stands, Reaching.HasConfiguration}
use Rattle.mm_config.proofs.Standing.{there_already, wanted_is, reaches_it, memory_before, memory_wanted, is_paged, same_frames, put_memory_so, put_stands}
use Rattle.mm_config.proofs.configs.Configs.put_names.Goals as goal

pub returns-then-rest-self : goal.returns-then-rest-self
returns-then-rest-self c = λ h.
    let key : ℕ × ℕ = (c.args.slots, c.args.rest) in
    there_already c.args.self.now key h c.apart.ensures (λ j. (c.if-slots-self.true j, c.if-rest-self.true j))

pub returns-then-rest-self-2 : goal.returns-then-rest-self-2
returns-then-rest-self-2 c =
    let me = c.args.self.now in
    on_ok_weaker c.put_slots.result
    (subst (λ rest. (h : HasConfiguration me (c.args.slots, rest)) → Stands h.image (record h.at { machine = h.state }) c.put_slots.new.self) (sym c.if-rest-self-2.true))
    c.put_slots.ensures

pub of-wanted-requires : goal.of-wanted-requires
of-wanted-requires c = (c.requires.is.names, c.requires.is.rest)

pub put_core-requires : goal.put_core-requires
put_core-requires c =
    let h = c.requires in
    let key : ℕ × ℕ = (c.args.slots, c.args.rest) in
    reaches_it c.args.self.now key h c.of-wanted.result (wanted_is c.args.self.now key h c.of-wanted.result c.of-wanted.ensures)

pub put_memory-requires : goal.put_memory-requires
put_memory-requires c =
    let h = c.requires in
    let c0 = c.args.self.now in
    let c1 = c.put_core.new.self in
    let key : ℕ × ℕ = (c.args.slots, c.args.rest) in
    let is = wanted_is c0 key h c.of-wanted.result c.of-wanted.ensures in
    let core = c.in_ok-put_core.ensures (reaches_it c0 key h c.of-wanted.result is) in
    record {
      was = memory_before c0 c1 key h core;
      wanted = (h.state.memory, is_paged c0 c1 key h core, same_frames c0 c1 key h core, memory_wanted c0 c1 key h core c.of-wanted.result is);
    }

pub list_mapped_of-requires : goal.list_mapped_of-requires
list_mapped_of-requires c =
    let h = c.requires in
    let c0 = c.args.self.now in
    let key : ℕ × ℕ = (c.args.slots, c.args.rest) in
    let c1 = c.put_core.new.self in
    let w = c.of-wanted.result in
    let is = wanted_is c0 key h w c.of-wanted.ensures in
    let core = c.in_ok-put_core.ensures (reaches_it c0 key h w is) in
    let put = c.in_ok-put_memory.ensures in
    let new = c.put_memory.new in
    let c2 : code.Configs = record c1 { store = new.store; mem = new.mem; changed = new.pages; changed_cells = new.cells } in
    let memory = put.memory h.state.memory (is_paged c0 c1 key h core) (same_frames c0 c1 key h core) (memory_wanted c0 c1 key h core w is) in
    put_memory_so c0 c1 key h core w is c2 put.more memory refl refl

pub returns : goal.returns
returns c = λ h.
    let c0 = c.args.self.now in
    let c1 = c.put_core.new.self in
    let key : ℕ × ℕ = (c.args.slots, c.args.rest) in
    let w = c.of-wanted.result in
    let is = wanted_is c0 key h w c.of-wanted.ensures in
    let core = c.in_ok-put_core.ensures (reaches_it c0 key h w is) in
    let put = c.in_ok-put_memory.ensures in
    let new = c.put_memory.new in
    let listed = c.in_ok-list_mapped_of.ensures in
    let mapped = c.list_mapped_of.new.self.mapped in
    let c4 : code.Configs = record c1 { store = new.store; mem = new.mem; changed = new.pages; changed_cells = new.cells; mapped = mapped; names = w; rest = c.args.rest } in
    let memory = put.memory h.state.memory (is_paged c0 c1 key h core) (same_frames c0 c1 key h core) (memory_wanted c0 c1 key h core w is) in
    subst (λ (d : code.Configs). Stands h.image (record h.at { machine = h.state }) (record d { names = w; rest = c.args.rest })) (sym listed.1)
    (put_stands c0 c1 c4 key h core put.more memory put.uses listed.0 is refl refl)
