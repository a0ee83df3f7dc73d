use Rattle.std.proofs.Common.{◌+◌, ◌%◌, ◌<◌, List, Option, refl, sym, subst, ◌∙◌, arith}
use Rattle.mm_frames.specs.Framed.{memory_of}
use Rattle.mm_cache.specs.{declared.line.CacheLine.CacheLine, Lines.line_in, Laws.Cover}
use Rattle.mm_cache.proofs.FillLines.{clean_lines_go}
use Rattle.mm_vmem.specs.{contracts.vmem.VMem.the_view, Cached.Cached}
use Rattle.mm_vmem.proofs.Held.{line_has_frame, dirty_line, room_meaning, room_entries, room_numbers, back_held}
use Rattle.mm_vmem.proofs.Held.{back_meaning, back_entries, back_numbers}
use Rattle.mm_vmem.proofs.vmem.VMem.make_room.Goals as goal

pub invariant_of-self : goal.invariant_of-self
invariant_of-self c = record {
  cover = subst (λ (ls : List (Option CacheLine)). Cover ls (memory_of c.self.inside.frames)) (sym c.evict_packed.ensures.after)
      (clean_lines_go.cover (memory_of c.self.inside.frames) c.self.inside.lines (c.args.block % 64) c.self.invariant.cover);
  right = c.self.invariant.right;
  few = c.self.invariant.few;
}

pub unreachable-requires : goal.unreachable-requires
unreachable-requires c =
    line_has_frame c.self.inside.frames c.self.inside.lines (c.args.block % 64) c.in-Some.victim c.self.invariant.cover
    (dirty_line (line_in c.self.inside.lines (c.args.block % 64)) c.in-Some.victim (sym c.evict_packed.ensures.answer ∙ c.in-Some.is)) (sym c.frame_of.ensures ∙ c.in_default-frame_of.is)

pub write_packed-requires-clause-whole : goal.write_packed-requires-clause-whole
write_packed-requires-clause-whole c = c.self.invariant.cover.lines.whole (c.args.block % 64) c.in-Some.victim
    (dirty_line (line_in c.self.inside.lines (c.args.block % 64)) c.in-Some.victim (sym c.evict_packed.ensures.answer ∙ c.in-Some.is))

pub invariant_of-self-in-Some : goal.invariant_of-self-in-Some
invariant_of-self-in-Some c = record {
  cover = subst (λ (ls : List (Option CacheLine)). Cover ls (memory_of c.self.inside.frames)) (sym c.evict_packed.ensures.after)
      (clean_lines_go.cover (memory_of c.self.inside.frames) c.self.inside.lines (c.args.block % 64) c.self.invariant.cover);
  right = c.self.invariant.right;
  few = let few = c.self.invariant.few in
      let room : c.self.inside.tally.writebacks < c.self.inside.others + c.self.inside.tally.hits = subst (λ (m : Cached). m.numbers.writebacks < m.uses) (sym c.self.view_is) c.requires.writebacks in
      record { accesses = few.accesses; writebacks = omega (arith, room); look_ups = few.look_ups; reads = few.reads; writes = few.writes };
}

pub invariant_of-self-in-Some-2 : goal.invariant_of-self-in-Some-2
invariant_of-self-in-Some-2 c =
    back_held (the_view c.self.inside) c.args.self.now c.args.block c.self.invariant refl refl c.self.view_is c.requires.absent c.evict_packed.new.self c.evict_packed.ensures.after c.in-Some.victim
    (sym c.evict_packed.ensures.answer ∙ c.in-Some.is)
    c.in-Some-frame_of.frame (sym c.frame_of.ensures ∙ c.in-Some-frame_of.is) (the_view c.self-in-Some.inside)
    (c.self-in-Some.view_is ∙ c.look_up.ensures) c.write_packed.new.self c.write_packed.ensures.after c.write_packed.ensures.memory
    c.self-in-Some.invariant c.requires.writes

pub returns-in-Some-frame_of-clause-after : goal.returns-in-Some-frame_of-clause-after
returns-in-Some-frame_of-clause-after c =
    back_meaning (the_view c.self.inside) c.args.self.now c.args.block c.self.invariant refl refl c.self.view_is c.requires.absent c.evict_packed.new.self c.evict_packed.ensures.after c.in-Some.victim
    (sym c.evict_packed.ensures.answer ∙ c.in-Some.is)
    c.in-Some-frame_of.frame (sym c.frame_of.ensures ∙ c.in-Some-frame_of.is) (the_view c.self-in-Some.inside)
    (c.self-in-Some.view_is ∙ c.look_up.ensures) c.write_packed.new.self c.write_packed.ensures.after c.write_packed.ensures.memory

pub returns-in-Some-frame_of-clause-entries : goal.returns-in-Some-frame_of-clause-entries
returns-in-Some-frame_of-clause-entries c =
    back_entries (the_view c.self.inside) c.args.self.now c.args.block c.self.invariant refl refl c.self.view_is c.requires.absent c.evict_packed.new.self c.evict_packed.ensures.after c.in-Some.victim
    (sym c.evict_packed.ensures.answer ∙ c.in-Some.is)
    c.in-Some-frame_of.frame (sym c.frame_of.ensures ∙ c.in-Some-frame_of.is) (the_view c.self-in-Some.inside)
    (c.self-in-Some.view_is ∙ c.look_up.ensures) c.write_packed.new.self c.write_packed.ensures.after c.write_packed.ensures.memory

pub returns-in-Some-frame_of-clause-numbers : goal.returns-in-Some-frame_of-clause-numbers
returns-in-Some-frame_of-clause-numbers c =
    back_numbers (the_view c.self.inside) c.args.self.now c.args.block c.self.invariant refl refl c.self.view_is c.requires.absent c.evict_packed.new.self c.evict_packed.ensures.after c.in-Some.victim
    (sym c.evict_packed.ensures.answer ∙ c.in-Some.is)
    c.in-Some-frame_of.frame (sym c.frame_of.ensures ∙ c.in-Some-frame_of.is) (the_view c.self-in-Some.inside)
    (c.self-in-Some.view_is ∙ c.look_up.ensures) c.write_packed.new.self c.write_packed.ensures.after c.write_packed.ensures.memory

pub invariant_of-self-in_default : goal.invariant_of-self-in_default
invariant_of-self-in_default c = record {
  cover = subst (λ (ls : List (Option CacheLine)). Cover ls (memory_of c.self.inside.frames)) (sym c.evict_packed.ensures.after)
      (clean_lines_go.cover (memory_of c.self.inside.frames) c.self.inside.lines (c.args.block % 64) c.self.invariant.cover);
  right = c.self.invariant.right;
  few = c.self.invariant.few;
}

pub returns-in_default-clause-after : goal.returns-in_default-clause-after
returns-in_default-clause-after c =
    room_meaning (the_view c.self.inside) c.args.self.now c.args.block c.self.invariant refl refl c.self.view_is c.requires.absent c.evict_packed.new.self c.evict_packed.ensures.after
    (sym c.evict_packed.ensures.answer ∙ c.in_default.is)

pub returns-in_default-clause-entries : goal.returns-in_default-clause-entries
returns-in_default-clause-entries c =
    room_entries (the_view c.self.inside) c.args.self.now c.args.block c.self.invariant refl refl c.self.view_is c.requires.absent c.evict_packed.new.self c.evict_packed.ensures.after
    (sym c.evict_packed.ensures.answer ∙ c.in_default.is)

pub returns-in_default-clause-numbers : goal.returns-in_default-clause-numbers
returns-in_default-clause-numbers c =
    room_numbers (the_view c.self.inside) c.args.self.now c.args.block c.self.invariant refl refl c.self.view_is c.requires.absent c.evict_packed.new.self c.evict_packed.ensures.after
    (sym c.evict_packed.ensures.answer ∙ c.in_default.is)
