use Rattle.std.proofs.Common.{◌≡◌, ◌+◌, ◌*◌, ◌<◌, Some, sym, subst, arith}
use Rattle.mm_frames.specs.Framed.{frame_of}
use Rattle.mm_vmem.{specs.Cached.Cached, proofs.Held.right_entered}
use Rattle.mm_vmem.proofs.vmem.VMem.look_up.Goals as goal

pub invariant_of-self : goal.invariant_of-self
invariant_of-self c = record {
  cover = c.self.invariant.cover;
  right = right_entered c.self.inside.frames (record { page = c.args.page; frame = c.args.frame }) c.self.inside.tlb c.look_up.new.self c.self.invariant.right
      (subst (λ (m : Cached). frame_of m.frames c.args.page ≡ Some c.args.frame) (sym c.self.view_is) c.requires.frame) c.look_up.ensures.after;
  few = let few = c.self.invariant.few in
      let less : c.self.inside.tally.tlb_hits + c.self.inside.tally.tlb_misses < 2 * (c.self.inside.others + c.self.inside.tally.hits) = subst
      (λ (m : Cached). m.numbers.tlb_hits + m.numbers.tlb_misses < 2 * m.uses) (sym c.self.view_is) c.requires.few in
      record { accesses = few.accesses; writebacks = few.writebacks; look_ups = omega (arith, less); reads = few.reads; writes = few.writes };
}

pub invariant_of-self-else-look_up : goal.invariant_of-self-else-look_up
invariant_of-self-else-look_up c = record {
  cover = c.self.invariant.cover;
  right = right_entered c.self.inside.frames (record { page = c.args.page; frame = c.args.frame }) c.self.inside.tlb c.look_up.new.self c.self.invariant.right
      (subst (λ (m : Cached). frame_of m.frames c.args.page ≡ Some c.args.frame) (sym c.self.view_is) c.requires.frame) c.look_up.ensures.after;
  few = let few = c.self.invariant.few in
      let less : c.self.inside.tally.tlb_hits + c.self.inside.tally.tlb_misses < 2 * (c.self.inside.others + c.self.inside.tally.hits) = subst
      (λ (m : Cached). m.numbers.tlb_hits + m.numbers.tlb_misses < 2 * m.uses) (sym c.self.view_is) c.requires.few in
      record { accesses = few.accesses; writebacks = few.writebacks; look_ups = omega (arith, less); reads = few.reads; writes = few.writes };
}
