use Rattle.std.{proofs.Common.{ℕ, ap, sym, ◌∙◌}, specs.Option.option_map}
use Rattle.mm_object.specs.declared.target.Reloc.{Reloc}
use Rattle.mm_link.proofs.Targets.{found_target}
use Rattle.mm_link.proofs.memory.word_of.Goals as goal

pub pointer_to-requires : goal.pointer_to-requires
pointer_to-requires c =
    let found = sym c.reloc_near.ensures.reloc ∙ ap (option_map (λ (near : ℕ × Reloc). near.1)) c.in-Some.is in
    found_target c.args.object.now c.requires c.args.segment c.args.word c.in-Some.reloc found
