use Rattle.std.proofs.Common.{sym, ap, ◌∙◌, if◌then◌else◌, None}
use Rattle.mm_word.specs.Pointer.{pointer_of}
use Rattle.mm_hold.specs.Finding.{held_key}
use Rattle.mm_hold.proofs.HeldKeys.{spells_test}
use Rattle.mm_hold.proofs.graph.key_of_bits.Goals as goal

pub returns-in-Some-clause-value : goal.returns-in-Some-clause-value
returns-in-Some-clause-value c =
    let kept = c.args.kernel.now.kept in
    let p = c.in-Some.ensures.value in
    c.key_in.ensures.value ∙ ap (λ k. held_key k c.in-Some.p) c.kept.ensures ∙ ap (held_key kept) p.1
    ∙ ap (λ b. if b then held_key kept (pointer_of c.args.bits) else None) (sym (spells_test c.args.bits p.0))
