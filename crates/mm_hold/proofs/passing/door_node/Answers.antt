use Rattle.std.proofs.Common.{◌≡◌, ◌<◌, length, sym, ap, ◌∙◌, subst}
use Rattle.std.specs.Prelude.{Contains, MatchOption}
use Rattle.mm_graph.specs.{declared.canonical_ptr.CanonicalPtr.CanonicalPtr, Key.key_at}
use Rattle.mm_kernel.specs.Segments.{is_door}
use Rattle.mm_hold.proofs.Passes.{door_found}
use Rattle.mm_hold.proofs.passing.door_node.Goals as goal

pub returns-then-is_door : goal.returns-then-is_door
returns-then-is_door c =
    let keys = c.args.keys.now in
    let p = c.in-Some.p in
    let door = ap (λ k. is_door k p) (sym c.kept.ensures) ∙ sym c.is_door.ensures ∙ c.if-is_door.true in
    door_found c.args.kernel.now.kept keys c.requires.keys c.args.bits p (sym c.in-Some.ensures.value.1) c.in-Some.ensures.again door c.find.result
    (subst (λ (x : CanonicalPtr). MatchOption c.find.result (Contains keys x → ⊥) (λ k. (k < length keys) × (key_at keys k ≡ x))) c.of.ensures.value c.find.ensures)
