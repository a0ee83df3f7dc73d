use Rattle.std.proofs.Common.{◌≤◌, List, [], length, String, refl, sym, ap, append-nil, subst, arith}
use Rattle.std.specs.declared.alloc.Global.{Global}
use Rattle.mm_object.specs.Objects.{Object}
use Rattle.mm_cli.specs.{declared.{table.{Kind.{TheVariants.{Object as object_file}}}}}
use Rattle.mm_cli.proofs.ArgumentWords.{named_few}
use Rattle.mm_top.specs.Commands.{IsLinked, LinkRefused}
use Rattle.mm_top.proofs.{Rows.{row_stops, row_ends}, NamedFiles.several_named}
use Rattle.mm_top.proofs.link.link.Goals as goal

pub load_objects-requires-clause-few : goal.load_objects-requires-clause-few
load_objects-requires-clause-few g c =
    (subst (λ (names : List (String Global)). (1 ≤ length names) × (length names ≤ 16)) (sym c.names_at.ensures) (named_few object_file 16 _ c.requires)).1

pub returns-in_err-objects : goal.returns-in_err-objects
returns-in_err-objects g c =
    row_stops [] c.from_residual.result (several_named object_file c.names_at.ensures (c.in_err-objects.ensures.read [] refl))
    (sym (append-nil _)) refl c.from_residual.ensures.1

pub write_linked-requires-clause-some : goal.write_linked-requires-clause-some
write_linked-requires-clause-some g c =
    let some = (subst (λ (names : List (String Global)). (1 ≤ length names) × (length names ≤ 16)) (sym c.names_at.ensures) (named_few object_file 16 _ c.requires)).0 in
    omega (arith, some, c.in_ok-objects.ensures.count, ap (λ (os : List Object). length os) c.deref.ensures.value)

pub write_linked-requires-clause-few : goal.write_linked-requires-clause-few
write_linked-requires-clause-few g c =
    let few = (subst (λ (names : List (String Global)). (1 ≤ length names) × (length names ≤ 16)) (sym c.names_at.ensures) (named_few object_file 16 _ c.requires)).1 in
    omega (arith, few, c.in_ok-objects.ensures.count, ap (λ (os : List Object). length os) c.deref.ensures.value)

pub returns : goal.returns
returns g c =
    let objects = c.in_ok-objects.objects.items in
    row_ends _ _ (several_named object_file c.names_at.ensures (c.in_ok-objects.ensures.read [] refl)) refl c.write_linked.ensures
    (λ r no. (objects, refl, subst (λ (os : List Object). LinkRefused os r) c.deref.ensures.value no))
    (λ text is. (objects, refl, subst (λ (os : List Object). IsLinked os text) c.deref.ensures.value is))
