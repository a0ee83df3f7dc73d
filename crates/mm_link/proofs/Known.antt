-- Names that no segment has.
use Rattle.std.{proofs.Common.{◌≡◌, List, ◌∷◌, ap, ◌∙◌}, specs.{Prelude.find, Option.option_map, List.flat_map}}
use Rattle.mm_object.specs.Objects.{Object}
use Rattle.mm_link.specs.{declared.fault.LinkFault.TheVariants.Undefined, Placing.Site}
use Rattle.mm_link.specs.Faults.{unknown, unknown_among, unknown_names}
use Rattle.mm_link.proofs.Firsts.{sooner, find-append, map-sooner}

pub unknown-cons : (sites : List Site) (o : Object) (objects : List Object) → unknown_names sites (o ∷ objects) ≡ sooner (unknown_among sites o.externals)
    (unknown_names sites objects)
unknown-cons sites o objects =
    let rest = flat_map (λ (o : Object). o.externals) objects in
    ap (option_map Undefined) (find-append (unknown sites) o.externals rest) ∙ map-sooner Undefined (find (unknown sites) o.externals) (find (unknown sites) rest)
