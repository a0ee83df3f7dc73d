-- Links that are put to work one by one.
use Rattle.std.proofs.Common.{◌≡◌, ℕ, ◌+◌, ◌<◌, List, [], ◌∷◌, ◌++◌, length, map, take, get_or, sym, ap, ◌∙◌}
use Rattle.std.proofs.lemmas.List.{map_push, map_more, take_more}
use Rattle.mm_net.specs.{declared.link.Link.Link, Nets.{Carried, nothing_carried}}
use Rattle.mm_net.{specs.Wires.{Wired, link_list, carried_list}, proofs.Stepping.{link_by, carried_by}}

abbrev none_by : Link → Carried
none_by link = nothing_carried

pub links_more : (wires : List Wired) (links : List Link) (i : ℕ) (w : Wired) (d : Link) → i < length links → w.link ≡ get_or links i d
    → link_list wires ≡ take i links → link_list (wires ++ w ∷ []) ≡ take (i + 1) links
links_more wires links i w d inside is before =
    map_push link_by wires w ∙ ap (λ (xs : List Link). xs ++ w.link ∷ []) before ∙ ap (λ (x : Link). take i links ++ x ∷ []) is ∙ sym (take_more links i d inside)

pub carried_more : (wires : List Wired) (links : List Link) (i : ℕ) (w : Wired) (d : Link) → i < length links → w.carried ≡ nothing_carried
    → carried_list wires ≡ map none_by (take i links) → carried_list (wires ++ w ∷ []) ≡ map none_by (take (i + 1) links)
carried_more wires links i w d inside is before =
    map_push carried_by wires w ∙ ap (λ (xs : List Carried). xs ++ w.carried ∷ []) before ∙ ap (λ (x : Carried). map none_by (take i links) ++ x ∷ []) is
    ∙ sym (map_more none_by links i d inside)
