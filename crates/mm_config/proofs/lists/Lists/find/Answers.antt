use Rattle.std.proofs.Common.{◌≡◌, ◌≢◌, ◌∙◌, ℕ, List, [], suc, sym, ap, subst, Some, slice_get}
use Rattle.std.proofs.lemmas.Option.{slice_get_within, get_or_from_slice_get}
use Rattle.std.specs.Option.{option_map_or}
use Rattle.indexmap.specs.IndexMap.{get_by}
use lib.Pointwise.{pointwise}
use Rattle.std.proofs.Common.{nat_eq}
use Rattle.mm_pairs.specs.Found.{IsAbsent}
use Rattle.mm_pairs.proofs.Founds.{absent_first, absent_later}
use Rattle.mm_config.specs.ListsFound.{hash_of, first_of}
use Rattle.mm_config.proofs.ListForms.{list_is, same_list}
use Rattle.mm_config.proofs.lists.Lists.find.Goals as goal

pub get-requires-in-Some : goal.get-requires-in-Some
get-requires-in-Some c =
    let found = c.self.invariant.0 in
    let at = c.in-Some.at.now in
    let is : first_of c.self.inside.earliest c.args.hash ≡ suc at = ap (λ o. option_map_or suc o 0) (sym c.in-Some.ensures.value) in
    let first = found.earliest c.args.hash at is in
    slice_get_within c.self.inside.lists at first.0 first.1

pub returns-then-eq-clause-found : goal.returns-then-eq-clause-found
returns-then-eq-clause-found c =
    let found = c.self.invariant.0 in
    let at = c.in-Some.at.now in
    let numbers = c.args.numbers.now in
    let row = c.get-in-Some.result.now in
    let is : first_of c.self.inside.earliest c.args.hash ≡ suc at = ap (λ o. option_map_or suc o 0) (sym c.in-Some.ensures.value) in
    let first = found.earliest c.args.hash at is in
    let read : row ≡ first.0 = c.get-in-Some.ensures ∙ get_or_from_slice_get c.self.inside.lists at first.0 [] first.1 in
    let same : row ≡ numbers = list_is row numbers (sym c.eq.ensures ∙ c.if-eq.true) in
    subst (λ (l : List (List ℕ)). slice_get l at ≡ Some numbers) c.self.view_is (first.1 ∙ ap Some (sym read ∙ same))

pub returns-in-None-clause-absent : goal.returns-in-None-clause-absent
returns-in-None-clause-absent c =
    let lists = c.self.inside.lists in
    let numbers = c.args.numbers.now in
    let first = first_of c.self.inside.earliest in
    let none : first (hash_of numbers) ≡ 0 = ap first (sym c.requires) ∙ ap (λ o. option_map_or suc o 0) (sym c.in-None.ensures.value) in
    subst (λ (l : List (List ℕ)). IsAbsent l numbers) c.self.view_is
    (absent_first hash_of lists first (λ numbers. get_by (λ v. pointwise nat_eq numbers v.items) c.self.inside.later) c.self.invariant.0 numbers none)

pub returns-in-Some-get-clause-found : goal.returns-in-Some-get-clause-found
returns-in-Some-get-clause-found c =
    let at = c.in-Some-get.at.now in
    let numbers = c.args.numbers.now in
    subst (λ (l : List (List ℕ)). slice_get l at ≡ Some numbers) c.self.view_is
    (c.self.invariant.0.later numbers at (sym c.in-Some-get.ensures.value)).0

pub returns-in-None-get-clause-absent : goal.returns-in-None-get-clause-absent
returns-in-None-get-clause-absent c =
    let lists = c.self.inside.lists in
    let found = c.self.invariant.0 in
    let at = c.in-Some.at.now in
    let numbers = c.args.numbers.now in
    let row = c.get-in-Some.result.now in
    let first = first_of c.self.inside.earliest in
    let is : first c.args.hash ≡ suc at = ap (λ o. option_map_or suc o 0) (sym c.in-Some.ensures.value) in
    let earliest = found.earliest c.args.hash at is in
    let read : row ≡ earliest.0 = c.get-in-Some.ensures ∙ get_or_from_slice_get lists at earliest.0 [] earliest.1 in
    let other : earliest.0 ≢ numbers = λ same. let yes = same_list row numbers (read ∙ same) in let no = sym c.eq.ensures ∙ c.if-eq.false in cc in
    subst (λ (l : List (List ℕ)). IsAbsent l numbers) c.self.view_is
    (absent_later hash_of lists first (λ numbers. get_by (λ v. pointwise nat_eq numbers v.items) c.self.inside.later) found numbers earliest.0 at
    (ap first (sym c.requires) ∙ is) earliest.1 other (sym c.in-None-get.ensures.value))
