use Rattle.std.proofs.Common.{◌≡◌, ℕ, ◌≤◌, true, false, List, length, Option, Some, None}
use Rattle.std.proofs.lemmas.Bool.{le-leb, and_parts, and_from, false_from_ne_true}
use Rattle.std.specs.Option.{SomeIff, MatchOption}
use Rattle.mm_object.specs.Names.{has_form, is_name}
use Rattle.mm_object.proofs.name_records.name_of.Goals as goal

formed : (result : Option (List ℕ)) (name : List ℕ) → length name ≤ 31 → SomeIff result (is_name name ≡ true) name
    → MatchOption result (has_form name ≡ false) (λ n. (has_form name ≡ true) × (n ≡ name))
formed None name short none = false_from_ne_true (has_form name) (λ form. none (and_from _ _ form (le-leb _ _ short)))
formed (Some n) name short some = ((and_parts _ _ some.0).0, some.1)

pub returns : goal.returns
returns c = formed c.new.result c.args.bytes.now c.requires c.new.ensures
