-- What links carry fits 64 bits.
use Rattle.std.proofs.Common.{◌≡◌, ℕ, zero, suc, ◌^◌, ◌<◌, Bool, true, false, ◌==◌, if◌then◌else◌, List, [], ◌∷◌}
use Rattle.std.{proofs.Common.{length, slice_get, Option, Some, None, refl, subst}, specs.List.AllByRecursion}
use Rattle.mm_model.proofs.CoreRows.{each_push}
use Rattle.mm_net.specs.Nets.{Carried, with_sent, due, with_arrived}

-- what a link sent are numbers of 64 bits
abbrev pub SentFits : Carried → Type 0
SentFits carried = AllByRecursion (λ bits. bits < 2 ^ 64) carried.sent

pub sent_fits : (carried : Carried) (o : Option ℕ) → SentFits carried → ((bits : ℕ) → o ≡ Some bits → bits < 2 ^ 64) → SentFits (with_sent carried o)
sent_fits carried None all new = all
sent_fits carried (Some bits) all new = each_push (λ x. x < 2 ^ 64) carried.sent bits all (new bits refl)

pub arrived_fits : (carried : Carried) (bits : ℕ) (free : Bool) → SentFits carried → SentFits (with_arrived carried bits free)
arrived_fits carried bits true all = all
arrived_fits carried bits false all = all

get_fits : (xs : List ℕ) (n bits : ℕ) → AllByRecursion (λ x. x < 2 ^ 64) xs → slice_get xs n ≡ Some bits → bits < 2 ^ 64
get_fits [] n bits all is = cc
get_fits (x ∷ xs) zero bits all is = let same : x ≡ bits = cc in subst (λ y. y < 2 ^ 64) same all.0
get_fits (x ∷ xs) (suc n) bits all is = get_fits xs n bits all.1 is

-- an integer that is due was sent
pub due_fits : (carried : Carried) (k bits : ℕ) → SentFits carried → due carried k ≡ Some bits → bits < 2 ^ 64
due_fits carried k bits all next = by (k == length carried.arrived) next
  where
    by : (b : Bool) → (if b then slice_get carried.sent k else None) ≡ Some bits → bits < 2 ^ 64
    by true is = get_fits carried.sent k bits all is
    by false is = cc
