-- The oldest of the pending loads.
use Rattle.std.proofs.Common.{◌≡◌, ◌<◌, false, eqb, List, [], ◌∷◌, length, get_or, set, refl, sym, subst, arith}
use Rattle.std.{proofs.lemmas.Bool.Decides.nat_tests, specs.{Prelude.remove, List.AllByRecursion}}
use Rattle.mm_model.specs.{declared.slot.Pending.Pending, Slot.Slot, Effect.delivers}

pub delivers-first : (s : Slot) (ps : List Pending) (p : Pending) → eqb (length ps) 0 ≡ false → p ≡ get_or ps 0 p
    → delivers s ps ≡ record s { regs = set s.regs p.reg p.word; empty = set s.empty p.reg false; pending = remove ps 0 }
delivers-first s [] p some is = absurd (grind (arith, nat_tests))
delivers-first s (q ∷ ps) p some is = rw is refl

pub first_small : (ps : List Pending) (p : Pending) → AllByRecursion (λ (q : Pending). q.reg < 16) ps → eqb (length ps) 0 ≡ false → p ≡ get_or ps 0 p → p.reg < 16
first_small [] p small some is = absurd (grind (arith, nat_tests))
first_small (q ∷ ps) p small some is = let P : Pending → Type 0 = λ r. r.reg < 16 in subst P (sym is) small.0
