use Rattle.std.proofs.Common.{rules, ◌≡◌, ℕ, Bool, true, false, if◌then◌else◌, List, [], ◌∷◌, ◌++◌, sym, subst}
use Rattle.mm_seg.{specs.Segments.{IsSet, IsSegment, IsBehind, IsMaximal}, proofs.Pushes.{pushed_set, pushed_maximal}}
use Rattle.mm_seg.proofs.set.SegSet.push.Goals as goal

-- whether or not there was room
either : (xs : List (ℕ × ℕ)) (s : ℕ × ℕ) → IsSet xs → IsSegment s → IsBehind xs s.0 → (b : Bool) → IsSet (if b then xs ++ s ∷ [] else xs)
either xs s set seg behind true = pushed_set xs s set seg behind
either xs s set seg behind false = set

pub invariant_of-self-2 : goal.invariant_of-self-2
invariant_of-self-2 c =
    subst IsSet (sym c.push.ensures.items)
    (either c.self.inside.items.items (c.args.base, c.args.log) c.self.invariant c.requires.segment (subst (λ v. IsBehind v c.args.base) (sym c.self.view_is) c.requires.behind) _)

pub returns-clause-maximal : goal.returns-clause-maximal
returns-clause-maximal c =
    let e : c.push.new.self.items ≡ c.args.self.now ++ (c.args.base, c.args.log) ∷ [] = search rules in
    subst (IsMaximal ((c.args.base, c.args.log) ∷ c.args.self.now)) (sym e) (pushed_maximal c.args.self.now (c.args.base, c.args.log))
