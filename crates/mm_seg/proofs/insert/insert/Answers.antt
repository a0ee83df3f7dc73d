use Rattle.std.proofs.Common.{◌≡◌, ℕ, ◌≤◌, ◌∷◌, ◌++◌, List, take, drop, Result, Ok, Err, OnOk, OnErr, sym, subst}
use Rattle.mm_seg.specs.Segments.{IsSet, IsSegment, IsPlace, IsMaximal, SomeHolds}
use Rattle.mm_seg.proofs.Inserts.{order, put_set, put_maximal, kept_maximal}
use Rattle.mm_seg.proofs.insert.insert.Goals as goal

pub replace-requires-clause-order : goal.replace-requires-clause-order
replace-requires-clause-order c = ordered c.args.items.now.items _ c.args.s _ _ c.deref.ensures.value c.requires.set c.requires.segment c.in-Some.ensures
  where
    ordered : (xs ys : List (ℕ × ℕ)) (s : ℕ × ℕ) (i j : ℕ) → ys ≡ xs → IsSet xs → IsSegment s → IsPlace ys s i j → i ≤ j
    ordered xs ys s i j e set seg p = let q = subst (λ v. IsPlace v s i j) e p in order xs set s seg i j q.ends q.begins

pub returns-in-None-clause-ok : goal.returns-in-None-clause-ok
returns-in-None-clause-ok c = kept_maximal c.args.items.now.items c.args.s (subst (λ v. SomeHolds v c.args.s) c.deref.ensures.value c.in-None.ensures)

set_after : {A E : Type 0} (r : Result A E) (xs ys zs : List (ℕ × ℕ)) (s : ℕ × ℕ) (i j : ℕ) → ys ≡ xs → IsSet xs → IsSegment s → IsPlace ys s i j
    → OnOk r (zs ≡ take i xs ++ s ∷ drop j xs) → OnErr r (zs ≡ xs) → IsSet zs
set_after (Ok _) xs ys zs s i j e set seg p f k = let q = subst (λ v. IsPlace v s i j) e p in subst IsSet (sym f) (put_set xs set s seg i j q.ends q.begins)
set_after (Err _) xs ys zs s i j e set seg p f k = subst IsSet (sym k) set

maximal_after : {A E : Type 0} (r : Result A E) (xs ys zs : List (ℕ × ℕ)) (s : ℕ × ℕ) (i j : ℕ) → ys ≡ xs → IsSet xs → IsSegment s → IsPlace ys s i j
    → OnOk r (zs ≡ take i xs ++ s ∷ drop j xs) → OnOk r (IsMaximal (s ∷ xs) zs)
maximal_after (Ok _) xs ys zs s i j e set seg p f = let q = subst (λ v. IsPlace v s i j) e p in subst (IsMaximal (s ∷ xs)) (sym f) (put_maximal xs set s seg i j q.ends q.begins q.outside)
maximal_after (Err _) xs ys zs s i j e set seg p f = tt

pub returns-in-Some-clause-set : goal.returns-in-Some-clause-set
returns-in-Some-clause-set c =
    set_after c.replace.result c.args.items.now.items _ _ c.args.s _ _ c.deref.ensures.value c.requires.set c.requires.segment c.in-Some.ensures c.replace.ensures.ok c.replace.ensures.err

pub returns-in-Some-clause-ok : goal.returns-in-Some-clause-ok
returns-in-Some-clause-ok c =
    maximal_after c.replace.result c.args.items.now.items _ _ c.args.s _ _ c.deref.ensures.value c.requires.set c.requires.segment c.in-Some.ensures c.replace.ensures.ok
