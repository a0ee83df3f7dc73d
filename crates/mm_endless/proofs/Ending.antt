-- The end of a walk.
use Rattle.std.proofs.Common.{◌≡◌, ℕ, zero, suc, ◌<◌, List, [], ◌∷◌, length, None, refl, sym, ap, ◌∙◌, subst, arith}
use Rattle.std.specs.Prelude.{Contains, slice_index_or}
use Rattle.mm_span.proofs.Members.{none_in}
use Rattle.mm_endless.specs.declared.walk.Mark.{Mark, TheVariants.{Unmet}}
use Rattle.mm_endless.specs.{Graphs.{AreClosedSets, IsTold}, Stages.{Stage, mark_of, IsOnPath, IsDone, IsStage, told_by, firsts_of}}
use Rattle.mm_endless.proofs.Marks.{Kind, kind_of}

pub firsts_len : (marks : List Mark) (numbers : List ℕ) → length marks ≡ length numbers → length (firsts_of marks numbers) ≡ length marks
firsts_len [] numbers e = refl
firsts_len (m ∷ marks) [] e = absurd (omega (arith, e))
firsts_len (m ∷ marks) (n ∷ numbers) e = ap suc (firsts_len marks numbers (omega (arith, e)))

pub first_at : (marks : List Mark) (numbers : List ℕ) (k : ℕ) → length marks ≡ length numbers → k < length marks
    → slice_index_or (firsts_of marks numbers) k None ≡ told_by (slice_index_or marks k Unmet) (slice_index_or numbers k 0)
first_at [] numbers k e lt = absurd (omega arith)
first_at (m ∷ marks) [] k e lt = absurd (omega (arith, e))
first_at (m ∷ marks) (n ∷ numbers) zero e lt = refl
first_at (m ∷ marks) (n ∷ numbers) (suc k) e lt = first_at marks numbers k (omega (arith, e)) (omega (arith, lt))

pub none_on_path : (g : List (List ℕ)) (s : Stage) → IsStage g s → s.unfinished ≡ [] → (v : ℕ) → IsOnPath s v → ⊥
none_on_path g s k none v h =
    let w = k.within v h in
    let m = k.begun w.0 w.1 in
    none_in m.0 (subst (λ l. Contains l m.0) none m.1)

-- a node that was met is done, if no node is open
pub met_done : (g : List (List ℕ)) (s : Stage) → IsStage g s → s.unfinished ≡ [] → (v : ℕ) → (mark_of s v ≡ Unmet → ⊥) → IsDone s v
met_done g s k none v met = by (kind_of (mark_of s v))
  where
    by : Kind (mark_of s v) → IsDone s v
    by (Kind.unmet e) = absurd (met e)
    by (Kind.path e) = absurd (none_on_path g s k none v e)
    by (Kind.over d) = d

pub ends : (g : List (List ℕ)) (s : Stage) → IsStage g s → ((v : ℕ) → v < length g → IsDone s v) → AreClosedSets g (firsts_of s.marks s.numbers)
ends g s k done = record {
  count = firsts_len s.marks s.numbers (k.marks ∙ sym k.numbers) ∙ k.marks;
  each = λ a lt. subst (IsTold g a) (sym (first_at s.marks s.numbers a (k.marks ∙ sym k.numbers) (let e = k.marks in omega (arith, e, lt)))) (k.right a (done a lt));
}
