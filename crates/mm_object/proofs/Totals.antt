-- How many words segments have.
use Rattle.std.proofs.Common.{◌≡◌, ℕ, zero, suc, ◌+◌, ◌<◌, ◌≤◌, List, [], ◌∷◌, length, get_or, take, arith}
use Rattle.mm_object.specs.Objects.{Segment, words_of}

pub words_of-more : (segments : List Segment) (i : ℕ) (d : Segment) → i < length segments → words_of (take (i + 1) segments) ≡ words_of (take i segments) + length (get_or segments i d).items
words_of-more [] i d lt = absurd (omega arith)
words_of-more (s ∷ segments) zero d lt = omega arith
words_of-more (s ∷ segments) (suc i) d lt =
    let next : suc i + 1 ≡ suc (i + 1) = omega arith in
    rw next (omega (arith, words_of-more segments i d (omega arith)))

pub words_of-take : (segments : List Segment) (i : ℕ) → words_of (take i segments) ≤ words_of segments
words_of-take segments zero = omega arith
words_of-take [] (suc i) = omega arith
words_of-take (s ∷ segments) (suc i) = omega (arith, words_of-take segments i)
