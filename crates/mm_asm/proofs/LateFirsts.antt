-- The first of faults that are met in turn.
use Rattle.std.proofs.Common.{◌≡◌, ℕ, ◌+◌, ◌<◌, Bool, true, false, if◌then◌else◌, ◌&&◌, ◌||◌, List, [], ◌∷◌, ◌++◌, map}
use Rattle.std.proofs.Common.{length, get_or, take, Option, Some, None, refl, sym, ap, ◌∙◌, subst, arith}
use Rattle.std.{proofs.lemmas.Bool.Decides.nat_tests, specs.{Prelude.{nat_lt, ◌==◌}, List.flat_map}}
use Rattle.mm_draft.specs.{declared.fault.Failure.Failure, Laws.{Pair, failure_pair, precedes, sooner, least}}
use Rattle.mm_draft.specs.Drafts.{Draft}
use Rattle.mm_object.proofs.Bools.{flat_map-more}
use Rattle.mm_asm.specs.{Names.{Use, uses_of}, Faults.{goal_failures, use_failures, limit_failures, late_failures}}
use Rattle.mm_asm.{specs.Answers.{either, pair_of_first, Meets}, proofs.Built.{numbered, numbered_more}}

-- the order, on numbers alone
goes_before : ℕ → ℕ → ℕ → ℕ → ℕ → ℕ → Bool
goes_before a b c x y z = nat_lt a x || a == x && (nat_lt b y || b == y && nat_lt c z)

transitive : (a b c x y z u v w : ℕ) → goes_before a b c x y z ≡ true → goes_before x y z u v w ≡ true → goes_before a b c u v w ≡ true
unfolding goes_before
transitive a b c x y z u v w h k = grind (arith, nat_tests)

-- what is before neither stays behind
behind : (a b c x y z u v w : ℕ) → goes_before x y z a b c ≡ false → goes_before u v w x y z ≡ false → goes_before u v w a b c ≡ false
unfolding goes_before
behind a b c x y z u v w h k = grind (arith, nat_tests)

merged : (x p q : Pair) → sooner x (sooner p (Some q)) ≡ either (sooner x (Some p)) (Some q)
unfolding goes_before
merged x p q = by (precedes q p) (precedes p x) (precedes q x) refl refl refl
  where
    by : (qp px qx : Bool) → precedes q p ≡ qp → precedes p x ≡ px → precedes q x ≡ qx
        → sooner x (if qp then Some q else Some p) ≡ either (if px then Some p else Some x) (Some q)
    by true true true a b c = rw (a, c) refl
    by true true false a b c = let t = transitive q.line q.column q.number p.line p.column p.number x.line x.column x.number a b in cc
    by true false qx a b c = refl
    by false true qx a b c = rw (a, b) refl
    by false false true a b c = let t = behind x.line x.column x.number p.line p.column p.number q.line q.column q.number b a in cc
    by false false false a b c = rw (b, c) refl

joined : (x : Pair) (o r : Option Pair) → sooner x (either o r) ≡ either (sooner x o) r
joined x None r = refl
joined x (Some p) None = by (precedes p x)
  where
    by : (b : Bool) → (if b then Some p else Some x) ≡ either (if b then Some p else Some x) None
    by true = refl
    by false = refl
joined x (Some p) (Some q) = merged x p q

in_turn : (o p q : Option Pair) → either o (either p q) ≡ either (either o p) q
in_turn None p q = refl
in_turn (Some x) p q = joined x p q

abbrev pub least_of : List Failure → Option Pair
least_of failures = least (map failure_pair failures)

least_both : (xs ys : List Failure) → least_of (xs ++ ys) ≡ either (least_of xs) (least_of ys)
least_both [] ys = refl
least_both (x ∷ xs) ys = ap (sooner (failure_pair x)) (least_both xs ys) ∙ joined (failure_pair x) (least_of xs) (least_of ys)

pub met_both : (a b c : Option Failure) (xs ys : List Failure) → Meets a b xs → Meets b c ys → Meets a c (xs ++ ys)
met_both a b c xs ys h k = record {
  least = k.least ∙ ap (λ p. either p (least_of ys)) h.least ∙ sym (in_turn (pair_of_first a) (least_of xs) (least_of ys)) ∙ ap (either (pair_of_first a)) (sym (least_both xs ys));
}

pub met_more : {A : Type 0} (f : A → List Failure) (a b c : Option Failure) (xs : List A) (i : ℕ) (x : A)
    → i < length xs → x ≡ get_or xs i x → Meets a b (flat_map f (take i xs)) → Meets b c (f x)
    → Meets a c (flat_map f (take (i + 1) xs))
met_more f a b c xs i x lt is h k =
    let e : flat_map f (take i xs) ++ f x ≡ flat_map f (take (i + 1) xs) = ap (λ y. flat_map f (take i xs) ++ f y) is ∙ sym (flat_map-more f xs i x lt) in
    subst (Meets a c) e (met_both a b c (flat_map f (take i xs)) (f x) h k)

pub met_next : {A : Type 0} (f : ℕ → A → List Failure) (a b c : Option Failure) (xs : List A) (i : ℕ) (x : A)
    → i < length xs → x ≡ get_or xs i x → Meets a b (numbered f 0 (take i xs)) → Meets b c (f i x)
    → Meets a c (numbered f 0 (take (i + 1) xs))
met_next f a b c xs i x lt is h k =
    let same : 0 + i ≡ i = omega arith in
    let e : numbered f 0 (take i xs) ++ f i x ≡ numbered f 0 (take (i + 1) xs) =
    ap (λ y. numbered f 0 (take i xs) ++ f i y) is ∙ ap (λ n. numbered f 0 (take i xs) ++ f n (get_or xs i x)) (sym same) ∙ sym (numbered_more f 0 xs i x lt) in
    subst (Meets a c) e (met_both a b c (numbered f 0 (take i xs)) (f i x) h k)

-- all late faults of a draft
pub met_late : (d : Draft) (uses more : List Use) (a b c : Option Failure) → uses ≡ uses_of d → more ≡ uses_of d
    → Meets None a (goal_failures d 0 d.segments) → Meets a b (flat_map (use_failures d) uses) → Meets b c (limit_failures d [] more) → pair_of_first c ≡ least (map failure_pair (late_failures d))
unfolding late_failures
met_late d uses more a b c e f h k m =
    let k' = subst (λ (us : List Use). Meets a b (flat_map (use_failures d) us)) e k in
    let m' = subst (λ (us : List Use). Meets b c (limit_failures d [] us)) f m in
    (met_both None b c (goal_failures d 0 d.segments ++ flat_map (use_failures d) (uses_of d)) (limit_failures d [] (uses_of d))
    (met_both None a b (goal_failures d 0 d.segments) (flat_map (use_failures d) (uses_of d)) h k') m').least
