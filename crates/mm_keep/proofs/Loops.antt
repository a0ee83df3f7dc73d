-- What a loop over a list adds.
use Rattle.std.proofs.Common.{◌≡◌, ◌⊎◌, inl, inr, ℕ, zero, suc, ◌+◌, ◌<◌, ◌≤◌, Bool, true, false, ◌||◌, List, [], ◌∷◌, ◌++◌, length, take}
use Rattle.std.proofs.Common.{get_or, refl, sym, ap, ◌∙◌, subst, arith, append_assoc, length-append, eq-eqb, ne_eqb}
use Rattle.std.proofs.lemmas.List.{append-nil, map-id, take_all, take_more}
use Rattle.std.proofs.lemmas.{List.FromFn.map-range_with_len_more, Option.{slice_get_within, get_or_from_slice_get}}
use Rattle.std.proofs.lemmas.List.Elements.{Contains-append_left, Contains-push, Contains-push_cases}
use Rattle.std.specs.Prelude.{if◌then◌else◌, ◌==◌, Contains, Some, slice_get}
use Rattle.std.specs.List.{flat_map, list_any, range_with_len}
use Rattle.mm_model.specs.Image.{Image}
use Rattle.mm_kernel.specs.{Segments.Segment, Facts.Fact}
use Rattle.mm_kernel.specs.declared.{form.Form.Form, outcome.Outcome.Outcome, thread.Thread.Thread}
use Rattle.mm_keep.specs.Claims.{Claim, Tables, Begins, Adds, AddsFacts}
use Rattle.mm_keep.specs.Searching.{FollowsAtOnce, SomeAtOnce}
use Rattle.mm_keep.proofs.Claims.{adds_none, adds_then, facts_none, facts_then}
use Rattle.mm_keep.proofs.Members.{none_in, in_cases}

-- 1. Lists that have grown.

module _ {X : Type 0} where
  got : (xs more : List X) (k : ℕ) (x : X) → k < length xs → slice_get (xs ++ more) k ≡ Some x → x ≡ get_or xs k x
  got [] more k x lt e = absurd (omega (arith, lt))
  got (y ∷ xs) more zero x lt e = cc
  got (y ∷ xs) more (suc k) x lt e = got xs more k x (omega (arith, lt)) e

  still : (xs more : List X) (k : ℕ) (x : X) → slice_get xs k ≡ Some x → slice_get (xs ++ more) k ≡ Some x
  still [] more k x e = cc
  still (y ∷ xs) more zero x e = e
  still (y ∷ xs) more (suc k) x e = still xs more k x e

  -- an element that was there is read from the list as it is now
  pub begins_get : (xs ys : List X) (k : ℕ) (x : X) → Begins xs ys → k < length xs → slice_get ys k ≡ Some x → x ≡ get_or xs k x
  begins_get xs ys k x b lt e = got xs b.more k x lt (subst (λ l. slice_get l k ≡ Some x) b.whole e)

  pub begins_slice : (xs ys : List X) (k : ℕ) (x : X) → Begins xs ys → slice_get xs k ≡ Some x → slice_get ys k ≡ Some x
  begins_slice xs ys k x b e = subst (λ l. slice_get l k ≡ Some x) (sym b.whole) (still xs b.more k x e)

  pub begins_long : (xs ys : List X) → Begins xs ys → length xs ≤ length ys
  begins_long xs ys b = let e = ap length b.whole ∙ length-append xs b.more in omega (arith, e)

  -- an index within a list that was there is within the list as it is now
  pub begins_within : (xs ys : List X) (k : ℕ) → Begins xs ys → k < length xs → k < length ys
  begins_within xs ys k b lt = let le = begins_long xs ys b in omega (arith, le, lt)

  pub get_in : (xs : List X) (k : ℕ) (x : X) → slice_get xs k ≡ Some x → Contains xs x
  get_in xs k x e = (k, slice_get_within xs k x e, get_or_from_slice_get xs k x x e)

  pub read_in : (xs : List X) (k : ℕ) (x : X) → k < length xs → x ≡ get_or xs k x → Contains xs x
  read_in xs k x lt is = (k, lt, sym is)

module _ {X : Type 0} (p : X → Bool) where
  pub some_passes : (xs : List X) (x : X) → Contains xs x → p x ≡ true → list_any p xs ≡ true
  some_passes [] x h e = absurd (none_in x h)
  some_passes (y ∷ xs) x h e = elim (in_cases y xs x h) [
    | inl same ↦ first (p y) (list_any p xs) (ap p same ∙ e)
    | inr later ↦ rest (p y) (list_any p xs) (some_passes xs x later e)
  ]
    where
      first : (a b : Bool) → a ≡ true → (a || b) ≡ true
      first true b e = refl
      first false b e = cc

      rest : (a b : Bool) → b ≡ true → (a || b) ≡ true
      rest true b e = refl
      rest false b e = e

-- 2. Lists of lists.

module _ {X Y : Type 0} (f : X → List Y) where
  pub flat_append : (xs ys : List X) → flat_map f (xs ++ ys) ≡ flat_map f xs ++ flat_map f ys
  flat_append [] ys = refl
  flat_append (x ∷ xs) ys = ap (λ l. f x ++ l) (flat_append xs ys) ∙ sym (append_assoc (f x) (flat_map f xs) (flat_map f ys))

  pub flat_push : (xs : List X) (x : X) → flat_map f (xs ++ x ∷ []) ≡ flat_map f xs ++ f x
  flat_push xs x = flat_append xs (x ∷ []) ∙ ap (λ l. flat_map f xs ++ l) (append-nil (f x))

  pub flat_more : (xs : List X) (k : ℕ) (x : X) → k < length xs → x ≡ get_or xs k x
      → flat_map f (take (k + 1) xs) ≡ flat_map f (take k xs) ++ f x
  flat_more xs k x lt is =
      ap (flat_map f) (take_more xs k x lt ∙ ap (λ y. take k xs ++ y ∷ []) (sym is)) ∙ flat_push (take k xs) x

  -- what is appended for each element of a list
  pub appended_more : (start before after : List Y) (xs : List X) (k : ℕ) (x : X) → k < length xs → x ≡ get_or xs k x
      → before ≡ start ++ flat_map f (take k xs) → after ≡ before ++ f x → after ≡ start ++ flat_map f (take (k + 1) xs)
  appended_more start before after xs k x lt is was now =
      now ∙ ap (λ l. l ++ f x) was ∙ append_assoc start (flat_map f (take k xs)) (f x)
      ∙ ap (λ l. start ++ l) (sym (flat_more xs k x lt is))

  pub appended_all : (start after : List Y) (xs : List X) (k : ℕ) → length xs ≤ k
      → after ≡ start ++ flat_map f (take k xs) → after ≡ start ++ flat_map f xs
  appended_all start after xs k le e = e ∙ ap (λ l. start ++ flat_map f l) (take_all k xs le)

range_end : (n : ℕ) → range_with_len 0 (n + 1) ≡ range_with_len 0 n ++ n ∷ []
range_end n =
    sym (map-id (range_with_len 0 (n + 1))) ∙ map-range_with_len_more (λ (k : ℕ). k) 0 n n (omega arith)
    ∙ ap (λ l. l ++ n ∷ []) (map-id (range_with_len 0 n))

-- 3. What is added.

-- some image, for what is said of any
pub some_image : Image
some_image = record { version = 0; split = false; slots = []; memory = record { pages = []; frames = 0 } }

module _ (i : Image) (kept : List Segment) where
  pub facts_same : (xs ys : List Fact) (a b : Tables) → xs ≡ ys → AddsFacts i kept xs a b → AddsFacts i kept ys a b
  facts_same xs ys a b e h = subst (λ l. AddsFacts i kept l a b) e h

  -- facts under a test
  pub facts_at : (b c : Bool) (xs ys : List Fact) (from to : Tables) → b ≡ c
      → AddsFacts i kept (if c then xs else ys) from to → AddsFacts i kept (if b then xs else ys) from to
  facts_at b c xs ys from to e h = subst (λ (d : Bool). AddsFacts i kept (if d then xs else ys) from to) (sym e) h

  -- facts of two numbers that are the same, or not
  pub facts_equal : (n m : ℕ) (xs : List Fact) (from to : Tables) → n ≡ m → AddsFacts i kept xs from to
      → AddsFacts i kept (if n == m then xs else []) from to
  facts_equal n m xs from to same h = facts_at (n == m) true xs [] from to (eq-eqb n m same) h

  pub facts_other : (n m : ℕ) (xs : List Fact) (a : Tables) → (n ≡ m → ⊥) → AddsFacts i kept (if n == m then xs else []) a a
  facts_other n m xs a other = facts_at (n == m) false xs [] a a (ne_eqb n m other) (facts_none i kept a)

  module _ {X : Type 0} (f : X → List Fact) where
    pub facts_more : (xs : List X) (k : ℕ) (x : X) (a b c : Tables) → k < length xs → x ≡ get_or xs k x
        → AddsFacts i kept (flat_map f (take k xs)) a b → AddsFacts i kept (f x) b c
        → AddsFacts i kept (flat_map f (take (k + 1) xs)) a c
    facts_more xs k x a b c lt is g h =
        facts_same (flat_map f (take k xs) ++ f x) (flat_map f (take (k + 1) xs)) a c (sym (flat_more f xs k x lt is))
        (facts_then i kept (flat_map f (take k xs)) (f x) a b c g h)

    pub facts_single : (x : X) (a b : Tables) → AddsFacts i kept (f x) a b → AddsFacts i kept (flat_map f (x ∷ [])) a b
    facts_single x a b h = facts_same (f x) (f x ++ []) a b (sym (append-nil (f x))) h

    pub facts_all : (xs : List X) (k : ℕ) (a b : Tables) → length xs ≤ k → AddsFacts i kept (flat_map f (take k xs)) a b
        → AddsFacts i kept (flat_map f xs) a b
    facts_all xs k a b le h = facts_same (flat_map f (take k xs)) (flat_map f xs) a b (ap (flat_map f) (take_all k xs le)) h

  pub facts_next : (f : ℕ → List Fact) (n : ℕ) (a b c : Tables) → AddsFacts i kept (flat_map f (range_with_len 0 n)) a b
      → AddsFacts i kept (f n) b c → AddsFacts i kept (flat_map f (range_with_len 0 (n + 1))) a c
  facts_next f n a b c g h =
      facts_same (flat_map f (range_with_len 0 n) ++ f n) (flat_map f (range_with_len 0 (n + 1))) a c
      (sym (ap (flat_map f) (range_end n) ∙ flat_push f (range_with_len 0 n) n))
      (facts_then i kept (flat_map f (range_with_len 0 n)) (f n) a b c g h)

  module _ (first : List (ℕ × Form)) (t : Thread) where
    pub at_once_none : (a : Tables) → Adds i kept (SomeAtOnce i kept first t []) a a
    at_once_none a = adds_none i kept (SomeAtOnce i kept first t []) a (λ claim h. none_in h.outcome h.comes)

    pub at_once_more : (os : List Outcome) (k : ℕ) (o : Outcome) (a b c : Tables) → k < length os → o ≡ get_or os k o
        → Adds i kept (SomeAtOnce i kept first t (take k os)) a b → Adds i kept (FollowsAtOnce i kept first t o) b c
        → Adds i kept (SomeAtOnce i kept first t (take (k + 1) os)) a c
    at_once_more os k o a b c lt is g h = subst (λ l. Adds i kept (SomeAtOnce i kept first t l) a c) (sym whole)
        (adds_then i kept (SomeAtOnce i kept first t (take k os)) (FollowsAtOnce i kept first t o)
        (SomeAtOnce i kept first t (take k os ++ o ∷ [])) a b c split
        (λ claim p. record { outcome = p.outcome; comes = Contains-append_left (take k os) (o ∷ []) p.outcome p.comes; follows = p.follows })
        (λ claim q. record { outcome = o; comes = Contains-push (take k os) o; follows = q }) g h)
      where
        whole : take (k + 1) os ≡ take k os ++ o ∷ []
        whole = take_more os k o lt ∙ ap (λ y. take k os ++ y ∷ []) (sym is)

        split : (claim : Claim) → SomeAtOnce i kept first t (take k os ++ o ∷ []) claim
            → SomeAtOnce i kept first t (take k os) claim ⊎ FollowsAtOnce i kept first t o claim
        split claim r = elim (Contains-push_cases (take k os) o r.outcome r.comes) [
          | inl early ↦ inl (record { outcome = r.outcome; comes = early; follows = r.follows })
          | inr same ↦ inr (subst (λ p. FollowsAtOnce i kept first t p claim) (sym same) r.follows)
        ]

    pub at_once_all : (os : List Outcome) (k : ℕ) (a b : Tables) → length os ≤ k
        → Adds i kept (SomeAtOnce i kept first t (take k os)) a b → Adds i kept (SomeAtOnce i kept first t os) a b
    at_once_all os k a b le h = subst (λ l. Adds i kept (SomeAtOnce i kept first t l) a b) (take_all k os le) h
