-- Lists of keys.
use Rattle.std.proofs.Common.{◌≡◌, ℕ, zero, suc, ◌+◌, ◌<◌, ◌⊎◌, ◌↔◌, inl, inr, List, [], ◌∷◌, ◌++◌, length}
use Rattle.std.proofs.Common.{length-append, slice_index_or, take, map, get_or, Option, Some, None, refl, sym, ap, ◌∙◌}
use Rattle.std.proofs.Common.{subst, arith}
use Rattle.std.proofs.lemmas.List.{take_more, get_or_append_left, get_or-map, length-map}
use Rattle.std.proofs.lemmas.List.Elements.{filter_map-append, All-append, All-map, All-contains, Contains-get_or}
use Rattle.std.proofs.lemmas.List.Elements.{Contains-append_left, Contains-append_right, Contains-append_cases}
use Rattle.std.specs.{List.{Contains, All, filter_map, cons_option}, Option.option_to_list}
use Rattle.mm_graph.specs.declared.{canonical_ptr.CanonicalPtr.CanonicalPtr, found.Found.Found, seed.Seed.Seed}
use Rattle.mm_graph.specs.{declared.placed.Placed.Placed, Key.{IsKey, IsRising, entry_key, key_at, no_key}}
use Rattle.mm_graph.specs.{Placed.{held_keys, all_keys_of, IsPlaced, HasTargets}, Nodes.{IsKeysOf, IsTargets, nothing}}
use Rattle.mm_graph.proofs.Representatives.{entry_again}

cons_list : {A : Type 0} (o : Option A) → cons_option o [] ≡ option_to_list o
cons_list None = refl
cons_list (Some x) = refl

pub filter_map-more : {A B : Type 0} (h : A → Option B) (xs : List A) (k : ℕ) (d : A) → k < length xs → filter_map h (take (k + 1) xs) ≡ filter_map h (take k xs) ++ option_to_list (h (get_or xs k d))
filter_map-more h xs k d lt = ap (filter_map h) (take_more xs k d lt) ∙ filter_map-append h (take k xs) (get_or xs k d ∷ []) ∙ ap (λ v. filter_map h (take k xs) ++ v) (cons_list (h (get_or xs k d)))

pub contains_here : {A : Type 0} (x : A) (xs : List A) → Contains (x ∷ xs) x
contains_here x xs = (0, omega arith, refl)

pub contains_rest : {A : Type 0} (y x : A) (xs : List A) → Contains xs x → Contains (y ∷ xs) x
contains_rest y x xs m = (suc m.0, (let lt = m.1 in omega arith), m.2)

pub contains_cases : {A : Type 0} (y x : A) (xs : List A) → Contains (y ∷ xs) x → (y ≡ x) ⊎ Contains xs x
contains_cases y x xs m = at m.0 m.1 m.2
  where
    at : (k : ℕ) → k < length (y ∷ xs) → get_or (y ∷ xs) k x ≡ x → (y ≡ x) ⊎ Contains xs x
    at zero lt e = inl e
    at (suc k) lt e = inr (k, omega arith, e)

-- an element that gives another
pub record HasImage {A B : Type 0} (h : A → Option B) (xs : List A) (y : B) : Type 0 where
  pub from : A
  pub is_in : Contains xs from
  pub gives : h from ≡ Some y

pub in_filter_map : {A B : Type 0} (h : A → Option B) (xs : List A) (x : A) (y : B) → Contains xs x → h x ≡ Some y → Contains (filter_map h xs) y
in_filter_map h [] x y m e = absurd (let lt = m.1 in omega arith)
in_filter_map {A} {B} h (z ∷ zs) x y m e = elim (contains_cases z x zs m) [
  | inl same ↦ subst (λ o. Contains (cons_option o (filter_map h zs)) y) (sym (ap h same ∙ e)) (contains_here y (filter_map h zs))
  | inr old ↦ rest (h z) (in_filter_map h zs x y old e)
]
  where
    rest : (o : Option B) → Contains (filter_map h zs) y → Contains (cons_option o (filter_map h zs)) y
    rest None c = c
    rest (Some w) c = contains_rest w y (filter_map h zs) c

pub from_filter_map : {A B : Type 0} (h : A → Option B) (xs : List A) (y : B) → Contains (filter_map h xs) y → HasImage h xs y
from_filter_map h [] y m = absurd (let lt = m.1 in omega arith)
from_filter_map {A} {B} h (z ∷ zs) y m = at (from_filter_map h zs y) (h z) refl m
  where
    later : HasImage h zs y → HasImage h (z ∷ zs) y
    later g = record { from = g.from; is_in = contains_rest z g.from zs g.is_in; gives = g.gives }

    at : (Contains (filter_map h zs) y → HasImage h zs y) → (o : Option B) → h z ≡ o → Contains (cons_option o (filter_map h zs)) y → HasImage h (z ∷ zs) y
    at before None e c = later (before c)
    at before (Some w) e c = elim (contains_cases w y (filter_map h zs) c) [
      | inl same ↦ record { from = z; is_in = contains_here z zs; gives = e ∙ ap Some same }
      | inr old ↦ later (before old)
    ]

pub in_map : {A B : Type 0} (f : A → B) (xs : List A) (x : A) → Contains xs x → Contains (map f xs) (f x)
in_map f [] x m = absurd (let lt = m.1 in omega arith)
in_map f (z ∷ zs) x m = elim (contains_cases z x zs m) [
  | inl same ↦ subst (λ v. Contains (f z ∷ map f zs) v) (ap f same) (contains_here (f z) (map f zs))
  | inr old ↦ contains_rest (f z) (f x) (map f zs) (in_map f zs x old)
]

pub all_from_contains : {A : Type 0} (P : A → Type 0) (xs : List A) → ((x : A) → Contains xs x → P x) → All P xs
all_from_contains P xs f = λ k d lt. f (get_or xs k d) (Contains-get_or xs k d lt)

-- the keys of what was found and of seeds
module _ (found : List Found) (seeds : List Seed) where
  pub held_is : (xs ys zs : List CanonicalPtr) → xs ≡ [] → ys ≡ xs ++ map (λ (f : Found). f.key) found → zs ≡ ys ++ map (λ (s : Seed). s.key) seeds → zs ≡ held_keys found seeds
  held_is xs ys zs none first second = second ∙ ap (λ v. v ++ map (λ (s : Seed). s.key) seeds) (first ∙ ap (λ v. v ++ map (λ (f : Found). f.key) found) none)

  pub all_is : (zs ws : List CanonicalPtr) → zs ≡ held_keys found seeds → ws ≡ zs ++ filter_map entry_key zs → ws ≡ all_keys_of found seeds
  all_is zs ws is third = third ∙ ap (λ v. v ++ filter_map entry_key v) is

  pub held_are_keys : (zs : List CanonicalPtr) → zs ≡ held_keys found seeds → All (λ (f : Found). IsKey f.key) found → All (λ (s : Seed). IsKey s.key) seeds → All IsKey zs
  held_are_keys zs is of_found of_seeds = subst (All IsKey) (sym is) (All-append IsKey _ _ (All-map IsKey (λ (f : Found). f.key) found of_found) (All-map IsKey (λ (s : Seed). s.key) seeds of_seeds))

  pub key_of_found : (j : ℕ) → j < length found → key_at (all_keys_of found seeds) j ≡ (slice_index_or found j nothing).key
  key_of_found j lt =
      let le : j < length (map (λ (f : Found). f.key) found) = subst (λ v. j < v) (sym (length-map found (λ (f : Found). f.key))) lt in
      let more : j < length (held_keys found seeds) = (let e = length-append (map (λ (f : Found). f.key) found) (map (λ (s : Seed). s.key) seeds) in omega arith) in
      get_or_append_left (held_keys found seeds) (filter_map entry_key (held_keys found seeds)) no_key j more
      ∙ get_or_append_left (map (λ (f : Found). f.key) found) (map (λ (s : Seed). s.key) seeds) no_key j le
      ∙ get_or-map (λ (f : Found). f.key) found j nothing no_key lt

  pub found_fits : (j : ℕ) → j < length found → j < length (all_keys_of found seeds)
  found_fits j lt =
      let e = length-map found (λ (f : Found). f.key) in
      let one = length-append (map (λ (f : Found). f.key) found) (map (λ (s : Seed). s.key) seeds) in
      let two = length-append (held_keys found seeds) (filter_map entry_key (held_keys found seeds)) in
      omega arith

  pub targets_made : (keys : List CanonicalPtr) (placed : List Placed) (targets : List ℕ) → length targets ≡ length
      found → IsPlaced (all_keys_of found seeds) placed → HasTargets keys placed targets → IsTargets keys found targets
  targets_made keys placed targets len is has = record {
    len = len;
    small = λ j lt. (has (all_keys_of found seeds) is j (found_fits j lt) (omega arith)).0;
    at = λ j lt. (has (all_keys_of found seeds) is j (found_fits j lt) (omega arith)).1 ∙ key_of_found j lt;
  }

  module _ (of_found : All (λ (f : Found). IsKey f.key) found) (of_seeds : All (λ (s : Seed). IsKey s.key) seeds)
      (new : List CanonicalPtr) (rising : IsRising new) (same : (x : CanonicalPtr) → Contains new x ↔ Contains
      (all_keys_of found seeds) x) where
    abbrev zs : List CanonicalPtr
    zs = held_keys found seeds

    into : (x : CanonicalPtr) → Contains zs x → Contains new x
    into x m = (same x).1 (Contains-append_left zs (filter_map entry_key zs) x m)

    data Origin (x : CanonicalPtr) : Type 0 where
      direct : Contains zs x → Origin x
      entry : HasImage entry_key zs x → Origin x

    origin : (x : CanonicalPtr) → Contains new x → Origin x
    origin x m = elim (Contains-append_cases zs (filter_map entry_key zs) x ((same x).0 m)) [
      | inl a ↦ direct a
      | inr b ↦ entry (from_filter_map entry_key zs x b)
    ]

    entry_in : (k x : CanonicalPtr) → Contains zs k → entry_key k ≡ Some x → Contains new x
    entry_in k x m e = (same x).1 (Contains-append_right zs (filter_map entry_key zs) x (in_filter_map entry_key zs k x m e))

    same_some : {x y : CanonicalPtr} → ◌≡◌ {A = Option CanonicalPtr} (Some x) (Some y) → x ≡ y
    same_some h = cc

    pub keys_made : ((k x : CanonicalPtr) → IsKey k → entry_key k ≡ Some x → IsKey x) → IsKeysOf found seeds new
    keys_made keys =
        let all_keys = held_are_keys zs refl of_found of_seeds in
        record {
          rising = rising;
          all = all_from_contains IsKey new (λ x m. elim (origin x m) [
            | direct a ↦ All-contains IsKey zs x all_keys a
            | entry g ↦ keys g.from x (All-contains IsKey zs g.from all_keys g.is_in) g.gives
          ]);
          of_found = λ f m. into f.key (Contains-append_left _ _ f.key (in_map (λ (v : Found). v.key) found f m));
          of_seeds = λ s m. into s.key (Contains-append_right _ _ s.key (in_map (λ (v : Seed). v.key) seeds s m));
          of_entries = λ k x m e. elim (origin k m) [
            | direct a ↦ entry_in k x a e
            | entry g ↦
                let again = entry_again g.from k (All-contains IsKey zs g.from all_keys g.is_in).well_formed g.gives in
                subst (Contains new) (same_some (sym again ∙ e)) m
          ];
        }
