-- Names in a set of keys.
use Rattle.std.proofs.Common.{◌≡◌, ℕ, ◌+◌, ◌<◌, Bool, true, false, ◌||◌, List, [], ◌∷◌, length, get_or, take, refl, sym}
use Rattle.std.proofs.Common.{ap, ◌∙◌, bytes_eq}
use Rattle.std.proofs.lemmas.{Map.Text.is_eq-slice_cmp, List.Folds.list_any_more, Slice.Eq.bytes_eq-Decides}
use Rattle.std.specs.declared.cmp.Ordering.{Ordering, TheVariants.{Less, Equal, Greater}}
use Rattle.std.specs.{Ordering.{nat_cmp, match_ordering, is_eq}, Cmp.Lexicographic.slice_cmp, BTreeSet.insert_key}
use Rattle.std.specs.List.{list_any}
use denote.Ref.{Bor}
use Rattle.mm_object.specs.{Objects.{Segment, is_among, names_of}, Steps.{key_names, AreTheSame}}
use Rattle.mm_object.proofs.Among.{has_name, among-names}

abbrev order_of : Bor (List ℕ) → Bor (List ℕ) → Ordering
order_of a b = slice_cmp nat_cmp a.now b.now

pub contained : (keys : List (Bor (List ℕ))) (name : List ℕ) → list_any (λ (k : Bor (List ℕ)). is_eq (slice_cmp nat_cmp name k.now)) keys ≡ is_among name (key_names keys)
contained [] name = refl
contained (x ∷ keys) name = ap (λ b. b || list_any (λ (k : Bor (List ℕ)). is_eq (slice_cmp nat_cmp name k.now)) keys) (is_eq-slice_cmp name x.now)
    ∙ ap (λ b. bytes_eq name x.now || b) (contained keys name)

pub twice : (a b : Bool) → (a || b) ≡ (a || (a || b))
twice true b = refl
twice false b = refl

swapped : (a b c : Bool) → (a || (b || c)) ≡ (b || (a || c))
swapped true true c = refl
swapped true false c = refl
swapped false b c = refl

turned : (a b : Bool) → (a || b) ≡ (b || a)
turned true true = refl
turned true false = refl
turned false true = refl
turned false false = refl

-- a key more
key_more : (keys : List (Bor (List ℕ))) (k : Bor (List ℕ)) (name : List ℕ) → is_among name (key_names (insert_key order_of keys k)) ≡ (bytes_eq name k.now || is_among name (key_names keys))
key_more [] k name = refl
key_more (x ∷ keys) k name = by (order_of k x) (is_eq-slice_cmp k.now x.now) (key_more keys k name)
  where
    by : (o : Ordering) → is_eq o ≡ bytes_eq k.now x.now
        → is_among name (key_names (insert_key order_of keys k)) ≡ (bytes_eq name k.now || is_among name (key_names keys))
        → is_among name (key_names (match_ordering o (k ∷ x ∷ keys) (x ∷ keys) (x ∷ insert_key order_of keys k))) ≡ (bytes_eq name k.now || (bytes_eq name x.now || is_among name (key_names keys)))
    by Less e later = refl
    by Equal e later =
        let same : k.now ≡ x.now = (bytes_eq-Decides k.now x.now).0 (sym e) in
        twice (bytes_eq name x.now) (is_among name (key_names keys)) ∙ ap (λ (n : List ℕ). bytes_eq name n || (bytes_eq name x.now || is_among name (key_names keys))) (sym same)
    by Greater e later = ap (λ b. bytes_eq name x.now || b) later ∙ swapped (bytes_eq name x.now) (bytes_eq name k.now) (is_among name (key_names keys))

-- the name of one segment more
pub segment_known : (old new : List (Bor (List ℕ))) (k : Bor (List ℕ)) (segments : List Segment) (i : ℕ) (s : Segment)
    → s ≡ get_or segments i s → i < length segments → k.now ≡ s.name → new ≡ insert_key order_of old k
    → AreTheSame (key_names old) (names_of (take i segments)) → AreTheSame (key_names new) (names_of (take (i + 1) segments))
segment_known old new k segments i s is lt same more before = λ name.
    ap (λ keys. is_among name (key_names keys)) more
    ∙ key_more old k name
    ∙ ap (λ (n : List ℕ). bytes_eq name n || is_among name (key_names old)) same
    ∙ ap (λ b. bytes_eq name s.name || b) (before name ∙ sym (among-names name (take i segments)))
    ∙ turned (bytes_eq name s.name) (has_name name (take i segments))
    ∙ ap (λ (x : Segment). has_name name (take i segments) || bytes_eq name x.name) is
    ∙ sym (list_any_more (λ (x : Segment). bytes_eq name x.name) segments i s lt)
    ∙ among-names name (take (i + 1) segments)
