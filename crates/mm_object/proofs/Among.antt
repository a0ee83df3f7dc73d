-- Names among others.
use Rattle.std.proofs.Common.{◌≡◌, ℕ, suc, ◌+◌, ◌-◌, ◌<◌, ◌≤◌, Bool, true, false, not, List, [], ◌∷◌, length, get_or}
use Rattle.std.proofs.Common.{take, refl, sym, ap, ◌∙◌, arith, bytes_eq}
use Rattle.std.{proofs.lemmas.{List.Folds.{list_any_at, list_any_more}, Bool.or_from}, specs.List.list_any}
use Rattle.mm_object.specs.{Names.is_before, Objects.{Segment, is_among, names_of}, Format.is_late}
use Rattle.mm_object.proofs.Bools.{any-map, whole_any}

-- a segment has the name
abbrev pub has_name : List ℕ → List Segment → Bool
has_name name segments = list_any (λ (s : Segment). bytes_eq name s.name) segments

pub among-names : (name : List ℕ) (segments : List Segment) → has_name name segments ≡ is_among name (names_of segments)
among-names name segments = sym (any-map (bytes_eq name) (λ (s : Segment). s.name) segments)

pub is_found : (name : List ℕ) (segments : List Segment) (i : ℕ) (s : Segment) → s ≡ get_or segments i s → i < length segments → bytes_eq name s.name ≡ true → true ≡ is_among name (names_of segments)
is_found name segments i s is lt same = sym (sym (among-names name segments)
    ∙ list_any_at (λ (s : Segment). bytes_eq name s.name) segments i s lt (ap (λ (x : Segment). bytes_eq name x.name)
    (sym is) ∙ same))

pub not_yet : (name : List ℕ) (segments : List Segment) (i : ℕ) (s : Segment) → s ≡ get_or segments i s
    → i < length segments → bytes_eq name s.name ≡ false → has_name name (take i segments) ≡ false
    → has_name name (take (i + 1) segments) ≡ false
not_yet name segments i s is lt other so_far = list_any_more (λ (s : Segment). bytes_eq name s.name) segments i s lt
    ∙ or_from _ _ so_far (ap (λ (x : Segment). bytes_eq name x.name) (sym is) ∙ other)

pub not_found : (name : List ℕ) (segments : List Segment) (i : ℕ) → has_name name (take i segments) ≡ false → length segments ≤ i → false ≡ is_among name (names_of segments)
not_found name segments i so_far le = whole_any (λ (s : Segment). bytes_eq name s.name) segments i so_far le ∙ among-names name segments

-- nothing stands before no bytes
pub none_before : (a b : List ℕ) → length b < 1 → false ≡ is_before a b
none_before [] [] e = refl
none_before (x ∷ a) [] e = refl
none_before a (y ∷ b) e = absurd (omega arith)

-- the last of the names
pub is_late-last : (names : List (List ℕ)) (name a : List ℕ) → 1 ≤ length names → a ≡ get_or names (length names - 1) a → not (is_before a name) ≡ is_late names name
is_late-last [] name a some is = absurd (omega arith)
is_late-last (b ∷ []) name a some is = ap (λ (x : List ℕ). not (is_before x name)) is
is_late-last (b ∷ x ∷ names) name a some is =
    let last : length (b ∷ x ∷ names) - 1 ≡ suc (length (x ∷ names) - 1) = omega arith in
    is_late-last (x ∷ names) name a (omega arith) (is ∙ ap (λ n. get_or (b ∷ x ∷ names) n a) last)
