-- What is written of groups, one group after the other.
use Rattle.std.proofs.Common.{◌≡◌, ℕ, ◌+◌, ◌-◌, ◌<◌, ◌≤◌, ◌==◌, Bool, true, false, ◌||◌, List, [], ◌∷◌, ◌++◌, length}
use Rattle.std.proofs.Common.{map, take, drop, get_or, codes, decimal, refl, sym, ap, ◌∙◌, subst, append_assoc}
use Rattle.std.proofs.Common.{append-nil, arith}
use Rattle.std.proofs.lemmas.List.{take_more, take_all}
use Rattle.std.proofs.lemmas.List.{Elements.{filter-append, filter_agree}, FromFn.get_or-range_with_len}
use Rattle.std.specs.List.{list_any, filter, flat_map, range_with_len}
use Rattle.mm_model.specs.{Slot.Slot, Image.{Image, start}, Groups.has_group, Report.{is_of, groups_of}}
use Rattle.mm_model.specs.Audit.{AuditOf, AuditEach, AuditGroups, ApartLine, groups_text}
use Rattle.mm_audit_text.specs.Parts.{IsPart, if_present, further}

-- 1. Numbers with commas between.

pub numbers : (g : ℕ) (gs : List ℕ) → decimal g ++ flat_map further gs ≡ groups_text (g ∷ gs)
numbers g [] = append-nil (decimal g)
numbers g (h ∷ gs) =
    let first = decimal g ++ codes "," in
    ap (λ (text : List ℕ). decimal g ++ text) (append_assoc (codes ",") (decimal h) (flat_map further gs))
    ∙ sym (append_assoc (decimal g) (codes ",") (decimal h ++ flat_map further gs))
    ∙ ap (λ (text : List ℕ). first ++ text) (numbers h gs)

rest_numbers : (g : ℕ) (gs : List ℕ) (n k : ℕ) → n ≡ length gs → length (take n gs) ≤ k → decimal g ++ flat_map further (take k (take n gs)) ≡ groups_text (g ∷ gs)
rest_numbers g gs n k is all =
    ap (λ (l : List ℕ). decimal g ++ flat_map further l) (take_all k (take n gs) all ∙ take_all n gs (omega (arith, is)))
    ∙ numbers g gs

pub all_numbers : (gs : List ℕ) (k : ℕ) → 1 ≤ length gs → length (take (length gs - 1) (drop 1 gs)) ≤ k
    → decimal (get_or gs 0 0) ++ flat_map further (take k (take (length gs - 1) (drop 1 gs))) ≡ groups_text gs
all_numbers [] k some all = absurd (omega (arith, some))
all_numbers (g ∷ gs) k some all = rest_numbers g gs (length (g ∷ gs) - 1) k (omega arith) all

-- 2. The groups that have a slot.

same_rows : (g : ℕ) (slots : List Slot) → list_any (is_of g) (map (λ (s : Slot). record { slot = s; queue = [] }) slots) ≡ has_group slots g
same_rows g [] = refl
same_rows g (s ∷ slots) = ap (λ (b : Bool). (s.group == g) || b) (same_rows g slots)

groups_are : (i : Image) → filter (has_group i.slots) (range_with_len 0 64) ≡ groups_of (start i).core
unfolding start
groups_are i = filter_agree (has_group i.slots) (λ g. list_any (is_of g) (start i).core.rows) (λ g. sym (same_rows g i.slots)) (range_with_len 0 64)

-- 3. Parts of the text.

pub nothing_yet : (i : Image) (apart : Bool) → IsPart i apart [] []
nothing_yet i true = AuditEach.no_group
nothing_yet i false = AuditGroups.no_group

each_then : (i : Image) (gs hs a b : List ℕ) → AuditEach i gs a → AuditEach i hs b → AuditEach i (gs ++ hs) (a ++ b)
each_then i gs hs a b AuditEach.no_group rest = rest
each_then i gs hs a b (AuditEach.group {g = g} {gs = others} {own = own} {line = line} {text = text} is apart more) rest =
    subst (AuditEach i (g ∷ (others ++ hs))) (sym (append_assoc (own ++ line) text b)) (AuditEach.group is apart (each_then i others hs text b more rest))

groups_then : (i : Image) (gs hs a b : List ℕ) → AuditGroups i gs a → AuditGroups i hs b → AuditGroups i (gs ++ hs) (a ++ b)
groups_then i gs hs a b AuditGroups.no_group rest = rest
groups_then i gs hs a b (AuditGroups.group {g = g} {gs = others} {own = own} {text = text} is more) rest =
    subst (AuditGroups i (g ∷ (others ++ hs))) (sym (append_assoc own text b)) (AuditGroups.group is (groups_then i others hs text b more rest))

pub then_part : (i : Image) (apart : Bool) (gs hs a b : List ℕ) → IsPart i apart gs a → IsPart i apart hs b → IsPart i apart (gs ++ hs) (a ++ b)
then_part i true gs hs a b part rest = each_then i gs hs a b part rest
then_part i false gs hs a b part rest = groups_then i gs hs a b part rest

-- a group that is present, with its own answer or without
pub one_part : (i : Image) (apart has : Bool) (g : ℕ) (own line : List ℕ) → has ≡ true → apart ≡ true → AuditOf i g own → ApartLine i (g ∷ []) line
    → IsPart i apart (if_present has g) (own ++ line)
one_part i apart has g own line there with_line is answer =
    subst (λ b. IsPart i b (if_present has g) (own ++ line)) (sym with_line)
    (subst (λ b. AuditEach i (if_present b g) (own ++ line)) (sym there)
    (subst (AuditEach i (g ∷ [])) (append-nil (own ++ line)) (AuditEach.group is answer AuditEach.no_group)))

pub one_alone : (i : Image) (apart has : Bool) (g : ℕ) (own : List ℕ) → has ≡ true → apart ≡ false → AuditOf i g own → IsPart i apart (if_present has g) own
one_alone i apart has g own there without is =
    subst (λ b. IsPart i b (if_present has g) own) (sym without)
    (subst (λ b. AuditGroups i (if_present b g) own) (sym there)
    (subst (AuditGroups i (g ∷ [])) (append-nil own) (AuditGroups.group is AuditGroups.no_group)))

pub no_part : (i : Image) (apart has : Bool) (g : ℕ) → has ≡ false → IsPart i apart (if_present has g) []
no_part i apart has g absent = subst (λ b. IsPart i apart (if_present b g) []) (sym absent) (nothing_yet i apart)

-- 4. One group more.

pub one_more : (p : ℕ → Bool) (n : ℕ) → n < 64 → filter p (take (n + 1) (range_with_len 0 64)) ≡ filter p (take n (range_with_len 0 64)) ++ if_present (p n) n
one_more p n few =
    let at : get_or (range_with_len 0 64) n 0 ≡ n = get_or-range_with_len 0 64 n 0 few ∙ omega arith in
    ap (filter p) (take_more (range_with_len 0 64) n 0 few)
    ∙ filter-append p (take n (range_with_len 0 64)) (get_or (range_with_len 0 64) n 0 ∷ [])
    ∙ ap (λ (k : ℕ). filter p (take n (range_with_len 0 64)) ++ if_present (p k) k) at

pub all_present : (i : Image) (n : ℕ) → 64 ≤ n → filter (has_group i.slots) (take n (range_with_len 0 64)) ≡ groups_of (start i).core
all_present i n all = ap (filter (has_group i.slots)) (take_all n (range_with_len 0 64) all) ∙ groups_are i
