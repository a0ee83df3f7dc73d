-- Segments as they are written.
use Rattle.std.proofs.Common.{◌≡◌, ◌≢◌, ℕ, zero, suc, ◌+◌, ◌-◌, ◌^◌, ◌<◌, ◌≤◌, ◌==◌, Bool, false, List, [], ◌∷◌, ◌++◌, length}
use Rattle.std.proofs.Common.{take, drop, slice_get, ◌↔◌, Some, None, decimal, codes, refl, sym, ap, ◌∙◌, arith}
use Rattle.std.proofs.Common.{append_assoc, length-append}
use Rattle.std.proofs.lemmas.{Fmt.decimal_injective, List.Elements.All-append}
use Rattle.std.proofs.lemmas.List.Splits.{slice_split_at, slice_split_none, join_with_byte-slice_split}
use Rattle.std.specs.List.{All, AllByRecursion, slice_split, join_with_byte, position}
use Rattle.mm_cli.specs.SegmentList.{AreFirstSegments, AreSegments, EndsBefore, IsNextSegment, IsSegment}
use Rattle.mm_cli.specs.SegmentList.{segment_text, segments_text}
use Rattle.mm_cli.proofs.{PlainNumbers.plain, ItemLists.{AreTold, ItemsRead, after_last, is_comma, split_at, no_split}}
use Rattle.mm_cli.proofs.ItemLists as items

-- 1. The text of a segment.

abbrev pub is_slash : ℕ → Bool
is_slash b = b == 47

-- its parts before and after the slash
parts_of : (s : ℕ × ℕ) → IsSegment s → slice_split is_slash (segment_text s) ≡ decimal s.0 ∷ decimal s.1 ∷ []
parts_of s is =
    ap (slice_split is_slash) (append_assoc (decimal s.0) (codes "/") (decimal s.1))
    ∙ slice_split_at is_slash (decimal s.0) 47 (decimal s.1) (plain 47 s.0 (omega arith) (omega (arith, is.0))) refl
    ∙ ap (λ (parts : List (List ℕ)). decimal s.0 ∷ parts) (slice_split_none is_slash (decimal s.1) (plain 47 s.1 (omega arith) (omega (arith, is.2))))

pub same_segment : (s t : ℕ × ℕ) → IsSegment s → IsSegment t → segment_text s ≡ segment_text t → s ≡ t
same_segment s t is also same =
    let parts : decimal s.0 ∷ decimal s.1 ∷ [] ≡ decimal t.0 ∷ decimal t.1 ∷ [] = sym (parts_of s is) ∙ ap (slice_split is_slash) same ∙ parts_of t also in
    let base : s.0 ≡ t.0 = decimal_injective s.0 t.0 (omega (arith, is.0)) (omega (arith, also.0)) (cc) in
    let log : s.1 ≡ t.1 = decimal_injective s.1 t.1 (omega (arith, is.2)) (omega (arith, also.2)) (cc) in
    let with_base : ℕ → ℕ × ℕ = λ n. (n, s.1) in
    let with_log : ℕ → ℕ × ℕ = λ n. (t.0, n) in
    ap with_base base ∙ ap with_log log

no_comma : (s : ℕ × ℕ) → IsSegment s → All (λ b. is_comma b ≡ false) (segment_text s)
no_comma s is =
    All-append (λ b. is_comma b ≡ false) (decimal s.0 ++ codes "/") (decimal s.1)
    (All-append (λ b. is_comma b ≡ false) (decimal s.0) (codes "/") (plain 44 s.0 (omega arith) (omega (arith, is.0))) slash)
    (plain 44 s.1 (omega arith) (omega (arith, is.2)))
  where
    slash : All (λ b. is_comma b ≡ false) (codes "/")
    slash zero d lt = refl
    slash (suc k) d lt = absurd (omega arith)

segments_told : AreTold segment_text IsSegment
segments_told = record { plain = no_comma; apart = same_segment }

-- the parts that are read, where the text has a slash
pub read_parts : (word base log : List ℕ) (at : ℕ) (s : ℕ × ℕ) → IsSegment s → word ≡ segment_text s → position is_slash word ≡ Some at → base ≡ take at word → log ≡ drop (at + 1) word
    → (base ≡ decimal s.0) × (log ≡ decimal s.1)
read_parts word base log at s is same found front back =
    let parts : base ∷ slice_split is_slash log ≡ decimal s.0 ∷ decimal s.1 ∷ [] =
    ap (λ (b : List ℕ). b ∷ slice_split is_slash log) front ∙ ap (λ (l : List ℕ). take at word ∷ slice_split is_slash l) back
    ∙ sym (split_at is_slash word at found) ∙ ap (slice_split is_slash) same ∙ parts_of s is in
    let rest : slice_split is_slash log ≡ decimal s.1 ∷ [] = cc in
    (cc, sym (join_with_byte-slice_split 47 log) ∙ ap (join_with_byte 47) rest)

-- a segment's text has a slash
pub no_slash : (word : List ℕ) (s : ℕ × ℕ) → IsSegment s → position is_slash word ≡ None → word ≢ segment_text s
no_slash word s is found same =
    let parts : word ∷ [] ≡ decimal s.0 ∷ decimal s.1 ∷ [] = sym (no_split is_slash word found) ∙ ap (slice_split is_slash) same ∙ parts_of s is in
    absurd (cc)

-- and its parts are the base and the logarithm
pub segment_of_parts : (word base log : List ℕ) (at : ℕ) (s : ℕ × ℕ) → position is_slash word ≡ Some at → base ≡ take at word → log ≡ drop (at + 1) word
    → base ≡ decimal s.0 → log ≡ decimal s.1 → IsSegment s → word ≡ segment_text s
segment_of_parts word base log at s found front back first second is =
    let rest : slice_split is_slash (drop (at + 1) word) ≡ decimal s.1 ∷ [] =
    ap (slice_split is_slash) (sym back ∙ second) ∙ slice_split_none is_slash (decimal s.1) (plain 47 s.1 (omega arith) (omega (arith, is.2))) in
    let parts : slice_split is_slash word ≡ slice_split is_slash (segment_text s) =
    split_at is_slash word at found ∙ ap (λ (b : List ℕ). b ∷ slice_split is_slash (drop (at + 1) word)) (sym front ∙ first)
    ∙ ap (λ (ps : List (List ℕ)). decimal s.0 ∷ ps) rest ∙ sym (parts_of s is) in
    sym (join_with_byte-slice_split 47 word) ∙ ap (join_with_byte 47) parts ∙ join_with_byte-slice_split 47 (segment_text s)

in_order : (xs : List (ℕ × ℕ)) → AreSegments xs → AreFirstSegments xs
in_order xs are = record { ascending = are.ascending; each = are.ranges }

pub one_list : (xs ys : List (ℕ × ℕ)) → AreSegments xs → AreSegments ys → segments_text xs ≡ segments_text ys → xs ≡ ys
one_list xs ys are also same = items.one_list segments_told xs ys are.some also.some are.ranges also.ranges same

-- 2. Segments that are read one after the other.

-- the segments so far
abbrev pub SegmentsRead : (all rest : List ℕ) → List (ℕ × ℕ) → Type 0
SegmentsRead all rest xs = ItemsRead segment_text EndsBefore IsSegment all rest xs

shorter : (xs ys more : List (ℕ × ℕ)) (s : ℕ × ℕ) → ys ≡ xs ++ s ∷ more → length ys ≤ 64 → length xs < 64
shorter xs ys more s is few =
    let count : length ys ≡ length xs + length (s ∷ more) = ap (λ (zs : List (ℕ × ℕ)). length zs) is ∙ length-append xs (s ∷ more) in
    omega (arith, count, few)

pub no_more : (all rest part : List ℕ) (xs : List (ℕ × ℕ)) (at : ℕ) → SegmentsRead all rest xs → position is_comma rest ≡ Some at → part ≡ take at rest
    → ((s : ℕ × ℕ) → IsNextSegment xs s → part ≢ segment_text s) → (ys : List (ℕ × ℕ)) → AreSegments ys → all ≢ segments_text ys
no_more all rest part xs at read found front none ys are =
    items.no_more segments_told read found front ys are.some (in_order ys are)
    (λ s more is follows. none s (record { follows = follows; room = shorter xs ys more s is are.few }))

pub no_last : (all rest : List ℕ) (xs : List (ℕ × ℕ)) → SegmentsRead all rest xs → position is_comma rest ≡ None
    → ((s : ℕ × ℕ) → IsNextSegment xs s → rest ≢ segment_text s) → (ys : List (ℕ × ℕ)) → AreSegments ys → all ≢ segments_text ys
no_last all rest xs read found none ys are =
    items.no_last segments_told read found ys are.some (in_order ys are)
    (λ s more is follows. none s (record { follows = follows; room = shorter xs ys more s is are.few }))

pub last_segment : (all rest : List ℕ) (xs ys : List (ℕ × ℕ)) (s : ℕ × ℕ) → SegmentsRead all rest xs → position is_comma rest ≡ None → IsNextSegment xs s → rest ≡ segment_text s
    → ys ≡ xs ++ s ∷ [] → (all ≡ segments_text ys) × AreSegments ys
last_segment all rest xs ys s read found next written more =
    let whole = items.read_last read found next.follows written more in
    let count : length ys ≡ length xs + 1 = ap (λ (zs : List (ℕ × ℕ)). length zs) more ∙ length-append xs (s ∷ []) in
    (whole.is, record { some = whole.some; few = omega (arith, count, next.room); ascending = whole.items.ascending; ranges = whole.items.each })

-- 3. A segment more.

-- segments end before an address where the last one does
pub ends_last : (xs : List (ℕ × ℕ)) (last : ℕ × ℕ) (base : ℕ) → AreFirstSegments xs → Some last ≡ slice_get xs (length xs - 1)
    → (last.0 + 2 ^ last.1 ≤ base) ↔ AllByRecursion (λ s. s.0 + 2 ^ s.1 ≤ base) xs
ends_last xs last base so_far at = after_last EndsBefore (λ s t u before after. omega (arith, before, after)) xs (base, 0) last so_far.ascending at
