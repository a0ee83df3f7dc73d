-- Items that are written with commas between them, and read one after the other.
use Rattle.std.proofs.Common.{◌≡◌, ◌≢◌, ℕ, zero, suc, ◌+◌, ◌-◌, ◌<◌, ◌≤◌, ◌==◌, Bool, true, false, List, [], ◌∷◌, ◌++◌}
use Rattle.std.proofs.Common.{length, map, take, drop, slice_get, ◌↔◌, Some, None, nat_lt, cond, refl, sym, ap, ◌∙◌}
use Rattle.std.proofs.Common.{subst, arith, append-nil, length-drop, length-take}
use Rattle.std.proofs.lemmas.{Bool.{ltb-true, ltb-false}, List.{take_all, Sums.fails_before_first}}
use Rattle.std.proofs.lemmas.List.Splits.{slice_split_at, slice_split_none, slice_split_first, join_with_byte-slice_split}
use Rattle.std.specs.List.{All, AllByRecursion, slice_split, join_with_byte, position, position_or_len}
use Rattle.mm_model.proofs.CoreRows.{each_push}
use Rattle.mm_cli.specs.ItemList.{AreInOrder, Follows, InOrder, with_commas}

abbrev pub is_comma : ℕ → Bool
is_comma b = b == 44

-- The texts of items have no comma, and tell the items apart.
pub record AreTold {A : Type 0} (text : A → List ℕ) (IsItem : A → Type 0) : Type 0 where
  pub plain : (a : A) → IsItem a → All (λ b. is_comma b ≡ false) (text a)
  pub apart : (a b : A) → IsItem a → IsItem b → text a ≡ text b → a ≡ b

-- 1. The parts between the commas are the texts of the items.

module _ {A : Type 0} (text : A → List ℕ) (IsItem : A → Type 0) (told : AreTold text IsItem) where
  parts_of : (xs : List A) → 1 ≤ length xs → AllByRecursion IsItem xs → slice_split is_comma (with_commas text xs) ≡ map text xs
  parts_of [] some each = absurd (omega arith)
  parts_of (x ∷ []) some each = slice_split_none is_comma (text x) (told.plain x each.0)
  parts_of (x ∷ y ∷ xs) some each =
      slice_split_at is_comma (text x) 44 (with_commas text (y ∷ xs)) (told.plain x each.0) refl
      ∙ ap (λ (parts : List (List ℕ)). text x ∷ parts) (parts_of (y ∷ xs) (omega arith) each.1)

  same_items : (xs ys : List A) → AllByRecursion IsItem xs → AllByRecursion IsItem ys → map text xs ≡ map text ys → xs ≡ ys
  same_items [] [] each other same = refl
  same_items [] (y ∷ ys) each other same = absurd (cc)
  same_items (x ∷ xs) [] each other same = absurd (cc)
  same_items (x ∷ xs) (y ∷ ys) each other same =
      let written : text x ≡ text y = cc in
      let others : map text xs ≡ map text ys = cc in
      let first : x ≡ y = told.apart x y each.0 other.0 written in
      let rest : xs ≡ ys = same_items xs ys each.1 other.1 others in
      cc

  -- items begin with those that were read
  begins : (xs ys : List A) (part : List ℕ) (parts : List (List ℕ)) → AllByRecursion IsItem xs → AllByRecursion IsItem ys
      → map text ys ≡ map text xs ++ part ∷ parts → (a : A) × (more : List A) × (ys ≡ xs ++ a ∷ more) × (part ≡ text a)
  begins [] [] part parts each other same = absurd (cc)
  begins [] (y ∷ ys) part parts each other same = (y, ys, refl, cc)
  begins (x ∷ xs) [] part parts each other same = absurd (cc)
  begins (x ∷ xs) (y ∷ ys) part parts each other same =
      let written : text y ≡ text x = cc in
      let others : map text ys ≡ map text xs ++ part ∷ parts = cc in
      let first : y ≡ x = told.apart y x other.0 each.0 written in
      let (a, more, is, last) = begins xs ys part parts each.1 other.1 others in
      let all : y ∷ ys ≡ x ∷ (xs ++ a ∷ more) = cc in
      (a, more, all, last)

pub text_of : {A : Type 0} (text : A → List ℕ) (all : List ℕ) (xs : List A) → slice_split is_comma all ≡ map text xs → all ≡ with_commas text xs
text_of text all xs parts = sym (join_with_byte-slice_split 44 all) ∙ ap (join_with_byte 44) parts

pub one_list : {A : Type 0} {text : A → List ℕ} {IsItem : A → Type 0} → AreTold text IsItem → (xs ys : List A) → 1 ≤ length xs → 1 ≤ length ys
    → AllByRecursion IsItem xs → AllByRecursion IsItem ys → with_commas text xs ≡ with_commas text ys → xs ≡ ys
one_list {text = text} {IsItem = IsItem} told xs ys some many each other same =
    same_items text IsItem told xs ys each other
    (sym (parts_of text IsItem told xs some each) ∙ ap (slice_split is_comma) same ∙ parts_of text IsItem told ys many other)

-- 2. Items in order.

pub at_each : {A : Type 0} (P : A → Type 0) (xs : List A) (k : ℕ) (a : A) → slice_get xs k ≡ Some a → AllByRecursion P xs → P a
at_each P [] k a at each = absurd (cc)
at_each P (x ∷ xs) zero a at each = let same : x ≡ a = cc in subst P same each.0
at_each P (x ∷ xs) (suc k) a at each = at_each P xs k a at each.1

at_middle : {A : Type 0} (P : A → Type 0) (xs : List A) (a : A) (more : List A) → AllByRecursion P (xs ++ a ∷ more) → P a
at_middle P [] a more each = each.0
at_middle P (x ∷ xs) a more each = at_middle P xs a more each.1

module _ {A : Type 0} (Before : A → A → Type 0) where
  after_each : (xs : List A) (a : A) (more : List A) → InOrder Before (xs ++ a ∷ more) → AllByRecursion (λ b. Before b a) xs
  after_each [] a more up = tt
  after_each (x ∷ xs) a more up = (at_middle (Before x) xs a more up.0, after_each xs a more up.1)

  ascending_more : (xs : List A) (a : A) → InOrder Before xs → AllByRecursion (λ b. Before b a) xs → InOrder Before (xs ++ a ∷ [])
  ascending_more [] a up after = (tt, tt)
  ascending_more (x ∷ xs) a up after = (each_push (Before x) xs a up.0 after.0, ascending_more xs a up.1 after.1)

  -- an item that stands after the last one
  after_all : ((a b c : A) → Before a b → Before b c → Before a c) → (xs : List A) (a last : A) (k : ℕ) → InOrder Before xs → k + 1 ≡ length xs → slice_get xs k ≡ Some last
      → Before last a → AllByRecursion (λ b. Before b a) xs
  after_all passes [] a last k up is at before = tt
  after_all passes (x ∷ []) a last zero up is at before = let same : x ≡ last = cc in (subst (λ (b : A). Before b a) (sym same) before, tt)
  after_all passes (x ∷ []) a last (suc k) up is at before = absurd (omega arith)
  after_all passes (x ∷ y ∷ xs) a last zero up is at before = absurd (omega arith)
  after_all passes (x ∷ y ∷ xs) a last (suc k) up is at before =
      let rest = after_all passes (y ∷ xs) a last k up.1 (omega arith) at before in
      (passes x y a up.0.0 rest.0, rest)

-- an item stands after each where it stands after the last one
pub after_last : {A : Type 0} (Before : A → A → Type 0) → ((a b c : A) → Before a b → Before b c → Before a c) → (xs : List A) (a last : A) → InOrder Before xs
    → Some last ≡ slice_get xs (length xs - 1) → Before last a ↔ AllByRecursion (λ b. Before b a) xs
after_last {A = A} Before passes xs a last up at = (
  λ before. by xs up at before,
  λ after. at_each (λ b. Before b a) xs (length xs - 1) last (sym at) after,
)
  where
    by : (ys : List A) → InOrder Before ys → Some last ≡ slice_get ys (length ys - 1) → Before last a → AllByRecursion (λ b. Before b a) ys
    by [] ups is before = tt
    by (y ∷ ys) ups is before = after_all Before passes (y ∷ ys) a last (length (y ∷ ys) - 1) ups (omega arith) (sym is) before

pub in_order_more : {A : Type 0} {Before : A → A → Type 0} {IsItem : A → Type 0} {xs ys : List A} {a : A} → AreInOrder Before IsItem xs → Follows Before IsItem xs a → ys ≡ xs ++ a ∷ []
    → AreInOrder Before IsItem ys
in_order_more {Before = Before} {IsItem = IsItem} {xs = xs} {a = a} so_far follows more =
    subst (AreInOrder Before IsItem) (sym more)
    (record { ascending = ascending_more Before xs a so_far.ascending follows.after; each = each_push IsItem xs a so_far.each follows.one })

follows_in : {A : Type 0} {Before : A → A → Type 0} {IsItem : A → Type 0} (xs : List A) (a : A) (more : List A) → AreInOrder Before IsItem (xs ++ a ∷ more) → Follows Before IsItem xs a
follows_in {Before = Before} {IsItem = IsItem} xs a more all =
    record { after = after_each Before xs a more all.ascending; one = at_middle IsItem xs a more all.each }

-- 3. Parts that are cut at the first byte of a kind.

pub split_at : (p : ℕ → Bool) (text : List ℕ) (at : ℕ) → position p text ≡ Some at → slice_split p text ≡ take at text ∷ slice_split p (drop (at + 1) text)
split_at p text at found = by (nat_lt (position_or_len p text) (length text)) refl found
  where
    by : (b : Bool) → nat_lt (position_or_len p text) (length text) ≡ b → cond b (Some (position_or_len p text)) None ≡ Some at
        → slice_split p text ≡ take at text ∷ slice_split p (drop (at + 1) text)
    by true lt is =
        let place : position_or_len p text ≡ at = cc in
        slice_split_first p text 0 (ltb-true _ _ lt) ∙ ap (λ (n : ℕ). take n text ∷ slice_split p (drop (n + 1) text)) place
    by false lt is = absurd (cc)

pub position_inside : (p : ℕ → Bool) (text : List ℕ) (at : ℕ) → position p text ≡ Some at → at < length text
position_inside p text at found = by (nat_lt (position_or_len p text) (length text)) refl found
  where
    by : (b : Bool) → nat_lt (position_or_len p text) (length text) ≡ b → cond b (Some (position_or_len p text)) None ≡ Some at → at < length text
    by true lt is = let place : position_or_len p text ≡ at = cc in let inside = ltb-true _ _ lt in omega arith
    by false lt is = absurd (cc)

pub no_split : (p : ℕ → Bool) (text : List ℕ) → position p text ≡ None → slice_split p text ≡ text ∷ []
no_split p text found = by (nat_lt (position_or_len p text) (length text)) refl found
  where
    by : (b : Bool) → nat_lt (position_or_len p text) (length text) ≡ b → cond b (Some (position_or_len p text)) None ≡ None
        → slice_split p text ≡ text ∷ []
    by true lt is = absurd (cc)
    by false lt is =
        let none : length text ≤ position_or_len p text = ltb-false _ _ lt in
        slice_split_none p text (λ k d inside. fails_before_first p text k d (omega arith))

-- 4. One part more, and the last one.

-- The items that were read are in order. The parts of all the text are the texts of these items, and then those of the rest.
pub record ItemsRead {A : Type 0} (text : A → List ℕ) (Before : A → A → Type 0) (IsItem : A → Type 0) (all rest : List ℕ) (xs : List A) : Type 0 where
  pub items : AreInOrder Before IsItem xs
  pub parts : slice_split is_comma all ≡ map text xs ++ slice_split is_comma rest

pub none_read : {A : Type 0} {text : A → List ℕ} {Before : A → A → Type 0} {IsItem : A → Type 0} {all : List ℕ} {xs : List A} → xs ≡ [] → ItemsRead text Before IsItem all all xs
none_read {text = text} {Before = Before} {IsItem = IsItem} {all = all} none =
    subst (ItemsRead text Before IsItem all all) (sym none) (record { items = record { ascending = tt; each = tt }; parts = refl })

map_more : {A : Type 0} (text : A → List ℕ) (xs : List A) (a : A) (parts : List (List ℕ)) → map text xs ++ text a ∷ parts ≡ map text (xs ++ a ∷ []) ++ parts
map_more text [] a parts = refl
map_more text (x ∷ xs) a parts = ap (λ (more : List (List ℕ)). text x ∷ more) (map_more text xs a parts)

-- the parts where the next part is the text of an item
parts_more : {A : Type 0} (text : A → List ℕ) (xs ys : List A) (a : A) (parts next others : List (List ℕ)) → parts ≡ map text xs ++ next → next ≡ text a ∷ others → ys ≡ xs ++ a ∷ []
    → parts ≡ map text ys ++ others
parts_more {A = A} text xs ys a parts next others read is more =
    read ∙ ap (λ (ps : List (List ℕ)). map text xs ++ ps) is ∙ map_more text xs a others ∙ ap (λ (zs : List A). map text zs ++ others) (sym more)

pub rest_whole : (rest : List ℕ) (at n : ℕ) → n ≡ length rest - (at + 1) → take n (drop (at + 1) rest) ≡ drop (at + 1) rest
rest_whole rest at n size = take_all n (drop (at + 1) rest) (omega (arith, length-drop (at + 1) rest))

pub rest_short : (all rest : List ℕ) (at n : ℕ) → length rest ≤ length all → length (take n (drop (at + 1) rest)) ≤ length all
rest_short all rest at n short = omega (arith, length-drop (at + 1) rest, length-take n (drop (at + 1) rest))

pub read_more : {A : Type 0} {text : A → List ℕ} {Before : A → A → Type 0} {IsItem : A → Type 0} {all rest part : List ℕ} {xs ys : List A} {a : A} {at n : ℕ}
    → ItemsRead text Before IsItem all rest xs → position is_comma rest ≡ Some at → part ≡ take at rest → Follows Before IsItem xs a → part ≡ text a → ys ≡ xs ++ a ∷ []
    → n ≡ length rest - (at + 1) → ItemsRead text Before IsItem all (take n (drop (at + 1) rest)) ys
read_more {text = text} {all = all} {rest = rest} {xs = xs} {ys = ys} {a = a} {at = at} {n = n} read found front follows written more size =
    let behind : List ℕ = drop (at + 1) rest in
    let next : slice_split is_comma rest ≡ text a ∷ slice_split is_comma behind =
    split_at is_comma rest at found ∙ ap (λ (word : List ℕ). word ∷ slice_split is_comma behind) (sym front ∙ written) in
    record {
      items = in_order_more read.items follows more;
      parts = parts_more text xs ys a (slice_split is_comma all) (slice_split is_comma rest) (slice_split is_comma behind) read.parts next more
          ∙ ap (λ (after : List ℕ). map text ys ++ slice_split is_comma after) (sym (rest_whole rest at n size));
    }

-- no items are written so if none whose text is the next part follows those that were read
no_items : {A : Type 0} {text : A → List ℕ} {Before : A → A → Type 0} {IsItem : A → Type 0} {all rest part : List ℕ} {xs : List A} (parts : List (List ℕ)) → AreTold text IsItem
    → ItemsRead text Before IsItem all rest xs → slice_split is_comma rest ≡ part ∷ parts → (ys : List A) → 1 ≤ length ys → AreInOrder Before IsItem ys
    → ((a : A) (more : List A) → ys ≡ xs ++ a ∷ more → Follows Before IsItem xs a → part ≢ text a) → all ≢ with_commas text ys
no_items {text = text} {Before = Before} {IsItem = IsItem} {part = part} {xs = xs} parts told read next ys some are none same =
    let written : map text ys ≡ map text xs ++ part ∷ parts =
    sym (ap (slice_split is_comma) same ∙ parts_of text IsItem told ys some are.each) ∙ read.parts ∙ ap (λ (ps : List (List ℕ)). map text xs ++ ps) next in
    let (a, more, is, is_text) = begins text IsItem told xs ys part parts read.items.each are.each written in
    none a more is (follows_in xs a more (subst (AreInOrder Before IsItem) is are)) is_text

pub no_more : {A : Type 0} {text : A → List ℕ} {Before : A → A → Type 0} {IsItem : A → Type 0} {all rest part : List ℕ} {xs : List A} {at : ℕ} → AreTold text IsItem
    → ItemsRead text Before IsItem all rest xs → position is_comma rest ≡ Some at → part ≡ take at rest → (ys : List A) → 1 ≤ length ys → AreInOrder Before IsItem ys
    → ((a : A) (more : List A) → ys ≡ xs ++ a ∷ more → Follows Before IsItem xs a → part ≢ text a) → all ≢ with_commas text ys
no_more {rest = rest} {at = at} told read found front ys some are none =
    let parts : List (List ℕ) = slice_split is_comma (drop (at + 1) rest) in
    no_items parts told read (split_at is_comma rest at found ∙ ap (λ (word : List ℕ). word ∷ parts) (sym front)) ys some are none

pub no_last : {A : Type 0} {text : A → List ℕ} {Before : A → A → Type 0} {IsItem : A → Type 0} {all rest : List ℕ} {xs : List A} → AreTold text IsItem
    → ItemsRead text Before IsItem all rest xs → position is_comma rest ≡ None → (ys : List A) → 1 ≤ length ys → AreInOrder Before IsItem ys
    → ((a : A) (more : List A) → ys ≡ xs ++ a ∷ more → Follows Before IsItem xs a → rest ≢ text a) → all ≢ with_commas text ys
no_last {rest = rest} told read found ys some are none = no_items [] told read (no_split is_comma rest found) ys some are none

-- The last part makes the text that of the items.
pub record AllRead {A : Type 0} (text : A → List ℕ) (Before : A → A → Type 0) (IsItem : A → Type 0) (all : List ℕ) (xs : List A) : Type 0 where
  pub is : all ≡ with_commas text xs
  pub some : 1 ≤ length xs
  pub items : AreInOrder Before IsItem xs

longer : {A : Type 0} (xs : List A) (a : A) → 1 ≤ length (xs ++ a ∷ [])
longer [] a = omega arith
longer (x ∷ xs) a = omega arith

pub read_last : {A : Type 0} {text : A → List ℕ} {Before : A → A → Type 0} {IsItem : A → Type 0} {all rest : List ℕ} {xs ys : List A} {a : A}
    → ItemsRead text Before IsItem all rest xs → position is_comma rest ≡ None → Follows Before IsItem xs a → rest ≡ text a → ys ≡ xs ++ a ∷ []
    → AllRead text Before IsItem all ys
read_last {A = A} {text = text} {all = all} {rest = rest} {xs = xs} {ys = ys} {a = a} read found follows written more =
    let next : slice_split is_comma rest ≡ text a ∷ [] = no_split is_comma rest found ∙ ap (λ (word : List ℕ). word ∷ []) written in
    record {
      is = text_of text all ys (parts_more text xs ys a (slice_split is_comma all) (slice_split is_comma rest) [] read.parts next more ∙ append-nil (map text ys));
      some = subst (λ (zs : List A). 1 ≤ length zs) (sym more) (longer xs a);
      items = in_order_more read.items follows more;
    }
