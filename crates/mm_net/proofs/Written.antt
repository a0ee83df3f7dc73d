-- Texts of lists that are written item by item.
use Rattle.std.proofs.Common.{◌≡◌, ℕ, zero, suc, ◌+◌, ◌<◌, ◌≤◌, List, [], ◌∷◌, ◌++◌, length, take, drop, get_or}
use Rattle.std.proofs.Common.{slice_get, Option, Some, option_copied, Bor, Result, Ok, Err, IsErr, refl, sym, ap, ◌∙◌}
use Rattle.std.proofs.Common.{arith, cond}
use Rattle.std.proofs.lemmas.Bool.{ne_eqb, eq-eqb}
use Rattle.std.proofs.lemmas.List.{take-append-drop, take_all, FromFn.{length-enumerate_from, get_or-enumerate_from}}
use Rattle.std.proofs.lemmas.{Option.get_or_from_slice_get, Slice.Zip.{get_or-zip, length-zip}, Grind.flat_map-append}
use Rattle.std.specs.{List.{flat_map, enumerate_from, zip}, Prelude.◌==◌, Result.IsErrAnd}
use Rattle.mm_io.{specs.Sinks.Writes, proofs.Known.{writes_then, writes_same, writes_cut, append_known-[]}}
use Rattle.mm_text.proofs.Appending.{lines_more}
use Rattle.mm_model.specs.{declared.counts.Counts.Counts, Uses.Use, State.State, Image.Image}
use Rattle.mm_net.specs.{declared.{link.Link.Link, item.NetItem.NetItem}, Nets.{NetState, net_start, net_run, net_uses}}
use Rattle.mm_net.specs.Texts.{node_text, nodes_text, link_lines, net_text}

-- nothing was written yet
pub writes_nothing : {S E : Type 0} (taken : S → Option (List ℕ)) (faults : S → ℕ) (s : S) → Writes {T = Unit {0}} {E = E} taken faults s s [] (Ok tt)
writes_nothing taken faults s = record { later = omega arith; whole = sym (append_known-[] (taken s)); part = tt; failed = tt }

-- one more item of a list is written
pub writes_item : {S A E T : Type 0} {taken : S → Option (List ℕ)} {faults : S → ℕ} {a b c : S} {t : T} {result : Result T E} (line : A → List ℕ) (items : List A) (i : ℕ) (item : A)
    → i < length items → item ≡ get_or items i item → Writes {E = E} taken faults a b (flat_map line (take i items)) (Ok t) → Writes taken faults b c (line item) result
    → Writes taken faults a c (flat_map line (take (i + 1) items)) result
writes_item line items i item inside is before now =
    writes_same (writes_then before (writes_same now (ap line is))) (sym (lines_more line items i item inside))

-- all items are written
pub writes_all : {S A E T : Type 0} {taken : S → Option (List ℕ)} {faults : S → ℕ} {a b : S} {result : Result T E} (line : A → List ℕ) (items : List A) (i : ℕ)
    → length items ≤ i → Writes taken faults a b (flat_map line (take i items)) result → Writes taken faults a b (flat_map line items) result
writes_all line items i past w = writes_same w (ap (flat_map line) (take_all i items past))

-- the write of one more item failed: the text of all is longer
pub writes_stop : {S A E F T U : Type 0} {taken : S → Option (List ℕ)} {faults : S → ℕ} {a b c : S} {t : T} {e : E} (line : A → List ℕ) (items : List A) (i : ℕ) (item : A)
    → i < length items → item ≡ get_or items i item → Writes {E = E} taken faults a b (flat_map line (take i items)) (Ok t) → Writes {T = T} taken faults b c (line item) (Err e)
    → (final : Result U F) → IsErr final → Writes taken faults a c (flat_map line items) final
writes_stop line items i item inside is before now final err =
    writes_cut (writes_item line items i item inside is before now) (flat_map line items) (flat_map line (drop (i + 1) items))
    (ap (flat_map line) (sym (take-append-drop (i + 1) items)) ∙ flat_map-append line (take (i + 1) items) (drop (i + 1) items)) final err

-- an item beside its place
pub placed : {A : Type 0} (xs : List A) (i : ℕ) (x : A) → i < length xs → x ≡ get_or xs i x → (i, x) ≡ get_or (enumerate_from 0 xs) i (i, x)
placed xs i x inside is =
    let front : (i, get_or xs i x) ≡ (0 + i, get_or xs i x) = ap (λ (n : ℕ). (n, get_or xs i x)) (omega arith) in
    ap (λ y. (i, y)) is ∙ front ∙ sym (get_or-enumerate_from 0 xs i (i, x) inside)

-- an item beside the one at the same place of a list that is as long
pub paired : {A B : Type 0} (xs : List A) (ys : List B) (i : ℕ) (x : A) (y : B) → i < length xs → i < length ys → x ≡ get_or xs i x → y ≡ get_or ys i y
    → (x, y) ≡ get_or (zip xs ys) i (x, y)
paired xs ys i x y here there ex ey = ap (λ z. (z, y)) ex ∙ ap (λ z. (get_or xs i x, z)) ey ∙ sym (get_or-zip xs ys i (x, y) here there)

pub places_count : {A : Type 0} (xs : List A) → length (enumerate_from 0 xs) ≡ length xs
places_count xs = length-enumerate_from 0 xs

-- a node's image and state, beside its number
pub record IsItem (images : List Image) (states : List State) (n : ℕ) (i : Image) (s : State) : Type 0 where
  pub inside : n < length (enumerate_from 0 (zip images states))
  pub item : (n, (i, s)) ≡ get_or (enumerate_from 0 (zip images states)) n (n, (i, s))

pub is_item : (images : List Image) (states : List State) (n : ℕ) (i : Image) (s : State) → length images ≡ length states → n < length states
    → i ≡ get_or images n i → slice_get states n ≡ Some s → IsItem images states n i s
is_item images states n i s same below image state =
    let count : length (zip images states) ≡ length states = omega (arith, length-zip images states) in
    record {
      inside = omega (arith, count, places_count (zip images states));
      item = placed (zip images states) n (i, s) (omega (arith, count)) (paired images states n i s (omega arith) below image (sym (get_or_from_slice_get states n s s state)));
    }

pub item_count : (images : List Image) (states : List State) → length images ≡ length states → length (enumerate_from 0 (zip images states)) ≡ length states
item_count images states same = omega (arith, places_count (zip images states), length-zip images states)

pub is_an_error : {T E : Type 0} (P : E → Type 0) (r : Result T E) → IsErrAnd r P → IsErr r
is_an_error P (Ok x) h = absurd h
is_an_error P (Err e) h = refl

-- these counts, with those of one node more
abbrev pub with_counts : (ℕ → Option Counts) → ℕ → Option Counts → ℕ → Option Counts
with_counts counts n more k = cond (n == k) more (counts k)

-- lines of items beside their places
same_lines : {A : Type 0} (f g : ℕ × A → List ℕ) (at n : ℕ) (xs : List A) → ((k : ℕ) (x : A) → k < at + n → f (k, x) ≡ g (k, x))
    → flat_map f (take n (enumerate_from at xs)) ≡ flat_map g (take n (enumerate_from at xs))
same_lines f g at zero xs same = refl
same_lines f g at (suc n) [] same = refl
same_lines f g at (suc n) (x ∷ xs) same =
    ap (λ line. line ++ flat_map f (take n (enumerate_from (at + 1) xs))) (same at x (omega arith))
    ∙ ap (λ lines. g (at, x) ++ lines) (same_lines f g (at + 1) n xs (λ k y below. same k y (omega arith)))

module _ {S T E : Type 0} {taken : S → Option (List ℕ)} {faults : S → ℕ} {old new : S} {result : Result T E}
    (counts : ℕ → Option Counts) (n : ℕ) (more : Option Counts) where
  -- the texts of the nodes before
  pub counted_before : (items : List (Image × State)) → Writes taken faults old new (flat_map (λ x. node_text x.0 x.1.0 x.1.1 (counts x.0)) (take n (enumerate_from 0 items))) result
      → Writes taken faults old new (flat_map (λ x. node_text x.0 x.1.0 x.1.1 (with_counts counts n more x.0)) (take n (enumerate_from 0 items))) result
  counted_before items w =
      writes_same w (same_lines (λ x. node_text x.0 x.1.0 x.1.1 (counts x.0)) (λ x. node_text x.0 x.1.0 x.1.1 (with_counts counts n more x.0)) 0 n items
      (λ k x below. ap (λ b. node_text k x.0 x.1 (cond b more (counts k))) (sym (ne_eqb n k (λ e. absurd (omega arith))))))

  -- the text of the node
  pub counted_now : (i : Image) (s : State) → Writes taken faults old new (node_text n i s more) result
      → Writes taken faults old new (node_text n i s (with_counts counts n more n)) result
  counted_now i s w = writes_same w (ap (λ b. node_text n i s (cond b more (counts n))) (sym (eq-eqb n n refl)))

-- the text of a net that stands for its images
pub text_is : (tells : List Use → Option Counts) (links : List Link) (images : List Image) (items : List NetItem) (s : NetState) → s ≡ net_run links (net_start images links) items
    → net_text tells links images items ≡ nodes_text images s.nodes (λ n. tells (net_uses links (net_start images links) items n)) ++ link_lines s.links
unfolding net_text
text_is tells links images items s is = ap (λ (t : NetState). nodes_text images t.nodes (λ n. tells (net_uses links (net_start images links) items n)) ++ link_lines t.links) (sym is)

-- what a look-up gave
pub looked_up : {A : Type 0} (found : Option (Bor A)) (there : Option A) (x : Bor A) → option_copied found ≡ there → found ≡ Some x → there ≡ Some x.now
looked_up found there x copied is = sym copied ∙ ap option_copied is
