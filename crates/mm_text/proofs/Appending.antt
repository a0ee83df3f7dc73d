-- Texts that are gathered one after the other.
use Rattle.std.proofs.Common.{◌≡◌, ℕ, ◌+◌, ◌≤◌, ◌<◌, Bool, true, false, List, [], ◌∷◌, ◌++◌, length, take, get_or}
use Rattle.std.proofs.Common.{Option, Ok, Err, Result, sym, ◌∙◌, ap, arith, append_assoc, fold}
use Rattle.std.proofs.lemmas.{List.{append-nil, take_more}, Grind.flat_map-append}
use Rattle.std.specs.{List.flat_map, Io.KnownBytes.append_known}
use Rattle.mm_io.{specs.Sinks.{TookPart, Writes}, proofs.Known.{append_known-++, TookPart-more}}
use Rattle.mm_text.specs.Appends.{Buffered, Appends, Became, Finishes, Finished, nothing}

-- part of a text that was handed over before, and part of what follows
TookPart-behind : {old middle new : Option (List ℕ)} (whole front kept more : List ℕ) → whole ≡ front ++ kept → middle ≡ append_known old front
    → TookPart middle new (kept ++ more) → TookPart old new (whole ++ more)
TookPart-behind {old} whole front kept more splits took later = record {
  part = front ++ later.part;
  rest = later.rest;
  splits = ap (λ xs. xs ++ more) splits ∙ append_assoc front kept more ∙ ap (λ xs. front ++ xs) later.splits ∙ sym (append_assoc front later.part later.rest);
  took = later.took ∙ ap (λ known. append_known known later.part) took ∙ append_known-++ old front later.part;
}

module _ {S : Type 0} (taken : S → Option (List ℕ)) (faults : S → ℕ) where
  became_then : (a b c : S) (f g h : Bool) (first kept rest more : List ℕ) → faults a ≤ faults b → faults b ≤ faults c
      → Became taken faults a b f g first kept → Became taken faults b c g h (kept ++ more) rest → Became taken faults a c f h (first ++ more) rest
  became_then a b c false false false first kept rest more l m x y = record {
    part = x.part ++ y.part;
    splits = ap (λ xs. xs ++ more) x.splits ∙ append_assoc x.part kept more ∙ ap (λ xs. x.part ++ xs) y.splits ∙ sym (append_assoc x.part y.part rest);
    took = y.took ∙ ap (λ known. append_known known y.part) x.took ∙ append_known-++ (taken a) x.part y.part;
  }
  became_then a b c false false true first kept rest more l m x y =
      record { part = TookPart-behind first x.part kept more x.splits x.took y.part; failed = omega (arith, y.failed) }
  became_then a b c false true true first kept rest more l m x y =
      let longer : TookPart (taken a) (taken b) (first ++ more) = TookPart-more more x.part in
      record { part = record { part = longer.part; rest = longer.rest; splits = longer.splits; took = y ∙ longer.took }; failed = omega (arith, x.failed) }
  became_then a b c false true false first kept rest more l m x y = absurd y
  became_then a b c true false h first kept rest more l m x y = absurd x
  became_then a b c true true true first kept rest more l m x y = y ∙ x
  became_then a b c true true false first kept rest more l m x y = absurd y

-- one text and then another
pub appends_then : {S : Type 0} {taken : S → Option (List ℕ)} {faults : S → ℕ} {a b c : S} {f g h : Buffered} {first second : List ℕ}
    → Appends taken faults a b f g first → Appends taken faults b c g h second → Appends taken faults a c f h (first ++ second)
appends_then {taken = taken} {faults = faults} {a = a} {b = b} {c = c} {f = f} {g = g} {h = h} {first = first} {second = second} x y = record {
  later = omega (arith, x.later, y.later);
  became = rw (← append_assoc f.kept first second)
      (became_then taken faults a b c f.failed g.failed h.failed (f.kept ++ first) g.kept h.kept second x.later y.later x.became y.became);
}

-- the same text, spelled otherwise
pub appends_same : {S : Type 0} {taken : S → Option (List ℕ)} {faults : S → ℕ} {a b : S} {f g : Buffered} {first second : List ℕ}
    → Appends taken faults a b f g first → first ≡ second → Appends taken faults a b f g second
appends_same x same = rw (← same) x

no_err : false ≡ true → ⊥
no_err e = cc

written : {S T E : Type 0} (taken : S → Option (List ℕ)) (faults : S → ℕ) (a b c : S) (g : Bool) (text kept : List ℕ) (result : Result T E)
    → faults a ≤ faults b → faults b ≤ faults c → Became taken faults a b false g text kept → Finished taken faults b c g kept result
    → Writes taken faults a c text result
written taken faults a b c false text kept (Ok done) l m x y = record {
  later = omega arith;
  whole = y.whole ∙ ap (λ known. append_known known kept) x.took ∙ append_known-++ (taken a) x.part kept ∙ ap (append_known (taken a)) (sym x.splits);
  part = tt;
  failed = tt;
}
written taken faults a b c false text kept (Err e) l m x y = record {
  later = omega arith;
  whole = tt;
  part = record {
    part = x.part ++ y.part.part;
    rest = y.part.rest;
    splits = x.splits ∙ ap (λ xs. x.part ++ xs) y.part.splits ∙ sym (append_assoc x.part y.part.part y.part.rest);
    took = y.part.took ∙ ap (λ known. append_known known y.part.part) x.took ∙ append_known-++ (taken a) x.part y.part.part;
  };
  failed = omega (arith, y.failed);
}
written taken faults a b c true text kept (Ok done) l m x y = absurd (no_err y.1)
written taken faults a b c true text kept (Err e) l m x y = record {
  later = omega arith;
  whole = tt;
  part = record { part = x.part.part; rest = x.part.rest; splits = x.part.splits; took = y.0 ∙ x.part.took };
  failed = omega (arith, x.failed);
}

-- a text that was gathered from nothing, and then finished, was written
pub buffered_writes : {S T E : Type 0} {taken : S → Option (List ℕ)} {faults : S → ℕ} {a b c : S} {f g : Buffered} {text : List ℕ} {result : Result T E}
    → f ≡ nothing → Appends taken faults a b f g text → Finishes taken faults b c g result → Writes taken faults a c text result
buffered_writes {taken = taken} {faults = faults} {a = a} {b = b} {c = c} {g = g} {text = text} {result = result} empty x y =
    let x' : Appends taken faults a b nothing g text = rw (← empty) x in
    written taken faults a b c g.failed text g.kept result x'.later y.later x'.became y.finished

-- the texts of the items up to one, and its own
pub lines_more : {A : Type 0} (f : A → List ℕ) (items : List A) (i : ℕ) (d : A) → i < length items
    → flat_map f (take (i + 1) items) ≡ flat_map f (take i items) ++ f (get_or items i d)
lines_more f items i d inside =
    ap (flat_map f) (take_more items i d inside) ∙ flat_map-append f (take i items) (get_or items i d ∷ []) ∙ ap (λ xs. flat_map f (take i items) ++ xs) (append-nil (f (get_or items i d)))

-- one more item of a list is gathered
pub appends_more : {S A : Type 0} {taken : S → Option (List ℕ)} {faults : S → ℕ} {a b c : S} {f g h : Buffered} (line : A → List ℕ) (items : List A) (i : ℕ) (d : A)
    → i < length items → Appends taken faults a b f g (flat_map line (take i items)) → Appends taken faults b c g h (line (get_or items i d))
    → Appends taken faults a c f h (flat_map line (take (i + 1) items))
appends_more line items i d inside before now = appends_same (appends_then before now) (sym (lines_more line items i d inside))

-- the same of an item that is known by what it is
pub appends_item : {S A : Type 0} {taken : S → Option (List ℕ)} {faults : S → ℕ} {a b c : S} {f g h : Buffered} (line : A → List ℕ) (items : List A) (i : ℕ) (item : A)
    → i < length items → item ≡ get_or items i item → Appends taken faults a b f g (flat_map line (take i items)) → Appends taken faults b c g h (line item)
    → Appends taken faults a c f h (flat_map line (take (i + 1) items))
appends_item line items i item inside is before now = appends_more line items i item inside before (appends_same now (ap line is))

-- texts that a fold puts behind a first one
pub fold-texts : {A : Type 0} (f : A → List ℕ) (text : List ℕ) (items : List A)
    → fold (λ text item. text ++ f item) text items ≡ text ++ flat_map f items
fold-texts f text [] = sym (append-nil text)
fold-texts f text (item ∷ items) = fold-texts f (text ++ f item) items ∙ append_assoc text (f item) (flat_map f items)
