-- Lines with numbers, gathered one after the other.
use Rattle.std.proofs.Common.{◌≡◌, ℕ, ◌+◌, ◌<◌, ◌≤◌, List, [], ◌∷◌, ◌++◌, length, take, get_or, Option, refl, sym, ap}
use Rattle.std.proofs.{Common.{◌∙◌, arith}, lemmas.List.take_all}
use Rattle.mm_text.{specs.Appends.{Buffered, Appends}, proofs.Appending.{appends_then, appends_same}}
use Rattle.mm_object.specs.{declared.{item.Item.Item, thread.Value.Value}, Objects.{Segment, Object}}
use Rattle.mm_disasm.specs.Canonical.{word_line, words_text, segment_text, segments_text, register_line, registers_text}
use Rattle.mm_asm.proofs.Built.{numbered, numbered_more}

module _ {A : Type 0} (line : ℕ → A → List ℕ) (items : List A) where
  -- one line more
  pub appends_numbered : {S : Type 0} {taken : S → Option (List ℕ)} {faults : S → ℕ} {a b c : S} {f g h : Buffered} (i : ℕ) (d : A)
      → i < length items → Appends taken faults a b f g (numbered line 0 (take i items)) → Appends taken faults b c g h (line i (get_or items i d))
      → Appends taken faults a c f h (numbered line 0 (take (i + 1) items))
  appends_numbered i d inside before now =
      let front = numbered line 0 (take i items) in
      let same : 0 + i ≡ i = omega arith in
      appends_same (appends_then before now) (ap (λ (n : ℕ). front ++ line n (get_or items i d)) (sym same) ∙ sym (numbered_more line 0 items i d inside))

  -- the same of an item that is known by what it is
  pub appends_numbered_item : {S : Type 0} {taken : S → Option (List ℕ)} {faults : S → ℕ} {a b c : S} {f g h : Buffered} (i : ℕ) (item : A)
      → i < length items → item ≡ get_or items i item → Appends taken faults a b f g (numbered line 0 (take i items)) → Appends taken faults b c g h (line i item)
      → Appends taken faults a c f h (numbered line 0 (take (i + 1) items))
  appends_numbered_item i item inside is before now = appends_numbered i item inside before (appends_same now (ap (line i) is))

  -- all of them
  pub appends_all : {S : Type 0} {taken : S → Option (List ℕ)} {faults : S → ℕ} {a b : S} {f g : Buffered} (i : ℕ) {text : List ℕ}
      → length items ≤ i → text ≡ numbered line 0 items → Appends taken faults a b f g (numbered line 0 (take i items)) → Appends taken faults a b f g text
  appends_all i end is before = appends_same before (ap (numbered line 0) (take_all i items end) ∙ sym is)

-- the lines of an object that have numbers
module _ (o : Object) where
  pub words_numbered : (segment k : ℕ) (items : List Item) → words_text o segment k items ≡ numbered (word_line o segment) k items
  words_numbered segment k [] = refl
  words_numbered segment k (item ∷ items) = ap (λ (text : List ℕ). word_line o segment k item ++ text) (words_numbered segment (k + 1) items)

  pub segments_numbered : (k : ℕ) (segments : List Segment) → segments_text o k segments ≡ numbered (segment_text o) k segments
  segments_numbered k [] = refl
  segments_numbered k (s ∷ segments) = ap (λ (text : List ℕ). segment_text o k s ++ text) (segments_numbered (k + 1) segments)

  pub registers_numbered : (k : ℕ) (values : List Value) → registers_text o k values ≡ numbered (register_line o) k values
  registers_numbered k [] = refl
  registers_numbered k (v ∷ values) = ap (λ (text : List ℕ). register_line o k v ++ text) (registers_numbered (k + 1) values)
