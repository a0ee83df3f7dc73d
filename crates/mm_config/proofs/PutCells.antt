-- Cells of a page that are put, change by change.
use Rattle.std.proofs.Common.{◌≡◌, inl, inr, ℕ, zero, suc, ◌+◌, ◌*◌, ◌<◌, ◌≤◌, List, [], ◌∷◌, length, slice_get, slice_index_or, slice_set, Option, Some, None, is_some, Bool, true, false, if◌then◌else◌}
use Rattle.std.proofs.Common.{refl, sym, ap, ◌∙◌, subst, arith}
use Rattle.std.specs.List.{AllZip}
use Rattle.std.proofs.lemmas.{Option.slice_get_within}
use Rattle.mm_word.specs.declared.word.Cell.{Cell}
use Rattle.mm_model.specs.Memory.{Memory, page_at, page_of, place_of, put_cell, map_page, unmap_page, is_mapped, can_map, zero_cell, zero_page}
use Rattle.mm_model.proofs.Memories.{page_at-put_same, page_at-put_other, put_frames, page_at-map_same, page_at-map_other, map_frames, page_at-unmap_same, page_at-unmap_other, unmap_frames}
use Rattle.mm_mem.specs.Plain.{Plain}
use Rattle.mm_pairs.{specs.{Named.{named, IsNameOf}, Trees.{pair_of, changed, leaves}}, proofs.Names.length_leaves}
use Rattle.mm_config.specs.declared.{store.Store.Store}
use Rattle.mm_config.specs.{Naming.{AreCells, IsPageName, IsOrNone}, Putting.{HasPut, AreCellsSoFar}}
use Rattle.mm_config.proofs.{NamedOnce.{cells_tell, same_numbers}, PageCells.zip_set, PutPages.some_name, Noted.zero_cells}
use Rattle.mm_config.proofs.Walks.{change_is, begins, made, arrived, up_to}

abbrev Are : Store → List Cell → List ℕ → Type 0
Are k cells names = AllZip (λ cell leaf. IsNameOf zero_cell k.cells leaf cell) cells names

pub names_within : (k : Store) (cells : List Cell) (names : List ℕ) → Are k cells names → (p : ℕ) → slice_index_or names p 0 ≤ length k.cells
names_within k [] [] h p = omega arith
names_within k [] (n ∷ names) h p = absurd h
names_within k (c ∷ cells) [] h p = absurd h
names_within k (c ∷ cells) (n ∷ names) h zero = h.0.within
names_within k (c ∷ cells) (n ∷ names) h (suc p) = names_within k cells names h.1 p

-- the word of a cell of a page
pub word_page : (number at : ℕ) → at < 512 → page_of (number * 4096 + 8 * at) ≡ number
word_page number at lt = omega (arith, lt)

pub word_place : (number at : ℕ) → at < 512 → place_of (number * 4096 + 8 * at) ≡ at
word_place number at lt = omega (arith, lt)

module _ (k : Store) (was wanted number : ℕ) (old : Plain) where
  abbrev before : List ℕ
  before = leaves k.pairs 9 was

  abbrev after : List ℕ
  after = leaves k.pairs 9 wanted

  long : length before ≡ length after
  long = length_leaves k.pairs 9 was ∙ sym (length_leaves k.pairs 9 wanted)

  pub no_cells_yet : (new : Plain) (cells : List Cell) → HasPut old new number (Some cells) → AreCells k 9 was cells → AreCellsSoFar k was wanted 0 number old new
  no_cells_yet new cells put are = record {
    cells = cells;
    names = before;
    way = begins before after (λ index name. index < 0) (λ j x lt. omega (arith, lt));
    are = are.names;
    put = put;
  }

  pub cell_change : (n : ℕ) (e : ℕ × ℕ) → slice_get (changed 0 before after) n ≡ Some e → (e.0 < 512) × (e.1 ≡ slice_index_or after e.0 0)
  cell_change n e got =
      let change = change_is 0 before after long n e got in
      let none : 0 + change.place ≡ change.place = omega arith in
      let at : e.0 ≡ change.place = ap (λ (p : ℕ × ℕ). p.0) change.is ∙ none in
      let low = change.within in
      let many = length_leaves k.pairs 9 wanted in
      (omega (arith, at, low, many), ap (λ (p : ℕ × ℕ). p.1) change.is ∙ ap (λ p. slice_index_or after p 0) (sym at))

  pub one_more_cell : (n : ℕ) (new next : Plain) (e : ℕ × ℕ) (cell : Cell) → AreCellsSoFar k was wanted n number old new → slice_get (changed 0 before after) n ≡ Some e
      → e.1 ≤ length k.cells → cell ≡ named zero_cell k.cells e.1 → next.memory ≡ put_cell new.memory (number * 4096 + 8 * e.0) cell → next.uses ≡ new.uses
      → AreCellsSoFar k was wanted (n + 1) number old next
  one_more_cell n new next e cell so got within is memory uses = record {
    cells = slice_set so.cells e.0 cell;
    names = slice_set so.names e.0 e.1;
    way = made before after long (λ index name. index < n) (λ index name. index < n + 1) so.names so.way n e got
        (λ j f g. (λ lt. up_to j n lt, λ h. elim h [ inl lt ↦ omega (arith, lt) | inr same ↦ omega (arith, same) ]));
    are = zip_set (λ cell leaf. IsNameOf zero_cell k.cells leaf cell) e.0 cell e.1 (record { within = within; is = sym is }) so.cells so.names so.are;
    put = record {
      is = ap (λ (m : Memory). page_at m number) memory ∙ here;
      others = λ q ne. ap (λ (m : Memory). page_at m q) memory ∙ page_at-put_other new.memory word cell q (λ same. ne (same ∙ page)) ∙ so.put.others q ne;
      frames = ap (λ (m : Memory). m.frames) memory ∙ put_frames new.memory word cell ∙ so.put.frames;
      uses = uses ∙ so.put.uses;
    };
  }
    where
      word : ℕ
      word = number * 4096 + 8 * e.0

      low : e.0 < 512
      low = (cell_change n e got).0

      page : page_of word ≡ number
      page = word_page number e.0 low

      place : place_of word ≡ e.0
      place = word_place number e.0 low

      here : page_at (put_cell new.memory word cell) number ≡ Some (slice_set so.cells e.0 cell)
      here =
          ap (page_at (put_cell new.memory word cell)) (sym page)
          ∙ page_at-put_same new.memory word cell so.cells (ap (page_at new.memory) page ∙ so.put.is)
          ∙ ap (λ p. Some (slice_set so.cells p cell)) place

  pub all_cells : (n : ℕ) (new : Plain) (cells : List Cell) → AreCellsSoFar k was wanted n number old new → length (changed 0 before after) ≤ n → AreCells k 9 wanted cells
      → HasPut old new number (Some cells)
  all_cells n new cells so end are =
      let same = same_numbers so.names after (so.way.long ∙ long) (arrived before after (λ index name. index < n) so.names long so.way (λ j e got.
      let lt = slice_get_within (changed 0 before after) j e got in omega (arith, lt, end))) in
      let alike = cells_tell k.cells so.cells cells after (subst (Are k so.cells) same so.are) are.names in
      subst (λ (l : List Cell). HasPut old new number (Some l)) alike so.put

-- a page that was just mapped, or was there
pub mapped_page : (old new : Plain) (number : ℕ) → can_map old.memory number ≡ true → new.memory ≡ (if can_map old.memory number then map_page old.memory number else old.memory)
    → new.uses ≡ old.uses → HasPut old new number (Some zero_page)
mapped_page old new number can memory uses =
    let is = memory ∙ ap (λ b. if b then map_page old.memory number else old.memory) can in
    record {
      is = ap (λ (m : Memory). page_at m number) is ∙ page_at-map_same old.memory number;
      others = λ q ne. ap (λ (m : Memory). page_at m q) is ∙ page_at-map_other old.memory number q ne;
      frames = ap (λ (m : Memory). m.frames) is ∙ map_frames old.memory number;
      uses = uses;
    }

pub unmapped_page : (old new : Plain) (number : ℕ) → new.memory ≡ (if is_mapped old.memory number then unmap_page old.memory number else old.memory)
    → new.uses ≡ old.uses → HasPut old new number None
unmapped_page old new number memory uses = by (is_mapped old.memory number) refl memory
  where
    none : (o : Option (List Cell)) → is_some o ≡ false → o ≡ None
    none None e = refl
    none (Some c) e = cc

    by : (b : Bool) → is_mapped old.memory number ≡ b → new.memory ≡ (if b then unmap_page old.memory number else old.memory) → HasPut old new number None
    by true e is = record {
      is = ap (λ (m : Memory). page_at m number) is ∙ page_at-unmap_same old.memory number;
      others = λ q ne. ap (λ (m : Memory). page_at m q) is ∙ page_at-unmap_other old.memory number q ne;
      frames = ap (λ (m : Memory). m.frames) is ∙ unmap_frames old.memory number;
      uses = uses;
    }
    by false e is = record {
      is = ap (λ (m : Memory). page_at m number) is ∙ none (page_at old.memory number) e;
      others = λ q ne. ap (λ (m : Memory). page_at m q) is;
      frames = ap (λ (m : Memory). m.frames) is;
      uses = uses;
    }

-- The cells from which a page begins, and those that are wanted.

pub known_within : (k : Store) (o : Option (List Cell)) (name : ℕ) → IsOrNone (IsPageName k) o name → name ≤ length k.pairs
known_within k None name h = omega (arith, h)
known_within k (Some cells) name h = h.is.within

pub page_cells : (k : Store) (cells : List Cell) (page : ℕ) (parts : ℕ × ℕ) → IsPageName k cells page → parts ≡ pair_of k.pairs page → AreCells k 9 parts.1 cells
page_cells k cells page parts h are = subst (λ t. AreCells k 9 t cells) (ap (λ (p : ℕ × ℕ). p.1) (sym (are ∙ h.is.is))) h.named

pub start_cells : (k : Store) (old mid : Plain) (number before : ℕ) (parts : ℕ × ℕ) → IsOrNone (IsPageName k) (page_at old.memory number) before
    → (before ≡ 0 → HasPut old mid number (Some zero_page)) → ((before ≡ 0 → ⊥) → mid ≡ old) → parts ≡ pair_of k.pairs before
    → (cells : List Cell) × HasPut old mid number (Some cells) × AreCells k 9 parts.1 cells
start_cells k old mid number before parts known mapped same are = by (page_at old.memory number) refl known
  where
    by : (o : Option (List Cell)) → page_at old.memory number ≡ o → IsOrNone (IsPageName k) o before → (cells : List Cell) × HasPut old mid number (Some cells) × AreCells k 9 parts.1 cells
    by None e none =
        let zero_is : 0 ≡ parts.1 = ap (λ (p : ℕ × ℕ). p.1) (sym (are ∙ ap (pair_of k.pairs) none)) in
        (zero_page, mapped none, subst (λ t. AreCells k 9 t zero_page) zero_is (zero_cells k))
    by (Some cells) e h =
        let there : HasPut old old number (Some cells) = record { is = e; others = λ q ne. refl; frames = refl; uses = refl } in
        (cells, subst (λ (m : Plain). HasPut old m number (Some cells)) (sym (same (some_name k cells before h))) there, page_cells k cells before parts h are)
