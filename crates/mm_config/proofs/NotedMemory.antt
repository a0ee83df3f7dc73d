-- What noting the memory after a turn leaves.
use Rattle.std.proofs.Common.{◌≡◌, inl, inr, ℕ, true, false, List, [], ◌∷◌, length, slice_set, Option, Some, None, is_some, refl, sym, ap, ◌∙◌, subst, arith, T}
use Rattle.std.proofs.Math.Seq.{take-length}
use Rattle.std.proofs.lemmas.List.{length-map}
use Rattle.std.specs.{Ordering.{nat_cmp}, declared.cmp.Ordering.{Ordering, TheVariants.{Less, Equal, Greater}}}
use Rattle.std.specs.{Prelude.{Result, Ok, Err, OnOk}, FinMap.{put, Entries.by_order}}
use Rattle.mm_word.specs.{declared.word.Cell.Cell, Access.AccessValue}
use Rattle.mm_model.specs.{Counted.writes, Memory.{Memory, page_of, place_of, page_at, put_cell, put_in, can_map, ArePages, IsPaged}}
use Rattle.mm_model.proofs.Memories.{put_count, can_map-facts}
use Rattle.mm_laws.specs.Frames.{MemoryLeft}
use Rattle.mm_config.specs.declared.configs.Configs as code
use Rattle.mm_config.specs.declared.{store.Store.Store, names.Names.Names}
use Rattle.mm_config.specs.Naming.{AreMemoryNames}
use Rattle.mm_config.specs.Noting.{IsKeptStill, HasOtherPages, HasOtherPage, IsWrittenAt, mapped_pages}
use Rattle.mm_config.specs.Turning.{WasMemory, IsSameButWord, NotesPage, NotesMemory}
use Rattle.mm_config.proofs.{Noted.{came, went, twice}, OwnCells.own_cell, PageLists.numbers}

-- what three clauses say of the same answer
pub on_ok_three : {X E P Q R S : Type 0} (r : Result X E) → (P → Q → R → S) → OnOk r P → OnOk r Q → OnOk r R → OnOk r S
on_ok_three (Ok x) f p q r = f p q r
on_ok_three (Err e) f p q r = tt

-- 1. The numbers of the pages.

same_keys : (es : List (ℕ × List Cell)) (p : ℕ) (v : List Cell) → length (put nat_cmp p v es) ≡ length es → numbers (put nat_cmp p v es) ≡ numbers es
same_keys [] p v long = absurd (omega (arith, long))
same_keys (e ∷ es) p v long = by (nat_cmp p e.0) (λ rest. same_keys es p v rest) long
  where
    by : (o : Ordering) → (length (put nat_cmp p v es) ≡ length es → numbers (put nat_cmp p v es) ≡ numbers es) → length (by_order o ((p, v) ∷ e ∷ es) ((e.0, v) ∷ es) (e ∷ put nat_cmp p v es)) ≡ length (e ∷ es)
        → numbers (by_order o ((p, v) ∷ e ∷ es) ((e.0, v) ∷ es) (e ∷ put nat_cmp p v es)) ≡ numbers (e ∷ es)
    by Less later long = absurd (omega (arith, long))
    by Equal later long = refl
    by Greater later long = ap (λ l. e.0 ∷ l) (later (omega (arith, long)))

put_numbers : (m : Memory) (w : ℕ) (c : Cell) → ArePages m.pages → mapped_pages (put_cell m w c) ≡ mapped_pages m
unfolding put_cell
put_numbers m w c h = by (page_at m (page_of w)) (put_count m w c h)
  where
    by : (o : Option (List Cell)) → length (put_in m o w c).pages ≡ length m.pages → mapped_pages (put_in m o w c) ≡ mapped_pages m
    by None long = refl
    by (Some cells) long = same_keys m.pages (page_of w) (slice_set cells (place_of w) c) long

numbers_long : (m : Memory) → length (mapped_pages m) ≡ length m.pages
numbers_long m = length-map m.pages (λ (e : ℕ × List Cell). e.0)

is_none : (o : Option (List Cell)) → is_some o ≡ false → o ≡ None
is_none None e = refl
is_none (Some cells) e = cc

not_mapped : (m : Memory) (p : ℕ) → can_map m p ≡ true → page_at m p ≡ None
not_mapped m p can = is_none (page_at m p) (can_map-facts m p can).0

-- 2. A page.

still_same : (k : Store) → IsKeptStill k k
still_same k = record { pairs = take-length k.pairs; outputs = take-length k.outputs; lists = take-length k.lists; cells = take-length k.cells; pages = take-length k.pages }

module _ (touched : Option AccessValue) (pages : ℕ) (c : code.Configs) (w : WasMemory touched pages c) where
  -- none came and none went if there are as many
  pub no_page_noted : length c.mem.memory.pages ≡ pages → IsPaged c.mem.memory → NotesPage touched c c
  no_page_noted same whole =
      let kept = by c.mem.memory (same ∙ w.count) w.left in
      record { still = still_same c.store; memory = w.memory; left = kept.0; whole = whole; names = w.names; pages = refl; mapped = w.mapped ∙ kept.1; others = refl }
    where
      by : (now : Memory) → length now.pages ≡ length w.memory.pages → MemoryLeft w.memory now touched → IsSameButWord touched w.memory now × (mapped_pages w.memory ≡ mapped_pages now)
      by now same (MemoryLeft.Same e) = (inl e, ap mapped_pages (sym e))
      by now same (MemoryLeft.Written a cell is writes e) = (inr (a, cell, is, writes, e), sym (ap mapped_pages e ∙ put_numbers w.memory a.addr cell w.whole.pages))
      by now same (MemoryLeft.Mapped p can e) =
          let long = (came w.memory p (not_mapped w.memory p can)).long in
          let was = numbers_long w.memory in
          let is = numbers_long now in
          let now_is = ap (λ (m : Memory). length (mapped_pages m)) e in
          absurd (omega (arith, long, was, is, now_is, same))
      by now same (MemoryLeft.Unmapped p some e) =
          let long = (went w.memory p (subst T (sym w.whole.pages.rising) tt) some).long in
          let was = numbers_long w.memory in
          let is = numbers_long now in
          let now_is = ap (λ (m : Memory). length (mapped_pages m)) e in
          absurd (omega (arith, long, was, is, now_is, same))

  -- else one came or went
  pub other_page : (length c.mem.memory.pages ≡ pages → ⊥) → HasOtherPage w.memory c.mem.memory
  other_page ne = by c.mem.memory (λ e. ne (e ∙ sym w.count)) w.left
    where
      by : (now : Memory) → (length now.pages ≡ length w.memory.pages → ⊥) → MemoryLeft w.memory now touched → HasOtherPage w.memory now
      by now ne (MemoryLeft.Same e) = absurd (ne (ap (λ (m : Memory). length m.pages) e))
      by now ne (MemoryLeft.Written a cell is writes e) = absurd (ne (ap (λ (m : Memory). length m.pages) e ∙ put_count w.memory a.addr cell w.whole.pages))
      by now ne (MemoryLeft.Mapped p can e) = (p, inl (not_mapped w.memory p can, e))
      by now ne (MemoryLeft.Unmapped p some e) = (p, inr (some, e))

  -- which was noted
  pub page_is_noted : (store : Store) (names : Names) (new : code.Configs) → new ≡ record c { store = store; names = names; mapped = new.mapped } → IsPaged c.mem.memory
      → AreMemoryNames store c.mem.memory names → new.mapped.items ≡ mapped_pages c.mem.memory → IsKeptStill c.store store → HasOtherPages c.names names → NotesPage touched c new
  page_is_noted store names new is whole named mapped still others = subst (NotesPage touched c) (sym is) (record {
    still = still;
    memory = c.mem.memory;
    left = inl refl;
    whole = whole;
    names = named;
    pages = others;
    mapped = mapped;
    others = refl;
  })

-- 3. A word.

module _ (touched : Option AccessValue) (old mid : code.Configs) (h : NotesPage touched old mid) where
  pub word_written : (word : ℕ) → ((a : AccessValue) → touched ≡ Some a → writes a.kind ≡ true → Some word ≡ Some a.addr)
      → (m : Memory) × IsWrittenAt word m mid.mem.memory × AreMemoryNames mid.store m mid.names
  word_written word all = by h.left
    where
      by : IsSameButWord touched h.memory mid.mem.memory → (m : Memory) × IsWrittenAt word m mid.mem.memory × AreMemoryNames mid.store m mid.names
      by (inl e) = (
        mid.mem.memory,
        own_cell mid.mem.memory word h.whole.pages.rising,
        subst (λ (m : Memory). AreMemoryNames mid.store m mid.names) (sym e) h.names,
      )
      by (inr x) =
          let both = all x.0 x.2 x.3 in
          let same : x.0.addr ≡ word = cc in
          (h.memory, (x.1, x.4 ∙ ap (λ n. put_cell h.memory n x.1) same), h.names)

  pub no_word_noted : ((a : AccessValue) → touched ≡ Some a → writes a.kind ≡ true → None ≡ Some a.addr) → NotesMemory old mid
  no_word_noted none = record { still = h.still; names = by h.left; pages = h.pages; mapped = h.mapped; others = h.others }
    where
      by : IsSameButWord touched h.memory mid.mem.memory → AreMemoryNames mid.store mid.mem.memory mid.names
      by (inl e) = subst (λ (m : Memory). AreMemoryNames mid.store m mid.names) (sym e) h.names
      by (inr x) = let both = none x.0 x.2 x.3 in absurd (cc)

  pub word_noted : (store : Store) (names : Names) → AreMemoryNames store mid.mem.memory names → IsKeptStill mid.store store → HasOtherPages mid.names names
      → NotesMemory old (record mid { store = store; names = names })
  word_noted store names named still others = record {
    still = twice old.store mid.store store h.still still;
    names = named;
    pages = others ∙ ap (λ (n : Names). record n { height = names.height; pages = names.pages }) h.pages;
    mapped = h.mapped;
    others = ap (λ (x : code.Configs). record x { store = store; names = names }) h.others;
  }
