-- What a turn showed tells the changes of the memory.
use Rattle.std.proofs.Common.{◌≡◌, ℕ, ◌*◌, Bool, true, false, List, [], ◌∷◌, ◌++◌, Option, Some, None, is_some, refl}
use Rattle.std.proofs.Common.{if◌then◌else◌, sym, ap, ◌∙◌}
use Rattle.mm_word.specs.{declared.word.Cell.Cell, Access.AccessValue}
use Rattle.mm_isa.specs.declared.instr.Instr.{Instr}
use Rattle.mm_model.specs.{declared.event.Event.Event, Memory.{Memory, cell_at, is_mapped, IsPaged}, Slot.Slot}
use Rattle.mm_model.specs.{State.{Core, slot_at, queue_at}, Ask.{Ask, Ask.{Reach, MapPage, UnmapPage, NextEvent, Serve}}}
use Rattle.mm_model.proofs.{Memories.{cell_at-put_same, page_at-map_same, page_at-unmap_same}, Sames.cell_self}
use Rattle.mm_thread.specs.Told.{There, has_page, slot_there, event_there, cell_there, there_at}
use Rattle.mm_log.specs.{Lines.Line.{Maps, Sets}, Changes.{pages_mapped, pages_removed, cells_changed}}
use Rattle.mm_log.specs.Seen.{page_told, page_seen, cell_now, cell_seen}
use Rattle.mm_thread.proofs.Rows.{MemoryMove}
use Rattle.mm_log.proofs.{Pages.{MemoryTold, memory_told}, Peeks.mapped_by}

module _ (core : Core) (m : Memory) (paged : IsPaged m) where
  has_it : (p : ℕ) → has_page m p ≡ is_mapped m p
  has_it p = mapped_by m m p (cell_at m (p * 4096)) paged refl refl

  told_none : (p : ℕ) (b : Bool) → page_told p b b ≡ []
  told_none p true = refl
  told_none p false = refl

  page_none : (p : ℕ) → page_told p (has_page m p) (is_mapped m p) ≡ []
  page_none p = ap (λ b. page_told p b (is_mapped m p)) (has_it p) ∙ told_none p (is_mapped m p)

  cell_none : (a : ℕ) (c : Cell) → cell_now a c (Some c) ≡ []
  cell_none a c = ap (λ b. if b then [] else Sets a c ∷ []) (cell_self c)

  -- nothing is told of a memory that stays
  abbrev NothingOf : There → Type 0
  NothingOf x = (page_seen m x ≡ []) × (cell_seen m x ≡ [])

  nothing_cell : (a : AccessValue) (o : Option Cell) → cell_at m a.addr ≡ o → NothingOf (cell_there a o)
  nothing_cell a None is = (refl, refl)
  nothing_cell a (Some c) is = (refl, ap (cell_now a.addr c) is ∙ cell_none a.addr c)

  nothing_slot : (i : Instr) (o : Option Slot) → NothingOf (slot_there core.split i o)
  nothing_slot i None = (refl, refl)
  nothing_slot i (Some s) = (refl, refl)

  nothing_event : (i : Instr) (q : List Event) → NothingOf (event_there core i q)
  nothing_event i [] = (refl, refl)
  nothing_event i (e ∷ rest) = nothing_slot i (slot_at core e.slot)

  nothing_at : (n : ℕ) (i : Instr) (a : Ask) → NothingOf (there_at core m n i a)
  nothing_at n i (Reach a pre) = nothing_cell a (cell_at m a.addr) refl
  nothing_at n i (MapPage p) = (page_none p, refl)
  nothing_at n i (UnmapPage p) = (page_none p, refl)
  nothing_at n i (Serve k) = nothing_slot i (slot_at core k)
  nothing_at n i NextEvent = nothing_event i (queue_at core n)
  nothing_at n i Ask.Nothing = (refl, refl)
  nothing_at n i (Ask.Refuse c) = (refl, refl)
  nothing_at n i (Ask.Room g) = (refl, refl)

  abbrev pub TellsMemory : Memory → There → Type 0
  TellsMemory later x = (pages_mapped m later ++ pages_removed m later ≡ page_seen later x) × (cells_changed m later ≡ cell_seen later x)

  stays_seen : (x : There) → NothingOf x → (later : Memory) → later ≡ m → pages_mapped m later ≡ [] → pages_removed m later ≡ [] → cells_changed m later ≡ [] → TellsMemory later x
  stays_seen x none later same a b c = (
    ap (λ l. l ++ pages_removed m later) a ∙ b ∙ sym (ap (λ (y : Memory). page_seen y x) same ∙ none.0),
    c ∙ sym (ap (λ (y : Memory). cell_seen y x) same ∙ none.1),
  )

  told_seen : (n : ℕ) (i : Instr) (asked : Ask) (later : Memory) → MemoryTold m asked later → TellsMemory later (there_at core m n i asked)
  told_seen n i asked later (MemoryTold.nothing same a b c) = stays_seen (there_at core m n i asked) (nothing_at n i asked) later same a b c
  told_seen n i asked later (MemoryTold.cell a pre old c is at made x y z) =
      let here : there_at core m n i asked ≡ There.CellAt a old = ap (there_at core m n i) is ∙ ap (cell_there a) at in
      let now : cell_at later a.addr ≡ Some c = ap (λ (v : Memory). cell_at v a.addr) made ∙ cell_at-put_same m a.addr c old at in (
        ap (λ l. l ++ pages_removed m later) x ∙ y ∙ sym (ap (page_seen later) here),
        z ∙ sym (ap (cell_seen later) here ∙ ap (cell_now a.addr old) now),
      )
  told_seen n i asked later (MemoryTold.mapped p is free made x y z) =
      let here : there_at core m n i asked ≡ There.PageAt p false = ap (there_at core m n i) is ∙ ap (λ b. There.PageAt p b) (has_it p ∙ free) in
      let now : is_mapped later p ≡ true = ap (λ (v : Memory). is_mapped v p) made ∙ ap is_some (page_at-map_same m p) in (
        ap (λ l. l ++ pages_removed m later) x ∙ ap (λ l. Maps p ∷ l) y ∙ sym (ap (page_seen later) here ∙ ap (page_told p false) now),
        z ∙ sym (ap (cell_seen later) here),
      )
  told_seen n i asked later (MemoryTold.removed p is mapped made x y z) =
      let here : there_at core m n i asked ≡ There.PageAt p true = ap (there_at core m n i) is ∙ ap (λ b. There.PageAt p b) (has_it p ∙ mapped) in
      let now : is_mapped later p ≡ false = ap (λ (v : Memory). is_mapped v p) made ∙ ap is_some (page_at-unmap_same m p) in (
        ap (λ l. l ++ pages_removed m later) x ∙ y ∙ sym (ap (page_seen later) here ∙ ap (page_told p true) now),
        z ∙ sym (ap (cell_seen later) here),
      )

  -- a memory that an instruction may have changed
  pub memory_seen : (n : ℕ) (i : Instr) (asked : Ask) (later : Memory) → MemoryMove m asked later → TellsMemory later (there_at core m n i asked)
  memory_seen n i asked later move = told_seen n i asked later (memory_told m paged.pages asked later move)

  -- a memory that stays
  stays_by : (x : There) → NothingOf x → TellsMemory m x
  stays_by x none = by (memory_told m paged.pages Ask.Nothing m (MemoryMove.stays refl))
    where
      by : MemoryTold m Ask.Nothing m → TellsMemory m x
      by (MemoryTold.nothing same a b c) = stays_seen x none m refl a b c
      by (MemoryTold.cell a pre old c is at made x y z) = cc
      by (MemoryTold.mapped p is free made x y z) = cc
      by (MemoryTold.removed p is there made x y z) = cc

  pub same_seen : (n : ℕ) (i : Instr) (a : Ask) → TellsMemory m (there_at core m n i a)
  same_seen n i a = stays_by (there_at core m n i a) (nothing_at n i a)

  pub nothing_seen : TellsMemory m There.Nothing
  nothing_seen = stays_by There.Nothing (refl, refl)
