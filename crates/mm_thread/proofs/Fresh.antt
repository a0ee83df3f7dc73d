-- A core whose slots are an image's.
use Rattle.std.proofs.Common.{◌≡◌, ℕ, zero, suc, false, List, [], map, replicate, refl, sym, ap, ◌∙◌, subst}
use Rattle.std.specs.List.{AllByRecursion, Sorted.IsStrictlyIncreasing}
use Rattle.mm_model.specs.{Slot.Slot, State.{ThreadRow, Core}, Image.{Image, start}, Spelling.{numbers_of, IsFresh}}
use Rattle.mm_model.{specs.Fits.IsCore, proofs.Starts.start_core}
use Rattle.mm_thread.{specs.SlotIndices.row_alone, proofs.Sound.version_whole}

pub each_nothing : (n : ℕ) → AllByRecursion (λ (bytes : List ℕ). bytes ≡ []) (replicate n [])
each_nothing zero = tt
each_nothing (suc n) = (refl, each_nothing n)

-- a core that is made of fresh slots
pub fresh_core : (slots : List Slot) → IsStrictlyIncreasing (numbers_of slots) → AllByRecursion (IsFresh 64 slots) slots → (rows : List ThreadRow) (outputs : List (List ℕ)) (core : Core)
    → core ≡ record { rows = rows; outputs = outputs; version = 1; split = false } → rows ≡ map row_alone slots → outputs ≡ replicate 64 [] → IsCore core
unfolding start
fresh_core slots rising fresh rows outputs core is rows_are outputs_are =
    let i : Image = record { version = 2; split = false; slots = slots; memory = record { pages = []; frames = 0 } } in
    let same : core ≡ record (start i).core { version = 1 } =
    is ∙ ap (λ (x : List ThreadRow). record { rows = x; outputs = outputs; version = 1; split = false }) rows_are
    ∙ ap (λ (x : List (List ℕ)). record { rows = map row_alone slots; outputs = x; version = 1; split = false }) outputs_are
    in
    subst IsCore (sym same) (version_whole (start i).core 1 (each_nothing 64) (start_core i rising fresh))
