-- A snapshot of a state that a machine of an image reaches keeps the rules of the image's checkpoints.
use Rattle.std.proofs.Common.{◌≡◌, ℕ, ◌+◌, ◌<◌, ◌≤◌, List, [], ◌∷◌, length, refl, ap, subst, ◌∙◌, arith}
use Rattle.std.specs.{Prelude.{IfSome, Option}, List.AllByRecursion}
use Rattle.mm_model.specs.{State.State, Image.{Image, start, output_limit}, Run.{after, run}, Spelling.IsImage}
use Rattle.mm_model.{specs.Fits.Fits, proofs.{Starts.start_fits, StateKeeps.after_fits}}
use Rattle.mm_thread.specs.Output.{Output}
use Rattle.mm_machine.specs.{Validity.IsValid, Snapshot.{Parts, IsTyped, IsSnapshotOf}}
use Rattle.mm_machine.proofs.{Keeping.{valid_start, valid_after}, Restorable.can_own}
use Rattle.mm_checkpoint.specs.Checkpoints.{IsCheckpoint}

-- what is true of a machine of the image after so many cycles
pub record Reached (i : Image) (cycles : ℕ) (s : State) : Type 0 where
  pub kept : IsValid s
  pub fits : Fits i s
  pub counted : s.cycles ≡ cycles

reached_start : (i : Image) → IsImage i → Reached i 0 (start i)
unfolding start
reached_start i image = record { kept = valid_start i image; fits = start_fits i image; counted = refl }

reached_after : (i : Image) (cycles : ℕ) (s : State) (n : ℕ) → IsImage i → Reached i cycles s → Reached i (cycles + 1) (after s n)
unfolding after
reached_after i cycles s n image r = record {
  kept = valid_after s n r.kept;
  fits = after_fits i s n image r.kept.state r.fits;
  counted = ap (λ (c : ℕ). c + 1) r.counted;
}

reached_run : (i : Image) (cycles : ℕ) (s : State) (items : List ℕ) → IsImage i → Reached i cycles s → Reached i (cycles + length items) (run s items)
unfolding run
reached_run i cycles s [] image r = let none : cycles ≡ cycles + 0 = omega arith in subst (λ (c : ℕ). Reached i c s) none r
reached_run i cycles s (n ∷ items) image r =
    let more : cycles + 1 + length items ≡ cycles + length (n ∷ items) = omega arith in
    subst (λ (c : ℕ). Reached i c (run (after s n) items)) more (reached_run i (cycles + 1) (after s n) items image (reached_after i cycles s n image r))

pub reached : (i : Image) (items : List ℕ) → IsImage i → Reached i (0 + length items) (run (start i) items)
reached i items image = reached_run i 0 (start i) items image (reached_start i image)

checkpoint_of : (i : Image) (cycles : ℕ) (s : State) (p : Parts) (last : Option ℕ) → Reached i cycles s → cycles ≤ 1000000 → IsSnapshotOf s p → IsTyped p
    → IfSome last (λ n. n < 64) → IsCheckpoint i p last
checkpoint_of i cycles s p last r few is typed issued =
    let own = can_own s p ∣ r.kept ∣₁ is in
    record {
      rules = is.rules;
      typed = typed;
      slots = own.slots ∙ r.fits.same_slots;
      cycles = let counted = r.counted in let same = is.cycles in omega arith;
      pages = subst (λ (n : ℕ). length p.pages ≤ n) r.fits.frames own.pages;
      outputs = subst (λ (v : ℕ). AllByRecursion (λ (o : Output). length o.bytes ≤ output_limit v) p.outputs) r.fits.version own.outputs;
      mode = λ off. own.mode (r.fits.split ∙ off);
      issued = issued;
    }

pub snapshots : (i : Image) (items : List ℕ) (p : Parts) (last : Option ℕ) → IsImage i → length items ≤ 1000000 → IsSnapshotOf (run (start i) items) p → IsTyped p
    → IfSome last (λ n. n < 64) → IsCheckpoint i p last
snapshots i items p last image few is typed issued =
    checkpoint_of i (0 + length items) (run (start i) items) p last (reached i items image) (omega arith) is typed issued
