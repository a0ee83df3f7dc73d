-- Groups that stand apart from all others, with a kernel that keeps its segments.
use Rattle.std.specs.Prelude.{◌≡◌, ◌≢◌, ℕ, ◌≤◌, ◌==◌, false, List, Contains, Some}
use Rattle.mm_model.specs.{Slot.Slot, Image.Image}
use Rattle.mm_model.specs.Audit.{Verdict, Verdict.{Yes, Handler, Writer}}
use Rattle.mm_kernel.specs.{Segments.Segment, Threads.is_kernel}
use Rattle.mm_hold.specs.Reached.{CanTouch, CanWrite}

-- a slot of this number has its handler on the other side, and that is no slot of the kernel
pub record Crosses (i : Image) (kept : List Segment) (g n : ℕ) : Type 0 where
  pub served : Slot
  pub server : Slot
  pub one : Contains i.slots served
  pub other : Contains i.slots server
  pub number : served.number ≡ n
  pub handled : served.handler ≡ Some server.number
  pub caller : is_kernel i kept server.number ≡ false
  pub sides : ¬ ((served.group == g) ≡ (server.group == g))

-- another group can write the word, which the group can touch
pub record WritesIn (i : Image) (kept : List Segment) (g h w : ℕ) : Type 0 where
  pub outside : h ≢ g
  pub writes : CanWrite i kept h w
  pub touched : CanTouch i kept g w

-- whether the group stands apart from all others
abbrev pub Judged : Image → List Segment → ℕ → Verdict → Type 0
Judged i kept g Yes = ((n : ℕ) → ¬ Crosses i kept g n) × ((h w : ℕ) → ¬ WritesIn i kept g h w)
Judged i kept g (Handler n) = Crosses i kept g n × ((m : ℕ) → Crosses i kept g m → n ≤ m)
Judged i kept g (Writer h w) =
    ((n : ℕ) → ¬ Crosses i kept g n) × WritesIn i kept g h w × ((k v : ℕ) → WritesIn i kept g k v → h ≤ k)
    × ((v : ℕ) → WritesIn i kept g h v → w ≤ v)
