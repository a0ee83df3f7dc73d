-- A least schedule is a least schedule and a move after it.
use Rattle.std.{proofs.Common.{◌≡◌, inl, inr, ℕ, List, sym, ◌∙◌}, specs.Prelude.Contains}
use Rattle.mm_model.specs.{Image.{Image, start}, Run.run}
use Rattle.mm_explore.specs.Moves.{moves}
use Rattle.mm_explore.specs.Explored.{leads_to, IsLeast}
use Rattle.mm_explore.specs.Laws.{LeastSchedulesAreMoves}
use Rattle.mm_explore.proofs.{Orders.{before_more, before_both, more}, Movings.{moves_or_idles, idle_leads}}
use Rattle.mm_explore.proofs.Coverings.{leads_alike, leads_more}

least_front : (i : Image) (t : List ℕ) (x : ℕ) → IsLeast i (more t x) → IsLeast i t
least_front i t x least s before same = least (more s x) (before_both s t x x before) (leads_alike i s t x same)

last_moves : (i : Image) (t : List ℕ) (x : ℕ) → IsLeast i (more t x) → Contains (moves (run (start i) t)) x
last_moves i t x least = elim (moves_or_idles (run (start i) t) x) [
  | inl move ↦ move
  | inr k ↦
      let stays : leads_to i (more t x) ≡ leads_to i t = leads_more i t x ∙ idle_leads (run (start i) t) x k.0 k.1 in
      absurd (least t (before_more t x) (sym stays))
]

pub least_schedules_are_moves : LeastSchedulesAreMoves
least_schedules_are_moves i t x least = (least_front i t x least, last_moves i t x least)
