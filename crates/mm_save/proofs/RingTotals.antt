-- The totals of the points in a ring.
use Rattle.std.proofs.Common.{◌≡◌, ℕ, ◌-◌, List, [], ◌∷◌, ◌++◌, length, drop, map, Option, Some, None, sym, ap, ◌∙◌}
use Rattle.std.proofs.lemmas.{List.{drop-map, length-map, map-append}, Option.slice_get-map}
use Rattle.std.specs.{Prelude.{slice_get, unwrap_or}, Option.option_map}
use Rattle.circular_buffer.specs.Buffer.{keep_last, last_item}
use Rattle.mm_debug.specs.{Session.{Session, total_of}, Standing.{Point, IsPointOf, total_at}}
use Rattle.mm_save.specs.Recorder.{newest}

-- the last so many of them are those of the last so many points
last_totals : (n : ℕ) (points : List Point) → map total_at (keep_last n points) ≡ keep_last n (map total_at points)
last_totals n points =
    sym (drop-map total_at (length points - n) points)
    ∙ ap (λ (many : ℕ). drop (many - n) (map total_at points)) (sym (length-map points total_at))

-- a point of a session is kept with the session's total
pub kept_totals : (n : ℕ) (s : Session) (q : Point) (ring : List Point) → IsPointOf s q
    → map total_at (keep_last n (ring ++ q ∷ [])) ≡ keep_last n (map total_at ring ++ total_of s ∷ [])
kept_totals n s q ring is =
    last_totals n (ring ++ q ∷ [])
    ∙ ap (keep_last n) (map-append total_at ring (q ∷ []))
    ∙ ap (λ (total : ℕ). keep_last n (map total_at ring ++ total ∷ [])) is.state.cycles

-- that of the newest point
newest_of : (ring : List Point) → newest (map total_at ring) ≡ unwrap_or (option_map total_at (last_item ring)) 0
newest_of ring =
    ap (λ (many : ℕ). unwrap_or (slice_get (map total_at ring) (many - 1)) 0) (length-map ring total_at)
    ∙ ap (λ (found : Option ℕ). unwrap_or found 0) (slice_get-map total_at ring (length ring - 1))

pub newest_some : (ring : List Point) (q : Point) → last_item ring ≡ Some q → newest (map total_at ring) ≡ total_at q
newest_some ring q is = newest_of ring ∙ ap (λ (found : Option Point). unwrap_or (option_map total_at found) 0) is

pub newest_none : (ring : List Point) → last_item ring ≡ None → newest (map total_at ring) ≡ 0
newest_none ring none = newest_of ring ∙ ap (λ (found : Option Point). unwrap_or (option_map total_at found) 0) none
