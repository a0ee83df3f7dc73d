-- The maximal segments of what groups reach.
use Rattle.std.proofs.Common.{ℕ, ◌↔◌, List, Bool}
use Rattle.mm_word.specs.declared.perm.Perm.{Perm}
use Rattle.mm_model.specs.Image.{Image}
use Rattle.mm_kernel.specs.Segments.{Segment}
use Rattle.mm_audit.specs.Held.{IsMaximal, AreMaximal}
use Rattle.mm_confine.specs.Reach.{Reaches}
use Rattle.mm_hold.specs.Reached.{MaximalSegment, MaximalSegments}

module _ (i : Image) (kept : List Segment) (g : ℕ) (right : Perm → Bool) where
  one_reached : (s : Segment) → IsMaximal (Reaches i kept) g right s ↔ MaximalSegment i kept g right s
  one_reached s = (
    λ m. let h = m.held in record {
      reached = record { by = h.by; reached = h.held; has_right = h.has_right; is = h.is; whole_word = h.whole_word };
      maximal = m.maximal;
    },
    λ m. let h = m.reached in record {
      held = record { by = h.by; held = h.reached; has_right = h.has_right; is = h.is; whole_word = h.whole_word };
      maximal = m.maximal;
    },
  )

  pub maximal_reached : (list : List Segment) → AreMaximal (Reaches i kept) g right list → MaximalSegments i kept g right list
  maximal_reached list m = record {
    ascending = m.ascending;
    each = λ s. (
      λ c. (one_reached s).0 ((m.each s).0 c),
      λ c. (m.each s).1 ((one_reached s).1 c),
    );
  }
