-- What is said of whatever groups have, of what they are granted.
use Rattle.std.proofs.Common.{ℕ, ◌↔◌, List, Bool}
use Rattle.mm_word.specs.declared.perm.Perm.{Perm}
use Rattle.mm_model.specs.{Image.Image, Reach.{Entries, Grants, CanTouch, CanWrite}}
use Rattle.mm_model.specs.Audit.{MaximalSegment, MaximalSegments}
use Rattle.mm_model.specs.declared.word_use.WordUse.{TheVariants.{Touch, Write}}
use Rattle.mm_audit.specs.{declared.{span.Span.Span, shared_words.Meets.Meets}, Spans.AreSpans}
use Rattle.mm_audit.specs.{Held.{CanUse, IsMaximal, AreMaximal, AreSpansOf, IsTableOf}, Surveys.IsLeastTable}

module _ (i : Image) (e : Entries) where
  pub touch_use : (g w : ℕ) → CanTouch i e g w ↔ CanUse (Grants i e) Touch g w
  touch_use g w = (
    λ c. record { by = c.by; held = c.granted; word = c.loads.word; right = c.loads.right; covers = c.loads.covers },
    λ u. record { by = u.by; granted = u.held; loads = record { word = u.word; right = u.right; covers = u.covers } },
  )

  pub write_use : (g w : ℕ) → CanWrite i e g w ↔ CanUse (Grants i e) Write g w
  write_use g w = (
    λ c. record { by = c.by; held = c.granted; word = c.stores.word; right = c.stores.right; covers = c.stores.covers },
    λ u. record { by = u.by; granted = u.held; stores = record { word = u.word; right = u.right; covers = u.covers } },
  )

  pub spans_granted : (spans : List Span) → AreSpans i e spans → AreSpansOf (Grants i e) spans
  spans_granted spans a = record {
    order = a.order;
    each = λ how g n lt uses. let s = a.granted how g n lt uses in record {
      by = s.by;
      held = s.granted;
      has_right = s.has_right;
      is = s.is;
      whole_word = s.whole_word;
    };
    held = a.held;
  }

  module _ (g : ℕ) (right : Perm → Bool) where
    one_granted : (s : ℕ × ℕ) → IsMaximal (Grants i e) g right s ↔ MaximalSegment i e g right s
    one_granted s = (
      λ m. let h = m.held in record {
        granted = record { by = h.by; granted = h.held; has_right = h.has_right; is = h.is; whole_word = h.whole_word };
        maximal = m.maximal;
      },
      λ m. let h = m.granted in record {
        held = record { by = h.by; held = h.granted; has_right = h.has_right; is = h.is; whole_word = h.whole_word };
        maximal = m.maximal;
      },
    )

    pub maximal_granted : (list : List (ℕ × ℕ)) → AreMaximal (Grants i e) g right list → MaximalSegments i e g right list
    maximal_granted list m = record {
      ascending = m.ascending;
      each = λ s. (
        λ c. (one_granted s).0 ((m.each s).0 c),
        λ c. (m.each s).1 ((one_granted s).1 c),
      );
    }

  pub table_granted : (table : List Meets) → IsTableOf (Grants i e) table → IsLeastTable i e table
  table_granted table t = record {
    len = t.len;
    some = λ h g lt small has. let s = t.some h g lt small has in record {
      writes = (write_use h _).1 s.writes;
      touches = (touch_use g _).1 s.touches;
      least = λ v p q. s.least v ((write_use h v).0 p) ((touch_use g v).0 q);
    };
    each = λ h g w p q. t.each h g w ((write_use h w).0 p) ((touch_use g w).0 q);
  }
