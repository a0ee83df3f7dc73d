use Rattle.std.proofs.Common.{◌≡◌, ◌≢◌, ◌+◌, ℕ, List, Option, None, Some, take, drop, decimal, refl, sym}
use Rattle.std.specs.{Prelude.MatchOption, List.position}
use Rattle.mm_cli.specs.{Ranges.IsRange, SegmentList.{IsSegment, segment_text}}
use Rattle.mm_cli.proofs.{ItemLists.rest_whole, SegmentWords.{is_slash, no_slash, read_parts, segment_of_parts}}
use Rattle.mm_cli.proofs.segments.read_segment.Goals as goal

spelled : (word base log : List ℕ) (at : ℕ) (o : Option (ℕ × ℕ)) → position is_slash word ≡ Some at → base ≡ take at word → log ≡ drop (at + 1) word
    → MatchOption o ((first width : ℕ) → IsRange first width → base ≡ decimal first → log ≢ decimal width) (λ r. IsRange r.0 r.1 × (base ≡ decimal r.0) × (log ≡ decimal r.1))
    → MatchOption o ((s : ℕ × ℕ) → IsSegment s → word ≢ segment_text s) (λ s. IsSegment s × (word ≡ segment_text s))
spelled word base log at None found front back none = λ s is same. let parts = read_parts word base log at s is same found front back in none s.0 s.1 is parts.0 parts.1
spelled word base log at (Some s) found front back (is, first, second) = (is, segment_of_parts word base log at s found front back first second is)

pub returns-in_err-at : goal.returns-in_err-at
returns-in_err-at c = rw c.from_residual.ensures (λ s is. no_slash c.args.word.now s is (sym c.in_err-at.ensures))

pub returns : goal.returns
returns c =
    spelled c.args.word.now _ _ c.in_ok-at.at c.read_range.result (sym c.in_ok-at.ensures) refl (rest_whole c.args.word.now c.in_ok-at.at _ refl) c.read_range.ensures
