-- The draft of the lines of an object.
use Rattle.std.proofs.Common.{◌≡◌, ℕ, List, [], ◌∷◌, ◌++◌, length, Some, Ok, refl, ap, ◌∙◌, arith, append_assoc}
use Rattle.std.specs.List.{AllByRecursion}
use Rattle.mm_draft.specs.{Drafts.{Draft, nothing}, Faults.{lines_from, lines_of, draft_of}}
use Rattle.mm_object.specs.{declared.thread.Thread.Thread, Objects.{Segment, Object, IsObject}}
use Rattle.mm_disasm.proofs.{Saying.{object_lines, segment_lines, thread_lines}, Speaking.Speaks}
use Rattle.mm_disasm.proofs.{DraftedLines.{spare_read, nothing_read}, DraftedOrder.ascends_by, DraftedRelocs.found_all}
use Rattle.mm_disasm.proofs.DraftedSegments.{IsNew, entries_from, AreSegmentsOf, Fit, read_segments}
use Rattle.mm_disasm.proofs.DraftedThreads.{IsBehind, AreThreadsOf, read_threads}

-- a draft has the segments and threads of an object, a name for each segment, and its spare frames
pub record IsDraftOf (o : Object) (d : Draft) : Type 0 where
  pub segments : AreSegmentsOf o 0 o.segments d.segments
  pub names : d.names ≡ entries_from 0 d.segments
  pub threads : AreThreadsOf o o.threads d.threads
  pub spare : d.spare ≡ Some o.spare

-- the draft of a text is one of the object
pub record Drafts (o : Object) (text : List ℕ) : Type 0 where
  pub draft : Draft
  pub early : draft_of text ≡ Ok draft
  pub is : IsDraftOf o draft

module _ (o : Object) (is : IsObject o) (speaks : Speaks o) where
  new_names : (segments : List Segment) → AllByRecursion (IsNew []) segments
  new_names [] = tt
  new_names (s ∷ segments) = (refl, new_names segments)

  first_threads : (threads : List Thread) → AllByRecursion (IsBehind []) threads
  first_threads [] = tt
  first_threads (t ∷ threads) = (tt, first_threads threads)

  fits : Fit o (Some o.spare) 0 [] o.segments
  fits = record {
    behind = refl;
    few = omega (arith, is.few_segments);
    each = is.segments;
    apart = is.names;
    new = new_names o.segments;
    words = omega (arith, is.few_words);
    pointers = omega (arith, ap length (found_all o is), is.few_relocs);
  }

  pub drafts : (text : List ℕ) → lines_of text ≡ object_lines o ++ [] ∷ [] → Drafts o text
  unfolding draft_of object_lines
  drafts text lines =
      let segments = read_segments o (Some o.spare) 1 0 [] o.segments speaks.segments fits in
      let names = entries_from 0 segments.later in
      let threads = read_threads o segments.later names (Some o.spare) segments.next [] o.threads speaks.threads
      (ascends_by (λ (t : Thread). t.slot) o.threads is.slots) (first_threads o.threads) in
      let all : List (List ℕ) = segment_lines o 0 o.segments ++ thread_lines o o.threads in
      let last : List (List ℕ) = [] ∷ [] in
      let d : Draft = record { segments = segments.later; names = names; threads = threads.later; spare = Some o.spare } in
      record {
        draft = d;
        early =
            ap (lines_from 0 nothing) lines
            ∙ spare_read o 0 nothing (all ++ last) o.spare speaks.spare refl
            ∙ ap (lines_from 1 (record nothing { spare = Some o.spare })) (append_assoc (segment_lines o 0 o.segments) (thread_lines o o.threads) last)
            ∙ segments.reads (thread_lines o o.threads ++ last)
            ∙ threads.reads last
            ∙ nothing_read threads.next d;
        is = record { segments = segments.are; names = refl; threads = threads.are; spare = refl };
      }
