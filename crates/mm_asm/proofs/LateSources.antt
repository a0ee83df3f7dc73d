-- In a text of few bytes the numbers of lines and columns have 32 bits.
use Rattle.std.proofs.Common.{◌≡◌, ℕ, zero, suc, ◌+◌, ◌-◌, ◌^◌, ◌<◌, ◌≤◌, Bool, true, false, cond, if◌then◌else◌, List}
use Rattle.std.proofs.Common.{[], ◌∷◌, ◌++◌, map, length, replicate, Option, Some, None, Result, Ok, Err, subst, inl}
use Rattle.std.proofs.Common.{inr, arith}
use Rattle.std.specs.{List.{flat_map, slice_split, onto_first, AllByRecursion}, Prelude.◌==◌}
use Prim.Native.Char.{code}
use Rattle.mm_line.specs.declared.{fault.Problem.Problem, name.Mark.Mark}
use Rattle.mm_line.specs.declared.statement.{Constant.{Constant, TheVariants.{Integer, Pointer}}, Content.Content}
use Rattle.mm_line.specs.declared.{statement.Statement.Statement, line.{Body.Body, Line.Line}}
use Rattle.mm_line.specs.Statements.{line_of}
use Rattle.mm_draft.specs.declared.{source.Source.Source, segment.Word.Word, thread.Register.Register}
use Rattle.mm_draft.specs.{declared.fault.{Failure.Failure, DraftError.DraftError}, Seen.Reads}
use Rattle.mm_draft.specs.Drafts.{Segment, Thread, Draft, nothing, with_words, with_register, zero_word, add_statement}
use Rattle.mm_draft.specs.Drafts.{add_reading, add_body, add_maybe_label, add_line}
use Rattle.mm_draft.specs.Faults.{line_faults, first_of, source_of, step_by, step, ◌then◌, lines_from, lines_of}
use Rattle.mm_draft.specs.{Faults.draft_of, Laws.{Pair, failure_pair, precedes, sooner, least}}
use Rattle.mm_asm.specs.Names.{Use, constant_uses, content_uses, word_uses, segment_uses, register_uses, thread_uses}
use Rattle.mm_asm.specs.Names.{merge, uses_of, with_use}
use Rattle.mm_asm.specs.Faults.{in_source, word_failures, goal_failures, use_failures, limit_failures, late_failures}
use Rattle.mm_asm.specs.Sources.{IsSmall, IsSmallError, HasSmallWords, HasSmallRegisters, IsFromSmall, IsPosition}
use Rattle.mm_asm.proofs.{Lists.{each_weaker, each_changed}, Uses.from_merge}
use Rattle.mm_object.proofs.Members.{each_in, each_from, each_more}
use Rattle.mm_line.specs.declared.statement.Content.TheVariants as content
use Rattle.mm_line.specs.declared.statement.Statement.TheVariants as statement
use Rattle.mm_draft.specs.declared.fault.DraftError.TheVariants as early

-- 1. What a line adds.

each_same : {A : Type 0} (P : A → Type 0) (x : A) (n : ℕ) → P x → AllByRecursion P (replicate n x)
each_same P x zero h = tt
each_same P x (suc n) h = (h, each_same P x n h)

module _ (source : Source) (small : IsSmall source) where
  words_small : (words : List Word) (d : Draft) → AllByRecursion (λ (w : Word). IsSmall w.source) words → IsFromSmall d
      → AllByRecursion HasSmallWords (Rattle.mm_draft.specs.Drafts.change_last (with_words words) d.segments)
  words_small words d k h = each_changed (with_words words) HasSmallWords d.segments h.segments (λ s e m. each_more (λ (w : Word). IsSmall w.source) s.words words m k)

  statement_small : (s : Statement) (d : Draft) → IsFromSmall d → IsFromSmall (add_statement source s d)
  unfolding add_statement
  statement_small (statement.Spare frames) d h = record { segments = h.segments; threads = h.threads }
  statement_small (statement.Begin mark log) d h = record {
    segments = each_more HasSmallWords d.segments
        (record { name = mark.name; log = log; words = [] } ∷ []) h.segments (tt, tt);
    threads = h.threads;
  }
  statement_small (statement.Fill words) d h = record {
    segments = words_small (replicate words (zero_word source)) d
        (each_same (λ (w : Word). IsSmall w.source) (zero_word source) words small) h;
    threads = h.threads;
  }
  statement_small (statement.Word full what) d h = record { segments = words_small (record { full = full; content = what; source = source } ∷ []) d (small, tt) h; threads = h.threads }
  statement_small (statement.Thread slot group handler perm target) d h = record {
    segments = h.segments;
    threads = each_more HasSmallRegisters d.threads
        (record {
          slot = slot;
          group = group;
          handler = handler;
          perm = perm;
          target = target;
          source = source;
          registers = [];
        } ∷ []) h.threads ((small, tt), tt);
  }
  statement_small (statement.Register number value) d h =
      let r : Register = record { number = number; value = value; source = source } in
      record {
        segments = h.segments;
        threads = each_changed (with_register r) HasSmallRegisters d.threads h.threads (λ t e k. (k.0, each_more (λ (x : Register). IsSmall x.source) t.registers (r ∷ []) k.1 (small, tt)));
      }

  reading_small : (r : Result Statement Problem) (d : Draft) → IsFromSmall d → IsFromSmall (add_reading source r d)
  reading_small (Ok s) d h = statement_small s d h
  reading_small (Err problem) d h = h

  body_small : (body : Option Body) (d : Draft) → IsFromSmall d → IsFromSmall (add_body source body d)
  body_small None d h = h
  body_small (Some body) d h = reading_small body.reading d h

  label_small : (label : Option (Result Mark Problem)) (d : Draft) → IsFromSmall d → IsFromSmall (add_maybe_label label d)
  label_small None d h = h
  label_small (Some (Ok mark)) d h = record { segments = h.segments; threads = h.threads }
  label_small (Some (Err problem)) d h = h

  line_small : (line : Line) (d : Draft) → IsFromSmall d → IsFromSmall (add_line source line d)
  unfolding add_line
  line_small line d h = body_small line.body (add_maybe_label line.label d) (label_small line.label d h)

-- 2. Texts.

abbrev Small : Result Draft Failure → Type 0
Small (Ok d) = IsFromSmall d
Small (Err failure) = IsSmall failure.source

lines_small : (n : ℕ) (lines : List (List ℕ)) (number : ℕ) (d : Draft) → n < 2 ^ 32 - 1 → number + length lines ≤ n + 1
    → AllByRecursion (λ (bytes : List ℕ). length bytes ≤ n) lines → IsFromSmall d → Small (lines_from number d lines)
unfolding lines_from step
lines_small n [] number d few count short h = h
lines_small n (bytes ∷ lines) number d few count short h =
    by (first_of (line_faults d (line_of bytes)))
    (lines_small n lines (number + 1) (add_line (source_of number bytes) (line_of bytes) d) few (omega arith) short.1 (line_small (source_of number bytes) small (line_of bytes) d h))
  where
    small : IsSmall (source_of number bytes)
    small = (omega arith, let s = short.0 in omega arith)

    by : (o : Option Problem) → Small (lines_from (number + 1) (add_line (source_of number bytes) (line_of bytes) d) lines)
        → Small (step_by o (source_of number bytes) (line_of bytes) d then λ e. lines_from (number + 1) e lines)
    by None later = later
    by (Some problem) later = small

module _ (p : ℕ → Bool) where
  parts_few : (xs : List ℕ) → length (slice_split p xs) ≤ length xs + 1
  parts_few [] = omega arith
  parts_few (x ∷ xs) = by (p x) (slice_split p xs) (parts_few xs)
    where
      by : (b : Bool) (parts : List (List ℕ)) → length parts ≤ length xs + 1 → length (cond b ([] ∷ parts) (onto_first x parts)) ≤ length (x ∷ xs) + 1
      by true parts h = omega arith
      by false [] h = omega arith
      by false (y ∷ ys) h = omega arith

  parts_short : (xs : List ℕ) → AllByRecursion (λ (part : List ℕ). length part ≤ length xs) (slice_split p xs)
  parts_short [] = (omega arith, tt)
  parts_short (x ∷ xs) = by (p x) (slice_split p xs) (parts_short xs)
    where
      longer : (parts : List (List ℕ)) → AllByRecursion (λ (part : List ℕ). length part ≤ length xs) parts → AllByRecursion (λ (part : List ℕ). length part ≤ length (x ∷ xs)) parts
      longer parts h = each_weaker (λ (part : List ℕ). length part ≤ length xs) (λ (part : List ℕ). length part ≤ length (x ∷ xs)) parts (λ part k. omega arith) h

      by : (b : Bool) (parts : List (List ℕ)) → AllByRecursion (λ (part : List ℕ). length part ≤ length xs) parts
          → AllByRecursion (λ (part : List ℕ). length part ≤ length (x ∷ xs)) (cond b ([] ∷ parts) (onto_first x parts))
      by true parts h = (omega arith, longer parts h)
      by false [] h = (omega arith, tt)
      by false (y ∷ ys) h = (let k = h.0 in omega arith, longer ys h.1)

text_small : (text : List ℕ) → length text < 2 ^ 32 - 1 → Small (draft_of text)
unfolding draft_of
text_small text few =
    lines_small (length text) (lines_of text) 0 nothing few (let h = parts_few (λ b. b == code "\n") text in omega arith) (parts_short (λ b. b == code "\n") text)
    (record { segments = tt; threads = tt })

pub draft_small : (text : List ℕ) (d : Draft) → length text < 2 ^ 32 - 1 → draft_of text ≡ Ok d → IsFromSmall d
draft_small text d few e = subst Small e (text_small text few)

pub failure_small : (text : List ℕ) (f : Failure) → length text < 2 ^ 32 - 1 → draft_of text ≡ Err f → IsSmall f.source
failure_small text f few e = subst Small e (text_small text few)

pub early_small : (text : List ℕ) (error : DraftError) → length text < 2 ^ 32 - 1 → Reads (let r : Result Draft DraftError = Err error in r) (draft_of text) → IsSmallError error
early_small text (early.Fault failure) few e = failure_small text failure few e
early_small text early.NoMemory few e = tt

-- 3. Late faults.

each_flat : {A B : Type 0} (P : B → Type 0) (f : A → List B) (xs : List A) → AllByRecursion (λ x. AllByRecursion P (f x)) xs → AllByRecursion P (flat_map f xs)
each_flat P f [] h = tt
each_flat P f (x ∷ xs) h = each_more P (f x) (flat_map f xs) h.0 (each_flat P f xs h.1)

abbrev FromSmall : Failure → Type 0
FromSmall f = IsSmall f.source

abbrev UsedSmall : Use → Type 0
UsedSmall u = IsSmall u.source

in_small : (source : Source) (problems : List Problem) → IsSmall source → AllByRecursion FromSmall (in_source source problems)
in_small source [] h = tt
in_small source (p ∷ problems) h = (h, in_small source problems h)

constant_small : (source : Source) (c : Constant) → IsSmall source → AllByRecursion UsedSmall (constant_uses source c)
constant_small source (Integer n) h = tt
constant_small source (Pointer perm target) h = (h, tt)

content_small : (source : Source) (c : Content) → IsSmall source → AllByRecursion UsedSmall (content_uses source c)
content_small source (content.Constant c) h = constant_small source c h
content_small source (content.Code c) h = tt

module _ (d : Draft) where
  goals_small : (k : ℕ) (segments : List Segment) → AllByRecursion HasSmallWords segments → AllByRecursion FromSmall (goal_failures d k segments)
  goals_small k [] h = tt
  goals_small k (s ∷ segments) h =
      each_more FromSmall (flat_map (word_failures d k) s.words) (goal_failures d (k + 1) segments)
      (each_flat FromSmall (word_failures d k) s.words (each_weaker (λ (w : Word). IsSmall w.source)
      (λ (w : Word). AllByRecursion FromSmall (word_failures d k w)) s.words (λ w m. in_small w.source _ m) h.0))
      (goals_small (k + 1) segments h.1)

  limits_small : (uses : List Use) (names : List (List ℕ)) → AllByRecursion UsedSmall uses → AllByRecursion FromSmall (limit_failures d names uses)
  limits_small [] names h = tt
  limits_small (u ∷ uses) names h = each_more FromSmall _ (limit_failures d (with_use d u names) uses) (in_small u.source _ h.0) (limits_small uses (with_use d u names) h.1)

  segments_used : (segments : List Segment) → AllByRecursion HasSmallWords segments → AllByRecursion UsedSmall (flat_map segment_uses segments)
  segments_used segments h =
      each_flat UsedSmall segment_uses segments (each_weaker HasSmallWords (λ (s : Segment). AllByRecursion UsedSmall (segment_uses s)) segments
      (λ s k. each_flat UsedSmall word_uses s.words (each_weaker (λ (w : Word). IsSmall w.source)
      (λ (w : Word). AllByRecursion UsedSmall (word_uses w)) s.words (λ w m. content_small w.source w.content m) k))
      h)

  threads_used : (threads : List Thread) → AllByRecursion HasSmallRegisters threads → AllByRecursion UsedSmall (flat_map thread_uses threads)
  threads_used threads h =
      each_flat UsedSmall thread_uses threads (each_weaker HasSmallRegisters (λ (t : Thread). AllByRecursion UsedSmall (thread_uses t)) threads
      (λ t k. (
        k.0,
        each_flat UsedSmall register_uses t.registers (each_weaker (λ (r : Register). IsSmall r.source)
            (λ (r : Register). AllByRecursion UsedSmall (register_uses r)) t.registers
            (λ r m. constant_small r.source r.value m) k.1),
      )) h)

  uses_small : IsFromSmall d → AllByRecursion UsedSmall (uses_of d)
  unfolding uses_of
  uses_small h = each_from UsedSmall (merge (flat_map segment_uses d.segments) (flat_map thread_uses d.threads)) (λ u m.
      elim (from_merge u (flat_map segment_uses d.segments) (flat_map thread_uses d.threads) m) [
        | inl l ↦ each_in UsedSmall u (flat_map segment_uses d.segments) (segments_used d.segments h.segments) l
        | inr r ↦ each_in UsedSmall u (flat_map thread_uses d.threads) (threads_used d.threads h.threads) r
      ])

  late_small : IsFromSmall d → AllByRecursion FromSmall (late_failures d)
  unfolding late_failures
  late_small h =
      let uses = uses_small h in
      each_more FromSmall (goal_failures d 0 d.segments ++ flat_map (use_failures d) (uses_of d)) (limit_failures d [] (uses_of d))
      (each_more FromSmall (goal_failures d 0 d.segments) (flat_map (use_failures d) (uses_of d)) (goals_small 0 d.segments h.segments)
      (each_flat FromSmall (use_failures d) (uses_of d) (each_weaker UsedSmall (λ (u : Use). AllByRecursion FromSmall (use_failures d u)) (uses_of d) (λ u m. in_small u.source _ m) uses)))
      (limits_small (uses_of d) [] uses)

pub pair_is : (f : Failure) → IsSmall f.source → IsPosition (failure_pair f)
pair_is f h = record { line = h.0; column = let k = h.1 in omega arith }

abbrev HoldsOf : Option Pair → Type 0
HoldsOf None = Unit {0}
HoldsOf (Some p) = IsPosition p

least_small : (failures : List Failure) → AllByRecursion FromSmall failures → HoldsOf (least (map failure_pair failures))
least_small [] h = tt
least_small (f ∷ failures) h = by (least (map failure_pair failures)) (least_small failures h.1)
  where
    chosen : (b : Bool) (q : Pair) → IsPosition q → HoldsOf (if b then Some q else Some (failure_pair f))
    chosen true q k = k
    chosen false q k = pair_is f h.0

    by : (o : Option Pair) → HoldsOf o → HoldsOf (sooner (failure_pair f) o)
    by None k = pair_is f h.0
    by (Some q) k = chosen (precedes q (failure_pair f)) q k

-- the place of the least late fault
pub late_place : (d : Draft) (p : Pair) → IsFromSmall d → least (map failure_pair (late_failures d)) ≡ Some p → IsPosition p
late_place d p h e = subst HoldsOf e (least_small (late_failures d) (late_small d h))
