-- Targets of a draft stand in the order of the text, one on a line at most.
use Rattle.std.proofs.Common.{◌≡◌, ℕ, zero, suc, ◌+◌, ◌<◌, ◌≤◌, Bool, true, false, nat_lt, if◌then◌else◌, List, [], ◌∷◌}
use Rattle.std.proofs.Common.{◌++◌, map, replicate, Option, Some, None, Result, Ok, Err, refl, sym, ap, ◌∙◌, subst, inl}
use Rattle.std.proofs.Common.{inr, arith, append_assoc, append-nil}
use Rattle.std.proofs.lemmas.{List.map-append, Bool.{lt-ltb, Decides.nat_tests}, Grind.flat_map-append}
use Rattle.std.specs.{List.{flat_map, AllByRecursion}, Prelude.is_none}
use Rattle.mm_draft.proofs.{Allowed.good, Firsts.no_fault}
use Rattle.mm_draft.specs.declared.{source.Source.Source, segment.Word.Word, thread.Register.Register}
use Rattle.mm_draft.specs.declared.fault.Failure.{Failure}
use Rattle.mm_draft.specs.Drafts.{Segment, Thread, Draft, nothing, last, change_last, with_words, with_register}
use Rattle.mm_draft.specs.Drafts.{zero_word, add_statement, add_reading, add_body, add_maybe_label, add_line}
use Rattle.mm_draft.specs.Faults.{claim_faults, maybe_label_faults, one_if_pointer, words_faults, statement_faults}
use Rattle.mm_draft.specs.Faults.{reading_faults, body_faults, line_faults, first_of, source_of, step_by, step, ◌then◌}
use Rattle.mm_draft.specs.Faults.{lines_from, lines_of, draft_of}
use Rattle.mm_line.specs.declared.{fault.Problem.Problem, name.Mark.Mark}
use Rattle.mm_line.specs.declared.statement.{Constant.{Constant, TheVariants.{Integer, Pointer}}, Content.Content}
use Rattle.mm_line.specs.declared.{statement.Statement.Statement, line.{Body.Body, Line.Line}}
use Rattle.mm_line.specs.Statements.{line_of}
use Rattle.mm_asm.specs.Names.{Use, constant_uses, content_uses, word_uses, segment_uses, register_uses, thread_uses}
use Rattle.mm_asm.specs.{Names.{merge, uses_of}, Laws.TargetsStandInOrder}
use Rattle.mm_asm.proofs.{Lists.{each_weaker, none_both}, Uses.in_merge, Relocs.{RisesWithin, higher, rises, in_turn}}
use Rattle.mm_object.proofs.Members.{each_in, each_from}
use Rattle.mm_line.specs.declared.fault.Fault.TheVariants as faults
use Rattle.mm_line.specs.declared.statement.Content.TheVariants as content
use Rattle.mm_line.specs.declared.statement.Statement.TheVariants as statement

abbrev line_of_use : Use → ℕ
line_of_use u = u.source.line

-- 1. One use more.

module _ (u : Use) where
  abbrev Earlier : List Use → Type 0
  Earlier uses = AllByRecursion (λ (v : Use). v.source.line < u.source.line) uses

  is_not_less : (a b : ℕ) → a < b → nat_lt b a ≡ false
  is_not_less a b lt = grind (arith, nat_tests)

  behind_all : (ys : List Use) → Earlier ys → merge (u ∷ []) ys ≡ ys ++ u ∷ []
  behind_all [] h = refl
  behind_all (y ∷ ys) h = by (nat_lt y.source.line u.source.line) (lt-ltb y.source.line u.source.line h.0) (behind_all ys h.1)
    where
      by : (b : Bool) → b ≡ true → merge (u ∷ []) ys ≡ ys ++ u ∷ [] → (if b then y ∷ merge (u ∷ []) ys else u ∷ merge [] (y ∷ ys)) ≡ y ∷ (ys ++ u ∷ [])
      by true e later = ap (λ (zs : List Use). y ∷ zs) later
      by false e later = absurd cc

  abbrev Left : List Use → Type 0
  Left xs = (ys : List Use) → Earlier ys → merge (xs ++ u ∷ []) ys ≡ merge xs ys ++ u ∷ []

  left_step : (x : Use) (xs ys : List Use) → Left xs → Earlier ys → merge (x ∷ (xs ++ u ∷ [])) ys ≡ merge (x ∷ xs) ys ++ u ∷ []
  left_step x xs [] k h = ap (λ (zs : List Use). x ∷ zs) (k [] tt)
  left_step x xs (y ∷ ys) k h = by (nat_lt y.source.line x.source.line) (left_step x xs ys k h.1)
    where
      by : (b : Bool) → merge (x ∷ (xs ++ u ∷ [])) ys ≡ merge (x ∷ xs) ys ++ u ∷ [] →
          (if b then y ∷ merge (x ∷ (xs ++ u ∷ [])) ys else x ∷ merge (xs ++ u ∷ []) (y ∷ ys)) ≡ (if b then y ∷ merge (x ∷ xs) ys else x ∷ merge xs (y ∷ ys)) ++ u ∷ []
      by true later = ap (λ (zs : List Use). y ∷ zs) later
      by false later = ap (λ (zs : List Use). x ∷ zs) (k (y ∷ ys) h)

  merge_left : (xs : List Use) → Left xs
  merge_left [] ys h = behind_all ys h
  merge_left (x ∷ xs) ys h = left_step x xs ys (merge_left xs) h

  abbrev Right : List Use → Type 0
  Right xs = (ys : List Use) → merge xs (ys ++ u ∷ []) ≡ merge xs ys ++ u ∷ []

  right_step : (x : Use) (xs ys : List Use) → x.source.line < u.source.line → Right xs → merge (x ∷ xs) (ys ++ u ∷ []) ≡ merge (x ∷ xs) ys ++ u ∷ []
  right_step x xs [] h k = by (nat_lt u.source.line x.source.line) (is_not_less x.source.line u.source.line h)
    where
      by : (b : Bool) → b ≡ false → (if b then u ∷ merge (x ∷ xs) [] else x ∷ merge xs (u ∷ [])) ≡ x ∷ (merge xs [] ++ u ∷ [])
      by true e = absurd cc
      by false e = ap (λ (zs : List Use). x ∷ zs) (k [])
  right_step x xs (y ∷ ys) h k = by (nat_lt y.source.line x.source.line) (right_step x xs ys h k)
    where
      by : (b : Bool) → merge (x ∷ xs) (ys ++ u ∷ []) ≡ merge (x ∷ xs) ys ++ u ∷ [] →
          (if b then y ∷ merge (x ∷ xs) (ys ++ u ∷ []) else x ∷ merge xs (y ∷ (ys ++ u ∷ []))) ≡ (if b then y ∷ merge (x ∷ xs) ys else x ∷ merge xs (y ∷ ys)) ++ u ∷ []
      by true later = ap (λ (zs : List Use). y ∷ zs) later
      by false later = ap (λ (zs : List Use). x ∷ zs) (k (y ∷ ys))

  merge_right : (xs : List Use) → Earlier xs → Right xs
  merge_right [] h ys = refl
  merge_right (x ∷ xs) h ys = right_step x xs ys h.0 (merge_right xs h.1)

-- 2. Uses of lines before a number, in their order.

abbrev Stand : ℕ → List Use → Type 0
Stand number uses = RisesWithin 0 number (map line_of_use uses)

each_below : (low high : ℕ) (uses : List Use) → RisesWithin low high (map line_of_use uses) → AllByRecursion (λ (v : Use). v.source.line < high) uses
each_below low high [] h = tt
each_below low high (v ∷ uses) h = (omega (arith, below (v.source.line + 1) high (map line_of_use uses) h.1), each_below (v.source.line + 1) high uses h.1)
  where
    below : (low high : ℕ) (numbers : List ℕ) → RisesWithin low high numbers → low ≤ high
    below low high [] k = k
    below low high (n ∷ numbers) k = omega (arith, k.0, below (n + 1) high numbers k.1)

-- no use, or one of this line
abbrev OnLine : ℕ → List Use → Type 0
OnLine number [] = Unit {0}
OnLine number (u ∷ []) = u.source.line ≡ number
OnLine number (u ∷ v ∷ uses) = ⊥

stand_more : (number : ℕ) (uses : List Use) (u : Use) → Stand number uses → u.source.line ≡ number → Stand (number + 1) (uses ++ u ∷ [])
stand_more number uses u h e = subst (RisesWithin 0 (number + 1)) (sym (map-append line_of_use uses (u ∷ [])))
    (in_turn 0 number (number + 1) (map line_of_use uses) (u.source.line ∷ []) h (omega (arith, e), omega (arith, e)))

module _ (number : ℕ) (xs ys : List Use) (h : Stand number (merge xs ys)) where
  left_below : AllByRecursion (λ (v : Use). v.source.line < number) xs
  left_below = each_from (λ (v : Use). v.source.line < number) xs (λ v m. each_in (λ (w : Use). w.source.line < number)
      v (merge xs ys) (each_below 0 number (merge xs ys) h) (in_merge v xs ys (inl m)))

  right_below : AllByRecursion (λ (v : Use). v.source.line < number) ys
  right_below = each_from (λ (v : Use). v.source.line < number) ys (λ v m. each_in (λ (w : Use). w.source.line < number)
      v (merge xs ys) (each_below 0 number (merge xs ys) h) (in_merge v xs ys (inr m)))

  left_stands : (us : List Use) → OnLine number us → Stand (number + 1) (merge (xs ++ us) ys)
  left_stands [] on = subst (λ (zs : List Use). Stand (number + 1) (merge zs ys)) (sym (append-nil xs)) (higher 0 number (number + 1) (map line_of_use (merge xs ys)) (omega arith) h)
  left_stands (u ∷ []) on =
      let earlier = each_weaker (λ (v : Use). v.source.line < number) (λ (v : Use). v.source.line < u.source.line) ys (λ v lt. omega (arith, lt, on)) right_below in
      subst (Stand (number + 1)) (sym (merge_left u xs ys earlier)) (stand_more number (merge xs ys) u h on)
  left_stands (u ∷ v ∷ us) on = absurd on

  right_stands : (us : List Use) → OnLine number us → Stand (number + 1) (merge xs (ys ++ us))
  right_stands [] on = subst (λ (zs : List Use). Stand (number + 1) (merge xs zs)) (sym (append-nil ys)) (higher 0 number (number + 1) (map line_of_use (merge xs ys)) (omega arith) h)
  right_stands (u ∷ []) on =
      let earlier = each_weaker (λ (v : Use). v.source.line < number) (λ (v : Use). v.source.line < u.source.line) xs (λ v lt. omega (arith, lt, on)) left_below in
      subst (Stand (number + 1)) (sym (merge_right u xs earlier ys)) (stand_more number (merge xs ys) u h on)
  right_stands (u ∷ v ∷ us) on = absurd on

-- 3. What a line adds.

module _ {A : Type 0} (f : A → A) (uses : A → List Use) (more : List Use) where
  -- the uses of the last item grow
  flat_changed : (xs : List A) → is_none (last xs) ≡ false → ((x : A) → uses (f x) ≡ uses x ++ more) → flat_map uses (change_last f xs) ≡ flat_map uses xs ++ more
  flat_changed [] e h = absurd cc
  flat_changed (x ∷ []) e h = ap (λ (us : List Use). us ++ []) (h x) ∙ append-nil (uses x ++ more) ∙ ap (λ (us : List Use). us ++ more) (sym (append-nil (uses x)))
  flat_changed (x ∷ y ∷ xs) e h = ap (λ (us : List Use). uses x ++ us) (flat_changed (y ∷ xs) e h) ∙ sym (append_assoc (uses x) (flat_map uses (y ∷ xs)) more)

  flat_push : (xs : List A) (x : A) → uses x ≡ more → flat_map uses (xs ++ x ∷ []) ≡ flat_map uses xs ++ more
  flat_push xs x e = flat_map-append uses xs (x ∷ []) ∙ ap (λ (us : List Use). flat_map uses xs ++ us) (append-nil (uses x) ∙ e)

zero_uses : (source : Source) (n : ℕ) → flat_map word_uses (replicate n (zero_word source)) ≡ []
zero_uses source zero = refl
zero_uses source (suc n) = zero_uses source n

constant_on_line : (source : Source) (c : Constant) → OnLine source.line (constant_uses source c)
constant_on_line source (Integer n) = tt
constant_on_line source (Pointer perm target) = refl

content_on_line : (source : Source) (c : Content) → OnLine source.line (content_uses source c)
content_on_line source (content.Constant c) = constant_on_line source c
content_on_line source (content.Code c) = tt

has_last : (d : Draft) (count pointers left : ℕ) (o : Option Segment) → words_faults d count pointers left o ≡ [] → is_none o ≡ false
has_last d count pointers left None e = absurd cc
has_last d count pointers left (Some s) e = refl

abbrev InOrder : ℕ → Draft → Type 0
InOrder number d = Stand number (merge (flat_map segment_uses d.segments) (flat_map thread_uses d.threads))

module _ (source : Source) (d : Draft) (h : InOrder source.line d) where
  abbrev ofWords : List Use
  ofWords = flat_map segment_uses d.segments

  abbrev ofThreads : List Use
  ofThreads = flat_map thread_uses d.threads

  same_in_order : InOrder (source.line + 1) d
  same_in_order = higher 0 source.line (source.line + 1) (map line_of_use (merge ofWords ofThreads)) (omega arith) h

  words_in_order : (words : List Word) (us : List Use) → flat_map word_uses words ≡ us → OnLine source.line us → is_none (last d.segments) ≡ false →
      Stand (source.line + 1) (merge (flat_map segment_uses (change_last (with_words words) d.segments)) ofThreads)
  words_in_order words us e on has =
      let grown : (s : Segment) → segment_uses (with_words words s) ≡ segment_uses s ++ us = λ s. flat_map-append word_uses s.words words ∙ ap (λ (vs : List Use). segment_uses s ++ vs) e in
      subst (λ (vs : List Use). Stand (source.line + 1) (merge vs ofThreads))
      (sym (flat_changed (with_words words) segment_uses us d.segments has grown))
      (left_stands source.line ofWords ofThreads h us on)

  statement_in_order : (left : ℕ) (s : Statement) → statement_faults d left s ≡ [] → InOrder (source.line + 1) (add_statement source s d)
  unfolding statement_faults add_statement
  statement_in_order left (statement.Spare frames) none = same_in_order
  statement_in_order left (statement.Begin mark log) none =
      let begun : Segment = record { name = mark.name; log = log; words = [] } in
      subst (λ (vs : List Use). Stand (source.line + 1) (merge vs ofThreads))
      (sym (flat_push (λ (s : Segment). s) segment_uses [] d.segments begun refl))
      (left_stands source.line ofWords ofThreads h [] tt)
  statement_in_order left (statement.Fill words) none = words_in_order (replicate words (zero_word source)) [] (zero_uses source words) tt (has_last d words 0 left (last d.segments) none)
  statement_in_order left (statement.Word full what) none =
      let w : Word = record { full = full; content = what; source = source } in
      words_in_order (w ∷ []) (content_uses source what) (append-nil (content_uses source what)) (content_on_line source what) (has_last d 1 (one_if_pointer what) left (last d.segments) none)
  statement_in_order left (statement.Thread slot group handler perm target) none =
      let t : Thread = record { slot = slot; group = group; handler = handler; perm = perm; target = target; source = source; registers = [] } in
      let u : Use = record { target = target; source = source } in
      subst (λ (vs : List Use). Stand (source.line + 1) (merge ofWords vs))
      (sym (flat_push (λ (x : Thread). x) thread_uses (u ∷ []) d.threads t refl))
      (right_stands source.line ofWords ofThreads h (u ∷ []) refl)
  statement_in_order left (statement.Register number value) none =
      let r : Register = record { number = number; value = value; source = source } in
      let grown : (t : Thread) → thread_uses (with_register r t) ≡ thread_uses t ++ register_uses r = λ t.
      let u : Use = record { target = t.target; source = t.source } in
      ap (λ (vs : List Use). u ∷ vs) (flat_push (λ (x : Register). x) register_uses (register_uses r) t.registers r refl) in
      subst (λ (vs : List Use). Stand (source.line + 1) (merge ofWords vs))
      (sym (flat_changed (with_register r) thread_uses (register_uses r) d.threads
      (good (is_none (last d.threads)) faults.Place left none) grown))
      (right_stands source.line ofWords ofThreads h (register_uses r) (constant_on_line source value))

  body_in_order : (body : Option Body) → body_faults d body ≡ [] → InOrder (source.line + 1) (add_body source body d)
  body_in_order None none = same_in_order
  body_in_order (Some body) none = by body.reading (none_both (claim_faults d body.claim) (reading_faults d body.left body.reading) none).1
    where
      by : (r : Result Statement Problem) → reading_faults d body.left r ≡ [] → InOrder (source.line + 1) (add_reading source r d)
      by (Ok s) e = statement_in_order body.left s e
      by (Err problem) e = absurd cc

label_in_order : (number : ℕ) (d : Draft) (label : Option (Result Mark Problem)) → InOrder number d → InOrder number (add_maybe_label label d)
label_in_order number d None h = h
label_in_order number d (Some (Ok mark)) h = h
label_in_order number d (Some (Err problem)) h = h

line_in_order : (source : Source) (line : Line) (d : Draft) → InOrder source.line d → line_faults d line ≡ [] → InOrder (source.line + 1) (add_line source line d)
unfolding line_faults add_line
line_in_order source line d h none =
    body_in_order source (add_maybe_label line.label d) (label_in_order source.line d line.label h) line.body
    (none_both (maybe_label_faults d line.label) (body_faults (add_maybe_label line.label d) line.body) none).1

-- 4. Texts.

step_in_order : (number : ℕ) (bytes : List ℕ) (d e : Draft) → InOrder number d → step number bytes d ≡ Ok e → InOrder (number + 1) e
unfolding step
step_in_order number bytes d e h is = by (first_of (line_faults d (line_of bytes))) refl is
  where
    by : (o : Option Problem) → first_of (line_faults d (line_of bytes)) ≡ o → step_by o (source_of number bytes) (line_of bytes) d ≡ Ok e → InOrder (number + 1) e
    by None f g =
        let same : add_line (source_of number bytes) (line_of bytes) d ≡ e = cc g in
        subst (InOrder (number + 1)) same (line_in_order (source_of number bytes) (line_of bytes) d h (no_fault (line_faults d (line_of bytes)) f))
    by (Some problem) f g = absurd cc

lines_in_order : (lines : List (List ℕ)) (number : ℕ) (d e : Draft) → InOrder number d → lines_from number d lines ≡ Ok e → (high : ℕ) × InOrder high e
unfolding lines_from
lines_in_order [] number d e h is = (number, subst (InOrder number) (let same : d ≡ e = cc is in same) h)
lines_in_order (bytes ∷ lines) number d e h is = by (step number bytes d) refl is (λ f k. lines_in_order lines (number + 1) f e k)
  where
    by : (r : Result Draft Failure) → step number bytes d ≡ r → (r then (λ f. lines_from (number + 1) f lines)) ≡ Ok e
        → ((f : Draft) → InOrder (number + 1) f → lines_from (number + 1) f lines ≡ Ok e → (high : ℕ) × InOrder high e)
        →
        (high : ℕ) × InOrder high e
    by (Ok f) g k later = later f (step_in_order number bytes d f h g) k
    by (Err failure) g k later = absurd cc

pub targets_stand_in_order : TargetsStandInOrder
unfolding draft_of uses_of
targets_stand_in_order text d e =
    let h = lines_in_order (lines_of text) 0 nothing d (omega arith) e in
    rises 0 h.0 (map line_of_use (uses_of d)) h.1
