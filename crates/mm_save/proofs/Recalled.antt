-- What a recorder keeps of its session: it is where as many cycles lead as its total says, and so was each kept state.
use Rattle.std.proofs.Common.{◌≡◌, ℕ, zero, suc, ◌+◌, ◌-◌, ◌≤◌, inl, inr, List, [], ◌∷◌, ◌++◌, length, get_or, Option}
use Rattle.std.proofs.Common.{Some, None, refl, sym, ap, ◌∙◌, arith}
use Rattle.std.proofs.lemmas.{Bool.cases_lt, List.Elements.{All-append, All-cons, All-drop, All-nil}}
use Rattle.std.proofs.Math.Logic.{∥∥₁_map}
use Rattle.circular_buffer.specs.Buffer.{keep_last}
use Rattle.mm_model.specs.{State.State, Image.Image, Run.{after, run}}
use Rattle.mm_machine.{specs.{Validity.IsValid, Snapshot.restored}, proofs.{Keeping.valid_core, Returning.put_back}}
use Rattle.mm_debug.specs.declared.command.Command.{Command, TheVariants.Step}
use Rattle.mm_debug.specs.Session.{Session, total_of, next_item, issued, then_stepped, stepped, answer}
use Rattle.mm_debug.specs.{Standing.{Point, CanGo, IsPointOf, StandsFor, gone, total_at}, Laws.StepsUpTo}
use Rattle.mm_debug.proofs.{AnswersKeep.{Keeps, answer_keeps, stepped_keeps}, AnyRuns.run_goes_on, Going.answer_goes}
use Rattle.mm_debug.proofs.{Standing.stepped_stands, StepCounts.steps_issue, Stepping.{stepped_ends, stepped_none}}
use Rattle.mm_save.specs.{Recorder.{bare, began_at, with_state}, Recorded.{IsOnTheWay, Remembers}}

-- 1. Cycles.

-- breaks and watches play no part in them
pub stepped_bare : (s : Session) (count : ℕ) → stepped (bare s) count ≡ bare (stepped s count)
unfolding stepped next_item
stepped_bare s zero = refl
stepped_bare s (suc count) = by (next_item s) (λ item. stepped_bare (issued s item) count)
  where
    by : (o : Option ℕ) → ((item : ℕ) → stepped (bare (issued s item)) count ≡ bare (stepped (issued s item) count))
        → then_stepped (bare s) o (λ item. stepped (issued (bare s) item) count) ≡ bare (then_stepped s o (λ item. stepped (issued s item) count))
    by None later = refl
    by (Some item) later = later item

-- so many and then so many more are all of them
pub stepped_adds : (s : Session) (first more : ℕ) → stepped s (first + more) ≡ stepped (stepped s first) more
unfolding stepped
stepped_adds s zero more = let none : 0 + more ≡ more = omega arith in ap (stepped s) none
stepped_adds s (suc first) more =
    let one : suc first + more ≡ suc (first + more) = omega arith in ap (stepped s) one ∙ by (next_item s) refl (λ item. stepped_adds (issued s item) first more)
  where
    by : (o : Option ℕ) → next_item s ≡ o → ((item : ℕ) → stepped (issued s item) (first + more) ≡ stepped (stepped (issued s item) first) more)
        → then_stepped s o (λ item. stepped (issued s item) (first + more)) ≡ stepped (then_stepped s o (λ item. stepped (issued s item) first)) more
    by None ends later = sym (stepped_ends s more ends)
    by (Some item) next later = later item

one_cycle : (s : Session) (item : ℕ) → next_item s ≡ Some item → stepped s 1 ≡ issued s item
unfolding stepped
one_cycle s item next = ap (λ (o : Option ℕ). then_stepped s o (λ n. issued s n)) next

-- 2. Sessions on the way of another one.

-- as many cycles lead there from the first one as its total says
abbrev pub IsOn : (first s : Session) → Type 0
IsOn first s = stepped (bare first) (total_of s) ≡ bare s

each_on : (first : Session) → Keeps (IsOn first)
unfolding after
each_on first = record {
  issues = λ s item next on.
      stepped_adds (bare first) (total_of s) 1 ∙ ap (λ t. stepped t 1) on ∙ stepped_bare s 1 ∙ ap bare (one_cycle s item next);
  breaks = λ s entries on. on;
  watches = λ s words on. on;
}

-- order, breaks and watches stay
pub stepped_own : (s : Session) (count : ℕ) → stepped s count ≡ with_state s (stepped s count)
unfolding stepped
stepped_own s zero = refl
stepped_own s (suc count) = by (next_item s) (λ item. stepped_own (issued s item) count)
  where
    by : (o : Option ℕ) → ((item : ℕ) → stepped (issued s item) count ≡ with_state (issued s item) (stepped (issued s item) count))
        → then_stepped s o (λ item. stepped (issued s item) count) ≡ with_state s (then_stepped s o (λ item. stepped (issued s item) count))
    by None later = refl
    by (Some item) later = later item

-- 3. What stays the same of the machine, and so of the session with which it began.

record IsLike (s t : Session) : Type 0 where
  order : t.order ≡ s.order
  version : t.state.core.version ≡ s.state.core.version
  split : t.state.core.split ≡ s.state.core.split
  frames : t.state.memory.frames ≡ s.state.memory.frames

each_like : (s : Session) → Keeps (IsLike s)
unfolding run
each_like s = record {
  issues = λ t item next like.
      let one = run_goes_on t.state (item ∷ []) in
      record { order = like.order; version = one.core.version ∙ like.version; split = one.core.split ∙ like.split; frames = one.frames ∙ like.frames };
  breaks = λ t entries like. record { order = like.order; version = like.version; split = like.split; frames = like.frames };
  watches = λ t words like. record { order = like.order; version = like.version; split = like.split; frames = like.frames };
}

like_itself : (s : Session) → IsLike s s
like_itself s = record { order = refl; version = refl; split = refl; frames = refl }

began_like : (s t : Session) (p : Point) → IsLike s t → began_at t p ≡ began_at s p
began_like s t p like = rw (like.order, like.version, like.split, like.frames) refl

-- 4. A recorder after an answer of its session.

-- a point on the way of another session that began so
on_way_too : (s t : Session) (start p : Point) → IsLike s t → ((q : Point) → CanGo s q → CanGo t q) → IsOnTheWay (began_at s start) s p → IsOnTheWay (began_at t start) t p
on_way_too s t start p like goes on = record {
  fits = goes p on.fits;
  there = ap (λ first. stepped first (total_at p)) (began_like s t start like) ∙ on.there ∙ sym (began_like s t p like);
}

-- and of another session on its way
remembers_like : (s t : Session) (start : Point) (ring : List Point) → IsLike s t → IsOn (began_at s start) t → ((p : Point) → CanGo s p → CanGo t p) → Remembers s start ring → Remembers t start ring
remembers_like s t start ring like on goes r = record {
  begins = r.begins;
  fits = goes start r.fits;
  here = ap (λ first. stepped first (total_of t)) (began_like s t start like) ∙ on;
  kept = λ k d lt. on_way_too s t start (get_or ring k d) like goes (r.kept k d lt);
}

module _ (s : Session) (c : Command) (start : Point) where
  pub answer_first : began_at (answer s c).session start ≡ began_at s start
  answer_first = began_like s (answer s c).session start (answer_keeps (IsLike s) (each_like s) s c (like_itself s))

  pub answer_remembers : (ring : List Point) → ∥ IsValid s.state ∥₁ → Remembers s start ring → Remembers (answer s c).session start ring
  answer_remembers ring kept r =
      remembers_like s (answer s c).session start ring (answer_keeps (IsLike s) (each_like s) s c (like_itself s))
      (answer_keeps (IsOn (began_at s start)) (each_on (began_at s start)) s c r.here) (λ p can. answer_goes s c p kept can) r

-- 5. A recorder that goes back.

-- the start is on the way
pub start_on_way : (s : Session) (start : Point) (ring : List Point) → Remembers s start ring → IsOnTheWay (began_at s start) s start
start_on_way s start ring r = record { fits = r.fits; there = stepped_none (began_at s start) (total_at start) r.begins }

module _ (s : Session) (start : Point) (ring : List Point) (r : Remembers s start ring) where
  abbrev first : Session
  first = began_at s start

  -- so many cycles are issued, where the session's total is as many
  reaches : (target : ℕ) → target ≤ total_of s → total_of (stepped first target) ≡ target
  reaches target few =
      let u : StepsUpTo first target = steps_issue first target in
      let most = u.most in
      let total = u.total in
      let begins : total_of first ≡ 0 = r.begins in
      elim (cases_lt u.issued target) [
        | inl lt ↦
            let ends : stepped (stepped first target) (total_of s - target) ≡ stepped first target = stepped_ends (stepped first target) (total_of s - target) (u.ended lt) in
            let all : target + (total_of s - target) ≡ total_of s = omega (arith, few) in
            let is : stepped first target ≡ bare s = sym (sym (ap (stepped first) all) ∙ stepped_adds first target (total_of s - target) ∙ ends) ∙ r.here in
            let same : total_of (stepped first target) ≡ total_of s = ap total_of is in
            absurd (omega (arith, lt, few, same, total, begins))
        | inr ge ↦ omega (arith, ge, most, total, begins)
      ]

  module _ (q : Point) (on : IsOnTheWay first s q) (target : ℕ) (later : total_at q ≤ target) (few : target ≤ total_of s) where
    abbrev there : Session
    there = stepped (gone s q) (target - total_at q)

    bare_there : bare there ≡ stepped first target
    bare_there =
        let all : total_at q + (target - total_at q) ≡ target = omega (arith, later) in
        sym (stepped_bare (gone s q) (target - total_at q))
        ∙ ap (λ t. stepped t (target - total_at q)) (sym on.there)
        ∙ sym (stepped_adds first (total_at q) (target - total_at q))
        ∙ ap (stepped first) all

    pub went_back : there ≡ with_state s (stepped first target)
    went_back = stepped_own (gone s q) (target - total_at q) ∙ ap (with_state s) bare_there

    pub back_total : total_of there ≡ target
    back_total = ap total_of bare_there ∙ reaches target few

    there_like : IsLike s there
    there_like = stepped_keeps (IsLike s) (each_like s) (gone s q) (target - total_at q) (record { order = refl; version = refl; split = refl; frames = refl })

    pub back_first : began_at there start ≡ began_at s start
    back_first = began_like s there start there_like

    pub back_remembers : ∥ IsValid (gone s q).state ∥₁ → ((p : Point) → CanGo s p → CanGo (gone s q) p) → Remembers there start ring
    unfolding answer
    back_remembers kept goes =
        remembers_like s there start ring there_like (ap (stepped first) back_total ∙ sym bare_there)
        (λ p can. answer_goes (gone s q) (Step (target - total_at q)) p kept (goes p can)) r

  -- it stands for an image for which it stood, where its first session does
  pub back_stands : (i : Image) (target : ℕ) → target ≤ total_of s → StandsFor i first → StandsFor i (with_state s (stepped first target))
  back_stands i target few stands =
      let later = stepped_stands i first target stands in
      let order : (stepped first target).order ≡ s.order = ap (λ (t : Session). t.order) (stepped_own first target) in
      record { state = rw order at later.state; place = rw order at later.place }

-- 6. A recorder that keeps a state.

-- a point of a session is where the session is
pub point_here : (s : Session) (q : Point) → ∥ IsValid s.state ∥₁ → IsPointOf s q → began_at s q ≡ bare s
point_here s q kept is =
    let back : restored s.state q.snapshot ≡ s.state =
    put_back s.state s.state q.snapshot (restored s.state q.snapshot) refl (record { version = refl; split = refl; frames = refl; core = ∥∥₁_map kept (λ k. valid_core s.state k) }) is.state in
    ap (λ (state : State). bare (record s { last = q.last; state = state })) back ∙ ap (λ (last : Option ℕ). bare (record s { last = last })) is.last

pub keeps_point : (s : Session) (start q : Point) (ring : List Point) (size : ℕ) → ∥ IsValid s.state ∥₁ → IsPointOf s q → CanGo s q → Remembers s start ring
    → Remembers s start (keep_last size (ring ++ q ∷ []))
keeps_point s start q ring size kept is can r =
    let P : Point → Type 0 = IsOnTheWay (began_at s start) s in
    let one : P q = record { fits = can; there = ap (stepped (began_at s start)) is.state.cycles ∙ r.here ∙ sym (point_here s q kept is) } in
    record {
      begins = r.begins;
      fits = r.fits;
      here = r.here;
      kept = All-drop P (length (ring ++ q ∷ []) - size) (ring ++ q ∷ []) (All-append P ring (q ∷ []) r.kept (All-cons P q [] one (All-nil P)));
    }

-- 7. A recorder that begins.

pub begins_with : (s : Session) (p : Point) → ∥ IsValid s.state ∥₁ → IsPointOf s p → CanGo s p → total_of s ≡ 0 → Remembers s p []
begins_with s p kept is can none = record {
  begins = is.state.cycles ∙ none;
  fits = can;
  here = stepped_none (began_at s p) (total_of s) none ∙ point_here s p kept is;
  kept = All-nil (IsOnTheWay (began_at s p) s);
}
