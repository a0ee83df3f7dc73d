-- What the code of a recorder does to a line.
use Rattle.std.proofs.Common.{◌≡◌, ℕ, ◌-◌, ◌≤◌, true, List, Option, Some, None, refl, sym, ap, ap₂, subst, ◌∙◌, arith}
use Rattle.std.proofs.lemmas.{Bool.Decides.nat_tests, Option.{slice_get_within, get_or_from_slice_get}}
use Rattle.std.specs.{Prelude.{min, slice_get, IsSomeAnd}, Int.abs_diff}
use Rattle.mm_model.specs.Image.{Image}
use Rattle.mm_machine.specs.Validity.{IsValid}
use Rattle.mm_debug.specs.{declared.session.Go.TheVariants.More, Commands.command_of}
use Rattle.mm_debug.specs.Session.{Session, total_of, stepped, Answer, answer_to}
use Rattle.mm_debug.specs.Standing.{Point, CanGo, StandsFor, gone, total_at}
use Rattle.mm_save.specs.Recorder.{Recalls, is_far, began_at, back_of, back_text, answer_back, gone_back, recalled}
use Rattle.mm_save.specs.Recorded.{IsOnTheWay, Remembers, recording_by}
use Rattle.mm_save.proofs.Recalled.{answer_first, back_first, back_remembers, back_total, start_on_way, went_back}
use Rattle.mm_save.proofs.RecalledStands.{answer_recalls, back_recalls}

-- 1. Going back.

-- a state of the ring, by its place
pub on_way_at : (s : Session) (start : Point) (ring : List Point) → Remembers s start ring → (at : ℕ) (q : Point) → slice_get ring at ≡ Some q → IsOnTheWay (began_at s start) s q
on_way_at s start ring r at q is =
    subst (IsOnTheWay (began_at s start) s) (get_or_from_slice_get ring at q q is) (r.kept at q (slice_get_within ring at q is))

pub early_at : (ring : List Point) (at total : ℕ) (q : Point) → slice_get ring at ≡ Some q → IsSomeAnd (slice_get ring at) (λ p. total_at p ≤ total) → total_at q ≤ total
early_at ring at total q is early = subst (λ (o : Option Point). IsSomeAnd o (λ p. total_at p ≤ total)) is early

-- a recorder that went back by so many cycles
pub record WentBack (s : Session) (start : Point) (ring : List Point) (count : ℕ) (t : Session) : Type 0 where
  pub remembers : Remembers t start ring
  pub session : t ≡ gone_back (began_at s start) s count
  pub total : total_of t ≡ total_of s - count
  pub first : began_at t start ≡ began_at s start
  pub stands : (i : Image) (now : List Point) → Recalls i (recording_by s start ring) → Recalls i (recording_by t start now)

-- it went to a point on the way, and issued the rest
pub went : (s : Session) (start q : Point) (ring : List Point) (count n : ℕ) (g t : Session) → Remembers s start ring → IsOnTheWay (began_at s start) s q → total_at q ≤ total_of s - count
    → g ≡ gone s q → t ≡ stepped g n → n ≡ total_of s - count - total_at q → ∥ IsValid g.state ∥₁ → ((p : Point) → CanGo s p → CanGo g p) → WentBack s start ring count t
went s start q ring count n g t r on later is steps many kept goes =
    let target : ℕ = total_of s - count in
    let few : target ≤ total_of s = omega arith in
    let at : t ≡ stepped (gone s q) (target - total_at q) = steps ∙ ap (λ (h : Session). stepped h n) is ∙ ap (stepped (gone s q)) many in
    record {
      remembers = subst (λ (u : Session). Remembers u start ring) (sym at)
          (back_remembers s start ring r q on target later few (subst (λ (h : Session). ∥ IsValid h.state ∥₁) is kept) (λ p can. subst (λ (h : Session). CanGo h p) is (goes p can)));
      session = at ∙ went_back s start ring r q on target later few;
      total = ap total_of at ∙ back_total s start ring r q on target later few;
      first = ap (λ (u : Session). began_at u start) at ∙ back_first s start ring r q on target later few;
      stands = λ i now recalls. subst (λ (u : Session). Recalls i (recording_by u start now)) (sym at) (back_recalls i s start ring now r q on target later few recalls);
    }

-- it went to the start
pub went_home : (s : Session) (start : Point) (ring : List Point) (count n : ℕ) (g t : Session) → Remembers s start ring
    → g ≡ gone s start → t ≡ stepped g n → n ≡ total_of s - count - total_at start → ∥ IsValid g.state ∥₁ → ((p : Point) → CanGo s p → CanGo g p) → WentBack s start ring count t
went_home s start ring count n g t r is steps many kept goes =
    let begins = r.begins in
    went s start start ring count n g t r (start_on_way s start ring r) (omega (arith, begins)) is steps many kept goes

-- 2. Answers.

pub plain : (first s : Session) (line : List ℕ) → None ≡ back_of line → recalled first s line ≡ answer_to s line
unfolding recalled
plain first s line none = ap (answer_back first s line) (sym none)

backwards : (first s : Session) (line : List ℕ) (n : ℕ) → Some n ≡ back_of line → recalled first s line ≡ answer_back first s line (Some n)
unfolding recalled
backwards first s line n some = ap (answer_back first s line) (sym some)

-- a recorder that kept a state or none, so that its session and its start are as before
pub record StaysSo (s was : Session) (start : Point) (first : Session) : Type 0 where
  pub session : s ≡ was
  pub began : began_at s start ≡ first

-- the session answers a line that is no `back N`
module _ (s was : Session) (start : Point) (first : Session) (stays : StaysSo s was start first) (line : List ℕ) where
  pub plainly : None ≡ back_of line → answer_to s line ≡ recalled first was line
  plainly none = ap (λ (t : Session). answer_to t line) stays.session ∙ sym (plain first was line none)

  pub plain_first : (t : Session) → t ≡ (answer_to s line).session → began_at t start ≡ first
  plain_first t is = ap (λ (u : Session). began_at u start) is ∙ answer_first s (command_of line) start ∙ stays.began

  stood : (i : Image) (kept now : List Point) → StandsFor i was → StandsFor i first → Recalls i (recording_by s start now)
  stood i kept now stands begins = record { order = refl; session = subst (StandsFor i) (sym stays.session) stands; first = subst (StandsFor i) (sym stays.began) begins }

  pub plain_recalls : (i : Image) (t : Session) (ring : List Point) → t ≡ (answer_to s line).session → StandsFor i was → StandsFor i first → Recalls i (recording_by t start ring)
  plain_recalls i t ring is stands begins =
      subst (λ (u : Session). Recalls i (recording_by u start ring)) (sym is) (answer_recalls i s (command_of line) start ring ring (stood i ring ring stands begins))

  -- and a `back N` goes back
  module _ (n count : ℕ) (some : Some n ≡ back_of line) (least : count ≡ min n (total_of s)) where
    same_count : count ≡ min n (total_of was)
    same_count = least ∙ ap (λ (t : Session). min n (total_of t)) stays.session

    pub back_session : (t : Session) → t ≡ gone_back (began_at s start) s count → t ≡ (recalled first was line).session
    back_session t is =
        is ∙ ap₂ (λ (f u : Session). gone_back f u count) stays.began stays.session
        ∙ ap (gone_back first was) same_count
        ∙ ap (λ (a : Answer). a.session) (sym (backwards first was line n some))

    pub back_reply : (total : ℕ) → total ≡ total_of s - count → back_text count total ≡ (recalled first was line).reply
    back_reply total is =
        ap (back_text count) (is ∙ ap (λ (t : Session). total_of t - count) stays.session)
        ∙ ap (λ (many : ℕ). back_text many (total_of was - many)) same_count
        ∙ ap (λ (a : Answer). a.reply) (sym (backwards first was line n some))

    pub back_more : More ≡ (recalled first was line).go
    back_more = ap (λ (a : Answer). a.go) (sym (backwards first was line n some))

    -- the total is lowered by the least of N and the total
    pub back_lowers : (total : ℕ) → total ≡ total_of s - count → (m : ℕ) → back_of line ≡ Some m → total ≡ total_of was - min m (total_of was)
    back_lowers total is m asks =
        let same : n ≡ m = cc in
        is ∙ ap₂ (λ (a b : ℕ). a - b) (ap total_of stays.session) (same_count ∙ ap (λ (k : ℕ). min k (total_of was)) same)

-- 3. The ring.

-- it is due where the two differ so
pub far_apart : (a b : ℕ) → 1000 ≤ abs_diff a b → is_far a b ≡ true
far_apart a b apart = grind (arith, nat_tests)
