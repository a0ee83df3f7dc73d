-- A session that goes back goes on standing for an image, whatever it answers.
use Rattle.std.proofs.Common.{◌≡◌, ℕ, ◌-◌, ◌≤◌, List, [], ◌∷◌, Option, Some, None, refl, sym, ap, subst, ◌∙◌}
use Rattle.std.specs.Prelude.{min}
use Rattle.mm_model.specs.{Image.{Image, start}, Run.run}
use Rattle.mm_sched.specs.declared.schedule.Order.{Order}
use Rattle.mm_debug.specs.{declared.command.Command.Command, Commands.command_of}
use Rattle.mm_debug.specs.Session.{Session, total_of, begun, stepped, answer}
use Rattle.mm_debug.specs.Standing.{Point, StandsFor, IsPointOf, GoesOnAfter, run_items, gone, total_at}
use Rattle.mm_debug.proofs.{Dialogues.keeps, LinesStand.answer_order}
use Rattle.mm_debug.proofs.Standing.{begun_stands, answer_stands, stepped_stands}
use Rattle.mm_machine.specs.Validity.{IsValid}
use Rattle.mm_save.specs.Recorder.{Recalls, back_of, bare, began_at, with_state, gone_back, answer_back, recalled}
use Rattle.mm_save.specs.{Recorder.recollection, Recorded.{IsOnTheWay, Remembers, recording_by}}
use Rattle.mm_save.specs.Laws.{IsInRun, GoingBackChangesNoRun, after_lines}
use Rattle.mm_save.proofs.Recalled.{stepped_own, answer_first, back_first, back_stands, point_here, went_back}

-- breaks and watches are no part of it
pub bare_stands : (i : Image) (s : Session) → StandsFor i s → StandsFor i (bare s)
bare_stands i s stands = record { state = stands.state; place = stands.place }

pub stepped_order : (s : Session) (count : ℕ) → (stepped s count).order ≡ s.order
stepped_order s count = ap (λ (t : Session). t.order) (stepped_own s count)

-- the session has the order of the one with which it began, and stands for the image
pub record Goes (i : Image) (first s : Session) : Type 0 where
  pub order : s.order ≡ first.order
  pub stands : StandsFor i s

-- a session with the state of one that stands for the image under the same order
there_stands : (i : Image) (s there : Session) → there.order ≡ s.order → StandsFor i there → StandsFor i (with_state s there)
there_stands i s there same stands = record {
  state = subst (λ (o : Order). there.state ≡ run (start i) (run_items i o (total_of there))) same stands.state;
  place = subst (λ (o : Order). GoesOnAfter o there.last (run_items i o (total_of there))) same stands.place;
}

module _ (i : Image) (first : Session) (begins : StandsFor i first) where
  pub back_goes : (s : Session) (count : ℕ) → Goes i first s → Goes i first (gone_back first s count)
  back_goes s count now =
      let there : Session = stepped first (total_of s - count) in
      record {
        order = now.order;
        stands = there_stands i s there (stepped_order first (total_of s - count) ∙ sym now.order) (stepped_stands i first (total_of s - count) begins);
      }

  answered : (s : Session) (line : List ℕ) (asked : Option ℕ) → Goes i first s → Goes i first (answer_back first s line asked).session
  answered s line None now = record { order = answer_order s (command_of line) ∙ now.order; stands = answer_stands i s (command_of line) now.stands }
  answered s line (Some n) now = back_goes s (min n (total_of s)) now

  pub recalled_goes : (s : Session) (line : List ℕ) → Goes i first s → Goes i first (recalled first s line).session
  unfolding recalled
  recalled_goes s line now = answered s line (back_of line) now

  pub recollection_goes : (s : Session) (lines : List (List ℕ)) → Goes i first s → Goes i first (recollection first s lines).session
  recollection_goes = keeps (recalled first) (Goes i first) recalled_goes

  -- also after a `quit`
  pub lines_go : (s : Session) (lines : List (List ℕ)) → Goes i first s → Goes i first (after_lines first s lines)
  lines_go s [] now = now
  lines_go s (line ∷ lines) now = lines_go (recalled first s line).session lines (recalled_goes s line now)

in_run : (i : Image) (first s : Session) → Goes i first s → IsInRun i first.order s
in_run i first s goes = goes.stands.state ∙ ap (λ (o : Order). run (start i) (run_items i o (total_of s))) goes.order

pub going_back_changes_no_run : GoingBackChangesNoRun
going_back_changes_no_run i order lines =
    let first : Session = begun order (start i) in
    let stands = begun_stands i order in
    let begins : Goes i first first = record { order = refl; stands = stands } in (
      in_run i first (recollection first first lines).session (recollection_goes i first stands first lines begins),
      in_run i first (after_lines first first lines) (lines_go i first stands first lines begins),
    )

-- a recorder after an answer of its session
pub answer_recalls : (i : Image) (s : Session) (c : Command) (start : Point) (ring now : List Point) → Recalls i (recording_by s start ring) → Recalls i (recording_by (answer s c).session start now)
answer_recalls i s c start ring now recalls = record {
  order = refl;
  session = answer_stands i s c recalls.session;
  first = subst (StandsFor i) (sym (answer_first s c start)) recalls.first;
}

-- and one that went back
pub back_recalls : (i : Image) (s : Session) (start : Point) (ring now : List Point) (r : Remembers s start ring) (q : Point)
    (on : IsOnTheWay (began_at s start) s q) (target : ℕ) (later : total_at q ≤ target) (few : target ≤ total_of s)
    → Recalls i (recording_by s start ring) → Recalls i (recording_by (stepped (gone s q) (target - total_at q)) start now)
back_recalls i s start ring now r q on target later few recalls = record {
  order = refl;
  session = subst (StandsFor i) (sym (went_back s start ring r q on target later few)) (back_stands s start ring r i target few recalls.first);
  first = subst (StandsFor i) (sym (back_first s start ring r q on target later few)) recalls.first;
}

-- a recorder that begins
pub begins_recalls : (i : Image) (s : Session) (p : Point) (ring : List Point) → ∥ IsValid s.state ∥₁ → IsPointOf s p → StandsFor i s → Recalls i (recording_by s p ring)
begins_recalls i s p ring kept is stands = record { order = refl; session = stands; first = subst (StandsFor i) (sym (point_here s p kept is)) (bare_stands i s stands) }
