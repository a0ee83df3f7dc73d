-- What lines lead to that a recorder carries out one after the other.
use Rattle.std.proofs.Common.{◌≡◌, ℕ, List, [], ◌∷◌, refl, sym, ap, ◌∙◌, subst}
use Rattle.mm_mem.specs.declared.memory.Memory.{Ghosts}
use Rattle.mm_model.specs.Image.{Image}
use Rattle.mm_debug.specs.{declared.session.Go.{Go, TheVariants.{More, Quit}}, Session.{Session, total_of}}
use Rattle.mm_debug.specs.Dialogues.{IsAnswer, Carried, Carried.{all, quit, more}}
use Rattle.mm_debug.proofs.Dialogues.{IsDialogue, is_dialogue}
use Rattle.mm_save.specs.declared.recorder.Recorder.{Recorder}
use Rattle.mm_save.specs.Recorder.{Recording, Recalls, recalled, recollection, AreKept, totals_after, totals_before}
use Rattle.mm_save.specs.{Recorder.Handled, Shown.recording_of}

-- the same answer, of a session that began as another did
began_so : (r : Recording) (first : Session) (line reply : List ℕ) (s : Session) (next : Go) → r.first ≡ first
    → IsAnswer (recalled r.first r.session line) reply s next → IsAnswer (recalled first r.session line) reply s next
began_so r first line reply s next same answer = subst (λ (f : Session). IsAnswer (recalled f r.session line) reply s next) same answer

-- the totals before lines of which the first is a `quit`, or is none
module _ (first s : Session) (line reply : List ℕ) (lines : List (List ℕ)) (t : Session) where
  quits : IsAnswer (recalled first s line) reply t Quit → totals_before first s (line ∷ lines) ≡ total_of s ∷ []
  unfolding totals_before
  quits answer = ap (λ (g : Go). total_of s ∷ totals_after g (totals_before first (recalled first s line).session lines)) (sym answer.go)

  goes : IsAnswer (recalled first s line) reply t More → totals_before first s (line ∷ lines) ≡ total_of s ∷ totals_before first t lines
  unfolding totals_before
  goes answer =
      ap (λ (g : Go). total_of s ∷ totals_after g (totals_before first (recalled first s line).session lines)) (sym answer.go)
      ∙ ap (λ (u : Session). total_of s ∷ totals_before first u lines) (sym answer.session)

module _ {M : Type 0} {memory : Ghosts M} where
  abbrev pub Leads : Recorder M memory → List ℕ → List ℕ → Recorder M memory → Go → Type 0
  Leads old line reply new next = Handled (recording_of old) line reply (recording_of new) next

  pub replies_are : {old new : Recorder M memory} {lines : List (List ℕ)} {text : List ℕ} → Carried Leads old lines text new
      → IsDialogue (recollection (recording_of old).first (recording_of old).session lines) text (recording_of new).session
  replies_are {old} carried =
      let first : Session = (recording_of old).first in
      is_dialogue (λ (r : Recorder M memory). (recording_of r).session) (recalled first) (λ (r : Recorder M memory). (recording_of r).first ≡ first)
      (λ r t line reply next same handled. (began_so (recording_of r) first line reply (recording_of t).session next same handled.answer, handled.first ∙ same))
      refl carried

  pub first_stays : {old new : Recorder M memory} {lines : List (List ℕ)} {text : List ℕ} → Carried Leads old lines text new
      → (recording_of new).first ≡ (recording_of old).first
  first_stays all = refl
  first_stays (quit handled) = handled.first
  first_stays (more handled later) = first_stays later ∙ handled.first

  pub stands_still : {old new : Recorder M memory} {lines : List (List ℕ)} {text : List ℕ} (i : Image) → Carried Leads old lines text new
      → Recalls i (recording_of old) → Recalls i (recording_of new)
  stands_still i all recalls = recalls
  stands_still i (quit handled) recalls = handled.stands i recalls
  stands_still i (more handled later) recalls = stands_still i later (handled.stands i recalls)

  kept_from : {old new : Recorder M memory} {lines : List (List ℕ)} {text : List ℕ} (first : Session) → (recording_of old).first ≡ first
      → Carried Leads old lines text new
      → AreKept (recording_of old).kept (totals_before first (recording_of old).session lines) (recording_of new).kept
  unfolding totals_before
  kept_from first same all = refl
  kept_from {old = old} {new = new} {lines = line ∷ lines} {text = text} first same (quit handled) =
      let was = recording_of old in
      let now = recording_of new in
      let answer = began_so was first line text now.session Quit same handled.answer in
      subst (λ (xs : List ℕ). AreKept was.kept xs now.kept) (sym (quits first was.session line text lines now.session answer)) (now.kept, handled.kept, refl)
  kept_from {old = old} {new = new} {lines = line ∷ lines} first same (more {e = between} {reply = reply} handled later) =
      let was = recording_of old in
      let there = recording_of between in
      let answer = began_so was first line reply there.session More same handled.answer in
      subst (λ (xs : List ℕ). AreKept was.kept xs (recording_of new).kept) (sym (goes first was.session line reply lines there.session answer))
      (there.kept, handled.kept, kept_from first (handled.first ∙ same) later)

  pub kept_are : {old new : Recorder M memory} {lines : List (List ℕ)} {text : List ℕ} → Carried Leads old lines text new
      → AreKept (recording_of old).kept (totals_before (recording_of old).first (recording_of old).session lines) (recording_of new).kept
  kept_are {old} carried = kept_from (recording_of old).first refl carried
