-- Lines that are answered one after the other.
use Rattle.std.proofs.Common.{◌≡◌, ℕ, Bool, true, false, List, [], ◌∷◌, ◌++◌, Option, refl, sym, ap, ap₂, subst, ◌∙◌}
use Rattle.std.proofs.Common.{arith, append_assoc, append-nil}
use Rattle.mm_io.proofs.Known.{append_known-[]}
use Rattle.mm_text.specs.Appends.{Buffered, Appends, Became}
use Rattle.mm_debug.specs.declared.session.Go.{Go, TheVariants.{More, Quit}}
use Rattle.mm_debug.specs.Session.{Session, Answer, Dialogue, after_answer, dialogue_by}
use Rattle.mm_debug.specs.Dialogues.{IsAnswer, Carried, Carried.{all, quit, more}}

-- 1. Texts that are gathered.

-- what is gathered where there is no text
pub no_text : {S : Type 0} {taken : S → Option (List ℕ)} {faults : S → ℕ} {out : S} {text : Buffered} → Appends taken faults out out text text []
no_text {taken = taken} {faults = faults} {out = out} {text = text} = record { later = omega arith; became = by text.failed }
  where
    by : (failed : Bool) → Became taken faults out out failed failed (text.kept ++ []) text.kept
    by false = record { part = []; splits = append-nil text.kept; took = sym (append_known-[] (taken out)) }
    by true = refl

-- 2. Lines that are carried out.

-- whatever is replied to the lines that are left, `said` and it are replied to all lines
abbrev pub GoesOn : {D : Type 0} (Answers : D → List ℕ → List ℕ → D → Go → Type 0) (first : D) (lines : List (List ℕ)) (said : List ℕ) (here : D)
    (left : List (List ℕ)) → Type 0
GoesOn {D} Answers first lines said here left =
    (text : List ℕ) (last : D) → Carried Answers here left text last → Carried Answers first lines (said ++ text) last

module _ {D : Type 0} {Answers : D → List ℕ → List ℕ → D → Go → Type 0} where
  -- a line after which another may follow
  pub goes_on : {first : D} {lines : List (List ℕ)} (here there : D) (said reply : List ℕ) (next : Go) (left others : List (List ℕ)) (line : List ℕ)
      → left ≡ line ∷ others → GoesOn Answers first lines said here left → Answers here line reply there next → More ≡ next
      → GoesOn Answers first lines (said ++ reply) there others
  goes_on {first} {lines} here there said reply next left others line are so_far answer goes text last later =
      let answered : Answers here line reply there More = subst (Answers here line reply there) (sym goes) answer in
      let from_here : Carried Answers here left (reply ++ text) last =
      subst (λ (ls : List (List ℕ)). Carried Answers here ls (reply ++ text) last) (sym are) (more answered later) in
      subst (λ (xs : List ℕ). Carried Answers first lines xs last) (sym (append_assoc said reply text)) (so_far (reply ++ text) last from_here)

  -- a line that ends them
  pub ends_at : {first : D} {lines : List (List ℕ)} (here there : D) (said reply : List ℕ) (next : Go) (left others : List (List ℕ)) (line : List ℕ)
      → left ≡ line ∷ others → GoesOn Answers first lines said here left → Answers here line reply there next → Quit ≡ next
      → Carried Answers first lines (said ++ reply) there
  ends_at {first} {lines} here there said reply next left others line are so_far answer quits =
      let answered : Answers here line reply there Quit = subst (Answers here line reply there) (sym quits) answer in
      so_far reply there (subst (λ (ls : List (List ℕ)). Carried Answers here ls reply there) (sym are) (quit answered))

  -- no line is left
  pub ends : {first here : D} {lines : List (List ℕ)} {said : List ℕ} (left : List (List ℕ)) → left ≡ [] → GoesOn Answers first lines said here left
      → Carried Answers first lines said here
  ends {first} {here} {lines} {said} left none so_far =
      subst (λ (xs : List ℕ). Carried Answers first lines xs here) (append-nil said)
      (so_far [] here (subst (λ (ls : List (List ℕ)). Carried Answers here ls [] here) (sym none) all))

-- 3. Dialogues.

-- A dialogue's text, and the session in which it ended.
pub record IsDialogue (d : Dialogue) (said : List ℕ) (s : Session) : Type 0 where
  pub text : said ≡ d.text
  pub session : s ≡ d.session

quits : (a : Answer) (rest : Session → Dialogue) (reply : List ℕ) (s : Session) → IsAnswer a reply s Quit → IsDialogue (after_answer a a.go rest) reply s
quits a rest reply s is =
    let e : after_answer a Quit rest ≡ after_answer a a.go rest = ap (λ (g : Go). after_answer a g rest) is.go in
    record { text = is.reply ∙ ap (λ (d : Dialogue). d.text) e; session = is.session ∙ ap (λ (d : Dialogue). d.session) e }

follows : (a : Answer) (rest : Session → Dialogue) (reply text : List ℕ) (s t : Session) → IsAnswer a reply s More → IsDialogue (rest s) text t
    → IsDialogue (after_answer a a.go rest) (reply ++ text) t
follows a rest reply text s t is later =
    let e : after_answer a More rest ≡ after_answer a a.go rest = ap (λ (g : Go). after_answer a g rest) is.go in
    let there : rest s ≡ rest a.session = ap rest is.session in
    record {
      text = ap₂ (λ (xs ys : List ℕ). xs ++ ys) is.reply (later.text ∙ ap (λ (d : Dialogue). d.text) there) ∙ ap (λ (d : Dialogue). d.text) e;
      session = later.session ∙ ap (λ (d : Dialogue). d.session) there ∙ ap (λ (d : Dialogue). d.session) e;
    }

then_kept : (P : Session → Type 0) (a : Answer) (next : Go) (rest : Session → Dialogue) → P a.session → P (rest a.session).session → P (after_answer a next rest).session
then_kept P a Quit rest h later = h
then_kept P a More rest h later = later

-- what each answer keeps, a dialogue keeps
pub keeps : (answers : Session → List ℕ → Answer) (P : Session → Type 0) → ((s : Session) (line : List ℕ) → P s → P (answers s line).session)
    → (s : Session) (lines : List (List ℕ)) → P s → P (dialogue_by answers s lines).session
unfolding dialogue_by
keeps answers P each s [] h = h
keeps answers P each s (line ∷ lines) h =
    let a = answers s line in
    then_kept P a a.go (λ t. dialogue_by answers t lines) (each s line h) (keeps answers P each a.session lines (each s line h))

-- Each line is answered so where something holds of what answers it, and it goes on to hold.
module _ {D : Type 0} {Answers : D → List ℕ → List ℕ → D → Go → Type 0} (shown : D → Session) (answers : Session → List ℕ → Answer) (Holds : D → Type 0)
    (each : (d e : D) (line reply : List ℕ) (next : Go) → Holds d → Answers d line reply e next → IsAnswer (answers (shown d) line) reply (shown e) next × Holds e) where
  -- what was replied to lines is their dialogue
  pub is_dialogue : {d e : D} {lines : List (List ℕ)} {text : List ℕ} → Holds d → Carried Answers d lines text e → IsDialogue (dialogue_by answers (shown d) lines) text (shown e)
  unfolding dialogue_by
  is_dialogue holds all = record { text = refl; session = refl }
  is_dialogue {d = d} {e = e} {lines = line ∷ lines} {text = text} holds (quit answer) =
      quits (answers (shown d) line) (λ t. dialogue_by answers t lines) text (shown e) (each d e line text Quit holds answer).0
  is_dialogue {d = d} {e = f} {lines = line ∷ lines} holds (more {e = e} {reply = reply} {text = text} answer later) =
      let now = each d e line reply More holds answer in
      follows (answers (shown d) line) (λ t. dialogue_by answers t lines) reply text (shown e) (shown f) now.0 (is_dialogue now.1 later)
