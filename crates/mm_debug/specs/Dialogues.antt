-- Lines that are carried out one after the other, by any handler.
use Rattle.std.specs.Prelude.{◌≡◌, ℕ, List, [], ◌∷◌, ◌++◌, Option}
use Rattle.mm_text.specs.Appends.{Buffered, Appends}
use Rattle.mm_debug.specs.{declared.session.Go.{Go, TheVariants.{More, Quit}}, Session.{Session, Answer}}

-- A text was gathered, and a property holds of it.
pub record AppendsSome {S : Type 0} (taken : S → Option (List ℕ)) (faults : S → ℕ) (old_out new_out : S)
    (old new : Buffered)
    (Holds : List ℕ → Type 0) : Type 0 where
  pub text : List ℕ
  pub appends : Appends taken faults old_out new_out old new text
  pub holds : Holds text

-- A reply, a session, and whether another line may follow, are those of an answer.
pub record IsAnswer (a : Answer) (said : List ℕ) (s : Session) (next : Go) : Type 0 where
  pub reply : said ≡ a.reply
  pub session : s ≡ a.session
  pub go : next ≡ a.go

-- Lines were carried out in order, up to the last or a `quit`: the handler was `old` and is `new`, and the text was
-- replied. `Answers d line reply e go` says that a line led from `d` to `e` with a reply, and whether another line may
-- follow.
pub data Carried {D : Type 0} (Answers : D → List ℕ → List ℕ → D → Go → Type 0) : (old : D) → List (List ℕ)
    → (text : List ℕ) → (new : D) → Type 0 where
  all : {d : D} → Carried Answers d [] [] d
  quit : {d e : D} {line reply : List ℕ} {lines : List (List ℕ)} → Answers d line reply e Quit
      → Carried Answers d (line ∷ lines) reply e
  more : {d e f : D} {line reply text : List ℕ} {lines : List (List ℕ)}
      → Answers d line reply e More → Carried Answers e lines text f
      → Carried Answers d (line ∷ lines) (reply ++ text) f
