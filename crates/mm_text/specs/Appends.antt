-- What gathering a text leaves in a sink and in the text buffer.
use Rattle.std.specs.Prelude.{◌≡◌, ℕ, ◌≤◌, Bool, true, false, List, [], ◌++◌, Option, Result, IsErr}
use Rattle.std.specs.Io.KnownBytes.{append_known}
use Rattle.mm_io.specs.{Files.Rose, Sinks.{TookPart, Writes}}

-- a text buffer: the bytes that are kept, and whether a write has failed
pub record Buffered : Type 0 where
  pub kept : List ℕ
  pub failed : Bool

abbrev pub nothing : Buffered
nothing = record { kept = []; failed = false }

-- A prefix of a text was handed over, and the rest is kept.
pub record HandsOver (old new : Option (List ℕ)) (text kept : List ℕ) : Type 0 where
  pub part : List ℕ
  pub splits : text ≡ part ++ kept
  pub took : new ≡ append_known old part

-- A write failed: the sink took a prefix of the text, and its count rose or is at its last value.
pub record Breaks {S : Type 0} (taken : S → Option (List ℕ)) (faults : S → ℕ) (old new : S)
    (text : List ℕ) : Type 0 where
  pub part : TookPart (taken old) (taken new) text
  pub failed : Rose (faults old) (faults new)

-- what became of a text, by whether a write had failed before and has failed now
abbrev pub Became : {S : Type 0} → (S → Option (List ℕ)) → (S → ℕ) → S → S → Bool → Bool → List ℕ → List ℕ → Type 0
Became taken faults old new false false text kept = HandsOver (taken old) (taken new) text kept
Became taken faults old new false true text kept = Breaks taken faults old new text
Became taken faults old new true true text kept = taken new ≡ taken old
Became taken faults old new true false text kept = ⊥

-- A text was gathered after what was kept before, unless a write had failed.
pub record Appends {S : Type 0} (taken : S → Option (List ℕ)) (faults : S → ℕ) (old_out new_out : S)
    (old new : Buffered) (text : List ℕ) : Type 0 where
  pub later : faults old_out ≤ faults new_out
  pub became : Became taken faults old_out new_out old.failed new.failed (old.kept ++ text) new.kept

-- What finishing leaves: the kept text is written, unless a write had failed.
abbrev pub Finished : {S T E : Type 0} → (S → Option (List ℕ)) → (S → ℕ) → S → S → Bool → List ℕ → Result T E → Type 0
Finished taken faults old new false kept result = Writes taken faults old new kept result
Finished taken faults old new true kept result = (taken new ≡ taken old) × IsErr result

pub record Finishes {S T E : Type 0} (taken : S → Option (List ℕ)) (faults : S → ℕ) (old_out new_out : S)
    (old : Buffered) (result : Result T E) : Type 0 where
  pub later : faults old_out ≤ faults new_out
  pub finished : Finished taken faults old_out new_out old.failed old.kept result
