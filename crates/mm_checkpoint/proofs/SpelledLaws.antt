-- Bytes have no fault exactly if they are a checkpoint of an image, and they are one at most.
use Rattle.std.{proofs.Common.{◌≡◌, ℕ, List, None, refl, sym, ap, ◌∙◌, Option, Some}, specs.Option.option_map}
use Rattle.mm_model.specs.{Image.Image, Bytes.IsBytes, Spelling.IsImage}
use Rattle.mm_format.specs.{Formats.{Parsed, fault_in, Parsed.Got}, Reading.Fails, declared.reader.ReadError.ReadError}
use Rattle.mm_format.proofs.Files.{same_value, clean_got, read_fails}
use Rattle.mm_checkpoint.specs.{Checkpoints.Saved, Faults.{said_of, save_fault}, Laws.{SomeSaved, CheckpointsAreOne}}
use Rattle.mm_checkpoint.specs.{declared.fault.SaveError.TheVariants.{Fault, NoMemory}, Answers.FailsAt}
use Rattle.mm_checkpoint.specs.Steps.{from_read_error}
use Rattle.mm_checkpoint.proofs.{FormatWhole.{are_saved, spelled_said}, Made.{made_parts, made_saved}}
use Rattle.mm_image.specs.{declared.fault.ImageFault.ImageFault, Faults.number_of}
use Rattle.mm_format.specs.declared.reader.ReadError.TheVariants as reading

abbrev place_of : Parsed Saved → Option ℕ
place_of said = option_map (λ (fault : ℕ × ℕ). fault.1) (fault_in said)

pub no_fault : (i : Image) (bytes : List ℕ) → IsImage i → SomeSaved i bytes → save_fault i bytes ≡ None
no_fault i bytes image some =
    ap place_of (spelled_said i bytes image some.parts some.last some.saves)

pub are_one : CheckpointsAreOne
are_one i bytes p q last also image saves saves_also =
    same_value (sym (spelled_said i bytes image p last saves) ∙ spelled_said i bytes image q also saves_also)

pub some_saved : (i : Image) (bytes : List ℕ) → IsImage i → IsBytes bytes → save_fault i bytes ≡ None → SomeSaved i bytes
some_saved i bytes image fits e =
    let r = clean_got (said_of i bytes) (none (fault_in (said_of i bytes)) e) in
    record {
      parts = made_parts r.0;
      last = r.0.last;
      saves = are_saved i bytes image fits (made_parts r.0) r.0.last r.1
          (r.2 ∙ ap (λ (c : Saved). Got c r.1) (sym (made_saved r.0)));
    }
  where
    none : (o : Option (ℕ × ℕ)) → option_map (λ (fault : ℕ × ℕ). fault.1) o ≡ None → o ≡ None
    none None e = refl
    none (Some fault) e = absurd cc

-- What the reader answers.

module _ (i : Image) (bytes : List ℕ) where
  -- an error is told of the first fault
  pub told_fault : (e : ReadError ImageFault) (offset : ℕ) → Fails number_of (said_of i bytes) e → from_read_error e ≡ Fault offset
      → save_fault i bytes ≡ Some offset
  told_fault (reading.Fault kind at) offset h e = let same : at ≡ offset = cc in ap place_of h ∙ ap Some same
  told_fault reading.NoMemory offset h e = absurd cc

  pub told_first : (e : ReadError ImageFault) (offset : ℕ) → Fails number_of (said_of i bytes) e
      → save_fault i bytes ≡ Some offset → FailsAt offset (from_read_error e)
  told_first (reading.Fault kind at) offset h some =
      let there : Some at ≡ Some offset = sym (ap place_of h) ∙ some in cc
  told_first reading.NoMemory offset h some = tt

  -- if there is none it is want of memory
  pub told_memory : (e : ReadError ImageFault) (s : Saved) (next : ℕ) → said_of i bytes ≡ Got s next
      → Fails number_of (said_of i bytes) e → from_read_error e ≡ NoMemory
  told_memory e s next said h = ap from_read_error (read_fails number_of _ e h s next said)
