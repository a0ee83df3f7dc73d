-- The laws of objects' files, by their format.
use Rattle.std.proofs.Common.{◌≡◌, ℕ, ◌+◌, List, [], ◌++◌, length, None, refl, sym, ap, ◌∙◌, append_assoc, append-nil}
use Rattle.std.specs.List.{flat_map}
use Rattle.mm_model.specs.Bytes.{IsBytes}
use Rattle.mm_format.specs.Formats.{file, fault_in, Parsed.Got}
use Rattle.mm_format.specs.declared.reader.ReadError.{ReadError, TheVariants.{Fault, NoMemory}}
use Rattle.mm_format.specs.Reading.{fault_named_by}
use Rattle.mm_format.proofs.{Files.{spelled_by, read_whole, same_value, clean_got}, Lists.times_spell}
use Rattle.mm_object.specs.{declared.fault.ObjectFault.ObjectFault, Answers.{number_of, from_read_error}}
use Rattle.mm_object.specs.Faults.{fault_of, object_fault}
use Rattle.mm_object.specs.Format.{push, header_row, external_row, segment_row, count_row, good_reloc, reloc_row}
use Rattle.mm_object.specs.Format.{good_thread, thread_row, pointers_row, header_in, object, segment_record}
use Rattle.mm_object.specs.Format.{name_record, reloc_record, thread_record, spelling, Spells}
use Rattle.mm_object.specs.Objects.{Object, place_of}
use Rattle.mm_object.proofs.{FormatFits.{object_fits, fits_object}, FormatIs.object_is}

-- 1. The spelling.

all_glued : (h s x r t : List ℕ) → h ++ (s ++ ((x ++ (r ++ (t ++ []))) ++ [])) ≡ h ++ s ++ x ++ r ++ t
all_glued h s x r t = simp (append_assoc, append-nil)

-- the header, and the records one after the other
pub object_spelled : (o : Object) → spelling o ≡ header_row.spell (header_in o) ++ flat_map segment_record o.segments
    ++ flat_map name_record o.externals ++ flat_map reloc_record o.relocs ++ flat_map thread_record o.threads
unfolding object pointers_row segment_row count_row external_row good_reloc good_thread
object_spelled o =
    let externals = length o.externals in
    let s = times_spell segment_row push segment_record (λ before s. refl) (length o.segments) [] o.segments refl in
    let x = times_spell (external_row o.segments) push name_record (λ before n. refl) externals [] o.externals refl in
    let r = times_spell (reloc_row o.segments externals) (λ _ r. place_of r + 1) reloc_record (λ least r. refl)
    (length o.relocs) 0 o.relocs refl in
    let t = times_spell (thread_row o.segments externals) (λ _ t. t.slot + 1) thread_record (λ least t. refl)
    (length o.threads) 0 o.threads refl in
    rw (s, x, r, t) (all_glued (header_row.spell (header_in o)) (flat_map segment_record o.segments)
    (flat_map name_record o.externals) (flat_map reloc_record o.relocs) (flat_map thread_record o.threads))

-- 2. The file.

module _ (bytes : List ℕ) where
  -- what is read is spelled by the bytes
  pub read_spells : IsBytes bytes → (o : Object) (next : ℕ) → file object 9 bytes ≡ Got o next → Spells bytes o
  read_spells fits o next e =
      let p = spelled_by object object_is 9 bytes fits o next e in
      record { object = object_fits o p.0; spelled = p.1 }

  -- what the bytes spell is read
  pub spelled_read : (o : Object) → Spells bytes o → file object 9 bytes ≡ Got o (length bytes)
  spelled_read o s = read_whole object object_is 9 bytes o (fits_object o s.object) s.spelled

  pub clean_spells : IsBytes bytes → object_fault bytes ≡ None → (o : Object) × Spells bytes o
  unfolding object_fault
  clean_spells fits none =
      let r = clean_got (file object 9 bytes) none in
      (r.0, read_spells fits r.0 r.1 r.2)

  pub spelled_clean : (o : Object) → Spells bytes o → object_fault bytes ≡ None
  unfolding object_fault
  spelled_clean o s = ap fault_in (spelled_read o s)

  pub spelled_one : (a b : Object) → Spells bytes a → Spells bytes b → a ≡ b
  spelled_one a b s t = same_value (sym (spelled_read a s) ∙ spelled_read b t)

-- the error that is told names the fault that was met
pub told_right : (e : ReadError ObjectFault) → fault_of (from_read_error e) ≡ fault_named_by number_of e
told_right (Fault kind offset) = refl
told_right NoMemory = refl
