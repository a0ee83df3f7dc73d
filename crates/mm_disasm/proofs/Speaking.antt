-- What all lines of a canonical text say.
use Rattle.std.{proofs.Common.{◌≡◌, ℕ, ◌+◌, false, List, [], ◌∷◌}, specs.List.AllByRecursion}
use Rattle.mm_object.specs.{declared.{item.Item.Item, thread.{Value.Value, Thread.Thread}}, Objects.{Segment, Object}}
use Rattle.mm_disasm.specs.Canonical.{is_zero}
use Rattle.mm_disasm.proofs.Saying.{Says, SaysSpare, SaysBegin, SaysWord, SaysThread, SaysRegister, spare_of, begin_of}
use Rattle.mm_disasm.proofs.Saying.{word_of, thread_of, register_of}

-- the words of a segment from word k on
abbrev pub WordsSpeak : Object → (segment k : ℕ) → List Item → Type 0
WordsSpeak o segment k [] = Unit {0}
WordsSpeak o segment k (item ∷ items) = Says (word_of o segment k item) (SaysWord o segment k item) × WordsSpeak o segment (k + 1) items

pub record SegmentSpeaks (o : Object) (number : ℕ) (s : Segment) : Type 0 where
  pub begins : Says (begin_of s) (SaysBegin s)
  pub words : WordsSpeak o number 0 s.items

-- the segments from a number on
abbrev pub SegmentsSpeak : Object → (number : ℕ) → List Segment → Type 0
SegmentsSpeak o number [] = Unit {0}
SegmentsSpeak o number (s ∷ segments) = SegmentSpeaks o number s × SegmentsSpeak o (number + 1) segments

-- the registers from register k on; one that is integer 0 has no line
abbrev pub RegistersSpeak : Object → (k : ℕ) → List Value → Type 0
RegistersSpeak o k [] = Unit {0}
RegistersSpeak o k (v ∷ values) = (is_zero v ≡ false → Says (register_of o k v) (SaysRegister o k v)) × RegistersSpeak o (k + 1) values

pub record ThreadSpeaks (o : Object) (t : Thread) : Type 0 where
  pub begins : Says (thread_of o t) (SaysThread o t)
  pub registers : RegistersSpeak o 0 t.regs

pub record Speaks (o : Object) : Type 0 where
  pub spare : Says (spare_of o.spare) (SaysSpare o.spare)
  pub segments : SegmentsSpeak o 0 o.segments
  pub threads : AllByRecursion (ThreadSpeaks o) o.threads
