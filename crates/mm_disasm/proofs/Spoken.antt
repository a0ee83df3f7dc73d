-- All lines of a canonical text say what they are to say, so it means its object.
use Rattle.std.proofs.{Common.{◌≡◌, ℕ, ◌+◌, ◌^◌, ◌<◌, ◌≤◌, true, List, [], ◌∷◌, length, arith}, lemmas.Bool.and_parts}
use Rattle.std.specs.List.{list_all, AllByRecursion}
use Rattle.mm_object.specs.declared.{item.Item.Item, thread.{Value.Value, Thread.Thread}}
use Rattle.mm_object.specs.Objects.{Segment, Object, IsSegment, IsObject, IsNumber, is_value, is_thread}
use Rattle.mm_disasm.specs.{Canonical.canonical, Laws.CanonicalTextsMeanTheirObjects}
use Rattle.mm_disasm.proofs.Speaking.{WordsSpeak, SegmentsSpeak, RegistersSpeak, ThreadSpeaks, Speaks}
use Rattle.mm_disasm.proofs.LinesSplit.{lines_are}
use Rattle.mm_disasm.proofs.LinesThreads.{spare_says, begin_says, thread_says, thread_values, register_says}
use Rattle.mm_disasm.proofs.{LinesWords.word_says, DraftedMeans.drafted_means}

module _ (o : Object) (is : IsObject o) where
  words_speak : (segment k : ℕ) (items : List Item) → AllByRecursion (λ (item : Item). item.bits < 2 ^ 64) items → WordsSpeak o segment k items
  words_speak segment k [] small = tt
  words_speak segment k (item ∷ items) small = (word_says o segment k item is small.0, words_speak segment (k + 1) items small.1)

  segments_speak : (number : ℕ) (segments : List Segment) → AllByRecursion IsSegment segments → SegmentsSpeak o number segments
  segments_speak number [] each = tt
  segments_speak number (s ∷ segments) each = (record { begins = begin_says s each.0; words = words_speak number 0 s.items each.0.words }, segments_speak (number + 1) segments each.1)

  registers_speak : (k : ℕ) (values : List Value) → k + length values ≤ 16 → list_all (is_value o.segments (length o.externals)) values ≡ true → AllByRecursion IsNumber values
      → RegistersSpeak o k values
  registers_speak k [] few good numbers = tt
  registers_speak k (v ∷ values) few good numbers =
      let b = and_parts (is_value o.segments (length o.externals) v) (list_all (is_value o.segments (length o.externals)) values) good in
      (λ (z : _). register_says o k v is (omega arith) b.0 numbers.0, registers_speak (k + 1) values (omega arith) b.1 numbers.1)

  threads_speak : (threads : List Thread) → list_all (is_thread o.segments (length o.externals)) threads ≡ true → AllByRecursion (λ (t : Thread). length t.regs ≡ 16) threads
      → AllByRecursion (λ (t : Thread). AllByRecursion IsNumber t.regs) threads → AllByRecursion (ThreadSpeaks o) threads
  threads_speak [] good whole numbers = tt
  threads_speak (t ∷ threads) good whole numbers =
      let b = and_parts (is_thread o.segments (length o.externals) t) (list_all (is_thread o.segments (length o.externals)) threads) good in
      let full : length t.regs ≡ 16 = whole.0 in (
        record { begins = thread_says o t is b.0; registers = registers_speak 0 t.regs (omega (arith, full)) (thread_values o t b.0) numbers.0 },
        threads_speak threads b.1 whole.1 numbers.1,
      )

  speaks : Speaks o
  speaks = record { spare = spare_says o.spare is.few_spare; segments = segments_speak 0 o.segments is.segments; threads = threads_speak o.threads is.threads is.whole is.integers }

pub canonical_texts_mean_their_objects : CanonicalTextsMeanTheirObjects
canonical_texts_mean_their_objects o is = drafted_means (canonical o) o is (speaks o is) (lines_are o is)
