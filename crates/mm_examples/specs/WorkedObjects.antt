-- Worked examples of object files: of the bytes of records, and of first faults.
use Rattle.std.specs.Prelude.{◌≡◌, ℕ, List, [], ◌∷◌, ◌++◌, take, slice_set, replicate, codes, Some, None, true, false}
use Rattle.mm_word.specs.declared.perm.Perm.TheVariants.{Ro, Rw, Xu, Xp}
use Rattle.mm_object.specs.declared.thread.Value.TheVariants.{Int, Ptr}
use Rattle.mm_object.specs.{Format.{header_row, segment_record, reloc_record, thread_record}, Faults.object_fault}

-- the bytes of an object: a segment `a` of one word, an external `x`, and a relocation that makes the word a pointer
-- to it
abbrev pub object_bytes : List ℕ
object_bytes =
    (77 ∷ 77 ∷ 79 ∷ 49 ∷ 0 ∷ 1 ∷ 0 ∷ 1 ∷ 0 ∷ 1 ∷ 0 ∷ 1 ∷ 0 ∷ 0 ∷ 0 ∷ 0 ∷ [])
    ++ (1 ∷ 97 ∷ 3 ∷ 0 ∷ 0 ∷ 0 ∷ 1 ∷ 1 ∷ [])
    ++ replicate 8 0
    ++ (1 ∷ 120 ∷ [])
    ++ (0 ∷ 0 ∷ 0 ∷ 0 ∷ 0 ∷ 0 ∷ 2 ∷ 0 ∷ 1 ∷ 0 ∷ 0 ∷ 0 ∷ 0 ∷ [])

abbrev pub FirstObjectFaults : Type 0
FirstObjectFaults =
    (object_fault object_bytes ≡ None)
    × (object_fault [] ≡ Some (1, 0))
    × (object_fault (take 46 object_bytes) ≡ Some (1, 46))
    × (object_fault (slice_set object_bytes 0 0) ≡ Some (2, 0))
    × (object_fault (slice_set object_bytes 5 2) ≡ Some (3, 4))
    × (object_fault (slice_set object_bytes 6 255) ≡ Some (4, 6))
    × (object_fault (slice_set object_bytes 16 0) ≡ Some (5, 16))
    × (object_fault (slice_set object_bytes 17 32) ≡ Some (5, 16))
    × (object_fault (slice_set object_bytes 18 2) ≡ Some (6, 18))
    × (object_fault (slice_set object_bytes 22 2) ≡ Some (6, 19))
    × (object_fault (slice_set object_bytes 23 3) ≡ Some (6, 23))
    × (object_fault (slice_set object_bytes 33 97) ≡ Some (5, 32))
    × (object_fault (slice_set object_bytes 40 0) ≡ Some (7, 34))
    × (object_fault (slice_set object_bytes 39 1) ≡ Some (7, 34))
    × (object_fault (slice_set object_bytes 13 1 ++ replicate 140 0) ≡ Some (8, 47))
    × (object_fault (object_bytes ++ 0 ∷ []) ≡ Some (9, 47))

-- an external is tested for a use after the relocations and the threads
abbrev pub UsesAreLate : Type 0
UsesAreLate =
    (object_fault (slice_set object_bytes 42 0) ≡ Some (5, 32))
    × (object_fault (slice_set (slice_set object_bytes 42 0) 40 0) ≡ Some (7, 34))
    × (object_fault (slice_set object_bytes 42 0 ++ 0 ∷ []) ≡ Some (5, 32))

-- The bytes of records: each field of a record has a value of its own, so a table that had two of them in the other
-- order would spell other bytes.

-- counts of segments, externals, relocations and threads, spare frames
abbrev pub SpellsObjectHeaders : Type 0
SpellsObjectHeaders =
    header_row.spell (record { segments = 3; externals = 4; relocs = 0x506; threads = 7; spare = 8 })
    ≡ codes "MMO1" ++ (0 ∷ 1 ∷ 0 ∷ 3 ∷ 0 ∷ 4 ∷ 5 ∷ 6 ∷ 0 ∷ 7 ∷ 0 ∷ 8 ∷ [])

-- name, logarithm of the length, count of words, full bits, words
abbrev pub SpellsSegments : Type 0
SpellsSegments =
    segment_record (record {
      name = codes "ab";
      log = 7;
      items = record { bits = 8; full = false } ∷ record { bits = 9; full = true } ∷ [];
    })
    ≡ (2 ∷ 97 ∷ 98 ∷ 7 ∷ 0 ∷ 0 ∷ 0 ∷ 2 ∷ 2 ∷ [])
    ++ (0 ∷ 0 ∷ 0 ∷ 0 ∷ 0 ∷ 0 ∷ 0 ∷ 8 ∷ 0 ∷ 0 ∷ 0 ∷ 0 ∷ 0 ∷ 0 ∷ 0 ∷ 9 ∷ [])

-- segment, word, permission, index of the target, addend
abbrev pub SpellsRelocations : Type 0
SpellsRelocations =
    reloc_record (record { segment = 4; word = 5; perm = Rw; target = record { index = 6; addend = 7 } })
    ≡ 0 ∷ 4 ∷ 0 ∷ 0 ∷ 0 ∷ 5 ∷ 2 ∷ 0 ∷ 6 ∷ 0 ∷ 0 ∷ 0 ∷ 7 ∷ []

-- slot, group, handler, permission, index of the target, addend, tags, registers
abbrev pub SpellsThreads : Type 0
SpellsThreads =
    thread_record (record {
      slot = 1;
      group = 2;
      handler = Some 5;
      perm = Xu;
      target = record { index = 6; addend = 8 };
      regs =
          Int 9
          ∷ Ptr Ro (record { index = 10; addend = 16 })
          ∷ Ptr Rw (record { index = 11; addend = 24 })
          ∷ replicate 12 (Int 0)
          ++ Ptr Xp (record { index = 12; addend = 32 })
          ∷ [];
    })
    ≡ (1 ∷ 2 ∷ 5 ∷ 3 ∷ 0 ∷ 6 ∷ 0 ∷ 0 ∷ 0 ∷ 8 ∷ 0x80 ∷ 6 ∷ [])
    ++ (0 ∷ 0 ∷ 0 ∷ 0 ∷ 0 ∷ 0 ∷ 0 ∷ 9 ∷ [])
    ++ (1 ∷ 0 ∷ 0 ∷ 10 ∷ 0 ∷ 0 ∷ 0 ∷ 16 ∷ [])
    ++ (2 ∷ 0 ∷ 0 ∷ 11 ∷ 0 ∷ 0 ∷ 0 ∷ 24 ∷ [])
    ++ replicate 96 0
    ++ (4 ∷ 0 ∷ 0 ∷ 12 ∷ 0 ∷ 0 ∷ 0 ∷ 32 ∷ [])
