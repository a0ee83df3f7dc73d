-- What a read of a file or a source gives, and when a call may fail.
use Rattle.std.specs.Prelude.{◌≡◌, ℕ, ◌+◌, ◌-◌, ◌^◌, ◌<◌, ◌≤◌, min, List, [], ◌∷◌, ◌++◌, length, take, drop, ⊤, None}
use Rattle.std.specs.{Prelude.{Some, Option, Ok, Err, Result}, List.{sum, AllByRecursion}, Io.KnownBytes.prepend_known}
use Rattle.mm_word.specs.Adding.{Adds}

-- a count of 64 bits after one fault more: it stays at its last value once that is reached
abbrev pub raised : ℕ → ℕ
raised count = min (count + 1) (2 ^ 64 - 1)

-- A count of faults rose, or is at the last value of a counter of 64 bits. A call fails only if its count did so.
abbrev pub Rose : ℕ → ℕ → Type 0
Rose before now = raised before ≤ now

-- no name's count fell
abbrev pub NoneFell : (List ℕ → ℕ) → (List ℕ → ℕ) → Type 0
NoneFell before now = (name : List ℕ) → before name ≤ now name

-- A file holds these bytes. Any bytes will do if it is not known what the file holds.
abbrev pub Holds : Option (List ℕ) → List ℕ → Type 0
Holds None bytes = ⊤
Holds (Some told) bytes = bytes ≡ told

-- the n bytes at the front of buf are those of the file from the offset on, and n is 0 for a nonempty buf only if the
-- file ends there
abbrev pub ReadsAt : Option (List ℕ) → ℕ → ℕ → List ℕ → Type 0
ReadsAt None offset n buf = ⊤
ReadsAt (Some told) offset n buf =
    (take n buf ≡ take n (drop offset told)) × (n ≡ 0 → 0 < length buf → length told ≤ offset)

-- the file is longer than the limit: it holds some bytes, and they are more
abbrev pub IsLonger : Option (List ℕ) → ℕ → Type 0
IsLonger told limit = (bytes : List ℕ) × Holds told bytes × (limit < length bytes)

-- a prefix of what a source had left is gone
abbrev pub DrawnFrom : Option (List ℕ) → Option (List ℕ) → Type 0
DrawnFrom old new = (front : List ℕ) × (old ≡ prepend_known front new)

-- A read of a piece of a file: the file's name, where the piece begins, the bytes that the buffer has room for, and the
-- count of bytes that came, if the read did not fail.
pub record PieceRead : Type 0 where
  pub name : List ℕ
  pub offset : ℕ
  pub room : ℕ
  pub count : Option ℕ

abbrev pub count_of : {E : Type 0} → Result ℕ E → Option ℕ
count_of (Ok n) = Some n
count_of (Err e) = None

-- the read with this answer
abbrev pub piece_read : {E : Type 0} → (name : List ℕ) → (offset room : ℕ) → Result ℕ E → PieceRead
piece_read name offset room result = record { name = name; offset = offset; room = room; count = count_of result }

-- each read is of the file of this name
abbrev pub AreOf : (name : List ℕ) → List PieceRead → Type 0
AreOf name reads = AllByRecursion (λ (read : PieceRead). read.name ≡ name) reads

-- reads of one file through a buffer from an offset on, each from where the one before it ended, that give these
-- numbers of bytes
abbrev pub reads_from : (name : List ℕ) → (room offset : ℕ) → (counts : List ℕ) → List PieceRead
reads_from name room offset [] = []
reads_from name room offset (n ∷ counts) =
    record { name = name; offset = offset; room = room; count = Some n } ∷ reads_from name room (offset + n) counts

-- These reads went through a file from its front to its end, `len` bytes in all, through a buffer with room for a byte
-- or more: the first began at 0, each other where the one before it ended, and each gave some bytes but the last, which
-- found none.
pub record FrontToEnd (name : List ℕ) (len : ℕ) (reads : List PieceRead) : Type 0 where
  pub room : ℕ
  pub has_room : 0 < room
  pub counts : List ℕ
  pub some : AllByRecursion (λ n. 0 < n) counts
  pub all : sum counts ≡ len
  pub in_order : reads ≡ reads_from name room 0 (counts ++ 0 ∷ [])

-- The file of a name was read from its front, piece by piece, until it had given more bytes than the limit, and no
-- other file.
pub record AsksBeyond {F : Type 0} (asked : F → List PieceRead → Type 0) (old new : F) (name : List ℕ) (limit : ℕ)
    : Type 0 where
  pub room : ℕ
  pub counts : List ℕ
  pub beyond : limit < sum counts
  pub asks : Adds asked old new (reads_from name room 0 counts)

-- the file of this name was read, any number of times, and no other file
pub record AsksOnly {F : Type 0} (asked : F → List PieceRead → Type 0) (old new : F) (name : List ℕ)
    : Type 0 where
  pub reads : List PieceRead
  pub of_name : AreOf name reads
  pub asks : Adds asked old new reads

-- the file of a name, of `len` bytes, was read from its front to its end, and no other file
pub record AsksWhole {F : Type 0} (asked : F → List PieceRead → Type 0) (old new : F) (name : List ℕ) (len : ℕ)
    : Type 0 where
  pub reads : List PieceRead
  pub whole : FrontToEnd name len reads
  pub asks : Adds asked old new reads
