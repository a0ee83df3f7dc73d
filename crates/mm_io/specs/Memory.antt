-- What sinks and files in memory hold.
use Rattle.std.specs.Prelude.{◌≡◌, ℕ, ◌+◌, ◌-◌, ◌<◌, ◌⊎◌, min, List, [], ◌∷◌, length, Contains, Vec, String}
use Rattle.std.specs.{Prelude.{string_bytes, if◌then◌else◌, Option, Some, None, unwrap_or}, Str.bytes_eq}
use Rattle.std.specs.declared.alloc.Global.{Global}
use Rattle.mm_io.specs.Files.{raised}

-- A sink in memory: the bytes that it took, the count of bytes for which it has room, the numbers of the calls that
-- fail, the most bytes that one call moves, and the counts of calls and faults.
pub record MemorySink : Type 0 where
  pub taken : List ℕ
  pub room : ℕ
  pub fails : List ℕ
  pub piece : ℕ
  pub calls : ℕ
  pub faults : ℕ

-- a write of this count of bytes fails: the call's number is listed, or the bytes that it would move are past the room
abbrev pub Refuses : MemorySink → ℕ → Type 0
Refuses s bytes = Contains s.fails (raised s.calls) ⊎ (s.room < length s.taken + min bytes s.piece)

-- the name and the bytes of a file
abbrev pub named : String Global × Vec ℕ Global → List ℕ × List ℕ
named file = (string_bytes file.0, file.1.items)

-- the bytes of the first file of the name, if there is one
abbrev pub file_in : List (List ℕ × List ℕ) → List ℕ → Option (List ℕ)
file_in [] name = None
file_in (file ∷ files) name = if bytes_eq file.0 name then Some file.1 else file_in files name

-- the bytes of the first file of the name, or no bytes if there is no such file
abbrev pub file_of : List (List ℕ × List ℕ) → List ℕ → List ℕ
file_of files name = unwrap_or (file_in files name) []

-- Files in memory: their names and bytes, the numbers of the calls that fail, the most bytes that one call moves, and
-- the counts of calls and faults.
pub record MemoryFiles : Type 0 where
  pub files : List (List ℕ × List ℕ)
  pub fails : List ℕ
  pub piece : ℕ
  pub calls : ℕ
  pub faults : ℕ

-- a read of a name fails: the call's number is listed, or there is no such file
abbrev pub RefusesRead : MemoryFiles → List ℕ → Type 0
RefusesRead s name = Contains s.fails (raised s.calls) ⊎ (file_in s.files name ≡ None)

-- the count of bytes that a read from an offset moves into a buffer of length `room`
abbrev pub moved : MemoryFiles → List ℕ → ℕ → ℕ → ℕ
moved s name offset room = min (length (file_of s.files name) - offset) (min room s.piece)

-- A source in memory: the bytes that are left, the numbers of the calls that fail, the most bytes that one call moves,
-- and the counts of calls and faults.
pub record MemorySource : Type 0 where
  pub left : List ℕ
  pub fails : List ℕ
  pub piece : ℕ
  pub calls : ℕ
  pub faults : ℕ
