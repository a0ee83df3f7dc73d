-- What is known of streams of the system.
use Rattle.std.specs.Prelude.{◌≡◌, ℕ, ◌<◌, List, length, take, Option, Some, IfSome}
use Rattle.std.specs.Io.KnownBytes.{Consumes, IsAtEnd}

-- A stream that is written: the bytes that it holds, if they are known, and how often a write failed.
pub record WrittenStream : Type 0 where
  pub contents : Option (List ℕ)
  pub faults : ℕ

-- A stream that is read: the bytes that it has left, if they are known, and how often a read failed.
pub record ReadStream : Type 0 where
  pub remaining : Option (List ℕ)
  pub faults : ℕ

-- A stream was set to an offset, if its position is known, and gave the n bytes at the front of buf from there; it gave
-- none to a nonempty buf only if no more were left.
pub record ReadsPlaced {S : Type 0} (position : S → Option ℕ) (remaining : S → Option (List ℕ)) (old new : S)
    (offset n : ℕ) (buf : List ℕ) : Type 0 where
  pub placed : S
  pub place : IfSome (position old) (λ _. position placed ≡ Some offset)
  pub gave : Consumes (remaining placed) (remaining new) (take n buf)
  pub end : n ≡ 0 → 0 < length buf → IsAtEnd (remaining new)

-- A stream that was opened gave these n bytes from the offset on.
pub record GaveFrom {S : Type 0} (position : S → Option ℕ) (remaining : S → Option (List ℕ)) (offset n : ℕ)
    (buf : List ℕ) : Type 0 where
  pub opened : S
  pub after : S
  pub read : ReadsPlaced position remaining opened after offset n buf
