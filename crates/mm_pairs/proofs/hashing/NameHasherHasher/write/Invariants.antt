use Rattle.std.proofs.Common.{◌≡◌, ◌+◌, ◌*◌, ◌/◌, ◌%◌, ◌^◌, take, fold}
use Rattle.mm_pairs.proofs.hashing.NameHasherHasher.write.Given as goal

abbrev pub invariant-loop-byte : goal.invariant-loop-byte
invariant-loop-byte l = l.self.names ≡ fold (λ names byte. (names / 256 + byte * 2 ^ 56 % 2 ^ 64) % 2 ^ 64) l.initial.self.names (take l.byte-index l.bytes)
