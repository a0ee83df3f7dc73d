use Rattle.std.proofs.Common.{◌≡◌, ◌+◌, ◌*◌, ◌≤◌, drop}
use Rattle.mm_format.specs.Formats.{first_late}
use Rattle.mm_object.specs.{Format.use_tests, Objects.targets_of}
use Rattle.mm_object.proofs.reading.test_uses.Given as goal

abbrev pub invariant-loop-k : goal.invariant-loop-k
invariant-loop-k l = record {
  tests : first_late l.start
      (use_tests (targets_of l.relocs l.threads) (l.segments + l.k) l.offset (drop l.k l.externals))
      ≡ first_late l.start (use_tests (targets_of l.relocs l.threads) l.segments 0 l.externals);
  small : l.offset ≤ 32 * l.k;
}
