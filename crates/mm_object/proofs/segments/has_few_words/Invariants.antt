use Rattle.std.proofs.Common.{◌≡◌, ◌≤◌, take}
use Rattle.mm_object.specs.Objects.{words_of}
use Rattle.mm_object.proofs.segments.has_few_words.Given as goal

abbrev pub invariant-loop-segment : goal.invariant-loop-segment
invariant-loop-segment l = record { sum : l.words ≡ words_of (take l.segment-index l.segments); few : l.words ≤ 131072 }
