use Rattle.std.proofs.Common.{◌≡◌, ◌++◌, map}
use Rattle.mm_word.specs.{declared.word.Cell.Cell, Word.is_pointer}
use Rattle.mm_model.specs.Spelling.{bitmap}
use Rattle.mm_image.proofs.writing.put_tags.Given as goal

abbrev pub invariant-loop-k : goal.invariant-loop-k
invariant-loop-k l = l.out.items ≡ l.initial.out.items ++ bitmap l.k (map (λ (c : Cell). is_pointer c.word) l.cells)
