use Rattle.std.{proofs.Common.{◌+◌, ◌*◌, take}, specs.List.{flat_map, range_with_len}}
use Rattle.mm_text.specs.Appends.{Appends}
use Rattle.mm_model.specs.Memory.{cell_at}
use Rattle.mm_debug.specs.Session.{word_line}
use Rattle.mm_debug.proofs.replies.put_words.Given as goal

abbrev pub invariant-loop-k : goal.invariant-loop-k
invariant-loop-k g l = Appends g.O.Sink.taken g.O.Sink.faults l.initial.out l.out l.initial.reply l.reply
    (flat_map (λ k. word_line (l.word + 8 * k) (cell_at (g.M.Memory.meaning l.memory) (l.word + 8 * k))) (take l.k (range_with_len 0 l.count)))
