use Rattle.std.proofs.Common.{◌≡◌, ℕ, true, false, Option, None, if◌then◌else◌, codes, refl, ap, ◌∙◌, rules}
use Rattle.std.specs.Str.{bytes_eq}
use Rattle.mm_debug.proofs.Asked.{Taken, none, some}
use Rattle.mm_save.specs.Recorder.{count_of}
use Rattle.mm_save.proofs.Backwards.{asks_back}
use Rattle.mm_save.proofs.recorder.back_of.Goals.{After-take_token-3, then-is_empty-via-then-is_empty}
use Rattle.mm_save.proofs.recorder.back_of.Goals.{then-is_empty-via-else-is_empty+then-is_empty-2}
use Rattle.mm_save.proofs.recorder.back_of.Goals.{then-is_empty-via-else-is_empty+else-is_empty-2+then-not-is_empty}
use Rattle.mm_save.proofs.recorder.back_of.Goals as goal

word : (c : After-take_token-3) → Taken c.args.line.now c.take_token.result.0.now c.take_token.result.1.now
word c = record { tokens_are = c.take_token.ensures.token; end = c.take_token.ensures.end }

count : (c : After-take_token-3) → Taken c.take_token.result.1.now c.take_token-2.result.0.now c.take_token-2.result.1.now
count c = record { tokens_are = c.take_token-2.ensures.token; end = c.take_token-2.ensures.end }

behind : (c : After-take_token-3) → Taken c.take_token-2.result.1.now c.take_token-3.result.0.now c.take_token-3.result.1.now
behind c = record { tokens_are = c.take_token-3.ensures.token; end = c.take_token-3.ensures.end }

pub returns-then-is_empty : goal.returns-then-is_empty
returns-then-is_empty c =
    let taken = (goal.at.returns-then-is_empty c).After-take_token-3 in
    elim c.then-is_empty.branch [
      | then-is_empty-via-then-is_empty w ↦ asks_back _ _ (none _ _ _ _ (word taken) c.is_empty.ensures w.if-is_empty.true)
      | then-is_empty-via-else-is_empty+then-is_empty-2 w ↦
          asks_back _ _
          (some _ _ _ _ _ (word taken) c.is_empty.ensures w.if-is_empty.false
          (none _ _ _ _ (count taken) w.is_empty-else-is_empty.ensures w.if-is_empty-2.true))
      | then-is_empty-via-else-is_empty+else-is_empty-2+then-not-is_empty w ↦
          let more : w.is_empty-else-is_empty-2.result ≡ false = search rules in
          asks_back _ _
          (some _ _ _ _ _ (word taken) c.is_empty.ensures w.if-is_empty.false
          (some _ _ _ _ _ (count taken) w.is_empty-else-is_empty.ensures w.if-is_empty-2.false
          (some _ _ _ _ _ (behind taken) w.is_empty-else-is_empty-2.ensures more refl)))
    ]

pub returns : goal.returns
returns c =
    let taken = (goal.at.returns c).After-take_token-3 in
    let end : c.is_empty-else-is_empty-2.result ≡ true = search rules in
    c.count_of.ensures
    ∙ ap (λ (n : Option ℕ). if bytes_eq c.take_token.result.0.now (codes "back") then count_of n else None) c.number.ensures
    ∙ asks_back _ _
    (some _ _ _ _ _ (word taken) c.is_empty.ensures c.if-is_empty.false
    (some _ _ _ _ _ (count taken) c.is_empty-else-is_empty.ensures c.if-is_empty-2.false
    (none _ _ _ _ (behind taken) c.is_empty-else-is_empty-2.ensures end)))
