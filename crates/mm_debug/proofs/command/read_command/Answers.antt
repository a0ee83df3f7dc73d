use Rattle.std.proofs.Common.{[], refl, ap, ap₂, ◌∙◌}
use Rattle.mm_debug.specs.Commands.{with_one, with_two}
use Rattle.mm_debug.proofs.{Asked.{Taken, none, some, asks}, command.read_command.Goals.After-take_token-4}
use Rattle.mm_debug.proofs.command.read_command.Goals as goal

word : (c : After-take_token-4) → Taken c.args.line.now c.take_token.result.0.now c.take_token.result.1.now
word c = record { tokens_are = c.take_token.ensures.token; end = c.take_token.ensures.end }

first : (c : After-take_token-4) → Taken c.take_token.result.1.now c.take_token-2.result.0.now c.take_token-2.result.1.now
first c = record { tokens_are = c.take_token-2.ensures.token; end = c.take_token-2.ensures.end }

second : (c : After-take_token-4) → Taken c.take_token-2.result.1.now c.take_token-3.result.0.now c.take_token-3.result.1.now
second c = record { tokens_are = c.take_token-3.ensures.token; end = c.take_token-3.ensures.end }

more : (c : After-take_token-4) → Taken c.take_token-3.result.1.now c.take_token-4.result.0.now c.take_token-4.result.1.now
more c = record { tokens_are = c.take_token-4.ensures.token; end = c.take_token-4.ensures.end }

pub returns-then-is_empty : goal.returns-then-is_empty
returns-then-is_empty c =
    let taken = (goal.at.returns-then-is_empty c).After-take_token-4 in
    asks _ [] (none _ _ _ _ (word taken) c.is_empty.ensures c.if-is_empty.true)

pub returns-then-is_empty-2 : goal.returns-then-is_empty-2
returns-then-is_empty-2 c =
    let taken = (goal.at.returns-then-is_empty-2 c).After-take_token-4 in
    c.alone.ensures
    ∙ asks _ _
    (some _ _ _ _ _ (word taken) c.is_empty.ensures c.if-is_empty.false
    (none _ _ _ _ (first taken) c.is_empty-else-is_empty.ensures c.if-is_empty-2.true))

pub returns-then-is_empty-3 : goal.returns-then-is_empty-3
returns-then-is_empty-3 c =
    let taken = (goal.at.returns-then-is_empty-3 c).After-take_token-4 in
    c.with_one.ensures ∙ ap (with_one c.take_token.result.0.now) c.number.ensures
    ∙ asks _ _
    (some _ _ _ _ _ (word taken) c.is_empty.ensures c.if-is_empty.false
    (some _ _ _ _ _ (first taken) c.is_empty-else-is_empty.ensures c.if-is_empty-2.false
    (none _ _ _ _ (second taken) c.is_empty-else-is_empty-2.ensures c.if-is_empty-3.true)))

pub returns-then-is_empty-4 : goal.returns-then-is_empty-4
returns-then-is_empty-4 c =
    let taken = (goal.at.returns-then-is_empty-4 c).After-take_token-4 in
    c.with_two.ensures ∙ ap₂ (with_two c.take_token.result.0.now) c.number-then-is_empty-4.ensures c.number-then-is_empty-4-2.ensures
    ∙ asks _ _
    (some _ _ _ _ _ (word taken) c.is_empty.ensures c.if-is_empty.false
    (some _ _ _ _ _ (first taken) c.is_empty-else-is_empty.ensures c.if-is_empty-2.false
    (some _ _ _ _ _ (second taken) c.is_empty-else-is_empty-2.ensures c.if-is_empty-3.false
    (none _ _ _ _ (more taken) c.is_empty-else-is_empty-3.ensures c.if-is_empty-4.true))))

pub returns-else-is_empty-4 : goal.returns-else-is_empty-4
returns-else-is_empty-4 c =
    let taken = (goal.at.returns-else-is_empty-4 c).After-take_token-4 in
    asks _ _
    (some _ _ _ _ _ (word taken) c.is_empty.ensures c.if-is_empty.false
    (some _ _ _ _ _ (first taken) c.is_empty-else-is_empty.ensures c.if-is_empty-2.false
    (some _ _ _ _ _ (second taken) c.is_empty-else-is_empty-2.ensures c.if-is_empty-3.false
    (some _ _ _ _ _ (more taken) c.is_empty-else-is_empty-3.ensures c.if-is_empty-4.false refl))))
