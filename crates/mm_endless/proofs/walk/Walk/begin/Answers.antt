use Rattle.std.proofs.Common.{◌≡◌, sym, subst, ◌∙◌, arith}
use Rattle.mm_endless.specs.Stages.{Stage, stage_of, mark_of, IsStage}
use Rattle.mm_endless.specs.declared.walk.Mark.TheVariants.{Unmet}
use Rattle.mm_endless.proofs.{Discovering.{room, discover_keeps}, Ending.none_on_path, Marks.{ok_more, read_as}}
use Rattle.mm_endless.proofs.walk.Walk.begin.Goals as goal

pub discover-requires-clause-room : goal.discover-requires-clause-room
discover-requires-clause-room c =
    let s : Stage = stage_of c.args.self.now in
    let k = c.requires.stage in
    let same = k.marks in
    let low = c.requires.root in
    let unmet : mark_of s c.args.root ≡ Unmet = read_as c.args.self.now.marks.items c.args.root c.index.result.now Unmet (omega (arith, same, low)) c.index.ensures ∙ c.in-Unmet.is in
    room c.args.self.now.graph.now s k c.args.root c.requires.root unmet

pub returns-in-Unmet-clause-stage : goal.returns-in-Unmet-clause-stage
returns-in-Unmet-clause-stage c =
    let s : Stage = stage_of c.args.self.now in
    let g = c.args.self.now.graph.now in
    let k = c.requires.stage in
    let same = k.marks in
    let low = c.requires.root in
    let unmet : mark_of s c.args.root ≡ Unmet = read_as c.args.self.now.marks.items c.args.root c.index.result.now Unmet (omega (arith, same, low)) c.index.ensures ∙ c.in-Unmet.is in
    ok_more c.discover.result
    (λ stage. subst (λ h. IsStage h (stage_of c.discover.new.self)) (sym c.discover.ensures.graph) (subst (IsStage g) (sym stage)
    (discover_keeps g s k c.args.root c.requires.root unmet (λ u h. absurd (none_on_path g s k c.requires.unfinished u h)))))
    c.discover.ensures.stage
