use Rattle.std.proofs.Common.{◌≡◌, ◌<◌, ℕ, List, Option, ◌++◌, ◌∷◌, [], length, take, drop, subst, sym, ap, ◌∙◌, arith}
use Rattle.std.{proofs.lemmas.List.take-append-drop, specs.Prelude.{Contains}}
use Rattle.mm_endless.specs.Stages.{Stage, stage_of, number_of, marked_all, IsStage, IsLater}
use Rattle.mm_endless.proofs.{Closing.{close_keeps, close_later}, Joining.last_on_path, Marks.{path_inside, read_as}}
use Rattle.mm_endless.proofs.walk.Walk.close.Goals as goal

finished_inside : (g : List (List ℕ)) (s : Stage) → IsStage g s → (v : ℕ) → Contains s.finished v → v < length g
finished_inside g s k v there = let low = path_inside s v (k.finishes v there).0 in let e = k.marks in omega (arith, low, e)

pub begin_of-from-requires : goal.begin_of-from-requires
begin_of-from-requires c = λ v there.
    let k = c.requires.stage in
    let low = finished_inside c.args.self.now.graph.now (stage_of c.args.self.now) k v there in
    let e = k.numbers in
    omega (arith, low, e)

pub first_of-first-requires-clause-nodes : goal.first_of-first-requires-clause-nodes
first_of-first-requires-clause-nodes c = λ v there. finished_inside c.args.self.now.graph.now (stage_of c.args.self.now) c.requires.stage v there

pub mark_from-requires-clause-marks : goal.mark_from-requires-clause-marks
mark_from-requires-clause-marks c = λ v there.
    let k = c.requires.stage in
    let low = finished_inside c.args.self.now.graph.now (stage_of c.args.self.now) k v there in
    let e = k.marks in
    omega (arith, low, e)

-- what is left when a set is done
closed_as : (s t : Stage) (members : List ℕ) (first : Option ℕ) (unfinished finished bounds : List ℕ) → t ≡ marked_all s members first
    → (l m n : List ℕ) → l ≡ unfinished → m ≡ finished → n ≡ bounds
    → record t { unfinished = l; finished = m; bounds = n } ≡ record (marked_all s members first) { finished = finished; bounds = bounds; unfinished = unfinished }
closed_as s t members first unfinished finished bounds e l m n a b d = λ j. record (e j) { unfinished = a j; finished = b j; bounds = d j }

pub returns-clause-stage : goal.returns-clause-stage
returns-clause-stage c =
    let s : Stage = stage_of c.args.self.now in
    let g = c.args.self.now.graph.now in
    let k = c.requires.stage in
    let set = c.requires.set in
    let u = c.args.node in
    let xs = c.args.self.now.finished.items in
    let from = c.begin_of-from.result in
    let first = c.first_of-first.result in
    let b = c.index.result.now in
    let low = path_inside s u (last_on_path g s k u set.last) in
    let marks = k.marks in
    let numbers = k.numbers in
    let number : number_of s u ≡ b = read_as c.args.self.now.numbers.items u b 0 (omega (arith, low, marks, numbers)) c.index.ensures in
    let is : s.bounds ≡ set.front ++ b ∷ [] = set.bound ∙ ap (λ n. set.front ++ n ∷ []) number in
    let stage = c.mark_from.ensures.stage in
    let left = closed_as s (stage_of c.mark_from.new.self) (drop from xs) first set.last.front (take from xs) set.front stage
    c.drop_last-2.new.numbers.items c.truncate.new.self.items c.drop_last.new.numbers.items
    (c.drop_last-2.ensures set.last.front u (ap (λ (x : Stage). x.unfinished) stage ∙ set.last.is))
    (c.truncate.ensures.items ∙ ap (λ (x : Stage). take from x.finished) stage)
    (c.drop_last.ensures set.front b (ap (λ (x : Stage). x.bounds) stage ∙ is)) in
    subst (λ h. IsStage h (record (stage_of c.mark_from.new.self) { unfinished = c.drop_last-2.new.numbers.items; finished = c.truncate.new.self.items; bounds = c.drop_last.new.numbers.items })) (sym c.mark_from.ensures.graph) (subst (IsStage g) (sym left) (close_keeps g s k u b set.last set.finished number set.front is (take from xs) (drop from xs) (sym (take-append-drop from xs)) c.begin_of-from.ensures.inside c.begin_of-from.ensures.before first c.first_of-first.ensures))

pub returns-clause-later : goal.returns-clause-later
returns-clause-later c =
    let s : Stage = stage_of c.args.self.now in
    let g = c.args.self.now.graph.now in
    let k = c.requires.stage in
    let set = c.requires.set in
    let u = c.args.node in
    let xs = c.args.self.now.finished.items in
    let from = c.begin_of-from.result in
    let first = c.first_of-first.result in
    let b = c.index.result.now in
    let low = path_inside s u (last_on_path g s k u set.last) in
    let marks = k.marks in
    let numbers = k.numbers in
    let number : number_of s u ≡ b = read_as c.args.self.now.numbers.items u b 0 (omega (arith, low, marks, numbers)) c.index.ensures in
    let is : s.bounds ≡ set.front ++ b ∷ [] = set.bound ∙ ap (λ n. set.front ++ n ∷ []) number in
    let stage = c.mark_from.ensures.stage in
    let left = closed_as s (stage_of c.mark_from.new.self) (drop from xs) first set.last.front (take from xs) set.front stage
    c.drop_last-2.new.numbers.items c.truncate.new.self.items c.drop_last.new.numbers.items
    (c.drop_last-2.ensures set.last.front u (ap (λ (x : Stage). x.unfinished) stage ∙ set.last.is))
    (c.truncate.ensures.items ∙ ap (λ (x : Stage). take from x.finished) stage)
    (c.drop_last.ensures set.front b (ap (λ (x : Stage). x.bounds) stage ∙ is)) in
    subst (IsLater s) (sym left) (close_later g s k u b set.last set.finished number set.front is (take from xs) (drop from xs) (sym (take-append-drop from xs)) c.begin_of-from.ensures.inside c.begin_of-from.ensures.before first c.first_of-first.ensures)
