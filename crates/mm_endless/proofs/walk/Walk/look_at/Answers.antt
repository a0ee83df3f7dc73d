use Rattle.std.proofs.Common.{◌≡◌, ◌<◌, ℕ, List, inl, inr, length, subst, sym, ap, ◌∙◌, arith}
use Rattle.mm_endless.specs.{Graphs.Leads, Stages.{Stage, stage_of, mark_of, is_done, IsStage, IsLater, IsOnPath, IsInLast, IsChildOfLast}}
use Rattle.mm_endless.specs.declared.walk.Mark.TheVariants.{Unmet}
use Rattle.mm_endless.proofs.{Discovering.{room, discover_keeps, discover_later, path_stays, path_new, last_new}, Marks.{ok_more, read_as}}
use Rattle.mm_endless.proofs.{Joining.{last_open, last_on_path}, Walking.{leads_trans, leads_edge}}
use Rattle.mm_endless.proofs.walk.Walk.look_at.Goals as goal

child_inside : (g : List (List ℕ)) (s : Stage) → IsStage g s → (c : ℕ) → IsChildOfLast g s c → c < length g
child_inside g s k c child = k.nodes child.node c child.edge

-- each node of the path leads to the child
all_lead : (g : List (List ℕ)) (s : Stage) → IsStage g s → (c : ℕ) → IsChildOfLast g s c → (u : ℕ) → IsOnPath s u → Leads g u c
all_lead g s k c child u path =
    leads_trans g u child.node c
    (k.joined u child.node path (last_on_path g s k child.node child.last) (λ b inside le. last_open g s k child.node child.last b inside))
    (leads_edge g child.node c child.edge)

pub index-requires : goal.index-requires
index-requires c =
    let k = c.requires.stage in
    let low = child_inside c.args.self.now.graph.now (stage_of c.args.self.now) k c.args.child c.requires.child in
    let e = k.marks in
    let long = c.args.self.now.marks.ok in
    omega (arith, low, e, long)

pub discover-requires-clause-node : goal.discover-requires-clause-node
discover-requires-clause-node c =
    let k = c.requires.stage in
    let low = child_inside c.args.self.now.graph.now (stage_of c.args.self.now) k c.args.child c.requires.child in
    let e = k.marks in
    omega (arith, low, e)

pub discover-requires-clause-room : goal.discover-requires-clause-room
discover-requires-clause-room c =
    let s : Stage = stage_of c.args.self.now in
    let g = c.args.self.now.graph.now in
    let k = c.requires.stage in
    let low = child_inside g s k c.args.child c.requires.child in
    let e = k.marks in
    let unmet : mark_of s c.args.child ≡ Unmet = read_as c.args.self.now.marks.items c.args.child c.index.result.now Unmet (omega (arith, low, e)) c.index.ensures ∙ c.in-Unmet.is in
    room g s k c.args.child low unmet

pub join-requires-clause-path : goal.join-requires-clause-path
join-requires-clause-path c =
    let s : Stage = stage_of c.args.self.now in
    let g = c.args.self.now.graph.now in
    let k = c.requires.stage in
    let low = child_inside g s k c.args.child c.requires.child in
    let e = k.marks in
    read_as c.args.self.now.marks.items c.args.child c.index.result.now Unmet (omega (arith, low, e)) c.index.ensures ∙ c.in-OnPath.is

pub returns-in-Unmet-clause-stage : goal.returns-in-Unmet-clause-stage
returns-in-Unmet-clause-stage c =
    let s : Stage = stage_of c.args.self.now in
    let g = c.args.self.now.graph.now in
    let k = c.requires.stage in
    let low = child_inside g s k c.args.child c.requires.child in
    let e = k.marks in
    let unmet : mark_of s c.args.child ≡ Unmet = read_as c.args.self.now.marks.items c.args.child c.index.result.now Unmet (omega (arith, low, e)) c.index.ensures ∙ c.in-Unmet.is in
    ok_more c.discover.result
    (λ stage. subst (λ h. IsStage h (stage_of c.discover.new.self)) (sym c.discover.ensures.graph) (subst (IsStage g) (sym stage)
    (discover_keeps g s k c.args.child low unmet (all_lead g s k c.args.child c.requires.child))))
    c.discover.ensures.stage

pub returns-in-Unmet-clause-later : goal.returns-in-Unmet-clause-later
returns-in-Unmet-clause-later c =
    let s : Stage = stage_of c.args.self.now in
    let g = c.args.self.now.graph.now in
    let k = c.requires.stage in
    let low = child_inside g s k c.args.child c.requires.child in
    let e = k.marks in
    let unmet : mark_of s c.args.child ≡ Unmet = read_as c.args.self.now.marks.items c.args.child c.index.result.now Unmet (omega (arith, low, e)) c.index.ensures ∙ c.in-Unmet.is in
    ok_more c.discover.result (λ stage. subst (IsLater s) (sym stage) (discover_later g s k c.args.child low unmet (all_lead g s k c.args.child c.requires.child))) c.discover.ensures.stage

pub returns-in-Unmet-clause-path : goal.returns-in-Unmet-clause-path
returns-in-Unmet-clause-path c =
    let s : Stage = stage_of c.args.self.now in
    let g = c.args.self.now.graph.now in
    let k = c.requires.stage in
    let low = child_inside g s k c.args.child c.requires.child in
    let e = k.marks in
    let unmet : mark_of s c.args.child ≡ Unmet = read_as c.args.self.now.marks.items c.args.child c.index.result.now Unmet (omega (arith, low, e)) c.index.ensures ∙ c.in-Unmet.is in
    ok_more c.discover.result (λ stage v path. subst (λ t. IsOnPath t v) (sym stage) (path_stays g s k c.args.child low unmet v path)) c.discover.ensures.stage

pub returns-in-Unmet-clause-looked : goal.returns-in-Unmet-clause-looked
returns-in-Unmet-clause-looked c =
    let s : Stage = stage_of c.args.self.now in
    let g = c.args.self.now.graph.now in
    let k = c.requires.stage in
    let low = child_inside g s k c.args.child c.requires.child in
    let e = k.marks in
    let unmet : mark_of s c.args.child ≡ Unmet = read_as c.args.self.now.marks.items c.args.child c.index.result.now Unmet (omega (arith, low, e)) c.index.ensures ∙ c.in-Unmet.is in
    ok_more c.discover.result
    (λ stage. inr (subst (λ t. IsOnPath t c.args.child) (sym stage) (path_new g s k c.args.child low unmet), subst (λ t. IsInLast t c.args.child) (sym stage) (last_new g s k c.args.child low unmet)))
    c.discover.ensures.stage

pub returns-in-OnPath-clause-looked : goal.returns-in-OnPath-clause-looked
returns-in-OnPath-clause-looked c =
    let s : Stage = stage_of c.args.self.now in
    let g = c.args.self.now.graph.now in
    let k = c.requires.stage in
    let low = child_inside g s k c.args.child c.requires.child in
    let e = k.marks in
    let path : IsOnPath s c.args.child = read_as c.args.self.now.marks.items c.args.child c.index.result.now Unmet (omega (arith, low, e)) c.index.ensures ∙ c.in-OnPath.is in
    inr (ap (λ (x : Stage). mark_of x c.args.child) c.join.ensures.same ∙ path, c.join.ensures.last)

pub returns-in-Passed-clause-looked : goal.returns-in-Passed-clause-looked
returns-in-Passed-clause-looked c =
    let s : Stage = stage_of c.args.self.now in
    let k = c.requires.stage in
    let low = child_inside c.args.self.now.graph.now s k c.args.child c.requires.child in
    let e = k.marks in
    let mark : mark_of s c.args.child ≡ c.index.result.now = read_as c.args.self.now.marks.items c.args.child c.index.result.now Unmet (omega (arith, low, e)) c.index.ensures in
    inl (elim c.in-Passed.is [ inl passed ↦ ap is_done (mark ∙ passed) | inr closed ↦ ap is_done (mark ∙ closed) ])
