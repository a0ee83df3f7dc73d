use Rattle.std.proofs.Common.{◌≡◌, ◌∙◌, true, false, Result, Ok, Err, IfOk, sym, ap, subst}
use Rattle.mm_explore.specs.{Explored.{IsExplored, IsAll}, Findings.explored_turns, Finds.Finds, FoundLists.{HasKept}, Noting.Noted}
use Rattle.mm_explore.specs.declared.search.Search.{Search}
use Rattle.mm_explore.proofs.Steps.{searched}
use Rattle.mm_explore.proofs.search.Search.explored.Goals as goal

pub explored-requires-clause-groups : goal.explored-requires-clause-groups
explored-requires-clause-groups c =
    c.deref.ensures.value ∙ ap (λ (x : Search). x.groups.items) c.in_ok-note_endless.ensures.rest ∙ c.in_ok-run.ensures.come.groups

pub explored-requires-clause-kept : goal.explored-requires-clause-kept
explored-requires-clause-kept c =
    subst (λ (x : Search). HasKept c.args.img.now x.found c.note_endless.new.self.configs) (sym c.in_ok-note_endless.ensures.rest) c.in_ok-note_endless.ensures.kept

pub explored-requires-clause-noted : goal.explored-requires-clause-noted
explored-requires-clause-noted c =
    let i = c.args.img.now in
    let z = c.note_endless.new.self in
    subst (λ (x : Search). Noted i x.found (explored_turns i x.found) z.findings) (sym c.in_ok-note_endless.ensures.rest) c.in_ok-note_endless.ensures.noted

pub explored-requires-clause-ends : goal.explored-requires-clause-ends
explored-requires-clause-ends c = let h = c.in_ok-note_endless.ensures.ends in (h.ends, h.noted)

if_more : {A E : Type 0} {P Q : A → Type 0} (r : Result A E) → ((x : A) → P x → Q x) → IfOk r P → IfOk r Q
if_more (Ok x) f h = f x h
if_more (Err e) f h = tt

pub returns : goal.returns
returns c =
    let i = c.args.img.now in
    let s = c.run.new.self in
    let come = c.in_ok-run.ensures.come in
    let k = searched i come.image s come in
    let ends = c.in_ok-note_endless.ensures.ends in
    let P : Search → Type 0 =
    λ x. IsExplored i s.limit x.found × (x.all ≡ true → IsAll i x.found) × (x.all ≡ false → IsAll i x.found → ⊥) in
    let now : P c.note_endless.new.self = subst P (sym c.in_ok-note_endless.ensures.rest) k in
    if_more c.explored.result
    (λ e h. subst (λ n. Finds i n e) c.in_ok-run.ensures.limit (h s.limit ends.ends now.0 now.1 now.2 ends.noted ends.are))
    c.explored.ensures
