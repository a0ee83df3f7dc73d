use Rattle.std.proofs.Common.{◌≡◌, [], Some, slice_get, refl, sym, ap, ◌∙◌, subst, arith}
use Rattle.std.proofs.lemmas.{Map.Iter.{rest_more, rest_all}, Option.slice_get_within}
use Rattle.std.specs.Map.Iter.{deref_pair}
use Rattle.mm_explore.specs.{Findings.explored_turns, FoundLists.{IsAt}}
use Rattle.mm_explore.specs.declared.{explored.Ending.TheVariants.Endless, search.Search.Search}
use Rattle.mm_explore.specs.declared.ends.End as code_end
use Rattle.mm_explore.proofs.{AllFound.at_index, Steps.{list_few, can_put, is_put, is_kept}}
use Rattle.mm_explore.proofs.NotingSets.{SetsLeft, sets_begin, sets_end, ends_few, next_at, next_here, set_noted}
use Rattle.mm_explore.proofs.search.Search.note_sets.Goals as goal

pub loop-at-init : goal.loop-at-init
loop-at-init c =
    let i = c.args.img.now in
    let s = c.args.self.now in
    record {
      rest = refl;
      kept = c.requires.come.kept;
      noted = c.requires.come.noted;
      left = subst (SetsLeft i s.found s.findings) (sym (c.into_iter-at-iterator.ensures.into_iter_gives ∙ c.iter-at-items.ensures.rest))
          (sets_begin i s.found s.findings c.args.busy.now.entries c.requires.come.ended c.requires.sets);
    }

pub put-requires : goal.put-requires
put-requires c =
    let i = c.args.img.now in
    let list = c.args.self.now.found in
    let l = c.loop-at in
    let now = rest_more deref_pair l.at-iterator c.next.new.self c.next.result (c.in-Some.at, c.in-Some.slots) c.in-Some.is c.next.ensures.steps in
    let here = next_here i list l.self.findings l.at-iterator l.invariant.left (c.in-Some.at.now, c.in-Some.slots.now) c.next.new.self now in
    can_put i list l.self.configs l.invariant.kept c.in-Some.at.now (slice_get_within list c.in-Some.at.now _ here)

pub note_end-requires : goal.note_end-requires
note_end-requires c =
    let i = c.args.img.now in
    let s = c.args.self.now in
    let l = c.loop-at in
    let h = l.invariant.left in
    let few = ends_few i s.found l.self.findings l.at-iterator h in
    let all = list_few i s.all s.limit s.found (explored_turns i s.found) [] c.requires.come.goes in
    let room = c.requires.come.room in
    record { room = (i, s.found, h.ends, h.noted, omega (arith, few, all, room)) }

pub loop-at-preserved : goal.loop-at-preserved
loop-at-preserved c =
    let i = c.args.img.now in
    let list = c.args.self.now.found in
    let l = c.loop-at in
    let h = l.invariant.left in
    let f = l.self.findings in
    let g = c.note_end.new.self in
    let at = c.in-Some.at.now in
    let slots = c.in-Some.slots.now in
    let rest = c.next.new.self in
    let now = rest_more deref_pair l.at-iterator rest c.next.result (c.in-Some.at, c.in-Some.slots) c.in-Some.is c.next.ensures.steps in
    let t = next_at i list f l.at-iterator h (at, slots) rest now in
    let here : slice_get list at ≡ Some t = next_here i list f l.at-iterator h (at, slots) rest now in
    let low = slice_get_within list at t here in
    let put = is_put i list c.put.new.self at low (c.in_ok-put.ensures i _ l.invariant.kept.stands) in
    let there : IsAt i list t c.put.new.self = subst (λ u. IsAt i list u c.put.new.self) (at_index list at t [] here) put in
    let core = c.core.ensures i _ there in
    let groups = c.deref.ensures.value ∙ ap (λ (x : Search). x.groups.items) l.invariant.rest ∙ c.requires.come.groups in
    let e : code_end.End = record { at = at; ending = Endless; busy = slots } in
    record {
      rest = ap (λ (x : Search). record x { configs = c.put.new.self; findings = g }) l.invariant.rest;
      kept = is_kept i list t c.put.new.self there;
      noted = c.in_ok-note_end.ensures.noted i list (explored_turns i list) l.invariant.noted;
      left = set_noted i list f l.at-iterator h (at, slots) rest now g e c.core.result.now c.deref.result.now refl refl core groups (c.in_ok-note_end.ensures.ends i list h.ends t h.noted here core groups);
    }

pub returns-clause-ends : goal.returns-clause-ends
returns-clause-ends c =
    let i = c.args.img.now in
    let l = c.loop-at in
    let none = rest_all deref_pair l.at-iterator c.next.new.self c.next.result c.in-None.is c.next.ensures.steps in
    sets_end i c.args.self.now.found l.self.findings l.at-iterator l.invariant.left l.self
    (ap (λ (x : Search). x.all) l.invariant.rest ∙ c.requires.all) (ap (λ (x : Search). x.found) l.invariant.rest) refl none
