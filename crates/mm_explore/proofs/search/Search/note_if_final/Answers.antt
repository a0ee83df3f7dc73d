use Rattle.std.proofs.Common.{◌∙◌, [], ap, refl, subst, length, arith}
use Rattle.mm_explore.specs.{Findings.{IsFinal, are_none}, Noting.{outcome_held}, Outcomes.{ending_of}, Searching.{schedule_at, turns_before, turns_from, AllStay}}
use Rattle.mm_explore.proofs.{Notes.both_ok, HeldEnds.final_outcome}
use Rattle.mm_explore.proofs.Steps.{get_inside, final_so, noted_final, not_final, ends_room, list_few, can_put, is_put, is_kept}
use Rattle.mm_explore.specs.declared.ends.End as code_end
use Rattle.mm_explore.proofs.search.Search.note_if_final.Goals as goal

pub returns-then-not-stay-clause-noted : goal.returns-then-not-stay-clause-noted
returns-then-not-stay-clause-noted c =
    let s = c.args.self.now in
    not_final c.args.img.now s c.args.at c.requires.within
    (subst (λ b. AllStay b c.args.img.now (schedule_at s c.args.at) s.moves.items) c.if-not-stay.true c.requires.stay)

pub put-requires : goal.put-requires
put-requires c = can_put c.args.img.now c.args.self.now.found c.args.self.now.configs c.requires.within.come.kept c.args.at c.requires.within.inside

pub overflow_cast-end : goal.overflow_cast-end
overflow_cast-end c =
    let s = c.args.self.now in
    let i = c.args.img.now in
    let n = length s.moves.items in
    let w = c.requires.within in
    let few = list_few i s.all s.limit s.found (turns_before i s.found c.args.at n) (turns_from i s.found c.args.at n) w.come.goes in
    let room = w.come.room in
    let inside = w.inside in
    omega (arith, few, room, inside)

pub note_end-requires : goal.note_end-requires
note_end-requires c =
    let s = c.args.self.now in
    let w = c.requires.within in
    record { room = (c.args.img.now, s.found, w.come.ended.ends, w.come.ended.noted, ends_room c.args.img.now s c.args.at w) }

pub returns-clause-noted : goal.returns-clause-noted
returns-clause-noted c =
    let s = c.args.self.now in
    let i = c.args.img.now in
    let at = c.args.at in
    let w = c.requires.within in
    let t = schedule_at s at in
    let stay = subst (λ b. AllStay b i t s.moves.items) c.if-not-stay.false c.requires.stay in
    let final : IsFinal i t = final_so i t s.moves.items w.moves stay in
    let there = is_put i s.found c.put.new.self at w.inside (c.in_ok-put.ensures i _ w.come.kept.stands) in
    let core = c.core.ensures i _ there in
    let groups = c.deref-2.ensures.value ∙ w.come.groups in
    let end : code_end.End = record { at = at; ending = c.final_ending.result; busy = 0 } in
    let ending = c.final_ending.ensures ∙ ap (λ l. ending_of (are_none l)) (c.deref.ensures.value ∙ w.moves) in
    both_ok c.note_end.result
    (λ noted ends. noted_final i s at w (record s { configs = c.put.new.self; findings = c.note_end.new.self }) (outcome_held end c.core.result.now c.deref-2.result.now)
    (is_kept i s.found t c.put.new.self there) (noted i s.found (turns_before i s.found at (length s.moves.items)) w.come.noted) final
    (final_outcome i t end c.core.result.now c.deref-2.result.now core groups final ending refl)
    (ends i s.found w.come.ended.ends t w.come.ended.noted (get_inside s.found at [] w.inside) core groups))
    c.note_end.ensures.noted c.note_end.ensures.ends
