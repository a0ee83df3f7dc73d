use Rattle.std.proofs.{Common.{rules, sym}, lemmas.List.Sorted.answers_always}
use Rattle.mm_object.{specs.Objects.place_of, proofs.Found.{found_reloc, missed_reloc}}
use Rattle.mm_object.proofs.object.reloc_in.Goals as goal

-- the closure gives a relocation's place
pub returns-in-Ok-clause-reloc : goal.returns-in-Ok-clause-reloc
returns-in-Ok-clause-reloc c =
    let facts = c.in-Ok.ensures in
    let by_place = facts.position place_of (answers_always _ _ _ (λ f a r g called. search rules)) in
    sym (found_reloc c.args.segment c.args.word c.args.relocs.now c.requires.rising c.place.result c.place.ensures c.in-Ok.at _ facts.bound by_place c.requires.small c.ranges.word.fits)

pub returns-in-Err-clause-reloc : goal.returns-in-Err-clause-reloc
returns-in-Err-clause-reloc c =
    let facts = c.in-Err.ensures in
    let by_place = facts.position place_of (answers_always _ _ _ (λ f a r g called. search rules)) in
    sym (missed_reloc c.args.segment c.args.word c.args.relocs.now c.requires.rising c.place.result c.place.ensures c.in-Err.field-0 by_place)
