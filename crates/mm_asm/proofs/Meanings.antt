-- What a text means is an object.
use Rattle.std.proofs.Common.{sym, subst}
use Rattle.mm_object.specs.Objects.{IsObject}
use Rattle.mm_asm.{specs.Laws.MeaningsAreObjects, proofs.{Bounded.drafts_are_bounded, MeantObjects.object_is}}

pub meanings_are_objects : MeaningsAreObjects
meanings_are_objects text o m = subst IsObject (sym m.object) (object_is m.draft (drafts_are_bounded text m.draft m.early) m.late)
