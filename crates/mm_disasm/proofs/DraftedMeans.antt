-- A text whose lines say an object means it.
use Rattle.std.proofs.Common.{◌≡◌, ℕ, List, [], ◌∷◌, ◌++◌, sym}
use Rattle.mm_draft.specs.Faults.{lines_of}
use Rattle.mm_object.specs.Objects.{Object, IsObject}
use Rattle.mm_asm.specs.Faults.{Means}
use Rattle.mm_disasm.proofs.{Saying.object_lines, Speaking.Speaks, Drafted.drafts, DraftedLate.late_none}
use Rattle.mm_disasm.proofs.DraftedObject.{object_same}

pub drafted_means : (text : List ℕ) (o : Object) → IsObject o → Speaks o → lines_of text ≡ object_lines o ++ [] ∷ [] → Means text o
drafted_means text o is speaks lines =
    let h = drafts o is speaks text lines in
    record { draft = h.draft; early = h.early; late = late_none o is h.draft h.is; object = sym (object_same o is h.draft h.is) }
