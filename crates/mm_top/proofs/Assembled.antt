-- Texts, objects and images, one after the other.
use Rattle.std.proofs.Common.{◌≡◌, ℕ, List, [], ◌∷◌, refl, sym, ◌∙◌, subst}
use Rattle.mm_model.specs.{Image.Image, Report.report_after}
use Rattle.mm_object.specs.Objects.{Object}
use Rattle.mm_link.specs.Linked.{Linked}
use Rattle.mm_top.{specs.{Orders.AreIssued, TextToRun.{AssembleAll, RunsTexts, TextsAreRun}}, proofs.Once.same_objects}
use Rattle.mm_load.proofs.KindsOnce.{one_object, one_spelled}

-- what is read from the files is what was written to them
same_values : (texts : List (List ℕ)) (objects : List Object) (files : List (List ℕ)) (values : List Object) → AssembleAll texts objects files values → values ≡ objects
same_values [] [] [] [] all = refl
same_values (text ∷ texts) (o ∷ objects) (file ∷ files) (v ∷ values) (here, all) =
    let first : v ≡ o = one_object file v o here.read here.written in
    let rest : values ≡ objects = same_values texts objects files values all in
    cc
same_values texts objects files values all = absurd all

runs_linked : (objects values : List Object) (i : Image) → values ≡ objects → Linked objects i → RunsTexts objects values i
runs_linked objects values i same linked = record {
  same = same;
  linked = linked;
  runs =
      λ tells name cycles schedule lists text (items, issues, is).
      let P : Image → Type 0 = λ j. AreIssued j cycles lists items × (text ≡ report_after tells j items) in
      let (theirs, report) = subst P linked.image (issues, is) in
      (items, theirs, report);
}

pub texts_run : TextsAreRun
texts_run texts objects files values names bytes i all (linked_objects, read, (j, linked, spells)) image =
    let same : values ≡ objects = same_values texts objects files values all in
    let these : linked_objects ≡ objects = sym (same_objects values linked_objects read) ∙ same in
    let one : j ≡ i = one_spelled bytes j i spells image in
    runs_linked objects values i same (subst (λ (k : Image). Linked objects k) one (subst (λ (os : List Object). Linked os j) these linked))
