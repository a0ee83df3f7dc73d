use Rattle.std.proofs.Common.{◌↔◌, sym, subst}
use Rattle.std.proofs.lemmas.Result.{IfOk-weaker}
use Rattle.std.specs.{Prelude.Contains, List.flat_map}
use Rattle.mm_model.specs.{Spelling.IsImage}
use Rattle.mm_hold.specs.declared.conduct.Conduct.{Conduct}
use Rattle.mm_hold.specs.Deeds.{Findings, all_deeds, carrying_in}
use Rattle.mm_hold.specs.Conducts.{AreConduct, AreFindings, NotesFrom}
use Rattle.mm_hold.proofs.Noted.{conduct_is}
use Rattle.mm_hold.proofs.conduct.conduct_of.Goals as goal

pub returns : goal.returns
returns c =
    let i = c.args.kernel.now.image in
    let kept = c.args.kernel.now.kept in
    let f : Findings = record { tables = c.args.tables.now; first = c.args.first.now; carrying = c.as_slice.result.now } in
    let fd : AreFindings i kept f = record {
      exact = c.requires.exact;
      first = c.requires.first;
      carrying =
          λ w. subst (λ l. Contains l w ↔ Contains (flat_map carrying_in c.args.tables.now.stored) w) (sym c.as_slice.ensures.value) (c.in_ok-carrying.ensures w);
    } in
    IfOk-weaker c.conduct_in.result (λ (k : Conduct). NotesFrom (all_deeds i kept f) k) (λ (k : Conduct). AreConduct i kept k)
    (λ k h. conduct_is i kept (subst IsImage c.image.ensures c.slots-slots.ensures.image) f fd k h) c.conduct_in.ensures
