use Rattle.std.proofs.Common.{◌≡◌, false, is_some, ap, ◌∙◌, sym, subst}
use Rattle.mm_draft.specs.{Drafts.place_of, Faults.fault_if}
use Rattle.mm_asm.specs.{Names.{Use, name_of}, Faults.in_source, Answers.Meets}
use Rattle.mm_asm.proofs.{BuiltNames.{limit_is, absent_is}, FirstSeen.added}
use Rattle.mm_line.specs.declared.fault.Fault.TheVariants.{Limit}
use Rattle.mm_asm.proofs.externals.add_use.Goals as goal

pub returns-clause-names : goal.returns-clause-names
returns-clause-names c =
    let d = c.args.draft.now in
    let u = c.args.u.now in
    let same : c.bytes-name.result.now ≡ name_of u = c.bytes-name.ensures ∙ ap name_of c.u.view_is in
    let none : is_some (place_of d c.bytes-name.result.now) ≡ false = ap is_some (sym c.place_of.ensures) ∙ sym c.is_some.ensures ∙ c.if-is_some.false in
    added d u c.args.names.now.keys c.insert.new.self.keys c.bytes-name.result same (absent_is d u c.bytes-name.result.now same none) c.in_ok-insert.ensures.keys

pub returns-clause-faults : goal.returns-clause-faults
returns-clause-faults c =
    let d = c.args.draft.now in
    let u = c.args.u.now in
    let same : c.bytes-name.result.now ≡ name_of u = c.bytes-name.ensures ∙ ap name_of c.u.view_is in
    let none : is_some (place_of d c.bytes-name.result.now) ≡ false = ap is_some (sym c.place_of.ensures) ∙ sym c.is_some.ensures ∙ c.if-is_some.false in
    let e = limit_is d u c.args.names.now.keys c.bytes-name.result.now c.is_too_many.result same (absent_is d u c.bytes-name.result.now same none) c.is_too_many.ensures in
    let seen = ap (λ (v : Use). in_source v.source (fault_if c.is_too_many.result Limit v.target.mark.left)) c.u.view_is in
    subst (Meets c.args.first.now c.meet_if.new.first) (seen ∙ e) c.meet_if.ensures
