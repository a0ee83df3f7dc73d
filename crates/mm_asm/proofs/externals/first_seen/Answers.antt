use Rattle.std.proofs.Common.{[], take, refl, sym, subst}
use Rattle.mm_asm.specs.{Names.{HasEach, externals_with, with_use}, Answers.Meets}
use Rattle.mm_asm.proofs.{BuiltNames.{with_more, limits_met}, ExternalNames.externals_rise}
use Rattle.mm_asm.proofs.FirstSeen.{seen_more, limit_alike}
use Rattle.mm_object.specs.Steps.{key_names}
use Rattle.mm_asm.proofs.externals.first_seen.Goals as goal

pub loop-u-preserved : goal.loop-u-preserved
loop-u-preserved c =
    let l = c.loop-u in
    let d = c.args.draft.now in
    let uses = c.args.uses.now in
    let u = c.u-item.result in
    let seen = key_names l.names.keys in
    let names = externals_with d [] (take l.u-index uses) in
    let rising = externals_rise d (take l.u-index uses) [] tt in
    let more = subst (HasEach (with_use d u names)) (sym c.in_ok-add_use.ensures.names) (seen_more d u seen names l.invariant.names rising) in
    let met = subst (Meets l.first c.add_use.new.first) (limit_alike d u seen names l.invariant.names) c.in_ok-add_use.ensures.faults in
    record {
      names = subst (λ v. HasEach v (key_names c.add_use.new.names.keys)) (sym (with_more d [] uses l.u-index u c.loop-u-test.true c.u-item.is)) more;
      faults = limits_met d c.args.first.now l.first c.add_use.new.first names uses l.u-index u c.loop-u-test.true c.u-item.is refl l.invariant.faults met;
    }
