use Rattle.std.proofs.Common.{◌≡◌, true, false, [], ◌∷◌, subst}
use Rattle.std.proofs.lemmas.Result.{on_ok_weaker}
use Rattle.mm_keep.specs.Claims.{AddsFacts}
use Rattle.mm_keep.proofs.{Claims.facts_none, Loops.facts_at}
use Rattle.mm_kernel.specs.declared.fact.Leak.TheVariants.{Fault}
use Rattle.mm_kernel.specs.Facts.Fact.{HasLeak}
use Rattle.mm_kernel.specs.Facts.{Fact}
use Rattle.mm_kernel.specs.{Forms.is_open_form, Threads.form_in}
use Rattle.mm_keep.proofs.follow.show_register.Goals as goal

pub returns-else-is_open_form : goal.returns-else-is_open_form
returns-else-is_open_form c =
    let to = c.add_leak.new.self in
    let test : (is_open_form c.args.kernel.now.kept (form_in c.args.t.now c.args.reg)) ≡ false = cc in
    let same : HasLeak (Fault c.addr.result c.args.reg c.form_at-else-is_open_form.result) ≡ HasLeak (Fault c.args.t.now.ip.addr c.args.reg (form_in c.args.t.now c.args.reg)) = cc in
    on_ok_weaker c.add_leak.result (λ h. facts_at c.args.kernel.now.image c.args.kernel.now.kept (is_open_form c.args.kernel.now.kept (form_in c.args.t.now c.args.reg)) false [] (HasLeak (Fault c.args.t.now.ip.addr c.args.reg (form_in c.args.t.now c.args.reg)) ∷ []) c.args.tables.now to test (subst (λ (x : Fact). AddsFacts c.args.kernel.now.image c.args.kernel.now.kept (x ∷ []) c.args.tables.now to) same (h c.args.kernel.now.image c.args.kernel.now.kept))) c.add_leak.ensures

pub returns-then-is_open_form : goal.returns-then-is_open_form
returns-then-is_open_form c =
    let test : (is_open_form c.args.kernel.now.kept (form_in c.args.t.now c.args.reg)) ≡ true = cc in
    facts_at c.args.kernel.now.image c.args.kernel.now.kept (is_open_form c.args.kernel.now.kept (form_in c.args.t.now c.args.reg)) true [] (HasLeak (Fault c.args.t.now.ip.addr c.args.reg (form_in c.args.t.now c.args.reg)) ∷ []) c.args.tables.now c.args.tables.now test (facts_none c.args.kernel.now.image c.args.kernel.now.kept c.args.tables.now)
