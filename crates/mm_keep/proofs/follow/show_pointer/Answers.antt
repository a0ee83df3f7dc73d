use Rattle.std.proofs.Common.{◌≡◌, true, false, [], ◌∷◌, subst}
use Rattle.std.proofs.lemmas.Result.{on_ok_weaker}
use Rattle.mm_keep.specs.Claims.{AddsFacts}
use Rattle.mm_keep.proofs.{Claims.facts_none, Loops.facts_at}
use Rattle.mm_kernel.specs.declared.fact.Leak.TheVariants.{FaultPointer}
use Rattle.mm_kernel.specs.Facts.Fact.{HasLeak}
use Rattle.mm_kernel.specs.Facts.{Fact}
use Rattle.mm_kernel.specs.Segments.{meets}
use Rattle.mm_keep.proofs.follow.show_pointer.Goals as goal

pub returns-then-meets : goal.returns-then-meets
returns-then-meets c =
    let to = c.add_leak.new.self in
    let test : (meets c.args.kernel.now.kept c.args.t.now.ip) ≡ true = cc in
    let same : HasLeak (FaultPointer c.addr.result) ≡ HasLeak (FaultPointer c.args.t.now.ip.addr) = cc in
    on_ok_weaker c.add_leak.result (λ h. facts_at c.args.kernel.now.image c.args.kernel.now.kept (meets c.args.kernel.now.kept c.args.t.now.ip) true (HasLeak (FaultPointer c.args.t.now.ip.addr) ∷ []) [] c.args.tables.now to test (subst (λ (x : Fact). AddsFacts c.args.kernel.now.image c.args.kernel.now.kept (x ∷ []) c.args.tables.now to) same (h c.args.kernel.now.image c.args.kernel.now.kept))) c.add_leak.ensures

pub returns-else-meets : goal.returns-else-meets
returns-else-meets c =
    let test : (meets c.args.kernel.now.kept c.args.t.now.ip) ≡ false = cc in
    facts_at c.args.kernel.now.image c.args.kernel.now.kept (meets c.args.kernel.now.kept c.args.t.now.ip) false (HasLeak (FaultPointer c.args.t.now.ip.addr) ∷ []) [] c.args.tables.now c.args.tables.now test (facts_none c.args.kernel.now.image c.args.kernel.now.kept c.args.tables.now)
