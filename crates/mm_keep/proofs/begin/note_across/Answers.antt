use Rattle.std.proofs.Common.{◌≡◌, true, false, [], ◌∷◌}
use Rattle.std.proofs.lemmas.Result.{on_ok_weaker}
use Rattle.mm_keep.proofs.{Claims.facts_none, Loops.facts_at}
use Rattle.mm_kernel.specs.declared.fact.Leak.TheVariants.{Across}
use Rattle.mm_kernel.specs.Facts.Fact.{HasLeak}
use Rattle.mm_kernel.specs.Derived.{reaches_across}
use Rattle.mm_keep.proofs.begin.note_across.Goals as goal

pub returns-then-reaches_across : goal.returns-then-reaches_across
returns-then-reaches_across c =
    let to = c.add_leak.new.self in
    let test : (reaches_across c.args.kernel.now.kept c.args.p) ≡ true = cc in
    on_ok_weaker c.add_leak.result (λ h. facts_at c.args.kernel.now.image c.args.kernel.now.kept (reaches_across c.args.kernel.now.kept c.args.p) true (HasLeak (Across c.args.p) ∷ []) [] c.args.tables.now to test (h c.args.kernel.now.image c.args.kernel.now.kept)) c.add_leak.ensures

pub returns-else-reaches_across : goal.returns-else-reaches_across
returns-else-reaches_across c =
    let test : (reaches_across c.args.kernel.now.kept c.args.p) ≡ false = cc in
    facts_at c.args.kernel.now.image c.args.kernel.now.kept (reaches_across c.args.kernel.now.kept c.args.p) false (HasLeak (Across c.args.p) ∷ []) [] c.args.tables.now c.args.tables.now test (facts_none c.args.kernel.now.image c.args.kernel.now.kept c.args.tables.now)
