use Rattle.std.proofs.Common.{inl, inr, ◌^◌, sym, ap, ◌∙◌}
use Rattle.std.proofs.{lemmas.Bool.cases_lt, Math.Nat.div-eq_of_lt}
use Rattle.mm_config.{specs.Naming.leaf_at, proofs.PageTrees.past}
use Rattle.mm_config.proofs.pages.page_of.Goals as goal

pub returns-then-place-names-ne0 : goal.returns-then-place-names-ne0
returns-then-place-names-ne0 c =
    let pairs = c.args.store.now.pairs in
    let names = c.args.names.now in
    let place = c.find-place.result in
    elim (cases_lt place (2 ^ names.height)) [
      | inl low ↦ absurd (c.if-place-names-ne0.true (div-eq_of_lt {n = place} {m = 2 ^ names.height} low))
      | inr high ↦ sym (ap (leaf_at pairs names.height names.pages) (sym c.find-place.ensures) ∙ past pairs names.height names.pages place high)
    ]
