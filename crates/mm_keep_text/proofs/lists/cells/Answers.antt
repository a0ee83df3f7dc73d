use Rattle.std.proofs.Common.{◌+◌, ◌≤◌, ℕ, List, length, take, refl, ap, sym, ◌∙◌, subst, arith}
use Rattle.std.proofs.lemmas.{List.take_all, Iterator.items_from_collect}
use Rattle.std.proofs.lemmas.Iterator.Consumers.{YieldsList-from_copied, YieldsList-at, YieldsList-from_rest}
use Rattle.std.specs.{Prelude.Contains, Map.values_of}
use Rattle.mm_kernel.specs.Derived.{HasFirst}
use Rattle.mm_kernel.specs.declared.form.Form.{Form}
use Rattle.mm_keep_text.specs.Keys.{cell_key, cell_from}
use Rattle.mm_keep_text.proofs.Listing.{Lists, listed_unless, listed_not, listed_whole, listed_ascend}
use Rattle.mm_keep_text.proofs.lists.cells.Goals.{then-not-is_first+in_ok-insert, else-not-is_first}
use Rattle.mm_keep_text.proofs.lists.cells.Goals as goal

pub loop-k-preserved : goal.loop-k-preserved
loop-k-preserved c =
    let cell = c.stored_at-cell.result in
    let N : ℕ × Form → Type 0 = λ x. HasFirst c.args.kernel.now.image c.args.kernel.now.kept x.0 x.1 in
    elim c.if-not-is_first.branch [
      | then-not-is_first+in_ok-insert w ↦
          subst (λ (m : List (List ℕ × (ℕ × Form))). Lists cell_key cell_from (λ x. Contains (take (c.loop-k.k + 1) c.args.tables.now.stored) x × (N x → ⊥)) m)
          (ap (λ m. m.entries) (sym w.listed-is))
          (listed_unless cell_key cell_from c.args.tables.now.stored c.loop-k.k cell N c.stored_at-cell.ensures
          (ap cell_from (sym w.cell_key.ensures.is) ∙ w.cell_key.ensures.again) c.loop-k.listed.entries w.insert.new.self.entries
          w.cell_key.result w.cell_key.ensures.is w.in_ok-insert.ensures.entries (w.if-not-is_first.ensures.no refl) c.loop-k.invariant)
      | else-not-is_first w ↦
          subst (λ (m : List (List ℕ × (ℕ × Form))). Lists cell_key cell_from (λ x. Contains (take (c.loop-k.k + 1) c.args.tables.now.stored) x × (N x → ⊥)) m)
          (ap (λ m. m.entries) (sym w.listed-is))
          (listed_not cell_key cell_from c.args.tables.now.stored c.loop-k.k cell N c.stored_at-cell.ensures (w.if-not-is_first.ensures.yes refl)
          c.loop-k.listed.entries c.loop-k.invariant)
    ]

pub returns-clause-ascend : goal.returns-clause-ascend
returns-clause-ascend c =
    let some = items_from_collect c.collect.result c.collect.ensures.ran
    (YieldsList-from_copied (YieldsList-at c.copied.ensures.source (YieldsList-from_rest (values_of c.loop-k.listed.entries) c.values.ensures.rest))) in
    let items = rw c.in_ok-collect.was at some in
    let N : ℕ × Form → Type 0 = λ x. HasFirst c.args.kernel.now.image c.args.kernel.now.kept x.0 x.1 in
    listed_ascend cell_key cell_from (λ x. Contains (take c.loop-k.k c.args.tables.now.stored) x × (N x → ⊥)) c.loop-k.listed.entries c.in_ok-collect.field-0.items items
    c.loop-k.invariant c.values.ensures.ordered

pub returns-clause-each : goal.returns-clause-each
returns-clause-each c =
    let some = items_from_collect c.collect.result c.collect.ensures.ran
    (YieldsList-from_copied (YieldsList-at c.copied.ensures.source (YieldsList-from_rest (values_of c.loop-k.listed.entries) c.values.ensures.rest))) in
    let items = rw c.in_ok-collect.was at some in
    let N : ℕ × Form → Type 0 = λ x. HasFirst c.args.kernel.now.image c.args.kernel.now.kept x.0 x.1 in
    let end = c.stored-k-end.ensures in
    let long : length c.args.tables.now.stored ≤ c.loop-k.k = omega (arith, end) in
    let all = take_all c.loop-k.k c.args.tables.now.stored long in
    listed_whole cell_key cell_from (λ x. Contains c.args.tables.now.stored x × (N x → ⊥)) c.loop-k.listed.entries c.in_ok-collect.field-0.items items
    (subst (λ l. Lists cell_key cell_from (λ x. Contains l x × (N x → ⊥)) c.loop-k.listed.entries) all c.loop-k.invariant)
