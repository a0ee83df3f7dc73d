use Rattle.std.proofs.Common.{◌≡◌, ◌+◌, ◌<◌, ◌⊎◌, inl, inr, ℕ, List, sym, ap, subst, length, arith}
use Rattle.std.proofs.lemmas.Bool.{cases_lt}
use Rattle.std.specs.{Prelude.IsTrue, FinMap.is_sorted, Ordering.nat_cmp}
use Rattle.mm_word.specs.declared.word.Cell.{Cell}
use Rattle.mm_pairs.specs.Named.{HasGrown}
use Rattle.mm_config.specs.declared.configs.Configs as code
use Rattle.mm_config.specs.Naming.{IsRest}
use Rattle.mm_config.proofs.{OneNote.{slots_weaker, slots_twice, no_slots, trees_after_slots}, Started.{trees_at_start, no_pages, started}}
use Rattle.mm_config.proofs.configs.Configs.note_all.Goals as goal

pub loop-at-init : goal.loop-at-init
loop-at-init c = no_slots (λ k. k < 0) (λ k lt. omega (arith, lt)) c.args.self.now (trees_at_start c.requires.0 c.args.self.now c.requires.1)

pub note_slot-requires-clause-trees : goal.note_slot-requires-clause-trees
note_slot-requires-clause-trees c =
    let me = c.args.self.now in
    trees_after_slots (λ k. k < c.loop-at.at) me c.loop-at.self c.loop-at.invariant (trees_at_start c.requires.0 me c.requires.1)

below_or_at : (at k : ℕ) → k < at + 1 → (k < at) ⊎ (k ≡ at)
below_or_at at k lt = elim (cases_lt k at) [ inl low ↦ inl low | inr high ↦ inr (omega (arith, lt, high)) ]

pub loop-at-preserved : goal.loop-at-preserved
loop-at-preserved c =
    let me = c.args.self.now in
    let at = c.loop-at.at in
    let new = c.note_slot.new.self in
    slots_weaker (λ k. (k < at) ⊎ (k ≡ at)) (λ k. k < at + 1) (below_or_at at) me new (slots_twice (λ k. k < at) (λ k. k ≡ at) me c.loop-at.self new c.loop-at.invariant c.in_ok-note_slot.ensures)

pub note_pages-requires-clause-none : goal.note_pages-requires-clause-none
note_pages-requires-clause-none c = no_pages c.requires.0 c.args.self.now c.requires.1 c.loop-at.at c.loop-at.self c.loop-at.invariant

pub note_pages-requires-clause-rising : goal.note_pages-requires-clause-rising
note_pages-requires-clause-rising c = subst (λ (l : List (ℕ × List Cell)). IsTrue (is_sorted nat_cmp l)) (sym c.requires.2) c.requires.1.image.paged.pages.rising

pub returns : goal.returns
returns c = λ i h same.
    let me = c.args.self.now in
    let l = c.loop-at in
    let end = c.loop-at-test.false in
    let count = c.len-at-end.ensures in
    let items = me.base.ok.0 in
    let long = ap length h.base in
    let pages = c.in_ok-note_pages.ensures in
    let mapped = c.in_ok-list_mapped.ensures in
    let c3 = c.list_mapped.new.self in
    let pairs = c.rest.new.pairs in
    let rest = c.in_ok-self.field-0 in
    started i me h l.at l.self l.invariant c.args.pages.now c.note_pages.new.store c.note_pages.new.names (omega (arith, end, count, items, long)) same pages.names pages.still pages.others
    c3.mapped pairs rest (record c3 { store = record c3.store { pairs = pairs }; rest = rest })
    (ap (λ (x : code.Configs). record x { store = record x.store { pairs = pairs }; rest = rest }) mapped.1) mapped.0
    (subst (λ (x : code.Configs). HasGrown x.store.pairs pairs) mapped.1 c.in_ok-self.ensures.grown)
    (subst (λ (x : code.Configs). IsRest pairs x.names rest) mapped.1 c.in_ok-self.ensures.rest)
