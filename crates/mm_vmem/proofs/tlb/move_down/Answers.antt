use Rattle.std.proofs.Common.{◌≡◌, ◌<◌, ℕ, List, false, length, refl, arith}
use Rattle.mm_model.specs.Counted.{has}
use Rattle.mm_vmem.specs.{declared.tlb.Entry.Entry, Entries.pages_in}
use Rattle.mm_vmem.proofs.Entries.{IsFirst, has_first, absent_entries, its_first, not_here, moves_on, rest_stays}
use Rattle.mm_vmem.proofs.Entries.{moved_down, none_more, no_entry}
use Rattle.mm_vmem.proofs.tlb.move_down.Goals as goal

within : (i n m : ℕ) → i < n → m ≡ n → i < m
within i n m lt e = omega (arith, lt, e)

its : (c : goal.Then-old-first) → IsFirst c.args.first.page c.loop-entry.entry-index c.args.entries.now
its c =
    let l = c.loop-entry in
    let lt = within l.entry-index (length c.args.entries.now) (length l.entries) c.loop-entry-test.true l.auto.entries in
    its_first c.args.first l.carried c.args.entries.now l.entries l.entry-index lt c.loop-entry-test.true l.invariant.front l.invariant.rest l.invariant.before c.if-old-first.true

pub returns-then-old-first-clause-found : goal.returns-then-old-first-clause-found
returns-then-old-first-clause-found c = (λ _. has_first c.args.first.page c.loop-entry.entry-index c.args.entries.now (its c), λ _. refl)

pub returns-then-old-first-clause-moved : goal.returns-then-old-first-clause-moved
returns-then-old-first-clause-moved c =
    let l = c.loop-entry in
    let lt = within l.entry-index (length c.args.entries.now) (length l.entries) c.loop-entry-test.true l.auto.entries in
    moved_down c.args.first l.carried c.args.entries.now l.entries l.entry-index lt c.loop-entry-test.true l.invariant.front l.invariant.rest c.requires (its c)

pub loop-entry-preserved : goal.loop-entry-preserved
loop-entry-preserved c =
    let l = c.loop-entry in
    let old : List Entry = c.args.entries.now in
    let lt = within l.entry-index (length old) (length l.entries) c.loop-entry-test.true l.auto.entries in
    record {
      front = moves_on c.args.first l.carried old l.entries l.entry-index lt c.loop-entry-test.true l.invariant.front l.invariant.rest no_entry;
      rest = rest_stays c.args.first l.carried old l.entries l.entry-index lt c.loop-entry-test.true l.invariant.front l.invariant.rest;
      before = none_more c.args.first.page l.entry-index old l.invariant.before
          (not_here c.args.first l.carried old l.entries l.entry-index lt c.loop-entry-test.true l.invariant.front l.invariant.rest c.if-old-first.false);
    }

absent : (c : goal.After-loop-entry) → has c.args.first.page (pages_in c.args.entries.now) ≡ false
absent c =
    let l = c.loop-entry in
    absent_entries c.args.first.page c.args.entries.now (λ k d lt. let reached : k < l.entry-index = omega (arith, lt, c.loop-entry-test.false) in l.invariant.before k d reached)

pub returns-clause-found : goal.returns-clause-found
returns-clause-found c = (λ h. cc h, λ h. cc (h, absent c))
