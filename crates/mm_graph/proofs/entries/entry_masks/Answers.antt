use Rattle.std.proofs.Common.{◌≡◌, ◌-◌, ◌^◌, length, replicate, rules, sym, subst}
use Rattle.mm_model.specs.{Reach.{Entries.{All as AnyEntry}}}
use Rattle.mm_word.specs.PointerBits.{bits_of-pointer_of}
use Rattle.mm_graph.{specs.Masks.{IsEntryMasks, meaning}, proofs.EntryMasks.{any_masks, list_masks}}
use Rattle.mm_graph.proofs.entries.entry_masks.Goals as goal

pub returns-in_ok-masks-in-All : goal.returns-in_ok-masks-in-All
returns-in_ok-masks-in-All c =
    let e : c.in_ok-masks-in-All.masks.items ≡ replicate (length c.args.keys.now) (2 ^ 64 - 1) = search rules in
    subst (λ v. IsEntryMasks (meaning v) c.args.keys.now c.in_ok-masks-in-All.masks.items) (sym c.in-All.is) (subst (IsEntryMasks AnyEntry c.args.keys.now) (sym e) (any_masks c.args.keys.now))

pub returns-in_ok-masks-in-These : goal.returns-in_ok-masks-in-These
returns-in_ok-masks-in-These c =
    let z = rw c.deref.ensures.value at c.in_ok-seeds-in-These.ensures in
    let m = rw c.deref-in-These.ensures.value at c.in_ok-masks-in-These.ensures in
    subst (λ v. IsEntryMasks (meaning v) c.args.keys.now c.in_ok-masks-in-These.masks.items) (sym c.in-These.is)
    (list_masks c.in-These.list.items c.in_ok-seeds-in-These.seeds.items c.args.keys.now c.in_ok-masks-in-These.masks.items (λ k h. bits_of-pointer_of k.bits h) z c.requires.keys m)
