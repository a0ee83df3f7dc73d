use Rattle.std.proofs.Common.{◌<◌, ◌++◌, ℕ, length, ap, ◌∙◌, sym, subst, arith}
use Rattle.std.specs.List.{AllByRecursion}
use Rattle.mm_model.specs.{Flags.flags, Fits.slots_of}
use Rattle.mm_config.specs.{Machines.AreApart, Reads.mask_of}
use Rattle.mm_config.proofs.{Standing.{has_kept, kept_long}, Reached.few_slots_of, ChangedLeaves.all_at, Differing.{key_changes, trees, inside, are_apart}}
use Rattle.mm_config.proofs.configs.Configs.differing.Goals as goal

pub get-slots-requires : goal.get-slots-requires
get-slots-requires c =
    let q = c.requires in
    let long = kept_long q.0 q.1 c.args.self.now q.2 in
    let low = q.3 in
    omega (arith, long, low)

pub get-others-requires : goal.get-others-requires
get-others-requires c =
    let q = c.requires in
    let long = kept_long q.0 q.1 c.args.self.now q.2 in
    let low = q.4 in
    omega (arith, long, low)

pub list_changed-requires-clause-was : goal.list_changed-requires-clause-was
list_changed-requires-clause-was c =
    let me = c.args.self.now in
    let q = c.requires in
    let one = c.get-slots.result in
    let other = c.get-others.result in
    let a = has_kept q.0 q.1 me q.2 c.args.one one q.3 c.get-slots.ensures in
    let b = has_kept q.0 q.1 me q.2 c.args.other other q.4 c.get-others.ensures in
    (trees q.0 me.store me.depth a.state b.state one other q.2.image a.config b.config a.is b.is).0

pub list_changed-requires-clause-tree : goal.list_changed-requires-clause-tree
list_changed-requires-clause-tree c =
    let me = c.args.self.now in
    let q = c.requires in
    let one = c.get-slots.result in
    let other = c.get-others.result in
    let a = has_kept q.0 q.1 me q.2 c.args.one one q.3 c.get-slots.ensures in
    let b = has_kept q.0 q.1 me q.2 c.args.other other q.4 c.get-others.ensures in
    (trees q.0 me.store me.depth a.state b.state one other q.2.image a.config b.config a.is b.is).1

pub mask_of-requires : goal.mask_of-requires
mask_of-requires c =
    let me = c.args.self.now in
    let q = c.requires in
    let one = c.get-slots.result in
    let other = c.get-others.result in
    let a = has_kept q.0 q.1 me q.2 c.args.one one q.3 c.get-slots.ensures in
    let b = has_kept q.0 q.1 me q.2 c.args.other other q.4 c.get-others.ensures in
    let few = few_slots_of q.0 a.state a.config q.2.image in
    let list = c.deref.ensures.value ∙ c.in_ok-list_changed.ensures ∙ ap (λ l. l ++ key_changes me.store me.depth one other) c.new-changed.ensures.items in
    subst (AllByRecursion (λ (e : ℕ × ℕ). e.0 < 64)) (sym list) (all_at (λ (e : ℕ × ℕ). e.0 < 64) (key_changes me.store me.depth one other) (λ j e got.
    let low = inside q.0 me.store me.depth a.state b.state one other q.2.image a.config b.config a.is b.is j e got in omega (arith, low, few)))

pub returns : goal.returns
returns c = λ i v h.
    let me = c.args.self.now in
    let q = c.requires in
    let here = kept_long q.0 q.1 me q.2 in
    let there = kept_long i v me h in
    let first = q.3 in
    let second = q.4 in
    let one = c.get-slots.result in
    let other = c.get-others.result in
    let a = has_kept i v me h c.args.one one (omega (arith, here, there, first)) c.get-slots.ensures in
    let b = has_kept i v me h c.args.other other (omega (arith, here, there, second)) c.get-others.ensures in
    let few = few_slots_of i a.state a.config h.image in
    let list = c.deref.ensures.value ∙ c.in_ok-list_changed.ensures ∙ ap (λ l. l ++ key_changes me.store me.depth one other) c.new-changed.ensures.items in
    subst (λ m. AreApart (flags (length i.slots) m) (slots_of a.state.core) (slots_of b.state.core)) (sym (c.mask_of.ensures ∙ ap mask_of list))
    (are_apart i me.store me.depth a.state b.state one other h.image a.config b.config a.is b.is c.apart.ensures.lists few)
