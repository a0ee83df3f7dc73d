use Rattle.std.proofs.Common.{◌+◌, refl, ap, ◌∙◌}
use Rattle.mm_vmem.specs.{contracts.vmem.VMem.the_view, Cached.Cached}
use Rattle.mm_vmem.proofs.Held.{bring_held, bring_meaning, bring_there, bring_lines, bring_entries, bring_numbers}
use Rattle.mm_vmem.proofs.vmem.VMem.bring.Goals as goal

pub invariant_of-self-2 : goal.invariant_of-self-2
invariant_of-self-2 c =
    bring_held c.args.self.now (the_view (record c.self.inside { tally = record c.self.inside.tally { misses = c.self.inside.tally.misses + 1 } })) c.make_room.new.self
    (the_view c.self-2.inside) c.args.block c.args.frame
    (ap (λ (m : Cached). record m { numbers = record m.numbers { misses = m.numbers.misses + 1 } }) c.self.view_is) c.requires.absent c.requires.frame
    c.make_room.ensures.lines c.make_room.ensures.after c.make_room.ensures.pages c.make_room.ensures.count c.make_room.ensures.entries c.make_room.ensures.numbers
    (c.self-2.view_is ∙ c.look_up.ensures) refl refl c.read_packed-cells.new.self c.read_packed-cells.ensures.after c.read_packed-cells.result c.read_packed-cells.ensures.cells c.fill_packed.new.self
    c.fill_packed.ensures
    c.self-2.invariant c.requires.few c.requires.some

pub returns-clause-there : goal.returns-clause-there
returns-clause-there c =
    bring_there c.args.self.now (the_view (record c.self.inside { tally = record c.self.inside.tally { misses = c.self.inside.tally.misses + 1 } })) c.make_room.new.self
    (the_view c.self-2.inside) c.args.block c.args.frame
    (ap (λ (m : Cached). record m { numbers = record m.numbers { misses = m.numbers.misses + 1 } }) c.self.view_is) c.requires.absent c.requires.frame
    c.make_room.ensures.lines c.make_room.ensures.after c.make_room.ensures.pages c.make_room.ensures.count c.make_room.ensures.entries c.make_room.ensures.numbers
    (c.self-2.view_is ∙ c.look_up.ensures) refl refl c.read_packed-cells.new.self c.read_packed-cells.ensures.after c.read_packed-cells.result c.read_packed-cells.ensures.cells c.fill_packed.new.self
    c.fill_packed.ensures
    c.self-2.invariant

pub returns-clause-after : goal.returns-clause-after
returns-clause-after c =
    bring_meaning c.args.self.now (the_view (record c.self.inside { tally = record c.self.inside.tally { misses = c.self.inside.tally.misses + 1 } })) c.make_room.new.self
    (the_view c.self-2.inside) c.args.block c.args.frame
    (ap (λ (m : Cached). record m { numbers = record m.numbers { misses = m.numbers.misses + 1 } }) c.self.view_is) c.requires.absent c.requires.frame
    c.make_room.ensures.lines c.make_room.ensures.after c.make_room.ensures.pages c.make_room.ensures.count c.make_room.ensures.entries c.make_room.ensures.numbers
    (c.self-2.view_is ∙ c.look_up.ensures) refl refl c.read_packed-cells.new.self c.read_packed-cells.ensures.after c.read_packed-cells.result c.read_packed-cells.ensures.cells c.fill_packed.new.self
    c.fill_packed.ensures
    c.self-2.invariant

pub returns-clause-lines : goal.returns-clause-lines
returns-clause-lines c =
    bring_lines c.args.self.now (the_view (record c.self.inside { tally = record c.self.inside.tally { misses = c.self.inside.tally.misses + 1 } })) c.make_room.new.self
    (the_view c.self-2.inside) c.args.block c.args.frame
    (ap (λ (m : Cached). record m { numbers = record m.numbers { misses = m.numbers.misses + 1 } }) c.self.view_is) c.requires.absent c.requires.frame
    c.make_room.ensures.lines c.make_room.ensures.after c.make_room.ensures.pages c.make_room.ensures.count c.make_room.ensures.entries c.make_room.ensures.numbers
    (c.self-2.view_is ∙ c.look_up.ensures) refl refl c.read_packed-cells.new.self c.read_packed-cells.ensures.after c.read_packed-cells.result c.read_packed-cells.ensures.cells c.fill_packed.new.self
    c.fill_packed.ensures

pub returns-clause-entries : goal.returns-clause-entries
returns-clause-entries c =
    bring_entries c.args.self.now (the_view (record c.self.inside { tally = record c.self.inside.tally { misses = c.self.inside.tally.misses + 1 } })) c.make_room.new.self
    (the_view c.self-2.inside) c.args.block c.args.frame
    (ap (λ (m : Cached). record m { numbers = record m.numbers { misses = m.numbers.misses + 1 } }) c.self.view_is) c.requires.absent c.requires.frame
    c.make_room.ensures.lines c.make_room.ensures.after c.make_room.ensures.pages c.make_room.ensures.count c.make_room.ensures.entries c.make_room.ensures.numbers
    (c.self-2.view_is ∙ c.look_up.ensures) refl refl c.read_packed-cells.new.self c.read_packed-cells.ensures.after c.read_packed-cells.result c.read_packed-cells.ensures.cells c.fill_packed.new.self
    c.fill_packed.ensures

pub returns-clause-numbers : goal.returns-clause-numbers
returns-clause-numbers c =
    bring_numbers c.args.self.now (the_view (record c.self.inside { tally = record c.self.inside.tally { misses = c.self.inside.tally.misses + 1 } })) c.make_room.new.self
    (the_view c.self-2.inside) c.args.block c.args.frame
    (ap (λ (m : Cached). record m { numbers = record m.numbers { misses = m.numbers.misses + 1 } }) c.self.view_is) c.requires.absent c.requires.frame
    c.make_room.ensures.lines c.make_room.ensures.after c.make_room.ensures.pages c.make_room.ensures.count c.make_room.ensures.entries c.make_room.ensures.numbers
    (c.self-2.view_is ∙ c.look_up.ensures) refl refl c.read_packed-cells.new.self c.read_packed-cells.ensures.after c.read_packed-cells.result c.read_packed-cells.ensures.cells c.fill_packed.new.self
    c.fill_packed.ensures
