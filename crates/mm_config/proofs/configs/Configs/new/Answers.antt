use Rattle.std.proofs.Common.{◌≡◌, ◌≤◌, ◌^◌, ◌∙◌, List, [], refl, ap, subst, length}
use Rattle.mm_model.specs.{Slot.Slot, Image.start}
use Rattle.mm_mem.specs.Plain.{Plain}
use Rattle.mm_config.specs.{Configurations.configuration, Turning.HasStarted}
use Rattle.mm_config.proofs.Started.{of_version, none_pending, nothing_put_out, core_made, begins, first_kept}
use Rattle.mm_config.proofs.configs.Configs.new.Goals as goal
use Rattle.mm_config.proofs.configs.Configs.new.Goals.{After-pages-2}

pub set_version-requires-clause-slots : goal.set_version-requires-clause-slots
set_version-requires-clause-slots c =
    of_version c.args.img.now c.in_ok-core.core c.slots.result.now c.version.result c.slots.ensures.image c.in_ok-core.ensures.rows c.slots.ensures.slots c.version.ensures.version

pub set_version-requires-clause-silent : goal.set_version-requires-clause-silent
set_version-requires-clause-silent c = nothing_put_out c.in_ok-core.core.outputs c.in_ok-core.ensures.outputs

pub set_split-requires : goal.set_split-requires
set_split-requires c =
    none_pending c.args.img.now c.set_version.new.self c.slots.result.now c.slots.ensures.image (ap (λ k. k.rows) c.set_version.ensures ∙ c.in_ok-core.ensures.rows) c.slots.ensures.slots

started_at : (c : After-pages-2) → HasStarted c.args.img.now (record {
  alloc = c.args.alloc;
  base = c.in_ok-copies.field-0;
  core = c.core.inside.tables;
  mem = Rattle.mm_mem.specs.contracts.plain.PlainMem.the_view c.mem.inside;
  mapped = c.new-3.result;
  store = c.new-4.result;
  depth = c.depth_for.result;
  names = record { slots = 0; queues = 0; outputs = 0; height = 0; pages = 0 };
  rest = 0;
  kept = c.new-5.result;
  slots = c.in_ok-copies-2.field-0;
  revision = c.new-6.result;
  changed = c.new-7.result;
  changed_cells = c.new-8.result;
  numbers = c.new-9.result;
})
started_at c =
    let i = c.args.img.now in
    let core =
    core_made i c.in_ok-core.core c.set_version.new.self c.set_split.new.self c.slots.result.now c.version.result c.split.result c.in_ok-core.ensures.rows c.slots.ensures.slots c.in_ok-core.ensures.outputs
    c.set_version.ensures c.set_split.ensures c.version.ensures.version c.split.ensures.split in
    let memory : c.in_ok-mem.mem.memory ≡ i.memory = c.in_ok-mem.ensures.meaning ∙ λ j. record { pages = c.pages.ensures.pages j; frames = c.frames.ensures.frames j } in
    begins i _ c.slots.ensures.image (c.in_ok-copies.ensures ∙ c.slots-2.ensures.slots) (c.in_ok-copies-2.ensures ∙ c.slots-4.ensures.slots) c.depth_for.ensures.deep
    (subst (λ (l : List Slot). length l ≤ 2 ^ c.depth_for.result) c.slots-3.ensures.slots c.depth_for.ensures.wide)
    (c.core.view_is ∙ core) (ap (λ (m : Plain). m.memory) c.mem.view_is ∙ memory) (ap (λ (m : Plain). m.uses) c.mem.view_is ∙ c.in_ok-mem.ensures.stands) c.new-4.ensures refl c.new-5.ensures

pub note_all-requires : goal.note_all-requires
note_all-requires c = (c.args.img.now, started_at c, c.pages-2.ensures.pages)

pub keep-requires-clause-stands : goal.keep-requires-clause-stands
keep-requires-clause-stands c =
    let i = c.args.img.now in
    (i, record { kept = []; machine = configuration (start i) }, c.in_ok-note_all.ensures i (started_at (goal.at.keep-requires-clause-stands c).After-pages-2) c.pages-2.ensures.pages)

pub returns : goal.returns
returns c =
    let i = c.args.img.now in
    let machine = configuration (start i) in
    first_kept i machine c.in_ok-keep.field-0 c.keep.new.self (c.in_ok-keep.ensures i (record { kept = []; machine = machine }) (c.in_ok-note_all.ensures i (started_at (goal.at.returns c).After-pages-2) c.pages-2.ensures.pages))
