use Rattle.std.proofs.lemmas.Result.{err_from_is_err_and}
use Rattle.mm_model.proofs.Answered.{gives_value}
use Rattle.mm_link.specs.{Answers.Fails, Faults.link_fault, declared.fault.LinkError.TheVariants.NoMemory}
use Rattle.mm_link.specs.Linked.{image_of}
use Rattle.mm_link.proofs.Imaged.{linked_is_image}
use Rattle.mm_link.proofs.LinkResults.{fails_five, fails_large, no_fault, order_few, order_apart, sites_are, few_pages}
use Rattle.mm_link.proofs.linking.image_of_parts.Goals as goal

pub sites_of-requires-clause-few : goal.sites_of-requires-clause-few
sites_of-requires-clause-few c =
    let r = c.requires in
    order_few c.args.objects.now c.typed.ensures r.few c.args.parts.now c.args.placed.now r.parts r.few_parts r.placed r.apart

pub sites_of-requires-clause-apart : goal.sites_of-requires-clause-apart
sites_of-requires-clause-apart c =
    let r = c.requires in
    order_apart c.args.objects.now c.typed.ensures r.few c.args.parts.now c.args.placed.now r.parts r.few_parts r.placed r.apart

pub check_objects-requires-clause-sites : goal.check_objects-requires-clause-sites
check_objects-requires-clause-sites c = sites_are c.args.objects.now c.args.placed.now c.in_ok-sites.sites c.requires.placed c.in_ok-sites.ensures.sites

pub returns-in_err-check_objects : goal.returns-in_err-check_objects
returns-in_err-check_objects c =
    let p = err_from_is_err_and c.from_residual-in_err-check_objects.result c.from_residual-in_err-check_objects.ensures.1 in
    rw (p.1, p.2) (fails_five c.args.objects.now c.in_err-check_objects.field-0.0 c.requires.apart c.in_err-check_objects.ensures)

pub returns-in_err-check_frames : goal.returns-in_err-check_frames
returns-in_err-check_frames c =
    let p = err_from_is_err_and c.from_residual-in_err-check_frames.result c.from_residual-in_err-check_frames.ensures.1 in
    rw (p.1, p.2) (fails_large c.args.objects.now c.in_err-check_frames.field-0.0 c.requires.apart c.in_ok-check_objects.ensures c.in_err-check_frames.ensures)

pub image_of-requires-clause-image : goal.image_of-requires-clause-image
image_of-requires-clause-image c =
    linked_is_image c.args.objects.now c.typed.ensures (no_fault c.args.objects.now c.requires.apart c.in_ok-check_objects.ensures c.in_ok-check_frames.ensures)

pub image_of-requires-clause-sites : goal.image_of-requires-clause-sites
image_of-requires-clause-sites c = sites_are c.args.objects.now c.args.placed.now c.in_ok-sites.sites c.requires.placed c.in_ok-sites.ensures.sites

pub image_of-requires-clause-few : goal.image_of-requires-clause-few
image_of-requires-clause-few c =
    few_pages c.args.objects.now c.page_count-pages.result c.args.parts.now c.in_ok-check_frames.ensures c.page_count-pages.ensures.count c.requires.parts

pub returns : goal.returns
returns c =
    let objects = c.args.objects.now in
    gives_value Fails NoMemory (link_fault objects) (image_of objects) c.image_of.result tt
    (no_fault objects c.requires.apart c.in_ok-check_objects.ensures c.in_ok-check_frames.ensures) c.image_of.ensures.image c.image_of.ensures.memory
