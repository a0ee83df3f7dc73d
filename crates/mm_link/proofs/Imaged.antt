-- What objects link to is an image.
use Rattle.std.{proofs.Common.{◌≡◌, List, None, refl, sym, subst, inl, arith}, specs.List.AllByRecursion}
use Rattle.mm_model.specs.Spelling.{IsImage}
use Rattle.mm_object.specs.Objects.{Object, IsObject}
use Rattle.mm_link.specs.{Faults.{link_fault, page_count}, Linked.{cells_of, pages_of, first_page, image_of}}
use Rattle.mm_link.specs.Laws.{LinkedObjectsAreImages}
use Rattle.mm_link.proofs.{Clean.{clean, few_frames, page_frames, some_frames}, SegmentPlaces.near_sites}
use Rattle.mm_link.proofs.{Numbered.slots_are, Paged.{cells_hold, pages_long, pages_whole, pages_hold}}

pub linked_is_image : (objects : List Object) → AllByRecursion IsObject objects → link_fault objects ≡ None → IsImage (image_of objects)
unfolding image_of pages_of
linked_is_image objects are none =
    let is = clean objects none in
    let few = few_frames objects is.size in
    let within = page_frames objects in
    let near = near_sites objects are (omega arith) in
    let slots = slots_are objects are is near in
    let long = pages_long (page_count objects) first_page (cells_of objects) in
    record {
      version = inl refl;
      mode = λ e. refl;
      some_slots = slots.some;
      few_slots = slots.few;
      rising = slots.rising;
      fresh = slots.fresh;
      some_frames = some_frames objects;
      few_frames = few;
      paged = record { pages = pages_whole (page_count objects) first_page (cells_of objects) (omega arith); fitting = omega arith };
      words = pages_hold (page_count objects) first_page (cells_of objects) (cells_hold objects are near);
    }

pub linked_objects_are_images : LinkedObjectsAreImages
linked_objects_are_images objects i are linked = subst IsImage (sym linked.image) (linked_is_image objects are linked.clean)
