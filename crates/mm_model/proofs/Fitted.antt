-- What a state has that fits an image.
use Rattle.std.{proofs.Common.{◌≡◌, map, sym, ap, ◌∙◌}, specs.List.AllByRecursion}
use Rattle.mm_model.specs.{Memory.IsPaged, State.{Core, State}, Image.{Image, start}, Spelling.IsImage}
use Rattle.mm_model.specs.Fits.{slots_of, identity_of, IsState, Fits, IsConsistent, IsOfVersion, HandlersAreOthers}
use Rattle.mm_model.specs.Fits.{IsCore}
use Rattle.mm_model.proofs.{CoreRows.{of_version_by, identities_of}, CoreSteps.{Fitting, handlers_by}}
use Rattle.mm_model.proofs.Starts.{start_slots, start_core}

-- each slot's handler is another slot
pub image_handlers : (i : Image) (core : Core) → IsImage i → identities_of core ≡ map identity_of i.slots → HandlersAreOthers core
image_handlers i core img same =
    let first = start_core i img.rising img.fresh in
    handlers_by (start i).core core first.formed.rising first.handlers (same ∙ sym (ap (map identity_of) (start_slots i)))

pub fitting_of : (i : Image) (s : State) → IsImage i → Fits i s → Fitting s.core
fitting_of i s img fits = record { handlers = image_handlers i s.core img fits.same_slots; matched = fits.matched }

-- its memory has whole pages, no more than frames
pub paged_of : (i : Image) (s : State) → IsState s → Fits i s → IsPaged s.memory
paged_of i s h fits = record { pages = h.pages; fitting = fits.mapped }

-- the numbers and groups of its slots are below 64
image_numbers : (i : Image) (core : Core) → IsImage i → identities_of core ≡ map identity_of i.slots → AllByRecursion (IsOfVersion 2) (slots_of core)
unfolding start
image_numbers i core img same =
    of_version_by 2 (slots_of core) (slots_of (start i).core) (same ∙ sym (ap (map identity_of) (start_slots i))) (start_core i img.rising img.fresh).numbers

-- its core is one of a machine, where what the types keep is kept
pub core_of : (i : Image) (s : State) → IsImage i → IsState s → Fits i s → IsConsistent s.core → IsCore s.core
core_of i s img h fits kept =
    let fit = fitting_of i s img fits in
    record { formed = h.core; numbers = image_numbers i s.core img fits.same_slots; handlers = fit.handlers; matched = fit.matched; kept = kept }
