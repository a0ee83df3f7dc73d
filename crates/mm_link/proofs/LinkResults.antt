-- The whole of linking: the first fault, or the image.
use Rattle.std.proofs.Common.{◌≡◌, ℕ, ◌+◌, ◌*◌, ◌/◌, ◌≤◌, false, List, [], ◌∷◌, length, Option, Some, None, Result, Ok}
use Rattle.std.proofs.{Common.{Err, refl, sym, ap, ◌∙◌, subst, arith}, lemmas.List.Sorted.length_permutation}
use Rattle.std.specs.{Prelude.IfOk, Result.IsErrAnd, Option.option_map, List.{flat_map, AllByRecursion, IsDistinct}}
use Rattle.mm_model.specs.{Answers.{IsUnless, ValueOrFault}, Slot.Slot, Image.Image}
use Rattle.mm_word.specs.declared.word.Cell.{Cell}
use Rattle.mm_image.specs.Images.{image_from}
use Rattle.mm_object.specs.Objects.{Object, IsObject}
use Rattle.mm_link.specs.declared.fault.{LinkFault.{LinkFault, TheVariants.Twice}, LinkError.LinkError}
use Rattle.mm_link.specs.Placing.{Part, Site, parts_of, by_length, bytes_of, sites_from, sites_of, origin}
use Rattle.mm_link.specs.Faults.{first_again, twice, undefined, offset, slot_twice, no_thread, handler, too_large}
use Rattle.mm_link.specs.Faults.{first_of, link_fault, page_count, frames_of}
use Rattle.mm_link.specs.Linked.{Linked, object_slots, by_number, slots_of, part_cells, cells_of, pages_from}
use Rattle.mm_link.specs.{Linked.{first_page, pages_of, image_of}, Answers.Fails, Steps.{part_names, same_part}}
use Rattle.mm_link.proofs.Firsts.{sooner, sooner_none, first_of-append, fails_sooner, fails_later}
use Rattle.mm_link.proofs.{Clean.{few_frames, page_frames}, Parts.{are_parts, placed}, Again.distinct_placed}
use Rattle.mm_link.specs.declared.fault.LinkError.TheVariants as errors

-- 1. The seven faults, as they are tested.

abbrev pub five : List Object → Option LinkFault
five objects = first_of (undefined objects ∷ offset objects ∷ slot_twice objects ∷ no_thread objects ∷ handler objects ∷ [])

alone : (p : Option LinkFault) → first_of (p ∷ []) ≡ p
alone None = refl
alone (Some f) = refl

fault_is : (objects : List Object) → link_fault objects ≡ sooner (twice objects) (sooner (five objects) (too_large objects))
unfolding link_fault
fault_is objects =
    first_of-append (twice objects ∷ []) (undefined objects ∷ offset objects ∷ slot_twice objects ∷ no_thread objects ∷ handler objects ∷ too_large objects ∷ [])
    ∙ ap (λ p. sooner p (first_of (undefined objects ∷ offset objects ∷ slot_twice objects ∷ no_thread objects ∷ handler objects ∷ too_large objects ∷ []))) (alone (twice objects))
    ∙ ap (sooner (twice objects)) (first_of-append (undefined objects ∷ offset objects ∷ slot_twice objects ∷ no_thread objects ∷ handler objects ∷ []) (too_large objects ∷ [])
    ∙ ap (sooner (five objects)) (alone (too_large objects)))

skipped : (p : Option LinkFault) (rest : List (Option LinkFault)) → p ≡ None → first_of (p ∷ rest) ≡ first_of rest
skipped None rest h = refl
skipped (Some f) rest h = absurd (let impossible : Some f ≡ None = h in cc)

first_fails : (p : Option LinkFault) (rest : List (Option LinkFault)) (e : LinkError) → Fails p e → Fails (first_of (p ∷ rest)) e
first_fails p rest e h = subst (λ q. Fails q e) (sym (first_of-append (p ∷ []) rest)) (fails_sooner (first_of (p ∷ [])) (first_of rest) e (subst (λ q. Fails q e) (sym (alone p)) h))

unmapped : (o : Option (List ℕ)) → option_map Twice o ≡ None → o ≡ None
unmapped None h = refl
unmapped (Some x) h = absurd cc

module _ (objects : List Object) where
  -- those behind the names and the offsets
  after_two : undefined objects ≡ None → offset objects ≡ None → five objects ≡ first_of (slot_twice objects ∷ no_thread objects ∷ handler objects ∷ [])
  after_two known inside =
      skipped (undefined objects) (offset objects ∷ slot_twice objects ∷ no_thread objects ∷ handler objects ∷ []) known
      ∙ skipped (offset objects) (slot_twice objects ∷ no_thread objects ∷ handler objects ∷ []) inside

  pub fails_known : (e : LinkError) → Fails (undefined objects) e → Fails (five objects) e
  fails_known e h = first_fails (undefined objects) (offset objects ∷ slot_twice objects ∷ no_thread objects ∷ handler objects ∷ []) e h

  pub fails_slots : (e : LinkError) → undefined objects ≡ None → offset objects ≡ None → Fails (slot_twice objects) e → Fails (five objects) e
  fails_slots e known inside h = subst (λ p. Fails p e) (sym (after_two known inside)) (first_fails (slot_twice objects) (no_thread objects ∷ handler objects ∷ []) e h)

  pub after_four : undefined objects ≡ None → offset objects ≡ None → slot_twice objects ≡ None → no_thread objects ≡ None → five objects ≡ handler objects
  after_four known inside once some =
      after_two known inside ∙ skipped (slot_twice objects) (no_thread objects ∷ handler objects ∷ []) once ∙ skipped (no_thread objects) (handler objects ∷ []) some
      ∙ alone (handler objects)

  pub fails_twice : (e : LinkError) → Fails (twice objects) e → Fails (link_fault objects) e
  fails_twice e h = subst (λ p. Fails p e) (sym (fault_is objects)) (fails_sooner (twice objects) (sooner (five objects) (too_large objects)) e h)

  pub fails_five : (e : LinkError) → twice objects ≡ None → Fails (five objects) e → Fails (link_fault objects) e
  fails_five e apart h =
      subst (λ p. Fails p e) (sym (fault_is objects)) (fails_later (twice objects) (sooner (five objects) (too_large objects)) e apart
      (fails_sooner (five objects) (too_large objects) e h))

  pub fails_large : (e : LinkError) → twice objects ≡ None → five objects ≡ None → Fails (too_large objects) e → Fails (link_fault objects) e
  fails_large e apart sound h =
      subst (λ p. Fails p e) (sym (fault_is objects)) (fails_later (twice objects) (sooner (five objects) (too_large objects)) e apart
      (fails_later (five objects) (too_large objects) e sound h))

  pub no_fault : twice objects ≡ None → five objects ≡ None → too_large objects ≡ None → link_fault objects ≡ None
  no_fault apart sound small =
      fault_is objects ∙ sooner_none (twice objects) (sooner (five objects) (too_large objects)) apart ∙ sooner_none (five objects) (too_large objects) sound ∙ small

  -- 2. Segments in their order.

  pub placed_apart : AllByRecursion IsObject objects → first_again [] (part_names (parts_of objects)) ≡ None → IsDistinct same_part (by_length (parts_of objects))
  placed_apart are none = distinct_placed (parts_of objects) (by_length (parts_of objects)) (placed (parts_of objects) (are_parts objects are)) none

  pub placed_few : AllByRecursion IsObject objects → length objects ≤ 16 → length (parts_of objects) ≤ 256 * length objects → length (by_length (parts_of objects)) ≤ 4096
  placed_few are few parts =
      let same = length_permutation (parts_of objects) (by_length (parts_of objects)) (placed (parts_of objects) (are_parts objects are)) in
      omega (arith, same, few, parts)

  pub sites_are : (parts : List Part) (sites : List Site) → parts ≡ by_length (parts_of objects) → sites ≡ sites_from origin parts → sites ≡ sites_of objects
  unfolding sites_of
  sites_are parts sites are is = is ∙ ap (sites_from origin) are

  pub apart_is : (items given : List Part) → items ≡ parts_of objects → given ≡ items → option_map Twice (first_again [] (part_names given)) ≡ None → twice objects ≡ None
  apart_is items given e1 e2 h = ap (λ ps. option_map Twice (first_again [] (part_names ps))) (sym (e2 ∙ e1)) ∙ h

  pub fails_apart : (items given : List Part) (e : LinkError) → items ≡ parts_of objects → given ≡ items → Fails (option_map Twice (first_again [] (part_names given))) e
      → Fails (link_fault objects) e
  fails_apart items given e e1 e2 h = fails_twice e (subst (λ ps. Fails (option_map Twice (first_again [] (part_names ps))) e) (e2 ∙ e1) h)

  module _ (are : AllByRecursion IsObject objects) (small : length objects ≤ 16) (parts placed : List Part) (given : parts ≡ parts_of objects)
      (few : length parts ≤ 256 * length objects) (order : placed ≡ by_length (parts_of objects)) (apart : twice objects ≡ None) where
    pub order_few : length placed ≤ 4096
    order_few = subst (λ (ps : List Part). length ps ≤ 4096) (sym order) (placed_few are small (subst (λ (ps : List Part). length ps ≤ 256 * length objects) given few))

    pub order_apart : IsDistinct same_part placed
    order_apart = subst (IsDistinct same_part) (sym order) (placed_apart are (unmapped (first_again [] (part_names (parts_of objects))) apart))

  pub few_pages : (count : ℕ) (parts : List Part) → too_large objects ≡ None → count ≡ (bytes_of parts + 4095) / 4096 → parts ≡ parts_of objects → count ≤ 256
  few_pages count parts small is given =
      let same : count ≡ page_count objects = is ∙ ap (λ ps. (bytes_of ps + 4095) / 4096) given in
      omega (arith, same, few_frames objects small, page_frames objects)

  -- 3. The image of what was made.

  pub image_is : (sites : List Site) (placed : List Part) (count : ℕ) (slots : List Slot) (pages : List (ℕ × List Cell)) (frames : ℕ) → sites ≡ sites_of objects
      → placed ≡ by_length (parts_of objects) → count ≡ page_count objects
      → frames ≡ frames_of objects → slots ≡ by_number (flat_map (object_slots sites) objects) → pages ≡ pages_from count first_page (flat_map (part_cells sites) placed)
      → image_from 1 false slots pages frames ≡ image_of objects
  unfolding image_of slots_of pages_of cells_of
  image_is sites placed count slots pages frames standing order size room made written =
      let all : slots ≡ slots_of objects = made ∙ ap (λ (ss : List Site). by_number (flat_map (object_slots ss) objects)) standing in
      let whole : pages ≡ pages_of objects =
      written ∙ ap (λ n. pages_from n first_page (flat_map (part_cells sites) placed)) size
      ∙ ap (λ (ss : List Site). pages_from (page_count objects) first_page (flat_map (part_cells ss) placed)) standing
      ∙ ap (λ (ps : List Part). pages_from (page_count objects) first_page (flat_map (part_cells (sites_of objects)) ps)) order in
      ap (λ (x : List Slot). image_from 1 false x pages frames) all ∙ ap (λ (x : List (ℕ × List Cell)). image_from 1 false (slots_of objects) x frames) whole
      ∙ ap (image_from 1 false (slots_of objects) (pages_of objects)) room

  -- 4. Answers.

  pub is_linked : (r : Result Image LinkError) → ValueOrFault Fails (link_fault objects) (image_of objects) r → IfOk r (λ i. Linked objects i)
  is_linked (Ok i) h = record { clean = h.0; image = h.1 }
  is_linked (Err e) h = tt

  pub is_again : (r : Result Image LinkError) (i : Image) → ValueOrFault Fails (link_fault objects) (image_of objects) r → Linked objects i → IsUnless errors.NoMemory i r
  is_again (Ok x) i h linked = h.1 ∙ sym linked.image
  is_again (Err (errors.Fault f)) i h linked = absurd (let impossible : Some f ≡ None = sym h ∙ linked.clean in cc)
  is_again (Err errors.NoMemory) i h linked = refl

  pub is_fault : (r : Result Image LinkError) (f : LinkFault) → ValueOrFault Fails (link_fault objects) (image_of objects) r → r ≡ Err (errors.Fault f) → link_fault objects ≡ Some f
  is_fault r f h e = subst (ValueOrFault Fails (link_fault objects) (image_of objects)) e h

  pub is_first : (r : Result Image LinkError) (f : LinkFault) → ValueOrFault Fails (link_fault objects) (image_of objects) r → link_fault objects ≡ Some f → IsErrAnd r (Fails (Some f))
  is_first (Ok x) f h e = let impossible : Some f ≡ None = sym e ∙ h.0 in cc
  is_first (Err x) f h e = subst (λ p. Fails p x) e h
