-- What is let out, handed out and taken up is what each form, origin and thread comes to.
use Rattle.std.proofs.Common.{◌≡◌, ℕ, ◌+◌, ◌<◌, ◌≤◌, true, false, List, [], ◌∷◌, ◌++◌, take, length, get_or, sym, ap, ◌∙◌, subst}
use Rattle.std.proofs.lemmas.List.{flat_map_more, take_all, take_more}
use Rattle.std.specs.List.{flat_map}
use Rattle.mm_word.specs.Pointer.{Pointer as PointerValue}
use Rattle.mm_model.specs.Image.{Image}
use Rattle.mm_kernel.specs.Segments.{Segment, is_door}
use Rattle.mm_kernel.specs.declared.{fact.Leak.{Leak, TheVariants.Loose}, form.Form.{Form, TheVariants.Pointer}}
use Rattle.mm_kernel.specs.declared.thread.{Origin.{Origin, TheVariants.{Slot as OfSlot}}, Thread.Thread}
use Rattle.mm_kernel.specs.Facts.{let_out, hand_out, loose, take_up, Fact.{HasThread, HasDoor, HasLeak}}
use Rattle.mm_kernel.specs.{Forms.is_open_form, Threads.{is_free, is_kernel, serves_some}}
use Rattle.mm_keep.{specs.Claims.{Tables, AddsFacts}, proofs.Claims.facts_then}

module _ (i : Image) (kept : List Segment) (old new : Tables) where
  pub lets_door : (f : Form) (p : PointerValue) → f ≡ Pointer p → is_door kept p ≡ true → AddsFacts i kept (HasDoor p ∷ []) old new → AddsFacts i kept (let_out kept f) old new
  unfolding let_out
  lets_door f p is door h = rw (is, door) h

  -- one form more
  pub lets_more : (forms : List Form) (k : ℕ) (f : Form) (mid : Tables) → k < length forms → f ≡ get_or forms k f
      → AddsFacts i kept (flat_map (let_out kept) (take k forms)) old mid → AddsFacts i kept (let_out kept f) mid new
      → AddsFacts i kept (flat_map (let_out kept) (take (k + 1) forms)) old new
  lets_more forms k f mid lt is g h =
      let more : flat_map (let_out kept) (take k forms) ++ let_out kept f ≡ flat_map (let_out kept) (take (k + 1) forms) =
      flat_map_more (let_out kept) [] (take k forms) f ∙ ap (λ x. flat_map (let_out kept) (take k forms ++ x ∷ [])) is
      ∙ ap (flat_map (let_out kept)) (sym (take_more forms k f lt)) in
      subst (λ l. AddsFacts i kept l old new) more (facts_then i kept (flat_map (let_out kept) (take k forms)) (let_out kept f) old mid new g h)

  pub lets_all : (forms : List Form) (k : ℕ) → length forms ≤ k → AddsFacts i kept (flat_map (let_out kept) (take k forms)) old new
      → AddsFacts i kept (flat_map (let_out kept) forms) old new
  lets_all forms k le h = subst (λ l. AddsFacts i kept (flat_map (let_out kept) l) old new) (take_all k forms le) h

  pub hands_open : (f : Form) (leak : Leak) → is_open_form kept f ≡ true → AddsFacts i kept (let_out kept f) old new → AddsFacts i kept (hand_out kept f leak) old new
  unfolding hand_out
  hands_open f leak is h = rw is h

  pub hands_leak : (f : Form) (leak : Leak) → is_open_form kept f ≡ false → AddsFacts i kept (HasLeak leak ∷ []) old new → AddsFacts i kept (hand_out kept f leak) old new
  unfolding hand_out
  hands_leak f leak is h = rw is h

  pub loosens : (from : Origin) (n : ℕ) → from ≡ OfSlot n → is_kernel i kept n ≡ true → serves_some i n ≡ true → AddsFacts i kept (HasLeak (Loose n) ∷ []) old new
      → AddsFacts i kept (loose i kept from) old new
  loosens from n is kernel serves h = rw (is, kernel, serves) h

  pub takes_thread : (t : Thread) → is_free kept t ≡ false → AddsFacts i kept (HasThread t ∷ []) old new → AddsFacts i kept (take_up i kept t) old new
  unfolding take_up
  takes_thread t bound h = rw bound h

  pub takes_free : (t : Thread) (mid : Tables) → is_free kept t ≡ true → AddsFacts i kept (flat_map (let_out kept) t.forms) old mid
      → AddsFacts i kept (loose i kept t.origin) mid new → AddsFacts i kept (take_up i kept t) old new
  unfolding take_up
  takes_free t mid free g h = rw free (facts_then i kept (flat_map (let_out kept) t.forms) (loose i kept t.origin) old mid new g h)
