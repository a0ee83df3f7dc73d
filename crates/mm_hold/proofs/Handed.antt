-- What threads hand on they have or let out; and parties that are granted anything are parties of the image.
use Rattle.std.proofs.Common.{◌≡◌, ◌⊎◌, inl, inr, ℕ, ◌<◌, Bool, true, false, ◌&&◌, ◌||◌, ◌==◌, List, [], ◌∷◌, refl, sym, subst}
use Rattle.std.proofs.Common.{arith, eqb-true}
use Rattle.std.proofs.lemmas.Bool.{and_parts}
use Rattle.std.specs.{Prelude.Contains, List.list_any}
use Rattle.mm_word.specs.Pointer.{Pointer}
use Rattle.mm_model.specs.{Slot.Slot, Image.{Image, slot_limit}, Spelling.{IsImage, IsFresh}}
use Rattle.mm_model.proofs.CoreRows.{each_contained}
use Rattle.mm_kernel.specs.Segments.{Segment, is_door, is_open_pointer}
use Rattle.mm_kernel.specs.declared.fact.Leak.{Leak}
use Rattle.mm_kernel.specs.declared.form.Form.{TheVariants.{Pointer as Exactly}}
use Rattle.mm_kernel.specs.declared.thread.Origin.{Origin, TheVariants.{Slot as OfSlot}}
use Rattle.mm_kernel.specs.declared.{outcome.Outcome.Outcome, thread.Thread.Thread}
use Rattle.mm_kernel.specs.{Forms.is_open_form, Threads.{form_in, is_kernel, is_kernel_slot}, Derived.{Derived, Keeps, Derived.turns}}
use Rattle.mm_kernel.specs.Facts.{hand_out}
use Rattle.mm_kernel.proofs.{Ups.{each_from, handed_out}, Values.Public}
use Rattle.mm_span.proofs.Members.{in_first, in_rest}
use Rattle.mm_confine.specs.declared.party.Party.{Party, TheVariants.{Group, KernelSlot}}
use Rattle.mm_confine.specs.Conduct.{ComesTo, HasExactly.in_register, LetsOut.by_hand}
use Rattle.mm_confine.specs.Grants.{Granted, Line, Line.{Holds, Runs}, IsOf, IsOf.{with_group, by_itself}}
use Rattle.mm_confine.specs.Grants.Granted.{runs_itself, runs_through, in_register as from_register, runs_by, in_cell, below, passed}
use Rattle.mm_confine.specs.Grants.Granted.{entered, served, has_exactly, lets_out, kept_for, seen, given, freed}
use Rattle.mm_confine.proofs.Taken.{derived_taken}
use Rattle.mm_hold.specs.Conducts.{HasOrLets, HasOrLets.{has, lets}, Sends, Gives}
use Rattle.mm_hold.specs.Parties.{Small}
use Rattle.mm_hold.proofs.{Like.{outcome_like, InRegister}, Long.{thread_long, thread_kernel}, Deeds.{has_form, form_at}}
use Rattle.mm_kernel.specs.declared.fact.Leak.TheVariants as leak
use Rattle.mm_kernel.specs.declared.outcome.Outcome.TheVariants as outcome

-- 1. Slots.

module _ {A : Type 0} (p : A → Bool) where
  any_found : (xs : List A) → list_any p xs ≡ true → (x : A) × Contains xs x × (p x ≡ true)
  any_found [] e = cc
  any_found (x ∷ xs) e = by (p x) refl e (any_found xs)
    where
      by : (b : Bool) → p x ≡ b → (b || list_any p xs) ≡ true → (list_any p xs ≡ true → (y : A) × Contains xs y × (p y ≡ true)) → (y : A) × Contains (x ∷ xs) y × (p y ≡ true)
      by true is k later = (x, in_first x xs, is)
      by false is k later = let r = later k in (r.0, in_rest x xs r.0 r.1, r.2)

module _ (i : Image) (kept : List Segment) (img : IsImage i) where
  pub fresh : (s : Slot) → Contains i.slots s → IsFresh (slot_limit i.version) i.slots s
  fresh s c = each_contained (IsFresh (slot_limit i.version) i.slots) i.slots s img.fresh c

  limit : slot_limit i.version < 65
  limit = at i.version img.version
    where
      at : (v : ℕ) → (v ≡ 1) ⊎ (v ≡ 2) → slot_limit v < 65
      at v (inl x) = subst (λ w. slot_limit w < 65) (sym x) (omega arith)
      at v (inr x) = subst (λ w. slot_limit w < 65) (sym x) (omega arith)

  pub group_small : (s : Slot) → Contains i.slots s → s.group < 64
  group_small s c = let lt = (fresh s c).group in let le = limit in omega arith

  pub number_small : (s : Slot) → Contains i.slots s → s.number < 64
  number_small s c = let lt = (fresh s c).number in let le = limit in omega arith

  -- a slot of the kernel is one of the image's
  pub record KernelIs (n : ℕ) : Type 0 where
    pub slot : Slot
    pub inside : Contains i.slots slot
    pub number : slot.number ≡ n

  pub kernel_is : (n : ℕ) → is_kernel i kept n ≡ true → KernelIs n
  unfolding is_kernel
  kernel_is n e =
      let r = any_found (λ (s : Slot). (s.number == n) && is_kernel_slot kept s) i.slots e in
      record { slot = r.0; inside = r.1; number = eqb-true r.0.number n (and_parts (r.0.number == n) (is_kernel_slot kept r.0) r.2).0 }

  pub kernel_small : (n : ℕ) → is_kernel i kept n ≡ true → n < 64
  kernel_small n e = let r = kernel_is n e in subst (λ v. v < 64) r.number (number_small r.slot r.inside)

  pub of_small : (s : Slot) → Contains i.slots s → {x : Party} → IsOf i kept s x → Small x
  of_small s c with_group = group_small s c
  of_small s c (by_itself e) = number_small s c

  -- 2. Parties.

  -- the party is a group whose number is small, or a slot of the kernel
  abbrev pub IsParty : Party → Type 0
  IsParty (Group g) = g < 64
  IsParty (KernelSlot n) = is_kernel i kept n ≡ true

  of_party : (s : Slot) → Contains i.slots s → {x : Party} → IsOf i kept s x → IsParty x
  of_party s c with_group = group_small s c
  of_party s c (by_itself e) = e

  abbrev Fine : Line → Type 0
  Fine (Holds x q) = IsParty x
  Fine (Runs x from) = IsParty x

  fine : {line : Line} → Granted i kept line → Fine line
  fine (runs_itself n e) = e
  fine (runs_through g d h e) = fine h
  fine (from_register s q among caller k) = group_small s among
  fine (runs_by s among caller) = group_small s among
  fine (in_cell x p q w c h ld out at is) = fine h
  fine (below x p q h b) = fine h
  fine (passed y x q p r w h on hp st hr ld) = fine hr
  fine (entered x p q h eu none e) = fine h
  fine (served h g q held s) = elim s.groups [
    | inl both ↦ subst (λ v. v < 64) both.0 (group_small s.served s.one)
    | inr both ↦ subst (λ v. v < 64) both.1 (group_small s.server s.other)
  ]
  fine (has_exactly x from q t runs up same h plain) = fine runs
  fine (lets_out x from d runs is out) = fine runs
  fine (kept_for y x from to q held runs pass to_runs) = fine to_runs
  fine (seen n y q held sv looks) = sv.of_kernel
  fine (given n x q held sv gift) = of_party sv.served sv.one sv.party
  fine (freed s q t among held going) = group_small s among

  pub granted_party : (x : Party) (q : Pointer) → Granted i kept (Holds x q) → IsParty x
  granted_party x q h = fine h

  pub party_small : (x : Party) → IsParty x → Small x
  party_small (Group g) h = h
  party_small (KernelSlot n) h = kernel_small n h

  -- 3. What is handed on.

  module _ (ks : Keeps i kept) where
    opened : (q : Pointer) → is_open_form kept (Exactly q) ≡ true → is_open_pointer kept q ≡ true
    unfolding is_open_form
    opened q e = e

    -- a pointer that a thread hands out it has, or lets out
    handed_has : (from : Origin) (q : Pointer) (l : Leak) (c : ComesTo i kept from (outcome.HandsOut (Exactly q) l)) → InRegister c.thread (Exactly q) → HasOrLets i kept from q
    handed_has from q l c r = by (is_door kept q) refl
      where
        t : Thread
        t = c.thread

        public : Public i kept (Exactly q)
        public = handed_out i kept ks (Exactly q) l (each_from (Derived i kept) (hand_out kept (Exactly q) l) (λ fact k. turns t (outcome.HandsOut (Exactly q) l) c.derived c.comes k))

        at : (reg : ℕ) × (reg < 16) × (form_in t reg ≡ Exactly q)
        at = form_at t (thread_long i kept img t c.derived) (Exactly q) (has_form t r.reg q r.is)

        by : (b : Bool) → is_door kept q ≡ b → HasOrLets i kept from q
        by true e = lets e (by_hand l c)
        by false e = has t (derived_taken i kept t c.derived) c.origin (in_register at.0 at.1 at.2) (opened q public.open_form, e)

    pub sends_has : (n : ℕ) (q : Pointer) → Sends i kept n (Exactly q) → HasOrLets i kept (OfSlot n) q
    sends_has n q s =
        let l = leak.Store s.at s.reg (Exactly q) in
        handed_has (OfSlot n) q l s.stores (outcome_like i kept s.stores.thread (outcome.HandsOut (Exactly q) l) s.stores.comes).1

    pub gives_has : (n : ℕ) (q : Pointer) → Gives i kept n (Exactly q) → HasOrLets i kept (OfSlot n) q
    gives_has n q s =
        let c = s.writes in
        let like = outcome_like i kept c.thread (outcome.WritesServed s.reg (Exactly q)) c.comes in
        let handed : ComesTo i kept (OfSlot n) (outcome.HandsOut (Exactly q) like.1.by) =
        record { thread = c.thread; derived = c.derived; origin = c.origin; comes = like.1.inside } in
        handed_has (OfSlot n) q like.1.by handed like.0

  pub comes_kernel : (n : ℕ) (o : Outcome) → ComesTo i kept (OfSlot n) o → is_kernel i kept n ≡ true
  comes_kernel n o c = thread_kernel i kept img c.thread n c.derived c.origin
