-- What the numbers that a conduct has noted mean.
use Rattle.std.proofs.Common.{◌≡◌, ℕ, ◌<◌, List, [], subst}
use Rattle.std.specs.{Prelude.Contains, Int.bit_at}
use Rattle.mm_word.specs.Pointer.{Pointer, bits_of}
use Rattle.mm_model.specs.Image.{Image}
use Rattle.mm_kernel.specs.Segments.{Segment}
use Rattle.mm_kernel.specs.declared.form.Form.{TheVariants.{Pointer as Exactly}}
use Rattle.mm_kernel.specs.declared.thread.{Origin.{Origin, TheVariants.{Slot as OfSlot}}, Thread.Thread}
use Rattle.mm_confine.specs.Conduct.{GoesOn, SeesServed}
use Rattle.mm_span.proofs.Members.{none_in, in_first}
use Rattle.mm_hold.specs.declared.{deed.Deed.Deed, conduct.Conduct.Conduct}
use Rattle.mm_hold.specs.Conducts.{AreConduct, HasOrLets, LoadsInside, Means, Sends, Gives, SomeCarries, StoresInside}
use Rattle.mm_hold.specs.Conducts.{origin_numbers, has_in, stored_by, loaded_by, sent_in, given_in, sends_in, gives_in, sees_in, goes_in}
use Rattle.mm_hold.proofs.Listing.{only_in}
use Rattle.mm_hold.specs.declared.deed.Deed.TheVariants as deed

-- the numbers are those of a pointer that threads of an origin have or let out
pub record IsHas (i : Image) (kept : List Segment) (e : (ℕ × ℕ) × ℕ) : Type 0 where
  pub origin : Origin
  pub pointer : Pointer
  pub is : (origin_numbers origin, bits_of pointer) ≡ e
  pub means : HasOrLets i kept origin pointer

-- the numbers are those of a use of a kept word by threads of an origin
pub record IsUse (use_of : Origin → ℕ → Type 0) (e : ℕ × (ℕ × ℕ)) : Type 0 where
  pub origin : Origin
  pub word : ℕ
  pub is : (word, origin_numbers origin) ≡ e
  pub means : use_of origin word

-- the numbers are those of a pointer that threads of a slot hand on
pub record IsHand (hands : ℕ → Pointer → Type 0) (e : ℕ × ℕ) : Type 0 where
  pub slot : ℕ
  pub pointer : Pointer
  pub is : (slot, bits_of pointer) ≡ e
  pub means : hands slot pointer

module _ (i : Image) (kept : List Segment) where
  of_has : (e : (ℕ × ℕ) × ℕ) (d : Deed) → Means i kept d → Contains (has_in d) e → IsHas i kept e
  of_has e (deed.Has from q) h k = record { origin = from; pointer = q; is = only_in (origin_numbers from, bits_of q) e k; means = h }
  of_has e (deed.Stored w from) h k = absurd (none_in e k)
  of_has e (deed.Loaded w from) h k = absurd (none_in e k)
  of_has e (deed.Sent n q) h k = absurd (none_in e k)
  of_has e (deed.Given n q) h k = absurd (none_in e k)
  of_has e (deed.Sends n) h k = absurd (none_in e k)
  of_has e (deed.Gives n) h k = absurd (none_in e k)
  of_has e (deed.Sees n) h k = absurd (none_in e k)
  of_has e (deed.GoesOn n) h k = absurd (none_in e k)

  of_stored : (e : ℕ × (ℕ × ℕ)) (d : Deed) → Means i kept d → Contains (stored_by d) e → IsUse (StoresInside i kept) e
  of_stored e (deed.Has from q) h k = absurd (none_in e k)
  of_stored e (deed.Stored w from) h k = record { origin = from; word = w; is = only_in (w, origin_numbers from) e k; means = h }
  of_stored e (deed.Loaded w from) h k = absurd (none_in e k)
  of_stored e (deed.Sent n q) h k = absurd (none_in e k)
  of_stored e (deed.Given n q) h k = absurd (none_in e k)
  of_stored e (deed.Sends n) h k = absurd (none_in e k)
  of_stored e (deed.Gives n) h k = absurd (none_in e k)
  of_stored e (deed.Sees n) h k = absurd (none_in e k)
  of_stored e (deed.GoesOn n) h k = absurd (none_in e k)

  of_loaded : (e : ℕ × (ℕ × ℕ)) (d : Deed) → Means i kept d → Contains (loaded_by d) e → IsUse (LoadsInside i kept) e
  of_loaded e (deed.Has from q) h k = absurd (none_in e k)
  of_loaded e (deed.Stored w from) h k = absurd (none_in e k)
  of_loaded e (deed.Loaded w from) h k = record { origin = from; word = w; is = only_in (w, origin_numbers from) e k; means = h }
  of_loaded e (deed.Sent n q) h k = absurd (none_in e k)
  of_loaded e (deed.Given n q) h k = absurd (none_in e k)
  of_loaded e (deed.Sends n) h k = absurd (none_in e k)
  of_loaded e (deed.Gives n) h k = absurd (none_in e k)
  of_loaded e (deed.Sees n) h k = absurd (none_in e k)
  of_loaded e (deed.GoesOn n) h k = absurd (none_in e k)

  of_sent : (e : ℕ × ℕ) (d : Deed) → Means i kept d → Contains (sent_in d) e → IsHand (λ n q. Sends i kept n (Exactly q)) e
  of_sent e (deed.Has from q) h k = absurd (none_in e k)
  of_sent e (deed.Stored w from) h k = absurd (none_in e k)
  of_sent e (deed.Loaded w from) h k = absurd (none_in e k)
  of_sent e (deed.Sent n q) h k = record { slot = n; pointer = q; is = only_in (n, bits_of q) e k; means = h }
  of_sent e (deed.Given n q) h k = absurd (none_in e k)
  of_sent e (deed.Sends n) h k = absurd (none_in e k)
  of_sent e (deed.Gives n) h k = absurd (none_in e k)
  of_sent e (deed.Sees n) h k = absurd (none_in e k)
  of_sent e (deed.GoesOn n) h k = absurd (none_in e k)

  of_given : (e : ℕ × ℕ) (d : Deed) → Means i kept d → Contains (given_in d) e → IsHand (λ n q. Gives i kept n (Exactly q)) e
  of_given e (deed.Has from q) h k = absurd (none_in e k)
  of_given e (deed.Stored w from) h k = absurd (none_in e k)
  of_given e (deed.Loaded w from) h k = absurd (none_in e k)
  of_given e (deed.Sent n q) h k = absurd (none_in e k)
  of_given e (deed.Given n q) h k = record { slot = n; pointer = q; is = only_in (n, bits_of q) e k; means = h }
  of_given e (deed.Sends n) h k = absurd (none_in e k)
  of_given e (deed.Gives n) h k = absurd (none_in e k)
  of_given e (deed.Sees n) h k = absurd (none_in e k)
  of_given e (deed.GoesOn n) h k = absurd (none_in e k)

  of_sends : (e : ℕ) (d : Deed) → Means i kept d → Contains (sends_in d) e → SomeCarries (Sends i kept e)
  of_sends e (deed.Has from q) h k = absurd (none_in e k)
  of_sends e (deed.Stored w from) h k = absurd (none_in e k)
  of_sends e (deed.Loaded w from) h k = absurd (none_in e k)
  of_sends e (deed.Sent n q) h k = absurd (none_in e k)
  of_sends e (deed.Given n q) h k = absurd (none_in e k)
  of_sends e (deed.Sends n) h k = subst (λ v. SomeCarries (Sends i kept v)) (only_in n e k) h
  of_sends e (deed.Gives n) h k = absurd (none_in e k)
  of_sends e (deed.Sees n) h k = absurd (none_in e k)
  of_sends e (deed.GoesOn n) h k = absurd (none_in e k)

  of_gives : (e : ℕ) (d : Deed) → Means i kept d → Contains (gives_in d) e → SomeCarries (Gives i kept e)
  of_gives e (deed.Has from q) h k = absurd (none_in e k)
  of_gives e (deed.Stored w from) h k = absurd (none_in e k)
  of_gives e (deed.Loaded w from) h k = absurd (none_in e k)
  of_gives e (deed.Sent n q) h k = absurd (none_in e k)
  of_gives e (deed.Given n q) h k = absurd (none_in e k)
  of_gives e (deed.Sends n) h k = absurd (none_in e k)
  of_gives e (deed.Gives n) h k = subst (λ v. SomeCarries (Gives i kept v)) (only_in n e k) h
  of_gives e (deed.Sees n) h k = absurd (none_in e k)
  of_gives e (deed.GoesOn n) h k = absurd (none_in e k)

  of_sees : (e : ℕ) (d : Deed) → Means i kept d → Contains (sees_in d) e → SeesServed i kept e
  of_sees e (deed.Has from q) h k = absurd (none_in e k)
  of_sees e (deed.Stored w from) h k = absurd (none_in e k)
  of_sees e (deed.Loaded w from) h k = absurd (none_in e k)
  of_sees e (deed.Sent n q) h k = absurd (none_in e k)
  of_sees e (deed.Given n q) h k = absurd (none_in e k)
  of_sees e (deed.Sends n) h k = absurd (none_in e k)
  of_sees e (deed.Gives n) h k = absurd (none_in e k)
  of_sees e (deed.Sees n) h k = subst (SeesServed i kept) (only_in n e k) h
  of_sees e (deed.GoesOn n) h k = absurd (none_in e k)

  of_goes : (e : ℕ) (d : Deed) → Means i kept d → Contains (goes_in d) e → (t : Thread) × GoesOn i kept (OfSlot e) t
  of_goes e (deed.Has from q) h k = absurd (none_in e k)
  of_goes e (deed.Stored w from) h k = absurd (none_in e k)
  of_goes e (deed.Loaded w from) h k = absurd (none_in e k)
  of_goes e (deed.Sent n q) h k = absurd (none_in e k)
  of_goes e (deed.Given n q) h k = absurd (none_in e k)
  of_goes e (deed.Sends n) h k = absurd (none_in e k)
  of_goes e (deed.Gives n) h k = absurd (none_in e k)
  of_goes e (deed.Sees n) h k = absurd (none_in e k)
  of_goes e (deed.GoesOn n) h k = subst (λ v. (t : Thread) × GoesOn i kept (OfSlot v) t) (only_in n e k) h

  module _ (c : Conduct) (all : AreConduct i kept c) where
    pub has_means : (e : (ℕ × ℕ) × ℕ) → Contains c.has.keys e → IsHas i kept e
    has_means e k = let d = (all.has.each e).0 k in of_has e d.deed d.means d.has

    pub has_noted : (from : Origin) (q : Pointer) → HasOrLets i kept from q → Contains c.has.keys (origin_numbers from, bits_of q)
    has_noted from q h = let e : (ℕ × ℕ) × ℕ = (origin_numbers from, bits_of q) in (all.has.each e).1 (record { deed = deed.Has from q; means = h; has = in_first e [] })

    pub stored_means : (e : ℕ × (ℕ × ℕ)) → Contains c.stored.keys e → IsUse (StoresInside i kept) e
    stored_means e k = let d = (all.stored.each e).0 k in of_stored e d.deed d.means d.has

    pub stored_noted : (from : Origin) (w : ℕ) → StoresInside i kept from w → Contains c.stored.keys (w, origin_numbers from)
    stored_noted from w h = let e : ℕ × (ℕ × ℕ) = (w, origin_numbers from) in (all.stored.each e).1 (record { deed = deed.Stored w from; means = h; has = in_first e [] })

    pub loaded_means : (e : ℕ × (ℕ × ℕ)) → Contains c.loaded.keys e → IsUse (LoadsInside i kept) e
    loaded_means e k = let d = (all.loaded.each e).0 k in of_loaded e d.deed d.means d.has

    pub loaded_noted : (from : Origin) (w : ℕ) → LoadsInside i kept from w → Contains c.loaded.keys (w, origin_numbers from)
    loaded_noted from w h = let e : ℕ × (ℕ × ℕ) = (w, origin_numbers from) in (all.loaded.each e).1 (record { deed = deed.Loaded w from; means = h; has = in_first e [] })

    pub sent_means : (e : ℕ × ℕ) → Contains c.sent.keys e → IsHand (λ n q. Sends i kept n (Exactly q)) e
    sent_means e k = let d = (all.sent.each e).0 k in of_sent e d.deed d.means d.has

    pub sent_noted : (n : ℕ) (q : Pointer) → Sends i kept n (Exactly q) → Contains c.sent.keys (n, bits_of q)
    sent_noted n q h = let e : ℕ × ℕ = (n, bits_of q) in (all.sent.each e).1 (record { deed = deed.Sent n q; means = h; has = in_first e [] })

    pub given_means : (e : ℕ × ℕ) → Contains c.given.keys e → IsHand (λ n q. Gives i kept n (Exactly q)) e
    given_means e k = let d = (all.given.each e).0 k in of_given e d.deed d.means d.has

    pub given_noted : (n : ℕ) (q : Pointer) → Gives i kept n (Exactly q) → Contains c.given.keys (n, bits_of q)
    given_noted n q h = let e : ℕ × ℕ = (n, bits_of q) in (all.given.each e).1 (record { deed = deed.Given n q; means = h; has = in_first e [] })

    pub sends_means : (n : ℕ) → bit_at c.senders n ≡ 1 → SomeCarries (Sends i kept n)
    sends_means n b = let d = ((all.senders n).0 b).1 in of_sends n d.deed d.means d.has

    pub sends_noted : (n : ℕ) → n < 64 → SomeCarries (Sends i kept n) → bit_at c.senders n ≡ 1
    sends_noted n lt h = (all.senders n).1 (lt, record { deed = deed.Sends n; means = h; has = in_first n [] })

    pub gives_means : (n : ℕ) → bit_at c.givers n ≡ 1 → SomeCarries (Gives i kept n)
    gives_means n b = let d = ((all.givers n).0 b).1 in of_gives n d.deed d.means d.has

    pub gives_noted : (n : ℕ) → n < 64 → SomeCarries (Gives i kept n) → bit_at c.givers n ≡ 1
    gives_noted n lt h = (all.givers n).1 (lt, record { deed = deed.Gives n; means = h; has = in_first n [] })

    pub sees_means : (n : ℕ) → bit_at c.seeing n ≡ 1 → SeesServed i kept n
    sees_means n b = let d = ((all.seeing n).0 b).1 in of_sees n d.deed d.means d.has

    pub sees_noted : (n : ℕ) → n < 64 → SeesServed i kept n → bit_at c.seeing n ≡ 1
    sees_noted n lt h = (all.seeing n).1 (lt, record { deed = deed.Sees n; means = h; has = in_first n [] })

    pub goes_means : (n : ℕ) → bit_at c.freed n ≡ 1 → (t : Thread) × GoesOn i kept (OfSlot n) t
    goes_means n b = let d = ((all.freed n).0 b).1 in of_goes n d.deed d.means d.has

    pub goes_noted : (n : ℕ) → n < 64 → ((t : Thread) × GoesOn i kept (OfSlot n) t) → bit_at c.freed n ≡ 1
    goes_noted n lt h = (all.freed n).1 (lt, record { deed = deed.GoesOn n; means = h; has = in_first n [] })
