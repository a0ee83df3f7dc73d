-- Whether a group holds a door, by the node of the door's key.
use Rattle.std.proofs.Common.{◌≡◌, ◌↔◌, ◌<◌, ℕ, Bool, true, List, length, slice_index, sym, ap, ◌∙◌, subst}
use Rattle.std.proofs.lemmas.List.{get_or_default}
use Rattle.std.specs.{Prelude.{Contains}, Int.bit_at}
use Rattle.mm_word.specs.{Pointer.Pointer, PointerBits.bits_of-pointer_of}
use Rattle.mm_model.specs.Image.{Image}
use Rattle.mm_flow.specs.Flow.{Has}
use Rattle.mm_graph.specs.{declared.canonical_ptr.CanonicalPtr.CanonicalPtr, Marked.node_pointer}
use Rattle.mm_graph.specs.Key.{key_at, key_of, no_key, pointer_at}
use Rattle.mm_graph.proofs.{EntryMasks.key_of-pointer_at, Rising.same_place}
use Rattle.mm_kernel.specs.Segments.{Segment}
use Rattle.mm_hold.specs.Holdings.{AreKeys, AreHoldings, HoldingsValue, HoldsDoor}
use Rattle.mm_hold.proofs.Reaching.{holds_small}

module _ (i : Image) (kept : List Segment) (h : HoldingsValue) (k : AreKeys h.keys (length h.doors)) (are : AreHoldings i kept h) (g : ℕ) (d : Pointer) (key : CanonicalPtr)
    (is_key : key ≡ key_of d) (again : pointer_at key ≡ d) where
  -- the key of a node whose pointer is the door
  same_key : (n : ℕ) → n < length h.keys → node_pointer h.keys n ≡ d → key_at h.keys n ≡ key
  same_key n lt same =
      let own = k.all n no_key lt in
      sym (key_of-pointer_at (key_at h.keys n) own (bits_of-pointer_of (key_at h.keys n).bits own.spells)) ∙ ap key_of same ∙ sym is_key

  pub holds_at : (n : ℕ) (b : Bool) → n < length h.keys → key_at h.keys n ≡ key → ((b ≡ true) ↔ ((g < 64) × (bit_at (slice_index h.doors n) g ≡ 1))) → (b ≡ true) ↔ HoldsDoor i kept g d
  holds_at n b lt at test = (
    λ t. (are.doors g d).0 (record { node = n; small = lt; is = ap pointer_at at ∙ again; marked = (test.0 t).1 }),
    λ door.
        let o = (are.doors g d).1 door in
        let place = same_place h.keys o.node n k.rising o.small lt (same_key o.node o.small o.is ∙ sym at) in
        test.1 (holds_small i kept are.image g d door.granted, subst (λ v. Has h.doors v g) place o.marked),
  )

  pub holds_none : (Contains h.keys key → ⊥) → HoldsDoor i kept g d → ⊥
  holds_none none door =
      let o = (are.doors g d).1 door in
      none (o.node, o.small, get_or_default h.keys o.node key no_key o.small ∙ same_key o.node o.small o.is)
