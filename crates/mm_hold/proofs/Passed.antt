-- What passes is what the kernel's threads pass, and it is of nodes.
use Rattle.std.proofs.Common.{◌≡◌, ◌↔◌, ℕ, ◌^◌, ◌<◌, inl, inr, List, length, Option, Some, None}
use Rattle.std.proofs.Common.{refl, sym, ap, ◌∙◌, subst, arith}
use Rattle.std.proofs.lemmas.List.{get_or_default, Elements.{All-from_recursion, All-contains}}
use Rattle.std.specs.{Prelude.{Contains}, List.AllByRecursion}
use Rattle.mm_word.specs.declared.word.Cell.{Cell}
use Rattle.mm_word.specs.Pointer.{Pointer, IsBelow, IsWellFormed, bits_of, pointer_of}
use Rattle.mm_word.specs.PointerBits.{bits_of-pointer_of}
use Rattle.mm_model.specs.{Memory.{Memory, cell_at, cell_in, page_at, page_of, place_of, IsPage, IsPaged}, Image.Image, Spelling.IsImage}
use Rattle.mm_model.proofs.Memories.{cell_at-aligned, cell_at-unaligned, word_or_none}
use Rattle.mm_flow.specs.Flow.{Fits}
use Rattle.mm_graph.specs.{declared.canonical_ptr.CanonicalPtr.CanonicalPtr, Marked.node_pointer, Key.{key_at, no_key}}
use Rattle.mm_graph.proofs.Cells.{found_page}
use Rattle.mm_kernel.specs.Segments.{Segment}
use Rattle.mm_kernel.specs.declared.form.Form.{TheVariants.{Pointer as Exactly}}
use Rattle.mm_kernel.specs.declared.thread.Origin.{TheVariants.{Door, Slot as OfSlot}}
use Rattle.mm_kernel.specs.Derived.{Keeps}
use Rattle.mm_confine.specs.declared.party.Party.{Party}
use Rattle.mm_span.proofs.Members.{all_of}
use Rattle.mm_hold.specs.declared.{edges.Graph.Graph, conduct.Conduct.Conduct, rounds.Passes.Passes}
use Rattle.mm_hold.specs.Conducts.{AreAll, AreConduct, HasOrLets, IsSpelled, Sends, Gives, origin_numbers, origin_from}
use Rattle.mm_hold.specs.{Finding.held_key, Passing.DoorAt, Parties.{Shares, PassesAlways}, Rounds.AreOf}
use Rattle.mm_hold.specs.Graphs.{BitsAt, HandedAt, BehindAt, IsShaped}
use Rattle.mm_hold.specs.Standing.{Placed, Placed.{powerless, at}, HasKeys, AreHanded, AreBehind, ArePasses, edges_in}
use Rattle.mm_hold.proofs.{HeldKeys.{held_none, held_above, held_below, spelled_well_formed}, Handed.{sends_has, gives_has}}
use Rattle.mm_hold.proofs.Keyed.{IsHand, has_means, has_noted, stored_means, sent_means, sent_noted, given_means, given_noted}
use Rattle.mm_hold.specs.declared.deed.Deed.TheVariants as deed

-- 1. Words.

word_small : (m : Memory) → IsPaged m → (w : ℕ) (c : Cell) → cell_at m w ≡ Some c → w < 2 ^ 54
word_small m paged w c is = elim (word_or_none w) [
  | inr no_word ↦ let none = cell_at-unaligned m w no_word in cc
  | inl aligned ↦ go (page_at m (page_of w)) refl (sym (cell_at-aligned m w aligned) ∙ is)
]
  where
    go : (o : Option (List Cell)) → page_at m (page_of w) ≡ o → cell_in o (place_of w) ≡ Some c → w < 2 ^ 54
    go None e f = cc
    go (Some cells) e f =
        let page : IsPage (page_of w, cells) = All-contains IsPage m.pages (page_of w, cells) (All-from_recursion IsPage m.pages paged.pages.whole) (found_page m.pages (page_of w) cells e) in
        let number = page.number in
        omega arith

-- 2. Pointers that are spelled.

well_formed : (q : Pointer) → IsSpelled q → IsWellFormed q
well_formed q s = subst IsWellFormed s.again (spelled_well_formed (bits_of q) s.spells)

module _ (i : Image) (kept : List Segment) (keys : List CanonicalPtr) where
  abbrev node : ℕ → Pointer
  node k = node_pointer keys k

  -- a node for the bits of a pointer
  bits_below : (q : Pointer) (bits k : ℕ) → IsSpelled q → bits_of q ≡ bits → BitsAt kept keys bits k → IsBelow (node k) q
  bits_below q bits k s e b =
      held_below kept q (key_at keys k) (well_formed q s) (ap (held_key kept) (sym (ap pointer_of (sym e) ∙ s.again)) ∙ b.is)

  place_of_key : (x : CanonicalPtr) → Contains keys x → (a : ℕ) × (a < length keys) × (key_at keys a ≡ x)
  place_of_key x h = (h.0, h.1, get_or_default keys h.0 no_key x h.1 ∙ h.2)

  -- a pointer whose key, if it has one, is one of these
  bits_placed : (nodes : ℕ → Type 0) (q : Pointer) → IsSpelled q → ((x : CanonicalPtr) → held_key kept q ≡ Some x → Contains keys x)
      → ((k : ℕ) → BitsAt kept keys (bits_of q) k → nodes k) → Placed kept keys nodes q
  bits_placed nodes q s has f = by (held_key kept q) refl
    where
      by : (o : Option CanonicalPtr) → held_key kept q ≡ o → Placed kept keys nodes q
      by None e = let r = held_none kept q e in powerless r.0 r.1
      by (Some x) e =
          let p = place_of_key x (has x e) in
          let key : held_key kept q ≡ Some (key_at keys p.0) = e ∙ ap (λ (y : CanonicalPtr). Some y) (sym p.2) in
          let bits : BitsAt kept keys (bits_of q) p.0 = record { spells = s.spells; small = p.1; is = ap (held_key kept) s.again ∙ key } in
          at p.0 p.1 (f p.0 bits) (held_above kept q (key_at keys p.0) (well_formed q s) key)

  handed_are : (what : ℕ → Pointer → Type 0) (handed nodes : List (ℕ × ℕ)) → ((e : ℕ × ℕ) → Contains handed e → IsHand what e)
      → ((n : ℕ) (q : Pointer) → what n q → Contains handed (n, bits_of q)) → ((n : ℕ) (q : Pointer) → what n q → IsSpelled q)
      → ((n : ℕ) (q : Pointer) (x : CanonicalPtr) → what n q → held_key kept q ≡ Some x → Contains keys x) → AreAll (HandedAt kept keys handed) nodes
      → AreHanded kept keys what nodes
  handed_are what handed nodes means noted read has all = record {
    only = λ n k inside.
        let h = (all.each (n, k)).0 inside in
        let m = means (n, h.bits) h.inside in
        record {
          pointer = m.pointer;
          is = subst (λ v. what v m.pointer) (ap (λ (v : ℕ × ℕ). v.0) m.is) m.means;
          below = bits_below m.pointer h.bits k (read m.slot m.pointer m.means) (ap (λ (v : ℕ × ℕ). v.1) m.is) h.at;
        };
    each = λ n q is. bits_placed (λ k. Contains nodes (n, k)) q (read n q is) (λ x e. has n q x is e)
        (λ k b. (all.each (n, k)).1 (record { bits = bits_of q; inside = noted n q is; at = b }));
  }

  handed_inside : (handed nodes : List (ℕ × ℕ)) (size : ℕ) → length keys ≡ size → AreAll (HandedAt kept keys handed) nodes → AllByRecursion (λ (h : ℕ × ℕ). h.1 < size) nodes
  handed_inside handed nodes size len all =
      all_of (λ (h : ℕ × ℕ). h.1 < size) nodes (λ h inside. let r = (all.each h).0 inside in subst (λ v. h.1 < v) len r.at.small)

  behind_inside : (had : List ((ℕ × ℕ) × ℕ)) (pairs : List (ℕ × ℕ)) (size : ℕ) → length keys ≡ size → AreAll (BehindAt kept keys had) pairs
      → AllByRecursion (λ (b : ℕ × ℕ). (b.0 < size) × (b.1 < size)) pairs
  behind_inside had pairs size len all =
      all_of (λ (b : ℕ × ℕ). (b.0 < size) × (b.1 < size)) pairs
      (λ b inside. let r = (all.each b).0 inside in (subst (λ v. b.0 < v) len r.stands.node.small, subst (λ v. b.1 < v) len r.stands.at.small))

-- 3. What passes.

module _ (i : Image) (kept : List Segment) (img : IsImage i) (ks : Keeps i kept) (c : Conduct) (all : AreConduct i kept c) (g : Graph) (shape : IsShaped g)
    (has : HasKeys i kept g.keys.items) where
  abbrev K : List CanonicalPtr
  K = g.keys.items

  behind_are : (pairs : List (ℕ × ℕ)) → AreAll (BehindAt kept K c.has.keys) pairs → AreBehind i kept K pairs
  behind_are pairs are = record {
    only = λ d k inside.
        let b = (are.each (d, k)).0 inside in
        let m = has_means i kept c all ((0, b.door), b.bits) b.inside in
        let read = all.read (deed.Has m.origin m.pointer) m.means in
        let numbers : origin_numbers m.origin ≡ (0, b.door) = ap (λ (v : (ℕ × ℕ) × ℕ). v.0) m.is in
        let from : m.origin ≡ Door (node_pointer K d) = sym read.0 ∙ ap origin_from numbers ∙ ap (λ v. Door (pointer_of v)) (sym b.stands.node.same) in
        record {
          small = b.stands.node.small;
          door = b.stands.node.is;
          some = record {
            pointer = m.pointer;
            is = subst (λ o. HasOrLets i kept o m.pointer) from m.means;
            below = bits_below i kept K m.pointer b.bits k read.1 (ap (λ (v : (ℕ × ℕ) × ℕ). v.1) m.is) b.stands.at;
          };
        };
    each = λ d q lt door h.
        let from = Door (node_pointer K d) in
        let at_door : DoorAt kept K (bits_of (node_pointer K d)) d = record {
          small = lt;
          same = sym (bits_of-pointer_of (key_at K d).bits (shape.keys d no_key lt).spells);
          is = door;
        } in
        bits_placed i kept K (λ k. Contains pairs (d, k)) q (all.read (deed.Has from q) h).1 (λ x e. has from q x h e)
        (λ k b. (are.each (d, k)).1 (record {
          door = bits_of (node_pointer K d);
          bits = bits_of q;
          inside = has_noted i kept c all from q h;
          stands = record { node = at_door; at = b };
        }));
  }

  sent_are : (nodes : List (ℕ × ℕ)) → AreAll (HandedAt kept K c.sent.keys) nodes → AreHanded kept K (λ n q. Sends i kept n (Exactly q)) nodes
  sent_are nodes are = handed_are i kept K (λ n q. Sends i kept n (Exactly q)) c.sent.keys nodes (sent_means i kept c all) (sent_noted i kept c all)
      (λ n q h. all.read (deed.Sent n q) h) (λ n q x h e. has (OfSlot n) q x (sends_has i kept img ks n q h) e) are

  given_are : (nodes : List (ℕ × ℕ)) → AreAll (HandedAt kept K c.given.keys) nodes → AreHanded kept K (λ n q. Gives i kept n (Exactly q)) nodes
  given_are nodes are = handed_are i kept K (λ n q. Gives i kept n (Exactly q)) c.given.keys nodes (given_means i kept c all) (given_noted i kept c all)
      (λ n q h. all.read (deed.Given n q) h) (λ n q x h e. has (OfSlot n) q x (gives_has i kept img ks n q h) e) are

  words_small : AllByRecursion (λ (u : ℕ × (ℕ × ℕ)). u.0 < 2 ^ 63) c.stored.keys
  words_small = all_of (λ (u : ℕ × (ℕ × ℕ)). u.0 < 2 ^ 63) c.stored.keys (λ u inside.
      let m = stored_means i kept c all u inside in
      let held = m.means.of_image in
      let lt = word_small i.memory img.paged m.word held.cell held.at in
      let word : m.word ≡ u.0 = ap (λ (v : ℕ × (ℕ × ℕ)). v.0) m.is in
      omega arith)

  pub passes_are : (p : Passes) → ((y x : Party) → Shares p.sharing y x ↔ PassesAlways i kept c i.slots y x) → AreAll (BehindAt kept K c.has.keys) p.behind.items
      → AreAll (HandedAt kept K c.sent.keys) p.sent.items → AreAll (HandedAt kept K c.given.keys) p.given.items → ArePasses i kept c K p
  passes_are p sharing behind sent given = record {
    sharing = sharing;
    behind = behind_are p.behind.items behind;
    sent = sent_are p.sent.items sent;
    given = given_are p.given.items given;
  }

  pub parts_are : (p : Passes) → AreAll (BehindAt kept K c.has.keys) p.behind.items → AreAll (HandedAt kept K c.sent.keys) p.sent.items
      → AreAll (HandedAt kept K c.given.keys) p.given.items → AreOf c g p (length g.parents.items)
  parts_are p behind sent given =
      let len = sym shape.parents in
      record {
        rising = shape.rising;
        keys = shape.keys;
        many = len;
        nodes = shape.nodes ∙ len;
        parents = refl;
        edges = subst (Fits (edges_in g)) len shape.edges;
        behind = behind_inside i kept K c.has.keys p.behind.items (length g.parents.items) len behind;
        sent = handed_inside i kept K c.sent.keys p.sent.items (length g.parents.items) len sent;
        given = handed_inside i kept K c.given.keys p.given.items (length g.parents.items) len given;
        words = words_small;
      }
