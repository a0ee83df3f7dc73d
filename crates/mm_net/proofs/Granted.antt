-- What the nodes of a net hold is granted by their own images, and what the links carry fits 64 bits.
use Rattle.std.proofs.Common.{◌≡◌, ◌≢◌, ℕ, inl, inr, if◌then◌else◌, List, [], ◌∷◌, ◌++◌, slice_get, Option, Some, None}
use Rattle.std.proofs.Common.{refl, sym, ap, ◌∙◌, subst, append_assoc, append-nil, eq-eqb}
use Rattle.std.{proofs.lemmas.Bool.{cases_eq, ne_eqb}, specs.List.All}
use Rattle.mm_word.specs.Pointer.{Pointer}
use Rattle.mm_model.specs.{Memory.cell_at, State.State, Image.{Image, start}, Spelling.IsImage, Run.{turn_of, after}}
use Rattle.mm_model.specs.{Trace.done_entry, Reach.{Entries, Entries.{All as AnyEntry, These}}}
use Rattle.mm_model.proofs.Starts.{start_state, start_fits}
use Rattle.mm_laws.{specs.Granted.with_entries, proofs.{GrantedRuns.start_granted, GrantedTurns.step_granted}}
use Rattle.mm_net.specs.declared.{link.Link.Link, item.NetItem.{NetItem, TheVariants.{Turn, Send, Carry}}}
use Rattle.mm_net.specs.Nets.{Carried, NetState, nothing_carried, net_start, bits_in, with_sent, taken_from, due}
use Rattle.mm_net.specs.Nets.{is_free, with_arrived, put_into, with_node, with_both, net_after, net_run}
use Rattle.mm_net.specs.Granted.{entry_at, net_entries, GrantedNode}
use Rattle.mm_net.proofs.Nodes.{EachAt, set_cases, each_put, each_mapped, each_from_all}
use Rattle.mm_net.proofs.CarriedFits.{SentFits, sent_fits, due_fits, arrived_fits}
use Rattle.mm_net.proofs.PortCalls.{NodeGranted, taken_granted, put_granted, taken_fits}
use Rattle.mm_net.proofs.Steps.{after_turn, after_take, after_put}

-- 1. What holds of a net.

-- the node's image is there, and grants what the node holds under the entries
pub record OfImage (images : List Image) (e : Entries) (n : ℕ) (node : State) : Type 0 where
  pub image : Image
  pub stands : slice_get images n ≡ Some image
  pub granted : NodeGranted image e node

-- Each node holds what its image grants under the entries of that node, and what each link sent fits 64 bits.
pub record NetGranted (images : List Image) (e : ℕ → Entries) (s : NetState) : Type 0 where
  pub nodes : EachAt (λ n node. OfImage images (e n) n node) s.nodes
  pub sent : EachAt (λ l. SentFits) s.links

-- the entries of each node with those that an item does there
abbrev pub entries_with : (ℕ → Entries) → NetState → NetItem → ℕ → Entries
entries_with e s item n = with_entries (e n) (entry_at n item (slice_get s.nodes n))

-- 2. Entries.

with_none : (e : Entries) → with_entries e [] ≡ e
with_none AnyEntry = refl
with_none (These list) = ap (λ l. These l) (append-nil list)

with_more : (e : Entries) (xs ys : List (ℕ × Pointer)) → with_entries (with_entries e xs) ys ≡ with_entries e (xs ++ ys)
with_more AnyEntry xs ys = refl
with_more (These list) xs ys = ap (λ l. These l) (append_assoc list xs ys)

by_entries : (images : List Image) (e f : ℕ → Entries) (s : NetState) → ((n : ℕ) → e n ≡ f n) → NetGranted images e s → NetGranted images f s
by_entries images e f s same h = record { nodes = λ n node at. subst (λ x. OfImage images x n node) (same n) (h.nodes n node at); sent = h.sent }

entry_here : (n item : ℕ) (node : State) (o : Option State) → o ≡ Some node → entry_at n (Turn n item) o ≡ done_entry (turn_of node item) (turn_of node item).step.entered
entry_here n item node o is =
    ap (entry_at n (Turn n item)) is
    ∙ ap (λ b. if b then done_entry (turn_of node item) (turn_of node item).step.entered else []) (eq-eqb n n refl)

entry_other : (n k item : ℕ) → n ≢ k → (o : Option State) → entry_at n (Turn k item) o ≡ []
entry_other n k item other None = refl
entry_other n k item other (Some node) = ap (λ b. if b then done_entry (turn_of node item) (turn_of node item).step.entered else []) (ne_eqb n k other)

-- 3. Steps.

module _ (images : List Image) (are : EachAt (λ (n : ℕ). IsImage) images) (links : List Link) (e : ℕ → Entries) (s : NetState) (h : NetGranted images e s) where
  module _ (k item : ℕ) where
    abbrev later : ℕ → Entries
    later n = entries_with e s (Turn k item) n

    as_it_was : (n : ℕ) → entry_at n (Turn k item) (slice_get s.nodes n) ≡ [] → e n ≡ later n
    as_it_was n none = sym (ap (with_entries (e n)) none ∙ with_none (e n))

    idles_granted : slice_get s.nodes k ≡ None → NetGranted images later s
    idles_granted gone = by_entries images e later s (λ n. as_it_was n (none n)) h
      where
        none : (n : ℕ) → entry_at n (Turn k item) (slice_get s.nodes n) ≡ []
        none n = elim (cases_eq n k) [
          | inl here ↦ ap (entry_at n (Turn k item)) (ap (slice_get s.nodes) here ∙ gone)
          | inr there ↦ entry_other n k item there (slice_get s.nodes n)
        ]

    own_granted : (node : State) → slice_get s.nodes k ≡ Some node → OfImage images (later k) k (after node item)
    own_granted node at =
        let was = h.nodes k node at in
        let step = step_granted was.image (e k) node item (are k was.image was.stands) was.granted.state was.granted.fits was.granted.words in
        record {
          image = was.image;
          stands = was.stands;
          granted =
              subst (λ x. NodeGranted was.image x (after node item)) (ap (with_entries (e k)) (sym (entry_here k item node (slice_get s.nodes k) at)))
              (record { state = step.state; fits = step.fits; words = step.words });
        }

    turned_granted : (node : State) → slice_get s.nodes k ≡ Some node → NetGranted images later (with_node s k (after node item))
    turned_granted node at = record {
      nodes = λ n now is. elim (set_cases s.nodes k n (after node item) now is) [
        | inl here ↦ subst (λ m. OfImage images (later m) m now) (sym here.0) (subst (OfImage images (later k) k) (sym here.1) (own_granted node at))
        | inr there ↦ subst (λ x. OfImage images x n now) (as_it_was n (entry_other n k item there.0 (slice_get s.nodes n))) (h.nodes n now there.1)
      ];
      sent = h.sent;
    }

  -- an item of a link does no entry
  abbrev no_more : ℕ → Entries
  no_more n = with_entries (e n) []

  unchanged : NetGranted images no_more s
  unchanged = by_entries images e no_more s (λ n. sym (with_none (e n))) h

  -- a node is put in the place of one with the same image, and what its link carried since
  both_granted : (n l : ℕ) (node new : State) (carried : Carried) → slice_get s.nodes n ≡ Some node → ((i : Image) → NodeGranted i (no_more n) node → NodeGranted i (no_more n) new) → SentFits carried
      → NetGranted images no_more (with_both s n new l carried)
  both_granted n l node new carried at keeps fits =
      let was = unchanged.nodes n node at in
      record {
        nodes = each_put (λ k now. OfImage images (no_more k) k now) s.nodes n new unchanged.nodes (record { image = was.image; stands = was.stands; granted = keeps was.image was.granted });
        sent = each_put (λ (k : ℕ). SentFits) s.links l carried h.sent fits;
      }

  taken_both : (l : ℕ) (link : Link) (node : State) (carried : Carried) → slice_get links l ≡ Some link → slice_get s.nodes link.from ≡ Some node → slice_get s.links l ≡ Some carried
      → NetGranted images no_more (with_both s link.from (taken_from node link.take) l (with_sent carried (bits_in (cell_at node.memory link.take))))
  taken_both l link node carried at is has =
      let state = (h.nodes link.from node is).granted.state in
      both_granted link.from l node (taken_from node link.take) (with_sent carried (bits_in (cell_at node.memory link.take))) is (λ i. taken_granted i (no_more link.from) node link.take)
      (sent_fits carried (bits_in (cell_at node.memory link.take)) (h.sent l carried has) (λ bits. taken_fits node link.take bits state))

  put_both : (l k : ℕ) (link : Link) (node : State) (carried : Carried) (bits : ℕ) → slice_get links l ≡ Some link
      → slice_get s.nodes link.to ≡ Some node → slice_get s.links l ≡ Some carried → due carried k ≡ Some bits
      → NetGranted images no_more (with_both s link.to (put_into node link.put bits) l (with_arrived carried bits (is_free (cell_at node.memory link.put))))
  put_both l k link node carried bits at is has next =
      let fits = due_fits carried k bits (h.sent l carried has) next in
      both_granted link.to l node (put_into node link.put bits) (with_arrived carried bits (is_free (cell_at node.memory link.put))) is (λ i. put_granted i (no_more link.to) node link.put bits fits)
      (arrived_fits carried bits (is_free (cell_at node.memory link.put)) (h.sent l carried has))

  pub net_step_granted : (item : NetItem) → NetGranted images (entries_with e s item) (net_after links s item)
  net_step_granted (Turn k item) = after_turn (NetGranted images (later k item)) links s k item (idles_granted k item) (turned_granted k item)
  net_step_granted (Send l) = after_take (NetGranted images no_more) links s l unchanged (taken_both l)
  net_step_granted (Carry l k) = after_put (NetGranted images no_more) links s l k unchanged (put_both l k)

-- 4. Runs.

pub net_start_granted : (images : List Image) (links : List Link) (e : ℕ → Entries) → EachAt (λ n. IsImage) images → NetGranted images e (net_start images links)
net_start_granted images links e are = record {
  nodes = each_mapped (λ n node. OfImage images (e n) n node) start images (λ n i at.
      let img = are n i at in
      record { image = i; stands = at; granted = record { state = start_state i img; fits = start_fits i img; words = start_granted i img (e n) } });
  sent = each_mapped (λ (l : ℕ). SentFits) (λ (link : Link). nothing_carried) links (λ l link at. tt);
}

pub net_run_granted : (images : List Image) → EachAt (λ n. IsImage) images → (links : List Link) (e : ℕ → Entries) (s : NetState) (items : List NetItem)
    → NetGranted images e s → NetGranted images (λ n. with_entries (e n) (net_entries links s items n)) (net_run links s items)
unfolding net_run net_entries
net_run_granted images are links e s [] h = by_entries images e (λ n. with_entries (e n) []) s (λ n. sym (with_none (e n))) h
net_run_granted images are links e s (item ∷ items) h =
    let rest = net_run_granted images are links (entries_with e s item) (net_after links s item) items (net_step_granted images are links e s h item) in
    by_entries images (λ n. with_entries (entries_with e s item n) (net_entries links (net_after links s item) items n))
    (λ n. with_entries (e n) (entry_at n item (slice_get s.nodes n) ++ net_entries links (net_after links s item) items n))
    (net_run links (net_after links s item) items) (λ n. with_more (e n) (entry_at n item (slice_get s.nodes n)) (net_entries links (net_after links s item) items n)) rest

pub nodes_granted : (images : List Image) (links : List Link) (items : List NetItem) (n : ℕ) (i : Image) (node : State) → All IsImage images
    → slice_get images n ≡ Some i → slice_get (net_run links (net_start images links) items).nodes n ≡ Some node
    → GrantedNode i (These (net_entries links (net_start images links) items n)) node
nodes_granted images links items n i node are_images is at =
    let are = each_from_all IsImage images are_images in
    let all = net_run_granted images are links (λ k. These []) (net_start images links) items (net_start_granted images links (λ k. These []) are) in
    let own = all.nodes n node at in
    let found : ◌≡◌ {A = Option Image} (Some own.image) (Some i) = sym own.stands ∙ is in
    let same : own.image ≡ i = cc in
    let granted : NodeGranted i (These (net_entries links (net_start images links) items n)) node = subst
    (λ j. NodeGranted j (These (net_entries links (net_start images links) items n)) node) same own.granted in
    record {
      state = granted.state;
      fits = granted.fits;
      granted = record {
        words = granted.words;
        next = λ k. step_granted i (These (net_entries links (net_start images links) items n)) node k (are n i is) granted.state granted.fits granted.words;
      };
    }
