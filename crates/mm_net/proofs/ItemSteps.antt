-- Alike nets stay alike: where both take an item of the groups, and where one takes an item outside them.
use Rattle.std.proofs.Common.{◌≡◌, ℕ, ◌^◌, ◌<◌, inl, inr, Bool, true, false, List, slice_get, Option, Some, None, refl}
use Rattle.std.{proofs.{Common.{sym, ◌∙◌, subst}, lemmas.Bool.cases_Bool}, specs.Prelude.IsSomeAnd}
use Rattle.mm_model.specs.{Memory.cell_at, Image.Image, Schedule.is_kept, Run.after, Reach.{Entries as entries}}
use Rattle.mm_model.specs.Worlds.{Touchable}
use Rattle.mm_net.specs.declared.{link.Link.Link, item.NetItem.{NetItem, TheVariants.{Turn, Send, Carry}}}
use Rattle.mm_net.specs.Nets.{Carried, NetState, turns, bits_in, with_sent, taken_from, takes_at, takes, due, is_free}
use Rattle.mm_net.specs.Nets.{with_arrived, put_into, puts_at, puts_of, puts, with_both, net_step, net_after}
use Rattle.mm_net.specs.Isolated.{IsLinkOf, IsItemOf, NetsAgreeApart}
use Rattle.mm_net.proofs.{CarriedFits.{SentFits, sent_fits, arrived_fits, due_fits}, PortCalls.taken_fits}
use Rattle.mm_net.proofs.LinkEnds.{take_end, put_end}
use Rattle.mm_net.proofs.BothNets.{OwnEnd, NodesHere, NodesAt, Both, and_at, and_there, not_own, turn_both, turn_one}
use Rattle.mm_net.proofs.BothNets.{link_both, link_one}
use Rattle.mm_net.proofs.NodeSteps.{alike_turns, alike_turn, alike_takes, alike_puts, alike_take, alike_put}

module _ (images others : List Image) (links : List Link) (c : ℕ → ℕ → Bool) (g : NetsAgreeApart images others links c) (s t : NetState) (both : Both images others links c s t) where
  abbrev Alike : NetState → NetState → Type 0
  Alike x y = Both images others links c x y

  abbrev Here : ℕ → Type 0
  Here n = NodesHere images others links c s.nodes t.nodes n

  -- 1. Turns.

  turn_by : (n item : ℕ) → NodesAt images others links c s.nodes t.nodes n → IsItemOf images links c (Turn n item)
      → Alike (turns s n item (slice_get s.nodes n)).net (turns t n item (slice_get t.nodes n)).net
  turn_by n item (NodesAt.absent no_image no_one no_other) own = absurd (subst (λ o. IsSomeAnd o (λ i. is_kept i (c n) item ≡ true)) no_image own)
  turn_by n item (NodesAt.present h) own =
      subst (λ o. Alike (turns s n item o).net (turns t n item (slice_get t.nodes n)).net) (sym h.in_one)
      (subst (λ o. Alike (turns s n item (Some h.a)).net (turns t n item o).net) (sym h.in_other)
      (turn_both images others links c s t both n h (after h.a item) (after h.b item)
      (alike_turns images others links c g n h.i h.j h.in_images h.in_others h.a h.b h.alike item (and_at (slice_get images n) h.i (λ i. is_kept i (c n) item ≡ true) h.in_images own))))

  turn_outside_by : (n item : ℕ) → NodesAt images others links c s.nodes t.nodes n → (IsItemOf images links c (Turn n item) → ⊥) → Alike (turns s n item (slice_get s.nodes n)).net t
  turn_outside_by n item (NodesAt.absent no_image no_one no_other) outside = subst (λ o. Alike (turns s n item o).net t) (sym no_one) both
  turn_outside_by n item (NodesAt.present h) outside =
      subst (λ o. Alike (turns s n item o).net t) (sym h.in_one)
      (turn_one images others links c s t both n h (after h.a item) (alike_turn images others links c g n h.i h.j h.in_images h.in_others h.a h.b h.alike item kept))
    where
      kept : is_kept h.i (c n) item ≡ false
      kept = elim (cases_Bool (is_kept h.i (c n) item)) [ inl mine ↦ absurd (outside (and_there (slice_get images n) h.i (λ i. is_kept i (c n) item ≡ true) h.in_images mine)) | inr other ↦ other ]

  module _ (l : ℕ) (link : Link) (stands : slice_get links l ≡ Some link) where
    -- 2. Links of the groups.

    module _ (own : IsLinkOf images c link) where
      there_too : (x : Carried) → slice_get s.links l ≡ Some x → slice_get t.links l ≡ Some x
      there_too x is = sym (both.carried l link stands own) ∙ is

      take_end_is : OwnEnd images links c link.from link.take
      take_end_is = record { number = l; link = link; stands = stands; own = own; side = inl (refl, refl) }

      put_end_is : OwnEnd images links c link.to link.put
      put_end_is = record { number = l; link = link; stands = stands; own = own; side = inr (refl, refl) }

      taken : (h : Here link.from) (o : Option Carried) → slice_get s.links l ≡ o → Alike (takes_at s l link (Some h.a) o).net (takes_at t l link (Some h.b) o).net
      taken h None is = both
      taken h (Some x) is =
          let equal = h.alike.ends link.take take_end_is in
          let new : Carried = with_sent x (bits_in (cell_at h.a.memory link.take)) in
          let fits : SentFits new = sent_fits x (bits_in (cell_at h.a.memory link.take)) (both.sent_fits l x is) (λ bits at. taken_fits h.a link.take bits h.alike.worlds.one_state at) in
          subst (λ cell. Alike (with_both s link.from (taken_from h.a link.take) l new) (with_both t link.from (taken_from h.b link.take) l (with_sent x (bits_in cell)))) equal
          (link_both images others links c s t both link.from h l x new is fits (taken_from h.a link.take)
          (taken_from h.b link.take) (there_too x is) (alike_takes images links c link.from h.i h.j h.a h.b h.alike
          link.take equal))

      take_by : NodesAt images others links c s.nodes t.nodes link.from → (o : Option Carried) → slice_get s.links l ≡ o
          → Alike (takes_at s l link (slice_get s.nodes link.from) o).net (takes_at t l link (slice_get t.nodes link.from) o).net
      take_by (NodesAt.absent no_image no_one no_other) o is =
          subst (λ p. Alike (takes_at s l link p o).net (takes_at t l link (slice_get t.nodes link.from) o).net) (sym no_one) (subst (λ p. Alike s (takes_at t l link p o).net) (sym no_other) both)
      take_by (NodesAt.present h) o is =
          subst (λ p. Alike (takes_at s l link p o).net (takes_at t l link (slice_get t.nodes link.from) o).net) (sym h.in_one)
          (subst (λ p. Alike (takes_at s l link (Some h.a) o).net (takes_at t l link p o).net) (sym h.in_other) (taken h o is))

      carried : (h : Here link.to) (x : Carried) (o : Option ℕ) → slice_get s.links l ≡ Some x
          → ((bits : ℕ) → o ≡ Some bits → bits < 2 ^ 64) → Alike (puts_at s l link x (Some h.a) o).net
          (puts_at t l link x (Some h.b) o).net
      carried h x None is fits = both
      carried h x (Some bits) is fits =
          let equal = h.alike.ends link.put put_end_is in
          let new : Carried = with_arrived x bits (is_free (cell_at h.a.memory link.put)) in
          subst (λ cell. Alike (with_both s link.to (put_into h.a link.put bits) l new) (with_both t link.to (put_into h.b link.put bits) l (with_arrived x bits (is_free cell)))) equal
          (link_both images others links c s t both link.to h l x new is
          (arrived_fits x bits (is_free (cell_at h.a.memory link.put)) (both.sent_fits l x is))
          (put_into h.a link.put bits) (put_into h.b link.put bits) (there_too x is)
          (alike_puts images links c link.to h.i h.j h.a h.b h.alike link.put bits (fits bits refl) equal))

      put_by : NodesAt images others links c s.nodes t.nodes link.to → (x : Carried) (o : Option ℕ) → slice_get s.links l ≡ Some x → ((bits : ℕ) → o ≡ Some bits → bits < 2 ^ 64)
          → Alike (puts_at s l link x (slice_get s.nodes link.to) o).net (puts_at t l link x (slice_get t.nodes link.to) o).net
      put_by (NodesAt.absent no_image no_one no_other) x o is fits =
          subst (λ p. Alike (puts_at s l link x p o).net (puts_at t l link x (slice_get t.nodes link.to) o).net) (sym no_one) (subst (λ p. Alike s (puts_at t l link x p o).net) (sym no_other) both)
      put_by (NodesAt.present h) x o is fits =
          subst (λ p. Alike (puts_at s l link x p o).net (puts_at t l link x (slice_get t.nodes link.to) o).net) (sym h.in_one)
          (subst (λ p. Alike (puts_at s l link x (Some h.a) o).net (puts_at t l link x p o).net) (sym h.in_other) (carried h x o is fits))

      put_of : (k : ℕ) (o : Option Carried) → slice_get s.links l ≡ o → Alike (puts_of s l k link o).net (puts_of t l k link o).net
      put_of k None is = both
      put_of k (Some x) is = put_by (both.nodes link.to) x (due x k) is (λ bits at. due_fits x k bits (both.sent_fits l x is) at)

      send_own : Alike (takes s l (Some link)).net (takes t l (Some link)).net
      send_own =
          subst (λ o. Alike (takes s l (Some link)).net (takes_at t l link (slice_get t.nodes link.from) o).net)
          (both.carried l link stands own) (take_by (both.nodes link.from) (slice_get s.links l) refl)

      carry_own : (k : ℕ) → Alike (puts s l k (Some link)).net (puts t l k (Some link)).net
      carry_own k = subst (λ o. Alike (puts s l k (Some link)).net (puts_of t l k link o).net) (both.carried l link stands own) (put_of k (slice_get s.links l) refl)

    -- 3. Other links.

    module _ (outside : IsLinkOf images c link → ⊥) where
      taken_one : (h : Here link.from) (o : Option Carried) → slice_get s.links l ≡ o → Alike (takes_at s l link (Some h.a) o).net t
      taken_one h None is = both
      taken_one h (Some x) is =
          let cell = cell_at h.a.memory link.take in
          let fits : SentFits (with_sent x (bits_in cell)) = sent_fits x (bits_in cell) (both.sent_fits l x is) (λ bits at. taken_fits h.a link.take bits h.alike.worlds.one_state at) in
          let untouched = λ (touched : Touchable h.i entries.All (c link.from) link.take). outside
          (inl (and_there (slice_get images link.from) h.i (λ i. Touchable i entries.All (c link.from) link.take)
          h.in_images touched)) in
          link_one images others links c s t both link.from h l x (with_sent x (bits_in cell)) is fits (taken_from h.a link.take) link stands outside
          (alike_take images links c link.from h.i h.j h.a h.b h.alike link.take untouched (not_own images others links c g l link stands outside link.from link.take (take_end links l link stands)))

      take_one_by : NodesAt images others links c s.nodes t.nodes link.from → (o : Option Carried) → slice_get s.links l ≡ o → Alike (takes_at s l link (slice_get s.nodes link.from) o).net t
      take_one_by (NodesAt.absent no_image no_one no_other) o is = subst (λ p. Alike (takes_at s l link p o).net t) (sym no_one) both
      take_one_by (NodesAt.present h) o is = subst (λ p. Alike (takes_at s l link p o).net t) (sym h.in_one) (taken_one h o is)

      carried_one : (h : Here link.to) (x : Carried) (o : Option ℕ) → slice_get s.links l ≡ Some x → ((bits : ℕ) → o ≡ Some bits → bits < 2 ^ 64) → Alike (puts_at s l link x (Some h.a) o).net t
      carried_one h x None is fits = both
      carried_one h x (Some bits) is fits =
          let free = is_free (cell_at h.a.memory link.put) in
          let untouched = λ (touched : Touchable h.i entries.All (c link.to) link.put). outside
          (inr (and_there (slice_get images link.to) h.i (λ i. Touchable i entries.All (c link.to) link.put)
          h.in_images touched)) in
          link_one images others links c s t both link.to h l x (with_arrived x bits free) is (arrived_fits x bits free (both.sent_fits l x is)) (put_into h.a link.put bits) link stands outside
          (alike_put images links c link.to h.i h.j h.a h.b h.alike link.put untouched
          (not_own images others links c g l link stands outside link.to link.put (put_end links l link stands))
          bits (fits bits refl))

      put_one_by : NodesAt images others links c s.nodes t.nodes link.to → (x : Carried) (o : Option ℕ) → slice_get s.links l ≡ Some x → ((bits : ℕ) → o ≡ Some bits → bits < 2 ^ 64)
          → Alike (puts_at s l link x (slice_get s.nodes link.to) o).net t
      put_one_by (NodesAt.absent no_image no_one no_other) x o is fits = subst (λ p. Alike (puts_at s l link x p o).net t) (sym no_one) both
      put_one_by (NodesAt.present h) x o is fits = subst (λ p. Alike (puts_at s l link x p o).net t) (sym h.in_one) (carried_one h x o is fits)

      put_one_of : (k : ℕ) (o : Option Carried) → slice_get s.links l ≡ o → Alike (puts_of s l k link o).net t
      put_one_of k None is = both
      put_one_of k (Some x) is = put_one_by (both.nodes link.to) x (due x k) is (λ bits at. due_fits x k bits (both.sent_fits l x is) at)

      send_other : Alike (takes s l (Some link)).net t
      send_other = take_one_by (both.nodes link.from) (slice_get s.links l) refl

      carry_other : (k : ℕ) → Alike (puts s l k (Some link)).net t
      carry_other k = put_one_of k (slice_get s.links l) refl

  -- 4. Items.

  send_by : (l : ℕ) (o : Option Link) → slice_get links l ≡ o → IsSomeAnd o (IsLinkOf images c) → Alike (takes s l o).net (takes t l o).net
  send_by l None is own = absurd own
  send_by l (Some link) is own = send_own l link is own

  carry_by : (l k : ℕ) (o : Option Link) → slice_get links l ≡ o → IsSomeAnd o (IsLinkOf images c) → Alike (puts s l k o).net (puts t l k o).net
  carry_by l k None is own = absurd own
  carry_by l k (Some link) is own = carry_own l link is own k

  send_outside_by : (l : ℕ) (o : Option Link) → slice_get links l ≡ o → (IsSomeAnd o (IsLinkOf images c) → ⊥) → Alike (takes s l o).net t
  send_outside_by l None is outside = both
  send_outside_by l (Some link) is outside = send_other l link is outside

  carry_outside_by : (l k : ℕ) (o : Option Link) → slice_get links l ≡ o → (IsSomeAnd o (IsLinkOf images c) → ⊥) → Alike (puts s l k o).net t
  carry_outside_by l k None is outside = both
  carry_outside_by l k (Some link) is outside = carry_other l link is outside k

  -- both nets take an item of the groups
  pub both_step : (item : NetItem) → IsItemOf images links c item → Alike (net_after links s item) (net_after links t item)
  unfolding net_after net_step
  both_step (Turn n item) own = turn_by n item (both.nodes n) own
  both_step (Send l) own = send_by l (slice_get links l) refl own
  both_step (Carry l k) own = carry_by l k (slice_get links l) refl own

  -- one net takes an item that is not the groups'
  pub one_step : (item : NetItem) → (IsItemOf images links c item → ⊥) → Alike (net_after links s item) t
  unfolding net_after net_step
  one_step (Turn n item) outside = turn_outside_by n item (both.nodes n) outside
  one_step (Send l) outside = send_outside_by l (slice_get links l) refl outside
  one_step (Carry l k) outside = carry_outside_by l k (slice_get links l) refl outside
