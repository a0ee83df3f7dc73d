-- Two nets that are alike to groups of their nodes: in what the groups see, and at both ends of their links.
use Rattle.std.proofs.Common.{◌≡◌, ℕ, zero, suc, ◌⊎◌, inl, inr, Bool, List, [], ◌∷◌, length, map, slice_get, slice_set}
use Rattle.std.proofs.Common.{Option, Some, None, option_map, refl, sym, ap, ◌∙◌, subst, arith}
use Rattle.std.proofs.lemmas.{Bool.cases_eq, Option.{slice_get-map, slice_get_within, get_or_from_slice_get}}
use Rattle.std.specs.Prelude.{Contains, IsSomeAnd}
use Rattle.mm_model.specs.{Memory.cell_at, State.State, Image.{Image, start}, Spelling.IsImage}
use Rattle.mm_model.specs.{Reach.{Entries as entries}, Worlds.Touchable}
use Rattle.mm_model.proofs.Memories.{get_set_same, get_set_other}
use Rattle.mm_laws.{specs.Isolated.{AgreeApart, Worlds}, proofs.{AlikeWorlds.touchable_other, TwoLists.start_worlds}}
use Rattle.mm_net.specs.declared.link.Link.{Link}
use Rattle.mm_net.specs.Nets.{Carried, NetState, nothing_carried, net_start, with_node, with_both}
use Rattle.mm_net.specs.Isolated.{TouchedAt, IsLinkOf, IsUnwritten, NetApart, HaveSameCell, NetsAgreeApart}
use Rattle.mm_net.proofs.{Nodes.{EachAt, each_put, each_mapped, each_from_all}, CarriedFits.SentFits}
use Rattle.mm_net.proofs.LinkEnds.{IsEndOf, take_end, put_end, same_link}

-- 1. Places of lists.

-- lists of one length have an element at the same places
pub data TwoAt {A B : Type 0} (o : Option A) (p : Option B) : Type 0 where
  none : o ≡ None → p ≡ None → TwoAt o p
  some : (x : A) (y : B) → o ≡ Some x → p ≡ Some y → TwoAt o p

pub two_at : {A B : Type 0} (xs : List A) (ys : List B) → length xs ≡ length ys → (n : ℕ) → TwoAt (slice_get xs n) (slice_get ys n)
two_at [] [] same n = TwoAt.none refl refl
two_at [] (y ∷ ys) same n = absurd (omega arith)
two_at (x ∷ xs) [] same n = absurd (omega arith)
two_at (x ∷ xs) (y ∷ ys) same zero = TwoAt.some x y refl refl
two_at (x ∷ xs) (y ∷ ys) same (suc n) = two_at xs ys (omega arith) n

-- this element stands at the place of a list, and elsewhere what stood there before
pub record Moves {A : Type 0} (xs later : List A) (n : ℕ) (x : A) : Type 0 where
  pub here : slice_get later n ≡ Some x
  pub elsewhere : (m : ℕ) → (m ≡ n → ⊥) → slice_get later m ≡ slice_get xs m

pub moves : {A : Type 0} (xs : List A) (n : ℕ) (old new : A) → slice_get xs n ≡ Some old → Moves xs (slice_set xs n new) n new
moves xs n old new is = record { here = get_set_same xs n new old is; elsewhere = λ m ne. get_set_other xs n m new ne }

pub stays : {A : Type 0} (xs : List A) (n : ℕ) (x : A) → slice_get xs n ≡ Some x → Moves xs xs n x
stays xs n x is = record { here = is; elsewhere = λ m ne. refl }

pub contained_at : {A : Type 0} (xs : List A) (n : ℕ) (x : A) → slice_get xs n ≡ Some x → Contains xs x
contained_at xs n x is = (n, slice_get_within xs n x is, get_or_from_slice_get xs n x x is)

pub and_at : {A : Type 0} (o : Option A) (x : A) (P : A → Type 0) → o ≡ Some x → IsSomeAnd o P → P x
and_at None x P is h = absurd h
and_at (Some y) x P is h = let same : y ≡ x = cc in subst P same h

pub and_there : {A : Type 0} (o : Option A) (x : A) (P : A → Type 0) → o ≡ Some x → P x → IsSomeAnd o P
and_there o x P is h = subst (λ p. IsSomeAnd p P) (sym is) h

-- 2. Ends of the groups' links.

-- the end of this node and word is one of a link of the groups
pub record OwnEnd (images : List Image) (links : List Link) (c : ℕ → ℕ → Bool) (n w : ℕ) : Type 0 where
  pub number : ℕ
  pub link : Link
  pub stands : slice_get links number ≡ Some link
  pub own : IsLinkOf images c link
  pub side : ((link.from ≡ n) × (link.take ≡ w)) ⊎ ((link.to ≡ n) × (link.put ≡ w))

module _ (images : List Image) (links : List Link) (c : ℕ → ℕ → Bool) (n w : ℕ) (e : OwnEnd images links c n w) where
  -- what holds of both ends of the link holds of this one
  pub of_end : (P : ℕ → ℕ → Type 0) → P e.link.from e.link.take → P e.link.to e.link.put → P n w
  of_end P takes puts = elim e.side [
    | inl at ↦ subst (P n) at.1 (subst (λ m. P m e.link.take) at.0 takes)
    | inr at ↦ subst (P n) at.1 (subst (λ m. P m e.link.put) at.0 puts)
  ]

  pub own_end : IsEndOf links e.number n w
  own_end = of_end (IsEndOf links e.number) (take_end links e.number e.link e.stands) (put_end links e.number e.link e.stands)

  pub link_contained : Contains links e.link
  link_contained = contained_at links e.number e.link e.stands

  -- no group outside can write there
  pub unwritten : NetApart images links c → IsUnwritten images c n w
  unwritten apart = of_end (IsUnwritten images c) (apart.takes e.link link_contained e.own) (apart.puts e.link link_contained e.own)

module _ (images others : List Image) (links : List Link) (c : ℕ → ℕ → Bool) (g : NetsAgreeApart images others links c) where
  pub agree_at : (n : ℕ) (i j : Image) → slice_get images n ≡ Some i → slice_get others n ≡ Some j → AgreeApart i j (c n)
  agree_at n i j at_i at_j = record {
    one = each_from_all IsImage images g.one n i at_i;
    other = each_from_all IsImage others g.other n j at_j;
    agree = g.agree.nodes n i j at_i at_j;
    one_apart = g.one_apart.nodes n i at_i;
    other_apart = g.other_apart.nodes n j at_j;
  }

  -- what the groups can touch in one net they can touch in the other
  touched_other : (n w : ℕ) → TouchedAt images c n w → TouchedAt others c n w
  touched_other n w h = elim (two_at images others g.agree.count n) [
    | TwoAt.none at_i at_j ↦ absurd (subst (λ o. IsSomeAnd o (λ i. Touchable i entries.All (c n) w)) at_i h)
    | TwoAt.some i j at_i at_j ↦
        let there = agree_at n i j at_i at_j in
        and_there (slice_get others n) j (λ k. Touchable k entries.All (c n) w) at_j
        (touchable_other i j (c n) there.agree there.one_apart w (and_at (slice_get images n) i (λ k. Touchable k entries.All (c n) w) at_i h))
  ]

  pub link_other : (link : Link) → IsLinkOf images c link → IsLinkOf others c link
  link_other link h = elim h [ inl t ↦ inl (touched_other link.from link.take t) | inr p ↦ inr (touched_other link.to link.put p) ]

  pub end_other : (n w : ℕ) → OwnEnd images links c n w → OwnEnd others links c n w
  end_other n w e = record { number = e.number; link = e.link; stands = e.stands; own = link_other e.link e.own; side = e.side }

  -- an end of a link that is not the groups' is no end of theirs
  pub not_own : (l : ℕ) (link : Link) → slice_get links l ≡ Some link → (IsLinkOf images c link → ⊥) → (n w : ℕ) → IsEndOf links l n w → OwnEnd images links c n w → ⊥
  not_own l link is outside n w h e =
      let number = same_link links g.rules.once l e.number n w h (own_end images links c n w e) in
      let stands = e.stands in
      let same : ◌≡◌ {A = Option Link} (Some link) (Some e.link) = sym is ∙ ap (slice_get links) number ∙ stands in
      let link_is : e.link ≡ link = cc in
      outside (subst (IsLinkOf images c) link_is e.own)

-- 3. Nodes that are alike, and nets.

-- two worlds at a node, with equal cells at the ends of the groups' links
pub record AlikeAt (images : List Image) (links : List Link) (c : ℕ → ℕ → Bool) (n : ℕ) (i j : Image) (a b : State) : Type 0 where
  pub worlds : Worlds i j (c n) a b
  pub ends : (w : ℕ) → OwnEnd images links c n w → cell_at a.memory w ≡ cell_at b.memory w

-- a node of both nets, with its images and its states, which are alike
pub record NodesHere (images others : List Image) (links : List Link) (c : ℕ → ℕ → Bool) (xs ys : List State) (n : ℕ) : Type 0 where
  pub i : Image
  pub j : Image
  pub a : State
  pub b : State
  pub in_images : slice_get images n ≡ Some i
  pub in_others : slice_get others n ≡ Some j
  pub in_one : slice_get xs n ≡ Some a
  pub in_other : slice_get ys n ≡ Some b
  pub alike : AlikeAt images links c n i j a b

-- such a node is there, or there is none in either net
pub data NodesAt (images others : List Image) (links : List Link) (c : ℕ → ℕ → Bool) (xs ys : List State) (n : ℕ) : Type 0 where
  absent : slice_get images n ≡ None → slice_get xs n ≡ None → slice_get ys n ≡ None → NodesAt images others links c xs ys n
  present : NodesHere images others links c xs ys n → NodesAt images others links c xs ys n

-- the links of the groups carried the same
abbrev pub Carries : List Image → List Link → (ℕ → ℕ → Bool) → List Carried → List Carried → Type 0
Carries images links c xs ys = (l : ℕ) (link : Link) → slice_get links l ≡ Some link → IsLinkOf images c link → slice_get xs l ≡ slice_get ys l

-- Two nets that are alike to the groups. The first may take items alone, so what its links sent is kept besides.
pub record Both (images others : List Image) (links : List Link) (c : ℕ → ℕ → Bool) (s t : NetState) : Type 0 where
  pub nodes : (n : ℕ) → NodesAt images others links c s.nodes t.nodes n
  pub carried : Carries images links c s.links t.links
  pub sent_fits : EachAt (λ l. SentFits) s.links

module _ (images others : List Image) (links : List Link) (c : ℕ → ℕ → Bool) where
  -- after a change of one node, in one net or in both
  nodes_move : (xs ys later later' : List State) (n : ℕ) (h : NodesHere images others links c xs ys n) (a b : State) → ((m : ℕ) → NodesAt images others links c xs ys m)
      → Moves xs later n a → Moves ys later' n b → AlikeAt images links c n h.i h.j a b → (m : ℕ) → NodesAt images others links c later later' m
  nodes_move xs ys later later' n h a b old one other alike m = elim (cases_eq m n) [
    | inl same ↦
        subst (NodesAt images others links c later later') (sym same)
        (NodesAt.present (record { i = h.i; j = h.j; a = a; b = b; in_images = h.in_images; in_others = h.in_others; in_one = one.here; in_other = other.here; alike = alike }))
    | inr ne ↦ elim (old m) [
      | NodesAt.absent no_image no_one no_other ↦ NodesAt.absent no_image (one.elsewhere m ne ∙ no_one) (other.elsewhere m ne ∙ no_other)
      | NodesAt.present k ↦
          NodesAt.present
          (record {
            i = k.i;
            j = k.j;
            a = k.a;
            b = k.b;
            in_images = k.in_images;
            in_others = k.in_others;
            in_one =
                one.elsewhere m ne ∙ k.in_one;
            in_other = other.elsewhere m ne ∙ k.in_other;
            alike = k.alike;
          })
    ]
  ]

  -- after a change of what a link carried: the same in both nets, or one of a link that is not the groups'
  carries_both : (xs ys later later' : List Carried) (l : ℕ) (new : Carried) → Carries images links c xs ys → Moves xs later l new → Moves ys later' l new → Carries images links c later later'
  carries_both xs ys later later' l new old one other m link is own = elim (cases_eq m l) [
    | inl same ↦ ap (slice_get later) same ∙ one.here ∙ sym other.here ∙ sym (ap (slice_get later') same)
    | inr ne ↦ one.elsewhere m ne ∙ old m link is own ∙ sym (other.elsewhere m ne)
  ]

  carries_one : (xs ys later : List Carried) (l : ℕ) (outside : Link) (new : Carried) → Carries images links c xs ys → slice_get links l ≡ Some outside → (IsLinkOf images c outside → ⊥)
      → Moves xs later l new → Carries images links c later ys
  carries_one xs ys later l outside new old at not_own one m link is own = elim (cases_eq m l) [
    | inl same ↦
        let link_is : ◌≡◌ {A = Option Link} (Some link) (Some outside) = sym is ∙ ap (slice_get links) same ∙ at in
        let same_link : link ≡ outside = cc in
        absurd (not_own (subst (IsLinkOf images c) same_link own))
    | inr ne ↦ one.elsewhere m ne ∙ old m link is own
  ]

  module _ (s t : NetState) (both : Both images others links c s t) (n : ℕ) (h : NodesHere images others links c s.nodes t.nodes n) where
    -- after a turn of a node in both nets, and in the first alone
    pub turn_both : (a b : State) → AlikeAt images links c n h.i h.j a b → Both images others links c (with_node s n a) (with_node t n b)
    turn_both a b alike = record {
      nodes = nodes_move s.nodes t.nodes (slice_set s.nodes n a) (slice_set t.nodes n b) n h a b both.nodes (moves s.nodes n h.a a h.in_one) (moves t.nodes n h.b b h.in_other) alike;
      carried = both.carried;
      sent_fits = both.sent_fits;
    }

    pub turn_one : (a : State) → AlikeAt images links c n h.i h.j a h.b → Both images others links c (with_node s n a) t
    turn_one a alike = record {
      nodes = nodes_move s.nodes t.nodes (slice_set s.nodes n a) t.nodes n h a h.b both.nodes (moves s.nodes n h.a a h.in_one) (stays t.nodes n h.b h.in_other) alike;
      carried = both.carried;
      sent_fits = both.sent_fits;
    }

    -- after a link took or put there
    module _ (l : ℕ) (old new : Carried) (stands : slice_get s.links l ≡ Some old) (fits : SentFits new) where
      pub link_both : (a b : State) → slice_get t.links l ≡ Some old → AlikeAt images links c n h.i h.j a b → Both images others links c (with_both s n a l new) (with_both t n b l new)
      link_both a b there alike = record {
        nodes = (turn_both a b alike).nodes;
        carried = carries_both s.links t.links (slice_set s.links l new) (slice_set t.links l new) l new both.carried (moves s.links l old new stands) (moves t.links l old new there);
        sent_fits = each_put (λ m. SentFits) s.links l new both.sent_fits fits;
      }

      pub link_one : (a : State) (link : Link) → slice_get links l ≡ Some link → (IsLinkOf images c link → ⊥)
          → AlikeAt images links c n h.i h.j a h.b → Both images others links c (with_both s n a l new) t
      link_one a link is outside alike = record {
        nodes = (turn_one a alike).nodes;
        carried = carries_one s.links t.links (slice_set s.links l new) l link new both.carried is outside (moves s.links l old new stands);
        sent_fits = each_put (λ m. SentFits) s.links l new both.sent_fits fits;
      }

-- 4. The starts are alike.

module _ (images others : List Image) (links : List Link) (c : ℕ → ℕ → Bool) (g : NetsAgreeApart images others links c) where
  start_ends : (n : ℕ) (i j : Image) → slice_get images n ≡ Some i → slice_get others n ≡ Some j → (w : ℕ) → OwnEnd images links c n w → cell_at (start i).memory w ≡ cell_at (start j).memory w
  unfolding start
  start_ends n i j at_i at_j w e =
      let there = link_contained images links c n w e in
      of_end images links c n w e (HaveSameCell images others) (g.agree.takes e.link there e.own) (g.agree.puts e.link there e.own) i j at_i at_j

  mapped : (xs : List Image) (n : ℕ) (o : Option Image) → slice_get xs n ≡ o → slice_get (map start xs) n ≡ option_map start o
  mapped xs n o is = slice_get-map start xs n ∙ ap (option_map start) is

  start_nodes : (n : ℕ) → NodesAt images others links c (map start images) (map start others) n
  start_nodes n = elim (two_at images others g.agree.count n) [
    | TwoAt.none no_i no_j ↦ NodesAt.absent no_i (mapped images n None no_i) (mapped others n None no_j)
    | TwoAt.some i j at_i at_j ↦
        NodesAt.present
        (record {
          i = i;
          j = j;
          a = start i;
          b = start j;
          in_images = at_i;
          in_others = at_j;
          in_one = mapped images n (Some i) at_i;
          in_other = mapped others n (Some j) at_j;
          alike = record { worlds = start_worlds i j (c n) (agree_at images others links c g n i j at_i at_j); ends = start_ends n i j at_i at_j };
        })
  ]

  nothing_fits : EachAt (λ l. SentFits) (map (λ (x : Link). nothing_carried) links)
  nothing_fits = each_mapped (λ l. SentFits) (λ (x : Link). nothing_carried) links (λ l link at. tt)

  pub start_both : Both images others links c (net_start images links) (net_start others links)
  start_both = record { nodes = start_nodes; carried = λ l link is own. refl; sent_fits = nothing_fits }
