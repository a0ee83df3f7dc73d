-- The text of groups, one group after the other, and the doors that they hold.
use Rattle.std.proofs.Common.{◌≡◌, inl, inr, ℕ, ◌+◌, ◌<◌, List, [], ◌∷◌, ◌++◌, map, length, take, get_or, Some, None, refl, sym, ap}
use Rattle.std.proofs.Common.{◌∙◌, subst, append_assoc, append-nil}
use Rattle.std.proofs.lemmas.List.{take_more, map-append}
use Rattle.std.specs.{Prelude.Contains, List.{AllByRecursion, AllZip}}
use Rattle.mm_word.specs.{Pointer.Pointer}
use Rattle.mm_model.specs.Image.{Image}
use Rattle.mm_kernel.specs.Segments.{Segment}
use Rattle.mm_kernel.specs.declared.thread.Origin.{Origin, TheVariants.{Door, Slot as OfSlot}}
use Rattle.mm_span.proofs.Members.{none_in, in_first, in_rest, in_cases, all_at}
use Rattle.mm_span.specs.Pairs.{EachPair}
use Rattle.mm_kernel.specs.declared.fact.Leak.{Leak}
use Rattle.mm_keep_text.specs.declared.told.Answer.{Answer, TheVariants.{Privileged, More, Found}}
use Rattle.mm_keep_text.specs.{Told.{Party, Told}, Answers.{IsAnswer, IsParty, IsTold, kernel_slots}}
use Rattle.mm_confine.proofs.Open.{granted_is_open}
use Rattle.mm_confine.specs.declared.party.Party.TheVariants.{Group as GroupParty}
use Rattle.mm_hold.specs.Holdings.{AreHoldings, HoldsDoor, HoldingsValue}
use Rattle.mm_confine_text.specs.declared.kept.{Group.Group, Reach.Reach}
use Rattle.mm_confine_text.specs.{Found.{HeldOf, IsGroup, IsReach, IsReachIf, numbers_of}, Parts.{AreParties, origins_of}}
use Rattle.mm_confine_text.specs.Told.{AreHeldDoors, AreGroups, GroupsIf, GroupText, GroupTexts, GroupTexts.{no_group, group}}

module _ (i : Image) (kept : List Segment) where
  -- 1. Texts.

  pub texts_then : (gs hs a b : List ℕ) → GroupTexts i kept gs a → GroupTexts i kept hs b → GroupTexts i kept (gs ++ hs) (a ++ b)
  texts_then gs hs a b no_group rest = rest
  texts_then gs hs a b (group {g = g} {gs = others} {own = own} {text = text} is more) rest =
      subst (GroupTexts i kept (g ∷ (others ++ hs))) (sym (append_assoc own text b)) (group is (texts_then others hs text b more rest))

  -- 2. Doors.

  module _ (g : ℕ) where
    abbrev P : Pointer → Type 0
    P d = HoldsDoor i kept g d

    pub held_then : (os ps : List Origin) (ds es : List Pointer) → HeldOf i kept g os ds → HeldOf i kept g ps es → HeldOf i kept g (os ++ ps) (ds ++ es)
    held_then [] ps ds es h k = subst (λ l. HeldOf i kept g ps (l ++ es)) (sym h) k
    held_then (OfSlot n ∷ os) ps ds es h k = held_then os ps ds es h k
    held_then (Door d ∷ os) ps ds es (inl h) k = inl (h.0, held_then os ps ds es h.1 k)
    held_then (Door d ∷ os) ps ds es (inr h) k =
        let (rest, is, more) = h.1 in
        inr (h.0, (rest ++ es, ap (λ l. l ++ es) is, held_then os ps rest es more k))

    pub held_one : (d : Pointer) → P d → HeldOf i kept g (Door d ∷ []) (d ∷ [])
    held_one d h = inr (h, ([], refl, refl))

    pub held_none : (d : Pointer) → (P d → ⊥) → HeldOf i kept g (Door d ∷ []) []
    held_none d out = inl (out, refl)

    no_slots : (slots : List ℕ) (ds : List Pointer) → HeldOf i kept g (map OfSlot slots) ds → ds ≡ []
    no_slots [] ds h = h
    no_slots (n ∷ slots) ds h = no_slots slots ds h

    to_all : (doors : List Pointer) (slots : List ℕ) (ds : List Pointer) (d : Pointer) → HeldOf i kept g (map Door doors ++ map OfSlot slots) ds → Contains ds d → Contains doors d × P d
    to_all [] slots ds d h there = absurd (none_in d (subst (λ l. Contains l d) (no_slots slots ds h) there))
    to_all (e ∷ doors) slots ds d (inl h) there = let k = to_all doors slots ds d h.1 there in (in_rest e doors d k.0, k.1)
    to_all (e ∷ doors) slots ds d (inr h) there =
        let (rest, is, more) = h.1 in
        elim (in_cases e rest d (subst (λ l. Contains l d) is there)) [
          | inl same ↦ (subst (Contains (e ∷ doors)) same (in_first e doors), subst P same h.0)
          | inr later ↦ let k = to_all doors slots rest d more later in (in_rest e doors d k.0, k.1)
        ]

    from_all : (doors : List Pointer) (slots : List ℕ) (ds : List Pointer) (d : Pointer) → HeldOf i kept g (map Door doors ++ map OfSlot slots) ds → Contains doors d → P d → Contains ds d
    from_all [] slots ds d h there p = absurd (none_in d there)
    from_all (e ∷ doors) slots ds d (inl h) there p = elim (in_cases e doors d there) [
      | inl same ↦ absurd (h.0 (subst P (sym same) p))
      | inr later ↦ from_all doors slots ds d h.1 later p
    ]
    from_all (e ∷ doors) slots ds d (inr h) there p =
        let (rest, is, more) = h.1 in
        subst (λ l. Contains l d) (sym is) (elim (in_cases e doors d there) [
          | inl same ↦ subst (Contains (e ∷ rest)) same (in_first e rest)
          | inr later ↦ in_rest e rest d (from_all doors slots rest d more later p)
        ])

    all_kept : (R : Pointer → Type 0) (doors : List Pointer) (slots : List ℕ) (ds : List Pointer) → HeldOf i kept g (map Door doors ++ map OfSlot slots) ds → AllByRecursion R doors → AllByRecursion R ds
    all_kept R [] slots ds h all = subst (AllByRecursion R) (sym (no_slots slots ds h)) tt
    all_kept R (e ∷ doors) slots ds (inl h) all = all_kept R doors slots ds h.1 all.1
    all_kept R (e ∷ doors) slots ds (inr h) all =
        let (rest, is, more) = h.1 in
        subst (AllByRecursion R) (sym is) (all.0, all_kept R doors slots rest more all.1)

    pairs_kept : (R : Pointer → Pointer → Type 0) (doors : List Pointer) (slots : List ℕ) (ds : List Pointer) → HeldOf i kept g (map Door doors ++ map OfSlot slots) ds → EachPair R doors → EachPair R ds
    pairs_kept R [] slots ds h up = subst (EachPair R) (sym (no_slots slots ds h)) tt
    pairs_kept R (e ∷ doors) slots ds (inl h) up = pairs_kept R doors slots ds h.1 up.1
    pairs_kept R (e ∷ doors) slots ds (inr h) up =
        let (rest, is, more) = h.1 in
        subst (EachPair R) (sym is) (all_kept (R e) doors slots rest more up.0, pairs_kept R doors slots rest more up.1)

    origins_are : (os : List Origin) (parties : List Party) → AllZip (IsParty i kept) os parties → origins_of parties ≡ os
    origins_are [] [] z = refl
    origins_are [] (p ∷ ps) z = absurd z
    origins_are (o ∷ os) [] z = absurd z
    origins_are (o ∷ os) (p ∷ ps) z =
        let first = z.0.origin_is in
        let rest = origins_are os ps z.1 in
        λ j. first j ∷ rest j

    pub held_doors : (h : HoldingsValue) (parties : List Party) (ds : List Pointer) → AreHoldings i kept h → AreParties i kept parties → HeldOf i kept g (origins_of parties) ds
        → AreHeldDoors i kept g ds
    held_doors h parties ds are p held =
        let slots = kernel_slots i kept in
        let k : HeldOf i kept g (map Door p.doors ++ map OfSlot slots) ds = subst (λ l. HeldOf i kept g l ds) (origins_are (map Door p.doors ++ map OfSlot slots) parties p.all) held in
        record {
          ascend = pairs_kept _ p.doors slots ds k p.doors_are.ascend;
          each = λ d. (
            λ there. (to_all p.doors slots ds d k there).1,
            λ door.
                let open_door = (granted_is_open i kept (GroupParty g) d are.image are.keeps door.granted).door door.is in
                from_all p.doors slots ds d k ((p.doors_are.each d).1 open_door) door,
          );
        }

  -- 3. All.

  pub parties_told : (told : Told) → IsTold i kept told → AreParties i kept told.parties
  parties_told told h = record { doors = h.doors; doors_are = h.doors_are; all = h.parties }

  -- a group more
  pub one_more : (groups : List Group) (n : ℕ) (one : Group) (whole own : List ℕ) → n < length groups → one ≡ get_or groups n one
      → GroupTexts i kept (numbers_of (take n groups)) whole → GroupText i kept one.number own → GroupTexts i kept (numbers_of (take (n + 1) groups)) (whole ++ own)
  one_more groups n one whole own lt at was is =
      subst (λ gs. GroupTexts i kept gs (whole ++ own))
      (sym (ap numbers_of (take_more groups n one lt ∙ ap (λ y. take n groups ++ y ∷ []) (sym at)) ∙ map-append (λ (g : Group). g.number) (take n groups) (one ∷ [])))
      (texts_then (numbers_of (take n groups)) (one.number ∷ []) whole own was
      (subst (GroupTexts i kept (one.number ∷ [])) (append-nil own) (group is no_group)))

  pub own_slots : (groups : List Group) (n : ℕ) (one : Group) → n < length groups → one ≡ get_or groups n one → AllByRecursion (IsGroup i kept) groups → IsGroup i kept one
  own_slots groups n one lt at all = all_at (IsGroup i kept) groups one all (n, lt, sym at)

  -- an origin more
  pub origins_more : (parties : List Party) (n : ℕ) (one : Party) → n < length parties → one ≡ get_or parties n one → origins_of (take (n + 1) parties) ≡ origins_of (take n parties) ++ one.origin ∷ []
  origins_more parties n one lt at =
      ap origins_of (take_more parties n one lt ∙ ap (λ y. take n parties ++ y ∷ []) (sym at)) ∙ map-append (λ (p : Party). p.origin) (take n parties) (one ∷ [])

  pub none_reached : (answer : Answer) → IsReach i kept answer None → AreGroups i kept answer []
  none_reached Privileged h = refl
  none_reached More h = refl
  none_reached (Found told) h = by told.leaks h
    where
      by : (leaks : List Leak) → IsReachIf i kept leaks None → GroupsIf i kept leaks []
      by [] k = absurd k
      by (l ∷ leaks) k = refl

  pub all_reached : (told : Told) (r : Reach) (whole : List ℕ) → IsTold i kept told → IsReachIf i kept told.leaks (Some r)
      → (AreParties i kept told.parties → AreHoldings i kept r.holdings → AllByRecursion (IsGroup i kept) r.groups.items → GroupTexts i kept (numbers_of r.groups.items) whole)
      → GroupsIf i kept told.leaks whole
  all_reached told r whole is = by told.leaks
    where
      by : (leaks : List Leak) → IsReachIf i kept leaks (Some r)
          → (AreParties i kept told.parties → AreHoldings i kept r.holdings → AllByRecursion (IsGroup i kept) r.groups.items → GroupTexts i kept (numbers_of r.groups.items) whole)
          → GroupsIf i kept leaks whole
      by [] k texts = subst (λ gs. GroupTexts i kept gs whole) k.groups.numbers_are (texts (parties_told told is) k.holdings k.groups.each)
      by (l ∷ leaks) k texts = absurd k

  pub found_reached : (limit : ℕ) (answer : Answer) (told : Told) (r : Reach) (whole : List ℕ) → answer ≡ Found told → IsAnswer i kept limit answer → IsReach i kept answer (Some r)
      → (AreParties i kept told.parties → AreHoldings i kept r.holdings → AllByRecursion (IsGroup i kept) r.groups.items → GroupTexts i kept (numbers_of r.groups.items) whole)
      → AreGroups i kept answer whole
  found_reached limit answer told r whole e is reach texts =
      let here : IsAnswer i kept limit (Found told) = subst (IsAnswer i kept limit) e is in
      let there : IsReach i kept (Found told) (Some r) = subst (λ a. IsReach i kept a (Some r)) e reach in
      subst (λ a. AreGroups i kept a whole) (sym e) (all_reached told r whole here.2 there texts)

  pub none_found : (answer : Answer) (r : Reach) (whole : List ℕ) → answer ≡ Privileged → IsReach i kept answer (Some r) → AreGroups i kept answer whole
  none_found answer r whole e reach = absurd (subst (λ a. IsReach i kept a (Some r)) e reach)

  pub more_found : (answer : Answer) (r : Reach) (whole : List ℕ) → answer ≡ More → IsReach i kept answer (Some r) → AreGroups i kept answer whole
  more_found answer r whole e reach = absurd (subst (λ a. IsReach i kept a (Some r)) e reach)
