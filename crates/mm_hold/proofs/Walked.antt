-- Lists of seeds and of nodes that grow on a walk over a set.
use Rattle.std.proofs.Common.{◌≡◌, ◌⊎◌, ◌↔◌, inl, inr, ℕ, ◌<◌, ◌+◌, List, [], ◌∷◌, ◌++◌, length, map, take, get_or, Option, Some, refl, sym, ap, ◌∙◌, subst, append_assoc, append-nil}
use Rattle.std.proofs.lemmas.List.{map-append, take_more}
use Rattle.std.proofs.lemmas.List.Elements.{Contains-append_left, Contains-push, Contains-push_cases}
use Rattle.std.specs.{Prelude.{All, Contains}, List.flat_map}
use Rattle.mm_graph.specs.declared.{canonical_ptr.CanonicalPtr.CanonicalPtr}
use Rattle.mm_graph.specs.{Key.{IsKey, IsRising, key_at}}
use Rattle.mm_graph.proofs.Rising.{same_place}
use Rattle.mm_kernel.specs.Segments.{Segment}
use Rattle.mm_span.proofs.Members.{none_in, in_first, in_rest, in_cases}
use Rattle.mm_hold.specs.{Conducts.AreAll, Passing.DoorAt}
use Rattle.mm_hold.specs.Graphs.{BitsAt, HandsAt, HandedAt, StandsBehind, ThroughDoor, BehindAt}
use Rattle.mm_hold.proofs.{Passes.one_node}

-- 1. Lists.

module _ {X A : Type 0} (f : X → List A) where
  -- with what the next element gives
  pub walk_more : (all now new : List A) (left rest : List X) (x : X) → left ≡ x ∷ rest → now ++ flat_map f left ≡ all → new ≡ now ++ f x
      → new ++ flat_map f rest ≡ all
  walk_more all now new left rest x is was more =
      ap (λ l. l ++ flat_map f rest) more ∙ append_assoc now (f x) (flat_map f rest) ∙ ap (λ l. now ++ flat_map f l) (sym is) ∙ was

  pub walk_all : (all now : List A) (left : List X) → left ≡ [] → now ++ flat_map f left ≡ all → now ≡ all
  walk_all all now left is was = sym (append-nil now) ∙ ap (λ l. now ++ flat_map f l) (sym is) ∙ was

-- with the next element of a slice
pub map_next : {X A : Type 0} (f : X → A) (xs : List X) (k : ℕ) (now new : List A) (x : X) → k < length xs → x ≡ get_or xs k x → now ≡ map f (take k xs)
    → new ≡ now ++ f x ∷ [] → new ≡ map f (take (k + 1) xs)
map_next f xs k now new x lt at was is =
    let more : take (k + 1) xs ≡ take k xs ++ x ∷ [] = take_more xs k x lt ∙ ap (λ y. take k xs ++ y ∷ []) (sym at) in
    is ∙ ap (λ l. l ++ f x ∷ []) was ∙ sym (ap (map f) more ∙ map-append f (take k xs) (x ∷ []))

-- 2. Sets of which each element adds something.

module _ {X K : Type 0} (Of : List X → K → Type 0) where
  pub set_more : (all left rest : List X) (One : K → Type 0) (old new : List K) → ((h : K) → Of left h ↔ (One h ⊎ Of rest h))
      → ((h : K) → (Contains old h ⊎ Of left h) ↔ Of all h) → AreAll (λ h. Contains old h ⊎ One h) new → (h : K) → (Contains new h ⊎ Of rest h) ↔ Of all h
  set_more all left rest One old new split was more h = (
    λ k. elim k [
      | inl there ↦ elim ((more.each h).0 there) [
        | inl before ↦ (was h).0 (inl before)
        | inr now ↦ (was h).0 (inr ((split h).1 (inl now)))
      ]
      | inr later ↦ (was h).0 (inr ((split h).1 (inr later)))
    ],
    λ k. elim ((was h).1 k) [
      | inl before ↦ inl ((more.each h).1 (inl before))
      | inr some ↦ elim ((split h).0 some) [
        | inl now ↦ inl ((more.each h).1 (inr now))
        | inr later ↦ inr later
      ]
    ],
  )

  pub set_all : (all left : List X) (new : List K) → left ≡ [] → ((h : K) → Of [] h → ⊥) → ((h : K) → (Contains new h ⊎ Of left h) ↔ Of all h) → AreAll (Of all) new
  set_all all left new is none was = record {
    each = λ h. (
      λ there. (was h).0 (inl there),
      λ k. elim ((was h).1 k) [ inl there ↦ there | inr some ↦ absurd (none h (subst (λ l. Of l h) is some)) ],
    );
  }

  pub set_begins : (all left : List X) (new : List K) → left ≡ all → new ≡ [] → (h : K) → (Contains new h ⊎ Of left h) ↔ Of all h
  set_begins all left new is none h = (
    λ k. elim k [ inl there ↦ absurd (none_in h (subst (λ l. Contains l h) none there)) | inr some ↦ subst (λ l. Of l h) is some ],
    λ k. inr (subst (λ l. Of l h) (sym is) k),
  )

module _ {K : Type 0} (One : K → Type 0) (old : List K) where
  -- one element, if it is the only one
  pushed : (x : K) → One x → ((h : K) → One h → x ≡ h) → AreAll (λ h. Contains old h ⊎ One h) (old ++ x ∷ [])
  pushed x is only = record {
    each = λ h. (
      λ there. elim (Contains-push_cases old x h there) [ inl before ↦ inl before | inr same ↦ inr (subst One same is) ],
      λ k. elim k [
        | inl before ↦ Contains-append_left old (x ∷ []) h before
        | inr one ↦ subst (Contains (old ++ x ∷ [])) (only h one) (Contains-push old x)
      ],
    );
  }

-- 3. Nodes of bits.

same_some : {A : Type 0} (x y : A) → ◌≡◌ {A = Option A} (Some x) (Some y) → x ≡ y
same_some x y e = cc

module _ (kept : List Segment) (keys : List CanonicalPtr) (bits : ℕ) where
  one_bits : IsRising keys → (j k : ℕ) → BitsAt kept keys bits j → BitsAt kept keys bits k → j ≡ k
  one_bits rising j k a b = same_place keys j k rising a.small b.small (same_some (key_at keys j) (key_at keys k) (sym a.is ∙ b.is))

-- 4. What slots hand on.

module _ (kept : List Segment) (keys : List CanonicalPtr) where
  pub hands_pushed : IsRising keys → (old : List (ℕ × ℕ)) (slot bits node : ℕ) → BitsAt kept keys bits node
      → AreAll (λ h. Contains old h ⊎ HandsAt kept keys slot bits h) (old ++ (slot, node) ∷ [])
  hands_pushed rising old slot bits node b =
      pushed (HandsAt kept keys slot bits) old (slot, node) (record { number = refl; at = b })
      (λ h one. let same = one_bits kept keys bits rising node h.1 b one.at in λ i. (sym one.number i, same i))

  pub handed_split : (left rest : List (ℕ × ℕ)) (slot bits : ℕ) → left ≡ (slot, bits) ∷ rest → (h : ℕ × ℕ)
      → HandedAt kept keys left h ↔ (HandsAt kept keys slot bits h ⊎ HandedAt kept keys rest h)
  handed_split left rest slot bits is h = (
    λ k. elim (in_cases (slot, bits) rest (h.0, k.bits) (subst (λ l. Contains l (h.0, k.bits)) is k.inside)) [
      | inl same ↦ inl (record {
        number = sym (ap (λ (v : ℕ × ℕ). v.0) same);
        at = subst (λ v. BitsAt kept keys v h.1) (sym (ap (λ (v : ℕ × ℕ). v.1) same)) k.at;
      })
      | inr later ↦ inr (record { bits = k.bits; inside = later; at = k.at })
    ],
    λ k. elim k [
      | inl one ↦ record {
        bits = bits;
        inside = subst (λ l. Contains l (h.0, bits)) (sym is) (subst (λ v. Contains ((slot, bits) ∷ rest) (v, bits)) (sym one.number) (in_first (slot, bits) rest));
        at = one.at;
      }
      | inr some ↦ record { bits = some.bits; inside = subst (λ l. Contains l (h.0, some.bits)) (sym is) (in_rest (slot, bits) rest (h.0, some.bits) some.inside); at = some.at }
    ],
  )

  pub handed_none : (h : ℕ × ℕ) → HandedAt kept keys [] h → ⊥
  handed_none h k = none_in (h.0, k.bits) k.inside

  -- 5. What stands behind doors.

  behind_pushed : IsRising keys → All IsKey keys → (old : List (ℕ × ℕ)) (door bits at node : ℕ) → DoorAt kept keys door at → BitsAt kept keys bits node
      → AreAll (λ b. Contains old b ⊎ StandsBehind kept keys door bits b) (old ++ (at, node) ∷ [])
  behind_pushed rising all old door bits at node d n =
      pushed (StandsBehind kept keys door bits) old (at, node) (record { node = d; at = n })
      (λ b one.
      let first = one_node kept keys all rising door at b.0 d one.node in
      let second = one_bits kept keys bits rising node b.1 n one.at in
      λ i. (first i, second i))

  through_door : (o : ℕ × ℕ) (bits : ℕ) (old new : List (ℕ × ℕ)) → o.0 ≡ 0 → AreAll (λ b. Contains old b ⊎ StandsBehind kept keys o.1 bits b) new
      → AreAll (λ b. Contains old b ⊎ ThroughDoor kept keys o bits b) new
  through_door o bits old new kind all = record {
    each = λ b. (
      λ there. elim ((all.each b).0 there) [ inl before ↦ inl before | inr one ↦ inr (record { kind = kind; stands = one }) ],
      λ k. elim k [ inl before ↦ (all.each b).1 (inl before) | inr one ↦ (all.each b).1 (inr one.stands) ],
    );
  }

  pub through_pushed : IsRising keys → All IsKey keys → (old : List (ℕ × ℕ)) (o : ℕ × ℕ) (bits at node : ℕ) → o.0 ≡ 0 → DoorAt kept keys o.1 at → BitsAt kept keys bits node
      → AreAll (λ b. Contains old b ⊎ ThroughDoor kept keys o bits b) (old ++ (at, node) ∷ [])
  through_pushed rising all old o bits at node kind d n = through_door o bits old (old ++ (at, node) ∷ []) kind (behind_pushed rising all old o.1 bits at node d n)

  pub behind_split : (left rest : List ((ℕ × ℕ) × ℕ)) (o : ℕ × ℕ) (bits : ℕ) → left ≡ (o, bits) ∷ rest → (b : ℕ × ℕ)
      → BehindAt kept keys left b ↔ (ThroughDoor kept keys o bits b ⊎ BehindAt kept keys rest b)
  behind_split left rest o bits is b = (
    λ k. elim (in_cases (o, bits) rest ((0, k.door), k.bits) (subst (λ l. Contains l ((0, k.door), k.bits)) is k.inside)) [
      | inl same ↦
          let own : o ≡ (0, k.door) = ap (λ (v : (ℕ × ℕ) × ℕ). v.0) same in
          let of : bits ≡ k.bits = ap (λ (v : (ℕ × ℕ) × ℕ). v.1) same in
          inl (record {
            kind = ap (λ (v : ℕ × ℕ). v.0) own;
            stands = subst (λ v. StandsBehind kept keys v bits b) (sym (ap (λ (v : ℕ × ℕ). v.1) own)) (subst (λ v. StandsBehind kept keys k.door v b) (sym of) k.stands);
          })
      | inr later ↦ inr (record { door = k.door; bits = k.bits; inside = later; stands = k.stands })
    ],
    λ k. elim k [
      | inl one ↦
          let own : o ≡ (0, o.1) = (λ i. (one.kind i, o.1)) in
          record {
            door = o.1;
            bits = bits;
            inside = subst (λ l. Contains l ((0, o.1), bits)) (sym is) (subst (λ (v : ℕ × ℕ). Contains ((o, bits) ∷ rest) (v, bits)) own (in_first (o, bits) rest));
            stands = one.stands;
          }
      | inr some ↦ record {
        door = some.door;
        bits = some.bits;
        inside = subst (λ l. Contains l ((0, some.door), some.bits)) (sym is) (in_rest (o, bits) rest ((0, some.door), some.bits) some.inside);
        stands = some.stands;
      }
    ],
  )

  pub behind_empty : (b : ℕ × ℕ) → BehindAt kept keys [] b → ⊥
  behind_empty b k = none_in ((0, k.door), k.bits) k.inside
