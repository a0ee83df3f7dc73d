-- Names as they are first seen, and the same names in the order of their bytes.
use Rattle.std.proofs.Common.{◌≡◌, ℕ, suc, ◌+◌, ◌≤◌, Bool, true, false, not, ◌&&◌, ◌||◌, if◌then◌else◌, List, [], ◌∷◌}
use Rattle.std.proofs.Common.{◌++◌, length, length-append, get_or, refl, sym, ap, ◌∙◌, subst, arith}
use Rattle.std.proofs.lemmas.{Bool.{and_from, false_from_ne_true, or_left, Decides.nat_tests}, List.map-append}
use Rattle.std.proofs.lemmas.{Map.Keys.{IsDistinct-head, IsDistinct-tail}, Slice.Eq.bytes_eq-Decides}
use Rattle.std.specs.{Prelude.nat_le, Str.bytes_eq, Ordering.is_lt, List.{list_any, IsDistinct, Sorted.IsSorted}}
use Rattle.indexmap.specs.IndexSet.{insert_key}
use denote.Ref.{Bor}
use Rattle.mm_line.specs.declared.fault.Fault.TheVariants.{Limit}
use Rattle.mm_draft.specs.{Drafts.Draft, Faults.fault_if}
use Rattle.mm_object.specs.{Names.is_before, Objects.{is_among, ascend, external_limit}, Steps.key_names}
use Rattle.mm_asm.specs.Names.{Use, HasEach, insert_name, is_external, name_of, seen_with, with_use}
use Rattle.mm_asm.specs.{Faults.{in_source, is_too_many}, Steps.limit_failure}
use Rattle.mm_asm.proofs.Order.{Rising, before_all, not_itself, one_first, is_same, is_other, same_itself, insert_among}
use Rattle.mm_asm.proofs.{Order.{insert_again, each_among, turned}, BuiltNames.{order_of, ascend_rises, as_many}}

-- 1. Truth.

clash : (b : Bool) → b ≡ true → b ≡ false → ⊥
clash b e f = cc

the_other : (a b : Bool) → a ≡ false → (a || b) ≡ true → b ≡ true
the_other true b e h = absurd cc
the_other false b e h = h

-- 2. A name more.

among_push : (m name : List ℕ) (xs : List (List ℕ)) → is_among m (xs ++ name ∷ []) ≡ (bytes_eq m name || is_among m xs)
among_push m name [] = refl
among_push m name (x ∷ xs) =
    ap (λ (b : Bool). bytes_eq m x || b) (among_push m name xs) ∙ turned (bytes_eq m name) (bytes_eq m x) (is_among m xs)

pub insert_new : (name : List ℕ) (xs : List (List ℕ)) → is_among name xs ≡ false → length (insert_name name xs) ≡ length xs + 1
insert_new name [] h = omega arith
insert_new name (x ∷ xs) h = by (bytes_eq name x) (is_before name x) h (insert_new name xs)
  where
    by : (b c : Bool) → (b || is_among name xs) ≡ false → (is_among name xs ≡ false → length (insert_name name xs) ≡ length xs + 1)
        → length (if b then x ∷ xs else if c then name ∷ x ∷ xs else x ∷ insert_name name xs) ≡ length (x ∷ xs) + 1
    by true c k later = absurd cc
    by false true k later = omega arith
    by false false k later = omega (arith, later k)

module _ (d : Draft) (u : Use) (seen names : List (List ℕ)) (each : HasEach names seen) where
  pub seen_more : Rising names → HasEach (with_use d u names) (seen_with d u seen)
  seen_more rising = by (is_external d u) (is_among (name_of u) seen) refl
    where
      by : (b c : Bool) → is_among (name_of u) seen ≡ c
          → HasEach (if b then insert_name (name_of u) names else names) (if b && not c then seen ++ name_of u ∷ [] else seen)
      by false c e = each
      by true true e =
          subst (λ v. HasEach v seen) (sym (insert_again (name_of u) names rising (sym (each.among (name_of u)) ∙ e))) each
      by true false e = record {
        among = λ m.
            among_push m (name_of u) seen
            ∙ ap (λ (b : Bool). bytes_eq m (name_of u) || b) (each.among m)
            ∙ sym (insert_among m (name_of u) names);
        len =
            let one = length-append seen (name_of u ∷ []) in
            let more = insert_new (name_of u) names (sym (each.among (name_of u)) ∙ e) in
            let same = each.len in
            omega arith;
      }

  too_many_alike : (name : List ℕ) → is_too_many seen name ≡ is_too_many names name
  too_many_alike name =
      ap (λ n. nat_le external_limit n && not (is_among name seen)) each.len
      ∙ ap (λ b. nat_le external_limit (length names) && not b) (each.among name)

  pub limit_alike : limit_failure d seen u ≡ limit_failure d names u
  limit_alike =
      ap (λ b. in_source u.source (fault_if (is_external d u && b) Limit u.target.mark.left))
      (too_many_alike (name_of u))

-- 3. Keys of a set.

abbrev alike : Bor (List ℕ) → Bor (List ℕ) → Bool
alike a b = bytes_eq a.now b.now

pub contained : (keys : List (Bor (List ℕ))) (name : List ℕ) → list_any (λ (k : Bor (List ℕ)). bytes_eq name k.now) keys ≡ is_among name (key_names keys)
contained [] name = refl
contained (x ∷ keys) name = ap (λ b. bytes_eq name x.now || b) (contained keys name)

pub too_many : (keys : List (Bor (List ℕ))) (name : List ℕ) (n : ℕ) (b : Bool) → n ≡ length keys → 1024 ≤ n
    → b ≡ list_any (λ (k : Bor (List ℕ)). bytes_eq name k.now) keys → not b ≡ is_too_many (key_names keys) name
too_many keys name n b many le is =
    let full : nat_le 1024 (length (key_names keys)) ≡ true = fits (length (key_names keys)) (omega (arith, as_many keys)) in
    ap not (is ∙ contained keys name) ∙ ap (λ c. c && not (is_among name (key_names keys))) (sym full)
  where
    fits : (m : ℕ) → 1024 ≤ m → nat_le 1024 m ≡ true
    fits m h = grind (arith, nat_tests)

-- the name of a use that a draft does not have
pub added : (d : Draft) (u : Use) (old new : List (Bor (List ℕ))) (k : Bor (List ℕ)) → k.now ≡ name_of u → is_external d u ≡ true
    → new ≡ insert_key alike old k → key_names new ≡ seen_with d u (key_names old)
added d u old new k same absent is =
    ap key_names is
    ∙ pushed (list_any (alike k) old)
    ∙ ap (λ c. if not c then key_names old ++ k.now ∷ [] else key_names old) (contained old k.now)
    ∙ ap (λ n. if not (is_among n (key_names old)) then key_names old ++ n ∷ [] else key_names old) same
    ∙ ap (λ b. if b && not (is_among (name_of u) (key_names old)) then key_names old ++ name_of u ∷ [] else key_names old) (sym absent)
  where
    pushed : (c : Bool) → key_names (if c then old else old ++ k ∷ []) ≡ (if not c then key_names old ++ k.now ∷ [] else key_names old)
    pushed true = refl
    pushed false = map-append (λ (b : Bor (List ℕ)). b.now) old (k ∷ [])

-- 4. The keys of a sorted set.

keys_ascend : (keys : List (Bor (List ℕ))) → IsSorted order_of keys → IsDistinct alike keys → ascend (key_names keys) ≡ true
keys_ascend [] sorted apart = refl
keys_ascend (x ∷ []) sorted apart = refl
keys_ascend (x ∷ y ∷ keys) sorted apart =
    and_from (is_before x.now y.now) (ascend (key_names (y ∷ keys))) (one_first y.now x.now no_later other)
    (keys_ascend (y ∷ keys) later (IsDistinct-tail alike x (y ∷ keys) apart))
  where
    no_later : is_before y.now x.now ≡ false
    no_later = sorted 0 x (omega arith) (omega arith)

    other : bytes_eq y.now x.now ≡ false
    other = is_other y.now x.now (λ e.
        clash (bytes_eq x.now y.now) ((bytes_eq-Decides x.now y.now).1 (sym e)) (IsDistinct-head alike x (y ∷ keys) apart).0)

    later : IsSorted order_of (y ∷ keys)
    later k e low lt =
        let next : suc k + 1 ≡ suc (k + 1) = omega arith in
        subst (λ n. is_lt (order_of (get_or (x ∷ y ∷ keys) n e) (get_or (y ∷ keys) k e)) ≡ false) next
        (sorted (suc k) e (omega arith) (omega arith))

-- 5. Two lists of the same names in the order of their bytes are one.

first_alike : (x y : List ℕ) (xs ys : List (List ℕ)) → Rising (x ∷ xs) → Rising (y ∷ ys)
    → ((name : List ℕ) → is_among name (y ∷ ys) ≡ is_among name (x ∷ xs)) → y ≡ x
first_alike x y xs ys h k same = by (bytes_eq y x) refl
  where
    by : (b : Bool) → bytes_eq y x ≡ b → y ≡ x
    by true e = is_same y x e
    by false e =
        let y_later = the_other (bytes_eq y x) (is_among y xs) e (sym (same y) ∙ or_left (bytes_eq y y) (is_among y ys) (same_itself y)) in
        let other = is_other x y (λ t. clash (bytes_eq y x) (subst (λ v. bytes_eq y v ≡ true) (sym t) (same_itself y)) e) in
        let x_later = the_other (bytes_eq x y) (is_among x ys) other (same x ∙ or_left (bytes_eq x x) (is_among x xs) (same_itself x)) in
        let below = each_among (λ z. is_before x z ≡ true) y xs h.0 y_later in
        let above = each_among (λ z. is_before y z ≡ true) x ys k.0 x_later in
        absurd (not_itself x (before_all x y x below above))

rest_alike : (x : List ℕ) (xs ys : List (List ℕ)) → Rising (x ∷ xs) → Rising (x ∷ ys)
    → ((name : List ℕ) → is_among name (x ∷ ys) ≡ is_among name (x ∷ xs)) → (name : List ℕ) → is_among name ys ≡ is_among name xs
rest_alike x xs ys h k same name = by (bytes_eq name x) refl (same name)
  where
    gone : bytes_eq name x ≡ true → (zs : List (List ℕ)) → Rising (x ∷ zs) → is_among name zs ≡ false
    gone e zs r = false_from_ne_true (is_among name zs) (λ t.
        not_itself x (each_among (λ z. is_before x z ≡ true) x zs r.0 (subst (λ v. is_among v zs ≡ true) (is_same name x e) t)))

    by : (b : Bool) → bytes_eq name x ≡ b → (b || is_among name ys) ≡ (b || is_among name xs) → is_among name ys ≡ is_among name xs
    by true e s = gone e ys k ∙ sym (gone e xs h)
    by false e s = s

in_order : (xs ys : List (List ℕ)) → Rising xs → Rising ys → ((name : List ℕ) → is_among name ys ≡ is_among name xs) → ys ≡ xs
in_order [] [] h k same = refl
in_order [] (y ∷ ys) h k same = absurd (clash (is_among y (y ∷ ys)) (or_left (bytes_eq y y) (is_among y ys) (same_itself y)) (same y))
in_order (x ∷ xs) [] h k same = absurd (clash (is_among x (x ∷ xs)) (or_left (bytes_eq x x) (is_among x xs) (same_itself x)) (sym (same x)))
in_order (x ∷ xs) (y ∷ ys) h k same =
    let e = first_alike x y xs ys h k same in
    let k_too = subst (λ v. Rising (v ∷ ys)) e k in
    let same_too = subst (λ v. (name : List ℕ) → is_among name (v ∷ ys) ≡ is_among name (x ∷ xs)) e same in
    ap (λ v. v ∷ ys) e ∙ ap (λ v. x ∷ v) (in_order xs ys h.1 k.1 (rest_alike x xs ys h k_too same_too))

-- a sorted set of the names that were seen has them in the order of their bytes
pub sorted_is : (names : List (List ℕ)) (old new : List (Bor (List ℕ))) → Rising names → HasEach names (key_names old) → IsSorted order_of new
    → IsDistinct alike new → ((q : Bor (List ℕ)) → list_any (alike q) new ≡ list_any (alike q) old) → key_names new ≡ names
sorted_is names old new rising each sorted apart same =
    in_order names (key_names new) rising (ascend_rises (key_names new) (keys_ascend new sorted apart))
    (λ name. sym (contained new name) ∙ same (record { ref_ptr = (0, 0); now = name }) ∙ contained old name ∙ each.among name)
