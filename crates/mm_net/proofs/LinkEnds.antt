-- Where the ends of a link stand among all ends, and that no end is of two links.
use Rattle.std.proofs.Common.{◌≡◌, ℕ, zero, suc, ◌+◌, ◌*◌, ◌<◌, ◌⊎◌, inl, inr, List, [], ◌∷◌, length, get_or, slice_get}
use Rattle.std.{proofs.{Common.{Some, refl, sym, ap, ◌∙◌, arith}, lemmas.Bool.cases_order}, specs.List.AllPairs}
use Rattle.mm_net.{specs.{declared.link.Link.Link, Links.ends}, proofs.Ends.pair}

-- the end of this node and word is one of the link of a number
pub record IsEndOf (links : List Link) (l n w : ℕ) : Type 0 where
  pub place : ℕ
  pub which : (place ≡ 2 * l) ⊎ (place ≡ 2 * l + 1)
  pub within : place < length (ends links)
  pub is : get_or (ends links) place (pair n w) ≡ pair n w

-- the ends of the link at the head are two places
later : (first : Link) (links : List Link) (l n w : ℕ) → IsEndOf links l n w → IsEndOf (first ∷ links) (suc l) n w
later first links l n w h =
    let which = h.which in
    let within = h.within in
    record {
      place = suc (suc h.place);
      which = elim h.which [ inl e ↦ inl (omega arith) | inr e ↦ inr (omega arith) ];
      within = omega arith;
      is = h.is;
    }

pub take_end : (links : List Link) (l : ℕ) (link : Link) → slice_get links l ≡ Some link → IsEndOf links l link.from link.take
take_end [] l link is = cc
take_end (first ∷ links) zero link is =
    let same : first ≡ link = cc in
    record { place = 0; which = inl refl; within = omega arith; is = ap (λ (x : Link). pair x.from x.take) same }
take_end (first ∷ links) (suc l) link is = later first links l link.from link.take (take_end links l link is)

pub put_end : (links : List Link) (l : ℕ) (link : Link) → slice_get links l ≡ Some link → IsEndOf links l link.to link.put
put_end [] l link is = cc
put_end (first ∷ links) zero link is =
    let same : first ≡ link = cc in
    record { place = 1; which = inr refl; within = omega arith; is = ap (λ (x : Link). pair x.to x.put) same }
put_end (first ∷ links) (suc l) link is = later first links l link.to link.put (put_end links l link is)

same_place : (es : List (ℕ × ℕ)) → AllPairs (λ x y. x ≡ y → ⊥) es → (i j : ℕ) (e : ℕ × ℕ) → i < length es → j < length es → get_or es i e ≡ e → get_or es j e ≡ e → i ≡ j
same_place es once i j e li lj ei ej = elim (cases_order i j) [
  | inl same ↦ same
  | inr other ↦ elim other [ inl below ↦ absurd (once i j e below lj (ei ∙ sym ej)) | inr above ↦ absurd (once j i e above li (ej ∙ sym ei)) ]
]

-- no end stands twice, so it is of one link
pub same_link : (links : List Link) → AllPairs (λ x y. x ≡ y → ⊥) (ends links) → (l m n w : ℕ) → IsEndOf links l n w → IsEndOf links m n w → l ≡ m
same_link links once l m n w h k =
    let same = same_place (ends links) once h.place k.place (pair n w) h.within k.within h.is k.is in
    elim h.which [
      | inl e ↦ elim k.which [ inl f ↦ omega arith | inr f ↦ absurd (omega arith) ]
      | inr e ↦ elim k.which [ inl f ↦ absurd (omega arith) | inr f ↦ omega arith ]
    ]
