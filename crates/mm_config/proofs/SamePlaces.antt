-- Memories in which the same pages are mapped.
use Rattle.std.proofs.Common.{◌≡◌, inl, inr, ℕ, suc, ◌-◌, ◌^◌, Bool, true, false, not, cond, nat_eq, List, [], ◌∷◌, map, Option, Some, None, is_some}
use Rattle.std.proofs.Common.{refl, sym, ap, ◌∙◌, subst, T, ◌&&◌}
use Rattle.std.proofs.lemmas.{Bool.{cases_lt, ne_eqb}, Cmp.nat_cmp_total}
use Rattle.std.specs.{Cmp.unsigned_tied, Ordering.{nat_cmp, is_lt}, FinMap.{find, is_sorted, nat_cmp-IsAntisymmetric}, FinMap.Entries.{below_all, same_entries}}
use Rattle.mm_word.specs.declared.word.Cell.{Cell}
use Rattle.mm_model.specs.Memory.{Memory, IsPaged, page_at}
use Rattle.mm_pairs.{specs.Trees.{pair_of}, proofs.Names.{leaf_left, leaf_right}}
use Rattle.mm_config.specs.declared.{store.Store.Store, names.Names.Names}
use Rattle.mm_config.specs.{Naming.{AreMemoryNames, IsPageName, IsOrNone, leaf_at, page_name}, Noting.{HaveSamePlaces, mapped_pages}, Places.page_place}
use Rattle.mm_config.proofs.PutPages.{some_name}

-- 1. Trees.

module _ (pairs : List (ℕ × ℕ)) (depth d was tree : ℕ) (parts_was parts : ℕ × ℕ) (is : depth ≡ suc d) (are_was : parts_was ≡ pair_of pairs was) (are : parts ≡ pair_of pairs tree) where
  pub same_halves : HaveSamePlaces pairs d parts_was.0 parts.0 → HaveSamePlaces pairs d parts_was.1 parts.1 → HaveSamePlaces pairs depth was tree
  same_halves left right at = elim (cases_lt at (2 ^ d)) [
    | inl low ↦ ap (λ n. nat_eq n 0) (sym (leaf_left pairs depth d was at parts_was is are_was low)) ∙ left at ∙ ap (λ n. nat_eq n 0) (leaf_left pairs depth d tree at parts is are low)
    | inr high ↦
        ap (λ n. nat_eq n 0) (sym (leaf_right pairs depth d was at parts_was is are_was high)) ∙ right (at - 2 ^ d)
        ∙ ap (λ n. nat_eq n 0) (leaf_right pairs depth d tree at parts is are high)
  ]

-- 2. Lists of pages without their cells.

abbrev Pages : Type 0
Pages = List (ℕ × List Cell)

abbrev bare : Pages → List (ℕ × Bool)
bare pages = map (λ (e : ℕ × List Cell). (e.0, true)) pages

abbrev told : Option (List Cell) → Option Bool
told None = None
told (Some cells) = Some true

told_first : (b : Bool) (cells : List Cell) (o : Option (List Cell)) → cond b (Some true) (told o) ≡ told (cond b (Some cells) o)
told_first true cells o = refl
told_first false cells o = refl

told_same : (o p : Option (List Cell)) → is_some o ≡ is_some p → told o ≡ told p
told_same None None e = refl
told_same None (Some cells) e = cc
told_same (Some cells) None e = cc
told_same (Some cells) (Some others) e = refl

find_bare : (q : ℕ) (es : Pages) → find nat_cmp q (bare es) ≡ told (find nat_cmp q es)
find_bare q [] = refl
find_bare q (e ∷ es) =
    ap (λ b. cond b (Some true) (find nat_cmp q (bare es))) (unsigned_tied q e.0)
    ∙ ap (cond (nat_eq q e.0) (Some true)) (find_bare q es)
    ∙ told_first (nat_eq q e.0) e.1 (find nat_cmp q es)
    ∙ ap (λ b. told (cond b (Some e.1) (find nat_cmp q es))) (sym (unsigned_tied q e.0))

below_bare : (k : ℕ) (es : Pages) → below_all nat_cmp k (bare es) ≡ below_all nat_cmp k es
below_bare k [] = refl
below_bare k (e ∷ es) = ap (λ b. is_lt (nat_cmp k e.0) && b) (below_bare k es)

sorted_bare : (es : Pages) → is_sorted nat_cmp (bare es) ≡ is_sorted nat_cmp es
sorted_bare [] = refl
sorted_bare (e ∷ es) = λ i. below_bare e.0 es i && sorted_bare es i

numbers_bare : (es : Pages) → map (λ (e : ℕ × Bool). e.0) (bare es) ≡ map (λ (e : ℕ × List Cell). e.0) es
numbers_bare [] = refl
numbers_bare (e ∷ es) = ap (λ l. e.0 ∷ l) (numbers_bare es)

same_numbers : (es fs : Pages) → T (is_sorted nat_cmp es) → T (is_sorted nat_cmp fs) → ((q : ℕ) → is_some (find nat_cmp q es) ≡ is_some (find nat_cmp q fs))
    → map (λ (e : ℕ × List Cell). e.0) es ≡ map (λ (e : ℕ × List Cell). e.0) fs
same_numbers es fs up also same =
    let alike = same_entries nat_cmp nat_cmp_total nat_cmp-IsAntisymmetric (bare es) (bare fs) (subst T (sym (sorted_bare es)) up) (subst T (sym (sorted_bare fs)) also)
    (λ q. find_bare q es ∙ told_same (find nat_cmp q es) (find nat_cmp q fs) (same q) ∙ sym (find_bare q fs)) in
    sym (numbers_bare es) ∙ ap (map (λ (e : ℕ × Bool). e.0)) alike ∙ numbers_bare fs

-- 3. Memories.

named_mapped : (k : Store) (o : Option (List Cell)) (name : ℕ) → IsOrNone (IsPageName k) o name → is_some o ≡ not (nat_eq name 0)
named_mapped k None name h = sym (ap (λ n. not (nat_eq n 0)) h)
named_mapped k (Some cells) name h = sym (ap not (ne_eqb name 0 (some_name k cells name h)))

pub same_mapped : (k : Store) (m now : Memory) (was wanted : Names) → IsPaged m → IsPaged now → AreMemoryNames k m was → AreMemoryNames k now wanted
    → was.height ≡ wanted.height → HaveSamePlaces k.pairs wanted.height was.pages wanted.pages → mapped_pages m ≡ mapped_pages now
same_mapped k m now was wanted whole also named named_now high same =
    same_numbers m.pages now.pages (subst T (sym whole.pages.rising) tt) (subst T (sym also.pages.rising) tt) (λ q.
    named_mapped k (page_at m q) (page_name k was q) (named.pages q)
    ∙ ap (λ h. not (nat_eq (leaf_at k.pairs h was.pages (page_place k.pages q)) 0)) high
    ∙ ap not (same (page_place k.pages q))
    ∙ sym (named_mapped k (page_at now q) (page_name k wanted q) (named_now.pages q)))
