-- From each node of a graph some walk leads into a closed set: as long as a node leads to one from which no walk leads
-- back, that one leads to fewer nodes.
use Rattle.std.proofs.Common.{◌≡◌, ◌⊎◌, inl, inr, ℕ, zero, suc, ◌+◌, ◌<◌, ◌≤◌, Bool, true, false, ◌&&◌, ◌||◌, not, List, [], ◌∷◌}
use Rattle.std.proofs.Common.{length, sym, ap, ◌∙◌, subst, arith, zero-add}
use Rattle.std.proofs.lemmas.List.{Sums.sum_by-cons, FromFn.{length-range_with_len, get_or-range_with_len}}
use Rattle.std.proofs.lemmas.Bool.{cases_Bool, or_cases, or_left, or_right, and_parts, and_from, eqb-true, eq-eqb, both_ways}
use Rattle.std.specs.{Prelude.{Contains, cond, nat_eq}, List.{count_by, range_with_len}}
use Rattle.mm_span.proofs.Members.{none_in, in_first, in_rest, in_cases}
use Rattle.mm_endless.specs.Graphs.{children, AreNodes, IsWalk, Leads, IsRecurrent, WalksEnd}
use Rattle.mm_endless.proofs.Walking.{leads_self, leads_trans, leads_edge, stays}

-- 1. Whether a node leads to another is decided: by walks through these nodes.

abbrev has : List ℕ → ℕ → Bool
has [] b = false
has (x ∷ xs) b = nat_eq x b || has xs b

has_in : (xs : List ℕ) (b : ℕ) → has xs b ≡ true → Contains xs b
has_in [] b h = cc
has_in (x ∷ xs) b h = elim (or_cases (nat_eq x b) (has xs b) h) [
  | inl e ↦ subst (Contains (x ∷ xs)) (eqb-true x b e) (in_first x xs)
  | inr later ↦ in_rest x xs b (has_in xs b later)
]

in_has : (xs : List ℕ) (b : ℕ) → Contains xs b → has xs b ≡ true
in_has [] b h = absurd (none_in b h)
in_has (x ∷ xs) b h = elim (in_cases x xs b h) [
  | inl e ↦ or_left (nat_eq x b) (has xs b) (eq-eqb x b e)
  | inr later ↦ or_right (nat_eq x b) (has xs b) (in_has xs b later)
]

module _ (g : List (List ℕ)) where
  -- a node is another, or leads to it by a walk through these nodes
  abbrev via : List ℕ → ℕ → ℕ → Bool
  via [] a b = nat_eq a b || has (children g a) b
  via (y ∷ ys) a b = via ys a b || (via ys a y && via ys y b)

  via_leads : (ys : List ℕ) (a b : ℕ) → via ys a b ≡ true → Leads g a b
  via_leads [] a b h = elim (or_cases (nat_eq a b) (has (children g a) b) h) [
    | inl e ↦ subst (Leads g a) (eqb-true a b e) (leads_self g a)
    | inr edge ↦ leads_edge g a b (has_in (children g a) b edge)
  ]
  via_leads (y ∷ ys) a b h = elim (or_cases (via ys a b) (via ys a y && via ys y b) h) [
    | inl p ↦ via_leads ys a b p
    | inr two ↦ let parts = and_parts (via ys a y) (via ys y b) two in leads_trans g a y b (via_leads ys a y parts.0) (via_leads ys y b parts.1)
  ]

  via_more : (y : ℕ) (ys : List ℕ) (a b : ℕ) → via ys a b ≡ true → via (y ∷ ys) a b ≡ true
  via_more y ys a b h = or_left (via ys a b) (via ys a y && via ys y b) h

  via_two : (y : ℕ) (ys : List ℕ) (a b : ℕ) → via ys a y ≡ true → via ys y b ≡ true → via (y ∷ ys) a b ≡ true
  via_two y ys a b p q = or_right (via ys a b) (via ys a y && via ys y b) (and_from (via ys a y) (via ys y b) p q)

  via_cases : (y : ℕ) (ys : List ℕ) (a b : ℕ) → via (y ∷ ys) a b ≡ true → (via ys a b ≡ true) ⊎ ((via ys a y ≡ true) × (via ys y b ≡ true))
  via_cases y ys a b h = elim (or_cases (via ys a b) (via ys a y && via ys y b) h) [
    | inl p ↦ inl p
    | inr two ↦ inr (and_parts (via ys a y) (via ys y b) two)
  ]

  -- to the first node of a list no walk need go through it
  via_first : (y : ℕ) (ys : List ℕ) (a : ℕ) → via (y ∷ ys) a y ≡ true → via ys a y ≡ true
  via_first y ys a h = elim (via_cases y ys a y h) [ inl p ↦ p | inr q ↦ q.0 ]

  first_via : (y : ℕ) (ys : List ℕ) (b : ℕ) → via (y ∷ ys) y b ≡ true → via ys y b ≡ true
  first_via y ys b h = elim (via_cases y ys y b h) [ inl p ↦ p | inr q ↦ q.1 ]

  via_trans : (ys : List ℕ) (a c b : ℕ) → Contains ys c → via ys a c ≡ true → via ys c b ≡ true → via ys a b ≡ true
  via_trans [] a c b inside p q = absurd (none_in c inside)
  via_trans (y ∷ ys) a c b inside p q = elim (in_cases y ys c inside) [
    | inl e ↦ via_two y ys a b
        (via_first y ys a (subst (λ x. via (y ∷ ys) a x ≡ true) (sym e) p))
        (first_via y ys b (subst (λ x. via (y ∷ ys) x b ≡ true) (sym e) q))
    | inr later ↦ elim (via_cases y ys a c p) [
      | inl ac ↦ elim (via_cases y ys c b q) [
        | inl cb ↦ via_more y ys a b (via_trans ys a c b later ac cb)
        | inr cyb ↦ via_two y ys a b (via_trans ys a c y later ac cyb.0) cyb.1
      ]
      | inr ayc ↦ elim (via_cases y ys c b q) [
        | inl cb ↦ via_two y ys a b ayc.0 (via_trans ys y c b later ayc.1 cb)
        | inr cyb ↦ via_two y ys a b ayc.0 cyb.1
      ]
    ]
  ]

  via_begin : (ys : List ℕ) (a b : ℕ) → via [] a b ≡ true → via ys a b ≡ true
  via_begin [] a b h = h
  via_begin (y ∷ ys) a b h = via_more y ys a b (via_begin ys a b h)

  module _ (ys : List ℕ) (all : (c : ℕ) → c < length g → Contains ys c) (nodes : AreNodes g) where
    walk_via : (a b : ℕ) (walk : List ℕ) → IsWalk g a walk b → via ys a b ≡ true
    walk_via a b [] e = via_begin ys a b (or_left (nat_eq a b) (has (children g a) b) (eq-eqb a b e))
    walk_via a b (c ∷ walk) w = via_trans ys a c b (all c (nodes a c w.0))
        (via_begin ys a c (or_right (nat_eq a c) (has (children g a) c) (in_has (children g a) c w.0))) (walk_via c b walk w.1)

    leads_via : (a b : ℕ) → Leads g a b → via ys a b ≡ true
    leads_via a b l = walk_via a b l.nodes l.walk

    -- 2. Nodes that a node leads to, and from which no walk leads back.

    abbrev lost : ℕ → ℕ → Bool
    lost a b = via ys a b && not (via ys b a)

    abbrev reach : ℕ → ℕ
    reach a = count_by (via ys a) ys

    -- a node from which no walk leads back, or the fact that there is none
    data Search (a : ℕ) (zs : List ℕ) : Type 0 where
      found : (b : ℕ) → Contains zs b → via ys a b ≡ true → via ys b a ≡ false → Search a zs
      none : ((b : ℕ) → Contains zs b → via ys a b ≡ true → via ys b a ≡ true) → Search a zs

    search_for : (a : ℕ) (zs : List ℕ) → Search a zs
    search_for a [] = Search.none (λ b inside h. absurd (none_in b inside))
    search_for a (z ∷ zs) = elim (cases_Bool (via ys a z)) [
      | inr off ↦ by_rest (λ on. absurd (both_ways (via ys a z) off on)) (search_for a zs)
      | inl on ↦ elim (cases_Bool (via ys z a)) [
        | inl back ↦ by_rest (λ _. back) (search_for a zs)
        | inr lost ↦ Search.found z (in_first z zs) on lost
      ]
    ]
      where
        by_rest : (via ys a z ≡ true → via ys z a ≡ true) → Search a zs → Search a (z ∷ zs)
        by_rest here (Search.found b inside on off) = Search.found b (in_rest z zs b inside) on off
        by_rest here (Search.none all_back) = Search.none (λ b inside h. elim (in_cases z zs b inside) [
          | inl e ↦ subst (λ x. via ys x a ≡ true) e (here (subst (λ x. via ys a x ≡ true) (sym e) h))
          | inr later ↦ all_back b later h
        ])

    less_or : (p q : ℕ → Bool) (zs : List ℕ) → ((x : ℕ) → p x ≡ true → q x ≡ true) → count_by p zs ≤ count_by q zs
    less_or p q [] h = omega arith
    less_or p q (z ∷ zs) h =
        let rest = less_or p q zs h in
        let a = count_cons p z zs in
        let b = count_cons q z zs in
        elim (cases_Bool (p z)) [
          | inl on ↦ let c = ap {B = ℕ} (λ x. cond x 1 0) on in let d = ap {B = ℕ} (λ x. cond x 1 0) (h z on) in omega (arith, rest, a, b, c, d)
          | inr off ↦ let c = ap {B = ℕ} (λ x. cond x 1 0) off in omega (arith, rest, a, b, c)
        ]
      where
        count_cons : (r : ℕ → Bool) (x : ℕ) (xs : List ℕ) → count_by r (x ∷ xs) ≡ cond (r x) 1 0 + count_by r xs
        count_cons r x xs = sum_by-cons (λ v. cond (r v) 1 0) x xs

    less : (p q : ℕ → Bool) (zs : List ℕ) (x : ℕ) → ((y : ℕ) → p y ≡ true → q y ≡ true) → Contains zs x → p x ≡ false → q x ≡ true → count_by p zs < count_by q zs
    less p q [] x h inside off on = absurd (none_in x inside)
    less p q (z ∷ zs) x h inside off on =
        let a = sum_by-cons (λ v. cond (p v) 1 0) z zs in
        let b = sum_by-cons (λ v. cond (q v) 1 0) z zs in
        elim (in_cases z zs x inside) [
          | inl e ↦
              let rest = less_or p q zs h in
              let c : cond (p z) 1 0 ≡ 0 = ap {B = ℕ} (λ v. cond v 1 0) (subst (λ y. p y ≡ false) (sym e) off) in
              let d : cond (q z) 1 0 ≡ 1 = ap {B = ℕ} (λ v. cond v 1 0) (subst (λ y. q y ≡ true) (sym e) on) in
              omega (arith, rest, a, b, c, d)
          | inr later ↦
              let rest = less p q zs x h later off on in
              elim (cases_Bool (p z)) [
                | inl on_z ↦ let c = ap {B = ℕ} (λ v. cond v 1 0) on_z in let d = ap {B = ℕ} (λ v. cond v 1 0) (h z on_z) in omega (arith, rest, a, b, c, d)
                | inr off_z ↦ let c = ap {B = ℕ} (λ v. cond v 1 0) off_z in omega (arith, rest, a, b, c)
              ]
        ]

    abbrev Ends : ℕ → Type 0
    Ends a = (b : ℕ) × Leads g a b × IsRecurrent g b

    led_inside : (a b : ℕ) → a < length g → Leads g a b → b < length g
    led_inside a b inside l = stays g (λ x. x < length g) (λ x c lt edge. nodes x c edge) a b l inside

    ends_here : (a : ℕ) → a < length g → ((b : ℕ) → Contains ys b → via ys a b ≡ true → via ys b a ≡ true) → Ends a
    ends_here a inside back = (a, leads_self g a, λ b l. via_leads ys b a (back b (all b (led_inside a b inside l)) (leads_via a b l)))

    fewer : (a b : ℕ) → a < length g → via ys a b ≡ true → via ys b a ≡ false → reach b < reach a
    fewer a b inside on off =
        less (via ys b) (via ys a) ys a (λ y h. leads_via a y (leads_trans g a b y (via_leads ys a b on) (via_leads ys b y h))) (all a inside) off (leads_via a a (leads_self g a))

    descend : (n a : ℕ) → a < length g → reach a ≤ n → Ends a
    descend zero a inside small = elim (search_for a ys) [
      | Search.none back ↦ ends_here a inside back
      | Search.found b there on off ↦ let lt = fewer a b inside on off in absurd (omega (arith, lt, small))
    ]
    descend (suc n) a inside small = elim (search_for a ys) [
      | Search.none back ↦ ends_here a inside back
      | Search.found b there on off ↦
          let lt = fewer a b inside on off in
          let to = via_leads ys a b on in
          let r = descend n b (led_inside a b inside to) (omega (arith, lt, small)) in
          (r.0, leads_trans g a b r.0 to r.1, r.2)
    ]

-- 3. All nodes.

abbrev all_nodes : List (List ℕ) → List ℕ
all_nodes g = range_with_len 0 (length g)

each_node : (g : List (List ℕ)) (c : ℕ) → c < length g → Contains (all_nodes g) c
each_node g c lt = (c, let e = length-range_with_len 0 (length g) in omega (arith, e, lt), let r = get_or-range_with_len 0 (length g) c c lt in r ∙ zero-add c)

pub walks_end : WalksEnd
walks_end g a nodes inside = descend g (all_nodes g) (each_node g) nodes (reach g (all_nodes g) (each_node g) nodes a) a inside (omega arith)

-- whether a node leads to another is decided
pub leads_or : (g : List (List ℕ)) (a b : ℕ) → AreNodes g → Leads g a b ⊎ (Leads g a b → ⊥)
leads_or g a b nodes = elim (cases_Bool (via g (all_nodes g) a b)) [
  | inl on ↦ inl (via_leads g (all_nodes g) a b on)
  | inr off ↦ inr (λ l. both_ways (via g (all_nodes g) a b) off (leads_via g (all_nodes g) (each_node g) nodes a b l))
]
