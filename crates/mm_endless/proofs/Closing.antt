-- The last set of the path is done.
use Rattle.std.proofs.Common.{◌≡◌, ◌⊎◌, inl, inr, ℕ, ◌<◌, ◌≤◌, true, false, List, [], ◌∷◌, ◌++◌, length, drop, refl, sym}
use Rattle.std.proofs.Common.{Option, Some, None, ap, ◌∙◌, subst, arith}
use Rattle.std.proofs.lemmas.{Bool.{cases_lt, cases_eq, both_ways}, List.{get_or-set_same, get_or-set_other, length-set, set_past}}
use Rattle.std.proofs.lemmas.List.{Elements.{Contains-push, Contains-push_cases, Contains-append_left}, Sums.sum_by-set}
use Rattle.std.proofs.lemmas.List.Elements.{Contains-append_right, Contains-append_cases}
use Rattle.std.specs.{Prelude.{Contains, slice_set, slice_index_or, cond}, List.count_by}
use Rattle.mm_span.{specs.Pairs.EachPair, proofs.Members.{in_first, in_rest, in_cases, none_in}}
use Rattle.mm_endless.specs.declared.walk.Mark.{Mark, TheVariants.{Unmet, OnPath, Passed, Closed}}
use Rattle.mm_endless.specs.{Graphs.{children, Leads, IsTold}, Stages.{Stage, mark_of, number_of, left_of, is_met, is_done}}
use Rattle.mm_endless.specs.Stages.{IsOnPath, IsDone, IsNotBefore, IsLookedAt, IsOpenAt, IsInSome, IsStage, IsLater}
use Rattle.mm_endless.specs.Stages.{told_of, told_by, mark_for, numbers_for, marks_after, numbers_after, marked_all, IsLastOpen}
use Rattle.mm_endless.specs.Stages.{IsLastBelow, IsFirstOf, IsLeastOf, marked}
use Rattle.mm_endless.proofs.{Walking.{leads_trans, leads_edge, stays}, Discovering.pairs_weaken}
use Rattle.mm_endless.proofs.{Marks.{path_inside, not_both, Kind, kind_of}, Joining.{pairs_front, pairs_last, bounds_below}}

-- 1. What marking nodes changes.

for_done : (first : Option ℕ) → is_done (mark_for first) ≡ true
for_done None = refl
for_done (Some f) = refl

for_met : (first : Option ℕ) → is_met (mark_for first) ≡ true
for_met None = refl
for_met (Some f) = refl

module _ (first : Option ℕ) where
  pub marks_len : (marks : List Mark) (nodes : List ℕ) → length (marks_after marks nodes first) ≡ length marks
  marks_len marks [] = refl
  marks_len marks (v ∷ nodes) = marks_len (slice_set marks v (mark_for first)) nodes ∙ length-set marks v (mark_for first)

  mark_out : (marks : List Mark) (nodes : List ℕ) (u : ℕ) → (Contains nodes u → ⊥) → slice_index_or (marks_after marks nodes first) u Unmet ≡ slice_index_or marks u Unmet
  mark_out marks [] u out = refl
  mark_out marks (v ∷ nodes) u out =
      mark_out (slice_set marks v (mark_for first)) nodes u (λ h. out (in_rest v nodes u h))
      ∙ get_or-set_other marks v u (mark_for first) Unmet (λ e. out (subst (Contains (v ∷ nodes)) (sym e) (in_first v nodes)))

  -- a node that has the mark keeps it
  mark_stays : (marks : List Mark) (nodes : List ℕ) (u : ℕ) → slice_index_or marks u Unmet ≡ mark_for first → slice_index_or (marks_after marks nodes first) u Unmet ≡ mark_for first
  mark_stays marks [] u e = e
  mark_stays marks (v ∷ nodes) u e = mark_stays (slice_set marks v (mark_for first)) nodes u (elim (cases_eq u v) [
    | inl same ↦ elim (cases_lt v (length marks)) [
      | inl lt ↦ ap (λ x. slice_index_or (slice_set marks v (mark_for first)) x Unmet) same ∙ get_or-set_same marks v (mark_for first) Unmet lt
      | inr past ↦ ap (λ l. slice_index_or l u Unmet) (set_past marks v (mark_for first) past) ∙ e
    ]
    | inr ne ↦ get_or-set_other marks v u (mark_for first) Unmet ne ∙ e
  ])

  mark_in : (marks : List Mark) (nodes : List ℕ) (u : ℕ) → u < length marks → Contains nodes u → slice_index_or (marks_after marks nodes first) u Unmet ≡ mark_for first
  mark_in marks [] u lt h = absurd (none_in u h)
  mark_in marks (v ∷ nodes) u lt h = elim (in_cases v nodes u h) [
    | inl e ↦ mark_stays (slice_set marks v (mark_for first)) nodes u (
        ap (λ x. slice_index_or (slice_set marks x (mark_for first)) u Unmet) e ∙ get_or-set_same marks u (mark_for first) Unmet lt
        )
    | inr later ↦ mark_in (slice_set marks v (mark_for first)) nodes u (let e = length-set marks v (mark_for first) in omega (arith, e, lt)) later
  ]

  abbrev AreMet : List Mark → List ℕ → Type 0
  AreMet marks nodes = (u : ℕ) → Contains nodes u → (u < length marks) × (is_met (slice_index_or marks u Unmet) ≡ true)

  counts_same : (marks : List Mark) (nodes : List ℕ) → AreMet marks nodes → count_by is_met (marks_after marks nodes first) ≡ count_by is_met marks
  counts_same marks [] h = refl
  counts_same marks (v ∷ nodes) h = counts_same next nodes later ∙ here
    where
      next : List Mark
      next = slice_set marks v (mark_for first)

      at : (v < length marks) × (is_met (slice_index_or marks v Unmet) ≡ true)
      at = h v (in_first v nodes)

      here : count_by is_met (slice_set marks v (mark_for first)) ≡ count_by is_met marks
      here =
          let e = sum_by-set (λ m. cond (is_met m) 1 0) marks v (mark_for first) Unmet at.0 in
          let a : cond (is_met (slice_index_or marks v Unmet)) 1 0 ≡ 1 = ap {B = ℕ} (λ b. cond b 1 0) at.1 in
          let b : cond (is_met (mark_for first)) 1 0 ≡ 1 = ap {B = ℕ} (λ b. cond b 1 0) (for_met first) in
          omega (arith, e, a, b)

      later : AreMet (slice_set marks v (mark_for first)) nodes
      later u inside =
          let was = h u (in_rest v nodes u inside) in (
            let e = length-set marks v (mark_for first) in let lt = was.0 in omega (arith, e, lt),
            elim (cases_eq u v) [
              | inl same ↦ ap is_met (ap (λ x. slice_index_or (slice_set marks v (mark_for first)) x Unmet) same ∙ get_or-set_same marks v (mark_for first) Unmet at.0) ∙ for_met first
              | inr ne ↦ ap is_met (get_or-set_other marks v u (mark_for first) Unmet ne) ∙ was.1
            ],
          )

pub numbers_len : (numbers nodes : List ℕ) (first : Option ℕ) → length (numbers_after numbers nodes first) ≡ length numbers
numbers_len numbers [] first = refl
numbers_len numbers (v ∷ nodes) None = numbers_len numbers nodes None
numbers_len numbers (v ∷ nodes) (Some f) = numbers_len (slice_set numbers v f) nodes (Some f) ∙ length-set numbers v f

number_out : (numbers nodes : List ℕ) (first : Option ℕ) (u : ℕ) → (Contains nodes u → ⊥) → slice_index_or (numbers_after numbers nodes first) u 0 ≡ slice_index_or numbers u 0
number_out numbers [] first u out = refl
number_out numbers (v ∷ nodes) None u out = number_out numbers nodes None u (λ h. out (in_rest v nodes u h))
number_out numbers (v ∷ nodes) (Some f) u out =
    number_out (slice_set numbers v f) nodes (Some f) u (λ h. out (in_rest v nodes u h))
    ∙ get_or-set_other numbers v u f 0 (λ e. out (subst (Contains (v ∷ nodes)) (sym e) (in_first v nodes)))

number_stays : (numbers nodes : List ℕ) (f u : ℕ) → u < length numbers → slice_index_or numbers u 0 ≡ f → slice_index_or (numbers_after numbers nodes (Some f)) u 0 ≡ f
number_stays numbers [] f u lt e = e
number_stays numbers (v ∷ nodes) f u lt e = number_stays (slice_set numbers v f) nodes f u (let n = length-set numbers v f in omega (arith, n, lt)) (elim (cases_eq u v) [
  | inl same ↦ ap (λ x. slice_index_or (slice_set numbers x f) u 0) (sym same) ∙ get_or-set_same numbers u f 0 lt
  | inr ne ↦ get_or-set_other numbers v u f 0 ne ∙ e
])

number_in : (numbers nodes : List ℕ) (f u : ℕ) → u < length numbers → Contains nodes u → slice_index_or (numbers_after numbers nodes (Some f)) u 0 ≡ f
number_in numbers [] f u lt h = absurd (none_in u h)
number_in numbers (v ∷ nodes) f u lt h = elim (in_cases v nodes u h) [
  | inl e ↦ number_stays (slice_set numbers v f) nodes f u (let n = length-set numbers v f in omega (arith, n, lt))
      (ap (λ x. slice_index_or (slice_set numbers x f) u 0) e ∙ get_or-set_same numbers u f 0 lt)
  | inr later ↦ number_in (slice_set numbers v f) nodes f u (let n = length-set numbers v f in omega (arith, n, lt)) later
]

marks_push : (marks : List Mark) (nodes : List ℕ) (v : ℕ) (first : Option ℕ) → slice_set (marks_after marks nodes first) v (mark_for first) ≡ marks_after marks (nodes ++ v ∷ []) first
marks_push marks [] v first = refl
marks_push marks (u ∷ nodes) v first = marks_push (slice_set marks u (mark_for first)) nodes v first

numbers_push : (numbers nodes : List ℕ) (v : ℕ) (first : Option ℕ) → numbers_for (numbers_after numbers nodes first) v first ≡ numbers_after numbers (nodes ++ v ∷ []) first
numbers_push numbers [] v None = refl
numbers_push numbers [] v (Some f) = refl
numbers_push numbers (u ∷ nodes) v first = numbers_push (numbers_for numbers u first) nodes v first

-- one node more is done
pub marked_push : (s : Stage) (nodes : List ℕ) (v : ℕ) (first : Option ℕ) → marked (marked_all s nodes first) v first ≡ marked_all s (nodes ++ v ∷ []) first
marked_push s nodes v first =
    let marks = marks_push s.marks nodes v first in
    let numbers = numbers_push s.numbers nodes v first in
    λ j. record s { marks = marks j; numbers = numbers j }

pub first_so : (g : List (List ℕ)) (s : Stage) (members : List ℕ) (o : Option ℕ) → IsLeastOf members o
    → ((v c : ℕ) → Contains members v → Contains (children g v) c → is_done (mark_of s c) ≡ false) → IsFirstOf g s members o
first_so g s members None h none = inr h
first_so g s members (Some f) h none = (h.0, h.1, λ v c inside edge d. both_ways (is_done (mark_of s c)) (none v c inside edge) d)

-- 2. The last set.

module _ (g : List (List ℕ)) (s : Stage) (k : IsStage g s) (u b : ℕ) (last : IsLastOpen s u) (finished : Contains s.finished u) (number : number_of s u ≡ b)
    (front : List ℕ) (is : s.bounds ≡ front ++ b ∷ []) (rest members : List ℕ) (split : s.finished ≡ rest ++ members)
    (inside : (v : ℕ) → Contains members v → b ≤ number_of s v) (before : IsLastBelow s b rest) (first : Option ℕ)
    (told : IsFirstOf g s members first) where
  abbrev t : Stage
  t = record (marked_all s members first) { finished = rest; bounds = front; unfinished = last.front }

  bound_in : Contains s.bounds b
  bound_in = subst (λ l. Contains l b) (sym is) (Contains-push front b)

  all_up_to : (x : ℕ) → Contains s.bounds x → x ≤ b
  all_up_to x there = bounds_below s.bounds front b b k.bounds is (omega arith) x there

  in_rest_finished : (v : ℕ) → Contains rest v → Contains s.finished v
  in_rest_finished v h = subst (λ l. Contains l v) (sym split) (Contains-append_left rest members v h)

  in_members_finished : (v : ℕ) → Contains members v → Contains s.finished v
  in_members_finished v h = subst (λ l. Contains l v) (sym split) (Contains-append_right rest members v h)

  -- the nodes of earlier sets have lesser numbers
  rest_below : (r : List ℕ) → EachPair (IsNotBefore s) r → IsLastBelow s b r → (v : ℕ) → Contains r v → number_of s v < b
  rest_below [] pairs low v h = absurd (none_in v h)
  rest_below (x ∷ []) pairs low v h = elim (in_cases x [] v h) [
    | inl e ↦ subst (λ y. number_of s y < b) e (low [] x refl)
    | inr never ↦ absurd (none_in v never)
  ]
  rest_below (x ∷ y ∷ r) pairs low v h = elim (in_cases x (y ∷ r) v h) [
    | inl e ↦
        let lt = rest_below (y ∷ r) pairs.1 (λ f w eq. low (x ∷ f) w (ap (λ l. x ∷ l) eq)) y (in_first y r) in
        elim (cases_lt (number_of s x) b) [
          | inl less ↦ subst (λ z. number_of s z < b) e less
          | inr ge ↦ let le = pairs.0.0 b bound_in ge in absurd (omega (arith, lt, le))
        ]
    | inr later ↦ rest_below (y ∷ r) pairs.1 (λ f w eq. low (x ∷ f) w (ap (λ l. x ∷ l) eq)) v later
  ]

  below_rest : (v : ℕ) → Contains rest v → number_of s v < b
  below_rest = rest_below rest (pairs_front (IsNotBefore s) rest members (subst (EachPair (IsNotBefore s)) split k.sets)) before

  -- a node of the path is in the set exactly if its number is no less than the bound
  is_member : (v : ℕ) → IsOnPath s v → b ≤ number_of s v → Contains members v
  is_member v h ge = elim (in_finished (k.known v h)) [
    | inl r ↦ let lt = below_rest v r in absurd (omega (arith, lt, ge))
    | inr m ↦ m
  ]
    where
      in_finished : Contains s.unfinished v ⊎ Contains s.finished v → Contains rest v ⊎ Contains members v
      in_finished (inr f) = Contains-append_cases rest members v (subst (λ l. Contains l v) split f)
      in_finished (inl o) = elim (Contains-push_cases last.front u v (subst (λ l. Contains l v) last.is o)) [
        | inl f ↦
            let lt = pairs_last (λ x y. number_of s x < number_of s y) last.front u (subst (EachPair (λ x y. number_of s x < number_of s y)) last.is k.rising) v f in
            absurd (omega (arith, lt, number, ge))
        | inr e ↦ Contains-append_cases rest members v (subst (λ l. Contains l v) split (subst (Contains s.finished) e finished))
      ]

  not_member : (v : ℕ) → number_of s v < b → Contains members v → ⊥
  not_member v lt m = let ge = inside v m in omega (arith, lt, ge)

  member_path : (v : ℕ) → Contains members v → IsOnPath s v
  member_path v m = (k.finishes v (in_members_finished v m)).0

  member_inside : (v : ℕ) → Contains members v → v < length s.marks
  member_inside v m = path_inside s v (member_path v m)

  mark_member : (v : ℕ) → Contains members v → mark_of t v ≡ mark_for first
  mark_member v m = mark_in first s.marks members v (member_inside v m) m

  member_done : (v : ℕ) → Contains members v → IsDone t v
  member_done v m = ap is_done (mark_member v m) ∙ for_done first

  mark_other : (v : ℕ) → (Contains members v → ⊥) → mark_of t v ≡ mark_of s v
  mark_other v out = mark_out first s.marks members v out

  number_other : (v : ℕ) → (Contains members v → ⊥) → number_of t v ≡ number_of s v
  number_other v out = number_out s.numbers members first v out

  done_no_member : (v : ℕ) → IsDone s v → Contains members v → ⊥
  done_no_member v d m = not_both s v (member_path v m) d

  unmet_no_member : (v : ℕ) → mark_of s v ≡ Unmet → Contains members v → ⊥
  unmet_no_member v e m = clash (sym e ∙ member_path v m)
    where
      clash : ◌≡◌ {A = Mark} Unmet OnPath → ⊥
      clash x = cc

  done_stays : (v : ℕ) → IsDone s v → IsDone t v
  done_stays v d = ap is_done (mark_other v (done_no_member v d)) ∙ d

  path_stays : (v : ℕ) → IsOnPath s v → number_of s v < b → IsOnPath t v
  path_stays v h lt = mark_other v (not_member v lt) ∙ h

  number_stays_at : (v : ℕ) → number_of s v < b → number_of t v ≡ number_of s v
  number_stays_at v lt = number_other v (not_member v lt)

  path_was : (v : ℕ) → IsOnPath t v → IsOnPath s v × (number_of s v < b)
  path_was v h = by (kind_of (mark_of s v))
    where
      over : IsDone t v → ⊥
      over d = not_both t v h d

      by : Kind (mark_of s v) → IsOnPath s v × (number_of s v < b)
      by (Kind.unmet e) = absurd (clash (sym (mark_other v (unmet_no_member v e) ∙ e) ∙ h))
        where
          clash : ◌≡◌ {A = Mark} Unmet OnPath → ⊥
          clash x = cc
      by (Kind.over d) = absurd (over (done_stays v d))
      by (Kind.path e) = elim (cases_lt (number_of s v) b) [
        | inl lt ↦ (e, lt)
        | inr ge ↦ absurd (over (member_done v (is_member v e ge)))
      ]

  done_was : (v : ℕ) → IsDone t v → Contains members v ⊎ IsDone s v
  done_was v d = by (kind_of (mark_of s v))
    where
      by : Kind (mark_of s v) → Contains members v ⊎ IsDone s v
      by (Kind.unmet e) = let x = sym (ap is_done (mark_other v (unmet_no_member v e) ∙ e)) ∙ d in cc
      by (Kind.over x) = inr x
      by (Kind.path e) = elim (cases_lt (number_of s v) b) [
        | inl lt ↦ absurd (not_both t v (path_stays v e lt) d)
        | inr ge ↦ inl (is_member v e ge)
      ]

  bound_stays : (x : ℕ) → Contains front x → Contains s.bounds x
  bound_stays x there = subst (λ l. Contains l x) (sym is) (Contains-append_left front (b ∷ []) x there)

  bound_was : (x : ℕ) → Contains s.bounds x → Contains front x ⊎ (b ≡ x)
  bound_was x there = Contains-push_cases front b x (subst (λ l. Contains l x) is there)

  open_stays : (v : ℕ) → Contains last.front v → Contains s.unfinished v
  open_stays v there = subst (λ l. Contains l v) (sym last.is) (Contains-append_left last.front (u ∷ []) v there)

  open_below : (v : ℕ) → Contains last.front v → number_of s v < b
  open_below v there =
      let lt = pairs_last (λ x y. number_of s x < number_of s y) last.front u (subst (EachPair (λ x y. number_of s x < number_of s y)) last.is k.rising) v there in
      omega (arith, lt, number)

  before_was : (x y : ℕ) → number_of s x < b → number_of s y < b → IsNotBefore t x y → IsNotBefore s x y
  before_was x y lx ly n z there le =
      let ex = number_stays_at x lx in
      let ey = number_stays_at y ly in
      elim (bound_was z there) [
        | inl f ↦ let r = n z f (omega (arith, le, ex)) in omega (arith, r, ey)
        | inr e ↦ absurd (omega (arith, e, le, lx))
      ]

  before_stays : (x y : ℕ) → number_of s x < b → number_of s y < b → IsNotBefore s x y → IsNotBefore t x y
  before_stays x y lx ly n z there le =
      let ex = number_stays_at x lx in
      let ey = number_stays_at y ly in
      let r = n z (bound_stays z there) (omega (arith, le, ex)) in
      omega (arith, r, ey)

  -- members lead to members
  member_leads : (v w : ℕ) → Contains members v → Contains members w → Leads g v w
  member_leads v w hv hw = k.joined v w (member_path v hv) (member_path w hw) (λ z there le.
      let up = all_up_to z there in let ge = inside w hw in omega (arith, up, ge))

  -- a child of a member is done before, or a member
  member_child : (v c : ℕ) → Contains members v → Contains (children g v) c → IsDone s c ⊎ Contains members c
  member_child v c hv edge =
      let none = (k.finishes v (in_members_finished v hv)).1 in
      elim (k.looked v c (member_path v hv) (subst (λ m. Contains (drop m (children g v)) c) (sym none) edge)) [
        | inl d ↦ inl d
        | inr p ↦ inr (is_member c p.0 (p.1 b bound_in (inside v hv)))
      ]

  -- 3. What is told of its nodes.

  told_member : (v : ℕ) → Contains members v → (f : Option ℕ) → f ≡ first → IsTold g v (told_by (mark_for f) (number_of t v))
  told_member v hv None e = λ recurrent.
      let fact : IsFirstOf g s members None = subst (IsFirstOf g s members) (sym e) told in
      elim fact [
        | inl found ↦
            let w = found.0 in
            let c = found.2.node in
            let to = leads_trans g v w c (member_leads v w hv found.1) (leads_edge g w c found.2.inside) in
            let back = recurrent c to in
            not_both s v (member_path v hv) (stays g (IsDone s) (λ x y d edge. k.done x y d edge) c v back found.2.done)
        | inr none ↦ none_in v (subst (λ l. Contains l v) none hv)
      ]
  told_member v hv (Some f) e =
      let fact : IsFirstOf g s members (Some f) = subst (IsFirstOf g s members) (sym e) told in
      let kept : (x c : ℕ) → Contains members x → Contains (children g x) c → Contains members c = λ x c hx edge. elim (member_child x c hx edge) [
        | inl d ↦ absurd (fact.2 x c hx edge d)
        | inr m ↦ m
      ] in
      let num : number_of t v ≡ f = ap (λ o. slice_index_or (numbers_after s.numbers members o) v 0) (sym e) ∙ number_in s.numbers members f v
      (let a = member_inside v hv in let p = k.marks in let q = k.numbers in omega (arith, a, p, q)) hv in
      subst (λ n. IsTold g v (Some n)) (sym num) (
        λ x l. member_leads x v (stays g (Contains members) kept v x l hv) hv,
        record {
          led = member_leads v f hv fact.0;
          least = λ x l. fact.1 x (stays g (Contains members) kept v x l hv);
        },
      )

  right_now : (v : ℕ) → IsDone t v → IsTold g v (told_of t v)
  right_now v d = elim (done_was v d) [
    | inl m ↦ subst (λ x. IsTold g v (told_by x (number_of t v))) (sym (mark_member v m)) (told_member v m first refl)
    | inr was ↦
        let out = done_no_member v was in
        subst (IsTold g v) (ap (λ n. told_by (mark_of s v) n) (sym (number_other v out)) ∙ ap (λ x. told_by x (number_of t v)) (sym (mark_other v out))) (k.right v was)
  ]

  pub close_keeps : IsStage g (record (marked_all s members first) { finished = rest; bounds = front; unfinished = last.front })
  close_keeps = record {
    nodes = k.nodes;
    marks = marks_len first s.marks members ∙ k.marks;
    numbers = numbers_len s.numbers members first ∙ k.numbers;
    lefts = k.lefts;
    met = k.met ∙ sym (counts_same first s.marks members (λ v m. (member_inside v m, ap is_met (member_path v m))));
    below = λ v h. let p = path_was v h in let e = number_stays_at v p.1 in let lt = k.below v p.0 in omega (arith, e, lt);
    whole = λ v lt m. k.whole v lt (unmet_was v m);
    few = λ v h. k.few v (path_was v h).0;
    opens = λ v there. path_stays v (k.opens v (open_stays v there)) (open_below v there);
    rising = pairs_weaken (λ x y. number_of s x < number_of s y) (λ x y. number_of t x < number_of t y) last.front
        (λ x y left right lt. let ex = number_stays_at x (open_below x left) in let ey = number_stays_at y (open_below y right) in omega (arith, ex, ey, lt))
        (pairs_front (λ x y. number_of s x < number_of s y) last.front (u ∷ []) (subst (EachPair (λ x y. number_of s x < number_of s y)) last.is k.rising));
    finishes = λ v there. let f = k.finishes v (in_rest_finished v there) in (path_stays v f.0 (below_rest v there), f.1);
    sets = pairs_weaken (IsNotBefore s) (IsNotBefore t) rest (λ x y left right n. before_stays x y (below_rest x left) (below_rest y right) n)
        (pairs_front (IsNotBefore s) rest members (subst (EachPair (IsNotBefore s)) split k.sets));
    known = known_now;
    bounds = pairs_front ◌<◌ front (b ∷ []) (subst (EachPair ◌<◌) is k.bounds);
    begun = begun_now;
    within = within_now;
    joined = λ x y hx hy n. let p = path_was x hx in let q = path_was y hy in k.joined x y p.0 q.0 (before_was x y p.1 q.1 n);
    looked = looked_now;
    done = λ x c d edge. elim (done_was x d) [
      | inl m ↦ elim (member_child x c m edge) [ inl before_it ↦ done_stays c before_it | inr member ↦ member_done c member ]
      | inr was ↦ done_stays c (k.done x c was edge)
    ];
    right = right_now;
  }
    where
      unmet_was : (v : ℕ) → mark_of t v ≡ Unmet → mark_of s v ≡ Unmet
      unmet_was v m = by (kind_of (mark_of s v))
        where
          not_done : IsDone t v → ⊥
          not_done d = let x = sym (ap is_done m) ∙ d in cc

          not_path : IsOnPath t v → ⊥
          not_path h = clash (sym m ∙ h)
            where
              clash : ◌≡◌ {A = Mark} Unmet OnPath → ⊥
              clash x = cc

          by : Kind (mark_of s v) → mark_of s v ≡ Unmet
          by (Kind.unmet e) = e
          by (Kind.over d) = absurd (not_done (done_stays v d))
          by (Kind.path e) = elim (cases_lt (number_of s v) b) [
            | inl lt ↦ absurd (not_path (path_stays v e lt))
            | inr ge ↦ absurd (not_done (member_done v (is_member v e ge)))
          ]

      known_now : (v : ℕ) → IsOnPath t v → Contains last.front v ⊎ Contains rest v
      known_now v h =
          let p = path_was v h in
          elim (k.known v p.0) [
            | inl o ↦ elim (Contains-push_cases last.front u v (subst (λ l. Contains l v) last.is o)) [
              | inl f ↦ inl f
              | inr e ↦ let x = ap (number_of s) e in let lt = p.1 in absurd (omega (arith, x, number, lt))
            ]
            | inr f ↦ elim (Contains-append_cases rest members v (subst (λ l. Contains l v) split f)) [
              | inl r ↦ inr r
              | inr m ↦ absurd (not_member v p.1 m)
            ]
          ]

      begun_now : (x : ℕ) → Contains front x → IsOpenAt t x
      begun_now x there =
          let m = k.begun x (bound_stays x there) in
          let lt = pairs_last ◌<◌ front b (subst (EachPair ◌<◌) is k.bounds) x there in
          elim (Contains-push_cases last.front u m.0 (subst (λ l. Contains l m.0) last.is m.1)) [
            | inl f ↦ (m.0, f, number_stays_at m.0 (open_below m.0 f) ∙ m.2)
            | inr e ↦ let y = m.2 in let z = ap (number_of s) e in absurd (omega (arith, y, z, number, lt))
          ]

      within_now : (v : ℕ) → IsOnPath t v → IsInSome t v
      within_now v h =
          let p = path_was v h in
          let w = k.within v p.0 in
          let lt = p.1 in
          let le = w.2 in
          elim (bound_was w.0 w.1) [
            | inl f ↦ (w.0, f, let e = number_stays_at v p.1 in omega (arith, e, le))
            | inr e ↦ absurd (omega (arith, e, le, lt))
          ]

      looked_now : (x c : ℕ) → IsOnPath t x → Contains (drop (left_of s x) (children g x)) c → IsLookedAt t x c
      looked_now x c h there =
          let p = path_was x h in
          elim (k.looked x c p.0 there) [
            | inl d ↦ inl (done_stays c d)
            | inr q ↦ elim (cases_lt (number_of s c) b) [
              | inl lt ↦ inr (path_stays c q.0 lt, before_stays x c p.1 lt q.1)
              | inr ge ↦ inl (member_done c (is_member c q.0 ge))
            ]
          ]

  pub close_later : IsLater s (record (marked_all s members first) { finished = rest; bounds = front; unfinished = last.front })
  close_later = record { met = met_stays; done = done_stays }
    where
      met_stays : (v : ℕ) → is_met (mark_of s v) ≡ true → is_met (mark_of t v) ≡ true
      met_stays v m = by (kind_of (mark_of s v))
        where
          of_done : (x : Mark) → is_done x ≡ true → is_met x ≡ true
          of_done Unmet e = cc
          of_done OnPath e = cc
          of_done Passed e = refl
          of_done Closed e = refl

          by : Kind (mark_of s v) → is_met (mark_of t v) ≡ true
          by (Kind.unmet e) = let x = sym (ap is_met e) ∙ m in cc
          by (Kind.over d) = of_done (mark_of t v) (done_stays v d)
          by (Kind.path e) = elim (cases_lt (number_of s v) b) [
            | inl lt ↦ ap is_met (path_stays v e lt)
            | inr ge ↦ of_done (mark_of t v) (member_done v (is_member v e ge))
          ]
