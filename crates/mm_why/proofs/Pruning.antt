-- Of a derivation's lines those that the last one needs are a derivation.
use Rattle.std.proofs.Common.{◌≡◌, ℕ, ◌+◌, ◌-◌, ◌<◌, ◌≤◌, ◌⊎◌, inl, inr, Bool, false, List, [], ◌∷◌, ◌++◌, length, take}
use Rattle.std.proofs.Common.{get_or, slice_set, refl, sym, ap, ◌∙◌, subst, arith}
use Rattle.std.proofs.lemmas.Bool.{cases_lt}
use Rattle.std.proofs.lemmas.List.{get_or_default, get_or_past, get_or-set_same, get_or-set_other, get_or_push}
use Rattle.std.proofs.lemmas.List.{get_or_append_left, length_push, length-set, take_at}
use Rattle.mm_word.specs.Pointer.{Pointer}
use Rattle.mm_model.specs.Image.{Image}
use Rattle.mm_why.specs.declared.line.{Line.Line, Rule.Rule}
use Rattle.mm_why.specs.Derivations.{line_at, no_line, Names, Says, Follows, LineFollows, EachFollows, NoneTwice}
use Rattle.mm_why.specs.Derivations.{IsNamed, IsDerivation}
use Rattle.mm_why.specs.Pruning.{NameEarlier, IsNeeded, AddsNamed, NeededBy, Needs, moved, moved_line, AreKept}
use Rattle.mm_why.specs.declared.line.Rule.TheVariants as rules

-- the line that was read at an index
pub same_line : (lines : List Line) (k : ℕ) (line : Line) → k < length lines → line ≡ get_or lines k line → line ≡ line_at lines k
same_line lines k line lt e = e ∙ get_or_default lines k line no_line lt

-- a list of a known length, with what was after it
pub whole : {A : Type 0} (xs rest : List A) (n : ℕ) → length xs ≡ n → take n (xs ++ rest) ≡ xs
whole xs rest n e = take_at xs rest n e

-- which lines are needed

pub same_or_later : (at k : ℕ) → at ≤ k → (at ≡ k) ⊎ (at + 1 ≤ k)
same_or_later at k le = elim (cases_lt at k) [ inl lt ↦ inr (omega arith) | inr ge ↦ inl (omega arith) ]

pub same_or_before : (j k : ℕ) → j < k + 1 → (j ≡ k) ⊎ (j < k)
same_or_before j k lt = elim (cases_lt j k) [ inl le ↦ inr le | inr ge ↦ inl (omega arith) ]

module _ (lines : List Line) (earlier : NameEarlier lines) (last at : ℕ) (small : at < length lines) where
  pub step_needs : (old new : List Bool) → Needs lines last (at + 1) old → IsNeeded old at → AddsNamed (line_at lines at).rule old new
      → Needs lines last at new
  step_needs old new n here adds = record {
    len = adds.len ∙ n.len;
    whole = adds.keeps last n.whole;
    named = λ j h. name j (adds.only j h);
    closed = λ k j le h names. close k j (adds.only k h) names (same_or_later at k le);
  }
    where
      moved_up : (j : ℕ) → (j ≡ last) ⊎ NeededBy lines old j → (j ≡ last) ⊎ NeededBy lines new j
      moved_up j (inl e) = inl e
      moved_up j (inr b) = inr (record { by = b.by; later = b.later; needs = adds.keeps b.by b.needs; names = b.names })

      name : (j : ℕ) → IsNeeded old j ⊎ Names (line_at lines at).rule j → (j ≡ last) ⊎ NeededBy lines new j
      name j (inl h) = moved_up j (n.named j h)
      name j (inr h) = inr (record { by = at; later = earlier at j small h; needs = adds.keeps at here; names = h })

      close : (k j : ℕ) → IsNeeded old k ⊎ Names (line_at lines at).rule k → Names (line_at lines k).rule j → (at ≡ k) ⊎ (at + 1 ≤ k) → IsNeeded new j
      close k j h names (inl e) = adds.adds j (subst (λ v. Names (line_at lines v).rule j) (sym e) names)
      close k j (inl h) names (inr le) = adds.keeps j (n.closed k j le h names)
      close k j (inr h) names (inr le) = absurd (let lt = earlier at k small h in omega arith)

-- rules with other indices

pub moved_same : (f g : ℕ → ℕ) (r : Rule) → ((j : ℕ) → Names r j → f j ≡ g j) → moved f r ≡ moved g r
moved_same f g (rules.Register n r) same = refl
moved_same f g (rules.Runs n) same = refl
moved_same f g (rules.Cell w j) same = ap (rules.Cell w) (same j refl)
moved_same f g (rules.Below j) same = ap rules.Below (same j refl)
moved_same f g (rules.Passed w j s l) same =
    ap (λ v. rules.Passed w v (f s) (f l)) (same j (inl refl)) ∙ ap (λ v. rules.Passed w (g j) v (f l)) (same s (inr (inl refl)))
    ∙ ap (rules.Passed w (g j) (g s)) (same l (inr (inr refl)))
moved_same f g (rules.Entered j) same = ap rules.Entered (same j refl)
moved_same f g (rules.Served n j) same = ap (rules.Served n) (same j refl)
moved_same f g (rules.Made j) same = ap rules.Made (same j refl)

names_moved : (f : ℕ → ℕ) (r : Rule) (j : ℕ) → Names r j → Names (moved f r) (f j)
names_moved f (rules.Register _ _) j h = elim h [ ]
names_moved f (rules.Runs _) j h = elim h [ ]
names_moved f (rules.Cell w k) j h = ap f h
names_moved f (rules.Below k) j h = ap f h
names_moved f (rules.Passed w k s l) j (inl h) = inl (ap f h)
names_moved f (rules.Passed w k s l) j (inr (inl h)) = inr (inl (ap f h))
names_moved f (rules.Passed w k s l) j (inr (inr h)) = inr (inr (ap f h))
names_moved f (rules.Entered k) j h = ap f h
names_moved f (rules.Served n k) j h = ap f h
names_moved f (rules.Made k) j h = ap f h

-- the lines that are kept

module _ (lines : List Line) (earlier : NameEarlier lines) (needed : List Bool) (k : ℕ) (small : k < length needed)
    (fits : length needed ≤ length lines) (places : List ℕ) (out : List Line) (kept : AreKept lines needed k places out) where
  abbrev after : List ℕ
  after = slice_set places k (length out)

  abbrev line : Line
  line = moved_line after (line_at lines k)

  inside : k < length places
  inside = let e = kept.len in omega arith

  there : get_or after k 0 ≡ length out
  there = get_or-set_same places k (length out) 0 inside

  other : (j : ℕ) → j < k → get_or after j 0 ≡ get_or places j 0
  other j lt = get_or-set_other places k j (length out) 0 (omega arith)

  longer : length (out ++ line ∷ []) ≡ length out + 1
  longer = length_push out line

  same_place : (j : ℕ) → j < k → moved_line places (line_at lines j) ≡ moved_line after (line_at lines j)
  same_place j lt = ap (λ r. record (line_at lines j) { rule = r })
      (moved_same (λ v. get_or places v 0) (λ v. get_or after v 0) (line_at lines j).rule (λ v h. sym (other v (let e = earlier j v (omega arith) h in omega arith))))

  before_last : (j : ℕ) → j < k → IsNeeded needed j → line_at (out ++ line ∷ []) (get_or after j 0) ≡ moved_line after (line_at lines j)
  before_last j lt h =
      let s = kept.small j lt h in
      ap (line_at (out ++ line ∷ [])) (other j lt) ∙ get_or_append_left out (line ∷ []) no_line (get_or places j 0) s ∙ kept.at j lt h ∙ same_place j lt

  pub keeps : IsNeeded needed k → AreKept lines needed (k + 1) after (out ++ line ∷ [])
  keeps here = record {
    len = length-set places k (length out) ∙ kept.len;
    small = λ j lt h. smaller j h (same_or_before j k lt);
    at = λ j lt h. at j h (same_or_before j k lt);
    order = λ j m lt le h1 h2. ordered j m lt h1 h2 (same_or_before m k le);
    each = λ m lt. found m (same_or_before m (length out) (let e = longer in omega arith));
  }
    where
      smaller : (j : ℕ) → IsNeeded needed j → (j ≡ k) ⊎ (j < k) → get_or after j 0 < length (out ++ line ∷ [])
      smaller j h (inl e) = let l = longer in let t = ap (λ v. get_or after v 0) e ∙ there in omega (arith, l, t)
      smaller j h (inr lt) = let l = longer in let t = other j lt in let s = kept.small j lt h in omega (arith, l, t, s)

      at : (j : ℕ) → IsNeeded needed j → (j ≡ k) ⊎ (j < k) → line_at (out ++ line ∷ []) (get_or after j 0) ≡ moved_line after (line_at lines j)
      at j h (inl e) = ap (λ v. line_at (out ++ line ∷ []) (get_or after v 0)) e ∙ ap (line_at (out ++ line ∷ [])) there
          ∙ get_or_push out line no_line (length out) refl ∙ sym (ap (λ v. moved_line after (line_at lines v)) e)
      at j h (inr lt) = before_last j lt h

      ordered : (j m : ℕ) → j < m → IsNeeded needed j → IsNeeded needed m → (m ≡ k) ⊎ (m < k) → get_or after j 0 < get_or after m 0
      ordered j m lt h1 h2 (inl e) =
          let t = ap (λ v. get_or after v 0) e ∙ there in let o = other j (omega arith) in let s = kept.small j (omega arith) h1 in omega (arith, t, o, s)
      ordered j m lt h1 h2 (inr le) =
          let o = other j (omega arith) in let p = other m le in let s = kept.order j m lt le h1 h2 in omega (arith, o, p, s)

      found : (m : ℕ) → (m ≡ length out) ⊎ (m < length out) → (j : ℕ) × (j < k + 1) × IsNeeded needed j × (get_or after j 0 ≡ m)
      found m (inl e) = (k, omega arith, here, there ∙ sym e)
      found m (inr lt) = let f = kept.each m lt in (f.0, omega (arith, f.1), f.2, other f.0 f.1 ∙ f.3)

  -- the same for what the code writes
  pub keeps_as : (read : Line) (rule : Rule) (n : ℕ) (new : List Line) → n ≡ length out → read ≡ line_at lines k
      → rule ≡ moved (λ j. get_or (slice_set places k n) j 0) read.rule
      → new ≡ out ++ record { group = read.group; pointer = read.pointer; rule = rule } ∷ [] → IsNeeded needed k
      → AreKept lines needed (k + 1) (slice_set places k n) new
  keeps_as read rule n new size is is_rule is_new here =
      let same_rule : rule ≡ moved (λ j. get_or after j 0) read.rule = is_rule ∙ ap (λ v. moved (λ j. get_or (slice_set places k v) j 0) read.rule) size in
      let same : record { group = read.group; pointer = read.pointer; rule = rule } ≡ line =
      (ap (λ v. record { group = read.group; pointer = read.pointer; rule = v }) same_rule ∙ ap (λ v. moved_line after v) is) in
      subst (λ v. AreKept lines needed (k + 1) (slice_set places k v) new) (sym size)
      (subst (AreKept lines needed (k + 1) after) (sym (is_new ∙ ap (λ v. out ++ v ∷ []) same)) (keeps here))

  pub skips : (IsNeeded needed k → ⊥) → AreKept lines needed (k + 1) places out
  skips none = record {
    len = kept.len;
    small = λ j lt h. kept.small j (below j lt h) h;
    at = λ j lt h. kept.at j (below j lt h) h;
    order = λ j m lt le h1 h2. kept.order j m lt (below m le h2) h1 h2;
    each = λ m lt. let f = kept.each m lt in (f.0, omega (arith, f.1), f.2, f.3);
  }
    where
      apart : (j : ℕ) → IsNeeded needed j → (j ≡ k) ⊎ (j < k) → j < k
      apart j h (inl e) = absurd (none (subst (IsNeeded needed) e h))
      apart j h (inr lt) = lt

      below : (j : ℕ) → j < k + 1 → IsNeeded needed j → j < k
      below j lt h = apart j h (same_or_before j k lt)

pub none_kept : (lines : List Line) (needed : List Bool) (places : List ℕ) → length places ≡ length needed → AreKept lines needed 0 places []
none_kept lines needed places e = record {
  len = e;
  small = λ j lt h. absurd (omega arith);
  at = λ j lt h. absurd (omega arith);
  order = λ j k lt le h1 h2. absurd (omega arith);
  each = λ m lt. absurd (omega arith);
}

-- the derivation

module _ (lines : List Line) (last : ℕ) (small : last < length lines) (needed : List Bool) (needs : Needs lines last 0 needed)
    (places : List ℕ) (out : List Line) (kept : AreKept lines needed (length needed) places out) where
  abbrev place : ℕ → ℕ
  place j = get_or places j 0

  top : (j : ℕ) → IsNeeded needed j → j < length needed
  top j h = elim (cases_lt j (length needed)) [ inl lt ↦ lt | inr le ↦ (let past = sym (get_or_past needed j false le) ∙ h in absurd (cc)) ]

  -- what line j said, its kept copy says
  says_moved : (j t g : ℕ) (p : Pointer) → IsNeeded needed j → IsNeeded needed t → Says lines j t g p → Says out (place j) (place t) g p
  says_moved j t g p hj ht s =
      let e = kept.at t (top t ht) ht in
      record {
        earlier = kept.order t j s.earlier (top j hj) ht hj;
        group = ap (λ v. v.group) e ∙ s.group;
        pointer = ap (λ v. v.pointer) e ∙ s.pointer;
      }

  follows_moved : (i : Image) (j g : ℕ) (p : Pointer) (r : Rule) → IsNeeded needed j → ((t : ℕ) → Names r t → IsNeeded needed t) → Follows i lines j g p r
      → Follows i out (place j) g p (moved place r)
  follows_moved i j g p (rules.Register n r) hj all h = h
  follows_moved i j g p (rules.Runs n) hj all h = h
  follows_moved i j g p (rules.Cell w t) hj all h =
      record { by = h.by; says = says_moved j t g h.by hj (all t refl) h.says; loads = h.loads; cell = h.cell; at = h.at; holds = h.holds }
  follows_moved i j g p (rules.Below t) hj all h = record { by = h.by; says = says_moved j t g h.by hj (all t refl) h.says; below = h.below }
  follows_moved i j g p (rules.Passed w t s l) hj all h = record {
    giver = h.giver;
    gives = says_moved j t h.giver p hj (all t (inl refl)) h.gives;
    store = h.store;
    says_store = says_moved j s h.giver h.store hj (all s (inr (inl refl))) h.says_store;
    stores = h.stores;
    load = h.load;
    says_load = says_moved j l g h.load hj (all l (inr (inr refl))) h.says_load;
    loads = h.loads;
  }
  follows_moved i j g p (rules.Entered t) hj all h =
      record { by = h.by; says = says_moved j t g h.by hj (all t refl) h.says; enters = h.enters; leaves = h.leaves }
  follows_moved i j g p (rules.Served n t) hj all h =
      record { giver = h.giver; gives = says_moved j t h.giver p hj (all t refl) h.gives; serves = h.serves; number = h.number }
  follows_moved i j g p (rules.Made t) hj all h =
      record { by = h.by; says = says_moved j t g h.by hj (all t refl) h.says; privileged = h.privileged; well_formed = h.well_formed }

  follows_at : (i : Image) → EachFollows i lines → (j : ℕ) → IsNeeded needed j → LineFollows i out (place j) (line_at out (place j))
  follows_at i each j hj =
      let e = kept.at j (top j hj) hj in
      let le = needs.len in
      subst (LineFollows i out (place j)) (sym e)
      (follows_moved i j (line_at lines j).group (line_at lines j).pointer (line_at lines j).rule hj (λ t names. needs.closed j t (omega arith) hj names)
      (each j (let t = top j hj in omega arith)))

  -- the last line that is needed stands last
  place_of_last : place last ≡ length out - 1
  place_of_last = elim (cases_lt (place last + 1) (length out)) [
    | inr le ↦ let s = kept.small last (top last needs.whole) needs.whole in omega arith
    | inl lt ↦
        let f = kept.each (place last + 1) lt in
        absurd (elim (cases_lt f.0 last) [
          | inl before ↦ let o = kept.order f.0 last before (top last needs.whole) f.2 needs.whole in let e = f.3 in omega (arith, o, e)
          | inr le ↦ let n = needs.len in let same : f.0 ≡ last = (let b = f.1 in omega (arith, b, n, le)) in let e = sym (ap place same) ∙ f.3 in omega (arith, e)
        ])
  ]

  names_at : (j t : ℕ) → IsNeeded needed t → Names (line_at lines t).rule j → Names (line_at out (place t)).rule (place j)
  names_at j t ht h = subst (λ v. Names v.rule (place j)) (sym (kept.at t (top t ht) ht)) (names_moved place (line_at lines t).rule j h)

  named_at : (j : ℕ) → place j + 1 < length out → IsNeeded needed j → (j ≡ last) ⊎ NeededBy lines needed j → IsNamed out (place j)
  named_at j lt hj (inl e) = absurd (let l = ap place e ∙ place_of_last in omega (arith, l, lt))
  named_at j lt hj (inr b) = record {
    by = place b.by;
    later = kept.order j b.by b.later (top b.by b.needs) hj b.needs;
    small = kept.small b.by (top b.by b.needs) b.needs;
    names = names_at j b.by b.needs b.names;
  }

  twice_at : NoneTwice lines → (j k : ℕ) → IsNeeded needed j → IsNeeded needed k → place j < place k → (line_at out (place j)).group ≡ (line_at out (place k)).group
      → (line_at out (place j)).pointer ≡ (line_at out (place k)).pointer → ⊥
  twice_at none j k hj hk lt g p =
      let ej = kept.at j (top j hj) hj in
      let ek = kept.at k (top k hk) hk in
      none j k (before (cases_lt j k)) (let t = top k hk in let n = needs.len in omega arith)
      (sym (ap (λ v. v.group) ej) ∙ g ∙ ap (λ v. v.group) ek) (sym (ap (λ v. v.pointer) ej) ∙ p ∙ ap (λ v. v.pointer) ek)
    where
      not_after : (k ≡ j) ⊎ (k + 1 ≤ j) → ⊥
      not_after (inl e) = let s = ap place e in omega (arith, s, lt)
      not_after (inr le) = let o = kept.order k j (omega arith) (top j hj) hk hj in omega (arith, o, lt)

      before : (j < k) ⊎ (k ≤ j) → j < k
      before (inl b) = b
      before (inr le) = absurd (not_after (same_or_later k j le))

  pub derivation : (i : Image) → EachFollows i lines → NoneTwice lines → IsDerivation i out
  derivation i each none = record {
    follows = λ m lt. let f = kept.each m lt in subst (λ v. LineFollows i out v (line_at out v)) f.3 (follows_at i each f.0 f.2);
    none_twice = λ a b lt le g p.
        let f = kept.each a (omega arith) in
        let h = kept.each b le in
        twice_at none f.0 h.0 f.2 h.2 (let x = f.3 in let y = h.3 in omega (arith, x, y, lt))
        (ap (λ v. (line_at out v).group) f.3 ∙ g ∙ sym (ap (λ v. (line_at out v).group) h.3))
        (ap (λ v. (line_at out v).pointer) f.3 ∙ p ∙ sym (ap (λ v. (line_at out v).pointer) h.3));
    named = λ m lt. let f = kept.each m (omega arith) in
        subst (IsNamed out) f.3 (named_at f.0 (let x = f.3 in omega (arith, x, lt)) f.2 (needs.named f.0 f.2));
  }

  pub last_line : Says out (length out) (length out - 1) (line_at lines last).group (line_at lines last).pointer
  last_line =
      let e = kept.at last (top last needs.whole) needs.whole in
      let s = kept.small last (top last needs.whole) needs.whole in
      record {
        earlier = omega arith;
        group = ap (λ v. (line_at out v).group) (sym place_of_last) ∙ ap (λ v. v.group) e;
        pointer = ap (λ v. (line_at out v).pointer) (sym place_of_last) ∙ ap (λ v. v.pointer) e;
      }
