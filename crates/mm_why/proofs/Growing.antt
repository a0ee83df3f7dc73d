-- A list of lines that follow grows by lines that follow.
use Rattle.std.proofs.Common.{◌≡◌, ℕ, ◌<◌, ◌≤◌, ◌⊎◌, inl, inr, List, [], ◌∷◌, ◌++◌, length, refl, sym, ap, ◌∙◌, subst}
use Rattle.std.proofs.{Common.arith, lemmas.List.{get_or_push, get_or_append_left, length_push}}
use Rattle.mm_word.specs.Pointer.{Pointer}
use Rattle.mm_model.specs.Image.{Image}
use Rattle.mm_why.specs.declared.line.{Line.Line, Rule.Rule}
use Rattle.mm_why.specs.Derivations.{line_at, no_line, Names, Says, Follows, LineFollows, EachFollows, NoneTwice}
use Rattle.mm_why.{specs.{Pruning.NameEarlier, Traces.{Extends, IsFresh, Adds}}, proofs.Pruning.same_or_before}
use Rattle.mm_why.specs.declared.line.Rule.TheVariants as rules

-- what follows names earlier lines only
names_earlier : (i : Image) (lines : List Line) (top g : ℕ) (p : Pointer) (r : Rule) (j : ℕ) → Follows i lines top g p r → Names r j → j < top
names_earlier i lines top g p (rules.Register _ _) j h n = elim n [ ]
names_earlier i lines top g p (rules.Runs _) j h n = elim n [ ]
names_earlier i lines top g p (rules.Cell w k) j h n = subst (λ v. v < top) n h.says.earlier
names_earlier i lines top g p (rules.Below k) j h n = subst (λ v. v < top) n h.says.earlier
names_earlier i lines top g p (rules.Passed w k s l) j h (inl n) = subst (λ v. v < top) n h.gives.earlier
names_earlier i lines top g p (rules.Passed w k s l) j h (inr (inl n)) = subst (λ v. v < top) n h.says_store.earlier
names_earlier i lines top g p (rules.Passed w k s l) j h (inr (inr n)) = subst (λ v. v < top) n h.says_load.earlier
names_earlier i lines top g p (rules.Entered k) j h n = subst (λ v. v < top) n h.says.earlier
names_earlier i lines top g p (rules.Served m k) j h n = subst (λ v. v < top) n h.gives.earlier
names_earlier i lines top g p (rules.Made k) j h n = subst (λ v. v < top) n h.says.earlier

pub each_earlier : (i : Image) (lines : List Line) → EachFollows i lines → NameEarlier lines
each_earlier i lines each k j lt names =
    names_earlier i lines k (line_at lines k).group (line_at lines k).pointer (line_at lines k).rule j (each k lt) names

-- what follows, follows from a longer list too
module _ (i : Image) (old new : List Line) (longer : Extends old new) (top : ℕ) (fits : top ≤ length old) where
  says_more : (j g : ℕ) (p : Pointer) → Says old top j g p → Says new top j g p
  says_more j g p h =
      let e = longer.same j (let lt = h.earlier in omega arith) in
      record { earlier = h.earlier; group = ap (λ v. v.group) e ∙ h.group; pointer = ap (λ v. v.pointer) e ∙ h.pointer }

  pub follows_more : (g : ℕ) (p : Pointer) (r : Rule) → Follows i old top g p r → Follows i new top g p r
  follows_more g p (rules.Register n r) h = h
  follows_more g p (rules.Runs n) h = h
  follows_more g p (rules.Cell w t) h = record { by = h.by; says = says_more t g h.by h.says; loads = h.loads; cell = h.cell; at = h.at; holds = h.holds }
  follows_more g p (rules.Below t) h = record { by = h.by; says = says_more t g h.by h.says; below = h.below }
  follows_more g p (rules.Passed w t s l) h = record {
    giver = h.giver;
    gives = says_more t h.giver p h.gives;
    store = h.store;
    says_store = says_more s h.giver h.store h.says_store;
    stores = h.stores;
    load = h.load;
    says_load = says_more l g h.load h.says_load;
    loads = h.loads;
  }
  follows_more g p (rules.Entered t) h = record { by = h.by; says = says_more t g h.by h.says; enters = h.enters; leaves = h.leaves }
  follows_more g p (rules.Served n t) h = record { giver = h.giver; gives = says_more t h.giver p h.gives; serves = h.serves; number = h.number }
  follows_more g p (rules.Made t) h = record { by = h.by; says = says_more t g h.by h.says; privileged = h.privileged; well_formed = h.well_formed }

pub extends_push : (old : List Line) (line : Line) → Extends old (old ++ line ∷ [])
extends_push old line = record {
  len = let l = length_push old line in omega (arith, l);
  same = λ k lt. get_or_append_left old (line ∷ []) no_line k lt;
}

pub extends_trans : (a b c : List Line) → Extends a b → Extends b c → Extends a c
extends_trans a b c x y = record {
  len = let l = x.len in let m = y.len in omega (arith, l, m);
  same = λ k lt. y.same k (let l = x.len in omega (arith, l, lt)) ∙ x.same k lt;
}

pub extends_same : (a : List Line) → Extends a a
extends_same a = record { len = omega arith; same = λ k lt. refl }

module _ (old : List Line) (line : Line) where
  abbrev new : List Line
  new = old ++ line ∷ []

  last : line_at new (length old) ≡ line
  last = get_or_push old line no_line (length old) refl

  front : (k : ℕ) → k < length old → line_at new k ≡ line_at old k
  front k lt = get_or_append_left old (line ∷ []) no_line k lt

  top : (k : ℕ) → k < length new → (k ≡ length old) ⊎ (k < length old)
  top k lt = same_or_before k (length old) (let l = length_push old line in omega (arith, l, lt))

  each : (i : Image) → EachFollows i old → LineFollows i old (length old) line → (k : ℕ) → (k ≡ length old) ⊎ (k < length old)
      → LineFollows i new k (line_at new k)
  each i all h k (inl e) = subst (λ v. LineFollows i new v (line_at new v)) (sym e)
      (subst (LineFollows i new (length old)) (sym last) (follows_more i old new (extends_push old line) (length old) (omega arith) line.group line.pointer line.rule h))
  each i all h k (inr lt) = subst (LineFollows i new k) (sym (front k lt))
      (follows_more i old new (extends_push old line) k (omega (arith, lt)) (line_at old k).group (line_at old k).pointer (line_at old k).rule (all k lt))

  twice : NoneTwice old → IsFresh old line.group line.pointer → (j k : ℕ) → j < k → (k ≡ length old) ⊎ (k < length old)
      → (line_at new j).group ≡ (line_at new k).group → (line_at new j).pointer ≡ (line_at new k).pointer → ⊥
  twice none fresh j k lt (inl e) g p =
      let small : j < length old = omega (arith, lt, e) in
      let f = front j small in
      let l = ap (line_at new) e ∙ last in
      fresh j small (sym (ap (λ v. v.group) f) ∙ g ∙ ap (λ v. v.group) l) (sym (ap (λ v. v.pointer) f) ∙ p ∙ ap (λ v. v.pointer) l)
  twice none fresh j k lt (inr small) g p =
      let f = front j (omega (arith, lt, small)) in
      let l = front k small in
      none j k lt small (sym (ap (λ v. v.group) f) ∙ g ∙ ap (λ v. v.group) l) (sym (ap (λ v. v.pointer) f) ∙ p ∙ ap (λ v. v.pointer) l)

  pub adds : (written : List Line) (place : ℕ) → written ≡ new → place ≡ length old → IsFresh old line.group line.pointer → Adds old line written place
  adds written place is at fresh = subst (λ v. Adds old line v place) (sym is) (subst (Adds old line new) (sym at) (record {
    at = refl;
    len = length_push old line;
    extends = extends_push old line;
    says = record { earlier = let l = length_push old line in omega (arith, l); group = ap (λ v. v.group) last; pointer = ap (λ v. v.pointer) last };
    is = last;
    keeps = λ i trace h. record {
      follows = λ k lt. each i trace.follows h k (top k lt);
      none_twice = λ j k lt small g p. twice trace.none_twice fresh j k lt (top k small) g p;
    };
  }))
