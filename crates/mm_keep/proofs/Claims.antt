-- Tables grow and stay sound.
use Rattle.std.proofs.Common.{◌≡◌, ◌⊎◌, inl, inr, List, [], ◌++◌, sym, ap, ◌∙◌, subst, append_assoc}
use Rattle.std.proofs.Common.{arith}
use Rattle.std.proofs.lemmas.List.{append-nil}
use Rattle.std.proofs.lemmas.List.Elements.{Contains-append_left, Contains-append_right, Contains-append_cases}
use Rattle.std.specs.Prelude.{Contains}
use Rattle.mm_model.specs.Image.{Image}
use Rattle.mm_kernel.specs.Segments.{Segment}
use Rattle.mm_kernel.specs.Facts.{Fact, Fact.{HasThread, HasForm, HasDoor, HasEvent, HasFaulted, HasLeak}}
use Rattle.mm_keep.specs.Claims.{Claim, Tables, Begins, Grows, Adds, AddsFacts, Facts, Holds, HoldsFact}
use Rattle.mm_keep.specs.Claims.Claim.{IsFact, SomeResumes, SomeWrites}

-- 1. Growth.

module _ {A : Type 0} where
  pub begins_same : (xs : List A) → Begins xs xs
  begins_same xs = record { more = []; whole = sym (append-nil xs) }

  pub begins_then : (xs ys zs : List A) → Begins xs ys → Begins ys zs → Begins xs zs
  begins_then xs ys zs a b = record {
    more = a.more ++ b.more;
    whole = b.whole ∙ ap (λ l. l ++ b.more) a.whole ∙ append_assoc xs a.more b.more;
  }

  pub begins_has : (xs ys : List A) (x : A) → Begins xs ys → Contains xs x → Contains ys x
  begins_has xs ys x b h = subst (λ l. Contains l x) (sym b.whole) (Contains-append_left xs b.more x h)

pub grows_same : (t : Tables) → Grows t t
grows_same t = record {
  threads = begins_same t.threads;
  doors = begins_same t.doors;
  leaks = begins_same t.leaks;
  stored = begins_same t.stored;
  events = begins_same t.events;
  faulted = begins_same t.faulted;
  resumes = begins_same t.resumes;
  writes = begins_same t.writes;
}

pub grows_then : (a b c : Tables) → Grows a b → Grows b c → Grows a c
grows_then a b c g h = record {
  threads = begins_then a.threads b.threads c.threads g.threads h.threads;
  doors = begins_then a.doors b.doors c.doors g.doors h.doors;
  leaks = begins_then a.leaks b.leaks c.leaks g.leaks h.leaks;
  stored = begins_then a.stored b.stored c.stored g.stored h.stored;
  events = begins_then a.events b.events c.events g.events h.events;
  faulted = begins_then a.faulted b.faulted c.faulted g.faulted h.faulted;
  resumes = begins_then a.resumes b.resumes c.resumes g.resumes h.resumes;
  writes = begins_then a.writes b.writes c.writes g.writes h.writes;
}

module _ (i : Image) (kept : List Segment) where
  holds_fact : (a b : Tables) → Grows a b → (fact : Fact) → HoldsFact i kept a fact → HoldsFact i kept b fact
  holds_fact a b g (HasThread thread) h = begins_has a.threads b.threads thread g.threads h
  holds_fact a b g (HasForm w form) (inl first) = inl first
  holds_fact a b g (HasForm w form) (inr later) = inr (begins_has a.stored b.stored (w, form) g.stored later)
  holds_fact a b g (HasDoor door) h = begins_has a.doors b.doors door g.doors h
  holds_fact a b g (HasEvent s event) h = begins_has a.events b.events (s, event) g.events h
  holds_fact a b g (HasFaulted s thread) h = begins_has a.faulted b.faulted (s, thread) g.faulted h
  holds_fact a b g (HasLeak leak) h = begins_has a.leaks b.leaks leak g.leaks h

  -- what tables hold they hold when they have grown
  pub holds_on : (a b : Tables) → Grows a b → (claim : Claim) → Holds i kept a claim → Holds i kept b claim
  holds_on a b g (IsFact fact) h = holds_fact a b g fact h
  holds_on a b g (SomeResumes slot how) h = begins_has a.resumes b.resumes (slot, how) g.resumes h
  holds_on a b g (SomeWrites slot reg form) h = begins_has a.writes b.writes (slot, reg, form) g.writes h

  -- 2. What is added.

  pub adds_none : (P : Claim → Type 0) (a : Tables) → ((claim : Claim) → P claim → ⊥) → Adds i kept P a a
  adds_none P a none = record {
    grows = grows_same a;
    holds = λ claim p. absurd (none claim p);
    sound = λ s means. s;
  }

  -- the same tables in other words
  pub adds_from : (P : Claim → Type 0) (a was b : Tables) → a ≡ was → Adds i kept P a b → Adds i kept P was b
  adds_from P a was b e h = subst (λ t. Adds i kept P t b) e h

  -- claims that are held already
  pub adds_held : (P : Claim → Type 0) (a : Tables) → ((claim : Claim) → P claim → Holds i kept a claim) → Adds i kept P a a
  adds_held P a held = record { grows = grows_same a; holds = held; sound = λ s means. s }

  -- the same claims in other words
  pub adds_as : (P Q : Claim → Type 0) (a b : Tables) → ((claim : Claim) → P claim → Q claim) → ((claim : Claim) → Q claim → P claim)
      → Adds i kept P a b → Adds i kept Q a b
  adds_as P Q a b to from h = record {
    grows = h.grows;
    holds = λ claim q. h.holds claim (from claim q);
    sound = λ s means. h.sound s (λ claim p. means claim (to claim p));
  }

  -- some claims after others
  pub adds_then : (P Q R : Claim → Type 0) (a b c : Tables)
      → ((claim : Claim) → R claim → P claim ⊎ Q claim) → ((claim : Claim) → P claim → R claim) → ((claim : Claim) → Q claim → R claim)
      → Adds i kept P a b → Adds i kept Q b c → Adds i kept R a c
  adds_then P Q R a b c split left right g h = record {
    grows = grows_then a b c g.grows h.grows;
    holds = λ claim r. elim (split claim r) [
      | inl p ↦ holds_on b c h.grows claim (g.holds claim p)
      | inr q ↦ h.holds claim q
    ];
    sound = λ s means. h.sound (g.sound s (λ claim p. means claim (left claim p))) (λ claim q. means claim (right claim q));
  }

  facts_split : (xs ys : List Fact) (claim : Claim) → Facts (xs ++ ys) claim → Facts xs claim ⊎ Facts ys claim
  facts_split xs ys (IsFact fact) h = Contains-append_cases xs ys fact h
  facts_split xs ys (SomeResumes slot how) h = absurd h
  facts_split xs ys (SomeWrites slot reg form) h = absurd h

  facts_left : (xs ys : List Fact) (claim : Claim) → Facts xs claim → Facts (xs ++ ys) claim
  facts_left xs ys (IsFact fact) h = Contains-append_left xs ys fact h
  facts_left xs ys (SomeResumes slot how) h = absurd h
  facts_left xs ys (SomeWrites slot reg form) h = absurd h

  facts_right : (xs ys : List Fact) (claim : Claim) → Facts ys claim → Facts (xs ++ ys) claim
  facts_right xs ys (IsFact fact) h = Contains-append_right xs ys fact h
  facts_right xs ys (SomeResumes slot how) h = absurd h
  facts_right xs ys (SomeWrites slot reg form) h = absurd h

  -- the facts of a list after those of another
  pub facts_then : (xs ys : List Fact) (a b c : Tables) → AddsFacts i kept xs a b → AddsFacts i kept ys b c → AddsFacts i kept (xs ++ ys) a c
  facts_then xs ys a b c g h =
      adds_then (Facts xs) (Facts ys) (Facts (xs ++ ys)) a b c (facts_split xs ys) (facts_left xs ys) (facts_right xs ys) g h

  no_facts : (claim : Claim) → Facts [] claim → ⊥
  no_facts (IsFact fact) h = let lt = h.1 in omega (arith, lt)
  no_facts (SomeResumes slot how) h = h
  no_facts (SomeWrites slot reg form) h = h

  pub facts_none : (a : Tables) → AddsFacts i kept [] a a
  facts_none a = adds_none (Facts []) a no_facts
