-- What was noted, as the list of schedules grows; and schedules that are not final.
use Rattle.std.proofs.Common.{◌≡◌, ℕ, suc, zero, List, [], ◌∷◌, ◌++◌, Option, Some, None, slice_get}
use Rattle.std.specs.List.{AllZip}
use Rattle.mm_model.specs.Image.{Image}
use Rattle.mm_explore.specs.declared.{findings.Findings.Findings, found.Origin.Origin}
use Rattle.mm_explore.specs.{Findings.{Extension, IsFinal}, Noting.{IsFrom, IsKeptEnd, Noted, AreNoted}, Outcomes.End}
use Rattle.mm_explore.specs.Searching.{IsChild, AreChildren, IsGraph, Ended}
use Rattle.mm_explore.proofs.Selections.{select_skip}

-- what is at an index stays there
stays_at : {X : Type 0} (xs ys : List X) (k : ℕ) (x : X) → slice_get xs k ≡ Some x → slice_get (xs ++ ys) k ≡ Some x
stays_at [] ys k x e = cc
stays_at (y ∷ xs) ys zero x e = e
stays_at (y ∷ xs) ys (suc k) x e = stays_at xs ys k x e

from_more : (list more : List (List ℕ)) (x : Option Extension) (o : Option Origin) → IsFrom list x o → IsFrom (list ++ more) x o
from_more list more None None h = tt
from_more list more None (Some o) h = h
from_more list more (Some x) None h = h
from_more list more (Some x) (Some o) h = record { schedule = stays_at list more o.from x.schedule h.schedule; item = h.item }

pub noted_more : (i : Image) (list more : List (List ℕ)) (done : List Extension) (f : Findings) → Noted i list done f → Noted i (list ++ more) done f
noted_more i list more done f h = record {
  touched = h.touched;
  wrote = h.wrote;
  faults = λ slot cause. from_more list more _ _ (h.faults slot cause);
}

pub zip_to : {A B : Type 0} (R S : A → B → Type 0) → ((a : A) (b : B) → R a b → S a b) → (xs : List A) (ys : List B) → AllZip R xs ys → AllZip S xs ys
zip_to R S to [] [] h = tt
zip_to R S to [] (y ∷ ys) h = h
zip_to R S to (x ∷ xs) [] h = h
zip_to R S to (x ∷ xs) (y ∷ ys) h = (to x y h.0, zip_to R S to xs ys h.1)

pub ends_stay : (i : Image) (list more : List (List ℕ)) (ends : List End) (f : Findings) → AreNoted i list ends f → AreNoted i (list ++ more) ends f
ends_stay i list more ends f h = record {
  entries = zip_to (λ e entry. IsKeptEnd i list ends e entry.0.items entry.1) (λ e entry. IsKeptEnd i (list ++ more) ends e entry.0.items entry.1)
      (λ e entry k. record { form = k.form; count = k.count; first = stays_at list more entry.1.first.at e.schedule k.first; held = k.held }) _ f.ends.entries h.entries;
  unique = h.unique;
}

pub ended_more : (i : Image) (list more past : List (List ℕ)) (f : Findings) → Ended i list past f → Ended i (list ++ more) past f
ended_more i list more past f h = record { finals = h.finals; are = h.are; ends = h.ends; of = h.of; noted = ends_stay i list more h.ends f h.noted }

pub ended_skip : (i : Image) (list past : List (List ℕ)) (t : List ℕ) (f : Findings) → Ended i list past f → (IsFinal i t → ⊥) → Ended i list (past ++ t ∷ []) f
ended_skip i list past t f h none = record { finals = h.finals; are = select_skip (IsFinal i) past h.finals t none h.are; ends = h.ends; of = h.of; noted = h.noted }

-- where moves lead stays, as the list grows
child_more : (i : Image) (list more : List (List ℕ)) (t : List ℕ) (m c : ℕ) → IsChild i list t m c → IsChild i (list ++ more) t m c
child_more i list more t m c h = record { schedule = h.schedule; at = stays_at list more c h.schedule h.at; leads = h.leads }

pub children_more : (i : Image) (list more : List (List ℕ)) (t ms row : List ℕ) → AllZip (IsChild i list t) ms row → AllZip (IsChild i (list ++ more) t) ms row
children_more i list more t ms row h = zip_to (IsChild i list t) (IsChild i (list ++ more) t) (child_more i list more t) ms row h

pub graph_more : (i : Image) (list more past rows : List (List ℕ)) → IsGraph i list past rows → IsGraph i (list ++ more) past rows
graph_more i list more past rows h =
    zip_to (AreChildren i list) (AreChildren i (list ++ more)) (λ t row k. children_more i list more t _ row k) past rows h
