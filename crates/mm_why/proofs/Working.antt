-- The work goes on.
use Rattle.std.proofs.Common.{◌≡◌, ◌≢◌, ℕ, ◌<◌, ◌≤◌, ◌⊎◌, inl, inr, List, length, slice_set, Option, Some, None, refl}
use Rattle.std.proofs.Common.{sym, ap, ◌∙◌, subst, arith}
use Rattle.std.proofs.lemmas.{Bool.cases_lt, List.{get_or-set_same, get_or-set_other, length-set}}
use Rattle.mm_word.specs.Pointer.{Pointer}
use Rattle.mm_model.specs.Image.{Image}
use Rattle.mm_graph.specs.declared.graph.Graph.{Graph}
use Rattle.mm_why.specs.declared.{line.Line.Line, search.NodeLines.NodeLines, work.Workspace.Workspace}
use Rattle.mm_why.specs.{Derivations.{line_at, Says, Follows}, Traces.{Extends, Adds}, Searches.AtNode}
use Rattle.mm_why.specs.{Graphs.{HasNoLine, IsSearch}, Works.{search_at, IsKnown, IsSearched, IsWork, GoesOn}}
use Rattle.mm_why.proofs.{Growing.extends_trans, Pruning.same_or_before, Searching.{Which, which, Which.{same, other}}}

pub goes_nowhere : (i : Image) (g : Graph) (w : Workspace) → IsWork i g w → GoesOn i g w w
goes_nowhere i g w is = record { work = is; lines = record { len = omega arith; same = λ k lt. refl }; known = λ h k. k }

pub goes_trans : (i : Image) (g : Graph) (a b c : Workspace) → GoesOn i g a b → GoesOn i g b c → GoesOn i g a c
goes_trans i g a b c x y = record {
  work = y.work;
  lines = extends_trans a.lines.items b.lines.items c.lines.items x.lines y.lines;
  known = λ h k. y.known h (x.known h k);
}

pub says_on : (i : Image) (g : Graph) (a b : Workspace) (k h : ℕ) (p : Pointer) → GoesOn i g a b → Says a.lines.items (length a.lines.items) k h p → Says b.lines.items (length b.lines.items) k h p
says_on i g a b k h p x s =
    let e = x.lines.same k s.earlier in
    record {
      earlier = let l = x.lines.len in let lt = s.earlier in omega (arith, l, lt);
      group = ap (λ v. v.group) e ∙ s.group;
      pointer = ap (λ v. v.pointer) e ∙ s.pointer;
    }

pub searched_more : (g : Graph) (old new : List Line) (h : ℕ) (places : List (Option ℕ)) → Extends old new → IsSearched g old h places → IsSearched g new h places
searched_more g old new h places x s = record {
  len = s.len;
  placed = λ k t e.
      let p = s.placed k t e in
      let is = x.same t p.0 in
      (let l = x.len in let lt = p.0 in omega (arith, l, lt), ap (λ v. v.group) is ∙ p.1, subst (λ v. AtNode g.keys.items k v.pointer) (sym is) p.2);
  each = s.each;
}

-- a group that was not searched has no line
pub no_line : (i : Image) (g : Graph) (w : Workspace) (group : ℕ) → IsWork i g w → search_at w.searches.items group ≡ None → HasNoLine w.lines.items group
no_line i g w group h none t lt e =
    let k = h.owned t lt in
    let bad = sym none ∙ ap (search_at w.searches.items) (sym e) ∙ k.1 in
    cc

-- a group was searched
module _ (i : Image) (g : Graph) (old new : Workspace) (group : ℕ) (found : NodeLines) (h : IsWork i g old) (small : group < 64) (none : search_at old.searches.items group ≡ None)
    (s : IsSearch i g group old.lines.items new.lines.items found.lines.items) (is : new.searches.items ≡ slice_set old.searches.items group (Some found)) where
  inside : group < length old.searches.items
  inside = let l = h.len in omega (arith, l, small)

  here : search_at new.searches.items group ≡ Some found
  here = ap (λ v. search_at v group) is ∙ get_or-set_same old.searches.items group (Some found) None inside

  there : (n : ℕ) → n ≢ group → search_at new.searches.items n ≡ search_at old.searches.items n
  there n ne = ap (λ v. search_at v n) is ∙ get_or-set_other old.searches.items group n (Some found) None ne

  pub now_known : IsKnown new group
  now_known = (found, here)

  still : (n : ℕ) → IsKnown old n → IsKnown new n
  still n k = elim (which group n) [ same e ↦ subst (IsKnown new) (sym e) now_known | other ne ↦ (k.0, there n ne ∙ k.1) ]

  known : (n : ℕ) (x : NodeLines) → Which group n → search_at new.searches.items n ≡ Some x → IsSearched g new.lines.items n x.lines.items
  known n x (same e) k =
      let one : found ≡ x = of_some found x (sym here ∙ ap (search_at new.searches.items) (sym e) ∙ k) in
      subst (λ v. IsSearched g new.lines.items v x.lines.items) (sym e)
      (subst (λ v. IsSearched g new.lines.items group v.lines.items) one (record { len = s.len; placed = s.placed; each = s.each }))
    where
      of_some : (a b : NodeLines) → ◌≡◌ {A = Option NodeLines} (Some a) (Some b) → a ≡ b
      of_some a b x = cc
  known n x (other ne) k = searched_more g old.lines.items new.lines.items n x.lines.items s.extends (h.known n x (sym (there n ne) ∙ k))

  pub searched_on : GoesOn i g old new
  searched_on = record {
    work = record {
      trace = s.trace;
      len = ap length is ∙ length-set old.searches.items group (Some found) ∙ h.len;
      known = λ n x k. known n x (which group n) k;
      owned = λ t lt. owner t lt (cases_lt t (length old.lines.items));
    };
    lines = s.extends;
    known = still;
  }
    where
      owner : (t : ℕ) → t < length new.lines.items → (t < length old.lines.items) ⊎ (length old.lines.items ≤ t) → IsKnown new (line_at new.lines.items t).group
      owner t lt (inl before) = subst (IsKnown new) (ap (λ v. v.group) (sym (s.extends.same t before))) (still (line_at old.lines.items t).group (h.owned t before))
      owner t lt (inr after) = subst (IsKnown new) (sym (s.only t after lt)) now_known

-- a line was added
pub added_on : (i : Image) (g : Graph) (old new : Workspace) (line : Line) (place : ℕ) → IsWork i g old → IsKnown old line.group
    → Follows i old.lines.items (length old.lines.items) line.group line.pointer line.rule → Adds old.lines.items line new.lines.items place
    → new.searches.items ≡ old.searches.items → GoesOn i g old new × Says new.lines.items (length new.lines.items) place line.group line.pointer
added_on i g old new line place h k follows a is = (
  record {
    work = record {
      trace = a.keeps i h.trace follows;
      len = ap length is ∙ h.len;
      known = λ n x e. searched_more g old.lines.items new.lines.items n x.lines.items a.extends (h.known n x (ap (λ v. search_at v n) (sym is) ∙ e));
      owned = λ t lt. owner t (same_or_before t (length old.lines.items) (let l = a.len in omega (arith, l, lt)));
    };
    lines = a.extends;
    known = still;
  },
  a.says,
)
  where
    still : (n : ℕ) → IsKnown old n → IsKnown new n
    still n x = (x.0, ap (λ v. search_at v n) is ∙ x.1)

    owner : (t : ℕ) → (t ≡ length old.lines.items) ⊎ (t < length old.lines.items) → IsKnown new (line_at new.lines.items t).group
    owner t (inl e) = subst (IsKnown new) (sym (ap (λ v. (line_at new.lines.items v).group) (e ∙ sym a.at) ∙ ap (λ v. v.group) a.is)) (still line.group k)
    owner t (inr before) = subst (IsKnown new) (ap (λ v. v.group) (sym (a.extends.same t before))) (still (line_at old.lines.items t).group (h.owned t before))
