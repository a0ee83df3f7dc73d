-- Marks to which no rule adds cover all that is granted.
use Rattle.std.proofs.Common.{◌≡◌, inl, inr, ℕ, ◌<◌, true, false, ◌&&◌, List, length, Option, Some, refl, sym, ap, ◌∙◌, subst}
use Rattle.std.specs.Prelude.{option_map}
use Rattle.mm_word.specs.declared.perm.Perm.{Perm, TheVariants.{Ro, Rw, Xu, Xp, Eu, Ep, Key}}
use Rattle.mm_word.specs.declared.word.{Word.TheVariants.Ptr}
use Rattle.mm_word.specs.{Perm.{can_move, can_become, execute_form}, Pointer.{Pointer, InSegment, IsBelow, enter_result}}
use Rattle.mm_word.proofs.Below.{IsBelow-trans}
use Rattle.mm_model.specs.{Image.Image, Reach.{LoadsAt, StoresAt}, Spelling.IsImage}
use Rattle.mm_graph.specs.{declared.canonical_ptr.CanonicalPtr.CanonicalPtr, Marked.node_pointer, Summary.IsPowerless}
use Rattle.mm_graph.proofs.Segments.{powerless_loads, below-loads, below-stores, stores-loads, below-powerless, only_x}
use Rattle.mm_kernel.specs.Segments.{Segment, is_door, is_enter, meets, runs_privileged}
use Rattle.mm_kernel.specs.{Variants.IsShared, Derived.Keeps}
use Rattle.mm_kernel.specs.declared.{form.Form.{Form}, thread.{Origin.{TheVariants.Door}}}
use Rattle.mm_kernel.proofs.Segs.{below_within, outside_within}
use Rattle.mm_kernel.proofs.Values.{open_outside, open_is_user, moves_loads}
use Rattle.mm_confine.specs.declared.party.Party.{Party, TheVariants.{Group, KernelSlot}}
use Rattle.mm_confine.specs.Grants.{Granted, Line, Line.{Holds, Runs}, PassesOn, Serves}
use Rattle.mm_confine.specs.Grants.Granted.{runs_itself, runs_through, in_register, runs_by, in_cell, below, passed}
use Rattle.mm_confine.specs.Grants.Granted.{entered, served, has_exactly, lets_out, kept_for, seen, given, freed}
use Rattle.mm_confine.specs.Conduct.{HandsOn, HandsOn.{exact, carried}}
use Rattle.mm_confine.proofs.Open.{granted_is_open}
use Rattle.mm_hold.specs.declared.marks.Marks.{Marks}
use Rattle.mm_hold.specs.{Marks.Held, Conducts.{HasOrLets.{has, lets}, Sends, Gives}}
use Rattle.mm_hold.specs.Exactly.{Covered, Covered.{powerless, above}, Running, Running.{itself, through}, StoresFor}
use Rattle.mm_hold.specs.Exactly.{PassesAll, PassesAll.{by_store, by_service, by_word, by_look, by_gift, by_leave}}
use Rattle.mm_hold.specs.Exactly.{IsClosed, IsSound}

-- 1. Permissions.

abbrev form_of : Pointer → Perm → Option Pointer
form_of p v = option_map (λ perm. record p { perm = perm }) (execute_form v)

same_some : {x y : Pointer} → ◌≡◌ {A = Option Pointer} (Some x) (Some y) → x ≡ y
same_some h = cc

eu_moves : (p : Perm) → p ≡ Eu → can_move p ≡ true → ⊥
eu_moves p f h = let no : can_move Eu ≡ true = subst (λ v. can_move v ≡ true) f h in cc

-- no pointer but an enter pointer is a door
pub not_door : (kept : List Segment) (q : Pointer) → meets kept q ≡ false → is_door kept q ≡ false
unfolding is_door
not_door kept q e = by q.perm
  where
    by : (perm : Perm) → (is_enter perm && meets kept q) ≡ false
    by Eu = e
    by Ro = refl
    by Rw = refl
    by Xu = refl
    by Xp = refl
    by Ep = refl
    by Key = refl

not_door_by : (kept : List Segment) (q : Pointer) → is_enter q.perm ≡ false → is_door kept q ≡ false
unfolding is_door
not_door_by kept q e = ap (λ b. b && meets kept q) e

module _ (i : Image) (kept : List Segment) (img : IsImage i) (ks : Keeps i kept) (keys : List CanonicalPtr) (m : Marks)
    (sound : IsSound i kept keys m) (closed : IsClosed i kept keys m) where
  -- 2. What is covered.

  abbrev C : Party → Pointer → Type 0
  C x q = Covered kept keys m x q

  abbrev node : ℕ → Pointer
  node k = node_pointer keys k

  shared_by : (x : Party) (p : Pointer) → Granted i kept (Holds x p) → IsShared i kept (Ptr p)
  shared_by x p h = granted_is_open i kept x p img ks h

  -- what is narrowed from a pointer that is held is no door
  narrowed_out : (x : Party) (p q : Pointer) → Granted i kept (Holds x p) → IsBelow q p → can_move p.perm ≡ true → is_door kept q ≡ false
  narrowed_out x p q h b mv = not_door kept q (outside_within kept q p (below_within q p b) (open_outside kept p (shared_by x p h).open_word (moves_loads p.perm mv)))

  covered_below : (x : Party) (p q : Pointer) → Granted i kept (Holds x p) → C x p → IsBelow q p → C x q
  covered_below x p q h (powerless none pw) (inl e) = powerless (ap (is_door kept) e ∙ none) (below-powerless p q pw (inl e))
  covered_below x p q h (powerless none pw) (inr n) = powerless (narrowed_out x p q h (inr n) n.movable) (below-powerless p q pw (inr n))
  covered_below x p q h (above a) b = above (record { node = a.node; small = a.small; held = a.held; below = IsBelow-trans (node a.node) p q a.below b })

  passes_all : (y x : Party) (q : Pointer) → PassesAll i kept keys m y x → C y q → C x q
  passes_all y x q p (powerless none pw) = powerless none pw
  passes_all y x q p (above a) = above (record { node = a.node; small = a.small; held = closed.passes y x a.node p a.held; below = a.below })

  stores_for : (y x : Party) (p r : Pointer) (w : ℕ) → C y p → StoresAt p w → C x r → LoadsAt r w → StoresFor keys m y x
  stores_for y x p r w (powerless none pw) st h ld = absurd (powerless_loads p w pw (stores-loads p w st))
  stores_for y x p r w (above a) st (powerless none pw) ld = absurd (powerless_loads r w pw ld)
  stores_for y x p r w (above a) st (above b) ld = record {
    stored = a.node;
    loaded = b.node;
    small = (a.small, b.small);
    held = (a.held, b.held);
    word = w;
    stores = below-stores (node a.node) p w a.below st;
    loads = below-loads (node b.node) r w b.below ld;
  }

  out_by : (n : ℕ) (x : Party) (q : Pointer) → StoresFor keys m (KernelSlot n) x → C (KernelSlot n) q → {form : Form} → HandsOn q form → Sends i kept n form → C x q
  out_by n x q sf h exact s = closed.sends n q x s sf h
  out_by n x q sf h {form = g} (carried e) s = passes_all (KernelSlot n) x q (by_store (record { form = g; carried = e; is = s }) sf) h

  gift_by : (n : ℕ) (x : Party) (q : Pointer) → Serves i kept n x → C (KernelSlot n) q → {form : Form} → HandsOn q form → Gives i kept n form → C x q
  gift_by n x q sv h exact s = closed.gives n q x s sv h
  gift_by n x q sv h {form = g} (carried e) s = passes_all (KernelSlot n) x q (by_gift n sv (record { form = g; carried = e; is = s })) h

  stored_by : (y x : Party) (q : Pointer) → StoresFor keys m y x → PassesOn i kept y q → C y q → C x q
  stored_by (Group g) x q sf on h = passes_all (Group g) x q (by_store tt sf) h
  stored_by (KernelSlot n) x q sf on h = out_by n x q sf h on.hands_on (record { at = on.at; reg = on.reg; stores = on.stores })

  enters_to : (x : Party) (p q : Pointer) → C x p → p.perm ≡ Eu → is_door kept p ≡ false → enter_result p ≡ Some q → C x q
  enters_to x p q h eu none e = by h
    where
      to : Pointer
      to = record p { perm = Xu }

      same : record p { perm = Xu } ≡ q
      same = same_some (sym (ap (form_of p) eu) ∙ e)

      narrow : (k : ℕ) → (can_move (node k).perm ≡ true) → ((a : ℕ) → InSegment p a → InSegment (node k) a) → (node k).perm ≡ Xu → IsBelow q (node k)
      narrow k mv inside f = subst (λ v. IsBelow v (node k)) same (inr (record { movable = mv; inside = inside; rights = inl (sym f) }))

      by : C x p → C x q
      by (powerless out (inl key)) = let no : ◌≡◌ {A = Perm} Key Eu = sym key ∙ eu in absurd (cc)
      by (powerless out (inr s)) =
          powerless (subst (λ v. is_door kept v ≡ false) same (not_door_by kept (record p { perm = Xu }) refl))
          (subst IsPowerless same (inr (s.0, λ no. cc, λ no. cc)))
      by (above a) = elim a.below [
        | inl f ↦ closed.entries x a.node q a.small a.held (sym (ap (λ (v : Pointer). v.perm) f) ∙ eu) (sym (ap (is_door kept) f) ∙ none) (sym (ap enter_result f) ∙ e)
        | inr b ↦ elim b.rights [
          | inl f ↦ absurd (eu_moves (node a.node).perm (sym f ∙ eu) b.movable)
          | inr becomes ↦ elim (only_x (node a.node).perm (ap (can_become (node a.node).perm) (sym eu) ∙ becomes)) [
            | inl f ↦ above (record { node = a.node; small = a.small; held = a.held; below = narrow a.node b.movable b.inside f })
            | inr f ↦
                let user = open_is_user kept (node a.node) (shared_by x (node a.node) (sound x a.node a.small a.held)).open_word in
                let priv = ap runs_privileged f in
                absurd (cc)
          ]
        ]
      ]

  -- 3. All that is granted is covered.

  abbrev Fine : Line → Type 0
  Fine (Holds x q) = C x q
  Fine (Runs x from) = Running i kept keys m x from

  fine : {line : Line} → Granted i kept line → Fine line
  fine (runs_itself n e) = itself n e
  fine (runs_through g d h e) = by (fine h)
    where
      by : C (Group g) d → Running i kept keys m (Group g) (Door d)
      by (powerless none pw) = absurd (cc)
      by (above a) = through g d e a
  fine (in_register s q among caller k) = closed.registers s q among caller k
  fine (runs_by s among caller) = closed.runs s among caller
  fine (in_cell x p q w c h ld out at is) = by (fine h)
    where
      by : C x p → C x q
      by (powerless none pw) = absurd (powerless_loads p w pw ld)
      by (above a) = closed.cells x a.node w c q a.small a.held (below-loads (node a.node) p w a.below ld) out at is
  fine (below x p q h b) = covered_below x p q h (fine h) b
  fine (passed y x q p r w h on hp st hr ld) = stored_by y x q (stores_for y x p r w (fine hp) st (fine hr) ld) on (fine h)
  fine (entered x p q h eu none e) = enters_to x p q (fine h) eu none e
  fine (served h g q held s) = passes_all (Group h) (Group g) q (by_service h g s) (fine held)
  fine (has_exactly x from q t runs up same h plain) = closed.has x from q (fine runs) (has t up same h plain)
  fine (lets_out x from d runs is out) = closed.has x from d (fine runs) (lets is out)
  fine (kept_for y x from to q held runs pass to_runs) = passes_all y x q (by_word from to (fine runs) pass (fine to_runs)) (fine held)
  fine (seen n y q held sv looks) = passes_all y (KernelSlot n) q (by_look n sv looks) (fine held)
  fine (given n x q held sv gift) = gift_by n x q sv (fine held) gift.hands_on (record { reg = gift.reg; writes = gift.writes })
  fine (freed s q t among held going) = passes_all (KernelSlot s.number) (Group s.group) q (by_leave s among (t, going)) (fine held)

  pub granted_covered : (x : Party) (q : Pointer) → Granted i kept (Holds x q) → C x q
  granted_covered x q h = fine h

  -- a door that is held is that of a node
  pub door_node : (x : Party) (d : Pointer) → is_door kept d ≡ true → Granted i kept (Holds x d) → (k : ℕ) × (k < length keys) × Held m x k × (node k ≡ d)
  door_node x d e h = by (fine h)
    where
      by : C x d → (k : ℕ) × (k < length keys) × Held m x k × (node k ≡ d)
      by (powerless none pw) = absurd (cc)
      by (above a) = elim a.below [
        | inl f ↦ (a.node, a.small, a.held, sym f)
        | inr b ↦ let none = narrowed_out x (node a.node) d (sound x a.node a.small a.held) (inr b) b.movable in absurd (cc)
      ]
