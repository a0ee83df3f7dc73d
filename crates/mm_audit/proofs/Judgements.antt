-- An answer is the verdict.
use Rattle.std.proofs.Common.{◌≡◌, ℕ, ◌<◌, ◌≤◌, ◌↔◌, inl, inr, Bool, true, false, if◌then◌else◌, List, [], ◌∷◌, length}
use Rattle.std.proofs.Common.{Option, Some, refl, sym, ap, ◌∙◌, subst, arith, eq-eqb}
use Rattle.std.proofs.lemmas.{Bool.cases_lt, List.{get_or_default, Elements.Contains-get_or}}
use Rattle.std.specs.{Int.bit_at, List.{Contains, flat_map}}
use Rattle.mm_model.specs.{Slot.Slot, Image.Image, Turn.is_handler, Spelling.IsImage, Reach.Entries}
use Rattle.mm_model.{specs.Audit.{Crosses, Writes, Judged, Verdict.{Yes, Handler, Writer}}, proofs.CoreSteps.handler_is}
use Rattle.mm_graph.proofs.{KeyLists.{contains_here, contains_cases}, Cells.{in_flat_map, from_flat_map}}
use Rattle.mm_audit.specs.{declared.{handlers.Served.Served, shared_words.Meets.Meets}, Meeting.{row_at, word_at}}
use Rattle.mm_audit.specs.{Surveys.IsLeastTable, Serving.{served_by, served_of}}
use Rattle.mm_audit.specs.Crossing.{IsCrossing, LeastCrossing, NoCrossing, served_at}
use Rattle.mm_audit.{specs.Writers.{IsWord, NoneWith, IsOutside, IsWriter, NoWriter}, proofs.Granted.granted-small}

-- 1. Slots and their handlers.

is_then : (n : ℕ) (o : Option ℕ) → o ≡ Some n → is_handler n o ≡ true
is_then n o e = ap (is_handler n) e ∙ eq-eqb n n refl

abbrev one_served : Slot → Slot → Served
one_served s t = record { slot = s.number; group = s.group; by = t.group }

pub served_in : (slots : List Slot) (s t : Slot) → Contains slots s → Contains slots t → s.handler ≡ Some t.number → Contains (served_of slots) (one_served s t)
served_in slots s t ms mt e =
    in_flat_map (λ u. flat_map (served_by u) slots) slots s (one_served s t) ms
    (in_flat_map (served_by s) slots t (one_served s t) mt
    (subst (λ b. Contains (if b then one_served s t ∷ [] else []) (one_served s t))
    (sym (is_then t.number s.handler e)) (contains_here (one_served s t) [])))

record ServedFrom (slots : List Slot) (x : Served) : Type 0 where
  served : Slot
  server : Slot
  one : Contains slots served
  other : Contains slots server
  handled : served.handler ≡ Some server.number
  is : x ≡ one_served served server

from_served : (slots : List Slot) (x : Served) → Contains (served_of slots) x → ServedFrom slots x
from_served slots x m =
    let f = from_flat_map (λ u. flat_map (served_by u) slots) slots x m in
    let g = from_flat_map (served_by f.from) slots x f.part in
    at f.from g.from f.is_in g.is_in (is_handler g.from.number f.from.handler) refl g.part
  where
    at : (s t : Slot) → Contains slots s → Contains slots t → (b : Bool) → is_handler t.number s.handler ≡ b → Contains (if b then one_served s t ∷ [] else []) x → ServedFrom slots x
    at s t ms mt false e c = absurd (let lt = c.1 in omega arith)
    at s t ms mt true e c = record { served = s; server = t; one = ms; other = mt; handled = handler_is t.number s.handler e; is = only c }
      where
        only : Contains (one_served s t ∷ []) x → x ≡ one_served s t
        only c2 = elim (contains_cases (one_served s t) x [] c2) [ inl same ↦ sym same | inr no_one ↦ absurd (let lt = no_one.1 in omega arith) ]

module _ (i : Image) (e : Entries) (image : IsImage i) (list : List Served) (list_is : list ≡ served_of i.slots) (c : ℕ → Bool) where
  -- a slot that crosses stands in the list, and the other way round
  to_place : (n : ℕ) → Crosses i c n → (k : ℕ) × (k < length list) × IsCrossing list c k × ((served_at list k).slot ≡ n)
  to_place n x =
      let m = subst (λ v. Contains v (one_served x.served x.server)) (sym list_is) (served_in i.slots x.served x.server x.one x.other x.handled) in
      let is : served_at list m.0 ≡ one_served x.served x.server = get_or_default list m.0 _ (one_served x.served x.server) m.1 ∙ m.2 in
      (m.0, m.1, λ same. x.sides (ap (λ (v : Served). c v.group) (sym is) ∙ same ∙ ap (λ (v : Served). c v.by) is), ap (λ (v : Served). v.slot) is ∙ x.number)

  from_place : (k : ℕ) → k < length list → IsCrossing list c k → Crosses i c (served_at list k).slot
  from_place k lt x =
      let m : Contains (served_of i.slots) (served_at list k) = subst (λ v. Contains v (served_at list k)) list_is (Contains-get_or list k _ lt) in
      let f = from_served i.slots (served_at list k) m in
      record {
        served = f.served;
        server = f.server;
        one = f.one;
        other = f.other;
        number = ap (λ (v : Served). v.slot) (sym f.is);
        handled = f.handled;
        sides = λ same. x (ap (λ (v : Served). c v.group) f.is ∙ same ∙ ap (λ (v : Served). c v.by) (sym f.is));
      }

  pub handler_judged : (n : ℕ) → LeastCrossing list c (length list) n → Judged i e c (Handler n)
  handler_judged n l =
      (subst (Crosses i c) l.is (from_place l.at l.small l.crosses), λ m x. let p = to_place m x in let le = l.least p.0 p.1 p.2 in let same = p.3 in omega arith)

  no_cross : NoCrossing list c (length list) → (n : ℕ) → ¬ (Crosses i c n)
  no_cross none n x = let p = to_place n x in none p.0 p.1 p.2

  -- 2. Words.

  module _ (mask : ℕ) (is_mask : (g : ℕ) → (bit_at mask g ≡ 1) ↔ ((g < 64) × (c g ≡ true))) (table : List Meets) (t : IsLeastTable i e table) where
    outside_from : (h : ℕ) → h < 64 → IsOutside mask h → c h ≡ false
    outside_from h lt out = at (c h) refl
      where
        at : (b : Bool) → c h ≡ b → b ≡ false
        at true e2 = absurd (out ((is_mask h).1 (lt, e2)))
        at false e2 = refl

    outside_to : (h : ℕ) → c h ≡ false → IsOutside mask h
    outside_to h e2 bit = let two = (is_mask h).0 bit in let no_way : ◌≡◌ {A = Bool} true false = sym two.1 ∙ e2 in cc

    -- a row has a word with a group inside, and none before it
    record WordBy (h w : ℕ) : Type 0 where
      group : ℕ
      small : h < 64
      outside : IsOutside mask h
      has : IsWord (row_at table h) mask 64 group
      low : word_at table h group ≤ w

    to_word : (h w : ℕ) → Writes i e c h w → WordBy h w
    to_word h w x =
        let y = x.touched in
        let lt = granted-small i e image h x.writes.by x.writes.granted in
        let small = granted-small i e image y.group y.touches.by y.touches.granted in
        let has = t.each h y.group w x.writes y.touches in
        record {
          group = y.group;
          small = lt;
          outside = outside_to h x.outside;
          has = record { small = small; is_in = (is_mask y.group).1 (small, y.member); has = has };
          low = (t.some h y.group lt small has).least w x.writes y.touches;
        }

    from_word : (h g : ℕ) → h < 64 → IsOutside mask h → IsWord (row_at table h) mask 64 g → Writes i e c h (word_at table h g)
    from_word h g lt out x =
        let s = t.some h g lt x.small x.has in
        record { outside = outside_from h lt out; writes = s.writes; touched = record { group = g; member = ((is_mask g).0 x.is_in).1; touches = s.touches } }

    none_writes : (h : ℕ) → (h < 64 → IsOutside mask h → NoneWith (row_at table h) mask 64) → (w : ℕ) → ¬ (Writes i e c h w)
    none_writes h none w x = let y = to_word h w x in none y.small y.outside y.group y.has

    pub yes_judged : NoCrossing list c (length list) → NoWriter table mask → Judged i e c Yes
    yes_judged none no_writer = record {
      writes = λ h w out wr touched. none_writes h (no_writer h) w (record { outside = out; writes = wr; touched = touched });
      handlers = λ s h ms mh e2. same s h ms mh e2 (c s.group) refl (c h.group) refl;
    }
      where
        same : (s h : Slot) → Contains i.slots s → Contains i.slots h → s.handler ≡ Some h.number → (b : Bool) → c s.group ≡ b → (d : Bool) → c h.group ≡ d → c s.group ≡ c h.group
        same s h ms mh e2 true p true q = p ∙ sym q
        same s h ms mh e2 false p false q = p ∙ sym q
        same s h ms mh e2 true p false q = absurd
            (no_cross none s.number (record {
              served = s;
              server = h;
              one = ms;
              other = mh;
              number = refl;
              handled = e2;
              sides = λ z. let no_way : ◌≡◌ {A = Bool} true false = sym p ∙ z ∙ q in cc;
            }))
        same s h ms mh e2 false p true q = absurd
            (no_cross none s.number (record {
              served = s;
              server = h;
              one = ms;
              other = mh;
              number = refl;
              handled = e2;
              sides = λ z. let no_way : ◌≡◌ {A = Bool} false true = sym p ∙ z ∙ q in cc;
            }))

    pub writer_judged : (h w : ℕ) → NoCrossing list c (length list) → IsWriter table mask h w → Judged i e c (Writer h w)
    writer_judged h w none x = (
      no_cross none,
      subst (Writes i e c h) (sym x.word.is) (from_word h x.word.group x.small x.outside x.word.has),
      λ k v y. elim (cases_lt k h) [ inl less ↦ absurd (none_writes k (λ l out. x.first k less out) v y) | inr le ↦ le ],
      λ v y. let z = to_word h v y in let low = z.low in let least = x.word.least z.group z.has in omega arith,
    )
