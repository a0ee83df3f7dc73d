-- The answer whether a group stands apart.
use Rattle.std.proofs.Common.{◌≡◌, ◌≢◌, inl, inr, ℕ, ◌<◌, ◌≤◌, ◌==◌, ◌||◌, Bool, true, false, not, List, [], ◌∷◌, length, Option, Some, None}
use Rattle.std.proofs.Common.{refl, sym, ap, ◌∙◌, subst, arith, eqb-true, eq-eqb}
use Rattle.std.proofs.lemmas.{Bool.{cases_lt, and_parts, and_from}, List.{get_or_default, Elements.Contains-get_or}}
use Rattle.std.specs.{Prelude.Contains, Int.bit_at, List.flat_map}
use Rattle.mm_word.specs.Pointer.{Pointer}
use Rattle.mm_model.specs.{Slot.Slot, Image.Image, Groups.among, Spelling.IsImage}
use Rattle.mm_model.specs.Audit.{Verdict.{Yes, Writer}}
use Rattle.mm_model.specs.declared.word_use.WordUse.TheVariants.{Touch, Write}
use Rattle.mm_kernel.specs.{Segments.Segment, Threads.is_kernel}
use Rattle.mm_audit.specs.declared.{handlers.Served.Served, shared_words.Meets.Meets, apart_groups.Apart.Apart}
use Rattle.mm_audit.specs.declared.apart_groups.Apart.TheVariants as answers
use Rattle.mm_audit.specs.{Meeting.{row_at, word_at}, Held.{CanUse, IsTableOf}, Answering.{IsAnswerOf, IsMaskOf}}
use Rattle.mm_audit.specs.Crossing.{IsCrossing, NoCrossing, served_at, verdict_of}
use Rattle.mm_audit.specs.Writers.{IsWord, NoneWith, IsOutside, IsWriter, NoWriter}
use Rattle.mm_confine.specs.Reach.{Reaches}
use Rattle.mm_hold.specs.{Reached.{CanTouch, CanWrite}, Apart.{Crosses, WritesIn, Judged}}
use Rattle.mm_hold.specs.Handlers.{is_by_caller, served_by_caller, served_by_callers}
use Rattle.mm_hold.proofs.{Listing.{if_in, in_if, only_in}, Reaching.reaches_small}
use Rattle.mm_span.proofs.Members.{in_flat, flat_in, in_first}

-- 1. Slots that callers serve.

abbrev one_served : Slot → Slot → Served
one_served s t = record { slot = s.number; group = s.group; by = t.group }

not_true : (b : Bool) → not b ≡ true → b ≡ false
not_true true h = cc
not_true false h = refl

module _ (i : Image) (kept : List Segment) where
  by_then : (o : Option ℕ) (n : ℕ) → is_by_caller i kept o n ≡ true → (o ≡ Some n) × (is_kernel i kept n ≡ false)
  by_then None n h = cc
  by_then (Some h) n e =
      let p = and_parts (h == n) (not (is_kernel i kept n)) e in
      (ap Some (eqb-true h n p.0), not_true (is_kernel i kept n) p.1)

  then_by : (o : Option ℕ) (n : ℕ) → o ≡ Some n → is_kernel i kept n ≡ false → is_by_caller i kept o n ≡ true
  then_by o n e out = subst (λ v. is_by_caller i kept v n ≡ true) (sym e)
      (and_from (n == n) (not (is_kernel i kept n)) (eq-eqb n n refl) (ap not out))

  module _ (list : List Served) (list_is : list ≡ served_by_callers i kept i.slots) (g : ℕ) where
    abbrev c : ℕ → Bool
    c = among (g ∷ [])

    same_side : (h : ℕ) → c h ≡ (h == g)
    same_side h = by (h == g)
      where
        by : (b : Bool) → (b || false) ≡ b
        by true = refl
        by false = refl

    record ServedFrom (x : Served) : Type 0 where
      served : Slot
      server : Slot
      one : Contains i.slots served
      other : Contains i.slots server
      handled : served.handler ≡ Some server.number
      caller : is_kernel i kept server.number ≡ false
      is : one_served served server ≡ x

    from_list : (x : Served) → Contains list x → ServedFrom x
    from_list x m =
        let f = flat_in (λ s. flat_map (served_by_caller i kept s) i.slots) i.slots x (subst (λ l. Contains l x) list_is m) in
        let k = flat_in (served_by_caller i kept f.source) i.slots x f.has in
        let p = if_in (is_by_caller i kept f.source.handler k.source.number) (one_served f.source k.source ∷ []) x k.has in
        let b = by_then f.source.handler k.source.number p.0 in
        record { served = f.source; server = k.source; one = f.inside; other = k.inside; handled = b.0; caller = b.1; is = only_in (one_served f.source k.source) x p.1 }

    to_list : (n : ℕ) (x : Crosses i kept g n) → Contains list (one_served x.served x.server)
    to_list n x =
        let y = one_served x.served x.server in
        subst (λ l. Contains l (one_served x.served x.server)) (sym list_is)
        (in_flat (λ s. flat_map (served_by_caller i kept s) i.slots) i.slots x.served (one_served x.served x.server) x.one
        (in_flat (served_by_caller i kept x.served) i.slots x.server (one_served x.served x.server) x.other
        (in_if (is_by_caller i kept x.served.handler x.server.number) (one_served x.served x.server ∷ []) (one_served x.served x.server)
        (then_by x.served.handler x.server.number x.handled x.caller) (in_first (one_served x.served x.server) []))))

    to_place : (n : ℕ) → Crosses i kept g n → (k : ℕ) × (k < length list) × IsCrossing list c k × ((served_at list k).slot ≡ n)
    to_place n x =
        let m = to_list n x in
        let is : served_at list m.0 ≡ one_served x.served x.server = get_or_default list m.0 _ (one_served x.served x.server) m.1 ∙ m.2 in (
          m.0,
          m.1,
          λ same. x.sides (sym (same_side x.served.group) ∙ ap (λ (v : Served). c v.group) (sym is) ∙ same ∙ ap (λ (v : Served). c v.by) is ∙ same_side x.server.group),
          ap (λ (v : Served). v.slot) is ∙ x.number,
        )

    from_place : (k : ℕ) → k < length list → IsCrossing list c k → Crosses i kept g (served_at list k).slot
    from_place k lt x =
        let f = from_list (served_at list k) (Contains-get_or list k _ lt) in
        record {
          served = f.served;
          server = f.server;
          one = f.one;
          other = f.other;
          number = ap (λ (v : Served). v.slot) f.is;
          handled = f.handled;
          caller = f.caller;
          sides = λ same. x (ap (λ (v : Served). c v.group) (sym f.is) ∙ same_side f.served.group ∙ same ∙ sym (same_side f.server.group) ∙ ap (λ (v : Served). c v.by) f.is);
        }

    no_cross : NoCrossing list c (length list) → (n : ℕ) → ¬ (Crosses i kept g n)
    no_cross none n x = let p = to_place n x in none p.0 p.1 p.2

    -- 2. Words.

    module _ (image : IsImage i) (table : List Meets) (t : IsTableOf (Reaches i kept) table) (mask : ℕ) (is_mask : IsMaskOf mask c) where
      small : (h : ℕ) (p : Pointer) → Reaches i kept h p → h < 64
      small = reaches_small i kept image

      write_use : (h w : ℕ) → CanWrite i kept h w → CanUse (Reaches i kept) Write h w
      write_use h w y = record { by = y.by; held = y.reached; word = y.stores.word; right = y.stores.right; covers = y.stores.covers }

      touch_use : (h w : ℕ) → CanTouch i kept h w → CanUse (Reaches i kept) Touch h w
      touch_use h w y = record { by = y.by; held = y.reached; word = y.loads.word; right = y.loads.right; covers = y.loads.covers }

      use_write : (h w : ℕ) → CanUse (Reaches i kept) Write h w → CanWrite i kept h w
      use_write h w u = record { by = u.by; reached = u.held; stores = record { word = u.word; right = u.right; covers = u.covers } }

      use_touch : (h w : ℕ) → CanUse (Reaches i kept) Touch h w → CanTouch i kept h w
      use_touch h w u = record { by = u.by; reached = u.held; loads = record { word = u.word; right = u.right; covers = u.covers } }

      inside : (h : ℕ) → bit_at mask h ≡ 1 → h ≡ g
      inside h bit = eqb-true h g (sym (same_side h) ∙ ((is_mask h).0 bit).1)

      own_bit : g < 64 → bit_at mask g ≡ 1
      own_bit lt = (is_mask g).1 (lt, same_side g ∙ eq-eqb g g refl)

      outside_to : (h : ℕ) → h ≢ g → IsOutside mask h
      outside_to h other bit = other (inside h bit)

      outside_from : (h : ℕ) → h < 64 → IsOutside mask h → h ≢ g
      outside_from h lt out same = out (subst (λ v. bit_at mask v ≡ 1) (sym same) (own_bit (subst (λ v. v < 64) same lt)))

      record WordBy (h w : ℕ) : Type 0 where
        small_one : h < 64
        outside : IsOutside mask h
        has : IsWord (row_at table h) mask 64 g
        low : word_at table h g ≤ w

      to_word : (h w : ℕ) → WritesIn i kept g h w → WordBy h w
      to_word h w x =
          let lt = small h x.writes.by x.writes.reached in
          let own = small g x.touched.by x.touched.reached in
          let has = t.each h g w (write_use h w x.writes) (touch_use g w x.touched) in
          record {
            small_one = lt;
            outside = outside_to h x.outside;
            has = record { small = own; is_in = own_bit own; has = has };
            low = (t.some h g lt own has).least w (write_use h w x.writes) (touch_use g w x.touched);
          }

      from_word : (h k : ℕ) → h < 64 → IsOutside mask h → IsWord (row_at table h) mask 64 k → WritesIn i kept g h (word_at table h k)
      from_word h k lt out x =
          let s = t.some h k lt x.small x.has in
          let same = inside k x.is_in in
          record {
            outside = outside_from h lt out;
            writes = use_write h (word_at table h k) s.writes;
            touched = subst (λ v. CanTouch i kept v (word_at table h k)) same (use_touch k (word_at table h k) s.touches);
          }

      none_writes : (h : ℕ) → (h < 64 → IsOutside mask h → NoneWith (row_at table h) mask 64) → (w : ℕ) → ¬ (WritesIn i kept g h w)
      none_writes h none w x = let y = to_word h w x in none y.small_one y.outside g y.has

      yes_judged : NoCrossing list c (length list) → NoWriter table mask → Judged i kept g Yes
      yes_judged none no_writer = (no_cross none, λ h w x. none_writes h (no_writer h) w x)

      writer_judged : (h w : ℕ) → NoCrossing list c (length list) → IsWriter table mask h w → Judged i kept g (Writer h w)
      writer_judged h w none x = (
        no_cross none,
        subst (WritesIn i kept g h) (sym x.word.is) (from_word h x.word.group x.small x.outside x.word.has),
        λ k v y. elim (cases_lt k h) [ inl less ↦ absurd (none_writes k (λ l out. x.first k less out) v y) | inr le ↦ le ],
        λ v y. let z = to_word h v y in let low = z.low in let least = x.word.least g z.has in let is = x.word.is in omega arith,
      )

    pub judged : IsImage i → (table : List Meets) → IsTableOf (Reaches i kept) table → (answer : Apart) → IsAnswerOf list table c answer → Judged i kept g (verdict_of answer)
    judged image table t answers.Yes h = yes_judged image table t h.1.mask h.1.is_mask h.0 h.1.none
    judged image table t (answers.Writer b w) h = writer_judged image table t h.1.mask h.1.is_mask b w h.0 h.1.writer
    judged image table t (answers.Handler n) l =
        (subst (Crosses i kept g) l.is (from_place l.at l.small l.crosses), λ m x. let p = to_place m x in let le = l.least p.0 p.1 p.2 in let same = p.3 in omega arith)
