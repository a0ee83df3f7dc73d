-- The parts that threads use, and the words that these cover.
use Rattle.std.proofs.Common.{◌≡◌, ◌⊎◌, inl, inr, ℕ, ◌+◌, ◌/◌, ◌%◌, ◌<◌, Bool, true, false, ◌||◌, List, [], ◌∷◌, ◌++◌, length, take, get_or}
use Rattle.std.proofs.Common.{refl, sym, ap, ◌∙◌, subst, arith, eqb-true, eq-eqb}
use Rattle.std.specs.{Prelude.{Contains, ◌↔◌}, BTreeSet.insert_key}
use Rattle.mm_model.specs.Image.{Image}
use Rattle.mm_model.proofs.Memories.{aligned}
use Rattle.mm_kernel.specs.Segments.{Segment, lies_in}
use Rattle.mm_kernel.specs.declared.{form.Form.Form, outcome.Outcome.Outcome, thread.{Origin.Origin, Thread.Thread}}
use Rattle.mm_kernel.specs.{Facts.Fact.HasThread, Turns.outcomes}
use Rattle.mm_kernel.specs.{Derived.Fetches, Uses.{LoadsFrom, StoresTo, SetsBit, IsUsed, Reads, Writes}}
use Rattle.mm_kernel.specs.Uses.{Reads.{fetched as word_fetched, loaded as word_loaded}, Writes.{stored as word_stored, set as word_set}}
use Rattle.mm_keep.specs.{Claims.Tables, Searching.IsExact}
use Rattle.mm_span.proofs.Members.{none_in, in_first, in_rest, in_cases}
use Rattle.mm_keep_text.specs.Parts.{AreAll, origin_numbers, origin_from, Use, order, IsLoad, IsStore, SomeIs, IsFetch}
use Rattle.mm_keep_text.specs.Parts.{ReadsPart, ReadsPart.{fetched, loaded}, WritesPart, WritesPart.{stored, set}}
use Rattle.mm_keep_text.specs.Parts.{UsedBy, SomeUses, IsHeld, covers, IsIn}
use Rattle.mm_keep_text.proofs.Sets.{use_added, all_as, all_same, all_then, all_more, take_item, got_old, got_new, got_cases}
use Rattle.mm_kernel.specs.declared.outcome.Outcome.TheVariants as outcome

-- 1. Outcomes.

-- the use of an origin
same_use : (o : ℕ × ℕ) (part : Segment) (u : Use) → u.0 ≡ o → part ≡ u.1 → ◌≡◌ {A = Use} (o, part) u
same_use o part u e f = λ j. (sym e j, f j)

pub load_added : (old : List Use) (o : ℕ × ℕ) (part : Segment) (reg : ℕ) (next : Thread) (x : Outcome) → x ≡ outcome.Loads part reg next
    → AreAll (λ (u : Use). Contains old u ⊎ ((u.0 ≡ o) × IsLoad x u.1)) (insert_key order old (o, part))
load_added old o part reg next x is =
    all_as (λ u. Contains old u ⊎ ((o, part) ≡ u)) (λ u. Contains old u ⊎ ((u.0 ≡ o) × IsLoad x u.1)) (insert_key order old (o, part))
    (λ u h. elim h [
      | inl there ↦ inl there
      | inr e ↦ inr (ap (λ (v : Use). v.0) (sym e), record { reg = reg; next = next; is = is ∙ ap (λ (v : Use). outcome.Loads v.1 reg next) e })
    ])
    (λ u h. elim h [
      | inl there ↦ inl there
      | inr own ↦
          let there = own.1.is in
          let same : outcome.Loads part reg next ≡ outcome.Loads u.1 own.1.reg own.1.next = sym is ∙ there in
          let parts : part ≡ u.1 = cc in
          inr (same_use o part u own.0 parts)
    ])
    (use_added old (o, part))

pub store_added : (old : List Use) (o : ℕ × ℕ) (part : Segment) (form : Form) (x : Outcome) → x ≡ outcome.Stores part form
    → AreAll (λ (u : Use). Contains old u ⊎ ((u.0 ≡ o) × IsStore x u.1)) (insert_key order old (o, part))
store_added old o part form x is =
    all_as (λ u. Contains old u ⊎ ((o, part) ≡ u)) (λ u. Contains old u ⊎ ((u.0 ≡ o) × IsStore x u.1)) (insert_key order old (o, part))
    (λ u h. elim h [
      | inl there ↦ inl there
      | inr e ↦ inr (ap (λ (v : Use). v.0) (sym e), record { form = form; is = is ∙ ap (λ (v : Use). outcome.Stores v.1 form) e })
    ])
    (λ u h. elim h [
      | inl there ↦ inl there
      | inr own ↦
          let there = own.1.is in
          let same : outcome.Stores part form ≡ outcome.Stores u.1 own.1.form = sym is ∙ there in
          let parts : part ≡ u.1 = cc in
          inr (same_use o part u own.0 parts)
    ])
    (use_added old (o, part))

-- a turn fetches one word
pub one_fetch : (t : Thread) (v w : ℕ) → Fetches t v → Fetches t w → v ≡ w
one_fetch t v w a b = let x = a.checked in let y = b.checked in let m = a.at in let n = b.at in cc

pub fetch_used : (old : List Use) (o : ℕ × ℕ) (t : Thread) (w : ℕ) → Fetches t w → w % 8 ≡ 0
    → AreAll (λ (u : Use). Contains old u ⊎ ((u.0 ≡ o) × IsFetch t u.1)) (insert_key order old (o, (w, 3)))
fetch_used old o t w f even =
    all_as (λ u. Contains old u ⊎ ((o, (w, 3)) ≡ u)) (λ u. Contains old u ⊎ ((u.0 ≡ o) × IsFetch t u.1)) (insert_key order old (o, (w, 3)))
    (λ u h. elim h [
      | inl there ↦ inl there
      | inr e ↦ inr (ap (λ (v : Use). v.0) (sym e), record { word = w; fetches = f; aligned = even; is = ap (λ (v : Use). v.1) (sym e) })
    ])
    (λ u h. elim h [
      | inl there ↦ inl there
      | inr own ↦ inr (same_use o (w, 3) u own.0 (ap (λ (v : ℕ). (v, 3)) (one_fetch t w own.1.word f own.1.fetches) ∙ sym own.1.is))
    ])
    (use_added old (o, (w, 3)))

-- nothing is used in this way
pub none_added : (P : Segment → Type 0) (old : List Use) (o : ℕ × ℕ) → ((part : Segment) → P part → ⊥)
    → AreAll (λ (u : Use). Contains old u ⊎ ((u.0 ≡ o) × P u.1)) old
none_added P old o none = all_same (λ (u : Use). (u.0 ≡ o) × P u.1) old (λ u h. none u.1 h.1)

-- one outcome more
pub outcome_more : (uses : Outcome → Segment → Type 0) (o : ℕ × ℕ) (old mid new : List Use) (os : List Outcome) (i : ℕ) (x : Outcome)
    → i < length os → x ≡ get_or os i x
    → AreAll (λ (u : Use). Contains old u ⊎ ((u.0 ≡ o) × SomeIs uses (take i os) u.1)) mid
    → AreAll (λ (u : Use). Contains mid u ⊎ ((u.0 ≡ o) × uses x u.1)) new
    → AreAll (λ (u : Use). Contains old u ⊎ ((u.0 ≡ o) × SomeIs uses (take (i + 1) os) u.1)) new
outcome_more uses o old mid new os i x inside at h k =
    let more = take_item os i x inside at in
    all_then (λ (u : Use). (u.0 ≡ o) × SomeIs uses (take i os) u.1) (λ (u : Use). (u.0 ≡ o) × uses x u.1)
    (λ (u : Use). (u.0 ≡ o) × SomeIs uses (take (i + 1) os) u.1) old mid new
    (λ u p. (p.0, record { outcome = p.1.outcome; inside = got_old (take i os) (take (i + 1) os) x more p.1.outcome p.1.inside; is = p.1.is }))
    (λ u q. (q.0, record { outcome = x; inside = got_new (take i os) (take (i + 1) os) x more; is = q.1 }))
    (λ u r. elim (got_cases (take i os) (take (i + 1) os) x more r.1.outcome r.1.inside) [
      | inl before ↦ inl (r.0, record { outcome = r.1.outcome; inside = before; is = r.1.is })
      | inr e ↦ inr (r.0, subst (λ y. uses y u.1) (sym e) r.1.is)
    ])
    h k

-- loads of a turn whose instruction sets bits
pub settings : (P : Type 0) (old new : List Use) (o : ℕ × ℕ) (os : List Outcome) → P
    → AreAll (λ (u : Use). Contains old u ⊎ ((u.0 ≡ o) × SomeIs IsLoad os u.1)) new
    → AreAll (λ (u : Use). Contains old u ⊎ ((u.0 ≡ o) × P × SomeIs IsLoad os u.1)) new
settings P old new o os p h =
    all_as (λ (u : Use). Contains old u ⊎ ((u.0 ≡ o) × SomeIs IsLoad os u.1)) (λ (u : Use). Contains old u ⊎ ((u.0 ≡ o) × P × SomeIs IsLoad os u.1)) new
    (λ u k. elim k [ inl there ↦ inl there | inr own ↦ inr (own.0, p, own.1) ])
    (λ u k. elim k [ inl there ↦ inl there | inr own ↦ inr (own.0, own.2) ])
    h

-- 2. Turns.

module _ (i : Image) (kept : List Segment) (t : Thread) (os : List Outcome) (all : os ≡ outcomes i kept t) where
  loads_to : (part : Segment) → SomeIs IsLoad os part → LoadsFrom i kept t part
  loads_to part h = record {
    reg = h.is.reg;
    next = h.is.next;
    comes = subst (λ l. Contains l (outcome.Loads part h.is.reg h.is.next)) all (subst (Contains os) h.is.is h.inside);
  }

  loads_back : (part : Segment) → LoadsFrom i kept t part → SomeIs IsLoad os part
  loads_back part h = record {
    outcome = outcome.Loads part h.reg h.next;
    inside = subst (λ l. Contains l (outcome.Loads part h.reg h.next)) (sym all) h.comes;
    is = record { reg = h.reg; next = h.next; is = refl };
  }

  stores_to : (part : Segment) → SomeIs IsStore os part → StoresTo i kept t part
  stores_to part h = record {
    form = h.is.form;
    comes = subst (λ l. Contains l (outcome.Stores part h.is.form)) all (subst (Contains os) h.is.is h.inside);
  }

  stores_back : (part : Segment) → StoresTo i kept t part → SomeIs IsStore os part
  stores_back part h = record {
    outcome = outcome.Stores part h.form;
    inside = subst (λ l. Contains l (outcome.Stores part h.form)) (sym all) h.comes;
    is = record { form = h.form; is = refl };
  }

  module _ (o : ℕ × ℕ) (numbers : o ≡ origin_numbers t.origin) (again : origin_from o ≡ t.origin) where
    used_by : (uses : Thread → Segment → Type 0) (u : Use) → u.0 ≡ o → uses t u.1 → UsedBy uses t u
    used_by uses u e h = record { numbers = sym numbers ∙ sym e; origin = ap origin_from e ∙ again; part = h }

    own : (u : Use) → origin_numbers t.origin ≡ u.0 → u.0 ≡ o
    own u e = sym e ∙ sym numbers

    reads_cases : (u : Use) → u.0 ≡ o → ReadsPart i kept t u.1 → ((u.0 ≡ o) × IsFetch t u.1) ⊎ ((u.0 ≡ o) × SomeIs IsLoad os u.1)
    reads_cases u e (fetched f) = inl (e, f)
    reads_cases u e (loaded l) = inr (e, loads_back u.1 l)

    pub reads_all : (old mid new : List Use) → AreAll (λ (u : Use). Contains old u ⊎ ((u.0 ≡ o) × IsFetch t u.1)) mid
        → AreAll (λ (u : Use). Contains mid u ⊎ ((u.0 ≡ o) × SomeIs IsLoad os u.1)) new
        → AreAll (λ (u : Use). Contains old u ⊎ UsedBy (ReadsPart i kept) t u) new
    reads_all old mid new h k =
        all_then (λ (u : Use). (u.0 ≡ o) × IsFetch t u.1) (λ (u : Use). (u.0 ≡ o) × SomeIs IsLoad os u.1) (UsedBy (ReadsPart i kept) t) old mid new
        (λ u p. used_by (ReadsPart i kept) u p.0 (fetched p.1))
        (λ u q. used_by (ReadsPart i kept) u q.0 (loaded (loads_to u.1 q.1)))
        (λ u r. reads_cases u (own u r.numbers) r.part)
        h k

    writes_cases : (u : Use) → u.0 ≡ o → WritesPart i kept t u.1
        → ((u.0 ≡ o) × SetsBit i t × SomeIs IsLoad os u.1) ⊎ ((u.0 ≡ o) × SomeIs IsStore os u.1)
    writes_cases u e (stored s) = inr (e, stores_back u.1 s)
    writes_cases u e (set s l) = inl (e, s, loads_back u.1 l)

    pub writes_all : (old mid new : List Use)
        → AreAll (λ (u : Use). Contains old u ⊎ ((u.0 ≡ o) × SetsBit i t × SomeIs IsLoad os u.1)) mid
        → AreAll (λ (u : Use). Contains mid u ⊎ ((u.0 ≡ o) × SomeIs IsStore os u.1)) new
        → AreAll (λ (u : Use). Contains old u ⊎ UsedBy (WritesPart i kept) t u) new
    writes_all old mid new h k =
        all_then (λ (u : Use). (u.0 ≡ o) × SetsBit i t × SomeIs IsLoad os u.1) (λ (u : Use). (u.0 ≡ o) × SomeIs IsStore os u.1)
        (UsedBy (WritesPart i kept) t) old mid new
        (λ u p. used_by (WritesPart i kept) u p.0 (set p.1 (loads_to u.1 p.2)))
        (λ u q. used_by (WritesPart i kept) u q.0 (stored (stores_to u.1 q.1)))
        (λ u r. writes_cases u (own u r.numbers) r.part)
        h k

-- one thread more
pub thread_more : (uses : Thread → Segment → Type 0) (ts more : List Thread) (t : Thread) (b c : List Use) → more ≡ ts ++ t ∷ []
    → AreAll (SomeUses uses ts) b → AreAll (λ (u : Use). Contains b u ⊎ UsedBy uses t u) c → AreAll (SomeUses uses more) c
thread_more uses ts more t b c is h k =
    all_more (SomeUses uses ts) (UsedBy uses t) (SomeUses uses more) b c
    (λ u p. record { thread = p.thread; inside = got_old ts more t is p.thread p.inside; used = p.used })
    (λ u q. record { thread = t; inside = got_new ts more t is; used = q })
    (λ u r. elim (got_cases ts more t is r.thread r.inside) [
      | inl before ↦ inl (record { thread = r.thread; inside = before; used = r.used })
      | inr e ↦ inr (subst (λ x. UsedBy uses x u) (sym e) r.used)
    ])
    h k

-- 3. Words that parts cover.

pub record Covering (parts : List Segment) (w : ℕ) : Type 0 where
  pub part : Segment
  pub inside : Contains parts part
  pub lies : lies_in w part ≡ true

covering : (parts : List Segment) (w : ℕ) → covers parts w ≡ true → Covering parts w
covering [] w h = cc
covering (part ∷ parts) w h = by (covering parts w) (lies_in w part) refl h
  where
    by : (covers parts w ≡ true → Covering parts w) → (b : Bool) → lies_in w part ≡ b → (b || covers parts w) ≡ true
        → Covering (part ∷ parts) w
    by rest true e later = record { part = part; inside = in_first part parts; lies = e }
    by rest false e later =
        let one = rest later in
        record { part = one.part; inside = in_rest part parts one.part one.inside; lies = one.lies }

covered : (parts : List Segment) (part : Segment) (w : ℕ) → Contains parts part → lies_in w part ≡ true → covers parts w ≡ true
covered [] part w there lies = absurd (none_in part there)
covered (p ∷ parts) part w there lies = by (λ later. covered parts part w later lies) (lies_in w p) refl (in_cases p parts part there)
  where
    by : (Contains parts part → covers parts w ≡ true) → (b : Bool) → lies_in w p ≡ b → (p ≡ part) ⊎ Contains parts part
        → (b || covers parts w) ≡ true
    by rest true e cases = refl
    by rest false e (inl here) = let yes : lies_in w p ≡ true = ap (lies_in w) here ∙ lies in cc
    by rest false e (inr later) = rest later

-- a use of a part is one of the words in it
pub record Uses (i : Image) (kept : List Segment) (uses : Thread → Segment → Type 0) (of_word : Image → List Segment → Thread → ℕ → Type 0) : Type 0 where
  pub to : (t : Thread) (part : Segment) (w : ℕ) → w % 8 ≡ 0 → uses t part → lies_in w part ≡ true → of_word i kept t w
  pub back : (t : Thread) (w : ℕ) → w % 8 ≡ 0 → of_word i kept t w → (part : Segment) × uses t part × (lies_in w part ≡ true)

module _ (i : Image) (kept : List Segment) (tables : Tables) (exact : IsExact i kept tables) (from : Origin) (o : ℕ × ℕ)
    (numbers : o ≡ origin_numbers from) (again : origin_from o ≡ from) (words : List ℕ) (held : AreAll (IsHeld i kept) words)
    (uses : Thread → Segment → Type 0) (of_word : Image → List Segment → Thread → ℕ → Type 0) (say : Uses i kept uses of_word)
    (keys : List Use) (all : AreAll (SomeUses uses tables.threads) keys)
    (parts : List Segment) (own : (part : Segment) → Contains parts part ↔ Contains keys (o, part)) where
  pub used_to : (w : ℕ) → IsIn words parts w → IsUsed of_word i kept from w
  used_to w h =
      let here = (held.each w).0 h.word in
      let one = covering parts w h.covered in
      let some = (all.each (o, one.part)).0 ((own one.part).0 one.inside) in
      record {
        cell = here.cell;
        at = here.at;
        of_kept = here.of_kept;
        thread = some.thread;
        derived = exact.sound (HasThread some.thread) some.inside;
        origin = sym some.used.origin ∙ again;
        used = say.to some.thread one.part w (aligned i.memory w here.cell here.at) some.used.part one.lies;
      }

  pub used_back : (w : ℕ) → IsUsed of_word i kept from w → IsIn words parts w
  used_back w h =
      let by = say.back h.thread w (aligned i.memory w h.cell h.at) h.used in
      let some : SomeUses uses tables.threads (o, by.0) = record {
        thread = h.thread;
        inside = exact.whole (HasThread h.thread) h.derived;
        used = record { numbers = ap origin_numbers h.origin ∙ sym numbers; origin = again ∙ sym h.origin; part = by.1 };
      } in
      record {
        word = (held.each w).1 (record { cell = h.cell; at = h.at; of_kept = h.of_kept });
        covered = covered parts by.0 w ((own by.0).1 ((all.each (o, by.0)).1 some)) by.2;
      }

-- a word is alone in its part
alone : (w v : ℕ) → w % 8 ≡ 0 → v % 8 ≡ 0 → lies_in w (v, 3) ≡ true → w ≡ v
alone w v even other lies = let same : w / 8 ≡ v / 8 = eqb-true (w / 8) (v / 8) lies in omega arith

pub reads_say : (i : Image) (kept : List Segment) → Uses i kept (ReadsPart i kept) Reads
reads_say i kept = record { to = to; back = back }
  where
    to : (t : Thread) (part : Segment) (w : ℕ) → w % 8 ≡ 0 → ReadsPart i kept t part → lies_in w part ≡ true → Reads i kept t w
    to t part w even (fetched f) lies =
        let same = alone w f.word even f.aligned (ap (lies_in w) (sym f.is) ∙ lies) in
        word_fetched (subst (Fetches t) (sym same) f.fetches)
    to t part w even (loaded l) lies = word_loaded part l lies

    back : (t : Thread) (w : ℕ) → w % 8 ≡ 0 → Reads i kept t w → (part : Segment) × ReadsPart i kept t part × (lies_in w part ≡ true)
    back t w even (word_fetched f) = ((w, 3), fetched (record { word = w; fetches = f; aligned = even; is = refl }), eq-eqb (w / 8) (w / 8) refl)
    back t w even (word_loaded part l lies) = (part, loaded l, lies)

pub writes_say : (i : Image) (kept : List Segment) → Uses i kept (WritesPart i kept) Writes
writes_say i kept = record { to = to; back = back }
  where
    to : (t : Thread) (part : Segment) (w : ℕ) → w % 8 ≡ 0 → WritesPart i kept t part → lies_in w part ≡ true → Writes i kept t w
    to t part w even (stored s) lies = word_stored part s lies
    to t part w even (set s l) lies = word_set part s l lies

    back : (t : Thread) (w : ℕ) → w % 8 ≡ 0 → Writes i kept t w → (part : Segment) × WritesPart i kept t part × (lies_in w part ≡ true)
    back t w even (word_stored part s lies) = (part, stored s, lies)
    back t w even (word_set part s l lies) = (part, set s l, lies)
