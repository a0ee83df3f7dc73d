-- Pages that are put, change by change.
use Rattle.std.proofs.Common.{◌≡◌, ◌≢◌, ◌⊎◌, inl, inr, ℕ, ◌+◌, ◌<◌, ◌≤◌, ◌^◌, true, not, ◌&&◌, nat_lt, List, [], ◌∷◌, length, slice_get, slice_index_or, slice_set, Option, Some, None, is_some}
use Rattle.std.proofs.Common.{refl, sym, ap, ◌∙◌, subst, arith, T}
use Rattle.std.proofs.lemmas.{Bool.{cases_eq, cases_lt, lt-ltb}, Cmp.nat_cmp_total, List.{get_or-set_same, get_or-set_other, get_or_past}, Option.slice_get_within}
use Rattle.std.specs.{Ordering.nat_cmp, List.AllByRecursion, FinMap.{find, nat_cmp-IsAntisymmetric}, FinMap.Entries.same_entries}
use Rattle.mm_word.specs.declared.word.Cell.{Cell}
use Rattle.mm_model.specs.Memory.{Memory, page_at, can_map, IsPage, IsPaged}
use Rattle.mm_mem.specs.Plain.{Plain}
use Rattle.mm_pairs.{specs.{Named.{HasGrown}, Trees.{changed, leaves}}, proofs.Names.{length_leaves, grown_twice, tree_stays}}
use Rattle.std.proofs.Math.Seq.{take-length}
use Rattle.mm_config.specs.declared.{store.Store.Store, names.Names.Names, put_memory.Changes.Changes}
use Rattle.mm_config.specs.{Naming.{AreMemoryNames, IsPageName, IsOrNone, leaf_at, page_name}, Noting.{HasMoreCells, IsSameTree}, Places.{page_place, HaveOnePlace}, Putting.{HasPages, HasPut, CanPut, IsPutSoFar, old_pages, new_pages}}
use Rattle.mm_config.proofs.{NamedOnce.{pages_tell, not_none}, PageLists.{fewer_by_one, find_later}, Placing.place_tells, Noted.{or_none, still_more, memory_more}, PageCells.more_pairs, PageTrees.leaf_stays}
use Rattle.mm_config.proofs.Walks.{change_is, change_at, begins, made, same_way, arrived, up_to}

-- 1. Names of pages.

-- a page that is mapped has a name
pub some_name : (k : Store) (cells : List Cell) (name : ℕ) → IsPageName k cells name → name ≢ 0
some_name k cells name h none =
    let pair = not_none k.pairs name (1, h.tree) none h.is in
    let one : (let n : ℕ = 1 in n) ≡ 0 = ap (λ (p : ℕ × ℕ). p.0) pair in
    omega (arith, one)

no_page : (k : Store) (o : Option (List Cell)) (name : ℕ) → name ≡ 0 → IsOrNone (IsPageName k) o name → o ≡ None
no_page k None name none h = refl
no_page k (Some cells) name none h = absurd (some_name k cells name h none)

a_page : (k : Store) (o : Option (List Cell)) (name : ℕ) → name ≢ 0 → IsOrNone (IsPageName k) o name → is_some o ≡ true
a_page k None name some h = absurd (some h)
a_page k (Some cells) name some h = refl

a_name : (k : Store) (o : Option (List Cell)) (name : ℕ) → is_some o ≡ true → IsOrNone (IsPageName k) o name → name ≢ 0
a_name k None name some h = cc
a_name k (Some cells) name some h = some_name k cells name h

small_in : (es : List (ℕ × List Cell)) → AllByRecursion IsPage es → (q : ℕ) → is_some (find nat_cmp q es) ≡ true → q < 2 ^ 42
small_in [] h q some = cc
small_in (e ∷ es) h q some = elim (cases_eq q e.0) [
  | inl same ↦ let low = h.0.number in omega (arith, low, same)
  | inr other ↦ small_in es h.1 q (ap is_some (sym (find_later q e es other)) ∙ some)
]

-- 2. One change.

-- a change, and the page that it is of
pub record PageOf (k : Store) (was names : List ℕ) (e : ℕ × ℕ) : Type 0 where
  pub within : e.0 < length k.pages
  pub inside : e.0 < length names
  pub place : page_place k.pages (slice_index_or k.pages e.0 0) ≡ e.0
  pub small : slice_index_or k.pages e.0 0 < 2 ^ 42
  pub name : e.1 ≡ slice_index_or names e.0 0
  pub differs : slice_index_or was e.0 0 ≢ slice_index_or names e.0 0

module _ (k : Store) (c : Changes) (old : Plain) (can : CanPut k old c) where
  abbrev was : List ℕ
  was = old_pages k c

  abbrev names : List ℕ
  names = new_pages k c

  long : length was ≡ length names
  long = length_leaves k.pairs c.height c.before ∙ sym (length_leaves k.pairs c.height c.after)

  pub page_of_change : (j : ℕ) (e : ℕ × ℕ) → slice_get c.list.now j ≡ Some e → PageOf k was names e
  page_of_change j e got =
      let change = change_is 0 was names long j e (sym (ap (λ l. slice_get l j) can.list) ∙ got) in
      let none : 0 + change.place ≡ change.place = omega arith in
      let at : e.0 ≡ change.place = ap (λ (p : ℕ × ℕ). p.0) change.is ∙ none in
      let differs : slice_index_or was e.0 0 ≢ slice_index_or names e.0 0 = subst (λ p. slice_index_or was p 0 ≢ slice_index_or names p 0) (sym at) change.differs in
      let within : e.0 < length k.pages = elim (cases_lt e.0 (length k.pages)) [
        | inl low ↦ low
        | inr high ↦ absurd (differs (can.was.inside e.0 high ∙ sym (can.names.inside e.0 high)))
      ] in
      let number = slice_index_or k.pages e.0 0 in
      let place = can.places e.0 within in
      let low = change.within in
      record {
        within = within;
        inside = omega (arith, at, low);
        place = place;
        small = elim (cases_eq (slice_index_or was e.0 0) 0) [
          | inl zero_was ↦ small_in can.wanted.pages can.whole.pages.whole number
              (a_page k (page_at can.wanted number) (slice_index_or names (page_place k.pages number) 0) (λ zero_now. differs (zero_was ∙ sym (ap (λ p. slice_index_or names p 0) (sym place) ∙ zero_now)))
              (can.names.pages number))
          | inr some ↦ small_in old.memory.pages can.paged.pages.whole number
              (a_page k (page_at old.memory number) (slice_index_or was (page_place k.pages number) 0) (λ zero_was. some (ap (λ p. slice_index_or was p 0) (sym place) ∙ zero_was)) (can.was.pages number))
        ];
        name = ap (λ (p : ℕ × ℕ). p.1) change.is ∙ ap (λ p. slice_index_or names p 0) (sym at);
        differs = differs;
      }

  pub none_yet : IsPutSoFar k c (λ index name. ⊥) old old
  none_yet = record { now = was; way = begins was names (λ index name. ⊥) (λ j x h. h); pages = can.was; frames = refl; uses = refl }

  in_list : (j : ℕ) (e : ℕ × ℕ) → slice_get (changed 0 was names) j ≡ Some e → slice_get c.list.now j ≡ Some e
  in_list j e got = ap (λ l. slice_get l j) can.list ∙ got

  module _ (D E : ℕ → ℕ → Type 0) (new : Plain) (so : IsPutSoFar k c D old new) where
    pub same_so : ((j : ℕ) (e : ℕ × ℕ) → slice_get c.list.now j ≡ Some e → (E j e.1 → D j e.1) × (D j e.1 → E j e.1)) → IsPutSoFar k c E old new
    same_so alike = record { now = so.now; way = same_way was names long D E so.now so.way (λ j e got. alike j e (in_list j e got)); pages = so.pages; frames = so.frames; uses = so.uses }

    module _ (n : ℕ) (e : ℕ × ℕ) (got : slice_get c.list.now n ≡ Some e) where
      listed : slice_get (changed 0 was names) n ≡ Some e
      listed = sym (ap (λ l. slice_get l n) can.list) ∙ got

      -- the page of a change that is not made has the name that it had
      pub not_yet : (D n e.1 → ⊥) → IsOrNone (IsPageName k) (page_at new.memory (slice_index_or k.pages e.0 0)) (slice_index_or was e.0 0)
      not_yet open_ =
          let number = slice_index_or k.pages e.0 0 in
          subst (IsOrNone (IsPageName k) (page_at new.memory number))
          (ap (λ p. slice_index_or so.now p 0) (page_of_change n e got).place ∙ so.way.rest n e listed open_) (so.pages.pages number)

      -- one change more
      pub one_more_put : (next : Plain) (o : Option (List Cell)) → HasPut new next (slice_index_or k.pages e.0 0) o → IsOrNone (IsPageName k) o e.1
          → ((j : ℕ) (f : ℕ × ℕ) → slice_get c.list.now j ≡ Some f → (E j f.1 → D j f.1 ⊎ (j ≡ n)) × (D j f.1 ⊎ (j ≡ n) → E j f.1)) → IsPutSoFar k c E old next
      one_more_put next o put named with_it = record {
        now = slice_set so.now e.0 e.1;
        way = made was names long D E so.now so.way n e listed (λ j f g. with_it j f (in_list j f g));
        pages = record {
          inside = λ p high. get_or-set_other so.now e.0 p e.1 0 (λ same. let low = page.within in omega (arith, same, high, low)) ∙ so.pages.inside p high;
          pages = λ q. elim (cases_eq (page_place k.pages q) e.0) [
            | inl same ↦
                let is_it : q ≡ number = place_tells k.pages number q (let low = page.within in let at = page.place in omega (arith, low, at)) (same ∙ sym page.place) in
                subst (IsOrNone (IsPageName k) (page_at next.memory q)) (sym (ap (λ p. slice_index_or (slice_set so.now e.0 e.1) p 0) same ∙ here))
                (subst (λ (x : Option (List Cell)). IsOrNone (IsPageName k) x e.1) (sym (ap (page_at next.memory) is_it ∙ put.is)) named)
            | inr other ↦
                let apart : q ≢ number = λ equal. other (ap (page_place k.pages) equal ∙ page.place) in
                subst (IsOrNone (IsPageName k) (page_at next.memory q)) (sym (get_or-set_other so.now e.0 (page_place k.pages q) e.1 0 other))
                (subst (λ (x : Option (List Cell)). IsOrNone (IsPageName k) x (slice_index_or so.now (page_place k.pages q) 0)) (sym (put.others q apart)) (so.pages.pages q))
          ];
        };
        frames = put.frames ∙ so.frames;
        uses = put.uses ∙ so.uses;
      }
        where
          number : ℕ
          number = slice_index_or k.pages e.0 0

          page : PageOf k was names e
          page = page_of_change n e got

          here : slice_index_or (slice_set so.now e.0 e.1) e.0 0 ≡ e.1
          here = let low = page.inside in let l = so.way.long in let m = long in get_or-set_same so.now e.0 e.1 0 (omega (arith, low, l, m))

  -- 3. The pages that are unmapped, and then the others.

  alike : (j n : ℕ) (f e : ℕ × ℕ) → slice_get c.list.now j ≡ Some f → slice_get c.list.now n ≡ Some e → j ≡ n → f ≡ e
  alike j n f e g got same = let two : slice_get c.list.now n ≡ Some f = ap (slice_get c.list.now) (sym same) ∙ g in cc

  abbrev pub Unmapped : ℕ → ℕ → ℕ → Type 0
  Unmapped n index name = (index < n) × (name ≡ 0)

  abbrev pub Put : ℕ → ℕ → ℕ → Type 0
  Put n index name = (name ≡ 0) ⊎ (index < n)

  pub unmap_begins : IsPutSoFar k c (Unmapped 0) old old
  unmap_begins = same_so (λ index name. ⊥) (Unmapped 0) old none_yet (λ j f g. (λ d. let lt = d.0 in omega (arith, lt), λ d. absurd d))

  module _ (n : ℕ) (new : Plain) (e : ℕ × ℕ) (got : slice_get c.list.now n ≡ Some e) where
    pub unmap_skips : IsPutSoFar k c (Unmapped n) old new → e.1 ≢ 0 → IsPutSoFar k c (Unmapped (n + 1)) old new
    unmap_skips so some = same_so (Unmapped n) (Unmapped (n + 1)) new so (λ j f g. (
      λ d. elim (up_to j n d.0) [
        | inl lt ↦ (lt, d.1)
        | inr same ↦ absurd (some (sym (ap (λ (p : ℕ × ℕ). p.1) (alike j n f e g got same)) ∙ d.1))
      ],
      λ d. let lt = d.0 in (omega (arith, lt), d.1),
    ))

    pub unmap_makes : IsPutSoFar k c (Unmapped n) old new → e.1 ≡ 0 → (next : Plain) → HasPut new next (slice_index_or k.pages e.0 0) None → IsPutSoFar k c (Unmapped (n + 1)) old next
    unmap_makes so none next put = one_more_put (Unmapped n) (Unmapped (n + 1)) new so n e got next None put none (λ j f g. (
      λ d. elim (up_to j n d.0) [ inl lt ↦ inl (lt, d.1) | inr same ↦ inr same ],
      λ d. elim d [
        | inl u ↦ let lt = u.0 in (omega (arith, lt), u.1)
        | inr same ↦ (omega (arith, same), ap (λ (p : ℕ × ℕ). p.1) (alike j n f e g got same) ∙ none)
      ],
    ))

    pub put_skips : IsPutSoFar k c (Put n) old new → e.1 ≡ 0 → IsPutSoFar k c (Put (n + 1)) old new
    put_skips so none = same_so (Put n) (Put (n + 1)) new so (λ j f g. (
      λ d. elim d [
        | inl z ↦ inl z
        | inr lt ↦ elim (up_to j n lt) [
          | inl less ↦ inr less
          | inr same ↦ inl (ap (λ (p : ℕ × ℕ). p.1) (alike j n f e g got same) ∙ none)
        ]
      ],
      λ d. elim d [ inl z ↦ inl z | inr lt ↦ inr (omega (arith, lt)) ],
    ))

    pub put_makes : IsPutSoFar k c (Put n) old new → (next : Plain) (cells : List Cell) → HasPut new next (slice_index_or k.pages e.0 0) (Some cells) → IsPageName k cells e.1
        → IsPutSoFar k c (Put (n + 1)) old next
    put_makes so next cells put named = one_more_put (Put n) (Put (n + 1)) new so n e got next (Some cells) put named (λ j f g. (
      λ d. elim d [
        | inl z ↦ inl (inl z)
        | inr lt ↦ elim (up_to j n lt) [ inl less ↦ inl (inr less) | inr same ↦ inr same ]
      ],
      λ d. elim d [
        | inl (inl z) ↦ inl z
        | inl (inr lt) ↦ inr (omega (arith, lt))
        | inr same ↦ inr (omega (arith, same))
      ],
    ))

  module _ (n : ℕ) (new : Plain) (end : length c.list.now ≤ n) where
    inside_list : (j : ℕ) (f : ℕ × ℕ) → slice_get c.list.now j ≡ Some f → j < n
    inside_list j f g = let lt = slice_get_within c.list.now j f g in omega (arith, lt, end)

    pub unmap_ends : IsPutSoFar k c (Unmapped n) old new → IsPutSoFar k c (λ index name. name ≡ 0) old new
    unmap_ends so = same_so (Unmapped n) (λ index name. name ≡ 0) new so (λ j f g. (λ d. (inside_list j f g, d), λ d. d.1))

    pub put_ends : IsPutSoFar k c (Put n) old new → IsPutSoFar k c (λ index name. index < length c.list.now) old new
    put_ends so = same_so (Put n) (λ index name. index < length c.list.now) new so (λ j f g. (λ d. inr (inside_list j f g), λ d. slice_get_within c.list.now j f g))

  pub put_begins : (new : Plain) → IsPutSoFar k c (λ index name. name ≡ 0) old new → IsPutSoFar k c (Put 0) old new
  put_begins new so = same_so (λ index name. name ≡ 0) (Put 0) new so (λ j f g. (λ d. elim d [ inl z ↦ z | inr lt ↦ absurd (omega (arith, lt)) ], λ d. inl d))

  -- 4. There are frames.

  module _ (n : ℕ) (new : Plain) (so : IsPutSoFar k c (λ index name. (name ≡ 0) ⊎ (index < n)) old new) (e : ℕ × ℕ) (got : slice_get c.list.now n ≡ Some e) (some : e.1 ≢ 0) where
    abbrev number : ℕ
    number = slice_index_or k.pages e.0 0

    not_made : (e.1 ≡ 0) ⊎ (n < n) → ⊥
    not_made (inl none) = some none
    not_made (inr lt) = omega (arith, lt)

    wanted_too : (p : ℕ) → slice_index_or so.now p 0 ≢ 0 → slice_index_or names p 0 ≢ 0
    wanted_too p now none = elim (so.way.either p) [
      | inr new ↦ now (new ∙ none)
      | inl old_one ↦
          let differs : slice_index_or was p 0 ≢ slice_index_or names p 0 = λ same. now (old_one ∙ same ∙ none) in
          let low : p < length names = elim (cases_lt p (length names)) [
            | inl lt ↦ lt
            | inr high ↦ let l = so.way.long in let m = long in absurd (now (get_or_past so.now p 0 (omega (arith, high, l, m))))
          ] in
          let change = change_at 0 was names long p low differs in
          let none_at : 0 + p ≡ p = omega arith in
          now (ap (λ i. slice_index_or so.now i 0) (sym none_at) ∙ so.way.done change.0 (0 + p, slice_index_or names p 0) change.1 (inl none) ∙ none)
    ]

    pub has_frame : slice_index_or was e.0 0 ≡ 0 → IsPaged new.memory → can_map new.memory number ≡ true
    unfolding can_map
    has_frame none paged =
        let page = page_of_change n e got in
        let absent = no_page k (page_at new.memory number) (slice_index_or was e.0 0) none (not_yet (λ index name. (name ≡ 0) ⊎ (index < n)) (λ index name. ⊥) new so n e got not_made) in
        let there : is_some (page_at can.wanted number) ≡ true =
        a_page k (page_at can.wanted number) (slice_index_or names (page_place k.pages number) 0) (λ zero_is. some (page.name ∙ ap (λ p. slice_index_or names p 0) (sym page.place) ∙ zero_is)) (can.names.pages number) in
        let less = fewer_by_one new.memory.pages can.wanted.pages number (subst T (sym paged.pages.rising) tt) (subst T (sym can.whole.pages.rising) tt) absent there
        (λ q mapped. a_page k (page_at can.wanted q) (slice_index_or names (page_place k.pages q) 0)
        (wanted_too (page_place k.pages q) (a_name k (page_at new.memory q) (slice_index_or so.now (page_place k.pages q) 0) mapped (so.pages.pages q))) (can.names.pages q)) in
        let fit = can.whole.fitting in
        let frames = can.frames in
        let now = so.frames in
        let room = lt-ltb (length new.memory.pages) new.memory.frames (omega (arith, less, fit, frames, now)) in
        ap (λ (o : Option (List Cell)). not (is_some o) && nat_lt (length new.memory.pages) new.memory.frames) absent ∙ room

  page_wanted : (o : Option (List Cell)) (name : ℕ) → name ≢ 0 → IsOrNone (IsPageName k) o name → (cells : List Cell) × IsPageName k cells name
  page_wanted None name some h = absurd (some h)
  page_wanted (Some cells) name some h = (cells, h)

  -- what putting a page asks
  pub record MayPut (new : Plain) (at before page : ℕ) : Type 0 where
    pub small : at < 2 ^ 42
    pub known : IsOrNone (IsPageName k) (page_at new.memory at) before
    pub room : before ≡ 0 → can_map new.memory at ≡ true
    pub wanted : (cells : List Cell) × IsPageName k cells page

  pub may_put : (n : ℕ) (new : Plain) (so : IsPutSoFar k c (λ index name. (name ≡ 0) ⊎ (index < n)) old new) (e : ℕ × ℕ) (got : slice_get c.list.now n ≡ Some e) → e.1 ≢ 0 → IsPaged new.memory
      → (at before : ℕ) → at ≡ slice_index_or k.pages e.0 0 → before ≡ slice_index_or was e.0 0 → MayPut new at before e.1
  may_put n new so e got some paged at before is from =
      let page = page_of_change n e got in
      let name : slice_index_or names (page_place k.pages (slice_index_or k.pages e.0 0)) 0 ≡ e.1 = ap (λ p. slice_index_or names p 0) page.place ∙ sym page.name in
      let known = not_yet (λ index name. (name ≡ 0) ⊎ (index < n)) (λ index name. ⊥) new so n e got (not_made n new so e got some) in
      record {
        small = subst (λ q. q < 2 ^ 42) (sym is) page.small;
        known = subst (λ q. IsOrNone (IsPageName k) (page_at new.memory q) before) (sym is) (subst (IsOrNone (IsPageName k) (page_at new.memory (slice_index_or k.pages e.0 0))) (sym from) known);
        room = λ none. subst (λ q. can_map new.memory q ≡ true) (sym is) (has_frame n new so e got some (sym from ∙ none) paged);
        wanted = page_wanted (page_at can.wanted (slice_index_or k.pages e.0 0)) e.1 some (subst (IsOrNone (IsPageName k) (page_at can.wanted (slice_index_or k.pages e.0 0))) name (can.names.pages (slice_index_or k.pages e.0 0)));
      }

  -- 5. All changes are made.

  pub all_put : (D : ℕ → ℕ → Type 0) (new : Plain) → IsPutSoFar k c D old new → ((j : ℕ) (e : ℕ × ℕ) → slice_get c.list.now j ≡ Some e → D j e.1) → IsPaged new.memory
      → (m : Memory) → IsPaged m → m.frames ≡ old.memory.frames → HasPages k m names → new.memory ≡ m
  all_put D new so all paged m whole frames has =
      let same = arrived was names D so.now long so.way (λ j e got. all j e (in_list j e got)) in
      let pages = same_entries nat_cmp nat_cmp_total nat_cmp-IsAntisymmetric new.memory.pages m.pages (subst T (sym paged.pages.rising) tt) (subst T (sym whole.pages.rising) tt) (λ q.
      pages_tell k (slice_index_or names (page_place k.pages q) 0) (page_at new.memory q) (page_at m q)
      (subst (IsOrNone (IsPageName k) (page_at new.memory q)) (same (page_place k.pages q)) (so.pages.pages q)) (has.pages q)) in
      let as_many : new.memory.frames ≡ m.frames = so.frames ∙ sym frames in
      λ j. record { pages = pages j; frames = as_many j }

-- 6. From the names of a memory, with the tree of pages made deeper.

pub raised_pages : (k k2 : Store) (mid : List (ℕ × ℕ)) (m : Memory) (n : Names) (height tree : ℕ) → AreMemoryNames k m n
    → IsSameTree k.pairs n mid (record n { height = height; pages = tree }) → HasGrown mid k2.pairs → HasMoreCells k k2 → HasPages k2 m (leaves k2.pairs height tree)
raised_pages k k2 mid m n height tree h raised grown more = record {
  inside = λ p high. same p ∙ h.tree.inside p (subst (λ (l : List ℕ). length l ≤ p) pages_same high);
  pages = λ q. subst (IsOrNone (IsPageName k2) (page_at m q)) (sym (same (page_place k2.pages q) ∙ ap (λ l. leaf_at k.pairs n.height n.pages (page_place l q)) pages_same))
      (or_none k k2 (still_more k k2 more) (page_at m q) (page_name k n q) (h.pages q));
}
  where
    pages_same : k2.pages ≡ k.pages
    pages_same = ap (λ (s : Store). s.pages) more.others

    same : (p : ℕ) → leaf_at k2.pairs height tree p ≡ leaf_at k.pairs n.height n.pages p
    same p = leaf_stays mid k2.pairs grown height tree raised.inner p ∙ raised.leaves p

-- 7. What putting asks and leaves, where both trees are made as deep as one of them.

module _ (k : Store) (old : Plain) (was wanted : Names) (c : Changes) (p1 p2 : List (ℕ × ℕ)) (own : AreMemoryNames k old.memory was)
    (one : IsSameTree k.pairs was p1 (record was { height = c.height; pages = c.before })) (two : IsSameTree p1 wanted p2 (record wanted { height = c.height; pages = c.after })) where
  abbrev k1 : Store
  k1 = record k { pairs = p1 }

  abbrev k2 : Store
  k2 = record k { pairs = p2 }

  pub more_trees : HasMoreCells k k2
  more_trees = more_pairs k p2 (grown_twice k.pairs p1 p2 one.grown two.grown)

  pages_before : HasPages k2 old.memory (leaves p2 c.height c.before)
  pages_before = raised_pages k k2 p1 old.memory was c.height c.before own one two.grown more_trees

  pages_after : (m : Memory) → AreMemoryNames k m wanted → HasPages k2 m (leaves p2 c.height c.after)
  pages_after m h = raised_pages k1 k2 p2 m wanted c.height c.after (memory_more k k1 (more_pairs k p1 one.grown) m wanted h) two (take-length p2) (more_pairs k1 p2 two.grown)

  pub can_put : c.height ≤ 32 → c.list.now ≡ changed 0 (leaves p2 c.height c.before) (leaves p2 c.height c.after) → HaveOnePlace k.pages → IsPaged old.memory
      → (m : Memory) → IsPaged m → m.frames ≡ old.memory.frames → AreMemoryNames k m wanted → CanPut k2 old c
  can_put few list places paged m whole frames named = record {
    before = tree_stays p1 p2 two.grown c.height c.before one.inner;
    after = two.inner;
    few = few;
    list = list;
    places = places;
    was = pages_before;
    paged = paged;
    wanted = m;
    whole = whole;
    frames = frames;
    names = pages_after m named;
  }

  pub put_is : CanPut k2 old c → (new : Plain) → IsPutSoFar k2 c (λ index name. index < length c.list.now) old new → IsPaged new.memory
      → (m : Memory) → IsPaged m → m.frames ≡ old.memory.frames → AreMemoryNames k m wanted → new.memory ≡ m
  put_is can new so paged m whole frames named =
      all_put k2 c old can (λ index name. index < length c.list.now) new so (λ j e got. slice_get_within c.list.now j e got) paged m whole frames (pages_after m named)
