-- The targets of the draft are those of the object.
use Rattle.std.proofs.Common.{◌≡◌, ℕ, ◌+◌, Bool, true, false, List, [], ◌∷◌, ◌++◌, map, length, Option, Some, None}
use Rattle.std.proofs.{Common.{refl, sym, ap, ◌∙◌, subst, inl, inr}, lemmas.Bool.and_parts}
use Rattle.std.specs.{Option.option_to_list, List.{flat_map, list_all}}
use Rattle.mm_line.specs.declared.statement.{Constant.Constant, Content.Content}
use Rattle.mm_draft.specs.{declared.{source.Source.Source, segment.Word.Word, thread.Register.Register}, Drafts.Draft}
use Rattle.mm_object.specs.declared.{item.Item.Item, target.{Target.Target, Reloc.Reloc}}
use Rattle.mm_object.specs.{declared.thread.{Value.Value, Thread.Thread}, Lookups.reloc_at}
use Rattle.mm_object.specs.Objects.{Segment, Object, IsObject, is_target, is_value, is_thread, value_targets}
use Rattle.mm_object.{specs.Objects.targets_of, proofs.Members.{In, in_left, in_right, in_either, in_map, from_flat}}
use Rattle.mm_asm.specs.Names.{Use, constant_uses, content_uses, word_uses, segment_uses, register_uses, thread_uses}
use Rattle.mm_asm.{specs.Names.uses_of, proofs.Uses.{in_merge, from_merge}}
use Rattle.mm_disasm.specs.Canonical.{is_zero}
use Rattle.mm_disasm.proofs.{Saying.{IsTargetOf, IsConstantOf, IsContentOf}, DraftedOrder.one_passes}
use Rattle.mm_disasm.proofs.DraftedRelocs.{found_words, found_segments, found_all, segments_from, reloc_target}
use Rattle.mm_disasm.proofs.{DraftedWords.AreWordsOf, DraftedSegments.AreSegmentsOf}
use Rattle.mm_disasm.proofs.{DraftedThreads.{RegistersBy, AreRegistersOf, AreThreadsOf}, Drafted.IsDraftOf}
use Rattle.mm_line.specs.declared.statement.Target as text
use Rattle.mm_line.specs.declared.statement.Content.TheVariants as content
use Rattle.mm_draft.specs.Drafts as draft
use Rattle.mm_object.specs.declared.thread.Value.TheVariants as value

module _ (o : Object) where
  -- the targets of an object that are written so, and a target's uses
  abbrev pub HasTarget : List Target → Use → Type 0
  HasTarget targets u = (t : Target) × In t targets × IsTargetOf o t u.target

  abbrev pub HasUse : List Use → Target → Type 0
  HasUse uses t = (u : Use) × In u uses × IsTargetOf o t u.target

  target_left : (xs ys : List Target) (u : Use) → HasTarget xs u → HasTarget (xs ++ ys) u
  target_left xs ys u h = (h.0, in_left h.0 xs ys h.1, h.2)

  target_right : (xs ys : List Target) (u : Use) → HasTarget ys u → HasTarget (xs ++ ys) u
  target_right xs ys u h = (h.0, in_right h.0 xs ys h.1, h.2)

  use_left : (xs ys : List Use) (t : Target) → HasUse xs t → HasUse (xs ++ ys) t
  use_left xs ys t h = (h.0, in_left h.0 xs ys h.1, h.2)

  use_right : (xs ys : List Use) (t : Target) → HasUse ys t → HasUse (xs ++ ys) t
  use_right xs ys t h = (h.0, in_right h.0 xs ys h.1, h.2)

  -- the target of one use
  only : (u : Use) (t : Target) (written : text.Target) (source : Source) → IsTargetOf o t written → In u (record { target = written; source = source } ∷ []) → HasTarget (t ∷ []) u
  only u t written source h (inl e) = (t, inl refl, subst (λ (x : Use). IsTargetOf o t x.target) (sym e) h)
  only u t written source h (inr m) = absurd m

  -- 1. Words.

  -- where a relocation stands, with its target
  abbrev HasReloc : List Reloc → Use → Type 0
  HasReloc relocs u = (r : Reloc) × In r relocs × IsTargetOf o r.target u.target

  content_reloc : (found : Option Reloc) (bits : ℕ) (source : Source) (c : Content) (u : Use) → IsContentOf o found bits c → In u (content_uses source c) →
      HasReloc (option_to_list found) u
  content_reloc (Some r) bits source c u h m =
      let one = only u r.target h.0 source h.2 (subst (λ (x : Content). In u (content_uses source x)) h.1 m) in
      elim one.1 [ inl e ↦ (r, inl refl, subst (λ (t : Target). IsTargetOf o t u.target) e one.2) | inr n ↦ absurd n ]
  content_reloc None bits source (content.Constant c) u h m = absurd (subst (λ (x : Constant). In u (constant_uses source x)) h m)
  content_reloc None bits source (content.Code code) u h m = absurd m

  content_use : (found : Option Reloc) (bits : ℕ) (source : Source) (c : Content) (r : Reloc) → IsContentOf o found bits c → In r (option_to_list found) →
      HasUse (content_uses source c) r.target
  content_use None bits source c r h m = absurd m
  content_use (Some x) bits source c r h (inr m) = absurd m
  content_use (Some x) bits source c r h (inl e) =
      let u : Use = record { target = h.0; source = source } in
      (u, subst (λ (y : Content). In u (content_uses source y)) (sym h.1) (inl refl), subst (λ (y : Reloc). IsTargetOf o y.target h.0) (sym e) h.2)

  words_reloc : (segment k : ℕ) (items : List Item) (words : List Word) (u : Use) → AreWordsOf o segment k items words → In u (flat_map word_uses words) →
      HasReloc (found_words o segment k items) u
  words_reloc segment k [] [] u h m = absurd m
  words_reloc segment k [] (w ∷ words) u h m = absurd h
  words_reloc segment k (item ∷ items) [] u h m = absurd h
  words_reloc segment k (item ∷ items) (w ∷ words) u h m =
      let here : List Reloc = option_to_list (reloc_at o segment k) in
      elim (in_either u (word_uses w) (flat_map word_uses words) m) [
        | inl l ↦ let r = content_reloc (reloc_at o segment k) item.bits w.source w.content u h.0.is_content l in (r.0, in_left r.0 here (found_words o segment (k + 1) items) r.1, r.2)
        | inr n ↦ let r = words_reloc segment (k + 1) items words u h.1 n in (r.0, in_right r.0 here (found_words o segment (k + 1) items) r.1, r.2)
      ]

  words_use : (segment k : ℕ) (items : List Item) (words : List Word) (r : Reloc) → AreWordsOf o segment k items words → In r (found_words o segment k items) →
      HasUse (flat_map word_uses words) r.target
  words_use segment k [] [] r h m = absurd m
  words_use segment k [] (w ∷ words) r h m = absurd h
  words_use segment k (item ∷ items) [] r h m = absurd h
  words_use segment k (item ∷ items) (w ∷ words) r h m =
      elim (in_either r (option_to_list (reloc_at o segment k)) (found_words o segment (k + 1) items) m) [
        | inl l ↦ use_left (word_uses w) (flat_map word_uses words) r.target (content_use (reloc_at o segment k) item.bits w.source w.content r h.0.is_content l)
        | inr n ↦ use_right (word_uses w) (flat_map word_uses words) r.target (words_use segment (k + 1) items words r h.1 n)
      ]

  segments_reloc : (number : ℕ) (segments : List Segment) (xs : List draft.Segment) (u : Use) → AreSegmentsOf o number segments xs → In u (flat_map segment_uses xs) →
      HasReloc (found_segments o number segments) u
  segments_reloc number [] [] u h m = absurd m
  segments_reloc number [] (x ∷ xs) u h m = absurd h
  segments_reloc number (s ∷ segments) [] u h m = absurd h
  segments_reloc number (s ∷ segments) (x ∷ xs) u h m =
      let here : List Reloc = found_words o number 0 s.items in
      elim (in_either u (segment_uses x) (flat_map segment_uses xs) m) [
        | inl l ↦ let r = words_reloc number 0 s.items x.words u h.0.words l in (r.0, in_left r.0 here (found_segments o (number + 1) segments) r.1, r.2)
        | inr n ↦ let r = segments_reloc (number + 1) segments xs u h.1 n in (r.0, in_right r.0 here (found_segments o (number + 1) segments) r.1, r.2)
      ]

  segments_use : (number : ℕ) (segments : List Segment) (xs : List draft.Segment) (r : Reloc) → AreSegmentsOf o number segments xs → In r (found_segments o number segments) →
      HasUse (flat_map segment_uses xs) r.target
  segments_use number [] [] r h m = absurd m
  segments_use number [] (x ∷ xs) r h m = absurd h
  segments_use number (s ∷ segments) [] r h m = absurd h
  segments_use number (s ∷ segments) (x ∷ xs) r h m =
      elim (in_either r (found_words o number 0 s.items) (found_segments o (number + 1) segments) m) [
        | inl l ↦ use_left (segment_uses x) (flat_map segment_uses xs) r.target (words_use number 0 s.items x.words r h.0.words l)
        | inr n ↦ use_right (segment_uses x) (flat_map segment_uses xs) r.target (segments_use (number + 1) segments xs r h.1 n)
      ]

  -- 2. Registers.

  constant_target : (v : Value) (source : Source) (c : Constant) (u : Use) → IsConstantOf o v c → In u (constant_uses source c) → HasTarget (value_targets v) u
  constant_target (value.Int n) source c u h m = absurd (subst (λ (x : Constant). In u (constant_uses source x)) h m)
  constant_target (value.Ptr perm t) source c u h m = only u t h.0 source h.2 (subst (λ (x : Constant). In u (constant_uses source x)) h.1 m)

  constant_use : (v : Value) (source : Source) (c : Constant) (t : Target) → IsConstantOf o v c → In t (value_targets v) → HasUse (constant_uses source c) t
  constant_use (value.Int n) source c t h m = absurd m
  constant_use (value.Ptr perm x) source c t h (inr m) = absurd m
  constant_use (value.Ptr perm x) source c t h (inl e) =
      let u : Use = record { target = h.0; source = source } in
      (u, subst (λ (y : Constant). In u (constant_uses source y)) (sym h.1) (inl refl), subst (λ (y : Target). IsTargetOf o y h.0) (sym e) h.2)

  zero_points_nowhere : (v : Value) (t : Target) → is_zero v ≡ true → In t (value_targets v) → ⊥
  zero_points_nowhere (value.Int n) t e m = m
  zero_points_nowhere (value.Ptr perm x) t e m = absurd cc

  registers_target : (k : ℕ) (values : List Value) (registers : List Register) (u : Use) → AreRegistersOf o k values registers → In u (flat_map register_uses registers) →
      HasTarget (flat_map value_targets values) u
  registers_target k [] registers u h m = absurd (subst (λ (rs : List Register). In u (flat_map register_uses rs)) h m)
  registers_target k (v ∷ values) registers u h m = by (is_zero v) (λ rs g n. registers_target (k + 1) values rs u g n) h
    where
      by : (b : Bool) → ((rs : List Register) → AreRegistersOf o (k + 1) values rs → In u (flat_map register_uses rs) → HasTarget (flat_map value_targets values) u) →
          RegistersBy o k v (AreRegistersOf o (k + 1) values) b registers →
          HasTarget (value_targets v ++ flat_map value_targets values) u
      by true more g = target_right (value_targets v) (flat_map value_targets values) u (more registers g m)
      by false more g =
          elim (in_either u (register_uses g.0) (flat_map register_uses g.1) (subst (λ (rs : List Register). In u (flat_map register_uses rs)) g.2 m)) [
            | inl l ↦ target_left (value_targets v) (flat_map value_targets values) u (constant_target v g.0.source g.0.value u g.3.value l)
            | inr n ↦ target_right (value_targets v) (flat_map value_targets values) u (more g.1 g.4 n)
          ]

  registers_use : (k : ℕ) (values : List Value) (registers : List Register) (t : Target) → AreRegistersOf o k values registers → In t (flat_map value_targets values) →
      HasUse (flat_map register_uses registers) t
  registers_use k [] registers t h m = absurd m
  registers_use k (v ∷ values) registers t h m = by (is_zero v) refl (λ rs g n. registers_use (k + 1) values rs t g n) h
    where
      by : (b : Bool) → is_zero v ≡ b → ((rs : List Register) → AreRegistersOf o (k + 1) values rs → In t (flat_map value_targets values) → HasUse (flat_map register_uses rs) t) →
          RegistersBy o k v (AreRegistersOf o (k + 1) values) b registers →
          HasUse (flat_map register_uses registers) t
      by true e more g =
          elim (in_either t (value_targets v) (flat_map value_targets values) m) [
            | inl l ↦ absurd (zero_points_nowhere v t e l)
            | inr n ↦ more registers g n
          ]
      by false e more g =
          subst (λ (rs : List Register). HasUse (flat_map register_uses rs) t) (sym g.2)
          (elim (in_either t (value_targets v) (flat_map value_targets values) m) [
            | inl l ↦ use_left (register_uses g.0) (flat_map register_uses g.1) t (constant_use v g.0.source g.0.value t g.3.value l)
            | inr n ↦ use_right (register_uses g.0) (flat_map register_uses g.1) t (more g.1 g.4 n)
          ])

  -- 3. Threads.

  -- what a thread points to
  abbrev pub thread_targets : Thread → List Target
  thread_targets t = t.target ∷ flat_map value_targets t.regs

  threads_target : (threads : List Thread) (xs : List draft.Thread) (u : Use) → AreThreadsOf o threads xs → In u (flat_map thread_uses xs) →
      HasTarget (flat_map thread_targets threads) u
  threads_target [] [] u h m = absurd m
  threads_target [] (x ∷ xs) u h m = absurd h
  threads_target (t ∷ threads) [] u h m = absurd h
  threads_target (t ∷ threads) (x ∷ xs) u h m =
      elim (in_either u (thread_uses x) (flat_map thread_uses xs) m) [
        | inl l ↦ target_left (thread_targets t) (flat_map thread_targets threads) u (one l)
        | inr n ↦ target_right (thread_targets t) (flat_map thread_targets threads) u (threads_target threads xs u h.1 n)
      ]
    where
      one : In u (thread_uses x) → HasTarget (thread_targets t) u
      one (inl e) = (t.target, inl refl, subst (λ (y : Use). IsTargetOf o t.target y.target) (sym e) h.0.target)
      one (inr n) = let r = registers_target 0 t.regs x.registers u h.0.registers n in (r.0, inr r.1, r.2)

  threads_use : (threads : List Thread) (xs : List draft.Thread) (t : Target) → AreThreadsOf o threads xs → In t (flat_map thread_targets threads) →
      HasUse (flat_map thread_uses xs) t
  threads_use [] [] t h m = absurd m
  threads_use [] (x ∷ xs) t h m = absurd h
  threads_use (y ∷ threads) [] t h m = absurd h
  threads_use (y ∷ threads) (x ∷ xs) t h m =
      elim (in_either t (thread_targets y) (flat_map thread_targets threads) m) [
        | inl l ↦ use_left (thread_uses x) (flat_map thread_uses xs) t (one l)
        | inr n ↦ use_right (thread_uses x) (flat_map thread_uses xs) t (threads_use threads xs t h.1 n)
      ]
    where
      one : In t (thread_targets y) → HasUse (thread_uses x) t
      one (inl e) =
          let u : Use = record { target = x.target; source = x.source } in
          (u, inl refl, subst (λ (z : Target). IsTargetOf o z x.target) (sym e) h.0.target)
      one (inr n) = let r = registers_use 0 y.regs x.registers t h.0.registers n in (r.0, inr r.1, r.2)

  -- 4. The whole.

  module _ (is : IsObject o) (d : Draft) (drafted : IsDraftOf o d) where
    -- each use is of a target of the object
    pub use_target : (u : Use) → In u (uses_of d) → HasTarget (targets_of o.relocs o.threads) u
    unfolding uses_of
    use_target u m =
        elim (from_merge u (flat_map segment_uses d.segments) (flat_map thread_uses d.threads) m) [
          | inl l ↦
              let r = segments_reloc 0 o.segments d.segments u drafted.segments l in
              let targets : List Target = map (λ (x : Reloc). x.target) o.relocs in
              (r.0.target, in_left r.0.target targets (flat_map thread_targets o.threads) (in_map (λ (x : Reloc). x.target) r.0 o.relocs (segments_from o 0 o.segments r.0 r.1)), r.2)
          | inr n ↦ target_right (map (λ (x : Reloc). x.target) o.relocs) (flat_map thread_targets o.threads) u (threads_target o.threads d.threads u drafted.threads n)
        ]

    from_map : (t : Target) (relocs : List Reloc) → In t (map (λ (x : Reloc). x.target) relocs) → (r : Reloc) × In r relocs × (t ≡ r.target)
    from_map t [] m = absurd m
    from_map t (r ∷ relocs) (inl e) = (r, inl refl, e)
    from_map t (r ∷ relocs) (inr m) = let h = from_map t relocs m in (h.0, inr h.1, h.2)

    -- and each target has one
    pub target_use : (t : Target) → In t (targets_of o.relocs o.threads) → HasUse (uses_of d) t
    unfolding uses_of
    target_use t m =
        elim (in_either t (map (λ (x : Reloc). x.target) o.relocs) (flat_map thread_targets o.threads) m) [
          | inl l ↦
              let r = from_map t o.relocs l in
              let u = segments_use 0 o.segments d.segments r.0 drafted.segments (subst (In r.0) (sym (found_all o is)) r.1) in
              (u.0, in_merge u.0 (flat_map segment_uses d.segments) (flat_map thread_uses d.threads) (inl u.1), subst (λ (x : Target). IsTargetOf o x u.0.target) (sym r.2) u.2)
          | inr n ↦
              let u = threads_use o.threads d.threads t drafted.threads n in
              (u.0, in_merge u.0 (flat_map segment_uses d.segments) (flat_map thread_uses d.threads) (inr u.1), u.2)
        ]

    -- 5. They are in their segments.

    thread_target : (t : Thread) (target : Target) → is_thread o.segments (length o.externals) t ≡ true → In target (thread_targets t) →
        is_target o.segments (length o.externals) target ≡ true
    thread_target t target h (inl e) =
        let aims = and_parts _ (is_target o.segments (length o.externals) t.target) (and_parts _ (list_all (is_value o.segments (length o.externals)) t.regs) h).0 in
        ap (is_target o.segments (length o.externals)) e ∙ aims.1
    thread_target t target h (inr m) =
        let v = from_flat value_targets target t.regs m in
        value_target v.0 (one_passes (is_value o.segments (length o.externals)) t.regs v.0 (and_parts _ (list_all (is_value o.segments (length o.externals)) t.regs) h).1 v.1) v.2
      where
        value_target : (v : Value) → is_value o.segments (length o.externals) v ≡ true → In target (value_targets v) → is_target o.segments (length o.externals) target ≡ true
        value_target (value.Int i) k n = absurd n
        value_target (value.Ptr perm x) k (inl e) = ap (is_target o.segments (length o.externals)) e ∙ k
        value_target (value.Ptr perm x) k (inr n) = absurd n

    pub target_is : (t : Target) → In t (targets_of o.relocs o.threads) → is_target o.segments (length o.externals) t ≡ true
    target_is t m =
        elim (in_either t (map (λ (x : Reloc). x.target) o.relocs) (flat_map thread_targets o.threads) m) [
          | inl l ↦ let r = from_map t o.relocs l in ap (is_target o.segments (length o.externals)) r.2 ∙ reloc_target o is r.0 r.1
          | inr n ↦
              let x = from_flat thread_targets t o.threads n in
              thread_target x.0 t (one_passes (is_thread o.segments (length o.externals)) o.threads x.0 is.threads x.1) x.2
        ]
