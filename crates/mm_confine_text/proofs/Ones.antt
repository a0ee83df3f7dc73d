-- The text is determined by the image, its kept segments and the limit.
use Rattle.std.proofs.Common.{◌≡◌, inl, inr, ℕ, ◌<◌, Bool, List, [], ◌∷◌, ◌++◌, zip, drop, refl, sym, ap, ◌∙◌, subst, arith}
use Rattle.std.specs.{Prelude.Contains, List.{AllByRecursion, flat_map}}
use Rattle.mm_word.specs.{Perm.{can_load, can_store}, declared.perm.Perm.Perm}
use Rattle.mm_model.specs.{Image.{Image, start}, Report.groups_of, Audit.{Verdict, Verdict.{Yes, Handler, Writer}, segment_line, apart_line}}
use Rattle.mm_model.specs.declared.word_use.WordUse.TheVariants.{Touch, Write}
use Rattle.mm_kernel.specs.{Segments.Segment, declared.fact.Leak.Leak}
use Rattle.mm_span.proofs.Members.{none_in, in_first, in_rest, in_cases}
use Rattle.mm_keep_text.specs.declared.told.Answer.{Answer, TheVariants.{Privileged, More, Found}}
use Rattle.mm_keep_text.specs.{Told.Told, Keys.pointer_key, Answers.{IsAnswer}}
use Rattle.mm_keep_text.proofs.Ones.{answers_are_one, told_one, lists_one, not_at_most, not_user}
use Rattle.mm_hold.specs.{Reached.{MaximalSegments}, Apart.{Judged, WritesIn}}
use Rattle.mm_confine_text.specs.Found.{slots_of_kernel}
use Rattle.mm_confine_text.specs.Told.{AreGroups, GroupsIf, GroupText, GroupTexts, GroupTexts.{no_group, group}}
use Rattle.mm_confine_text.specs.Told.{group_line, door_line, slot_line}
use Rattle.mm_confine_text.specs.Laws.{TextsAreOne}

-- 1. Lists of segments that ascend.

abbrev Rise : List Segment → Type 0
Rise list = AllByRecursion (λ (pair : Segment × Segment). pair.0.0 < pair.1.0) (zip list (drop 1 list))

-- the first is below all that follow
above : (s : Segment) (list : List Segment) → Rise (s ∷ list) → (t : Segment) → Contains list t → s.0 < t.0
above s [] up t there = absurd (none_in t there)
above s (r ∷ list) up t there = elim (in_cases r list t there) [
  | inl same ↦ subst (λ (v : Segment). s.0 < v.0) same up.0
  | inr later ↦ let more = above r list up.1 t later in let one = up.0 in omega arith
]

rise_rest : (s : Segment) (list : List Segment) → Rise (s ∷ list) → Rise list
rise_rest s [] up = tt
rise_rest s (r ∷ list) up = up.1

segments_one : (a b : List Segment) → Rise a → Rise b → ((s : Segment) → Contains a s → Contains b s) → ((s : Segment) → Contains b s → Contains a s) → a ≡ b
segments_one [] [] up down to back = refl
segments_one [] (y ∷ b) up down to back = absurd (none_in y (back y (in_first y b)))
segments_one (x ∷ a) [] up down to back = absurd (none_in x (to x (in_first x a)))
segments_one (x ∷ a) (y ∷ b) up down to back =
    let rest = segments_one a b (rise_rest x a up) (rise_rest y b down) (λ s there. tail x y a b up (sym same) s there (to s (in_rest x a s there)))
    (λ s there. tail y x b a down same s there (back s (in_rest y b s there))) in
    λ j. same j ∷ rest j
  where
    same : x ≡ y
    same = elim (in_cases y b x (to x (in_first x a))) [
      | inl e ↦ sym e
      | inr later ↦ elim (in_cases x a y (back y (in_first y b))) [
        | inl e ↦ e
        | inr own ↦ absurd (let lo = above y b down x later in let hi = above x a up y own in omega arith)
      ]
    ]

    tail : (p q : Segment) (ps qs : List Segment) → Rise (p ∷ ps) → q ≡ p → (s : Segment) → Contains ps s → Contains (q ∷ qs) s → Contains qs s
    tail p q ps qs rise e s there h = elim (in_cases q qs s h) [
      | inl first ↦ absurd (let lt = above p ps rise s there in let at = ap (λ (v : Segment). v.0) (sym e ∙ first) in omega arith)
      | inr later ↦ later
    ]

module _ (i : Image) (kept : List Segment) where
  -- 2. Groups.

  maximal_one : (g : ℕ) (right : Perm → Bool) (a b : List Segment) → MaximalSegments i kept g right a → MaximalSegments i kept g right b → a ≡ b
  maximal_one g right a b h k = segments_one a b h.ascending k.ascending
      (λ s there. (k.each s).1 ((h.each s).0 there)) (λ s there. (h.each s).1 ((k.each s).0 there))

  verdicts_one : (g : ℕ) (a b : Verdict) → Judged i kept g a → Judged i kept g b → a ≡ b
  verdicts_one g Yes Yes h k = refl
  verdicts_one g Yes (Handler n) h k = absurd (h.0 n k.0)
  verdicts_one g Yes (Writer o w) h k = absurd (h.1 o w k.1)
  verdicts_one g (Handler n) Yes h k = absurd (k.0 n h.0)
  verdicts_one g (Handler n) (Handler m) h k = let lo = h.1 m k.0 in let hi = k.1 n h.0 in let same : n ≡ m = omega arith in ap Handler same
  verdicts_one g (Handler n) (Writer o w) h k = absurd (k.0 n h.0)
  verdicts_one g (Writer o w) Yes h k = absurd (k.1 o w h.1)
  verdicts_one g (Writer o w) (Handler n) h k = absurd (h.0 n k.0)
  verdicts_one g (Writer o w) (Writer p v) h k =
      let lo = h.2 p v k.1 in
      let hi = k.2 o w h.1 in
      let same : o ≡ p = omega arith in
      let lo2 = h.3 v (subst (λ x. Writes x v) (sym same) k.1) in
      let hi2 = k.3 w (subst (λ x. Writes x w) same h.1) in
      let also : w ≡ v = omega arith in
      λ j. Writer (same j) (also j)
    where
      Writes : ℕ → ℕ → Type 0
      Writes x y = WritesIn i kept g x y

  group_one : (g : ℕ) (a b : List ℕ) → GroupText i kept g a → GroupText i kept g b → a ≡ b
  group_one g a b h k =
      let doors = lists_one pointer_key h.doors k.doors h.doors_are.ascend k.doors_are.ascend
      (λ d there. (k.doors_are.each d).1 ((h.doors_are.each d).0 there)) (λ d there. (h.doors_are.each d).1 ((k.doors_are.each d).0 there)) in
      let touch = maximal_one g can_load h.touch k.touch h.touch_is k.touch_is in
      let write = maximal_one g can_store h.write k.write h.write_is k.write_is in
      let verdict = verdicts_one g h.verdict k.verdict h.judged k.judged in
      h.is ∙ (λ j. group_line g ++ flat_map door_line (doors j) ++ flat_map slot_line (slots_of_kernel i kept g)
      ++ flat_map (segment_line Touch) (touch j) ++ flat_map (segment_line Write) (write j) ++ apart_line (g ∷ []) (verdict j)) ∙ sym k.is

  groups_one : (gs a b : List ℕ) → GroupTexts i kept gs a → GroupTexts i kept gs b → a ≡ b
  groups_one [] a b no_group no_group = refl
  groups_one (g ∷ gs) a b (group {own = own} {text = text} is more) (group {own = own2} {text = text2} is2 more2) =
      let one = group_one g own own2 is is2 in
      let rest = groups_one gs text text2 more more2 in
      λ j. one j ++ rest j

  -- 3. Texts.

  parts_one : (leaks : List Leak) (a b : List ℕ) → GroupsIf i kept leaks a → GroupsIf i kept leaks b → a ≡ b
  parts_one [] a b h k = groups_one (groups_of (start i).core) a b h k
  parts_one (leak ∷ leaks) a b h k = h ∙ sym k

  after_one : (limit : ℕ) (x y : Answer) (a b : List ℕ) → IsAnswer i kept limit x → IsAnswer i kept limit y → AreGroups i kept x a → AreGroups i kept y b → a ≡ b
  after_one limit Privileged Privileged a b p q h k = h ∙ sym k
  after_one limit Privileged More a b p q h k = h ∙ sym k
  after_one limit Privileged (Found told) a b p q h k = absurd (not_user i kept p q.0)
  after_one limit More Privileged a b p q h k = h ∙ sym k
  after_one limit More More a b p q h k = h ∙ sym k
  after_one limit More (Found told) a b p q h k = absurd (not_at_most i kept limit p.1 q.1)
  after_one limit (Found told) Privileged a b p q h k = absurd (not_user i kept q p.0)
  after_one limit (Found told) More a b p q h k = absurd (not_at_most i kept limit q.1 p.1)
  after_one limit (Found told) (Found other) a b p q h k =
      parts_one told.leaks a b h (subst (λ (t : Told). GroupsIf i kept t.leaks b) (sym (told_one i kept told other p.2 q.2)) k)

pub texts_are_one : TextsAreOne
texts_are_one i kept limit a b h k =
    let first = answers_are_one i kept limit h.answer k.answer h.is k.is in
    let rest = after_one i kept limit h.answer k.answer h.groups k.groups h.is k.is h.groups_are k.groups_are in
    h.written ∙ (λ j. first j ++ rest j) ∙ sym k.written
