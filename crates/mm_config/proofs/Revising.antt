-- A core that is revised to another.
use Rattle.std.proofs.Common.{◌≡◌, ◌⊎◌, inl, inr, ℕ, zero, suc, ◌<◌, ◌≤◌, Bool, true, false, List, [], ◌∷◌, ◌++◌, length, take}
use Rattle.std.proofs.Common.{get_or, set, refl, sym, ap, subst, ◌∙◌, arith}
use Rattle.std.proofs.lemmas.{Bool.cases_eq, List.{ext_get_or, get_or-set_same, get_or-set_other, length-set, length-take-le, take_at, length-append}}
use Rattle.std.specs.{Prelude.if◌then◌else◌, List.AllByRecursion}
use Rattle.mm_model.specs.{declared.event.Event.Event, Slot.Slot, State.{ThreadRow, Core, output_of, put_output}}
use Rattle.mm_model.proofs.CoreRows.{each_map}
use Rattle.mm_thread.specs.SlotIndices.{no_slot, no_row, row_at, slot_in, queue_in, with_queue_in}
use Rattle.mm_thread.specs.Revisions.{Extension, with_slots, with_queues, with_outputs, revised}
use Rattle.mm_config.specs.Reaching.{IsListed, Extends}

-- what leads from a core to another
pub record LeadsTo (core wanted : Core) (changed : List Bool) (read : List Slot) (queued : List (ℕ × List Event)) (extended : List Extension) : Type 0 where
  pub rows : length core.rows ≡ length wanted.rows
  pub groups : length core.outputs ≡ length wanted.outputs
  pub version : core.version ≡ wanted.version
  pub split : core.split ≡ wanted.split
  pub flags : length changed ≡ length core.rows
  pub many : length read ≡ length core.rows
  pub slots : (k : ℕ) → k < length core.rows
      → (if get_or changed k false then get_or read k no_slot else slot_in core k) ≡ slot_in wanted k
  pub queues : AllByRecursion (λ (x : ℕ × List Event). x.1 ≡ queue_in wanted x.0) queued
  pub other_queues : (k : ℕ) → k < length core.rows → IsListed (λ (x : ℕ × List Event). x.0) k queued ⊎ (queue_in core k ≡ queue_in wanted k)
  pub outputs : AllByRecursion (Extends core wanted) extended
  pub other_outputs : (g : ℕ) → g < length core.outputs → IsListed (λ (x : Extension). x.group) g extended ⊎ (output_of core g ≡ output_of wanted g)

-- 1. Slots.

slots_at : (changed : List Bool) (slots : List Slot) (rows : List ThreadRow) (k : ℕ) → length changed ≡ length rows → length slots ≡ length rows → k < length rows
    → get_or (with_slots changed slots rows) k no_row ≡ record (get_or rows k no_row) { slot = if get_or changed k false then get_or slots k no_slot else (get_or rows k no_row).slot }
slots_at changed slots [] k lc ls lt = absurd (omega arith)
slots_at [] slots (row ∷ rows) k lc ls lt = absurd (omega (arith, lc))
slots_at (c ∷ changed) [] (row ∷ rows) k lc ls lt = absurd (omega (arith, ls))
slots_at (c ∷ changed) (s ∷ slots) (row ∷ rows) zero lc ls lt = by c
  where
    by : (b : Bool) → ◌≡◌ {A = ThreadRow} (if b then record row { slot = s } else row) (record row { slot = if b then s else row.slot })
    by true = refl
    by false = refl
slots_at (c ∷ changed) (s ∷ slots) (row ∷ rows) (suc k) lc ls lt = slots_at changed slots rows k (omega (arith, lc)) (omega (arith, ls)) (omega arith)

slots_long : (changed : List Bool) (slots : List Slot) (rows : List ThreadRow) → length (with_slots changed slots rows) ≡ length rows
slots_long [] slots rows = refl
slots_long (c ∷ changed) [] rows = refl
slots_long (c ∷ changed) (s ∷ slots) [] = refl
slots_long (c ∷ changed) (s ∷ slots) (row ∷ rows) = ap suc (slots_long changed slots rows)

-- 2. Queues.

-- rows that have the slots that are wanted, and some of the queues
record HasQueues (core wanted : Core) (left : List (ℕ × List Event)) : Type 0 where
  long : length core.rows ≡ length wanted.rows
  slots : (k : ℕ) → k < length core.rows → slot_in core k ≡ slot_in wanted k
  queues : (k : ℕ) → k < length core.rows → IsListed (λ (x : ℕ × List Event). x.0) k left ⊎ (queue_in core k ≡ queue_in wanted k)

module _ (core : Core) (p : ℕ) (q : List Event) where
  queued_here : (k : ℕ) → k < length core.rows → k ≡ p → row_at (with_queue_in core p q) k ≡ record (row_at core k) { queue = q }
  queued_here k lt e =
      ap (row_at (with_queue_in core p q)) e
      ∙ get_or-set_same core.rows p (record (row_at core p) { queue = q }) no_row (subst (λ n. n < length core.rows) e lt)
      ∙ ap (λ n. let row : ThreadRow = record (row_at core n) { queue = q } in row) (sym e)

  queued_other : (k : ℕ) → (k ≡ p → ⊥) → row_at (with_queue_in core p q) k ≡ row_at core k
  queued_other k ne = get_or-set_other core.rows p k (record (row_at core p) { queue = q }) no_row ne

  queued_slot : (k : ℕ) → k < length core.rows → slot_in (with_queue_in core p q) k ≡ slot_in core k
  queued_slot k lt = elim (cases_eq k p) [
    | inl e ↦ ap (λ (row : ThreadRow). row.slot) (queued_here k lt e)
    | inr ne ↦ ap (λ (row : ThreadRow). row.slot) (queued_other k ne)
  ]

queues_lead : (queues : List (ℕ × List Event)) (core wanted : Core) → AllByRecursion (λ (x : ℕ × List Event). x.1 ≡ queue_in wanted x.0) queues → HasQueues core wanted queues
    → (with_queues queues core).rows ≡ wanted.rows
queues_lead [] core wanted are h = ext_get_or no_row core.rows wanted.rows h.long (λ k lt.
    let slot = h.slots k lt in
    elim (h.queues k lt) [
      | inl none ↦ absurd none
      | inr queue ↦ (λ j. record { slot = slot j; queue = queue j })
    ])
queues_lead (x ∷ queues) core wanted are h = queues_lead queues (with_queue_in core x.0 x.1) wanted are.1 (record {
  long = length-set core.rows x.0 (record (row_at core x.0) { queue = x.1 }) ∙ h.long;
  slots = λ k lt. queued_slot core x.0 x.1 k (old k lt) ∙ h.slots k (old k lt);
  queues = λ k lt. by k (old k lt) (cases_eq k x.0) (h.queues k (old k lt));
})
  where
    old : (k : ℕ) → k < length (with_queue_in core x.0 x.1).rows → k < length core.rows
    old k lt = omega (arith, length-set core.rows x.0 (record (row_at core x.0) { queue = x.1 }), lt)

    by : (k : ℕ) → k < length core.rows → (k ≡ x.0) ⊎ (k ≡ x.0 → ⊥)
        → IsListed (λ (y : ℕ × List Event). y.0) k (x ∷ queues) ⊎ (queue_in core k ≡ queue_in wanted k)
        → IsListed (λ (y : ℕ × List Event). y.0) k queues ⊎ (queue_in (with_queue_in core x.0 x.1) k ≡ queue_in wanted k)
    by k lt (inl e) was = inr (ap (λ (row : ThreadRow). row.queue) (queued_here core x.0 x.1 k lt e) ∙ are.0 ∙ ap (queue_in wanted) (sym e))
    by k lt (inr ne) (inl (inl here)) = absurd (ne (sym here))
    by k lt (inr ne) (inl (inr later)) = inl later
    by k lt (inr ne) (inr same) = inr (ap (λ (row : ThreadRow). row.queue) (queued_other core x.0 x.1 k ne) ∙ same)

queues_others : (queues : List (ℕ × List Event)) (core : Core) → (with_queues queues core) ≡ record core { rows = (with_queues queues core).rows }
queues_others [] core = refl
queues_others (x ∷ queues) core = queues_others queues (with_queue_in core x.0 x.1)

-- 3. Outputs.

-- outputs some of which are those that are wanted
record HasOutputs (core wanted : Core) (left : List Extension) : Type 0 where
  long : length core.outputs ≡ length wanted.outputs
  bytes : AllByRecursion (Extends core wanted) left
  others : (g : ℕ) → g < length core.outputs → IsListed (λ (x : Extension). x.group) g left ⊎ (output_of core g ≡ output_of wanted g)

module _ (core wanted : Core) (x : Extension) (e : Extends core wanted x) where
  extended_long : length (put_output core x.group (take x.kept (output_of core x.group) ++ x.bytes)).outputs ≡ length core.outputs
  unfolding put_output
  extended_long = length-set core.outputs x.group (take x.kept (output_of core x.group) ++ x.bytes)

  extended_here : (g : ℕ) → g ≡ x.group → output_of (put_output core x.group (take x.kept (output_of core x.group) ++ x.bytes)) g ≡ output_of wanted g
  unfolding put_output output_of
  extended_here g same =
      let bytes : List ℕ = take x.kept (get_or core.outputs x.group []) ++ x.bytes in
      ap (λ n. get_or (set core.outputs x.group bytes) n []) same ∙ get_or-set_same core.outputs x.group bytes [] e.inside ∙ e.is ∙ ap (λ n. get_or wanted.outputs n []) (sym same)

  extended_other : (g : ℕ) → (g ≡ x.group → ⊥) → output_of (put_output core x.group (take x.kept (output_of core x.group) ++ x.bytes)) g ≡ output_of core g
  unfolding put_output output_of
  extended_other g ne = get_or-set_other core.outputs x.group g (take x.kept (get_or core.outputs x.group []) ++ x.bytes) [] ne

  -- what comes after it still extends what there is
  extends_still : (y : Extension) → Extends core wanted y → Extends (put_output core x.group (take x.kept (output_of core x.group) ++ x.bytes)) wanted y
  extends_still y f = elim (cases_eq y.group x.group) [
    | inl same ↦
        let now = extended_here y.group same in
        let cut : length (take y.kept (output_of core y.group)) ≡ y.kept = length-take-le y.kept (output_of core y.group) f.kept in
        let front : take y.kept (output_of wanted y.group) ≡ take y.kept (output_of core y.group) =
        ap (take y.kept) (sym f.is) ∙ take_at (take y.kept (output_of core y.group)) y.bytes y.kept cut in
        let long = ap length f.is in
        let both = length-append (take y.kept (output_of core y.group)) y.bytes in
        let inside = f.inside in
        let many = extended_long in
        let as_long = ap length now in
        record {
          inside = omega (arith, inside, many);
          kept = omega (arith, long, both, cut, as_long);
          is = ap (λ l. take y.kept l ++ y.bytes) now ∙ ap (λ l. l ++ y.bytes) front ∙ f.is;
        }
    | inr ne ↦
        let now = extended_other y.group ne in
        let inside = f.inside in
        let many = extended_long in
        record {
          inside = omega (arith, inside, many);
          kept = subst (λ (l : List ℕ). y.kept ≤ length l) (sym now) f.kept;
          is = ap (λ l. take y.kept l ++ y.bytes) now ∙ f.is;
        }
  ]

outputs_lead : (outputs : List Extension) (core wanted : Core) → HasOutputs core wanted outputs → (with_outputs outputs core).outputs ≡ wanted.outputs
unfolding output_of
outputs_lead [] core wanted h = ext_get_or [] core.outputs wanted.outputs h.long (λ g lt. elim (h.others g lt) [
  | inl none ↦ absurd none
  | inr same ↦ same
])
outputs_lead (x ∷ outputs) core wanted h = outputs_lead outputs (put_output core x.group (take x.kept (output_of core x.group) ++ x.bytes)) wanted (record {
  long = extended_long core wanted x h.bytes.0 ∙ h.long;
  bytes = each_map (Extends core wanted) (Extends (put_output core x.group (take x.kept (output_of core x.group) ++ x.bytes)) wanted) (extends_still core wanted x h.bytes.0) outputs h.bytes.1;
  others = λ g lt. by g (cases_eq g x.group) (h.others g (omega (arith, extended_long core wanted x h.bytes.0, lt)));
})
  where
    by : (g : ℕ) → (g ≡ x.group) ⊎ (g ≡ x.group → ⊥) → IsListed (λ (y : Extension). y.group) g (x ∷ outputs) ⊎ (output_of core g ≡ output_of wanted g)
        → IsListed (λ (y : Extension). y.group) g outputs ⊎ (output_of (put_output core x.group (take x.kept (output_of core x.group) ++ x.bytes)) g ≡ output_of wanted g)
    by g (inl e) was = inr (extended_here core wanted x h.bytes.0 g e)
    by g (inr ne) (inl (inl here)) = absurd (ne (sym here))
    by g (inr ne) (inl (inr later)) = inl later
    by g (inr ne) (inr same) = inr (extended_other core wanted x h.bytes.0 g ne ∙ same)

outputs_others : (outputs : List Extension) (core : Core) → with_outputs outputs core ≡ record core { outputs = (with_outputs outputs core).outputs }
unfolding put_output
outputs_others [] core = refl
outputs_others (x ∷ outputs) core = outputs_others outputs (put_output core x.group (take x.kept (output_of core x.group) ++ x.bytes))

-- 4. All.

pub revised_is : (core wanted : Core) (changed : List Bool) (slots : List Slot) (queues : List (ℕ × List Event)) (outputs : List Extension)
    → LeadsTo core wanted changed slots queues outputs → revised core changed slots queues outputs ≡ wanted
unfolding revised output_of
revised_is core wanted changed slots queues outputs h =
    let one : Core = record core { rows = with_slots changed slots core.rows } in
    let long = slots_long changed slots core.rows in
    let at : (k : ℕ) → k < length core.rows → row_at one k ≡ record (row_at core k) { slot = if get_or changed k false then get_or slots k no_slot else slot_in core k } =
    λ k lt. slots_at changed slots core.rows k h.flags h.many lt in
    let rows : (with_queues queues one).rows ≡ wanted.rows = queues_lead queues one wanted h.queues (record {
      long = long ∙ h.rows;
      slots = λ k lt. ap (λ (row : ThreadRow). row.slot) (at k (omega (arith, long, lt))) ∙ h.slots k (omega (arith, long, lt));
      queues = λ k lt. by k (at k (omega (arith, long, lt))) (h.other_queues k (omega (arith, long, lt)));
    }) in
    let two : with_queues queues one ≡ record core { rows = wanted.rows } = queues_others queues one ∙ ap (λ (l : List ThreadRow). record core { rows = l }) rows in
    let three : Core = record core { rows = wanted.rows } in
    let last : (with_outputs outputs three).outputs ≡ wanted.outputs = outputs_lead outputs three wanted (record {
      long = h.groups;
      bytes = each_map (Extends core wanted) (Extends three wanted) (λ x e. record { inside = e.inside; kept = e.kept; is = e.is }) outputs h.outputs;
      others = h.other_outputs;
    }) in
    let version = h.version in
    let split = h.split in
    ap (with_outputs outputs) two ∙ outputs_others outputs three ∙ (λ j. record { rows = wanted.rows; outputs = last j; version = version j; split = split j })
  where
    by : (k : ℕ) → row_at (record core { rows = with_slots changed slots core.rows }) k ≡ record (row_at core k) { slot = if get_or changed k false then get_or slots k no_slot else slot_in core k }
        → IsListed (λ (x : ℕ × List Event). x.0) k queues ⊎ (queue_in core k ≡ queue_in wanted k)
        → IsListed (λ (x : ℕ × List Event). x.0) k queues ⊎ (queue_in (record core { rows = with_slots changed slots core.rows }) k ≡ queue_in wanted k)
    by k at (inl listed) = inl listed
    by k at (inr same) = inr (ap (λ (row : ThreadRow). row.queue) at ∙ same)
