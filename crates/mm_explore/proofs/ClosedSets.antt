-- Closed sets of configurations.
use Rattle.std.proofs.Common.{◌≡◌, inl, inr, ℕ, List, [], ◌∷◌, ◌++◌, refl, sym, ap, ◌∙◌, subst, append_assoc, append-nil}
use Rattle.mm_model.specs.{State.State, Image.{Image, start}, Run.run}
use Rattle.mm_explore.specs.{Closed.{LeadsOn, IsClosed, IsAtEnd}, Explored.leads_to, Findings.IsFinal}
use Rattle.mm_explore.specs.{Laws.{Passes, ClosedSetsAreLedOn, FinalsAreClosed}}
use Rattle.mm_explore.proofs.{Coverings.{leads_alike, leads_more}, Movings.{moves_or_idles, idle_leads}, Orders.more}

module _ (i : Image) where
  -- 1. What leads on to what.

  pub all_alike : (s t items : List ℕ) → leads_to i s ≡ leads_to i t → leads_to i (s ++ items) ≡ leads_to i (t ++ items)
  all_alike s t [] e = ap (leads_to i) (append-nil s) ∙ e ∙ sym (ap (leads_to i) (append-nil t))
  all_alike s t (x ∷ items) e =
      ap (leads_to i) (sym (append_assoc s (x ∷ []) items)) ∙ all_alike (more s x) (more t x) items (leads_alike i s t x e)
      ∙ ap (leads_to i) (append_assoc t (x ∷ []) items)

  pub on_same : (s t : List ℕ) → leads_to i s ≡ leads_to i t → LeadsOn i s t
  on_same s t e = record { items = []; leads = ap (leads_to i) (append-nil s) ∙ e }

  pub on_items : (s items : List ℕ) → LeadsOn i s (s ++ items)
  on_items s items = record { items = items; leads = refl }

  pub on_trans : (s t u : List ℕ) → LeadsOn i s t → LeadsOn i t u → LeadsOn i s u
  on_trans s t u a b = record {
    items = a.items ++ b.items;
    leads = ap (leads_to i) (sym (append_assoc s a.items b.items)) ∙ all_alike (s ++ a.items) t b.items a.leads ∙ b.leads;
  }

  pub on_alike : (s t u v : List ℕ) → leads_to i s ≡ leads_to i u → leads_to i t ≡ leads_to i v → LeadsOn i s t → LeadsOn i u v
  on_alike s t u v e f a = on_trans u s v (on_same u s (sym e)) (on_trans s t v a (on_same t v f))

  -- 2. Closed sets.

  module _ (members : State → Type 0) (k : IsClosed i members) where
    kept_all : (s items : List ℕ) → members (leads_to i s) → members (leads_to i (s ++ items))
    kept_all s [] h = subst (λ t. members (leads_to i t)) (sym (append-nil s)) h
    kept_all s (x ∷ items) h = subst (λ t. members (leads_to i t)) (append_assoc s (x ∷ []) items) (kept_all (more s x) items (k.kept s x h))

    pub led_member : (s t : List ℕ) → members (leads_to i s) → LeadsOn i s t → members (leads_to i t)
    led_member s t h on = subst members on.leads (kept_all s on.items h)

  -- a schedule to which all that it leads on to leads back is in a closed set
  pub recurrent_ends : (s : List ℕ) → ((items : List ℕ) → LeadsOn i (s ++ items) s) → IsAtEnd i s
  recurrent_ends s back = record {
    some = (s, record { by = s; on = on_same s s refl; is = refl });
    kept = λ u item h. record {
      by = more h.by item;
      on = on_trans s h.by (more h.by item) h.on (on_items h.by (item ∷ []));
      is = leads_alike i u h.by item h.is;
    };
    joined = λ u v hu hv.
        let here : LeadsOn i u s = on_alike (s ++ hu.on.items) s u s (hu.on.leads ∙ sym hu.is) refl (back hu.on.items) in
        on_trans u s v here (on_trans s hv.by v hv.on (on_same hv.by v (sym hv.is)));
  }

  pub ends_back : (s : List ℕ) → IsAtEnd i s → (t : List ℕ) → LeadsOn i s t → LeadsOn i t s
  ends_back s k t on = k.joined t s (record { by = t; on = on; is = refl }) (record { by = s; on = on_same s s refl; is = refl })

  -- what is led on to from a schedule in a closed set is in one
  pub end_led : (s t : List ℕ) → IsAtEnd i s → LeadsOn i s t → IsAtEnd i t
  end_led s t k on = recurrent_ends t (λ items.
      on_trans (t ++ items) s t (ends_back s k (t ++ items) (on_trans s t (t ++ items) on (on_items t items))) on)

  pub end_alike : (s t : List ℕ) → leads_to i s ≡ leads_to i t → IsAtEnd i s → IsAtEnd i t
  end_alike s t e k = end_led s t k (on_same s t e)

  -- 3. Final configurations.

  pub final_stays : (t : List ℕ) → IsFinal i t → (n : ℕ) → leads_to i (more t n) ≡ leads_to i t
  final_stays t final n = elim (moves_or_idles (run (start i) t) n) [
    | inl move ↦ final n move
    | inr k ↦ leads_more i t n ∙ idle_leads (run (start i) t) n k.0 k.1
  ]

  pub final_stays_all : (t items : List ℕ) → IsFinal i t → leads_to i (t ++ items) ≡ leads_to i t
  final_stays_all t [] final = ap (leads_to i) (append-nil t)
  final_stays_all t (x ∷ items) final =
      ap (leads_to i) (sym (append_assoc t (x ∷ []) items)) ∙ all_alike (more t x) t items (final_stays t final x) ∙ final_stays_all t items final

  pub final_like : (s t : List ℕ) → leads_to i s ≡ leads_to i t → IsFinal i s → IsFinal i t
  final_like s t e final m move = leads_alike i t s m (sym e) ∙ final_stays s final m ∙ e

pub closed_sets_are_led_on : ClosedSetsAreLedOn
closed_sets_are_led_on i test k s h = record {
  closed = recurrent_ends i s (λ items. k.joined (s ++ items) s (led_member i (Passes test) k s (s ++ items) h (on_items i s items)) h);
  inside = λ t there. k.joined s t h there;
  led = λ t on. led_member i (Passes test) k s t h on;
}

pub finals_are_closed : FinalsAreClosed
finals_are_closed i t final = record {
  closed = recurrent_ends i t (λ items. on_same i (t ++ items) t (final_stays_all i t items final));
  alone = λ s on. sym on.leads ∙ final_stays_all i t on.items final;
}
