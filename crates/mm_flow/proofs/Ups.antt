-- Climbing, and one segment more.
use Rattle.std.proofs.Common.{◌≡◌, ℕ, ◌-◌, ◌<◌, ◌≤◌, inl, inr, List, [], ◌∷◌, ◌++◌, length, slice_index, refl, sym}
use Rattle.std.proofs.Common.{subst, arith}
use Rattle.mm_seg.proofs.Searches.{same_or_below}
use Rattle.mm_flow.specs.{Sharing.{Up, Up.{here, over}}, Forest.{IsNested, IsForest, Climbed, Climbed.{found, missed}}}
use Rattle.mm_flow.proofs.SharedMarks.{push_cases, push_length, Pushed.{last, before}}

before_push : (par : List ℕ) (v k : ℕ) → k < length par → slice_index (par ++ v ∷ []) k ≡ slice_index par k
before_push par v k lt = elim (push_cases par v k (omega arith)) [ last e f ↦ absurd (omega arith) | before small f ↦ f ]

last_push : (par : List ℕ) (v : ℕ) → slice_index (par ++ v ∷ []) (length par) ≡ v
last_push par v = elim (push_cases par v (length par) (omega arith)) [ last e f ↦ f | before small f ↦ absurd (omega arith) ]

Up_old : (par : List ℕ) (v j k : ℕ) → k < length par → Up (par ++ v ∷ []) j k → Up par j k
Up_old par v j k lt (here e) = here e
Up_old par v j k lt (over small u) =
    let e = before_push par v k lt in
    over (omega arith) (subst (Up par j) e (Up_old par v j (slice_index (par ++ v ∷ []) k) (omega arith) u))

Up_new : (par : List ℕ) (v j k : ℕ) → k < length par → Up par j k → Up (par ++ v ∷ []) j k
Up_new par v j k lt (here e) = here e
Up_new par v j k lt (over small u) =
    let e = before_push par v k lt in
    over (omega arith) (subst (Up (par ++ v ∷ []) j) (sym e) (Up_new par v j (slice_index par k) (omega arith) u))

-- the node pushed last
module _ (bases ends par : List ℕ) (v : ℕ) (n : IsNested bases ends) (f : IsForest bases ends par) (small : length par < length bases)
    (down_last : (j : ℕ) → v < length par → Up par j v → (j ≤ length par) × (slice_index bases (length par) < slice_index ends j))
    (up_last : (j : ℕ) → j < length par → slice_index bases (length par) < slice_index ends j → (v < length par) × Up par j v) where
  down_at : (j : ℕ) → Up (par ++ v ∷ []) j (length par) → (j ≤ length par) × (slice_index bases (length par) < slice_index ends j)
  down_at j (here e) = (omega arith, subst (λ w. slice_index bases (length par) < slice_index ends w) (sym e) (n.some (length par) small))
  down_at j (over lt u) =
      let e = last_push par v in
      down_last j (omega arith) (Up_old par v j v (omega arith) (subst (Up (par ++ v ∷ []) j) e u))

  up_at : (j : ℕ) → j ≤ length par → slice_index bases (length par) < slice_index ends j → Up (par ++ v ∷ []) j (length par)
  up_at j le lt = elim (same_or_below j (length par) (omega arith)) [
    | inr e ↦ here e
    | inl less ↦
        let two = up_last j less lt in
        let e = last_push par v in
        over (let lt2 = two.0 in omega arith) (subst (Up (par ++ v ∷ []) j) (sym e) (Up_new par v j v two.0 two.1))
  ]

  pub forest_more : IsForest bases ends (par ++ v ∷ [])
  forest_more = record {
    down = λ j k lt u. elim (same_or_below k (length par) (let q = push_length par v (length par) refl in omega arith)) [
      | inl less ↦ f.down j k less (Up_old par v j k less u)
      | inr e ↦ subst (λ w. (j ≤ w) × (slice_index bases w < slice_index ends j)) (sym e) (down_at j (subst (Up (par ++ v ∷ []) j) e u))
    ];
    up = λ j k lt le inside. elim (same_or_below k (length par) (let q = push_length par v (length par) refl in omega arith)) [
      | inl less ↦ Up_new par v j k less (f.up j k less le inside)
      | inr e ↦ subst (Up (par ++ v ∷ []) j) (sym e) (up_at j (subst (λ w. j ≤ w) e le) (subst (λ w. slice_index bases w < slice_index ends j) e inside))
    ];
  }

pub forest_first : (bases ends par : List ℕ) (v : ℕ) → IsNested bases ends → IsForest bases ends par → length par ≡ 0 → 0 < length bases → IsForest bases ends (par ++ v ∷ [])
forest_first bases ends par v n f e lt = forest_more bases ends par v n f (omega arith) (λ j less u. absurd (omega arith)) (λ j less inside. absurd (omega arith))

pub forest_climbed : (bases ends par : List ℕ) (v k : ℕ) → IsNested bases ends → IsForest bases ends par
    → length par ≡ k → 0 < k → k < length bases → Climbed ends par (k - 1) (slice_index bases k) k v
    → IsForest bases ends (par ++ v ∷ [])
forest_climbed bases ends par v k n f e pos lt c =
    forest_more bases ends par v n f (omega arith) (λ j less u. downs j (omega arith) u c) (λ j less inside. ups j (omega arith) (subst (λ w. slice_index bases w < slice_index ends j) e inside) c)
  where
    ends_along : (j : ℕ) → j ≤ v → v < length bases → slice_index bases v < slice_index ends j → slice_index ends v ≤ slice_index ends j
    ends_along j le small inside = elim (same_or_below j v (omega arith)) [
      | inl less ↦ n.nested j v less small inside
      | inr same ↦ subst (λ w. slice_index ends v ≤ slice_index ends w) (sym same) (omega arith)
    ]

    downs : (j : ℕ) → v < k → Up par j v → Climbed ends par (k - 1) (slice_index bases k) k v → (j ≤ length par) × (slice_index bases (length par) < slice_index ends j)
    downs j less u (missed is none) = absurd (omega arith)
    downs j less u (found le inside all) =
        let d = f.down j v (omega arith) u in
        let low = d.0 in
        let longer = ends_along j d.0 (omega arith) d.1 in
        (omega arith, subst (λ w. slice_index bases w < slice_index ends j) (sym e) (omega arith))

    ups : (j : ℕ) → j < k → slice_index bases k < slice_index ends j → Climbed ends par (k - 1) (slice_index bases k) k v → (v < length par) × Up par j v
    ups j less inside (missed is none) = absurd (none j (omega arith) inside)
    ups j less inside (found le at all) = (omega arith, all j (omega arith) inside)
