-- Lists, as loops read them.
use Rattle.std.proofs.Common.{◌≡◌, ℕ, zero, suc, ◌+◌, ◌-◌, ◌/◌, ◌%◌, ◌^◌, ◌≤◌, ◌<◌, Bool, true, false, cond, Option}
use Rattle.std.proofs.Common.{Some, List, [], ◌∷◌, ◌++◌, drop, length, get_or, refl, sym, ap, subst, ◌∙◌, append_assoc}
use Rattle.std.{proofs.{Common.arith, lemmas.List.{append-nil, drop_more, drop_all}}, specs.Prelude.◌==◌}
use Rattle.mm_format.specs.declared.reader.ReadError.{ReadError, TheVariants.{Fault, NoMemory}}
use Rattle.mm_format.specs.Formats.{Parsed, Format, after, answer, cons, times, each, runs, sixteen, Parsed.{Got, Bad}}
use Rattle.mm_format.specs.{Images.flags_of, Reading.FailsOr}
use Rattle.mm_model.proofs.FlagLists.{flags-get}

module _ {A : Type 0} where
  -- what was read before, and what is still read
  abbrev pub prefixed : List A → Parsed (List A) → Parsed (List A)
  prefixed front read = after read (λ others end. Got (front ++ others) end)

  regroup : (front : List A) (x : A) (o : Parsed (List A))
      → prefixed front (after o (λ others end. Got (x ∷ others) end)) ≡ prefixed (front ++ x ∷ []) o
  regroup front x (Got others end) = ap (λ xs. Got xs end) (sym (append_assoc front (x ∷ []) others))
  regroup front x (Bad n p) = refl

  pub nothing_before : (o : Parsed (List A)) → prefixed [] o ≡ o
  nothing_before (Got xs end) = refl
  nothing_before (Bad n p) = refl

  pub is_read : (front : List A) (at : ℕ) (total : Parsed (List A)) → prefixed front (Got [] at) ≡ total → total
      ≡ Got front at
  is_read front at total so_far = sym so_far ∙ ap (λ xs. Got xs at) (append-nil front)

  module _ (f : Format A) (rest : A → Format (List A)) (bytes : List ℕ) (at : ℕ) (front : List A)
      (total : Parsed (List A)) (so_far : prefixed front ((cons f rest).read bytes at) ≡ total) where
    pub one_more : (a : A) (next : ℕ) → f.read bytes at ≡ Got a next
        → prefixed (front ++ a ∷ []) ((rest a).read bytes next) ≡ total
    unfolding cons
    one_more a next e =
        sym (regroup front a ((rest a).read bytes next))
        ∙ sym (ap (λ o. prefixed front
        (after o (λ x n. after ((rest x).read bytes n) (λ others end. Got (x ∷ others) end)))) e)
        ∙ so_far

    pub stops : {K : Type 0} (number : K → ℕ) (wants : Type 0) (e : ReadError K) → FailsOr wants number (f.read bytes at) e → FailsOr wants number total e
    unfolding cons
    stops number wants NoMemory fails = fails
    stops number wants (Fault kind offset) fails =
        sym so_far ∙ ap (λ o. prefixed front
        (after o (λ x n. after ((rest x).read bytes n) (λ others end. Got (x ∷ others) end)))) fails

-- the loop over a count
module _ {S A : Type 0} (f : S → Format A) (onward : S → A → S) (count k : ℕ) (s : S) (bytes : List ℕ) (at : ℕ)
    (front : List A) (total : Parsed (List A))
    (so_far : prefixed front ((times f onward (count - k) s).read bytes at) ≡ total) where
  unrolled : k < count → prefixed front
      ((cons (f s) (λ a. times f onward (count - (k + 1)) (onward s a))).read bytes at) ≡ total
  unrolled lt =
      let some : count - k ≡ suc (count - (k + 1)) = omega arith in
      subst (λ n. prefixed front ((times f onward n s).read bytes at) ≡ total) some so_far

  pub times_more : k < count → (a : A) (next : ℕ) → (f s).read bytes at ≡ Got a next
      → prefixed (front ++ a ∷ []) ((times f onward (count - (k + 1)) (onward s a)).read bytes next) ≡ total
  times_more lt a next e = one_more (f s) (λ a. times f onward (count - (k + 1)) (onward s a)) bytes at front total
      (unrolled lt) a next e

  pub times_stop : k < count → {K : Type 0} (number : K → ℕ) (wants : Type 0) (e : ReadError K) → FailsOr wants number ((f s).read bytes at) e → FailsOr wants number total e
  times_stop lt number wants e fails = stops (f s) (λ a. times f onward (count - (k + 1)) (onward s a)) bytes at front total
      (unrolled lt) number wants e fails

  pub times_read : count ≤ k → total ≡ Got front at
  times_read le =
      let none : count - k ≡ 0 = omega arith in
      is_read front at total (subst (λ n. prefixed front ((times f onward n s).read bytes at) ≡ total) none so_far)

-- the loop over a list
module _ {B A : Type 0} (f : B → Format A) (bs : List B) (k : ℕ) (d : B) (bytes : List ℕ) (at : ℕ) (front : List A)
    (total : Parsed (List A)) (so_far : prefixed front ((each f (drop k bs)).read bytes at) ≡ total) where
  each_unrolled : k < length bs
      → prefixed front ((cons (f (get_or bs k d)) (λ _. each f (drop (k + 1) bs))).read bytes at) ≡ total
  each_unrolled lt = subst (λ xs. prefixed front ((each f xs).read bytes at) ≡ total) (drop_more bs k d lt) so_far

  pub each_more : k < length bs → (a : A) (next : ℕ) → (f (get_or bs k d)).read bytes at ≡ Got a next
      → prefixed (front ++ a ∷ []) ((each f (drop (k + 1) bs)).read bytes next) ≡ total
  each_more lt a next e = one_more (f (get_or bs k d)) (λ _. each f (drop (k + 1) bs)) bytes at front total
      (each_unrolled lt) a next e

  pub each_stop : k < length bs → {K : Type 0} (number : K → ℕ) (wants : Type 0) (e : ReadError K) → FailsOr wants number ((f (get_or bs k d)).read bytes at) e → FailsOr wants number total e
  each_stop lt number wants e fails = stops (f (get_or bs k d)) (λ _. each f (drop (k + 1) bs)) bytes at front total
      (each_unrolled lt) number wants e fails

  pub each_read : length bs ≤ k → total ≡ Got front at
  each_read le = is_read front at total
      (subst (λ xs. prefixed front ((each f xs).read bytes at) ≡ total) (drop_all k bs le) so_far)

-- the loop over any records
module _ {S A : Type 0} (read : S → List ℕ → ℕ → Parsed A) (onward : S → A → S) (count k : ℕ) (s : S)
    (bytes : List ℕ) (at : ℕ) (front : List A) (total : Parsed (List A))
    (so_far : prefixed front (runs read onward (count - k) s bytes at) ≡ total) where
  abbrev others : A → ℕ → Parsed (List A)
  others a next = after (runs read onward (count - (k + 1)) (onward s a) bytes next) (λ xs end. Got (a ∷ xs) end)

  runs_unrolled : k < count → prefixed front (after (read s bytes at) others) ≡ total
  runs_unrolled lt =
      let some : count - k ≡ suc (count - (k + 1)) = omega arith in
      subst (λ n. prefixed front (runs read onward n s bytes at) ≡ total) some so_far

  pub runs_more : k < count → (a : A) (next : ℕ) → read s bytes at ≡ Got a next
      → prefixed (front ++ a ∷ []) (runs read onward (count - (k + 1)) (onward s a) bytes next) ≡ total
  runs_more lt a next e =
      sym (regroup front a (runs read onward (count - (k + 1)) (onward s a) bytes next))
      ∙ sym (ap (λ o. prefixed front (after o others)) e) ∙ runs_unrolled lt

  pub runs_stop : k < count → {K : Type 0} (number : K → ℕ) (wants : Type 0) (e : ReadError K) → FailsOr wants number (read s bytes at) e → FailsOr wants number total e
  runs_stop lt number wants NoMemory fails = fails
  runs_stop lt number wants (Fault kind offset) fails =
      sym (runs_unrolled lt) ∙ ap (λ o. prefixed front (after o others)) fails

  pub runs_read : count ≤ k → total ≡ Got front at
  runs_read le =
      let none : count - k ≡ 0 = omega arith in
      is_read front at total (subst (λ n. prefixed front (runs read onward n s bytes at) ≡ total) none so_far)

pub runs_begin : {S A : Type 0} (read : S → List ℕ → ℕ → Parsed A) (onward : S → A → S) (count : ℕ) (s : S)
    (bytes : List ℕ) (at : ℕ)
    → prefixed [] (runs read onward (count - 0) s bytes at) ≡ runs read onward count s bytes at
runs_begin read onward count s bytes at =
    let all : count - 0 ≡ count = omega arith in
    nothing_before (runs read onward (count - 0) s bytes at) ∙ ap (λ n. runs read onward n s bytes at) all

-- a list is the same if what follows its first value is
cons_same : {A : Type 0} (o : Parsed A) (f g : A → ℕ → Parsed (List A))
    → ((a : A) (next : ℕ) → f a next ≡ g a next)
    → after o (λ a next. after (f a next) (λ xs end. Got (a ∷ xs) end))
    ≡ after o (λ a next. after (g a next) (λ xs end. Got (a ∷ xs) end))
cons_same (Got a next) f g same = ap (λ o. after o (λ xs end. Got (a ∷ xs) end)) (same a next)
cons_same (Bad k p) f g same = refl

-- the same records, where what stands before them is told in another way
pub runs_told : {S T A : Type 0} (to : S → T) (read : T → List ℕ → ℕ → Parsed A) (onward : S → A → S)
    (onto : T → A → T) → ((s : S) (a : A) → onto (to s) a ≡ to (onward s a))
    → (n : ℕ) (s : S) (bytes : List ℕ) (at : ℕ)
    → runs (λ s. read (to s)) onward n s bytes at ≡ runs read onto n (to s) bytes at
runs_told to read onward onto same zero s bytes at = refl
runs_told to read onward onto same (suc n) s bytes at =
    cons_same (read (to s) bytes at) _ _ (λ a next. runs_told to read onward onto same n (onward s a) bytes next
    ∙ ap (λ t. runs read onto n t bytes next) (sym (same s a)))

-- a format's list is read so
pub times_runs : {S A : Type 0} (f : S → Format A) (onward : S → A → S) (n : ℕ) (s : S) (bytes : List ℕ) (at : ℕ)
    → (times f onward n s).read bytes at ≡ runs (λ t. (f t).read) onward n s bytes at
unfolding cons
times_runs f onward zero s bytes at = refl
times_runs f onward (suc n) s bytes at =
    cons_same ((f s).read bytes at) _ _ (λ a next. times_runs f onward n (onward s a) bytes next)

-- so is a value for each of a list, where each place is read as its format reads
each_runs : {B A : Type 0} (f : B → Format A) (bs : List B) (d : B) (read : ℕ → List ℕ → ℕ → Parsed A) (s : ℕ)
    → ((k : ℕ) → k < length bs → (f (get_or bs k d)).read ≡ read (s + k)) → (bytes : List ℕ) (at : ℕ)
    → (each f bs).read bytes at ≡ runs read (λ k _. k + 1) (length bs) s bytes at
unfolding cons
each_runs f [] d read s same bytes at = refl
each_runs f (b ∷ bs) d read s same bytes at =
    let here : s + 0 ≡ s = omega arith in
    let later : (k : ℕ) → s + suc k ≡ s + 1 + k = λ k. omega arith in
    cons_same ((f b).read bytes at) _ _ (λ a next. each_runs f bs d read (s + 1)
    (λ k lt. same (suc k) (omega (arith, lt)) ∙ ap read (later k)) bytes next)
    ∙ ap (λ r. after (r bytes at) (λ a next. after (runs read (λ k _. k + 1) (length bs) (s + 1) bytes next)
    (λ xs end. Got (a ∷ xs) end))) (same 0 (omega arith) ∙ ap read here)

-- so of sixteen
pub each_sixteen : {B A : Type 0} (f : B → Format A) (bs : List B) (d : B) (read : ℕ → List ℕ → ℕ → Parsed A)
    → length bs ≡ 16 → ((k : ℕ) → k < 16 → (f (get_or bs k d)).read ≡ read k) → (bytes : List ℕ) (at : ℕ)
    → (each f bs).read bytes at ≡ sixteen read bytes at
unfolding sixteen
each_sixteen f bs d read long same bytes at =
    let alone : (k : ℕ) → k ≡ 0 + k = λ k. omega arith in
    each_runs f bs d read 0 (λ k lt. same k (subst (λ n. k < n) long lt) ∙ ap read (alone k)) bytes at
    ∙ ap (λ n. runs read (λ k _. k + 1) n 0 bytes at) long

-- a value for each of sixteen flags
pub flags_sixteen : {A : Type 0} (f : Bool → Format A) (tags : ℕ) (bytes : List ℕ) (at : ℕ)
    → (each f (flags_of tags)).read bytes at ≡ sixteen (λ k. (f (tags / 2 ^ k % 2 == 1)).read) bytes at
unfolding flags_of
flags_sixteen f tags =
    each_sixteen f (flags_of tags) false _ refl (λ k lt. ap (λ b. (f b).read) (flags-get 16 tags k lt))

-- a test that is made late
pub late_stop : {K A : Type 0} (number : K → ℕ) (bad : Bool) (n at : ℕ) (rest total : Option (ℕ × ℕ)) (v : A) (end : ℕ)
    → cond bad (Some (n, at)) rest ≡ total → (wants : Type 0) (e : ReadError K)
    → FailsOr wants number (cond bad (Bad n at) (Got false 0)) e → FailsOr wants number (answer total v end) e
late_stop number bad n at rest total v end same wants NoMemory fails = fails
late_stop number true n at rest total v end same wants (Fault kind offset) fails =
    let one : n ≡ number kind = cc in
    let two : at ≡ offset = cc in
    ap (λ o. answer o v end) (sym same) ∙ ap (λ m. Bad m at) one ∙ ap (Bad (number kind)) two
late_stop number false n at rest total v end same wants (Fault kind offset) fails = absurd cc

-- what is never in want of memory fails as what may be
pub fails_so : {K A : Type 0} (number : K → ℕ) (wants : Type 0) (read : Parsed A) (e : ReadError K) → FailsOr ⊥ number read e
    → FailsOr wants number read e
fails_so number wants read NoMemory fails = absurd fails
fails_so number wants read (Fault kind offset) fails = fails
