-- Inputs that are told are read in one way: their values, or one refusal.
use Rattle.std.proofs.Common.{◌≡◌, ℕ, ◌+◌, inl, inr, List, [], ◌∷◌, ◌++◌, length, Option, None, Some, true, false, refl}
use Rattle.std.{proofs.Common.{sym, ap, ◌∙◌, subst, arith, append_assoc, append-nil}, specs.Option.IsSome}
use Rattle.mm_io.specs.Files.{Holds}
use Rattle.mm_load.specs.{declared.status.Refusal.Refusal, Kinds.{Value, Accepts, Faults}}
use Rattle.mm_load.specs.Files.{Accepted, InputRefused, FilesAccepted, FilesRefused, FilesTold, InputsAccepted}
use Rattle.mm_load.specs.Files.{InputsRefused, InputsTold, ToldFilesRefused, ToldInputsRefused}
use Rattle.mm_load.proofs.KindsOnce.{AreSound, sound_value, sound_more, one_value, one_fault, value_or_fault}
use Rattle.mm_cli.specs.declared.table.Kind.{Kind}

-- 1. One input.

told_bytes : (told : Option (List ℕ)) (a b : List ℕ) → IsSome told → Holds told a → Holds told b → a ≡ b
told_bytes None a b told one two = let clash : false ≡ true = told in absurd (cc)
told_bytes (Some bytes) a b told one two = one ∙ sym two

module _ (kind : Kind) (before : List Value) (told : Option (List ℕ)) (is_told : IsSome told) (sound : AreSound before) where
  file_value : (v w : Value) → Accepted kind before told v → Accepted kind before told w → v ≡ w
  file_value v w one two =
      let same : two.bytes ≡ one.bytes = told_bytes told two.bytes one.bytes is_told two.holds one.holds in
      one_value kind before one.bytes v w sound one.means (subst (λ (bytes : List ℕ). Accepts kind before bytes w) same two.means)

  file_refusal : (number : ℕ) (r q : Refusal) → InputRefused kind before number told r → InputRefused kind before number told q → r ≡ q
  file_refusal number r q (inl (is, long)) (inl (also, longer)) = is ∙ sym also
  file_refusal number r q (inl (is, (long, holds, more))) (inr faulty) =
      let same : long ≡ faulty.bytes = told_bytes told long faulty.bytes is_told holds faulty.holds in
      absurd (omega (arith, faulty.short, ap length same))
  file_refusal number r q (inr faulty) (inl (is, (long, holds, more))) =
      let same : long ≡ faulty.bytes = told_bytes told long faulty.bytes is_told holds faulty.holds in
      absurd (omega (arith, faulty.short, ap length same))
  file_refusal number r q (inr one) (inr two) =
      let same : two.bytes ≡ one.bytes = told_bytes told two.bytes one.bytes is_told two.holds one.holds in
      one_fault kind before number one.bytes r q one.fault (subst (λ (bytes : List ℕ). Faults kind before number bytes q) same two.fault)

  file_once : (number : ℕ) (r : Refusal) (v : Value) → InputRefused kind before number told r → Accepted kind before told v → ⊥
  file_once number r v (inl (is, (long, holds, more))) accepted =
      let same : long ≡ accepted.bytes = told_bytes told long accepted.bytes is_told holds accepted.holds in
      omega (arith, accepted.short, ap length same)
  file_once number r v (inr faulty) accepted =
      let same : faulty.bytes ≡ accepted.bytes = told_bytes told faulty.bytes accepted.bytes is_told faulty.holds accepted.holds in
      value_or_fault kind before number accepted.bytes r v sound (subst (λ (bytes : List ℕ). Faults kind before number bytes r) same faulty.fault) accepted.means

-- 2. Files one after the other.

-- a file that is accepted has a value as it is read
sound_file : (kind : Kind) (before : List Value) (told : Option (List ℕ)) (v : Value) → AreSound before → Accepted kind before told v → AreSound (before ++ v ∷ [])
sound_file kind before told v sound accepted = sound_more before v sound (sound_value kind before accepted.bytes v accepted.means)

module _ (held : List ℕ → Option (List ℕ)) where
  sound_files : (before : List Value) (files : List (List ℕ × Kind)) (vs : List Value) → AreSound before → FilesAccepted held before files vs → AreSound (before ++ vs)
  sound_files before [] [] sound accepted = subst AreSound (sym (append-nil before)) sound
  sound_files before [] (v ∷ vs) sound accepted = absurd accepted
  sound_files before (file ∷ files) [] sound accepted = absurd accepted
  sound_files before (file ∷ files) (v ∷ vs) sound (here, rest) =
      subst AreSound (append_assoc before (v ∷ []) vs)
      (sound_files (before ++ v ∷ []) files vs (sound_file file.1 before (held file.0) v sound here) rest)

  files_values : (before : List Value) (files : List (List ℕ × Kind)) (vs ws : List Value) → AreSound before → FilesTold held files
      → FilesAccepted held before files vs → FilesAccepted held before files ws → vs ≡ ws
  files_values before [] [] [] sound told one two = refl
  files_values before [] [] (w ∷ ws) sound told one two = absurd two
  files_values before [] (v ∷ vs) ws sound told one two = absurd one
  files_values before (file ∷ files) [] ws sound told one two = absurd one
  files_values before (file ∷ files) (v ∷ vs) [] sound told one two = absurd two
  files_values before (file ∷ files) (v ∷ vs) (w ∷ ws) sound told (here, rest) (also, others) =
      let same : w ≡ v = file_value file.1 before (held file.0) told.0 sound w v also here in
      let behind : vs ≡ ws = files_values (before ++ v ∷ []) files vs ws (sound_file file.1 before (held file.0) v sound here) told.1 rest
      (subst (λ (x : Value). FilesAccepted held (before ++ x ∷ []) files ws) same others) in
      cc

  told_refusal : (before : List Value) (files : List (List ℕ × Kind)) (r q : Refusal) → AreSound before → ToldFilesRefused held before files r → FilesRefused held before files q → r ≡ q
  told_refusal before [] r q sound one two = absurd one
  told_refusal before (file ∷ files) r q sound (told, inl one) (inl two) = file_refusal file.1 before (held file.0) told sound (length before + 1) r q one two
  told_refusal before (file ∷ files) r q sound (told, inl one) (inr (v, accepted, two)) = absurd (file_once file.1 before (held file.0) told sound (length before + 1) r v one accepted)
  told_refusal before (file ∷ files) r q sound (told, inr (v, accepted, one)) (inl two) = absurd (file_once file.1 before (held file.0) told sound (length before + 1) q v two accepted)
  told_refusal before (file ∷ files) r q sound (told, inr (v, accepted, one)) (inr (w, also, two)) =
      let same : w ≡ v = file_value file.1 before (held file.0) told sound w v also accepted in
      told_refusal (before ++ v ∷ []) files r q (sound_file file.1 before (held file.0) v sound accepted) one (subst (λ (x : Value). FilesRefused held (before ++ x ∷ []) files q) same two)

  told_once : (before : List Value) (files : List (List ℕ × Kind)) (r : Refusal) (vs : List Value) → AreSound before → ToldFilesRefused held before files r → FilesAccepted held before files vs → ⊥
  told_once before [] r vs sound refused accepted = refused
  told_once before (file ∷ files) r [] sound refused accepted = accepted
  told_once before (file ∷ files) r (v ∷ vs) sound (told, inl refused) (here, rest) = file_once file.1 before (held file.0) told sound (length before + 1) r v refused here
  told_once before (file ∷ files) r (v ∷ vs) sound (told, inr (w, also, refused)) (here, rest) =
      let same : v ≡ w = file_value file.1 before (held file.0) told sound v w here also in
      told_once (before ++ w ∷ []) files r vs (sound_file file.1 before (held file.0) w sound also) refused (subst (λ (x : Value). FilesAccepted held (before ++ x ∷ []) files vs) same rest)

  files_once : (before : List Value) (files : List (List ℕ × Kind)) (r : Refusal) (vs : List Value) → AreSound before → FilesTold held files
      → FilesRefused held before files r → FilesAccepted held before files vs → ⊥
  files_once before [] r vs sound told refused accepted = refused
  files_once before (file ∷ files) r [] sound told refused accepted = accepted
  files_once before (file ∷ files) r (v ∷ vs) sound told (inl refused) (here, rest) = file_once file.1 before (held file.0) told.0 sound (length before + 1) r v refused here
  files_once before (file ∷ files) r (v ∷ vs) sound told (inr (w, also, refused)) (here, rest) =
      let same : w ≡ v = file_value file.1 before (held file.0) told.0 sound w v also here in
      files_once (before ++ v ∷ []) files r vs (sound_file file.1 before (held file.0) v sound here) told.1 (subst (λ (x : Value). FilesRefused held (before ++ x ∷ []) files r) same refused) rest

-- 3. Standard input behind them.

module _ (held : List ℕ → Option (List ℕ)) (left : Option (List ℕ)) (files : List (List ℕ × Kind)) where
  pub inputs_values : (kind : Option Kind) (vs ws : List Value) → InputsTold held left files kind → InputsAccepted held left files kind vs
      → InputsAccepted held left files kind ws → vs ≡ ws
  inputs_values None vs ws told one two = files_values held [] files vs ws tt told one two
  inputs_values (Some kind) vs ws told (before, v, is, front, here) (others, w, also, others_front, there) =
      let same : others ≡ before = files_values held [] files others before tt told.0 others_front front in
      let last : v ≡ w = file_value kind before left told.1 (sound_files held [] files before tt front) v w here (subst (λ (vs : List Value). Accepted kind vs left w) same there) in
      is ∙ ap (λ (x : Value). before ++ x ∷ []) last ∙ ap (λ (vs : List Value). vs ++ w ∷ []) (sym same) ∙ sym also

  pub told_inputs_refusal : (kind : Option Kind) (r q : Refusal) → ToldInputsRefused held left files kind r → InputsRefused held left files kind q → r ≡ q
  told_inputs_refusal None r q one two = told_refusal held [] files r q tt one two
  told_inputs_refusal (Some kind) r q (inl one) (inl two) = told_refusal held [] files r q tt one two
  told_inputs_refusal (Some kind) r q (inl one) (inr (before, front, two)) = absurd (told_once held [] files r before tt one front)
  told_inputs_refusal (Some kind) r q (inr one) (inl two) = absurd (files_once held [] files q one.before tt one.told two one.accepted)
  told_inputs_refusal (Some kind) r q (inr one) (inr (others, front, two)) =
      let same : others ≡ one.before = files_values held [] files others one.before tt one.told front one.accepted in
      file_refusal kind one.before left one.input_told (sound_files held [] files one.before tt one.accepted) 0 r q one.refused (subst (λ (vs : List Value). InputRefused kind vs 0 left q) same two)

  pub told_inputs_once : (kind : Option Kind) (r : Refusal) (vs : List Value) → ToldInputsRefused held left files kind r → InputsAccepted held left files kind vs → ⊥
  told_inputs_once None r vs refused accepted = told_once held [] files r vs tt refused accepted
  told_inputs_once (Some kind) r vs (inl refused) (before, v, is, front, here) = told_once held [] files r before tt refused front
  told_inputs_once (Some kind) r vs (inr one) (before, v, is, front, here) =
      let same : before ≡ one.before = files_values held [] files before one.before tt one.told front one.accepted in
      file_once kind one.before left one.input_told (sound_files held [] files one.before tt one.accepted) 0 r v one.refused (subst (λ (vs : List Value). Accepted kind vs left v) same here)

  pub inputs_once : (kind : Option Kind) (r : Refusal) (vs : List Value) → InputsTold held left files kind → InputsRefused held left files kind r
      → InputsAccepted held left files kind vs → ⊥
  inputs_once None r vs told refused accepted = files_once held [] files r vs tt told refused accepted
  inputs_once (Some kind) r vs told (inl refused) (before, v, is, front, here) = files_once held [] files r before tt told.0 refused front
  inputs_once (Some kind) r vs told (inr (others, others_front, refused)) (before, v, is, front, here) =
      let same : others ≡ before = files_values held [] files others before tt told.0 others_front front in
      file_once kind before left told.1 (sound_files held [] files before tt front) 0 r v (subst (λ (vs : List Value). InputRefused kind vs 0 left r) same refused) here
