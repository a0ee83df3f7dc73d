-- What a machine asks of its memory.
use Rattle.std.specs.Prelude.{◌≡◌, ℕ, ◌+◌, Bool, true, false, List, [], ◌∷◌, ◌++◌, Option, Some, None}
use Rattle.std.proofs.Common.{subst, append_assoc, sym, append-nil, arith}
use Rattle.mm_word.specs.declared.{perm.Kind.Kind, word.{Pre.Pre, Cell.Cell}}
use Rattle.mm_model.specs.Memory.{passes}

pub data Use : Type 0 where
  -- an access: its kind, its word, whether a page was found and whether it was done
  Accessed : (kind : Kind) (word : ℕ) (found done : Bool) → Use
  -- a page that was removed
  Removed : (page : ℕ) → Use

-- the use of an access to a word that has a cell or none: the access is done if the cell's bit
-- passes
abbrev pub use_at : Kind → ℕ → Pre → Option Cell → Use
use_at kind word pre None = Accessed kind word false false
use_at kind word pre (Some c) = Accessed kind word true (passes pre c.full)

-- the count of accesses in a list of uses
abbrev pub accesses : List Use → ℕ
accesses [] = 0
accesses (Accessed kind word found done ∷ us) = accesses us + 1
accesses (Removed page ∷ us) = accesses us

pub accesses-append : (us vs : List Use) → accesses (us ++ vs) ≡ accesses us + accesses vs
accesses-append [] vs = omega arith
accesses-append (Accessed kind word found done ∷ us) vs = omega (arith, accesses-append us vs)
accesses-append (Removed page ∷ us) vs = accesses-append us vs

-- whichever list of uses belongs to old, that list with `us` appended belongs to new
pub record TakesUses {M : Type 0} (stands : M → List Use → Type 0) (old new : M) (us : List Use) : Type 0 where
  pub each : (before : List Use) → stands old before → stands new (before ++ us)

module _ {M : Type 0} {stands : M → List Use → Type 0} where
  pub takes_none : (m : M) → TakesUses stands m m []
  takes_none m = record {
    each = λ before h. let P : List Use
        → Type 0 = λ us. stands m us in subst P (sym (append-nil before)) h;
  }

  -- two steps, one after the other, append both lists
  pub takes_both : {a b c : M} {us vs : List Use} → TakesUses stands a b us → TakesUses stands b c vs
      → TakesUses stands a c (us ++ vs)
  takes_both {c = c} {us = us} {vs = vs} first second = record {
    each = λ before h. let P : List Use → Type 0 = λ ws. stands c ws in
        subst P (append_assoc before us vs) (second.each (before ++ us) (first.each before h));
  }
