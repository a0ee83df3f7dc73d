-- The counts of a list of uses, said as facts about the list. The latest use is first.
use Rattle.std.{specs.Prelude.{◌≡◌, ℕ, Bool, true, false, List, [], ◌∷◌, ◌++◌}, proofs.Common.◌≢◌}
use Rattle.mm_word.specs.declared.perm.Kind.{Kind}
use Rattle.mm_model.specs.{Uses.{Use, Accessed, Removed}, Counted.{block_of, line_of, page_of_block, is_hit, writes}}

-- no counted access has this line index
abbrev pub NoneWithLine : ℕ → List Use → Type 0
NoneWithLine line [] = Unit {0}
NoneWithLine line (Accessed kind addr true done ∷ us) = (line_of (block_of addr) ≢ line) × NoneWithLine line us
NoneWithLine line (Accessed kind addr false done ∷ us) = NoneWithLine line us
NoneWithLine line (Removed page ∷ us) = NoneWithLine line us

-- no use removes the page
abbrev pub NotRemoved : ℕ → List Use → Type 0
NotRemoved page [] = Unit {0}
NotRemoved page (Accessed kind addr found done ∷ us) = NotRemoved page us
NotRemoved page (Removed p ∷ us) = (page ≢ p) × NotRemoved page us

-- the latest counted access with this line index was to this block, and its page was not removed since
pub record LatestWas (line block : ℕ) (us : List Use) : Type 0 where
  pub later : List Use
  pub kind : Kind
  pub addr : ℕ
  pub done : Bool
  pub earlier : List Use
  pub split : us ≡ later ++ Accessed kind addr true done ∷ earlier
  pub its_block : block_of addr ≡ block
  pub its_line : line_of block ≡ line
  pub latest : NoneWithLine line later
  pub stays : NotRemoved (page_of_block block) later

-- each access to this block in the list is a hit, if the uses `earlier` came before the list
abbrev pub HitsOnly : ℕ → List Use → List Use → Type 0
HitsOnly block earlier [] = Unit {0}
HitsOnly block earlier (Accessed kind addr true done ∷ us) =
    (block_of addr ≡ block → is_hit block (us ++ earlier) ≡ true) × HitsOnly block earlier us
HitsOnly block earlier (Accessed kind addr false done ∷ us) = HitsOnly block earlier us
HitsOnly block earlier (Removed page ∷ us) = HitsOnly block earlier us

-- a store or a set load on this block was done, and no access to the block missed since
pub record WroteSinceMiss (block : ℕ) (us : List Use) : Type 0 where
  pub later : List Use
  pub kind : Kind
  pub addr : ℕ
  pub earlier : List Use
  pub split : us ≡ later ++ Accessed kind addr true true ∷ earlier
  pub its_block : block_of addr ≡ block
  pub wrote : writes kind ≡ true
  pub hits : HitsOnly block (Accessed kind addr true true ∷ earlier) later
