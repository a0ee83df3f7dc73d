-- The groups that may enter by the keys of a graph.
use Rattle.std.specs.Prelude.{◌≡◌, ℕ, ◌<◌, List, length}
use Rattle.mm_word.specs.Pointer.{Pointer}
use Rattle.mm_model.specs.{Reach.{Entries, MayEnter, Entries.{All as AnyEntry, These as TheseEntries}}}
use Rattle.mm_flow.specs.Flow.{Has}
use Rattle.mm_graph.specs.declared.entries.{Entries.{Entries as DeclaredEntries, TheVariants.{All, These}}}
use Rattle.mm_graph.specs.declared.{canonical_ptr.CanonicalPtr.CanonicalPtr, seed.Seed.Seed}
use Rattle.mm_graph.specs.Key.{key_at, key_of, pointer_at}

-- the entries that a value of the type stands for
abbrev pub meaning : DeclaredEntries → Entries
meaning All = AnyEntry
meaning (These list) = TheseEntries list.items

pub record IsEntryMasks (e : Entries) (keys : List CanonicalPtr) (masks : List ℕ) : Type 0 where
  pub len : length masks ≡ length keys
  pub only : (k g : ℕ) → k < length keys → Has masks k g → MayEnter e g (pointer_at (key_at keys k))
  pub each : (k g : ℕ) → k < length keys → g < 64 → MayEnter e g (pointer_at (key_at keys k)) → Has masks k g

-- the seed is that of an entry
pub record IsEntrySeed (p : ℕ × Pointer) (s : Seed) : Type 0 where
  pub group : s.group ≡ p.0
  pub pointer : pointer_at s.key ≡ p.1
  pub key : s.key ≡ key_of p.1
