-- The lists of the meaning, as items of numbered items.
use Rattle.std.{proofs.Common.{◌≡◌, ℕ, ◌+◌, List, [], ◌∷◌, ◌++◌, refl, ap}, specs.List.flat_map}
use Rattle.mm_draft.specs.{declared.{fault.Failure.Failure, segment.Word.Word}, Drafts.{Segment, Draft}}
use Rattle.mm_object.specs.declared.{item.Item.Item, target.Reloc.Reloc}
use Rattle.mm_asm.specs.Faults.{word_failures, goal_failures}
use Rattle.mm_asm.specs.Meaning.{bits_of, word_items, content_relocs, words_relocs, segments_relocs}
use Rattle.mm_asm.proofs.Built.{numbered}

module _ (d : Draft) where
  abbrev pub goals_in : ℕ → Segment → List Failure
  goals_in k s = flat_map (word_failures d k) s.words

  pub goals_are : (k : ℕ) (segments : List Segment) → goal_failures d k segments ≡ numbered goals_in k segments
  goals_are k [] = refl
  goals_are k (s ∷ segments) = ap (λ fs. goals_in k s ++ fs) (goals_are (k + 1) segments)

  abbrev pub item_at : ℕ → Word → List Item
  item_at k w = record { bits = bits_of d k w.content; full = w.full } ∷ []

  pub items_are : (k : ℕ) (words : List Word) → word_items d k words ≡ numbered item_at k words
  items_are k [] = refl
  items_are k (w ∷ words) = ap (λ items. record { bits = bits_of d k w.content; full = w.full } ∷ items) (items_are (k + 1) words)

  abbrev pub reloc_at : ℕ → ℕ → Word → List Reloc
  reloc_at segment k w = content_relocs d segment k w.content

  pub words_are : (segment k : ℕ) (words : List Word) → words_relocs d segment k words ≡ numbered (reloc_at segment) k words
  words_are segment k [] = refl
  words_are segment k (w ∷ words) = ap (λ relocs. reloc_at segment k w ++ relocs) (words_are segment (k + 1) words)

  abbrev pub relocs_in : ℕ → Segment → List Reloc
  relocs_in k s = words_relocs d k 0 s.words

  pub segments_are : (k : ℕ) (segments : List Segment) → segments_relocs d k segments ≡ numbered relocs_in k segments
  segments_are k [] = refl
  segments_are k (s ∷ segments) = ap (λ relocs. relocs_in k s ++ relocs) (segments_are (k + 1) segments)
