-- The lists of uses to which a cached memory stands, after a part of a call.
use Rattle.std.proofs.Common.{◌≡◌, ℕ, ◌+◌, Bool, true, false, ◌&&◌, List, [], ◌∷◌, ◌++◌, Option, None, Some, is_some}
use Rattle.std.proofs.Common.{replicate, slice_get, refl, sym, ap, subst, ◌∙◌}
use Rattle.std.specs.Prelude.{slice_set, IfSome, IfNone}
use Rattle.mm_word.specs.declared.{perm.Kind.Kind, word.Cell.Cell}
use Rattle.mm_model.specs.{Uses.{Use, Accessed, Removed}, Counted.{block_of, line_of, writes}}
use Rattle.mm_cache.specs.{declared.line.CacheLine.CacheLine, Lines.{hits, with_cell, without_page}}
use Rattle.mm_vmem.specs.Stands.{LineState, state_at, state_has, sought, after_looks, next_numbers}
use Rattle.mm_vmem.specs.{declared.tlb.Entry.Entry, Entries.pages_in, Cached.{Cached, StandsTo, line_states}}
use Rattle.mm_vmem.proofs.Steps.{stands_counted, stands_no_page, stands_removed, stands_marked, stands_none}
use Rattle.mm_vmem.proofs.LineStates.{tag_hits, lines_there, sought_there, numbers_there, tag_brought, tags_written}
use Rattle.mm_vmem.proofs.LineStates.{tags_without, tags_empty, same_counts}
use Rattle.mm_frames.specs.Framed.{Framed}

abbrev tag_here : Cached → ℕ → Option LineState
tag_here m w = state_at (line_states m.lines) (line_of (block_of w))

-- a hit
pub stands_hit : (now : Cached) (w : ℕ) (us : List Use) (kind : Kind) (done : Bool) → hits now.lines (block_of w) ≡ true → (writes kind && done) ≡ false → StandsTo now us
    → StandsTo (record now { uses = now.uses + 1; numbers = record now.numbers { hits = now.numbers.hits + 1 } }) (us ++ Accessed kind w true done ∷ [])
stands_hit now w us kind done hit nothing old =
    let there : state_has (tag_here now w) (block_of w) ≡ true = tag_hits now.lines (block_of w) ∙ hit in
    stands_counted now.uses (now.uses + 1) (line_states now.lines) (line_states now.lines) (pages_in now.entries) (pages_in now.entries) now.numbers
    (record now.numbers { hits = now.numbers.hits + 1 }) us kind w done refl
    (lines_there (line_states now.lines) (block_of w) (writes kind && done) there nothing)
    (ap (λ (ps : List ℕ). after_looks ps (pages_in now.entries)) (sym (sought_there (tag_here now w) (block_of w) there)))
    (numbers_there (tag_here now w) (block_of w) there (pages_in now.entries) now.numbers)
    old

-- a miss, or an access without a page
pub stands_miss : (now begun new : Cached) (w : ℕ) (us : List Use) (kind : Kind) (done : Bool) (r : Option Cell) → begun ≡ record now { uses = now.uses + 1 }
    → hits now.lines (block_of w) ≡ false → (writes kind && done) ≡ false → new.uses ≡ begun.uses
    → IfNone r (new ≡ begun)
    → IfSome r (λ cell. line_states new.lines ≡ slice_set (line_states begun.lines) (line_of (block_of w)) (Some (record { block = block_of w; dirty = false })))
    → IfSome r (λ cell. pages_in new.entries ≡ after_looks (sought (tag_here begun w) (block_of w)) (pages_in begun.entries))
    → IfSome r (λ cell. new.numbers ≡ next_numbers (tag_here begun w) (block_of w) (pages_in begun.entries) begun.numbers)
    → StandsTo now us → StandsTo new (us ++ Accessed kind w (is_some r) done ∷ [])
stands_miss now begun new w us kind done None begun_is absent nothing count same lines entries numbers old =
    subst (λ (m : Cached). StandsTo m (us ++ Accessed kind w false done ∷ [])) (sym (same ∙ begun_is))
    (stands_no_page now.uses (now.uses + 1) (line_states now.lines) (pages_in now.entries) now.numbers us kind w done refl old)
stands_miss now begun new w us kind done (Some c) begun_is absent nothing count same lines entries numbers old =
    let missing : state_has (tag_here now w) (block_of w) ≡ false = tag_hits now.lines (block_of w) ∙ absent in
    stands_counted now.uses new.uses (line_states now.lines) (line_states new.lines) (pages_in now.entries) (pages_in new.entries) now.numbers new.numbers us kind w done
    (count ∙ ap (λ (m : Cached). m.uses) begun_is)
    (lines
    ∙ ap (λ (m : Cached). slice_set (line_states m.lines) (line_of (block_of w)) (Some (record { block = block_of w; dirty = false }))) begun_is
    ∙ ap (λ (t : Option LineState). slice_set (line_states now.lines) (line_of (block_of w)) t) (sym (tag_brought (tag_here now w) (block_of w) missing (writes kind && done) nothing)))
    (entries ∙ ap (λ (m : Cached). after_looks (sought (tag_here m w) (block_of w)) (pages_in m.entries)) begun_is)
    (numbers ∙ ap (λ (m : Cached). next_numbers (tag_here m w) (block_of w) (pages_in m.entries) m.numbers) begun_is)
    old

-- a cell that is written after its access
pub stands_written : (now : Cached) (lines : List (Option CacheLine)) (w : ℕ) (c : Cell) (us : List Use) (kind : Kind) → lines ≡ with_cell now.lines w c → hits now.lines (block_of w) ≡ true
    → writes kind ≡ true
    → StandsTo now (us ++ Accessed kind w true false ∷ []) → StandsTo (record now { lines = lines }) (us ++ Accessed kind w true true ∷ [])
stands_written now lines w c us kind is hit writing old =
    stands_marked now.uses (line_states now.lines) (line_states lines) (pages_in now.entries) now.numbers us kind w writing (tags_written now.lines lines w c is hit) old

-- a page that is removed
pub stands_page_removed : (now new : Cached) (us : List Use) (page : ℕ) → new.uses ≡ now.uses → new.lines ≡ without_page page now.lines → new.entries ≡ [] → new.numbers ≡ now.numbers
    → StandsTo now us → StandsTo new (us ++ Removed page ∷ [])
stands_page_removed now new us page uses lines entries numbers old =
    let stood = stands_removed now.uses (line_states now.lines) (line_states new.lines) (pages_in now.entries) (pages_in new.entries) now.numbers us page
    (ap line_states lines ∙ tags_without page now.lines) (ap pages_in entries) old in
    record { count = uses ∙ stood.count; lines_are = stood.lines_are; buffer_is = stood.buffer_is; numbers_are = numbers ∙ stood.numbers_are }

-- nothing that counts has changed
pub stands_same : (now new : Cached) (us : List Use) → new.uses ≡ now.uses → new.lines ≡ now.lines → new.entries ≡ now.entries → new.numbers ≡ now.numbers → StandsTo now us → StandsTo new us
stands_same now new us uses lines entries numbers old = record {
  count = uses ∙ old.count;
  lines_are = λ i small. ap (λ (ls : List (Option CacheLine)). slice_get (line_states ls) i) lines ∙ old.lines_are i small;
  buffer_is = ap pages_in entries ∙ old.buffer_is;
  numbers_are = numbers ∙ old.numbers_are;
}

-- new contents
pub stands_new : (f : Framed) (lines : List (Option CacheLine)) (entries : List Entry) → f.reads ≡ 0 → f.writes ≡ 0 → lines ≡ replicate 64 None → entries ≡ []
    → StandsTo (record {
      frames = f;
      lines = lines;
      entries = entries;
      uses = 0;
      numbers = record { hits = 0; misses = 0; writebacks = 0; tlb_hits = 0; tlb_misses = 0; reads = f.reads; writes = f.writes };
    }) []
stands_new f lines entries reads writes lines_are entries_are =
    stands_none (line_states lines) (pages_in entries) _ (λ i small. ap (λ (ls : List (Option CacheLine)). slice_get (line_states ls) i) lines_are ∙ tags_empty 64 i small) (ap pages_in entries_are)
    (same_counts _ _ refl refl refl refl refl reads writes)
