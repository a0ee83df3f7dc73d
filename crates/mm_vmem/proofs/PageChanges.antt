-- A cached memory whose pages change, or whose contents are set.
use Rattle.std.proofs.Common.{◌≡◌, ℕ, ◌^◌, ◌<◌, Bool, true, false, List, [], ◌∷◌, map, replicate, Option, None, Some}
use Rattle.std.{proofs.Common.{is_some, refl, sym, ap, subst, arith, ◌∙◌}, specs.Prelude.{IfSome, IfNone}}
use Rattle.mm_vmem.proofs.{Entries.none_of, Held.AreRight}
use Rattle.mm_vmem.specs.{declared.tlb.Entry.Entry, Cached.{Cached, IsCached, AreFew}}
use Rattle.mm_word.specs.declared.word.Cell.{Cell}
use Rattle.mm_model.specs.Memory.{Memory, IsPaged, is_mapped, can_map, map_page, unmap_page}
use Rattle.mm_model.proofs.Memories.{can_map-facts}
use Rattle.mm_mem.specs.Answers.{after_map, after_unmap}
use Rattle.mm_mem.proofs.Flats.{map_refused, map_done, unmap_refused, unmap_done}
use Rattle.mm_frames.specs.Framed.{Framed, frame_of, memory_of, seated, without}
use Rattle.mm_frames.proofs.Framed.{has_frame_is_mapped, frame_of-seated_other, frame_of-without_other}
use Rattle.mm_cache.specs.{declared.line.CacheLine.CacheLine, Lines.without_page, Over.{over, lay}, Laws.Cover}
use Rattle.mm_cache.proofs.MapPages.{pages_are_over, empty_lines_are_over}

-- the same memory over other frames, which count their blocks themselves
abbrev pub with_frames : Cached → Framed → Cached
with_frames m f = record m { frames = f; numbers = record m.numbers { reads = f.reads; writes = f.writes } }

few_with : (m : Cached) (f g : Framed) → g.reads ≡ f.reads → g.writes ≡ f.writes → AreFew (with_frames m f).numbers m.uses → AreFew (with_frames m g).numbers m.uses
few_with m f g reads writes few =
    let before = few.reads in
    let written = few.writes in
    record { accesses = few.accesses; writebacks = few.writebacks; look_ups = few.look_ups; reads = omega (arith, before, reads); writes = omega (arith, written, writes) }

-- 1. A page is mapped.

not_there : (f : Framed) (page q frame : ℕ) → frame_of f page ≡ None → frame_of f q ≡ Some frame → q ≡ page → ⊥
not_there f page q frame none some same = let at : frame_of f page ≡ Some frame = ap (frame_of f) (sym same) ∙ some in cc

right_seated : (f : Framed) (page frame : ℕ) (es : List Entry) → frame_of f page ≡ None → AreRight f es → AreRight (seated f page frame) es
right_seated f page frame [] none right = tt
right_seated f page frame (e ∷ es) none right =
    (frame_of-seated_other f page frame e.page (not_there f page e.page e.frame none right.0) ∙ right.0, right_seated f page frame es none right.1)

right_without : (f : Framed) (page : ℕ) (es : List Entry) → frame_of f page ≡ None → AreRight f es → AreRight (without f page) es
right_without f page [] none right = tt
right_without f page (e ∷ es) none right =
    (frame_of-without_other f page e.page (not_there f page e.page e.frame none right.0) ∙ right.0, right_without f page es none right.1)

no_frame : (f : Framed) (page : ℕ) → is_mapped (memory_of f) page ≡ false → frame_of f page ≡ None
no_frame f page free = none_of (frame_of f page) (has_frame_is_mapped f page ∙ free)

pub map_held : (m : Cached) (f g : Framed) (page : ℕ) (r : Option ℕ) → IsCached (with_frames m f) → page < 2 ^ 42 → is_some r ≡ can_map (memory_of f) page
    → IfSome r (λ frame. g ≡ seated f page frame) → IfNone r (g ≡ f) → memory_of g ≡ after_map (memory_of f) page → IsCached (with_frames m g)
map_held m f g page None held small answer after same memory = subst (λ (h : Framed). IsCached (with_frames m h)) (sym same) held
map_held m f g page (Some frame) held small answer after same memory =
    let can : can_map (memory_of f) page ≡ true = sym answer in
    let made : memory_of g ≡ map_page (memory_of f) page = memory ∙ sym (map_done (memory_of f) page can) in
    let free : frame_of f page ≡ None = no_frame f page (can_map-facts (memory_of f) page can).0 in
    record {
      cover = subst (λ (n : Memory). Cover m.lines n) (sym made) (pages_are_over.map_cover (memory_of f) m.lines page held.cover can small);
      right = subst (λ (h : Framed). AreRight h m.entries) (sym after) (right_seated f page frame m.entries free held.right);
      few = few_with m f g (ap (λ (h : Framed). h.reads) after) (ap (λ (h : Framed). h.writes) after) held.few;
    }

pub map_meaning : (m n : Memory) (ls : List (Option CacheLine)) (page : ℕ) → Cover ls m → n ≡ after_map m page → over n ls ≡ after_map (over m ls) page
map_meaning m n ls page cover is = by (can_map m page) refl
  where
    by : (b : Bool) → can_map m page ≡ b → over n ls ≡ after_map (over m ls) page
    by true can =
        ap (λ (x : Memory). over x ls) (is ∙ sym (map_done m page can))
        ∙ pages_are_over.map m ls page cover (can_map-facts m page can).0
        ∙ map_done (over m ls) page (pages_are_over.can_map m ls page ∙ can)
    by false cannot =
        ap (λ (x : Memory). over x ls) (is ∙ sym (map_refused m page cannot))
        ∙ map_refused (over m ls) page (pages_are_over.can_map m ls page ∙ cannot)

-- 2. A page is removed, or was not there.

pub unmap_held : (m : Cached) (f g : Framed) (page : ℕ) (lines : List (Option CacheLine)) (entries : List Entry) → IsCached (with_frames m f) → is_mapped (memory_of f) page ≡ true
    → g ≡ without f page → memory_of g ≡ after_unmap (memory_of f) page → lines ≡ without_page page m.lines → entries ≡ [] → IsCached (record (with_frames m g) { lines = lines; entries = entries })
unmap_held m f g page lines entries held mapped after memory lines_are entries_are =
    let made : memory_of g ≡ unmap_page (memory_of f) page = memory ∙ sym (unmap_done (memory_of f) page mapped) in
    record {
      cover = subst (λ (ls : List (Option CacheLine)). Cover ls (memory_of g)) (sym lines_are)
          (subst (λ (n : Memory). Cover (without_page page m.lines) n) (sym made) (pages_are_over.unmap_cover (memory_of f) m.lines page held.cover));
      right = subst (λ (es : List Entry). AreRight g es) (sym entries_are) tt;
      few = few_with m f g (ap (λ (h : Framed). h.reads) after) (ap (λ (h : Framed). h.writes) after) held.few;
    }

pub refused_held : (m : Cached) (f g : Framed) (page : ℕ) → IsCached (with_frames m f) → is_mapped (memory_of f) page ≡ false
    → g ≡ without f page → memory_of g ≡ after_unmap (memory_of f) page → IsCached (with_frames m g)
refused_held m f g page held absent after memory = record {
  cover = subst (λ (n : Memory). Cover m.lines n) (unmap_refused (memory_of f) page absent ∙ sym memory) held.cover;
  right = subst (λ (h : Framed). AreRight h m.entries) (sym after) (right_without f page m.entries (no_frame f page absent) held.right);
  few = few_with m f g (ap (λ (h : Framed). h.reads) after) (ap (λ (h : Framed). h.writes) after) held.few;
}

pub unmap_meaning : (m n : Memory) (ls lines : List (Option CacheLine)) (page : ℕ) → Cover ls m → is_mapped m page ≡ true → n ≡ after_unmap m page → lines ≡ without_page page ls
    → over n lines ≡ after_unmap (over m ls) page
unmap_meaning m n ls lines page cover mapped is lines_are =
    ap (over n) lines_are
    ∙ ap (λ (x : Memory). over x (without_page page ls)) (is ∙ sym (unmap_done m page mapped))
    ∙ pages_are_over.unmap m ls page cover
    ∙ unmap_done (over m ls) page (pages_are_over.mapped m ls page ∙ mapped)

pub refused_meaning : (m n : Memory) (ls : List (Option CacheLine)) (page : ℕ) → is_mapped m page ≡ false → n ≡ after_unmap m page → over n ls ≡ after_unmap (over m ls) page
refused_meaning m n ls page absent is =
    ap (λ (x : Memory). over x ls) (is ∙ sym (unmap_refused m page absent))
    ∙ unmap_refused (over m ls) page (pages_are_over.mapped m ls page ∙ absent)

-- 3. The numbers of the pages.

numbers_of : {X Y : Type 0} (h : ℕ → X → Y) (es : List (ℕ × X)) → map (λ (e : ℕ × Y). e.0) (map (λ (e : ℕ × X). (e.0, h e.0 e.1)) es) ≡ map (λ (e : ℕ × X). e.0) es
numbers_of h [] = refl
numbers_of h (e ∷ es) = ap (λ (ns : List ℕ). e.0 ∷ ns) (numbers_of h es)

pub numbers_over : (m : Memory) (ls : List (Option CacheLine)) → map (λ (e : ℕ × List Cell). e.0) (over m ls).pages ≡ map (λ (e : ℕ × List Cell). e.0) m.pages
unfolding over
numbers_over m ls = numbers_of (λ (n : ℕ) (cells : List Cell). lay ls n 0 cells) m.pages

-- 4. New contents.

pub new_held : (f : Framed) (lines : List (Option CacheLine)) (entries : List Entry) → IsPaged (memory_of f) → f.reads ≡ 0 → f.writes ≡ 0 → lines ≡ replicate 64 None → entries ≡ []
    → IsCached (record {
      frames = f;
      lines = lines;
      entries = entries;
      uses = 0;
      numbers = record { hits = 0; misses = 0; writebacks = 0; tlb_hits = 0; tlb_misses = 0; reads = f.reads; writes = f.writes };
    })
new_held f lines entries paged reads writes lines_are entries_are = record {
  cover = subst (λ (ls : List (Option CacheLine)). Cover ls (memory_of f)) (sym lines_are) (empty_lines_are_over.cover (memory_of f) paged);
  right = subst (λ (es : List Entry). AreRight f es) (sym entries_are) tt;
  few = record { accesses = omega arith; writebacks = omega arith; look_ups = omega arith; reads = omega (arith, reads); writes = omega (arith, writes) };
}

pub new_meaning : (f : Framed) (lines : List (Option CacheLine)) → lines ≡ replicate 64 None → over (memory_of f) lines ≡ memory_of f
new_meaning f lines lines_are = ap (over (memory_of f)) lines_are ∙ empty_lines_are_over.map (memory_of f)
