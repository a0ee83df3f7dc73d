use Rattle.std.proofs.Common.{◌≡◌, ◌<◌, ℕ, List, [], ◌∷◌, ◌++◌, length, get_or, set, sym, ap, ◌∙◌, arith}
use Rattle.std.proofs.lemmas.List.{take_all}
use Rattle.mm_word.specs.declared.word.Cell.{Cell}
use Rattle.mm_frames.specs.Framed.{memory_of, rows_with}
use Rattle.mm_frames.proofs.{Rows.paired, Counts.{with_push, below_more}, Seating.{seat_more, whole_more}}
use Rattle.mm_frames.proofs.frames.seat.Goals as goal

pub loop-i-preserved : goal.loop-i-preserved
loop-i-preserved c =
    let i = c.loop-i.i in
    let rows : List (ℕ × ℕ) = c.loop-i.rows.items in
    let cells : List (List Cell) = c.loop-i.frames.items in
    let pages : List (ℕ × List Cell) = c.args.pages.now in
    let page : ℕ × List Cell = c.index-pages-i.result in
    let is : page ≡ get_or pages i page = c.index-pages-i.is in
    let some : i < length pages = omega (arith, c.loop-i-test.true) in
    let free : i < length cells = omega (arith, some, c.requires.enough, c.loop-i.invariant.frames, c.loop-i.frames.ok.0) in
    let none : rows_with i rows ≡ 0 = grind (arith, c.loop-i.invariant.once i, below_more i i) in
    let pushed : c.push.new.self.items ≡ rows ++ (page.0, i) ∷ [] = c.in-Ok.ensures.items ∙ ap (λ (n : ℕ). rows ++ (n, i) ∷ []) c.number.ensures.number in
    record {
      seated = ap (paired (λ frame. get_or (set cells i c.copy.new.self) frame [])) pushed
          ∙ ap (λ (new : List Cell). paired (λ frame. get_or (set cells i new) frame []) (rows ++ (page.0, i) ∷ [])) c.copy.ensures
          ∙ seat_more cells rows pages i page free some is none c.loop-i.invariant.seated;
      whole = whole_more pages i page some is c.loop-i.invariant.whole c.number.ensures.page.whole;
      once = λ n. omega (arith, ap (rows_with n) pushed, with_push n (page.0, i) rows, below_more n i, c.loop-i.invariant.once n);
      len = omega (arith, c.in-Ok.ensures.len, c.loop-i.invariant.len);
      frames = c.loop-i.invariant.frames;
      capacity = omega (arith, c.in-Ok.ensures.capacity, c.loop-i.invariant.capacity);
    }

pub returns-clause-contents : goal.returns-clause-contents
unfolding memory_of
returns-clause-contents c =
    let pages : List (ℕ × List Cell) = c.args.pages.now in
    let cells : List (List Cell) = c.loop-i.frames.items in
    ap (λ (es : List (ℕ × List Cell)). record { pages = es; frames = length cells }) (c.loop-i.invariant.seated ∙ take_all c.loop-i.i pages (omega (arith, c.loop-i-test.false)))
    ∙ ap (λ (n : ℕ). record { pages = pages; frames = n }) (sym c.loop-i.frames.ok.0 ∙ c.loop-i.invariant.frames)
