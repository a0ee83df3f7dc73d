use Rattle.std.proofs.Common.{◌≡◌, ◌∙◌, ◌++◌, ◌+◌, ◌<◌, Bool, List, [], ℕ, Option, Some, None, rules, sym, ap, arith}
use Rattle.std.proofs.Common.{length, drop, append_assoc, append-nil}
use Rattle.mm_word.specs.declared.word.Cell.{Cell}
use Rattle.mm_model.specs.{Report.page_change, Memory.{Memory, is_mapped}}
use Rattle.mm_text.proofs.Appending.{appends_then, appends_same}
use Rattle.mm_report.specs.{Changes.contents, Pages.{numbers, first, lesser, behind}}
use Rattle.mm_report.proofs.Unions.{lines_of, change_at, all_lines, no_lines, one_line, shorter, small_number}
use Rattle.mm_report.proofs.page_changes.put_pages.Goals as goal

pub loop-number-init : goal.loop-number-init
loop-number-init g c = record {
  text = [];
  gathered = search rules;
  rest = sym (all_lines (g.M.Memory.meaning c.args.mem.now) (contents c.args.pages.now) c.requires.rising);
  mapped = omega arith;
  had = omega arith;
}

-- the number is the least that is left
least : (now was : List ℕ) (a b o : Option ℕ) (n : ℕ) → a ≡ first now → b ≡ first was → o ≡ lesser a b → o ≡ Some n → lesser (first now) (first was) ≡ Some n
least now was a b o n ea eb eo is = ap (λ x. lesser x (first was)) (sym ea) ∙ ap (lesser a) (sym eb) ∙ sym eo ∙ is

none_left : (now was : List ℕ) (a b o : Option ℕ) → a ≡ first now → b ≡ first was → o ≡ lesser a b → o ≡ None → lesser (first now) (first was) ≡ None
none_left now was a b o ea eb eo is = ap (λ x. lesser x (first was)) (sym ea) ∙ ap (lesser a) (sym eb) ∙ sym eo ∙ is

pub is_there-requires-clause-number : goal.is_there-requires-clause-number
is_there-requires-clause-number g c =
    let now : List (ℕ × List Cell) = (g.M.Memory.meaning c.args.mem.now).pages in
    small_number now c.args.pages.now c.loop-number.i c.loop-number.j c.in-Some.number c.requires.paged.pages.whole c.requires.whole
    (least (drop c.loop-number.i (numbers now)) (drop c.loop-number.j (numbers c.args.pages.now)) c.mapped_at.result c.had_at.result c.lesser.result c.in-Some.number
    c.mapped_at.ensures.number c.had_at.ensures c.lesser.ensures c.in-Some.is)

pub loop-number-preserved : goal.loop-number-preserved
loop-number-preserved g c =
    let now : Memory = g.M.Memory.meaning c.args.mem.now in
    let was : Memory = contents c.args.pages.now in
    let n : ℕ = c.in-Some.number in
    let xs : List ℕ = drop c.loop-number.i (numbers now.pages) in
    let ys : List ℕ = drop c.loop-number.j (numbers was.pages) in
    let w = c.loop-number.invariant in
    let is : lesser (first xs) (first ys) ≡ Some n =
    least xs ys c.mapped_at.result c.had_at.result c.lesser.result n c.mapped_at.ensures.number c.had_at.ensures c.lesser.ensures c.in-Some.is in
    let line : page_change n c.is_there.result c.was_there.result ≡ change_at now was n =
    ap (λ (b : Bool). page_change n b c.was_there.result) c.is_there.ensures ∙ ap (page_change n (is_mapped now n)) c.was_there.ensures in
    let left : lines_of now was (drop c.mapped_behind-i.result (numbers now.pages)) (drop c.had_behind-j.result (numbers was.pages)) ≡ lines_of now was (behind n xs) (behind n ys) =
    ap (λ (zs : List ℕ). lines_of now was zs (drop c.had_behind-j.result (numbers was.pages))) c.mapped_behind-i.ensures.rest
    ∙ ap (lines_of now was (behind n xs)) c.had_behind-j.ensures.rest in
    record {
      text = w.text ++ change_at now was n;
      gathered = appends_then w.gathered (appends_same c.put_page_change.ensures line);
      rest =
          ap (λ (text : List ℕ). (w.text ++ change_at now was n) ++ text) left
          ∙ append_assoc w.text (change_at now was n) (lines_of now was (behind n xs) (behind n ys))
          ∙ ap (λ (text : List ℕ). w.text ++ text) (sym (one_line now was xs ys n is))
          ∙ w.rest;
      mapped = c.mapped_behind-i.ensures.place;
      had = c.had_behind-j.ensures.place;
    }

pub loop-number-smaller : goal.loop-number-smaller
loop-number-smaller g c =
    let now : Memory = g.M.Memory.meaning c.args.mem.now in
    let n : ℕ = c.in-Some.number in
    let xs : List ℕ = drop c.loop-number.i (numbers now.pages) in
    let ys : List ℕ = drop c.loop-number.j (numbers c.args.pages.now) in
    let is : lesser (first xs) (first ys) ≡ Some n =
    least xs ys c.mapped_at.result c.had_at.result c.lesser.result n c.mapped_at.ensures.number c.had_at.ensures c.lesser.ensures c.in-Some.is in
    let lt : length (behind n xs) + length (behind n ys) < length xs + length ys = shorter xs ys n is in
    let left : length (drop c.mapped_behind-i.result (numbers now.pages)) ≡ length (behind n xs) = ap length c.mapped_behind-i.ensures.rest in
    let right : length (drop c.had_behind-j.result (numbers c.args.pages.now)) ≡ length (behind n ys) = ap length c.had_behind-j.ensures.rest in
    omega arith

pub returns : goal.returns
returns g c =
    let now : Memory = g.M.Memory.meaning c.args.mem.now in
    let was : Memory = contents c.args.pages.now in
    let xs : List ℕ = drop c.loop-number.i (numbers now.pages) in
    let ys : List ℕ = drop c.loop-number.j (numbers was.pages) in
    let w = c.loop-number.invariant in
    let none : lesser (first xs) (first ys) ≡ None = none_left xs ys c.mapped_at.result c.had_at.result c.lesser.result c.mapped_at.ensures.number c.had_at.ensures c.lesser.ensures c.in_default.is in
    appends_same w.gathered (sym (append-nil w.text) ∙ ap (λ (text : List ℕ). w.text ++ text) (sym (no_lines now was xs ys none)) ∙ w.rest)
