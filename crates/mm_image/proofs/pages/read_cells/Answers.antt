use Rattle.std.proofs.Common.{◌≡◌, ℕ, ◌+◌, ◌<◌, Bool, false, List, [], ◌∷◌, ◌++◌, length, map, get_or, take, refl, sym}
use Rattle.std.proofs.{Common.{ap, subst, ◌∙◌, arith}, lemmas.{Result.err_from_is_err_and, List.take_all}}
use Rattle.mm_word.specs.declared.word.Cell.{Cell}
use Rattle.mm_format.specs.{Formats.Parsed.Got, Images.{word, bits_in}, Reading.FailsOr}
use Rattle.mm_format.proofs.{Images.{bits_count, bits_item}, Loops.{each_more, each_stop, each_read, fails_so}}
use Rattle.mm_image.specs.Faults.{number_of}
use Rattle.mm_image.proofs.pages.read_cells.Goals as goal

abbrev word_in : Cell → Rattle.mm_word.specs.declared.word.Word.Word
word_in c = c.word

abbrev full_in : Cell → Bool
full_in c = c.full

map_push : {B : Type 0} (f : Cell → B) (xs : List Cell) (x : Cell) → map f (xs ++ x ∷ []) ≡ map f xs ++ f x ∷ []
map_push f [] x = refl
map_push f (y ∷ xs) x = ap (λ zs. f y ∷ zs) (map_push f xs x)

take_more : (fs : List Bool) (k : ℕ) → k < length fs → take (k + 1) fs ≡ take k fs ++ get_or fs k false ∷ []
take_more fs k lt = Rattle.std.proofs.lemmas.List.take_more fs k false lt

pub returns-in_err-word-clause-read : goal.returns-in_err-word-clause-read
returns-in_err-word-clause-read c =
    let p = err_from_is_err_and c.from_residual-in_err-word.result c.from_residual-in_err-word.ensures.1 in
    let l = c.loop-index in
    let bytes = l.reader.bytes.now in
    let tags = bits_in 512 c.args.tags.now in
    let fails = subst (λ b. FailsOr ⊥ number_of ((word b).read bytes l.reader.at) c.in_err-word.field-0.0)
    (c.bit.ensures ∙ bits_item 512 c.args.tags.now l.index c.loop-index-test.true) c.in_err-word.ensures.read.0 in (
      rw (p.1, p.2) (each_stop word tags l.index false bytes l.reader.at (map word_in l.cells.items) _ l.invariant.read
          (omega (arith, bits_count 512 c.args.tags.now, c.loop-index-test.true)) number_of _ c.in_err-word.field-0.0
          (fails_so number_of _ _ c.in_err-word.field-0.0 fails)),
      c.in_err-word.ensures.read.1 ∙ c.loop-index.invariant.same,
    )

pub loop-index-preserved : goal.loop-index-preserved
loop-index-preserved c =
    let l = c.loop-index in
    let w = c.in_ok-word.word in
    let bytes = l.reader.bytes.now in
    let tags = bits_in 512 c.args.tags.now in
    let full = bits_in 512 c.args.full.now in
    let next = c.read_word.new.reader.at in
    let cell : Cell = record { word = w; full = c.bit-in-loop-index.result } in
    let read = subst (λ b. (word b).read bytes l.reader.at ≡ Got w next)
    (c.bit.ensures ∙ bits_item 512 c.args.tags.now l.index c.loop-index-test.true) c.in_ok-word.ensures.read.0 in
    record {
      read = rw (c.in_ok-word.ensures.read.1, c.in_ok-push.ensures.items, map_push word_in l.cells.items cell)
          (each_more word tags l.index false bytes l.reader.at (map word_in l.cells.items) _ l.invariant.read
          (omega (arith, bits_count 512 c.args.tags.now, c.loop-index-test.true)) w next read);
      full = rw c.in_ok-push.ensures.items (map_push full_in l.cells.items cell
          ∙ ap (λ fs. fs ++ c.bit-in-loop-index.result ∷ []) l.invariant.full
          ∙ ap (λ b. take l.index full ++ b ∷ [])
          (c.bit-in-loop-index.ensures ∙ bits_item 512 c.args.full.now l.index c.loop-index-test.true)
          ∙ sym (take_more full l.index (omega (arith, bits_count 512 c.args.full.now, c.loop-index-test.true))));
      same = c.in_ok-word.ensures.read.1 ∙ l.invariant.same;
      count = c.in_ok-push.ensures.len ∙ ap (λ n. n + 1) l.invariant.count;
    }

pub returns-clause-read : goal.returns-clause-read
returns-clause-read c =
    let l = c.loop-index in (
      each_read word (bits_in 512 c.args.tags.now) l.index false l.reader.bytes.now l.reader.at (map word_in l.cells.items) _
          l.invariant.read (omega (arith, bits_count 512 c.args.tags.now, c.loop-index-test.false)),
      l.invariant.same,
    )

pub returns-clause-full : goal.returns-clause-full
returns-clause-full c =
    let l = c.loop-index in
    l.invariant.full ∙ take_all l.index (bits_in 512 c.args.full.now)
    (omega (arith, bits_count 512 c.args.full.now, c.loop-index-test.false))
