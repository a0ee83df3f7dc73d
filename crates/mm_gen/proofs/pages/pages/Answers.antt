use Rattle.std.proofs.Common.{◌≡◌, ℕ, ◌+◌, ◌*◌, List, ◌++◌, ap, sym, ◌∙◌, arith}
use Rattle.mm_word.specs.declared.word.Cell.{Cell}
use Rattle.mm_gen.specs.{Generated.nth_number, Steps.pages_behind}
use Rattle.mm_gen.proofs.{Numbers.{nth_number-none, nth_number-add}, PageLists.pages_more}
use Rattle.mm_gen.proofs.pages.pages.Goals as goal

pub loop-slot-init : goal.loop-slot-init
loop-slot-init c = record { last = nth_number-none c.args.number; pages = c.in_ok-pages.ensures.items }

pub loop-slot-preserved : goal.loop-slot-preserved
loop-slot-preserved c =
    let n = c.loop-slot.slot in
    let place : 512 * n + 512 ≡ 512 * (n + 1) = omega arith in
    record {
      last = c.in_ok-push_pages.ensures.last ∙ ap (λ (x : ℕ). nth_number x 512) c.loop-slot.invariant.last ∙ nth_number-add c.args.number (512 * n) 512 ∙ ap (nth_number c.args.number) place;
      pages = c.in_ok-push_pages.ensures.pages ∙ ap (λ (pages : List (ℕ × List Cell)). pages ++ pages_behind c.loop-slot.last n) c.loop-slot.invariant.pages
          ∙ sym (pages_more c.args.number n c.loop-slot.last c.loop-slot.invariant.last);
    }
