use Rattle.std.proofs.Common.{◌≡◌, ◌+◌, ◌++◌, ◌∙◌, refl, sym, ap, append_assoc, append-nil, drop, length, arith, get_or}
use Rattle.std.{proofs.{Common.length-drop, lemmas.List.drop_all}, specs.List.flat_map}
use Rattle.mm_text.proofs.Appending.{appends_then, appends_same}
use Rattle.mm_explore.{specs.{Repeats.leading, Texts.{repeats_of, repeat_text}}, proofs.Repeats.{repeat, repeats_more}}
use Rattle.mm_explore.proofs.text.put_repeats.Goals as goal

pub loop-at-preserved : goal.loop-at-preserved
loop-at-preserved g c =
    let items = c.args.items.now in
    let at = c.loop-at.at in
    let item = get_or items at 0 in
    let more = c.leading-more.result in
    let before = c.loop-at.invariant in
    let value : more ≡ leading item (drop (at + 1) items) = c.leading-more.ensures.value ∙ ap (leading item) c.split_at.ensures.back in
    let first = repeat_text (repeat item (more + 1)) in
    let next = ap (flat_map repeat_text) (repeats_more items at item more c.loop-at-test.true refl value) in
    let long = length-drop (at + 1) items in
    let back = ap length c.split_at.ensures.back in
    let low = c.leading-more.ensures.within in
    let inside = c.loop-at-test.true in
    record {
      done = before.done ++ first;
      appends = appends_then before.appends c.put_repeat.ensures;
      left = append_assoc before.done first (flat_map repeat_text (repeats_of (drop (at + (more + 1)) items))) ∙ ap (λ text. before.done ++ text) (sym next) ∙ before.left;
      within = omega (arith, low, back, long, inside);
    }

pub returns : goal.returns
returns g c =
    let before = c.loop-at.invariant in
    appends_same before.appends
    (sym (append-nil before.done) ∙ ap (λ l. before.done ++ flat_map repeat_text (repeats_of l)) (sym (drop_all c.loop-at.at c.args.items.now c.loop-at-test.false)) ∙ before.left)
