use Rattle.std.proofs.{Common.{◌≡◌, ◌<◌, ◌∙◌, get_or, ap, arith}, lemmas.List.{take_all, FromFn.get_or-range_with_len}}
use Rattle.std.specs.List.{flat_map, list_any, range_with_len}
use Rattle.mm_model.specs.Report.{is_of, section}
use Rattle.mm_text.proofs.Appending.{appends_item, appends_same}
use Rattle.mm_report.{specs.Groups.group_text, proofs.Members.passed_texts}
use Rattle.mm_report.proofs.sections.put_sections.Goals as goal

pub loop-group-preserved : goal.loop-group-preserved
loop-group-preserved g c =
    let n = c.loop-group.group in
    let inside : n < 64 = omega arith in
    let same : n ≡ get_or (range_with_len 0 64) n n = omega (arith, get_or-range_with_len 0 64 n n inside) in
    appends_item (group_text c.args.m.now.core) (range_with_len 0 64) n n inside same c.loop-group.invariant c.put_group_text.ensures

pub returns : goal.returns
returns g c =
    appends_same c.loop-group.invariant
    (ap (flat_map (group_text c.args.m.now.core)) (take_all c.loop-group.group (range_with_len 0 64) (omega arith))
    ∙ passed_texts (λ k. list_any (is_of k) c.args.m.now.core.rows) (section c.args.m.now.core) (range_with_len 0 64))
