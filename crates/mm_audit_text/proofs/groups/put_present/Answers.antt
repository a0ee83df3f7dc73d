use Rattle.std.proofs.Common.{rules, ◌≡◌, ℕ, ap, ◌∙◌, ◌++◌, [], Bool, List, sym}
use Rattle.mm_model.specs.{Slot.Slot, Groups.has_group}
use Rattle.mm_text.proofs.Appending.{appends_then}
use Rattle.mm_audit_text.proofs.Presence.{one_part, one_alone, no_part}
use Rattle.mm_audit_text.proofs.groups.put_present.Goals as goal

has : {slots own : List Slot} {found is : Bool} (g : ℕ) → slots ≡ own → found ≡ has_group slots g → found ≡ is
    → has_group own g ≡ is
has g same tests found = sym (ap (λ (l : List Slot). has_group l g) same) ∙ sym tests ∙ found

pub returns-then-apart : goal.returns-then-apart
returns-then-apart g c =
    let (own, wrote, is) = c.put_group.ensures in
    let (line, then, answers) = c.put_apart.ensures in (
      own ++ line,
      appends_then wrote then,
      λ surveys. one_part c.args.img.now c.args.apart (has_group c.args.img.now.slots c.args.group) c.args.group own
          line (has c.args.group c.slots.ensures.slots c.has_group.ensures c.if-has_group.true) c.if-apart.true
          (is c.args.img.now surveys) (answers c.args.img.now surveys),
    )

pub returns-else-apart : goal.returns-else-apart
returns-else-apart g c =
    let (own, wrote, is) = c.put_group.ensures in (
      own,
      wrote,
      λ surveys. one_alone c.args.img.now c.args.apart (has_group c.args.img.now.slots c.args.group)
          c.args.group own (has c.args.group c.slots.ensures.slots c.has_group.ensures c.if-has_group.true)
          c.if-apart.false (is c.args.img.now surveys),
    )

pub returns-else-has_group : goal.returns-else-has_group
returns-else-has_group g c = (
  [],
  search rules,
  λ surveys. no_part c.args.img.now c.args.apart
      (has_group c.args.img.now.slots c.args.group) c.args.group
      (has c.args.group c.slots.ensures.slots c.has_group.ensures c.if-has_group.false),
)
