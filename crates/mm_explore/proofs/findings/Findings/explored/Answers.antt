use Rattle.std.proofs.Common.{◌++◌, ◌∙◌, sym, ap, subst}
use Rattle.std.specs.{List.{AllZip, flat_map}, BTreeMap.get}
use Rattle.mm_word.specs.Cause.{cause_numbers}
use Rattle.mm_model.specs.{Image.start, Report.groups_of, Slot.Slot}
use Rattle.mm_explore.specs.{Findings.explored_turns, Finds.{IsGroupOf}, Noting.{first_in, fault_kept}}
use Rattle.mm_explore.specs.{Outcomes.{firsts}, Words.order}
use Rattle.mm_explore.proofs.AllFound.{groups_found, faults_found, origin_inside, outcomes_are}
use Rattle.mm_explore.proofs.findings.Findings.explored.Goals as goal

pub list_faults-requires : goal.list_faults-requires
list_faults-requires c = λ key.
    let i = c.args.img.now in
    let list = c.args.found.now in
    origin_inside list (first_in i (explored_turns i list) key.0 key.1) (get order c.args.self.now.faults key) (c.requires.noted.faults key.0 key.1)

pub list_outcomes-requires-clause-ends : goal.list_outcomes-requires-clause-ends
list_outcomes-requires-clause-ends c = (c.requires.ends.0, firsts c.requires.ends.0, c.requires.ends.1.entries)

pub returns : goal.returns
returns c = λ limit ends explored is_all is_more noted are.
    let i = c.args.img.now in
    let list = c.args.found.now in
    let f = c.args.self.now in
    let words = c.requires.noted in
    let (gs, is, all_zip) = c.in_ok-put_groups.ensures in
    let found_are = is ∙ ap (λ l. l ++ gs) c.new-reached.ensures.items in
    let groups : AllZip (IsGroupOf i list) c.args.groups.now gs = groups_found i list f.words.touched f.words.wrote words.touched words.wrote c.args.groups.now gs all_zip in
    record {
      list = list;
      explored = explored;
      count = c.len.ensures;
      all = is_all;
      more = is_more;
      groups = subst (AllZip (IsGroupOf i list) (groups_of (start i).core)) (sym found_are) (subst (λ l. AllZip (IsGroupOf i list) l gs) c.requires.groups groups);
      faults =
          c.in_ok-list_faults.ensures
          ∙ ap (λ l. l ++ flat_map (λ (s : Slot). flat_map (λ cause. fault_kept list s.number cause (get order f.faults (s.number, cause))) cause_numbers) c.slots.result.now) c.new-faults.ensures.items
          ∙ ap (flat_map (λ (s : Slot). flat_map (λ cause. fault_kept list s.number cause (get order f.faults (s.number, cause))) cause_numbers)) c.slots.ensures.slots
          ∙ faults_found i list (λ slot cause. get order f.faults (slot, cause)) words.faults;
      ends = ends;
      are = are;
      outcomes = outcomes_are i ends _ (c.in_ok-outcomes.ensures ends (firsts ends) noted.entries);
    }
