use Rattle.std.proofs.Common.{◌↔◌, ℕ, List, subst}
use Rattle.mm_flow.specs.declared.node.Node.{Node}
use Rattle.mm_confine.specs.declared.party.Party.{Party}
use Rattle.mm_hold.specs.{Parties.{Shares, ServedParty}, Marks.{Spreads, MeetAbove, GivesBehind, Adds, Handed, SlotMeets}}
use Rattle.mm_hold.proofs.rounds.round.Goals as goal

-- src/rounds.rt:59:1
pub returns-clause-round : goal.returns-clause-round
returns-clause-round c =
    let old = c.args.marks.now in
    let spread = c.spread.new.self in
    let behind = c.give_behind-behind.new.marks in
    let sent = c.give_sent-sent.new.marks in
    let given = c.give_given-given.new.marks in
    let meets = c.in_ok-meets.meets in
    let i = c.args.kernel.now.image in
    let spreads = subst (λ (l : List ℕ). Spreads (record { nodes = c.args.graph.now.nodes.items; targets = l }) old spread) c.deref-2.ensures.value
    (subst (λ (l : List Node). Spreads (record { nodes = l; targets = c.deref-2.result.now }) old spread) c.deref.ensures.value c.in_ok-spread.ensures) in
    let meet = subst (λ (l : List ℕ). (y x : Party) → Shares meets y x ↔ MeetAbove l c.args.graph.now.nodes.items spread y x) c.deref-5.ensures.value
    (subst (λ (l : List Node). (y x : Party) → Shares meets y x ↔ MeetAbove c.deref-5.result.now l spread y x) c.deref-4.ensures.value c.in_ok-meets.ensures) in
    record {
      spread = spread;
      behind = behind;
      sent = sent;
      given = given;
      meets = meets;
      sharing = c.shared_now-sharing.result;
      changes = (c.give_behind-behind.result, c.give_sent-sent.result, c.give_given-given.result, c.give_shared-shared.result);
      spreads = spreads;
      meet = meet;
      share = c.shared_now-sharing.ensures;
      first = subst (λ (l : List (ℕ × ℕ)). GivesBehind l spread behind c.give_behind-behind.result) c.deref-6.ensures.value c.give_behind-behind.ensures;
      second = subst (λ (l : List (ℕ × ℕ)). Adds (Handed l (SlotMeets meets)) behind sent c.give_sent-sent.result) c.deref-7.ensures.value c.give_sent-sent.ensures;
      third = subst (λ (l : List (ℕ × ℕ)). Adds (Handed l (ServedParty i c.args.kernel.now.kept i.slots)) sent given c.give_given-given.result) c.deref-8.ensures.value c.give_given-given.ensures;
      last = c.give_shared-shared.ensures;
      is = c.some_of.ensures;
    }
