use Rattle.std.proofs.{Common.{◌≡◌, ℕ, ◌<◌, ◌≤◌, true, false, length, ap, arith}, lemmas.Bool.Decides.nat_tests}
use Rattle.std.specs.{Prelude.{find, nat_lt}, Option.option_map}
use Rattle.mm_link.specs.{declared.fault.LinkFault.TheVariants.SlotTwice, Faults.{threads_of, with_slot, slot_numbers}}
use Rattle.mm_link.proofs.Lists.{find_here, find_next, find_none}
use Rattle.mm_link.proofs.threads.check_slots.Goals as goal

many : (m n : ℕ) → m ≡ n → 1 < m → nat_lt 1 n ≡ true
many m n e lt = grind (arith, nat_tests)

few : (m n : ℕ) → m ≡ n → m ≤ 1 → nat_lt 1 n ≡ false
few m n e le = grind (arith, nat_tests)

pub loop-slot-preserved : goal.loop-slot-preserved
loop-slot-preserved c =
    let l = c.loop-slot in
    let objects = c.args.objects.now in
    let p = λ (n : ℕ). nat_lt 1 (length (with_slot n (threads_of objects))) in
    find_next p (find p slot_numbers) l.slot 16 l.invariant c.loop-slot-test.true (few _ _ c.count_in_slot.ensures c.if-count_in_slot-gt1.false)

pub returns-then-count_in_slot-gt1 : goal.returns-then-count_in_slot-gt1
returns-then-count_in_slot-gt1 c =
    let l = c.loop-slot in
    let objects = c.args.objects.now in
    let p = λ (n : ℕ). nat_lt 1 (length (with_slot n (threads_of objects))) in
    ap (option_map SlotTwice) (find_here p (find p slot_numbers) l.slot 16 l.invariant c.loop-slot-test.true (many _ _ c.count_in_slot.ensures c.if-count_in_slot-gt1.true))

pub returns : goal.returns
returns c =
    let l = c.loop-slot in
    let objects = c.args.objects.now in
    let p = λ (n : ℕ). nat_lt 1 (length (with_slot n (threads_of objects))) in
    ap (option_map SlotTwice) (find_none p (find p slot_numbers) l.slot 16 l.invariant c.loop-slot-test.false)
