use Rattle.std.proofs.Common.{◌≡◌, ℕ, ◌<◌, ◌≤◌, ltb, List, length, get_or, slice_get, Option, None, Some, is_some}
use Rattle.std.proofs.Common.{IfSome, option_copied, refl, sym, ap, ◌∙◌, arith, Bor}
use Rattle.std.proofs.lemmas.{Bool.Decides.nat_tests, Option.{slice_get_past, slice_get_read}}
use Rattle.mm_debug.{specs.{Session.total_of, Shown.session_of}, proofs.Stepping.{limit_ends, item_of_order}}
use Rattle.mm_sched.specs.Orders.{item_in}
use Rattle.mm_machine.proofs.Running.{peeked}
use Rattle.mm_debug.proofs.session.Session.next_item.Goals as goal

pub returns-then-total-ge-CYCLE_LIMIT : goal.returns-then-total-ge-CYCLE_LIMIT
returns-then-total-ge-CYCLE_LIMIT g c = sym (limit_ends (session_of c.args.self.now) (omega arith))

pub returns-in-Robin : goal.returns-in-Robin
returns-in-Robin g c =
    let s = session_of c.args.self.now in
    let below : total_of s < 1000000 = omega arith in
    peeked s.state c.running.result s.last c.peek.result c.args.self.now.machine.valid c.running.ensures c.peek.ensures.some c.peek.ensures.next
    ∙ sym (ap (λ o. item_in o s.last s.state) c.in-Robin.is)
    ∙ sym (item_of_order s below)

-- what is read at a place of a list
read_at : (xs : List ℕ) (i : ℕ) (read : Option (Bor ℕ)) → is_some read ≡ ltb i (length xs) → IfSome read (λ x. x.now ≡ get_or xs i x.now) → option_copied read ≡ slice_get xs i
read_at xs i None there is = let past : length xs ≤ i = grind (arith, nat_tests) in sym (slice_get_past xs i past)
read_at xs i (Some x) there is = let inside : i < length xs = grind (arith, nat_tests) in sym (slice_get_read xs (length xs) i x.now refl inside is)

pub returns-in-List : goal.returns-in-List
returns-in-List g c =
    let s = session_of c.args.self.now in
    let below : total_of s < 1000000 = omega arith in
    c.copied.ensures
    ∙ read_at c.items.result.now c.cycles-total.result c.get.result c.get.ensures.lookup.0 c.get.ensures.lookup.1
    ∙ ap (λ (xs : List ℕ). slice_get xs c.cycles-total.result) c.items.ensures.items
    ∙ ap (slice_get c.in-List.list) c.cycles-total.ensures
    ∙ sym (ap (λ o. item_in o s.last s.state) c.in-List.is)
    ∙ sym (item_of_order s below)
