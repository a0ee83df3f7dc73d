-- What arrived by a link stays a front part of what it sent.
use Rattle.std.proofs.Common.{◌≡◌, ℕ, Bool, true, false, ◌==◌, if◌then◌else◌, List, [], ◌∷◌, ◌++◌, length, slice_get}
use Rattle.std.proofs.Common.{Option, Some, None, refl, sym, ap, ◌∙◌, append_assoc, eqb-true}
use Rattle.std.specs.List.{All}
use Rattle.mm_model.specs.Image.{Image}
use Rattle.mm_net.specs.declared.{link.Link.Link, item.NetItem.{NetItem, TheVariants.{Turn, Send, Carry}}}
use Rattle.mm_net.specs.Nets.{Carried, NetState, nothing_carried, net_start, with_sent, due, with_arrived, net_after}
use Rattle.mm_net.specs.{Nets.net_run, InOrder.IsInOrder}
use Rattle.mm_net.proofs.Nodes.{EachAt, each_put, each_mapped, all_from_each}
use Rattle.mm_net.proofs.Steps.{after_turn, after_take, after_put, after_run}

sent_in_order : (carried : Carried) (o : Option ℕ) → IsInOrder carried → IsInOrder (with_sent carried o)
sent_in_order carried None h = h
sent_in_order carried (Some bits) h = record { rest = h.rest ++ bits ∷ []; split = ap (λ sent. sent ++ bits ∷ []) h.split ∙ append_assoc carried.arrived h.rest (bits ∷ []) }

-- the integer behind the front part of a list is the first of the rest
first_behind : (xs ys : List ℕ) (bits : ℕ) → slice_get (xs ++ ys) (length xs) ≡ Some bits → (rest : List ℕ) × (ys ≡ bits ∷ rest)
first_behind [] [] bits is = cc
first_behind [] (y ∷ ys) bits is = let same : y ≡ bits = cc in (ys, ap (λ x. x ∷ ys) same)
first_behind (x ∷ xs) ys bits is = first_behind xs ys bits is

-- an integer that is due is the first that has not arrived
due_next : (carried : Carried) (k bits : ℕ) → due carried k ≡ Some bits → slice_get carried.sent (length carried.arrived) ≡ Some bits
due_next carried k bits next = by (k == length carried.arrived) refl next
  where
    by : (b : Bool) → (k == length carried.arrived) ≡ b → (if b then slice_get carried.sent k else None) ≡ Some bits → slice_get carried.sent (length carried.arrived) ≡ Some bits
    by true is e = ap (slice_get carried.sent) (sym (eqb-true k (length carried.arrived) is)) ∙ e
    by false is e = cc

arrived_in_order : (carried : Carried) (k bits : ℕ) (b : Bool) → due carried k ≡ Some bits → IsInOrder carried → IsInOrder (with_arrived carried bits b)
arrived_in_order carried k bits false next h = h
arrived_in_order carried k bits true next h =
    let behind = first_behind carried.arrived h.rest bits (ap (λ sent. slice_get sent (length carried.arrived)) (sym h.split) ∙ due_next carried k bits next) in
    record { rest = behind.0; split = h.split ∙ ap (λ rest. carried.arrived ++ rest) behind.1 ∙ sym (append_assoc carried.arrived (bits ∷ []) behind.0) }

abbrev AreInOrder : NetState → Type 0
AreInOrder s = EachAt (λ (l : ℕ). IsInOrder) s.links

step_in_order : (links : List Link) (s : NetState) (item : NetItem) → AreInOrder s → AreInOrder (net_after links s item)
step_in_order links s (Turn n item) h = after_turn AreInOrder links s n item (λ gone. h) (λ node is. h)
step_in_order links s (Send l) h =
    after_take AreInOrder links s l h (λ link node carried at is has. each_put (λ (k : ℕ). IsInOrder) s.links l _ h (sent_in_order carried _ (h l carried has)))
step_in_order links s (Carry l k) h =
    after_put AreInOrder links s l k h (λ link node carried bits at is has next. each_put (λ (j : ℕ). IsInOrder) s.links l _ h (arrived_in_order carried k bits _ next (h l carried has)))

pub run_in_order : (images : List Image) (links : List Link) (items : List NetItem) → All IsInOrder (net_run links (net_start images links) items).links
run_in_order images links items =
    let began : AreInOrder (net_start images links) = each_mapped (λ (l : ℕ). IsInOrder) (λ (link : Link). nothing_carried) links (λ l link is. record { rest = []; split = refl }) in
    all_from_each IsInOrder (net_run links (net_start images links) items).links (after_run AreInOrder links (step_in_order links) (net_start images links) items began)
