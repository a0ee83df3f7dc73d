-- The order in which cycles are issued.
use Rattle.std.specs.Prelude.{ℕ, List, slice_get, Option, Some, None}
use Rattle.mm_model.specs.{State.State, Run.{robin_from, next_running, last_item}, Schedule.first_items}
use Rattle.mm_sched.specs.declared.schedule.Order.{Order}
use Rattle.mm_sched.specs.declared.schedule.Order.TheVariants as order

-- 1. One item.

-- The item that an order has next in a state, after the slot that its round robin issued last; none if the order has
-- ended. A list began with cycle 0, so that the state's count of cycles says how many of its items were issued.
abbrev pub item_in : Order → (last : Option ℕ) → State → Option ℕ
item_in order.Robin last state = next_running state.core.rows last
item_in (order.List items) last state = slice_get items state.cycles

-- the slot that round robin issued last, after one more item of an order; a list leaves it as it was
abbrev pub last_after : Order → (last : Option ℕ) → ℕ → Option ℕ
last_after order.Robin last item = Some item
last_after (order.List items) last item = last

-- 2. Many items.

-- the items that an order issues from a state on, at most `count`: those of round robin after the slot that it issued
-- last, or the first of a list, which begins there
abbrev pub items_from : Order → State → (last : Option ℕ) → (count : ℕ) → List ℕ
items_from order.Robin s last count = robin_from s last count
items_from (order.List list) s last count = first_items list count

-- the items that an order issues from its beginning on, at most `count`
abbrev pub items_of : Order → State → (count : ℕ) → List ℕ
items_of o s count = items_from o s None count

-- the slot that an order's round robin has issued last after these items, given the one that it issued last before;
-- none for a list
abbrev pub last_from : Order → (last : Option ℕ) → List ℕ → Option ℕ
last_from order.Robin last items = last_item last items
last_from (order.List list) last items = None
