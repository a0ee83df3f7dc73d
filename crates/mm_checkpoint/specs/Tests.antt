-- The tests of a checkpoint's numbers that take more than a line.
use Rattle.std.specs.Prelude.{ℕ, Bool, not, ◌&&◌, ◌||◌, ◌==◌, nat_lt, nat_le, if◌then◌else◌, List, count_by}
use Rattle.std.specs.List.{list_any}
use Rattle.mm_model.specs.{declared.slot.Pending.Pending, Flags.{flags, in_mask}}
use Rattle.mm_checkpoint.specs.declared.waiting.Waiter.{Waiter}

-- 1. Tests of numbers.

-- the number is no state, or a state that needs a handler and the slot has none
abbrev pub is_bad_state : (has_handler : Bool) (state : ℕ) → Bool
is_bad_state has_handler state = nat_lt 3 state || (not has_handler && (state == 1 || state == 2))

-- the number is no cause that a slot in this state can have: a slot that waits has one, and one that was halted may
-- have one
abbrev pub is_bad_cause : (state cause : ℕ) → Bool
is_bad_cause state cause = if state == 1 then cause == 0
    || nat_lt 13 cause else (if state == 3 then nat_lt 13 cause else not (cause == 0))

-- the count of bits of a mask that are set
abbrev pub bits_set : (mask : ℕ) → ℕ
bits_set mask = count_by (λ b. b) (flags 16 mask)

-- one of the pending loads is for this register
abbrev pub has_entry : List Pending → (register : ℕ) → Bool
has_entry entries register = list_any (λ (p : Pending). p.reg == register) entries

-- a pending load after others cannot be for this register, given the mask of empty registers
abbrev pub is_bad_entry : (empty : ℕ) (earlier : List Pending) (register : ℕ) → Bool
is_bad_entry empty earlier register = nat_le 16 register || not (in_mask empty register) || has_entry earlier register

-- 2. Tests of places in queues.

abbrev pub waits_with : (handler : ℕ) → Waiter → Bool
waits_with handler w = w.handler == handler

-- the place is not below the count of all waiters with that handler, or it is that of an earlier one with that handler
abbrev pub is_bad_place : (all earlier : List Waiter) → Waiter → Bool
is_bad_place all earlier w = nat_le (count_by (waits_with w.handler) all) w.place
    || list_any (λ (x : Waiter). x.handler == w.handler && x.place == w.place) earlier
