-- A core stays whole.
use Rattle.std.proofs.Common.{◌≡◌, ℕ, ◌<◌, ◌≤◌, Bool, List, [], ◌∷◌, length, map, Option, Some, None, refl, sym, ap, subst}
use Rattle.std.{proofs.{Common.arith, lemmas.List.get_or_past}, specs.List.AllByRecursion}
use Rattle.mm_model.specs.{Memory.Memory, Slot.Slot}
use Rattle.mm_model.specs.State.{ThreadRow, Core, row_in, slot_of, queue_of, slot_at, queue_at, output_of, put_slot}
use Rattle.mm_model.specs.{Image.output_limit, Spelling.numbers_of}
use Rattle.mm_model.specs.{Fits.{identity_of, slots_of, IsSlot, LoadsAreConsistent, IsCore}, Turn.turn}
use Rattle.mm_model.proofs.{CoreRows.{each_map, each_both, slot_has, of_version_by}, TurnKeeps.core_keeps}
use Rattle.mm_model.proofs.{CoreSteps.{Keeps, puts_keep}, SlotSteps.slot_stands}
use Rattle.mm_thread.specs.SlotIndices.{slot_in, with_slot}
use Rattle.mm_thread.proofs.{Index.{slot_found, put_slot-at}, RowIndex.apart_in}

numbers-identities : (slots : List Slot) → map (λ (i : ℕ × ℕ × Option ℕ). i.0) (map identity_of slots) ≡ numbers_of slots
numbers-identities [] = refl
numbers-identities (s ∷ slots) = ap (λ (ns : List ℕ). s.number ∷ ns) (numbers-identities slots)

pub turn_whole : (core core' : Core) (m : Memory) (n : ℕ) → IsCore core → core' ≡ (turn core m n).core → IsCore core'
turn_whole core core' m n whole is = subst IsCore (sym is) (core_keeps core m n whole)

-- another mode, where nothing is pending
pub split_whole : (core : Core) (on : Bool) → AllByRecursion (λ (s : Slot). s.pending ≡ []) (slots_of core) → IsCore core → IsCore (record core { split = on })
unfolding slot_at queue_at output_of
split_whole core on none old = record {
  formed = record { rising = old.formed.rising; slots = old.formed.slots; outputs = old.formed.outputs };
  numbers = old.numbers;
  handlers = old.handlers;
  matched = record { events = old.matched.events; waiting = old.matched.waiting; loads = old.matched.loads };
  kept = record {
    in_place = old.kept.in_place;
    loads = each_both (LoadsAreConsistent core.split) (λ (s : Slot). s.pending ≡ []) (LoadsAreConsistent on) (λ s is empty. record { zero = is.zero; mode = λ _. empty })
        (slots_of core) old.kept.loads none;
    taken = old.kept.taken;
    within = old.kept.within;
    silent = old.kept.silent;
  };
}

-- another version, where nothing was put out
pub version_whole : (core : Core) (version : ℕ) → AllByRecursion (λ (bytes : List ℕ). bytes ≡ []) core.outputs → IsCore core → IsCore (record core { version = version })
unfolding slot_at queue_at output_of
version_whole core version silent old = record {
  formed = record { rising = old.formed.rising; slots = old.formed.slots; outputs = old.formed.outputs };
  numbers = old.numbers;
  handlers = old.handlers;
  matched = record { events = old.matched.events; waiting = old.matched.waiting; loads = old.matched.loads };
  kept = record {
    in_place = old.kept.in_place;
    loads = old.kept.loads;
    taken = old.kept.taken;
    within = each_map (λ (bytes : List ℕ). bytes ≡ []) (λ (bytes : List ℕ). length bytes ≤ output_limit version) (λ bytes none. omega (arith, ap length none)) core.outputs silent;
    silent = old.kept.silent;
  };
}

-- what a number without a slot has
pub queue-none : (core : Core) (n : ℕ) → slot_at core n ≡ None → queue_at core n ≡ []
unfolding slot_at queue_at
queue-none core n none = by (row_in core.rows n) none
  where
    by : (o : Option ThreadRow) → slot_of o ≡ None → queue_of o ≡ []
    by None e = refl
    by (Some row) e = cc

pub output-past : (core : Core) (g : ℕ) → length core.outputs ≡ 64 → 64 ≤ g → output_of core g ≡ []
unfolding output_of
output-past core g whole past = get_or_past core.outputs g [] (omega arith)

-- a core whose slots go on keeps what a core is
pub kept_whole : (core later : Core) → Keeps core later → IsCore core → IsCore later
kept_whole core later keeps old =
    let fit = keeps.fitting (record { handlers = old.handlers; matched = old.matched }) in
    record {
      formed = keeps.formed;
      numbers = of_version_by 2 (slots_of later) (slots_of core) keeps.identities old.numbers;
      handlers = fit.handlers;
      matched = fit.matched;
      kept = keeps.kept (record { handlers = old.handlers; matched = old.matched }) old.kept;
    }

-- so does one with another count of turns of a slot
pub uncounted_whole : (core : Core) (p : ℕ) → p < length core.rows → IsCore core → IsCore (with_slot core p (record (slot_in core p) { turns = 0 }))
uncounted_whole core p within old =
    let apart = apart_in core old in
    let s : Slot = slot_in core p in
    let new : Slot = record s { turns = 0 } in
    let there = slot_found core apart p within in
    let own = slot_has IsSlot core s.number s old.formed.slots there in
    let keeps = puts_keep core new old.formed (record {
      replaces = record {
        old = s;
        stands = there;
        group = refl;
        handler = refl;
        ip = λ w. refl;
        goes_on = slot_stands core.split s s.ip s.past 0 s.state own own.executable;
      };
      waits = refl;
      taken = λ t. t;
    }) in
    subst IsCore (put_slot-at core apart p within new refl) (kept_whole core (put_slot core new) keeps old)
