-- A machine that makes a turn.
use Rattle.std.proofs.Common.{◌≡◌, ℕ, ◌<◌, ◌^◌, refl, sym, ap, ◌∙◌, subst, arith}
use Rattle.std.specs.List.{AllByRecursion}
use Rattle.mm_model.specs.{declared.step.Step.Step, Slot.Slot, Image.Image, State.{Core}, Turn.{Turned, turn}, Run.turn_of, Fits.slots_of}
use Rattle.mm_model.proofs.CoreRows.{each_map}
use Rattle.mm_mem.specs.Plain.{Plain}
use Rattle.mm_config.specs.declared.configs.Configs as code
use Rattle.mm_config.specs.declared.note.Before.{Before}
use Rattle.mm_config.specs.{Machines.Configs, Keeping.Stands, Turning.{IsBefore, HasTurned}}
use Rattle.mm_config.proofs.Turned.{bare_slots}

module _ (i : Image) (v : Configs) (was : code.Configs) (h : Stands i v was) where
  pub few_turns : AllByRecursion (λ (s : Slot). s.turns < 2 ^ 61) (slots_of was.core)
  few_turns =
      subst (λ (k : Core). AllByRecursion (λ (s : Slot). s.turns < 2 ^ 61) (slots_of k)) (sym h.machine.core)
      (each_map (λ (s : Slot). s.turns ≡ 0) (λ (s : Slot). s.turns < 2 ^ 61) (λ s none. omega (arith, none)) (slots_of v.machine.core) (bare_slots v.machine h.machine.config.bare))

  -- the turn of the machine is that of its configuration
  pub own_turn : (item : ℕ) → turn was.core was.mem.memory item ≡ turn_of v.machine item
  own_turn item = λ j. turn (h.machine.core j) (h.machine.memory j) item

  abbrev pub has_turned : (item : ℕ) (b : Before) (step : Step) (core : Core) (mem : Plain) → item < 256 → IsBefore was item b → core ≡ (turn was.core was.mem.memory item).core
      → mem.memory ≡ (turn was.core was.mem.memory item).memory → mem.uses ≡ 0 → step ≡ (turn was.core was.mem.memory item).step → HasTurned b step (record was { core = core; mem = mem })
  has_turned item b step core mem byte before core_is memory_is uses step_is = record {
    image = i;
    at = v;
    item = item;
    was = was;
    stands = h;
    byte = byte;
    before = before;
    core = core_is ∙ ap (λ (t : Turned). t.core) (own_turn item);
    memory = memory_is ∙ ap (λ (t : Turned). t.memory) (own_turn item);
    uses = omega (arith, uses);
    shown = step_is ∙ ap (λ (t : Turned). t.step) (own_turn item);
    others = refl;
  }
