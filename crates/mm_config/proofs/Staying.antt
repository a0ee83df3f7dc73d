-- Names stay while what is kept grows.
use Rattle.std.proofs.Common.{◌≡◌, inl, inr, ℕ, zero, suc, ◌+◌, List, [], ◌∷◌, reverse, slice_get, Option, Some, None, sym, ap, ◌∙◌, subst, arith}
use Rattle.std.specs.{Prelude.zip, List.AllZip}
use Rattle.mm_model.specs.{declared.event.Event.Event, Slot.Slot, Memory.{Memory, page_at}, State.{ThreadRow, State}, Fits.slots_of}
use Rattle.mm_pairs.specs.{Named.{HasGrown}, Trees.{IsTree}}
use Rattle.mm_pairs.proofs.Names.{no_shorter, name_stays, named_stays, tree_stays}
use Rattle.mm_config.specs.declared.{store.Store.Store, names.Names.Names}
use Rattle.mm_config.specs.{Forms.{slot_form, queue_form}, Places.page_place, Noting.IsKeptStill, Keeping.IsKeyOf}
use Rattle.mm_config.specs.Naming.{IsSlotName, IsQueueName, IsChain, IsOutputName, IsPageName, IsOrNone, AreLeaves, leaf_at, page_name, IsLow, IsTreeOfPages}
use Rattle.mm_config.specs.Naming.{AreMemoryNames, AreNamesOf, IsRest}
use Rattle.mm_config.proofs.{PageTrees.leaf_stays, PageCells.{page_stays, zip_weaker}, Placing.place_stays}

or_none : {A : Type 0} (Is Now : A → ℕ → Type 0) → ((x : A) (name : ℕ) → Is x name → Now x name) → (o : Option A) (name : ℕ) → IsOrNone Is o name → IsOrNone Now o name
or_none Is Now f None name h = h
or_none Is Now f (Some x) name h = f x name h

pub leaves_stay_named : {A : Type 0} (Is Now : A → ℕ → Type 0) → ((x : A) (name : ℕ) → Is x name → Now x name) → (xs : List A) (old new : List (ℕ × ℕ)) → HasGrown old new
    → (depth tree : ℕ) → AreLeaves Is xs old depth tree → AreLeaves Now xs new depth tree
leaves_stay_named Is Now f xs old new grown depth tree h = record {
  inner = tree_stays old new grown depth tree h.inner;
  wide = h.wide;
  each = λ at.
      or_none Is Now f (slice_get xs at) (leaf_at new depth tree at)
      (subst (IsOrNone Is (slice_get xs at)) (sym (leaf_stays old new grown depth tree h.inner at)) (h.each at));
}

module _ (old new : Store) (still : IsKeptStill old new) where
  pub slot_stays : (base s : Slot) (name : ℕ) → IsSlotName old base s name → IsSlotName new base s name
  slot_stays base s name h = name_stays [] old.lists new.lists still.lists name (slot_form base s) h

  pub queue_stays : (events : List Event) (name : ℕ) → IsQueueName old events name → IsQueueName new events name
  queue_stays events name h = name_stays [] old.lists new.lists still.lists name (queue_form events) h

  chain_stays : (xs : List ℕ) (name : ℕ) → IsChain old.outputs xs name → IsChain new.outputs xs name
  chain_stays [] name h = h
  chain_stays (byte ∷ before) name h = (h.0, name_stays (0, 0) old.outputs new.outputs still.outputs name (h.0, byte + 1) h.1, h.2, chain_stays before h.0 h.3)

  pub output_stays : (bytes : List ℕ) (name : ℕ) → IsOutputName old bytes name → IsOutputName new bytes name
  output_stays bytes name h = chain_stays (reverse bytes) name h

  low_stays : (height tree : ℕ) → IsTree old.pairs height tree → IsLow old.pairs height tree → IsLow new.pairs height tree
  low_stays zero tree inner low = low
  low_stays (suc height) tree inner low = λ none. low (ap (λ (p : ℕ × ℕ). p.1) (sym (named_stays (0, 0) old.pairs new.pairs still.pairs tree inner.0)) ∙ none)

  module _ (n : Names) (t : IsTreeOfPages old n) where
    leaf_is : (at : ℕ) → leaf_at new.pairs n.height n.pages at ≡ leaf_at old.pairs n.height n.pages at
    leaf_is at = leaf_stays old.pairs new.pairs still.pairs n.height n.pages t.inner at

    pages_stay : IsTreeOfPages new n
    pages_stay = record {
      inner = tree_stays old.pairs new.pairs still.pairs n.height n.pages t.inner;
      few = t.few;
      low = low_stays n.height n.pages t.inner t.low;
      inside = λ at high. let more = no_shorter old.pages new.pages still.pages in leaf_is at ∙ t.inside at (omega (arith, more, high));
    }

    page_is : (number : ℕ) → page_name new n number ≡ page_name old n number
    page_is number =
        leaf_is (page_place new.pages number)
        ∙ elim (place_stays old.pages new.pages number still.pages) [
          | inl e ↦ ap (leaf_at old.pairs n.height n.pages) e
          | inr h ↦
              let none = h.0 in
              t.inside (page_place new.pages number) h.1 ∙ sym (t.inside (page_place old.pages number) (omega (arith, none)))
        ]

  pub memory_stays : (m : Memory) (n : Names) → AreMemoryNames old m n → AreMemoryNames new m n
  memory_stays m n h = record {
    tree = pages_stay n h.tree;
    pages = λ number.
        or_none (IsPageName old) (IsPageName new) (page_stays old new still) (page_at m number) (page_name new n number)
        (subst (IsOrNone (IsPageName old) (page_at m number)) (sym (page_is n h.tree number)) (h.pages number));
  }

  pub names_stay : (base : List Slot) (depth : ℕ) (s : State) (n : Names) → AreNamesOf base depth old s n → AreNamesOf base depth new s n
  names_stay base depth s n h = record {
    slots = leaves_stay_named (λ (x : Slot × Slot) name. IsSlotName old x.0 x.1 name) (λ (x : Slot × Slot) name. IsSlotName new x.0 x.1 name)
        (λ x name. slot_stays x.0 x.1 name) (zip base (slots_of s.core)) old.pairs new.pairs still.pairs depth n.slots h.slots;
    queues = leaves_stay_named (λ (row : ThreadRow) name. IsQueueName old row.queue name) (λ (row : ThreadRow) name. IsQueueName new row.queue name)
        (λ row name. queue_stays row.queue name) s.core.rows old.pairs new.pairs still.pairs depth n.queues h.queues;
    outputs = leaves_stay_named (IsOutputName old) (IsOutputName new) output_stays s.core.outputs old.pairs new.pairs still.pairs 6 n.outputs h.outputs;
    memory = memory_stays s.memory n h.memory;
  }

  pub rest_stays : (n : Names) (rest : ℕ) → IsRest old.pairs n rest → IsRest new.pairs n rest
  rest_stays n rest h = record {
    two = h.two;
    others = h.others;
    events = name_stays (0, 0) old.pairs new.pairs still.pairs h.two (n.queues, n.outputs) h.events;
    depth = name_stays (0, 0) old.pairs new.pairs still.pairs h.others (h.two, n.height) h.depth;
    all = name_stays (0, 0) old.pairs new.pairs still.pairs rest (h.others, n.pages) h.all;
  }

  pub key_stays : (base : List Slot) (depth : ℕ) (s : State) (key : ℕ × ℕ) → IsKeyOf base depth old s key → IsKeyOf base depth new s key
  key_stays base depth s key h = record { names = h.names; are = names_stay base depth s h.names h.are; slots = h.slots; rest = rest_stays h.names key.1 h.rest }

  pub keys_stay : (base : List Slot) (depth : ℕ) (kept : List State) (keys : List (ℕ × ℕ)) → AllZip (IsKeyOf base depth old) kept keys → AllZip (IsKeyOf base depth new) kept keys
  keys_stay base depth kept keys h = zip_weaker (IsKeyOf base depth old) (IsKeyOf base depth new) (key_stays base depth) kept keys h
