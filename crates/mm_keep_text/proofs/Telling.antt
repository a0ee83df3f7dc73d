-- What is told is what is derived.
use Rattle.std.proofs.Common.{◌≡◌, inl, inr, ℕ, Bool, true, false, cond, if◌then◌else◌, List, [], ◌∷◌, ◌++◌, map}
use Rattle.std.proofs.Common.{refl, ap, subst}
use Rattle.std.specs.{Prelude.{Contains, ◌↔◌}, List.{AllZip, filter, flat_map}}
use Rattle.mm_word.specs.Pointer.{Pointer as PointerValue}
use Rattle.mm_model.specs.{Slot.Slot, Image.Image}
use Rattle.mm_kernel.specs.Segments.{Segment}
use Rattle.mm_kernel.specs.declared.{fact.Leak.Leak, form.Form.Form}
use Rattle.mm_kernel.specs.declared.thread.{Origin.{Origin, TheVariants.{Door, Slot as OfSlot}}}
use Rattle.mm_kernel.specs.{Facts.Fact.{HasThread, HasForm, HasDoor, HasLeak}, Derived.{HasFirst, IsCode}}
use Rattle.mm_kernel.specs.Uses.{IsUsed, Reads, Writes}
use Rattle.mm_kernel.specs.Threads.{is_kernel_slot}
use Rattle.mm_keep.specs.{Claims.Tables, Searching.IsExact}
use Rattle.mm_span.specs.Spans.{Span, AreSpans}
use Rattle.mm_span.proofs.Runs.{spans_alike}
use Rattle.mm_keep_text.specs.declared.{finding.Used.Used}
use Rattle.mm_keep_text.specs.Keys.{pointer_key, cell_key, leak_key, Ascend}
use Rattle.mm_keep_text.specs.{Told.{Party}, Answers.{IsParty, IsTold, kernel_slots}}
use Rattle.mm_keep_text.specs.{Parts.{origin_numbers, origin_from, SomeFetches, IsIn, ReadsPart, WritesPart}, Used.{IsUsing, slot_origins}}
use Rattle.mm_keep_text.proofs.Uses.{used_to, used_back, reads_say, writes_say}

module _ (i : Image) (kept : List Segment) (tables : Tables) (exact : IsExact i kept tables) where
  pub party_is : (used : Used) → IsUsing i kept tables.threads used → (from : Origin) (o : ℕ × ℕ) → o ≡ origin_numbers from → origin_from o ≡ from
      → (read written : List Segment) → ((part : Segment) → Contains read part ↔ Contains used.reads.keys (o, part))
      → ((part : Segment) → Contains written part ↔ Contains used.writes.keys (o, part))
      → (reads writes : List Span) → AreSpans (IsIn used.words.keys read) reads → AreSpans (IsIn used.words.keys written) writes
      → IsParty i kept from (record { origin = from; reads = reads; writes = writes })
  party_is used h from o numbers again read written own_read own_written reads writes read_are written_are =
      let words = used.words.keys in
      record {
        origin_is = λ j. from;
        reads_are = spans_alike (IsIn words read) (IsUsed Reads i kept from)
            (used_to i kept tables exact from o numbers again words h.held (ReadsPart i kept) Reads (reads_say i kept) used.reads.keys h.reads read own_read)
            (used_back i kept tables exact from o numbers again words h.held (ReadsPart i kept) Reads (reads_say i kept) used.reads.keys h.reads read own_read)
            reads read_are;
        writes_are = spans_alike (IsIn words written) (IsUsed Writes i kept from)
            (used_to i kept tables exact from o numbers again words h.held (WritesPart i kept) Writes (writes_say i kept) used.writes.keys h.writes written own_written)
            (used_back i kept tables exact from o numbers again words h.held (WritesPart i kept) Writes (writes_say i kept) used.writes.keys h.writes written own_written)
            writes written_are;
      }

  pub told_is : (doors : List PointerValue) → Ascend pointer_key doors → ((p : PointerValue) → Contains doors p ↔ Contains tables.doors p)
      → (origins : List Origin) → origins ≡ map Door doors ++ map OfSlot (kernel_slots i kept)
      → (parties : List Party) → AllZip (IsParty i kept) origins parties
      → (code : List Span) → AreSpans (SomeFetches tables.threads) code
      → (cells : List (ℕ × Form)) → Ascend cell_key cells
      → ((c : ℕ × Form) → Contains cells c ↔ (Contains tables.stored c × (HasFirst i kept c.0 c.1 → ⊥)))
      → (leaks : List Leak) → Ascend leak_key leaks → ((l : Leak) → Contains leaks l ↔ Contains tables.leaks l)
      → IsTold i kept (record { parties = parties; code = code; cells = cells; leaks = leaks })
  told_is doors doors_up each_door origins origins_are parties parties_are code code_are cells cells_up each_cell leaks leaks_up each_leak = record {
    doors = doors;
    doors_are = record {
      ascend = doors_up;
      each = λ p. (λ h. exact.sound (HasDoor p) ((each_door p).0 h), λ d. (each_door p).1 (exact.whole (HasDoor p) d));
    };
    parties = subst (λ os. AllZip (IsParty i kept) os parties) origins_are parties_are;
    code = spans_alike (SomeFetches tables.threads) (IsCode i kept)
        (λ w f. record { thread = f.thread; derived = exact.sound (HasThread f.thread) f.inside; fetches = f.fetches })
        (λ w c. record { thread = c.thread; inside = exact.whole (HasThread c.thread) c.derived; fetches = c.fetches })
        code code_are;
    cells_ascend = cells_up;
    cells = λ c. (
      λ h. let k = (each_cell c).0 h in record { derived = exact.sound (HasForm c.0 c.1) (inr k.0); new = k.1 },
      λ n. elim (exact.whole (HasForm c.0 c.1) n.derived) [
        | inl first ↦ absurd (n.new first)
        | inr stored ↦ (each_cell c).1 (stored, n.new)
      ],
    );
    leaks_ascend = leaks_up;
    leaks = λ l. (λ h. exact.sound (HasLeak l) ((each_leak l).0 h), λ d. (each_leak l).1 (exact.whole (HasLeak l) d));
  }

abbrev number_of : Slot → ℕ
number_of s = s.number

-- the origins of slots are those of the kernel's
pub slots_are : (kept : List Segment) (slots : List Slot)
    → flat_map (slot_origins kept) slots ≡ map OfSlot (map number_of (filter (is_kernel_slot kept) slots))
slots_are kept [] = refl
slots_are kept (s ∷ slots) = by (is_kernel_slot kept s) (slots_are kept slots)
  where
    by : (b : Bool) → flat_map (slot_origins kept) slots ≡ map OfSlot (map number_of (filter (is_kernel_slot kept) slots))
        → (if b then OfSlot s.number ∷ [] else []) ++ flat_map (slot_origins kept) slots
        ≡ map OfSlot (map number_of (cond b (s ∷ filter (is_kernel_slot kept) slots) (filter (is_kernel_slot kept) slots)))
    by true rest = ap (λ (l : List Origin). OfSlot s.number ∷ l) rest
    by false rest = rest

-- one element more in both lists
pub zip_push : {A B : Type 0} (R : A → B → Type 0) (xs : List A) (ys : List B) (x : A) (y : B) → AllZip R xs ys → R x y
    → AllZip R (xs ++ x ∷ []) (ys ++ y ∷ [])
zip_push R [] [] x y h r = (r, tt)
zip_push R [] (b ∷ ys) x y h r = absurd h
zip_push R (a ∷ xs) [] x y h r = absurd h
zip_push R (a ∷ xs) (b ∷ ys) x y h r = (h.0, zip_push R xs ys x y h.1 r)
