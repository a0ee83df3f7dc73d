-- In which order the faults of a checkpoint's file come.
use Rattle.std.proofs.Common.{◌≡◌, ℕ, Bool, true, false, cond, nat_lt, List, length, Option, Some, None, refl, ap, ◌∙◌}
use Rattle.mm_model.specs.Image.{Image}
use Rattle.mm_format.specs.{Formats.{Parsed, after, answer, fault_in, Parsed.{Got, Bad}}, Images.pages}
use Rattle.mm_checkpoint.specs.{declared.{header.Header.Header, rows.SlotRow.SlotRow}, Faults.said_of}
use Rattle.mm_checkpoint.specs.FileOrder.{records, bad_place, outputs, ReadsSlots, FaultsComeInOrder}
use Rattle.mm_checkpoint.specs.Format.{header, front, front_from, tested, checkpoint, contents_from, saved_in}

-- a fault of the first part is that of both
stops : {A B : Type 0} (o : Parsed A) (rest : A → ℕ → Parsed B) (fault : ℕ × ℕ) → fault_in o ≡ Some fault
    → fault_in (after o rest) ≡ Some fault
stops (Got a next) rest fault e = absurd cc
stops (Bad number at) rest fault e = e

-- and so is one of the second, if the first was read
goes_on : {A B : Type 0} (o : Parsed A) (rest : A → ℕ → Parsed B) (a : A) (next : ℕ) (fault : ℕ × ℕ) → o ≡ Got a next
    → fault_in (rest a next) ≡ Some fault → fault_in (after o rest) ≡ Some fault
goes_on o rest a next fault is e = ap (λ x. fault_in (after x rest)) is ∙ e

-- a part that was read is followed by the rest
then : {A B : Type 0} (o : Parsed A) (rest : A → ℕ → Parsed B) (a : A) (next : ℕ) → o ≡ Got a next
    → after o rest ≡ rest a next
then o rest a next is = ap (λ x. after x rest) is

-- a late test that finds a fault tells it
tells : {A : Type 0} (found : Option (ℕ × ℕ)) (a : A) (next : ℕ) (fault : ℕ × ℕ) → found ≡ Some fault
    → fault_in (answer found a next) ≡ Some fault
tells None a next fault e = absurd cc
tells (Some it) a next fault e = e

ends : {A B : Type 0} (b : Bool) (a : A) (end : ℕ) (f : A → B)
    → fault_in (after (cond b (Bad 13 end) (Got a end)) (λ x n. Got (f x) n)) ≡ cond b (Some (13, end)) None
ends true a end f = refl
ends false a end f = refl

module _ (i : Image) (bytes : List ℕ) where
  module _ (h : Header) (rows : List SlotRow) (next : ℕ) (reads : ReadsSlots i bytes h rows next) where
    -- the header and the records make the front
    front_read : (front i).read bytes 0 ≡ Got (front_from h rows) next
    unfolding front
    front_read = then ((header i.memory.frames).read bytes 0) _ h reads.at reads.front
        ∙ then ((records i h).read bytes reads.at) _ rows next reads.others

    module _ (good : bad_place h rows ≡ None) where
      tested_read : (tested i).read bytes 0 ≡ Got (front_from h rows) next
      tested_read = then ((front i).read bytes 0) _ (front_from h rows) next front_read
          ∙ ap (λ found. answer found (front_from h rows) next) good

  pub come_in : FaultsComeInOrder i bytes
  unfolding said_of checkpoint front
  come_in = record {
    of_header = λ f e. stops _ _ f (stops _ _ f (stops _ _ f (stops _ _ f (stops ((header i.memory.frames).read bytes 0) _ f e))));
    of_records = λ h at is f e. stops _ _ f (stops _ _ f (stops _ _ f (stops _ _ f
        (goes_on ((header i.memory.frames).read bytes 0) _ h at f is (stops ((records i h).read bytes at) _ f e)))));
    of_places = λ h rows next reads f e. stops _ _ f (stops _ _ f (stops _ _ f
        (goes_on ((front i).read bytes 0) _ (front_from h rows) next f (front_read h rows next reads)
        (tells (bad_place h rows) (front_from h rows) next f e))));
    of_outputs = λ h rows next reads good f e. stops _ _ f (stops _ _ f
        (goes_on ((tested i).read bytes 0) _ (front_from h rows) next f (tested_read h rows next reads good)
        (stops ((outputs i).read bytes next) _ f e)));
    of_pages = λ h rows next reads good some place are f e. stops _ _ f (stops _ _ f
        (goes_on ((tested i).read bytes 0) _ (front_from h rows) next f (tested_read h rows next reads good)
        (goes_on ((outputs i).read bytes next) _ some place f are (stops ((pages h.pages).read bytes place) _ f e))));
    of_end = λ h rows next reads good some place are all end read.
        let whole = then ((tested i).read bytes 0) _ (front_from h rows) next (tested_read h rows next reads good)
        ∙ then ((outputs i).read bytes next) _ some place are
        ∙ then ((pages h.pages).read bytes place) _ all end read in
        ap (λ o. fault_in (after (after o (λ a n. cond (nat_lt n (length bytes)) (Bad 13 n) (Got a n)))
        (λ contents n. Got (saved_in contents) n))) whole
        ∙ ends (nat_lt end (length bytes)) (contents_from h rows some all) end saved_in;
  }

pub come_in_order : (i : Image) (bytes : List ℕ) → FaultsComeInOrder i bytes
come_in_order i bytes = come_in i bytes
