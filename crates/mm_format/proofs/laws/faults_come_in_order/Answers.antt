use Rattle.std.proofs.Common.{◌≡◌, ℕ, Bool, true, false, cond, nat_lt, length, Some, None, refl, ap, ◌∙◌}
use Rattle.mm_format.specs.{Formats.{Parsed, after, fault_in, Parsed.{Got, Bad}}, Headers.header}
use Rattle.mm_format.specs.Images.{slots, pages, image, image_fault}
use Rattle.mm_format.proofs.laws.faults_come_in_order.Goals as goal

-- a fault of the first part is that of both
stops : {A B : Type 0} (o : Parsed A) (rest : A → ℕ → Parsed B) (fault : ℕ × ℕ) → fault_in o ≡ Some fault
    → fault_in (after o rest) ≡ Some fault
stops (Got a next) rest fault e = absurd cc
stops (Bad number at) rest fault e = e

-- and so is one of the second, if the first was read
goes_on : {A B : Type 0} (o : Parsed A) (rest : A → ℕ → Parsed B) (a : A) (next : ℕ) (fault : ℕ × ℕ) → o ≡ Got a next
    → fault_in (rest a next) ≡ Some fault → fault_in (after o rest) ≡ Some fault
goes_on o rest a next fault is e = ap (λ x. fault_in (after x rest)) is ∙ e

-- a part that was read is followed by the rest
then : {A B : Type 0} (o : Parsed A) (rest : A → ℕ → Parsed B) (a : A) (next : ℕ) → o ≡ Got a next
    → after o rest ≡ rest a next
then o rest a next is = ap (λ x. after x rest) is

ends : {A : Type 0} (b : Bool) (a : A) (end : ℕ) → fault_in (cond b (Bad 13 end) (Got a end)) ≡ cond b (Some (13, end)) None
ends true a end = refl
ends false a end = refl

pub returns : goal.returns
unfolding image image_fault slots
returns c = λ bytes. record {
  of_header = λ f e. stops _ _ f (stops (header.read bytes 0) _ f e);
  of_records = λ h at is f e. stops _ _ f (goes_on (header.read bytes 0) _ h at f is (stops _ _ f (stops _ _ f e)));
  of_slots = λ h at is f e. stops _ _ f (goes_on (header.read bytes 0) _ h at f is
      (stops ((slots h.version h.slots).read bytes at) _ f e));
  of_pages = λ h at is all next are f e. stops _ _ f (goes_on (header.read bytes 0) _ h at f is
      (goes_on ((slots h.version h.slots).read bytes at) _ all next f are (stops ((pages h.pages).read bytes next) _ f e)));
  of_end = λ h at is all next are some end read.
      let whole = then (header.read bytes 0) _ h at is ∙ then ((slots h.version h.slots).read bytes at) _ all next are
      ∙ then ((pages h.pages).read bytes next) _ some end read in
      ap (λ o. fault_in (after o (λ a n. cond (nat_lt n (length bytes)) (Bad 13 n) (Got a n)))) whole
      ∙ ends (nat_lt end (length bytes)) _ end;
}
