-- Schedules, computed.
use Rattle.std.proofs.Common.{◌≡◌, ◌≢◌, ℕ, ◌+◌, ◌≤◌, List, [], ◌∷◌, ◌++◌, length, codes, decimal, refl, sym, ap, ◌∙◌}
use Rattle.std.proofs.{Common.{arith, inl, inr}, lemmas.List.{length-append, length-replicate}}
use Rattle.std.specs.{Prelude.replicate, Fmt.digits}
use Rattle.mm_model.specs.{Words.{runs_of, no_word, word}, Schedule.{IsItem, SaysItems, FaultsAt, only}}
use Rattle.mm_model.proofs.ScheduleWords.{says_copies}
use Rattle.mm_examples.specs.WorkedSchedules.{MeansItems, MeansNothing, MeansAbsentSlots, SkipsComments, CountsTooMany}
use Rattle.mm_examples.specs.WorkedSchedules.{ListsTooMany, CountsNone, LeadsWithZero, KeepsOneGroup, KeepsIdleItems}
use Rattle.mm_examples.{specs.WorkedSchedules.KeepsPorts, proofs.Items.{plain_item, counted_item, value_is}}

-- a number alone
alone : (n : ℕ) (text : List ℕ) → n ≤ 255 → text ≡ decimal n → SaysItems text (n ∷ [])
alone n text small is = says_copies text n 1 (record { number_limit = small; some = omega arith; count_limit = omega arith; spelled = inl (is, refl) })

-- a number and a count
counted : (n k : ℕ) (text : List ℕ) → n ≤ 255 → 1 ≤ k → k ≤ 1000000 → text ≡ decimal n ++ 42 ∷ decimal k → SaysItems text (replicate k n)
counted n k text small some few is = says_copies text n k (record { number_limit = small; some = some; count_limit = few; spelled = inr is })

pub means_items : MeansItems
unfolding runs_of digits
means_items = record {
  lists = word (counted 0 3 _ (omega arith) (omega arith) (omega arith) refl)
      (word (alone 1 _ (omega arith) refl)
      (word (alone 0 _ (omega arith) refl) (word (counted 1 2 _ (omega arith) (omega arith) (omega arith) refl)
      no_word)));
  rules = omega arith;
}

pub means_nothing : MeansNothing
unfolding runs_of
means_nothing = record { lists = no_word; rules = omega arith }

pub means_absent_slots : MeansAbsentSlots
unfolding runs_of digits
means_absent_slots = record { lists = word (alone 9 _ (omega arith) refl) (word (alone 9 _ (omega arith) refl) no_word); rules = omega arith }

pub skips_comments : SkipsComments
unfolding runs_of digits
skips_comments = record { lists = word (alone 1 _ (omega arith) refl) (word (alone 4 _ (omega arith) refl) no_word); rules = omega arith }

-- the first word is no item
first_word : (text bytes : List ℕ) (place : ℕ) (behind : List (ℕ × List ℕ)) → runs_of text ≡ (place, bytes) ∷ behind
    → ((n k : ℕ) → ¬ IsItem bytes n k) → FaultsAt text place
first_word text bytes place behind split none = record {
  before = [];
  word = bytes;
  behind = behind;
  split = split;
  items = [];
  lists = no_word;
  rules = omega arith;
  fault = λ said says few. none says.number says.count says.item;
}

pub counts_too_many : CountsTooMany
unfolding runs_of
counts_too_many = first_word _ (codes "3*1000001") 1 [] refl
    (λ n k item. let is = value_is (codes "1000001") k (omega (arith, item.count_limit)) (counted_item 49 (codes "000001") item refl) in omega (arith, is, item.count_limit))

pub counts_none : CountsNone
unfolding runs_of
counts_none = first_word _ (codes "0*0") 0 [] refl
    (λ n k item. let is = value_is (codes "0") k (omega (arith, item.count_limit)) (counted_item 48 [] item refl) in omega (arith, is, item.some))

seven : (n : ℕ) → 7 ≡ n → codes "07" ≢ decimal n
unfolding digits
seven n is same = let at : codes "07" ≡ decimal 7 = same ∙ ap decimal (sym is) in absurd (cc)

pub leads_with_zero : LeadsWithZero
unfolding runs_of
leads_with_zero = first_word _ (codes "07") 0 [] refl
    (λ n k item. let same = plain_item item refl in seven n (value_is (codes "07") n (omega (arith, item.number_limit)) same) same)

many_long : (k n : ℕ) (items : List ℕ) → length (replicate k n ++ items) ≡ k + length items
many_long k n items = length-append (replicate k n) items ∙ ap (λ m. m + length items) (length-replicate k n)

-- a word of so many items and one of one item leave no room
no_room : (text first second third : List ℕ) (a b place k : ℕ) → runs_of text ≡ (a, first) ∷ (b, second) ∷ (place, third) ∷ [] → k + 1 ≡ 1000000
    → SaysItems first (replicate k 0) → SaysItems second (1 ∷ []) → FaultsAt text place
no_room text first second third a b place k split full one two = record {
  before = (a, first) ∷ (b, second) ∷ [];
  word = third;
  behind = [];
  split = split;
  items = replicate k 0 ++ 1 ∷ [];
  lists = word one (word two no_word);
  rules = omega (arith, many_long k 0 (1 ∷ []), full);
  fault = λ said says few. omega (
    arith,
    many_long k 0 (1 ∷ []),
    full,
    few,
    length-append (replicate k 0 ++ 1 ∷ []) said,
    ap length says.repeated,
    length-replicate says.count says.number,
    says.item.some,
  );
}

pub lists_too_many : ListsTooMany
unfolding runs_of digits
lists_too_many = no_room _ (codes "0*999999") (codes "1") (codes "22") 0 9 11 999999 refl
    (omega arith) (counted 0 999999 _ (omega arith) (omega arith) (omega arith) refl) (alone 1 _ (omega arith) refl)

pub keeps_one_group : KeepsOneGroup
unfolding only
keeps_one_group = refl

pub keeps_idle_items : KeepsIdleItems
unfolding only
keeps_idle_items = refl

pub keeps_ports : KeepsPorts
unfolding only
keeps_ports = (refl, refl)
