-- What a word of a text of events says.
use Rattle.std.proofs.Common.{◌≡◌, ℕ, ◌+◌, ◌<◌, ◌≤◌, ◌⊎◌, inl, inr, false, List, ◌∷◌, ◌++◌, length, replicate, decimal}
use Rattle.std.proofs.{Common.{refl, sym, ap, ◌∙◌, subst, arith}, Math.ListN.get_or-append}
use Rattle.std.proofs.lemmas.{Fmt.decimal_injective, List.{length-append, length-replicate}}
use Rattle.mm_model.{specs.{Schedule.{IsItem, item_limit}, Words.IsGrammar}, proofs.ScheduleWords.item_unique}
use Rattle.mm_net.specs.{declared.item.NetItem.{NetItem, TheVariants.{Turn, Send, Carry}}, Marks.has}
use Rattle.mm_net.specs.Events.{IsEvent, Spells, Says, AreEvents}
use Rattle.mm_net.proofs.Parts.{lacks_both, lacks_more, lacking, lacking_first, split_unique, digits_lack}

digits_without : (m n : ℕ) → (m < 48) ⊎ (57 < m) → n ≤ 1000000 → has m (decimal n) ≡ false
digits_without m n h le = digits_lack m n (λ digit. elim h [ inl low ↦ omega arith | inr high ↦ omega arith ]) (omega arith)

-- the turns of an item have no byte but digits and `*`
turns_lack : (m : ℕ) (turns : List ℕ) (slot count : ℕ) → 57 < m → IsItem turns slot count → has m turns ≡ false
turns_lack m turns slot count h item =
    let one : has m (decimal slot) ≡ false = digits_without m slot (inr h) (omega (arith, item.number_limit)) in
    let two : has m (decimal count) ≡ false = digits_without m count (inr h) (omega (arith, item.count_limit)) in
    elim item.spelled [
      | inl e ↦ ap (λ (w : List ℕ). has m w) e.0 ∙ one
      | inr e ↦ ap (λ (w : List ℕ). has m w) e ∙ lacks_both m (decimal slot) (42 ∷ decimal count) one (lacks_more m 42 (decimal count) (λ same. omega arith) two)
    ]

-- a word `+..`

pub record SaysSend (link : List ℕ) (item : NetItem) (count : ℕ) : Type 0 where
  pub number : ℕ
  pub is : item ≡ Send number
  pub once : count ≡ 1
  pub limit : number ≤ 63
  pub spelled : link ≡ decimal number

tail_same : (x y : List ℕ) → 43 ∷ x ≡ 43 ∷ y → x ≡ y
tail_same x y e = cc

pub says_send : (link : List ℕ) (item : NetItem) (count : ℕ) → IsEvent item → Spells (43 ∷ link) item count → SaysSend link item count
says_send link (Turn node slot) count range says =
    absurd (lacking_first 43 58 link (decimal node) says.0 (digits_without 43 node (inl (omega arith)) (omega (arith, range.0))) (λ e. omega arith) says.2)
says_send link (Send number) count range says = record { number = number; is = refl; once = says.0; limit = range; spelled = tail_same link (decimal number) says.1 }
says_send link (Carry number integer) count range says =
    absurd (lacking_first 43 64 link (decimal number) (decimal integer) (digits_without 43 number (inl (omega arith)) (omega (arith, range.0))) (λ e. omega arith) says.1)

-- a word `..:..`

pub record SaysTurn (node turns : List ℕ) (item : NetItem) (count : ℕ) : Type 0 where
  pub number : ℕ
  pub slot : ℕ
  pub is : item ≡ Turn number slot
  pub limit : number ≤ 7
  pub spelled : node ≡ decimal number
  pub item_said : IsItem turns slot count

pub says_turn : (node turns : List ℕ) (item : NetItem) (count : ℕ) → has 58 node ≡ false → IsEvent item → Spells (node ++ 58 ∷ turns) item count → SaysTurn node turns item count
says_turn node turns (Turn number slot) count lacks range says =
    let parts = split_unique 58 node (decimal number) turns says.0 lacks (digits_without 58 number (inr (omega arith)) (omega (arith, range.0))) says.2 in
    record { number = number; slot = slot; is = refl; limit = range.0; spelled = parts.0; item_said = subst (λ (w : List ℕ). IsItem w slot count) (sym parts.1) says.1 }
says_turn node turns (Send number) count lacks range says =
    absurd (lacking 58 (43 ∷ decimal number) node turns (lacks_more 58 43 (decimal number) (λ e. omega arith) (digits_without 58 number (inr (omega arith)) (omega arith))) (sym says.1))
says_turn node turns (Carry number integer) count lacks range says =
    absurd (lacking 58 (decimal number ++ 64 ∷ decimal integer) node turns
    (lacks_both 58 (decimal number) (64 ∷ decimal integer) (digits_without 58 number (inr (omega arith)) (omega (arith, range.0)))
    (lacks_more 58 64 (decimal integer) (λ e. omega arith) (digits_without 58 integer (inr (omega arith)) (omega (arith, range.1))))) (sym says.1))

-- a word `..@..`

pub record SaysCarry (link integer : List ℕ) (item : NetItem) (count : ℕ) : Type 0 where
  pub number : ℕ
  pub place : ℕ
  pub is : item ≡ Carry number place
  pub once : count ≡ 1
  pub limit : number ≤ 63
  pub place_limit : place ≤ 999999
  pub spelled : link ≡ decimal number
  pub counted : integer ≡ decimal place

turn_lacks : (m node : ℕ) (turns : List ℕ) (slot count : ℕ) → 58 < m → node ≤ 7 → IsItem turns slot count → has m (decimal node ++ 58 ∷ turns) ≡ false
turn_lacks m node turns slot count h le item =
    lacks_both m (decimal node) (58 ∷ turns) (digits_without m node (inr (omega arith)) (omega arith))
    (lacks_more m 58 turns (λ e. omega arith) (turns_lack m turns slot count (omega arith) item))

pub says_carry : (link integer : List ℕ) (item : NetItem) (count : ℕ) → has 64 link ≡ false → IsEvent item → Spells (link ++ 64 ∷ integer) item count → SaysCarry link integer item count
says_carry link integer (Turn node slot) count lacks range says =
    absurd (lacking 64 (decimal node ++ 58 ∷ says.0) link integer (turn_lacks 64 node says.0 slot count (omega arith) range.0 says.1) (sym says.2))
says_carry link integer (Send number) count lacks range says =
    absurd (lacking 64 (43 ∷ decimal number) link integer (lacks_more 64 43 (decimal number) (λ e. omega arith) (digits_without 64 number (inr (omega arith)) (omega arith))) (sym says.1))
says_carry link integer (Carry number place) count lacks range says =
    let parts = split_unique 64 link (decimal number) integer (decimal place) lacks (digits_without 64 number (inr (omega arith)) (omega (arith, range.0))) says.1 in
    record { number = number; place = place; is = refl; once = says.0; limit = range.0; place_limit = range.1; spelled = parts.0; counted = parts.1 }

-- a word with none of the three

-- a word says one thing

pub same_number : (a b : ℕ) → a ≤ 1000000 → b ≤ 1000000 → decimal a ≡ decimal b → a ≡ b
same_number a b h k e = decimal_injective a b (omega arith) (omega arith) e

pub word_unique : (w : List ℕ) (i j : NetItem) (k l : ℕ) → IsEvent i → Spells w i k → IsEvent j → Spells w j l → (i ≡ j) × (k ≡ l)
word_unique w (Turn node slot) j k l range says other says_other =
    let f = says_turn (decimal node) says.0 j l (digits_without 58 node (inr (omega arith)) (omega (arith, range.0))) other (subst (λ (v : List ℕ). Spells v j l) says.2 says_other) in
    let same : node ≡ f.number = same_number node f.number (omega (arith, range.0)) (omega (arith, f.limit)) f.spelled in
    let turns = item_unique says.0 slot k f.slot l says.1 f.item_said in
    (ap (λ (n : ℕ). Turn n slot) same ∙ ap (λ (s : ℕ). Turn f.number s) turns.0 ∙ sym f.is, turns.1)
word_unique w (Send number) j k l range says other says_other =
    let f = says_send (decimal number) j l other (subst (λ (v : List ℕ). Spells v j l) says.1 says_other) in
    let same : number ≡ f.number = same_number number f.number (omega arith) (omega (arith, f.limit)) f.spelled in
    (ap (λ (n : ℕ). Send n) same ∙ sym f.is, says.0 ∙ sym f.once)
word_unique w (Carry number place) j k l range says other says_other =
    let f = says_carry (decimal number) (decimal place) j l (digits_without 64 number (inr (omega arith)) (omega (arith, range.0))) other (subst (λ (v : List ℕ). Spells v j l) says.1 says_other) in
    let same : number ≡ f.number = same_number number f.number (omega (arith, range.0)) (omega (arith, f.limit)) f.spelled in
    let place_same : place ≡ f.place = same_number place f.place (omega (arith, range.1)) (omega (arith, f.place_limit)) f.counted in
    (ap (λ (n : ℕ). Carry n place) same ∙ ap (λ (s : ℕ). Carry f.number s) place_same ∙ sym f.is, says.0 ∙ sym f.once)

says_unique : (w : List ℕ) (xs ys : List NetItem) → Says w xs → Says w ys → xs ≡ ys
says_unique w xs ys a b =
    let f = word_unique w a.item b.item a.count b.count a.range a.spelled b.range b.spelled in
    a.repeated ∙ ap (λ (i : NetItem). replicate a.count i) f.0 ∙ ap (λ (k : ℕ). replicate k b.item) f.1 ∙ sym b.repeated

-- a front of events keeps their rules
front_keeps : (xs ys : List NetItem) → AreEvents (xs ++ ys) → AreEvents xs
front_keeps xs ys are = record {
  limit = omega (arith, are.limit, length-append xs ys);
  each = λ k d h. subst IsEvent (get_or-append xs ys d k h) (are.each k d (omega (arith, length-append xs ys)));
}

pub events_grammar : IsGrammar Says AreEvents
events_grammar = record {
  one = says_unique;
  front = front_keeps;
  none = record { limit = omega arith; each = λ k d h. absurd (omega arith) };
}

-- A word whose events would be too many.

pub too_many : (w : List ℕ) (items : List NetItem) (i : NetItem) (k : ℕ) → IsEvent i → Spells w i k
    → item_limit < length items + k → (said : List NetItem) → Says w said → AreEvents (items ++ said) → ⊥
too_many w items i k range spelled many said says are =
    let same : said ≡ replicate k i = says_unique w said (replicate k i) says (record { item = i; count = k; range = range; spelled = spelled; repeated = refl }) in
    let size : length said ≡ k = ap length same ∙ length-replicate k i in
    omega (arith, are.limit, length-append items said)
