-- Events of a net, and the text of events.
use Rattle.std.specs.{Prelude.{◌≡◌, ℕ, ◌≤◌, List, ◌∷◌, ◌++◌, length, replicate, decimal}, List.All}
use Rattle.mm_model.specs.{Schedule.{item_limit, IsItem}, Words.{TextMeans, TextFaultsAt}}
use Rattle.mm_net.specs.declared.item.NetItem.{NetItem, TheVariants.{Turn, Send, Carry}}

-- the numbers of an item are in range
abbrev pub IsEvent : NetItem → Type 0
IsEvent (Turn node slot) = (node ≤ 7) × (slot ≤ 255)
IsEvent (Send link) = link ≤ 63
IsEvent (Carry link number) = (link ≤ 63) × (number ≤ 999999)

-- The word says the item this count of times: a turn is `N:` and an item of a schedule, `S` or `S*K`; a link takes
-- once, `+L`, or carries once, `L@K`.
abbrev pub Spells : List ℕ → NetItem → ℕ → Type 0
Spells word (Turn node slot) count = (turns : List ℕ) × IsItem turns slot count × (word ≡ decimal node ++ 58 ∷ turns)
Spells word (Send link) count = (count ≡ 1) × (word ≡ 43 ∷ decimal link)
Spells word (Carry link number) count = (count ≡ 1) × (word ≡ decimal link ++ 64 ∷ decimal number)

pub record Says (word : List ℕ) (said : List NetItem) : Type 0 where
  pub item : NetItem
  pub count : ℕ
  pub range : IsEvent item
  pub spelled : Spells word item count
  pub repeated : said ≡ replicate count item

-- at most 1,000,000 events
pub record AreEvents (items : List NetItem) : Type 0 where
  pub limit : length items ≤ item_limit
  pub each : All IsEvent items

-- the text means the events
abbrev pub Means : List ℕ → List NetItem → Type 0
Means text items = TextMeans Says AreEvents text items

-- the first word that is no event, or that brings the count of events above the limit, begins at the place
abbrev pub FaultsAt : List ℕ → ℕ → Type 0
FaultsAt text offset = TextFaultsAt Says AreEvents text offset
