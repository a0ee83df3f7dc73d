-- Links between nodes: the text of a link, and the rules that the links of a net keep.
use Rattle.std.specs.Prelude.{◌≡◌, ◌≢◌, ℕ, ◌%◌, ◌^◌, ◌<◌, ◌≤◌, List, [], ◌∷◌, ◌++◌, length, decimal}
use Rattle.std.specs.List.{All, AllPairs}
use Rattle.mm_model.specs.Words.{TextMeans, TextFaultsAt}
use Rattle.mm_net.specs.declared.link.Link.{Link}

-- the most links of a net
abbrev pub link_limit : ℕ
link_limit = 64

-- an end of a link: a node, and the address of a word of its memory
pub record IsEnd (node address : ℕ) : Type 0 where
  pub node_limit : node ≤ 7
  pub address_limit : address < 2 ^ 54
  pub whole : address % 8 ≡ 0

pub record IsLink (link : Link) : Type 0 where
  pub takes : IsEnd link.from link.take
  pub puts : IsEnd link.to link.put

-- the text of an end, `A.X`
abbrev pub end_text : ℕ → ℕ → List ℕ
end_text node address = decimal node ++ 46 ∷ decimal address

-- the text of a link, `A.X>B.Y`
abbrev pub link_text : Link → List ℕ
link_text link = end_text link.from link.take ++ 62 ∷ end_text link.to link.put

-- the word is a link's text
pub record Says (word : List ℕ) (said : List Link) : Type 0 where
  pub link : Link
  pub range : IsLink link
  pub spelled : word ≡ link_text link
  pub one : said ≡ link ∷ []

-- the ends of the links: for each link the end where it takes and the end where it puts
abbrev pub ends : List Link → List (ℕ × ℕ)
ends [] = []
ends (link ∷ links) = (link.from, link.take) ∷ (link.to, link.put) ∷ ends links

-- at most 64 links, and no end occurs twice
pub record AreLinks (links : List Link) : Type 0 where
  pub limit : length links ≤ link_limit
  pub each : All IsLink links
  pub once : AllPairs (λ x y. x ≢ y) (ends links)

-- the text means the links
abbrev pub Means : List ℕ → List Link → Type 0
Means text links = TextMeans Says AreLinks text links

-- the first word that is no link, or whose link breaks a rule, begins at the place
abbrev pub FaultsAt : List ℕ → ℕ → Type 0
FaultsAt text offset = TextFaultsAt Says AreLinks text offset
