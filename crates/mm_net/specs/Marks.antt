-- Tests of words and links for the readers of texts.
use Rattle.std.specs.{Prelude.{ℕ, Bool, ◌&&◌, ◌||◌, ◌==◌, List}, List.list_any}
use Rattle.mm_net.specs.declared.link.Link.{Link}

-- the word has the byte
abbrev pub has : ℕ → List ℕ → Bool
has mark word = list_any (λ b. b == mark) word

-- the link takes or puts at the word of the node
abbrev pub has_end : ℕ → ℕ → Link → Bool
has_end node address link = (link.from == node && link.take == address) || (link.to == node && link.put == address)
