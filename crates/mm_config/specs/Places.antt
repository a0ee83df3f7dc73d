-- Places of pages.
use Rattle.std.specs.Prelude.{◌≡◌, ℕ, ◌<◌, nat_eq, List, length, slice_index_or}
use Rattle.std.specs.List.{position_or_len}

-- the place of the page of a number, or how many have one
abbrev pub page_place : List ℕ → ℕ → ℕ
page_place pages number = position_or_len (nat_eq number) pages

-- each page has one place
abbrev pub HaveOnePlace : List ℕ → Type 0
HaveOnePlace pages = (at : ℕ) → at < length pages → page_place pages (slice_index_or pages at 0) ≡ at
