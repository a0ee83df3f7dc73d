-- A block that was written since its last miss is a written block of its line.
use Rattle.std.proofs.Common.{◌≡◌, ℕ, Bool, true, false, ◌&&◌, ◌||◌, nat_eq, if◌then◌else◌, List, [], ◌∷◌, ◌++◌, Option}
use Rattle.std.proofs.Common.{Some, None, refl, sym, ap, ◌∙◌, eqb-true, eq-eqb}
use Rattle.mm_word.specs.declared.perm.Kind.{Kind}
use Rattle.mm_model.specs.Uses.{Use, Accessed, Removed}
use Rattle.mm_model.specs.Counted.{block_of, line_of, page_of_block, writes, outside_page, latest, is_hit, written}
use Rattle.mm_model.{specs.CountFacts.{HitsOnly, WroteSinceMiss}, proofs.CountsSay.{latest_says, says_latest, hit_says}}

-- the block of a line has the line's index
line_is : (line block : ℕ) (us : List Use) → latest line us ≡ Some block → line_of block ≡ line
line_is line block us e = (latest_says line block us e).its_line

kept_before : (page block : ℕ) (o : Option ℕ) → outside_page page o ≡ Some block → o ≡ Some block
kept_before page block None e = cc
kept_before page block (Some b) e = by (nat_eq (page_of_block b) page) e
  where
    by : (t : Bool) → (if t then None else Some b) ≡ Some block → Some b ≡ Some block
    by true e = cc
    by false e = e

module _ (line block : ℕ) (kind : Kind) (addr : ℕ) (earlier : List Use) (its : block_of addr ≡ block) (wrote : writes kind ≡ true) where
  abbrev first : List Use
  first = Accessed kind addr true true ∷ earlier

  since : (later : List Use) → HitsOnly block first later → latest line (later ++ first) ≡ Some block → written line (later ++ first) ≡ true
  since [] hits is =
      let same : (nat_eq (line_of (block_of addr)) line) ≡ true = eq-eqb (line_of (block_of addr)) line (ap line_of its ∙ line_is line block first is) in
      ap (λ t. if t then (writes kind && true) || (is_hit (block_of addr) earlier && written line earlier) else written line earlier) same
      ∙ ap (λ t. (t && true) || (is_hit (block_of addr) earlier && written line earlier)) wrote
  since (Accessed k a true d ∷ later) hits is = by (nat_eq (line_of (block_of a)) line) refl is (λ e. since later hits.1 e)
    where
      found : block_of a ≡ block → latest line (later ++ first) ≡ Some block → (is_hit (block_of a) (later ++ first) ≡ true)
      found same e = ap (λ b. is_hit b (later ++ first)) same ∙ hits.0 same

      hit_at_line : (b : ℕ) → line_of block ≡ line → is_hit block (later ++ first) ≡ true → latest line (later ++ first) ≡ Some block
      hit_at_line b at hit = ap (λ l. latest l (later ++ first)) (sym at) ∙ says_latest (line_of block) block (later ++ first) (hit_says block (later ++ first) hit)

      either : (x y z : Bool) → y ≡ true → z ≡ true → (x || (y && z)) ≡ true
      either true y z p q = refl
      either false true z p q = q
      either false false z p q = p

      by : (t : Bool) → nat_eq (line_of (block_of a)) line ≡ t
          → (if t then Some (block_of a) else latest line (later ++ first)) ≡ Some block
          → (latest line (later ++ first) ≡ Some block → written line (later ++ first) ≡ true)
          → (if t then (writes k && d) || (is_hit (block_of a) (later ++ first) && written line (later ++ first)) else written line (later ++ first)) ≡ true
      by true at e rest =
          let same : block_of a ≡ block = cc in
          let index : line_of block ≡ line = sym (ap line_of same) ∙ eqb-true (line_of (block_of a)) line at in
          let before = hit_at_line block index (hits.0 same) in
          either (writes k && d) (is_hit (block_of a) (later ++ first)) (written line (later ++ first)) (found same before) (rest before)
      by false at e rest = rest e
  since (Accessed k a false d ∷ later) hits is = since later hits is
  since (Removed page ∷ later) hits is = since later hits (kept_before page block (latest line (later ++ first)) is)

pub says_written : (line block : ℕ) (us : List Use) → latest line us ≡ Some block → WroteSinceMiss block us → written line us ≡ true
says_written line block us is w =
    ap (written line) w.split ∙ since line block w.kind w.addr w.earlier w.its_block w.wrote w.later w.hits (sym (ap (latest line) w.split) ∙ is)
