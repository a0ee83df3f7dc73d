-- What a hit is, as a fact about the list.
use Rattle.std.proofs.Common.{◌≡◌, ◌≢◌, ℕ, ◌==◌, Bool, true, false, ◌&&◌, ◌||◌, if◌then◌else◌, List, [], ◌∷◌, ◌++◌}
use Rattle.std.proofs.Common.{Option, None, Some, refl, sym, ap, subst, arith, ◌∙◌, inl, inr}
use Rattle.std.proofs.lemmas.Bool.{cases_eq, or_cases, and_parts, Decides.nat_tests}
use Rattle.mm_word.specs.declared.perm.Kind.{Kind}
use Rattle.mm_model.specs.Uses.{Use, Accessed, Removed}
use Rattle.mm_model.specs.Counted.{latest, written, writes, outside_page, is_block, is_hit, block_of, line_of}
use Rattle.mm_model.specs.{Counted.page_of_block, CountFacts.{NoneWithLine, NotRemoved, LatestWas, WroteSinceMiss}}

later_access : {line block : ℕ} {us : List Use} (kind : Kind) (addr : ℕ) (done : Bool) → line_of (block_of addr) ≢ line
    → LatestWas line block us → LatestWas line block (Accessed kind addr true done ∷ us)
later_access kind addr done other was = record {
  later = Accessed kind addr true done ∷ was.later;
  kind = was.kind;
  addr = was.addr;
  done = was.done;
  earlier = was.earlier;
  split = ap (λ (vs : List Use). Accessed kind addr true done ∷ vs) was.split;
  its_block = was.its_block;
  its_line = was.its_line;
  latest = (other, was.latest);
  stays = was.stays;
}

later_no_page : {line block : ℕ} {us : List Use} (kind : Kind) (addr : ℕ) (done : Bool) → LatestWas line block us → LatestWas line block (Accessed kind addr false done ∷ us)
later_no_page kind addr done was = record {
  later = Accessed kind addr false done ∷ was.later;
  kind = was.kind;
  addr = was.addr;
  done = was.done;
  earlier = was.earlier;
  split = ap (λ (vs : List Use). Accessed kind addr false done ∷ vs) was.split;
  its_block = was.its_block;
  its_line = was.its_line;
  latest = was.latest;
  stays = was.stays;
}

later_removed : {line block : ℕ} {us : List Use} (page : ℕ) → page_of_block block ≢ page → LatestWas line block us → LatestWas line block (Removed page ∷ us)
later_removed page other was = record {
  later = Removed page ∷ was.later;
  kind = was.kind;
  addr = was.addr;
  done = was.done;
  earlier = was.earlier;
  split = ap (λ (vs : List Use). Removed page ∷ vs) was.split;
  its_block = was.its_block;
  its_line = was.its_line;
  latest = was.latest;
  stays = (other, was.stays);
}

kept_is : (page block : ℕ) (o : Option ℕ) → outside_page page o ≡ Some block → (o ≡ Some block) × (page_of_block block ≢ page)
kept_is page block None is = cc
kept_is page block (Some b) is = by (page_of_block b == page) refl is
  where
    by : (t : Bool) → (page_of_block b == page) ≡ t → (if t then None else Some b) ≡ Some block → (◌≡◌ {A = Option ℕ} (Some b) (Some block)) × (page_of_block block ≢ page)
    by true h e = cc
    by false h e =
        let same : b ≡ block = cc in
        let other : page_of_block b ≢ page = grind (arith, nat_tests, h) in
        (e, subst (λ (x : ℕ). page_of_block x ≢ page) same other)

pub latest_says : (line block : ℕ) (us : List Use) → latest line us ≡ Some block → LatestWas line block us
latest_says line block [] is = cc
latest_says line block (Accessed kind addr false done ∷ us) is = later_no_page kind addr done (latest_says line block us is)
latest_says line block (Removed page ∷ us) is =
    let was = kept_is page block (latest line us) is in
    later_removed page was.1 (latest_says line block us was.0)
latest_says line block (Accessed kind addr true done ∷ us) is = elim (cases_eq (line_of (block_of addr)) line) [
  | inl same ↦
      let test : (line_of (block_of addr) == line) ≡ true = grind (arith, nat_tests, same) in
      let here : Some (block_of addr) ≡ Some block = sym (ap (λ (t : Bool). if t then Some (block_of addr) else latest line us) test) ∙ is in
      let its : block_of addr ≡ block = cc in
      record {
        later = [];
        kind = kind;
        addr = addr;
        done = done;
        earlier = us;
        split = refl;
        its_block = its;
        its_line = sym (ap line_of its) ∙ same;
        latest = tt;
        stays = tt;
      }
  | inr other ↦
      let test : (line_of (block_of addr) == line) ≡ false = grind (arith, nat_tests, other) in
      later_access kind addr done other (latest_says line block us (sym (ap (λ (t : Bool). if t then Some (block_of addr) else latest line us) test) ∙ is))
]

-- a list that starts as it says
latest_after : (line : ℕ) (kind : Kind) (addr : ℕ) (done : Bool) (earlier later : List Use) → line_of (block_of addr) ≡
    line → NoneWithLine line later → NotRemoved (page_of_block (block_of addr)) later →
    latest line (later ++ Accessed kind addr true done ∷ earlier) ≡ Some (block_of addr)
latest_after line kind addr done earlier [] same none stays =
    let test : (line_of (block_of addr) == line) ≡ true = grind (arith, nat_tests, same) in
    ap (λ (t : Bool). if t then Some (block_of addr) else latest line earlier) test
latest_after line kind addr done earlier (Accessed k a true d ∷ later) same none stays =
    let first : line_of (block_of a) ≢ line = none.0 in
    let test : (line_of (block_of a) == line) ≡ false = grind (arith, nat_tests, first) in
    ap (λ (t : Bool). if t then Some (block_of a) else latest line (later ++ Accessed kind addr true done ∷ earlier)) test
    ∙ latest_after line kind addr done earlier later same none.1 stays
latest_after line kind addr done earlier (Accessed k a false d ∷ later) same none stays = latest_after line kind addr done earlier later same none stays
latest_after line kind addr done earlier (Removed p ∷ later) same none stays =
    let first : page_of_block (block_of addr) ≢ p = stays.0 in
    let test : (page_of_block (block_of addr) == p) ≡ false = grind (arith, nat_tests, first) in
    ap (λ (o : Option ℕ). outside_page p o) (latest_after line kind addr done earlier later same none stays.1)
    ∙ ap (λ (t : Bool). if t then None else Some (block_of addr)) test

pub says_latest : (line block : ℕ) (us : List Use) → LatestWas line block us → latest line us ≡ Some block
says_latest line block us was =
    ap (λ (vs : List Use). latest line vs) was.split
    ∙ latest_after line was.kind was.addr was.done was.earlier was.later (ap line_of was.its_block ∙ was.its_line)
    was.latest (subst (λ (b : ℕ). NotRemoved (page_of_block b) was.later) (sym was.its_block) was.stays)
    ∙ ap (λ (b : ℕ). Some b) was.its_block

-- a hit, as a fact about the list
pub hit_says : (block : ℕ) (us : List Use) → is_hit block us ≡ true → LatestWas (line_of block) block us
hit_says block us h = latest_says (line_of block) block us (found (latest (line_of block) us) h)
  where
    found : (o : Option ℕ) → is_block o block ≡ true → o ≡ Some block
    found None h = cc
    found (Some b) h = let same : b ≡ block = grind (arith, nat_tests, h) in ap (λ (x : ℕ). Some x) same

pub says_hit : (block : ℕ) (us : List Use) → LatestWas (line_of block) block us → is_hit block us ≡ true
says_hit block us was =
    let self : (block == block) ≡ true = grind (arith, nat_tests) in
    ap (λ (o : Option ℕ). is_block o block) (says_latest (line_of block) block us was) ∙ self

-- one more use before which it was so
wrote_access : {block : ℕ} {us : List Use} (kind : Kind) (addr : ℕ) (done : Bool)
    → (block_of addr ≡ block → is_hit block us ≡ true) → WroteSinceMiss block us → WroteSinceMiss block
    (Accessed kind addr true done ∷ us)
wrote_access {block = block} kind addr done hit was = record {
  later = Accessed kind addr true done ∷ was.later;
  kind = was.kind;
  addr = was.addr;
  earlier = was.earlier;
  split = ap (λ (vs : List Use). Accessed kind addr true done ∷ vs) was.split;
  its_block = was.its_block;
  wrote = was.wrote;
  hits = (λ its. ap (λ (vs : List Use). is_hit block vs) (sym was.split) ∙ hit its, was.hits);
}

wrote_no_page : {block : ℕ} {us : List Use} (kind : Kind) (addr : ℕ) (done : Bool) → WroteSinceMiss block us → WroteSinceMiss block (Accessed kind addr false done ∷ us)
wrote_no_page kind addr done was = record {
  later = Accessed kind addr false done ∷ was.later;
  kind = was.kind;
  addr = was.addr;
  earlier = was.earlier;
  split = ap (λ (vs : List Use). Accessed kind addr false done ∷ vs) was.split;
  its_block = was.its_block;
  wrote = was.wrote;
  hits = was.hits;
}

wrote_removed : {block : ℕ} {us : List Use} (page : ℕ) → WroteSinceMiss block us → WroteSinceMiss block (Removed page ∷ us)
wrote_removed page was = record {
  later = Removed page ∷ was.later;
  kind = was.kind;
  addr = was.addr;
  earlier = was.earlier;
  split = ap (λ (vs : List Use). Removed page ∷ vs) was.split;
  its_block = was.its_block;
  wrote = was.wrote;
  hits = was.hits;
}

wrote_here : (block : ℕ) (us : List Use) (kind : Kind) (addr : ℕ) (done : Bool) → (writes kind && done) ≡ true → block_of addr ≡ block → WroteSinceMiss block (Accessed kind addr true done ∷ us)
wrote_here block us kind addr done w its =
    let yes : done ≡ true = second (writes kind) done w in
    record { later = []; kind = kind; addr = addr; earlier = us; split = ap (λ (d : Bool). Accessed kind addr true d ∷ us) yes; its_block = its; wrote = first (writes kind) done w; hits = tt }
  where
    second : (a b : Bool) → (a && b) ≡ true → b ≡ true
    second true b h = h
    second false b h = cc

    first : (a b : Bool) → (a && b) ≡ true → a ≡ true
    first true b h = refl
    first false b h = h

is_of : (o : Option ℕ) (b : ℕ) → is_block o b ≡ true → o ≡ Some b
is_of None b h = cc
is_of (Some x) b h = let same : x ≡ b = grind (arith, nat_tests, h) in ap (λ (y : ℕ). Some y) same

pub written_says : (line block : ℕ) (us : List Use) → latest line us ≡ Some block → written line us ≡ true → WroteSinceMiss block us
written_says line block [] is w = cc
written_says line block (Accessed kind addr false done ∷ us) is w = wrote_no_page kind addr done (written_says line block us is w)
written_says line block (Removed page ∷ us) is w = wrote_removed page (written_says line block us (kept_is page block (latest line us) is).0 w)
written_says line block (Accessed kind addr true done ∷ us) is w = elim (cases_eq (line_of (block_of addr)) line) [
  | inl same ↦
      let test : (line_of (block_of addr) == line) ≡ true = grind (arith, nat_tests, same) in
      let here : Some (block_of addr) ≡ Some block = sym (ap (λ (t : Bool). if t then Some (block_of addr) else latest line us) test) ∙ is in
      let its : block_of addr ≡ block = cc in
      elim (or_cases (writes kind && done) (is_hit (block_of addr) us && written line us)
      (sym (ap (λ (t : Bool). if t then (writes kind && done) || (is_hit (block_of addr) us && written line us) else written line us) test) ∙ w)) [
        | inl now ↦ wrote_here block us kind addr done now its
        | inr before ↦
            let parts = and_parts (is_hit (block_of addr) us) (written line us) before in
            let hit : is_hit block us ≡ true = ap (λ (b : ℕ). is_hit b us) (sym its) ∙ parts.0 in
            let last : latest line us ≡ Some block = ap (λ (n : ℕ). latest n us) (sym (sym (ap line_of its) ∙ same)) ∙ is_of (latest (line_of block) us) block hit in
            wrote_access kind addr done (λ i. hit) (written_says line block us last parts.1)
      ]
  | inr other ↦
      let test : (line_of (block_of addr) == line) ≡ false = grind (arith, nat_tests, other) in
      let last : latest line us ≡ Some block = sym (ap (λ (t : Bool). if t then Some (block_of addr) else latest line us) test) ∙ is in
      let old : written line us ≡ true = sym (ap (λ (t : Bool). if t then (writes kind && done) || (is_hit (block_of addr) us && written line us) else written line us) test) ∙ w in
      let line_is : line_of block ≡ line = (latest_says line block us last).its_line in
      wrote_access kind addr done (λ its. absurd (other (ap line_of its ∙ line_is))) (written_says line block us last old)
]
