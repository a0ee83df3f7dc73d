-- What reads of one file are, one after the other.
use Rattle.std.proofs.Common.{◌≡◌, ℕ, ◌+◌, ◌<◌, List, [], ◌∷◌, ◌++◌, Some, refl, sym, ap, ◌∙◌, subst, arith}
use Rattle.std.{proofs.lemmas.List.Sums.fold-append, specs.List.{fold, sum, AllByRecursion}}
use Rattle.mm_word.specs.Adding.{Adds, adds_none, adds_both}
use Rattle.mm_io.specs.Files.{PieceRead, AreOf, reads_from, AsksOnly, AsksWhole, AsksBeyond}

sum_push : (counts : List ℕ) (n : ℕ) → sum (counts ++ n ∷ []) ≡ sum counts + n
sum_push counts n = fold-append (λ a x. a + x) 0 counts (n ∷ [])

some_push : (counts : List ℕ) (n : ℕ) → AllByRecursion (λ m. 0 < m) counts → 0 < n → AllByRecursion (λ m. 0 < m) (counts ++ n ∷ [])
some_push [] n before here = (here, tt)
some_push (m ∷ counts) n before here = (before.0, some_push counts n before.1 here)

reads_push : (name : List ℕ) (room offset : ℕ) (counts : List ℕ) (n : ℕ)
    → reads_from name room offset (counts ++ n ∷ [])
    ≡ reads_from name room offset counts ++ record { name = name; offset = fold ◌+◌ offset counts; room = room; count = Some n } ∷ []
reads_push name room offset [] n = refl
reads_push name room offset (m ∷ counts) n =
    let first : PieceRead = record { name = name; offset = offset; room = room; count = Some m } in
    ap (λ reads. first ∷ reads) (reads_push name room (offset + m) counts n)

of_push : (name : List ℕ) (reads : List PieceRead) (read : PieceRead) → AreOf name reads → read.name ≡ name → AreOf name (reads ++ read ∷ [])
of_push name [] read before here = (here, tt)
of_push name (first ∷ reads) read before here = (before.0, of_push name reads read before.1 here)

of_reads_from : (name : List ℕ) (room offset : ℕ) (counts : List ℕ) → AreOf name (reads_from name room offset counts)
of_reads_from name room offset [] = tt
of_reads_from name room offset (n ∷ counts) = (refl, of_reads_from name room (offset + n) counts)

-- the first `len` bytes of a file were read through a buffer, piece by piece, and nothing else
pub record AsksFront {F : Type 0} (asked : F → List PieceRead → Type 0) (old new : F) (name : List ℕ) (room len : ℕ) : Type 0 where
  pub counts : List ℕ
  pub some : AllByRecursion (λ n. 0 < n) counts
  pub all : sum counts ≡ len
  pub asks : Adds asked old new (reads_from name room 0 counts)

-- the read at a place, through a buffer with this room, that gave n bytes
abbrev pub Gave : {F : Type 0} (asked : F → List PieceRead → Type 0) → F → F → (name : List ℕ) → (at room n : ℕ) → Type 0
Gave asked middle new name at room n =
    Adds asked middle new (record { name = name; offset = at; room = room; count = Some n } ∷ [])

module _ {F : Type 0} {asked : F → List PieceRead → Type 0} where
  pub asks_nothing : (s : F) (name : List ℕ) → AsksOnly asked s s name
  asks_nothing s name = record { reads = []; of_name = tt; asks = adds_none s }

  pub front_nothing : (s : F) (name : List ℕ) (room : ℕ) → AsksFront asked s s name room 0
  front_nothing s name room = record { counts = []; some = tt; all = refl; asks = adds_none s }

  -- one read more, whatever it answers
  pub front_only : {old middle new : F} {name : List ℕ} {room len : ℕ} (read : PieceRead) → AsksFront asked old middle name room len
      → read.name ≡ name → Adds asked middle new (read ∷ []) → AsksOnly asked old new name
  front_only {name = name} {room = room} read before same more = record {
    reads = reads_from name room 0 before.counts ++ read ∷ [];
    of_name = of_push name (reads_from name room 0 before.counts) read (of_reads_from name room 0 before.counts) same;
    asks = adds_both before.asks more;
  }

  -- a buffer of the same length has the same room
  pub same_room : {middle new : F} {name : List ℕ} {at room other n : ℕ} → other ≡ room → Gave asked middle new name at other n
      → Gave asked middle new name at room n
  same_room {middle = middle} {new = new} {name = name} {at = at} {n = n} is more =
      subst (λ (k : ℕ). Gave asked middle new name at k n) is more

  -- the reads after one more, which gave n bytes
  front_read : {old middle new : F} {name : List ℕ} {room len at : ℕ} (n : ℕ) (before : AsksFront asked old middle name room len) → at ≡ len
      → Gave asked middle new name at room n → Adds asked old new (reads_from name room 0 (before.counts ++ n ∷ []))
  front_read {old = old} {middle = middle} {new = new} {name = name} {room = room} n before same more =
      let P : List PieceRead → Type 0 = λ reads. Adds asked old new reads in
      let Q : ℕ → Type 0 = λ place. Gave asked middle new name place room n in
      subst P (sym (reads_push name room 0 before.counts n)) (adds_both before.asks (subst Q (same ∙ sym before.all) more))

  -- one piece more
  pub front_again : {old middle new : F} {name : List ℕ} {room len at total : ℕ} (n : ℕ) → AsksFront asked old middle name room len
      → at ≡ len → 0 < n → total ≡ len + n → Gave asked middle new name at room n → AsksFront asked old new name room total
  front_again n before same some total more = record {
    counts = before.counts ++ n ∷ [];
    some = some_push before.counts n before.some some;
    all = sum_push before.counts n ∙ ap (λ k. k + n) before.all ∙ sym total;
    asks = front_read n before same more;
  }

  -- the read that brings more bytes than the limit
  pub front_beyond : {old middle new : F} {name : List ℕ} {room len at limit : ℕ} (n : ℕ) → AsksFront asked old middle name room len
      → at ≡ len → limit < len + n → Gave asked middle new name at room n → AsksBeyond asked old new name limit
  front_beyond {room = room} n before same more read = record {
    room = room;
    counts = before.counts ++ n ∷ [];
    beyond = let total = sum_push before.counts n in let all = before.all in omega (arith, more);
    asks = front_read n before same read;
  }

  -- the read that finds the end
  pub front_ends : {old middle new : F} {name : List ℕ} {room len at : ℕ} (n : ℕ) → AsksFront asked old middle name room len → 0 < room
      → at ≡ len → n ≡ 0 → Gave asked middle new name at room n → AsksWhole asked old new name len
  front_ends {name = name} {room = room} n before roomy same none more = record {
    reads = reads_from name room 0 (before.counts ++ n ∷ []);
    whole = record {
      room = room;
      has_room = roomy;
      counts = before.counts;
      some = before.some;
      all = before.all;
      in_order = ap (λ k. reads_from name room 0 (before.counts ++ k ∷ [])) none;
    };
    asks = front_read n before same more;
  }
