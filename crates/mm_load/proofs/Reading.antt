-- Files that are read one after the other.
use Rattle.std.proofs.Common.{◌≡◌, ℕ, ◌+◌, ◌≤◌, inl, inr, List, [], ◌∷◌, ◌++◌, length, Option, Result, Ok, Err, IfOk}
use Rattle.std.proofs.Common.{IfErr, refl, sym, ap, ◌∙◌, subst, arith, append_assoc, append-nil}
use Rattle.mm_io.specs.Files.{Rose, NoneFell, Holds, PieceRead, AreOf, FrontToEnd}
use Rattle.mm_load.specs.declared.status.{Refusal.Refusal, CommandError.CommandError}
use Rattle.mm_load.specs.Kinds.{Value, Accepts, Faults, limit_of}
use Rattle.mm_load.specs.Files.{Reading, FilesAccepted, FilesRefused, FilesFailed, FilesRead, AsksInOrder, AsksFiles}
use Rattle.mm_load.specs.Files.{GoThrough, ReadsWhole, Stops}
use Rattle.mm_cli.specs.declared.table.Kind.{Kind}
use Rattle.mm_load.specs.declared.status.CommandError.TheVariants as stop

-- 1. Files behind others.

behind_one : (before : List Value) (v : Value) (vs : List Value) → before ++ v ∷ vs ≡ (before ++ v ∷ []) ++ vs
behind_one before v vs = sym (append_assoc before (v ∷ []) vs)

module _ (held : List ℕ → Option (List ℕ)) (ys : List (List ℕ × Kind)) where
  accepted_then : (before : List Value) (xs : List (List ℕ × Kind)) (vs ws : List Value) → FilesAccepted held before xs vs
      → FilesAccepted held (before ++ vs) ys ws → FilesAccepted held before (xs ++ ys) (vs ++ ws)
  accepted_then before [] [] ws front back = subst (λ (b : List Value). FilesAccepted held b ys ws) (append-nil before) back
  accepted_then before [] (v ∷ vs) ws front back = absurd front
  accepted_then before (x ∷ xs) [] ws front back = absurd front
  accepted_then before (x ∷ xs) (v ∷ vs) ws (here, rest) back =
      (here, accepted_then (before ++ v ∷ []) xs vs ws rest (subst (λ (b : List Value). FilesAccepted held b ys ws) (behind_one before v vs) back))

  refused_first : (before : List Value) (xs : List (List ℕ × Kind)) (r : Refusal) → FilesRefused held before xs r → FilesRefused held before (xs ++ ys) r
  refused_first before [] r refused = absurd refused
  refused_first before (x ∷ xs) r (inl refused) = inl refused
  refused_first before (x ∷ xs) r (inr (v, here, refused)) = inr (v, here, refused_first (before ++ v ∷ []) xs r refused)

  refused_then : (before : List Value) (xs : List (List ℕ × Kind)) (vs : List Value) (r : Refusal) → FilesAccepted held before xs vs
      → FilesRefused held (before ++ vs) ys r → FilesRefused held before (xs ++ ys) r
  refused_then before [] [] r front back = subst (λ (b : List Value). FilesRefused held b ys r) (append-nil before) back
  refused_then before [] (v ∷ vs) r front back = absurd front
  refused_then before (x ∷ xs) [] r front back = absurd front
  refused_then before (x ∷ xs) (v ∷ vs) r (here, rest) back =
      inr (v, here, refused_then (before ++ v ∷ []) xs vs r rest (subst (λ (b : List Value). FilesRefused held b ys r) (behind_one before v vs) back))

module _ (held : List ℕ → Option (List ℕ)) (ys : List (List ℕ × Kind)) where
  asks_none : (before : List Value) → AsksInOrder held before ys []
  asks_none before = nothing before ys
    where
      nothing : (before : List Value) (files : List (List ℕ × Kind)) → AsksInOrder held before files []
      nothing before [] = refl
      nothing before (file ∷ files) = ([], [], refl, tt, inl refl)

  asks_first : (before : List Value) (xs : List (List ℕ × Kind)) (reads : List PieceRead) → AsksInOrder held before xs reads
      → AsksInOrder held before (xs ++ ys) reads
  asks_first before [] reads none = subst (λ (ns : List PieceRead). AsksInOrder held before ys ns) (sym none) (asks_none before)
  asks_first before (x ∷ xs) reads (mine, later, is, of, inl none) = (mine, later, is, of, inl none)
  asks_first before (x ∷ xs) reads (mine, later, is, of, inr (v, here, asks)) =
      (mine, later, is, of, inr (v, here, asks_first (before ++ v ∷ []) xs later asks))

  -- those behind are asked for where all of the first are accepted
  asks_behind : (before : List Value) (xs : List (List ℕ × Kind)) (vs : List Value) (reads : List PieceRead) → FilesAccepted held before xs vs
      → AsksInOrder held (before ++ vs) ys reads → AsksInOrder held before (xs ++ ys) reads
  asks_behind before [] [] reads front back = subst (λ (b : List Value). AsksInOrder held b ys reads) (append-nil before) back
  asks_behind before [] (v ∷ vs) reads front back = absurd front
  asks_behind before (x ∷ xs) [] reads front back = absurd front
  asks_behind before (x ∷ xs) (v ∷ vs) reads (here, rest) back =
      ([], reads, refl, tt, inr (v, here, asks_behind (before ++ v ∷ []) xs vs reads rest (subst (λ (b : List Value). AsksInOrder held b ys reads) (behind_one before v vs) back)))

  -- those of the first may have been asked for behind other values
  asks_then : (before other : List Value) (xs : List (List ℕ × Kind)) (vs : List Value) (reads more : List PieceRead) → FilesAccepted held before xs vs
      → AsksInOrder held other xs reads → AsksInOrder held (before ++ vs) ys more → AsksInOrder held before (xs ++ ys) (reads ++ more)
  asks_then before other [] [] reads more front none back =
      subst (λ (ns : List PieceRead). AsksInOrder held before ys (ns ++ more)) (sym none) (subst (λ (b : List Value). AsksInOrder held b ys more) (append-nil before) back)
  asks_then before other [] (v ∷ vs) reads more front asks back = absurd front
  asks_then before other (x ∷ xs) [] reads more front asks back = absurd front
  asks_then before other (x ∷ xs) (v ∷ vs) reads more (here, rest) (mine, later, is, of, inl none) back =
      let all : reads ++ more ≡ mine ++ more =
      ap (λ (ns : List PieceRead). ns ++ more) (is ∙ ap (λ (ns : List PieceRead). mine ++ ns) none ∙ append-nil mine) in
      (mine, more, all, of, inr (v, here, asks_behind (before ++ v ∷ []) xs vs more rest (subst (λ (b : List Value). AsksInOrder held b ys more) (behind_one before v vs) back)))
  asks_then before other (x ∷ xs) (v ∷ vs) reads more (here, rest) (mine, later, is, of, inr (w, also, asks)) back =
      let all : reads ++ more ≡ mine ++ (later ++ more) =
      ap (λ (ns : List PieceRead). ns ++ more) is ∙ append_assoc mine later more in (
        mine,
        later ++ more,
        all,
        of,
        inr (
          v,
          here,
          asks_then (before ++ v ∷ []) (other ++ w ∷ []) xs vs later more rest asks
              (subst (λ (b : List Value). AsksInOrder held b ys more) (behind_one before v vs) back),
        ),
      )

through_then : (held : List ℕ → Option (List ℕ)) (ys xs : List (List ℕ × Kind)) (reads more : List PieceRead) → GoThrough held xs reads
    → GoThrough held ys more → GoThrough held (xs ++ ys) (reads ++ more)
through_then held ys [] reads more none back = subst (λ (ns : List PieceRead). GoThrough held ys (ns ++ more)) (sym none) back
through_then held ys (x ∷ xs) reads more (bytes, mine, later, is, holds, through, rest) back =
    (bytes, mine, later ++ more, ap (λ (ns : List PieceRead). ns ++ more) is ∙ append_assoc mine later more, holds, through, through_then held ys xs later more rest back)

module _ (a : Reading) (ys : List (List ℕ × Kind)) where
  failed_first : (before : List Value) (xs : List (List ℕ × Kind)) → FilesFailed a before xs → FilesFailed a before (xs ++ ys)
  failed_first before [] failed = absurd failed
  failed_first before (x ∷ xs) (inl rose) = inl rose
  failed_first before (x ∷ xs) (inr (v, here, failed)) = inr (v, here, failed_first (before ++ v ∷ []) xs failed)

  failed_then : (before : List Value) (xs : List (List ℕ × Kind)) (vs : List Value) → FilesAccepted a.held before xs vs
      → FilesFailed a (before ++ vs) ys → FilesFailed a before (xs ++ ys)
  failed_then before [] [] front back = subst (λ (b : List Value). FilesFailed a b ys) (append-nil before) back
  failed_then before [] (v ∷ vs) front back = absurd front
  failed_then before (x ∷ xs) [] front back = absurd front
  failed_then before (x ∷ xs) (v ∷ vs) (here, rest) back =
      inr (v, here, failed_then (before ++ v ∷ []) xs vs rest (subst (λ (b : List Value). FilesFailed a b ys) (behind_one before v vs) back))

-- 2. A reading that goes on from where another ends.

-- The second goes on from the first, and both together read these.
pub record GoesOn (a b : Reading) (asks : List PieceRead → Type 0) : Type 0 where
  pub kept : b.held ≡ a.held
  pub counts : b.before ≡ a.now
  pub later : NoneFell a.before a.now
  pub asked : (reads more : List PieceRead) → a.asks reads → b.asks more → asks (reads ++ more)

abbrev pub both : Reading → Reading → (asks : List PieceRead → Type 0) → Reading
both a b asks = record { held = a.held; before = a.before; now = b.now; asks = asks }

rose_since : (m n k : ℕ) → m ≤ n → Rose n k → Rose m k
rose_since m n k less rose = omega arith

module _ (a b : Reading) (asks : List PieceRead → Type 0) (on : GoesOn a b asks) where
  since : (name : List ℕ) → Rose (b.before name) (b.now name) → Rose (a.before name) (b.now name)
  since name rose =
      rose_since (a.before name) (a.now name) (b.now name) (on.later name) (subst (λ (f : List ℕ → ℕ). Rose (f name) (b.now name)) on.counts rose)

  failed_since : (before : List Value) (files : List (List ℕ × Kind)) → FilesFailed b before files → FilesFailed (both a b asks) before files
  failed_since before [] failed = failed
  failed_since before (file ∷ files) (inl rose) = inl (since file.0 rose)
  failed_since before (file ∷ files) (inr (v, here, failed)) =
      inr (v, rw on.kept at here, failed_since (before ++ v ∷ []) files failed)

  stops_then : (before : List Value) (xs ys : List (List ℕ × Kind)) (vs : List Value) (s : CommandError) → FilesAccepted a.held before xs vs
      → Stops (FilesRefused b.held (before ++ vs) ys) (FilesFailed b (before ++ vs) ys) s
      → Stops (FilesRefused a.held before (xs ++ ys)) (FilesFailed (both a b asks) before (xs ++ ys)) s
  stops_then before xs ys vs (stop.Refused r) front says =
      refused_then a.held ys before xs vs r front (subst (λ (held : List ℕ → Option (List ℕ)). FilesRefused held (before ++ vs) ys r) on.kept says)
  stops_then before xs ys vs stop.ReadFault front says = failed_then (both a b asks) ys before xs vs front (failed_since (before ++ vs) ys says)
  stops_then before xs ys vs stop.WriteFault front says = says
  stops_then before xs ys vs stop.NoMemory front says = says

-- both read their files in order
asked_then : {T U : Type 0} {a b : Reading} {asks : List PieceRead → Type 0} {before : List Value}
    {xs ys : List (List ℕ × Kind)} {values : T → List Value} {others : U → List Value} {t : T} {result : Result U CommandError}
    → FilesRead a before xs values (Ok t) → FilesRead b (before ++ values t) ys others result → GoesOn a b asks → AsksFiles (both a b asks) before (xs ++ ys)
asked_then {a = a} {before = before} {xs = xs} {ys = ys} {values = values} {t = t} front back on = record {
  reads = front.asked.reads ++ back.asked.reads;
  asked = on.asked front.asked.reads back.asked.reads front.asked.asked back.asked.asked;
  in_order = asks_then a.held ys before before xs (values t) front.asked.reads back.asked.reads front.accepted front.asked.in_order
      (subst (λ (held : List ℕ → Option (List ℕ)). AsksInOrder held (before ++ values t) ys back.asked.reads) on.kept back.asked.in_order);
}

-- both go through their files
whole_then : {a b : Reading} {asks : List PieceRead → Type 0} {xs ys : List (List ℕ × Kind)} → ReadsWhole a xs → ReadsWhole b ys → GoesOn a b asks
    → ReadsWhole (both a b asks) (xs ++ ys)
whole_then {a = a} {xs = xs} {ys = ys} front back on = record {
  reads = front.reads ++ back.reads;
  asked = on.asked front.reads back.reads front.asked back.asked;
  through = through_then a.held ys xs front.reads back.reads front.through
      (subst (λ (held : List ℕ → Option (List ℕ)). GoThrough held ys back.reads) on.kept back.through);
}

-- the files behind were read too, or their reading stopped
pub files_then : {T U : Type 0} {a b : Reading} {asks : List PieceRead → Type 0} {before : List Value}
    {xs ys : List (List ℕ × Kind)} {values : T → List Value} {others : U → List Value} {t : T} {result : Result U CommandError}
    → FilesRead a before xs values (Ok t) → FilesRead b (before ++ values t) ys others result → GoesOn a b asks
    → FilesRead (both a b asks) before (xs ++ ys) (λ u. values t ++ others u) result
files_then {a = a} {b = b} {before = before} {xs = xs} {ys = ys} {values = values} {others = others} {t = t} {result = Ok u} front back on = record {
  accepted = accepted_then a.held ys before xs (values t) (others u) front.accepted
      (subst (λ (held : List ℕ → Option (List ℕ)). FilesAccepted held (before ++ values t) ys (others u)) on.kept back.accepted);
  stopped = back.stopped;
  asked = asked_then front back on;
  whole = whole_then front.whole back.whole on;
}
files_then {a = a} {b = b} {asks = asks} {before = before} {xs = xs} {ys = ys} {values = values} {t = t} {result = Err s} front back on = record {
  accepted = back.accepted;
  stopped = stops_then a b asks on before xs ys (values t) s front.accepted back.stopped;
  asked = asked_then front back on;
  whole = tt;
}

-- the reading of files stops where that of the first of them does
pub stops_first : (a : Reading) (ys : List (List ℕ × Kind)) (before : List Value) (xs : List (List ℕ × Kind)) (s : CommandError)
    → Stops (FilesRefused a.held before xs) (FilesFailed a before xs) s → Stops (FilesRefused a.held before (xs ++ ys)) (FilesFailed a before (xs ++ ys)) s
stops_first a ys before xs (stop.Refused r) says = refused_first a.held ys before xs r says
stops_first a ys before xs stop.ReadFault says = failed_first a ys before xs says
stops_first a ys before xs stop.WriteFault says = says
stops_first a ys before xs stop.NoMemory says = says

-- what it asks for is asked for of all
pub asks_of_all : {a : Reading} {before : List Value} {xs : List (List ℕ × Kind)} (ys : List (List ℕ × Kind)) → AsksFiles a before xs → AsksFiles a before (xs ++ ys)
asks_of_all {a = a} {before = before} {xs = xs} ys asked = record {
  reads = asked.reads;
  asked = asked.asked;
  in_order = asks_first a.held ys before xs asked.reads asked.in_order;
}

-- one file was read and no other
pub asks_one : {a : Reading} {before : List Value} {name : List ℕ} {kind : Kind} (reads : List PieceRead) → AreOf name reads
    → a.asks reads → AsksFiles a before ((name, kind) ∷ [])
asks_one reads of asked = record { reads = reads; asked = asked; in_order = (reads, [], sym (append-nil reads), of, inl refl) }

-- and read whole
whole_one : {a : Reading} {name : List ℕ} {kind : Kind} (reads : List PieceRead) (bytes : List ℕ) → Holds (a.held name) bytes → FrontToEnd name (length bytes) reads
    → a.asks reads → ReadsWhole a ((name, kind) ∷ [])
whole_one reads bytes holds through asked =
    record { reads = reads; asked = asked; through = (bytes, reads, [], sym (append-nil reads), holds, through, refl) }

-- and its bytes mean a value
pub accepted_file : {T : Type 0} {a : Reading} {before : List Value} {name : List ℕ} {kind : Kind} (value : T → Value) (t : T) {bytes text : List ℕ} (mine whole : List PieceRead)
    → text ≡ bytes → Holds (a.held name) bytes → length bytes ≤ limit_of kind → Accepts kind before text (value t)
    → AreOf name mine → a.asks mine → FrontToEnd name (length bytes) whole → a.asks whole
    → FilesRead a before ((name, kind) ∷ []) (λ (x : T). value x ∷ []) (Ok t)
accepted_file {before = before} {kind = kind} value t {bytes = bytes} mine whole same holds short means of asked through also = record {
  accepted = (record { bytes = bytes; holds = holds; short = short; means = subst (λ (b : List ℕ). Accepts kind before b (value t)) same means }, tt);
  stopped = tt;
  asked = asks_one mine of asked;
  whole = whole_one whole bytes holds through also;
}

-- or nothing
pub refused_file : {T : Type 0} {a : Reading} {before : List Value} {name : List ℕ} {kind : Kind} {values : T → List Value}
    {r : Refusal} (reads : List PieceRead) (bytes : List ℕ)
    → Holds (a.held name) bytes → length bytes ≤ limit_of kind → Faults kind before (length before + 1) bytes r
    → AreOf name reads → a.asks reads
    → FilesRead a before ((name, kind) ∷ []) values (Err (stop.Refused r))
refused_file reads bytes holds short fault of asked = record {
  accepted = tt;
  stopped = inl (inr (record { bytes = bytes; holds = holds; short = short; fault = fault }));
  asked = asks_one reads of asked;
  whole = tt;
}

-- one file was read, and its bytes were parsed
pub parsed_file : {T : Type 0} {a : Reading} {before : List Value} {name : List ℕ} {kind : Kind} {value : T → Value} {number : ℕ} {bytes text : List ℕ} {result : Result T CommandError}
    (mine whole : List PieceRead)
    → number ≡ length before + 1 → text ≡ bytes → Holds (a.held name) bytes → length bytes ≤ limit_of kind
    → IfOk result (λ (t : T). Accepts kind before text (value t)) → IfErr result (Stops (Faults kind before number text) ⊥)
    → AreOf name mine → a.asks mine → FrontToEnd name (length bytes) whole → a.asks whole
    → FilesRead a before ((name, kind) ∷ []) (λ (x : T). value x ∷ []) result
parsed_file {value = value} {result = Ok t} mine whole counted same holds short means faults of asked through also =
    accepted_file value t mine whole same holds short means of asked through also
parsed_file {before = before} {kind = kind} {number = number} {bytes = bytes} {result = Err (stop.Refused r)} mine whole counted same holds short means faults of asked through also =
    refused_file mine bytes holds short
    (subst (λ (n : ℕ). Faults kind before n bytes r) counted (subst (λ (b : List ℕ). Faults kind before number b r) same faults)) of asked
parsed_file {result = Err stop.ReadFault} mine whole counted same holds short means faults of asked through also = absurd faults
parsed_file {result = Err stop.WriteFault} mine whole counted same holds short means faults of asked through also = absurd faults
parsed_file {result = Err stop.NoMemory} mine whole counted same holds short means faults of asked through also =
    record { accepted = tt; stopped = tt; asked = asks_one mine of asked; whole = tt }
