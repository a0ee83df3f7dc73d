-- How far a walk over a graph has come.
use Rattle.std.specs.Prelude.{◌≡◌, ℕ, ◌+◌, ◌*◌, ◌<◌, ◌≤◌, ◌⊎◌, Bool, true, false, List, [], ◌∷◌, ◌++◌, length, drop}
use Rattle.std.specs.Prelude.{Contains, Option, Some, None, slice_index_or, slice_set, min}
use Rattle.std.specs.List.{count_by, sum_by}
use Rattle.mm_span.specs.Pairs.{EachPair}
use Rattle.mm_endless.specs.declared.walk.{Mark.{Mark, TheVariants.{Unmet, OnPath, Passed, Closed}}, Walk.Walk}
use Rattle.mm_endless.specs.Graphs.{children, AreNodes, Leads, IsTold}

-- 1. What is known.

-- The path is made of sets of nodes, each of which leads to each of its set and of later sets. A set begins with the
-- node whose number is its bound.
pub record Stage : Type 0 where
  -- what is known of each node
  pub marks : List Mark
  -- for a node on the path, how many nodes were met before it; for a node of a closed set, the least node of the set
  pub numbers : List ℕ
  -- how many children of each node, from the front, are still to be looked at
  pub left : List ℕ
  -- the nodes on the path of which children may be left, in the order in which they were met
  pub unfinished : List ℕ
  -- the other nodes on the path
  pub finished : List ℕ
  -- the numbers at which the sets of the path begin
  pub bounds : List ℕ
  -- how many nodes were met
  pub met : ℕ

abbrev pub stage_of : Walk → Stage
stage_of w = record {
  marks = w.marks.items;
  numbers = w.numbers.items;
  left = w.left.items;
  unfinished = w.unfinished.items;
  finished = w.finished.items;
  bounds = w.bounds.items;
  met = w.met;
}

abbrev pub mark_of : Stage → ℕ → Mark
mark_of s v = slice_index_or s.marks v Unmet

abbrev pub number_of : Stage → ℕ → ℕ
number_of s v = slice_index_or s.numbers v 0

abbrev pub left_of : Stage → ℕ → ℕ
left_of s v = slice_index_or s.left v 0

abbrev pub is_met : Mark → Bool
is_met Unmet = false
is_met OnPath = true
is_met Passed = true
is_met Closed = true

abbrev pub is_done : Mark → Bool
is_done Unmet = false
is_done OnPath = false
is_done Passed = true
is_done Closed = true

abbrev pub IsOnPath : Stage → ℕ → Type 0
IsOnPath s v = mark_of s v ≡ OnPath

abbrev pub IsDone : Stage → ℕ → Type 0
IsDone s v = is_done (mark_of s v) ≡ true

-- what is told of a node with this mark and this number
abbrev pub told_by : Mark → ℕ → Option ℕ
told_by Closed n = Some n
told_by _ n = None

abbrev pub told_of : Stage → ℕ → Option ℕ
told_of s v = told_by (mark_of s v) (number_of s v)

-- what is told of each node
abbrev pub firsts_of : List Mark → List ℕ → List (Option ℕ)
firsts_of (m ∷ marks) (n ∷ numbers) = told_by m n ∷ firsts_of marks numbers
firsts_of _ _ = []

-- a node of the path is in the set of another, or in a later one
abbrev pub IsNotBefore : Stage → ℕ → ℕ → Type 0
IsNotBefore s u v = (b : ℕ) → Contains s.bounds b → b ≤ number_of s u → b ≤ number_of s v

-- a node of the path is in the last set
abbrev pub IsInLast : Stage → ℕ → Type 0
IsInLast s v = (b : ℕ) → Contains s.bounds b → b ≤ number_of s v

-- a child that was looked at is done, or in the set of its parent or a later one
abbrev pub IsLookedAt : Stage → ℕ → ℕ → Type 0
IsLookedAt s u c = IsDone s c ⊎ (IsOnPath s c × IsNotBefore s u c)

-- some open node has a number
abbrev pub IsOpenAt : Stage → ℕ → Type 0
IsOpenAt s b = (v : ℕ) × Contains s.unfinished v × (number_of s v ≡ b)

-- a node is in some set
abbrev pub IsInSome : Stage → ℕ → Type 0
IsInSome s v = (b : ℕ) × Contains s.bounds b × (b ≤ number_of s v)

-- 2. What holds at every step.

pub record IsStage (g : List (List ℕ)) (s : Stage) : Type 0 where
  pub nodes : AreNodes g
  pub marks : length s.marks ≡ length g
  pub numbers : length s.numbers ≡ length g
  pub lefts : length s.left ≡ length g
  pub met : s.met ≡ count_by is_met s.marks
  pub below : (v : ℕ) → IsOnPath s v → number_of s v < s.met
  -- of a node that was not met no child was looked at
  pub whole : (v : ℕ) → v < length g → mark_of s v ≡ Unmet → left_of s v ≡ length (children g v)
  pub few : (v : ℕ) → IsOnPath s v → left_of s v ≤ length (children g v)
  pub opens : (v : ℕ) → Contains s.unfinished v → IsOnPath s v
  pub rising : EachPair (λ u v. number_of s u < number_of s v) s.unfinished
  pub finishes : (v : ℕ) → Contains s.finished v → IsOnPath s v × (left_of s v ≡ 0)
  pub sets : EachPair (IsNotBefore s) s.finished
  pub known : (v : ℕ) → IsOnPath s v → Contains s.unfinished v ⊎ Contains s.finished v
  pub bounds : EachPair ◌<◌ s.bounds
  pub begun : (b : ℕ) → Contains s.bounds b → IsOpenAt s b
  pub within : (v : ℕ) → IsOnPath s v → IsInSome s v
  pub joined : (u v : ℕ) → IsOnPath s u → IsOnPath s v → IsNotBefore s u v → Leads g u v
  pub looked : (u c : ℕ) → IsOnPath s u → Contains (drop (left_of s u) (children g u)) c → IsLookedAt s u c
  pub done : (u c : ℕ) → IsDone s u → Contains (children g u) c → IsDone s c
  pub right : (v : ℕ) → IsDone s v → IsTold g v (told_of s v)

-- the nodes that were met at one stage were met at a later one, and those that are done are done
pub record IsLater (old new : Stage) : Type 0 where
  pub met : (v : ℕ) → is_met (mark_of old v) ≡ true → is_met (mark_of new v) ≡ true
  pub done : (v : ℕ) → IsDone old v → IsDone new v

-- 3. Steps.

-- a node is met: it is open, and a set of its own at the end of the path
abbrev pub discovered : Stage → ℕ → Stage
discovered s v = record s {
  marks = slice_set s.marks v OnPath;
  numbers = slice_set s.numbers v s.met;
  unfinished = s.unfinished ++ v ∷ [];
  bounds = s.bounds ++ s.met ∷ [];
  met = s.met + 1;
}

-- the mark of a node of a set that is done, given the least node of the set if it is closed
abbrev pub mark_for : Option ℕ → Mark
mark_for None = Passed
mark_for (Some f) = Closed

abbrev pub numbers_for : List ℕ → ℕ → Option ℕ → List ℕ
numbers_for numbers v None = numbers
numbers_for numbers v (Some f) = slice_set numbers v f

-- a node is done
abbrev pub marked : Stage → ℕ → Option ℕ → Stage
marked s v first = record s { marks = slice_set s.marks v (mark_for first); numbers = numbers_for s.numbers v first }

-- nodes are done, one after the other
abbrev pub marks_after : List Mark → List ℕ → Option ℕ → List Mark
marks_after marks [] first = marks
marks_after marks (v ∷ nodes) first = marks_after (slice_set marks v (mark_for first)) nodes first

abbrev pub numbers_after : List ℕ → List ℕ → Option ℕ → List ℕ
numbers_after numbers [] first = numbers
numbers_after numbers (v ∷ nodes) first = numbers_after (numbers_for numbers v first) nodes first

abbrev pub marked_all : Stage → List ℕ → Option ℕ → Stage
marked_all s nodes first =
    record s { marks = marks_after s.marks nodes first; numbers = numbers_after s.numbers nodes first }

-- the last node of the open ones
pub record IsLastOpen (s : Stage) (v : ℕ) : Type 0 where
  pub front : List ℕ
  pub is : s.unfinished ≡ front ++ v ∷ []

-- the last open node leads to a node by an edge
pub record IsChildOfLast (g : List (List ℕ)) (s : Stage) (c : ℕ) : Type 0 where
  pub node : ℕ
  pub last : IsLastOpen s node
  pub edge : Contains (children g node) c

-- the last number of a list, if it has one
abbrev pub IsLast : List ℕ → Option ℕ → Type 0
IsLast ns None = ns ≡ []
IsLast ns (Some n) = (front : List ℕ) × (ns ≡ front ++ n ∷ [])

-- the least number of a list, if it has one
abbrev pub IsLeastOf : List ℕ → Option ℕ → Type 0
IsLeastOf ns None = ns ≡ []
IsLeastOf ns (Some n) = Contains ns n × ((m : ℕ) → Contains ns m → n ≤ m)

abbrev pub lesser_of : Option ℕ → ℕ → ℕ
lesser_of None b = b
lesser_of (Some a) b = min a b

-- one of these nodes is done
pub record HasDone (marks : List Mark) (nodes : List ℕ) : Type 0 where
  pub node : ℕ
  pub inside : Contains nodes node
  pub done : is_done (slice_index_or marks node Unmet) ≡ true

-- the last of these nodes, if there is one, has a number below a bound
abbrev pub IsLastBelow : Stage → ℕ → List ℕ → Type 0
IsLastBelow s bound nodes = (front : List ℕ) (v : ℕ) → nodes ≡ front ++ v ∷ [] → number_of s v < bound

-- a set has a node with a child that is done; else the least of its nodes is given
abbrev pub IsFirstOf : List (List ℕ) → Stage → List ℕ → Option ℕ → Type 0
IsFirstOf g s members None = ((v : ℕ) × Contains members v × HasDone s.marks (children g v)) ⊎ (members ≡ [])
IsFirstOf g s members (Some f) =
    Contains members f × ((v : ℕ) → Contains members v → f ≤ v)
    × ((v c : ℕ) → Contains members v → Contains (children g v) c → IsDone s c → ⊥)

-- the last unfinished node is finished too, and it is the first of the last set: the set is done
pub record IsSetDone (s : Stage) (v : ℕ) : Type 0 where
  pub last : IsLastOpen s v
  pub finished : Contains s.finished v
  pub front : List ℕ
  pub bound : s.bounds ≡ front ++ number_of s v ∷ []

abbrev pub IsMet : Stage → ℕ → Type 0
IsMet s v = is_met (mark_of s v) ≡ true

-- how much there is still to do, at most
abbrev pub work_left : Stage → ℕ
work_left s = 2 * sum_by (λ n. n) s.left + length s.unfinished
