-- Nets of images: links whose nodes are there, machines at their start, and room for what is sent.
use Rattle.std.proofs.Common.{◌≡◌, ℕ, ◌+◌, ◌<◌, ◌≤◌, inl, inr, List, [], ◌∷◌, ◌++◌, length, get_or, take, drop, cond}
use Rattle.std.proofs.Common.{slice_get, Option, Some, Result, Ok, Err, refl, sym, ap, ◌∙◌, subst, arith, append_assoc}
use Rattle.std.proofs.lemmas.{Bool.cases_lt, List.{take_more, Sums.sum_by-drop_more}, Option.slice_get-get_or}
use Rattle.std.{proofs.lemmas.Slice.Zip.AllZip-long, specs.{Prelude.{IsSomeAnd, IfOk}, List.{All, AllZip, count_by}}}
use Rattle.mm_mem.specs.declared.memory.Memory.{Ghosts}
use Rattle.mm_model.specs.{State.State, Image.{Image, start}}
use Rattle.mm_machine.specs.{declared.machine.Machine.Machine, Machine.{state_of, ports_used, StandsFor}}
use Rattle.mm_net.specs.declared.{link.Link.Link, item.NetItem.{NetItem, TheVariants.{Turn, Send, Carry}}}
use Rattle.mm_net.specs.{Nets.{NetState, net_after}, Net.{HasNodes, AllStart, IsUnused, sent_count}}
use Rattle.mm_net.proofs.{NetRuns.after_count, SentCounts.{sends, after_sent}}
use Rattle.mm_top.specs.Nodes.{NoneLacking, is_send}

-- 1. Links.

-- a link that does not lack a node has both
has_nodes : (count : ℕ) (link : Link) → (¬ HasNodes count link → ⊥) → HasNodes count link
has_nodes count link not_lacking = elim (cases_lt link.from count) [
  | inl from ↦ elim (cases_lt link.to count) [ inl to ↦ (from, to) | inr over ↦ absurd (not_lacking (λ has. omega (arith, has.1))) ]
  | inr over ↦ absurd (not_lacking (λ has. omega (arith, has.0)))
]

pub all_joined : (links : List Link) (count : ℕ) → NoneLacking links count → All (HasNodes count) links
all_joined links count none k d inside =
    let at : slice_get links k ≡ Some (get_or links k d) = slice_get-get_or links k d inside in
    let P : Option Link → Type 0 = λ o. IsSomeAnd o (λ link. ¬ HasNodes count link) in
    has_nodes count (get_or links k d) (λ lacks. none k (subst P (sym at) lacks))

-- 2. Two lists place by place.

-- one pair more at the end
zip_more : {A B : Type 0} (R : A → B → Type 0) (xs : List A) (ys : List B) (x : A) (y : B) → AllZip R xs ys → R x y → AllZip R (xs ++ x ∷ []) (ys ++ y ∷ [])
zip_more R [] [] x y all one = (one, tt)
zip_more R [] (b ∷ ys) x y all one = absurd all
zip_more R (a ∷ xs) [] x y all one = absurd all
zip_more R (a ∷ xs) (b ∷ ys) x y all one = (all.0, zip_more R xs ys x y all.1 one)

-- a front of the first list, with one item more
pub zip_next : {A B : Type 0} (R : A → B → Type 0) (xs : List A) (k : ℕ) (d : A) (ys more : List B) (y : B) → k < length xs → more ≡ ys ++ y ∷ [] → AllZip R (take k xs) ys
    → R (get_or xs k d) y → AllZip R (take (k + 1) xs) more
zip_next {A = A} {B = B} R xs k d ys more y inside is all one =
    let P : List A → Type 0 = λ zs. AllZip R zs (ys ++ y ∷ []) in
    let Q : List B → Type 0 = λ zs. AllZip R (take (k + 1) xs) zs in
    subst Q (sym is) (subst P (sym (take_more xs k d inside)) (zip_more R (take k xs) ys (get_or xs k d) y all one))

-- 3. Machines.

module _ {M : Type 0} {memory : Ghosts M} where
  -- a machine at an image's start did no cycle and no port call yet
  pub unused_at_start : {E : Type 0} (i : Image) (result : Result (Machine M memory) E) → IfOk result (λ m. state_of m ≡ start i) → IfOk result (λ m. ports_used m ≡ 0)
      → IfOk result IsUnused
  unfolding start
  unused_at_start i (Ok m) state ports = (ap (λ (s : State). s.cycles) state, ports)
  unused_at_start i (Err e) state ports = tt

  -- there are as many machines as images
  pub as_many : (images : List Image) (nodes : List (Machine M memory)) → AllStart images nodes → length nodes ≡ length images
  as_many images nodes all = AllZip-long (λ i m. StandsFor i [] m) images nodes all

-- 4. Events.

-- one more of a list's events behind those before it
pub one_event_more : (before items : List NetItem) (k : ℕ) (d : NetItem) → k < length items → (before ++ take k items) ++ get_or items k d ∷ [] ≡ before ++ take (k + 1) items
one_event_more before items k d inside =
    append_assoc before (take k items) (get_or items k d ∷ []) ∙ ap (λ (xs : List NetItem). before ++ xs) (sym (take_more items k d inside))

sends_are : (item : NetItem) → cond (is_send item) 1 0 ≡ sends item
sends_are (Turn n item) = refl
sends_are (Send l) = refl
sends_are (Carry l k) = refl

-- where there is room for what the events from a place on send, there is room behind the first of them
pub room_behind : (links : List Link) (s t : NetState) (items : List NetItem) (k : ℕ) (d : NetItem) (room : ℕ) → k < length items → t ≡ net_after links s (get_or items k d)
    → sent_count s + count_by is_send (drop k items) ≤ room → sent_count t + count_by is_send (drop (k + 1) items) ≤ room
room_behind links s t items k d room inside goes fits =
    let item = get_or items k d in
    let split = sum_by-drop_more (λ (i : NetItem). cond (is_send i) 1 0) items k d inside in
    omega (arith, split, sends_are item, after_sent links s item, ap sent_count goes)

-- an event leaves as many nodes
pub same_nodes : (links : List Link) (s t : NetState) (item : NetItem) → t ≡ net_after links s item → length t.nodes ≡ length s.nodes
same_nodes links s t item goes = ap (λ (u : NetState). length u.nodes) goes ∙ after_count links s item
