-- The search of a group goes on.
use Rattle.std.proofs.Common.{◌≡◌, ◌≢◌, ℕ, zero, suc, ◌+◌, ◌<◌, ◌≤◌, ◌⊎◌, inl, inr, List, [], ◌∷◌, ◌++◌, length}
use Rattle.std.proofs.Common.{slice_index, slice_index_or, slice_set, Option, Some, None, refl, sym, ap, ◌∙◌, subst}
use Rattle.std.proofs.Common.{arith}
use Rattle.std.proofs.lemmas.Bool.{cases_lt}
use Rattle.std.proofs.lemmas.List.{get_or_default, get_or-set_same, get_or-set_other, get_or_push, get_or_append_left}
use Rattle.std.proofs.lemmas.List.{length_push, length-set}
use Rattle.mm_word.specs.{declared.word.Word.{Word, TheVariants.{Int, Ptr}}, Pointer.{Pointer, IsWellFormed}}
use Rattle.mm_model.specs.{Slot.{Slot, register}, Image.Image}
use Rattle.mm_flow.specs.{declared.node.Node.Node, Edges.node_at}
use Rattle.mm_graph.specs.declared.canonical_ptr.CanonicalPtr.{CanonicalPtr}
use Rattle.mm_graph.{specs.Key.{IsRising, key_at, standing_key, word_key}, proofs.Rising.same_place}
use Rattle.mm_why.specs.{declared.line.Line.Line, Derivations.{line_at, LineFollows}, Traces.{IsFresh, Adds}}
use Rattle.mm_why.specs.Searches.{Stage, place_at, IsPlaced, room, AtNode, Searching, Further, Advances, HeldBy}
use Rattle.mm_why.specs.Searches.{WordPlaced, IsSlotOf, HasWords, RegistersPlaced, SlotPlaced, IsClosed, Expanding}
use Rattle.mm_why.proofs.{Growing.{adds, extends_trans, extends_same}, Pruning.same_or_before}
use Rattle.mm_why.specs.declared.line.Rule.TheVariants as rules

-- the line that a node has at its index
pub line_at_node : (places : List (Option ℕ)) (k : ℕ) (at : Option ℕ) (t : ℕ) → k < length places → at ≡ slice_index_or places k at → at ≡ Some t → place_at places k ≡ Some t
line_at_node places k at t lt is some = sym (get_or_default places k at None lt) ∙ sym is ∙ some

-- two nodes that stand for one pointer are one
one_node : (keys : List CanonicalPtr) (j k : ℕ) (p q : Pointer) → IsRising keys → AtNode keys j p → AtNode keys k q → p ≡ q → j ≡ k
one_node keys j k p q rising a b e = same_place keys j k rising a.small b.small (of_some (sym a.stands ∙ ap standing_key e ∙ b.stands))
  where
    of_some : ◌≡◌ {A = Option CanonicalPtr} (Some (key_at keys j)) (Some (key_at keys k)) → key_at keys j ≡ key_at keys k
    of_some h = cc

room_set : (places : List (Option ℕ)) (k t : ℕ) → k < length places → place_at places k ≡ None → room (slice_set places k (Some t)) + 1 ≡ room places
room_set [] k t lt h = absurd (omega arith)
room_set (None ∷ places) zero t lt h = omega arith
room_set (Some s ∷ places) zero t lt h = cc
room_set (None ∷ places) (suc k) t lt h = let r = room_set places k t (omega arith) h in omega arith
room_set (Some s ∷ places) (suc k) t lt h = room_set places k t (omega arith) h

same_t : (s t : ℕ) → ◌≡◌ {A = Option ℕ} (Some s) (Some t) → s ≡ t
same_t s t h = cc

pub data Which (k j : ℕ) : Type 0 where
  same : j ≡ k → Which k j
  other : j ≢ k → Which k j

pub which : (k j : ℕ) → Which k j
which k j = elim (cases_lt j k) [
  | inl lt ↦ other (λ e. omega (arith, e, lt))
  | inr le ↦ elim (cases_lt k j) [ inl lt ↦ other (λ e. omega (arith, e, lt)) | inr ge ↦ same (omega (arith, le, ge)) ]
]

pub further_same : (s : Stage) → Further s s
further_same s = record { lines = extends_same s.lines; places = λ k t h. h; queue_len = omega arith; queue = λ m lt. refl; room = refl }

pub further_trans : (a b c : Stage) → Further a b → Further b c → Further a c
further_trans a b c x y = record {
  lines = extends_trans a.lines b.lines c.lines x.lines y.lines;
  places = λ k t h. y.places k t (x.places k t h);
  queue_len = let p = x.queue_len in let q = y.queue_len in omega (arith, p, q);
  queue = λ m lt. y.queue m (let p = x.queue_len in omega (arith, p, lt)) ∙ x.queue m lt;
  room = y.room ∙ x.room;
}

pub advances_trans : (i : Image) (keys : List CanonicalPtr) (g : ℕ) (a b c : Stage) → Advances i keys g a b → Advances i keys g b c → Advances i keys g a c
advances_trans i keys g a b c x y = record {
  now = y.now;
  further = further_trans a b c x.further y.further;
  only = λ t lo hi. at t hi (cases_lt t (length b.lines)) lo;
}
  where
    at : (t : ℕ) → t < length c.lines → (t < length b.lines) ⊎ (length b.lines ≤ t) → length a.lines ≤ t → (line_at c.lines t).group ≡ g
    at t hi (inl lt) lo = ap (λ v. v.group) (y.further.lines.same t lt) ∙ x.only t lo lt
    at t hi (inr le) lo = y.only t le hi

pub advances_same : (i : Image) (keys : List CanonicalPtr) (g : ℕ) (s : Stage) → Searching i keys g s → Advances i keys g s s
advances_same i keys g s now = record { now = now; further = further_same s; only = λ t lo hi. absurd (omega (arith, lo, hi)) }

pub stays_placed : (a b : Stage) (k : ℕ) → Further a b → IsPlaced a.places k → IsPlaced b.places k
stays_placed a b k f h = (h.0, f.places k h.0 h.1)

-- a node without a line gets one
module _ (i : Image) (keys : List CanonicalPtr) (g : ℕ) (s : Stage) (rising : IsRising keys) (now : Searching i keys g s) (k : ℕ) (line : Line)
    (empty : place_at s.places k ≡ None) (at : AtNode keys k line.pointer) (of : line.group ≡ g) (follows : LineFollows i s.lines (length s.lines) line) where
  abbrev new : Stage
  new = record { lines = s.lines ++ line ∷ []; places = slice_set s.places k (Some (length s.lines)); queue = s.queue ++ k ∷ [] }

  inside : k < length s.places
  inside = let l = now.len in let a = at.small in omega (arith, l, a)

  -- no line of the group has the pointer yet: its node would be this one, which has no line
  fresh : IsFresh s.lines line.group line.pointer
  fresh t lt eg ep =
      let l = now.lined t lt (eg ∙ of) in
      let p = now.placed l.0 t l.1 in
      let e = one_node keys l.0 k (line_at s.lines t).pointer line.pointer rising p.2 at ep in
      let bad = sym l.1 ∙ ap (place_at s.places) e ∙ empty in
      cc

  added : Adds s.lines line new.lines (length s.lines)
  added = adds s.lines line new.lines (length s.lines) refl refl fresh

  here : place_at new.places k ≡ Some (length s.lines)
  here = get_or-set_same s.places k (Some (length s.lines)) None inside

  there : (j : ℕ) → j ≢ k → place_at new.places j ≡ place_at s.places j
  there j ne = get_or-set_other s.places k j (Some (length s.lines)) None ne

  apart : (j t : ℕ) → place_at s.places j ≡ Some t → j ≢ k
  apart j t h e = let bad = sym h ∙ ap (place_at s.places) e ∙ empty in cc

  grows : (j t : ℕ) → place_at s.places j ≡ Some t → place_at new.places j ≡ Some t
  grows j t h = there j (apart j t h) ∙ h

  placed_at : (j t : ℕ) → Which k j → place_at new.places j ≡ Some t → (t < length new.lines) × ((line_at new.lines t).group ≡ g) × AtNode keys j (line_at new.lines t).pointer
  placed_at j t (same e) h =
      let is : t ≡ length s.lines = same_t t (length s.lines) (sym h ∙ ap (place_at new.places) e ∙ here) in
      let l = length_push s.lines line in
      let got : line_at new.lines t ≡ line = ap (line_at new.lines) is ∙ added.is in
      (omega (arith, l, is), ap (λ v. v.group) got ∙ of, subst (λ v. AtNode keys v (line_at new.lines t).pointer) (sym e) (subst (λ v. AtNode keys k v.pointer) (sym got) at))
  placed_at j t (other ne) h =
      let p = now.placed j t (sym (there j ne) ∙ h) in
      let got = added.extends.same t p.0 in
      let l = length_push s.lines line in
      let lt = p.0 in
      (omega (arith, l, lt), ap (λ v. v.group) got ∙ p.1, subst (λ v. AtNode keys j v.pointer) (sym got) p.2)

  lined_at : (t : ℕ) → (t ≡ length s.lines) ⊎ (t < length s.lines) → (line_at new.lines t).group ≡ g → (j : ℕ) × (place_at new.places j ≡ Some t)
  lined_at t (inl e) h = (k, here ∙ ap Some (sym e))
  lined_at t (inr lt) h =
      let l = now.lined t lt (sym (ap (λ v. v.group) (added.extends.same t lt)) ∙ h) in
      (l.0, grows l.0 t l.1)

  queued_at : (m : ℕ) → (m ≡ length s.queue) ⊎ (m < length s.queue) → IsPlaced new.places (slice_index new.queue m)
  queued_at m (inl e) = subst (IsPlaced new.places) (sym (ap (slice_index new.queue) e ∙ get_or_push s.queue k 0 (length s.queue) refl)) (length s.lines, here)
  queued_at m (inr lt) =
      let q = now.queued m lt in
      subst (IsPlaced new.places) (sym (get_or_append_left s.queue (k ∷ []) 0 m lt)) (q.0, grows (slice_index s.queue m) q.0 q.1)

  each_at : (j : ℕ) → Which k j → IsPlaced new.places j → (m : ℕ) × (m < length new.queue) × (slice_index new.queue m ≡ j)
  each_at j (same e) h = (length s.queue, (let l = length_push s.queue k in omega (arith, l)), get_or_push s.queue k 0 (length s.queue) refl ∙ sym e)
  each_at j (other ne) h =
      let q = now.each j (h.0, sym (there j ne) ∙ h.1) in
      (q.0, (let l = length_push s.queue k in let lt = q.1 in omega (arith, l, lt)), get_or_append_left s.queue (k ∷ []) 0 q.0 q.1 ∙ q.2)

  pub place_more : Advances i keys g s new × IsPlaced new.places k
  place_more = (
    record {
      now = record {
        len = length-set s.places k (Some (length s.lines)) ∙ now.len;
        trace = added.keeps i now.trace follows;
        placed = λ j t h. placed_at j t (which k j) h;
        lined = λ t lt h. lined_at t (same_or_before t (length s.lines) (let l = length_push s.lines line in omega (arith, l, lt))) h;
        queued = λ m lt. queued_at m (same_or_before m (length s.queue) (let l = length_push s.queue k in omega (arith, l, lt)));
        each = λ j h. each_at j (which k j) h;
      };
      further = record {
        lines = added.extends;
        places = grows;
        queue_len = let l = length_push s.queue k in omega (arith, l);
        queue = λ m lt. get_or_append_left s.queue (k ∷ []) 0 m lt;
        room = let r = room_set s.places k (length s.lines) inside empty in let l = length_push s.queue k in omega (arith, r, l);
      };
      only = λ t lo hi.
          let is : t ≡ length s.lines = (let l = length_push s.lines line in omega (arith, l, lo, hi)) in
          ap (λ v. (line_at new.lines v).group) is ∙ ap (λ v. v.group) added.is ∙ of;
    },
    (length s.lines, here),
  )

-- the same for what the code writes
pub placed_as : (i : Image) (keys : List CanonicalPtr) (g : ℕ) (s new : Stage) (k : ℕ) (line : Line) → IsRising keys → Searching i keys g s
    → place_at s.places k ≡ None → AtNode keys k line.pointer → line.group ≡ g → LineFollows i s.lines (length s.lines) line
    → new.lines ≡ s.lines ++ line ∷ [] → new.places ≡ slice_set s.places k (Some (length s.lines)) → new.queue ≡ s.queue ++ k ∷ []
    → Advances i keys g s new × IsPlaced new.places k
placed_as i keys g s new k line rising now empty at of follows lines places queue =
    subst (λ v. Advances i keys g s (record { lines = v; places = new.places; queue = new.queue }) × IsPlaced new.places k) (sym lines)
    (subst (λ v. Advances i keys g s (record { lines = s.lines ++ line ∷ []; places = v; queue = new.queue }) × IsPlaced v k) (sym places)
    (subst (λ v. Advances i keys g s
    (record { lines = s.lines ++ line ∷ []; places = slice_set s.places k (Some (length s.lines)); queue = v })
    × IsPlaced (slice_set s.places k (Some (length s.lines))) k) (sym queue)
    (place_more i keys g s rising now k line empty at of follows)))

pub placed_before : (i : Image) (keys : List CanonicalPtr) (g : ℕ) (s : Stage) (k : ℕ) → Searching i keys g s → IsPlaced s.places k
    → Advances i keys g s s × IsPlaced s.places k
placed_before i keys g s k now h = (advances_same i keys g s now, h)

-- the node of a word that was found has its line
pub word_placed : (keys : List CanonicalPtr) (word : Word) (x : CanonicalPtr) (node : ℕ) (places : List (Option ℕ)) → IsRising keys
    → word_key word ≡ Some x → node < length keys → key_at keys node ≡ x → IsPlaced places node → WordPlaced keys word places
word_placed keys word x node places rising is lt at h k small e =
    let same : key_at keys node ≡ key_at keys k = at ∙ of_some x (key_at keys k) (sym is ∙ e) in
    subst (IsPlaced places) (same_place keys node k rising lt small same) h
  where
    of_some : (a b : CanonicalPtr) → ◌≡◌ {A = Option CanonicalPtr} (Some a) (Some b) → a ≡ b
    of_some a b h = cc

pub registers_more : (i : Image) (keys : List CanonicalPtr) (g : ℕ) (words : List Word) (k : ℕ) (word : Word) (a b c : Stage) → word ≡ slice_index_or words k (Int 0)
    → RegistersPlaced i keys g words k a b → Advances i keys g b c × WordPlaced keys word c.places → RegistersPlaced i keys g words (k + 1) a c
registers_more i keys g words k word a b c is r h = record {
  advances = advances_trans i keys g a b c r.advances h.0;
  regs = λ n lt. at n (same_or_before n k lt);
}
  where
    at : (n : ℕ) → (n ≡ k) ⊎ (n < k) → WordPlaced keys (slice_index_or words n (Int 0)) c.places
    at n (inl e) = subst (λ v. WordPlaced keys v c.places) (is ∙ ap (λ v. slice_index_or words v (Int 0)) (sym e)) h.1
    at n (inr lt) = λ j small x. stays_placed b c j h.0.further (r.regs n lt j small x)

pub registers_start : (i : Image) (keys : List CanonicalPtr) (g : ℕ) (words : List Word) (a : Stage) → Searching i keys g a → RegistersPlaced i keys g words 0 a a
registers_start i keys g words a now = record { advances = advances_same i keys g a now; regs = λ n lt. absurd (omega arith) }

-- the word that was read at an index
pub same_word : (words : List Word) (k : ℕ) (word : Word) → k < length words → word ≡ slice_index_or words k word → word ≡ slice_index_or words k (Int 0)
same_word words k word lt e = e ∙ get_or_default words k word (Int 0) lt

-- what a register holds
pub register_held : (i : Image) (s : Slot) (g n k : ℕ) (words : List Word) (word : Word) → IsSlotOf i s → HasWords s g n words
    → word ≡ slice_index_or words k (Int 0) → HeldBy i g word (rules.Register n k)
unfolding register
register_held i s g n k words word h w is lines top p e =
    let holds : slice_index_or s.regs k (Int 0) ≡ Ptr p = ap (λ v. slice_index_or v k (Int 0)) w.regs ∙ sym is ∙ e in
    (record { slot = s; stands = h.stands; number = w.number; group = w.group; holds = holds }, h.words k p holds)

pub ip_held : (i : Image) (s : Slot) → IsSlotOf i s → HeldBy i s.group (Ptr s.ip) (rules.Runs s.number)
ip_held i s h lines top p e =
    let same : s.ip ≡ p = cc in
    (record { slot = s; stands = h.stands; number = refl; group = refl; ip = same }, subst IsWellFormed same h.ip)

pub slot_done : (i : Image) (keys : List CanonicalPtr) (s : Slot) (a b c : Stage) → Advances i keys s.group a b × WordPlaced keys (Ptr s.ip) b.places
    → RegistersPlaced i keys s.group s.regs (length s.regs) b c → Advances i keys s.group a c × SlotPlaced keys s c.places
slot_done i keys s a b c h r = (
  advances_trans i keys s.group a b c h.0 r.advances,
  record { ip = λ k lt e. stays_placed b c k r.advances.further (h.1 k lt e); regs = r.regs },
)

-- each node from the queue so far leads to nodes with lines
module _ (i : Image) (keys : List CanonicalPtr) (g : ℕ) (nodes : List Node) (targets : List ℕ) where
  pub stays_closed : (a b : Stage) (k : ℕ) → Further a b → IsClosed nodes targets a.places k → IsClosed nodes targets b.places k
  stays_closed a b k f c = record {
    cells = λ j lo hi. stays_placed a b (slice_index targets j) f (c.cells j lo hi);
    entry = λ some. stays_placed a b (node_at nodes k).entry f (c.entry some);
  }

  pub expand_more : (old a b : Stage) (at : ℕ) → Expanding i keys g nodes targets old at a → at < length a.queue
      → Advances i keys g a b × IsClosed nodes targets b.places (slice_index a.queue at) → Expanding i keys g nodes targets old (at + 1) b
  expand_more old a b at e lt h = record {
    advances = advances_trans i keys g old a b e.advances h.0;
    fits = let q = h.0.further.queue_len in omega (arith, q, lt);
    closed = λ m small. one m (same_or_before m at small);
  }
    where
      one : (m : ℕ) → (m ≡ at) ⊎ (m < at) → IsClosed nodes targets b.places (slice_index b.queue m)
      one m (inl is) = subst (IsClosed nodes targets b.places) (sym (ap (slice_index b.queue) is ∙ h.0.further.queue at lt)) h.1
      one m (inr small) = subst (IsClosed nodes targets b.places) (sym (h.0.further.queue m (omega (arith, small, lt)))) (stays_closed a b (slice_index a.queue m) h.0.further (e.closed m small))

  -- at the end of the queue each node with a line leads to nodes with lines
  pub expand_end : (old s : Stage) (at : ℕ) → Expanding i keys g nodes targets old at s → length s.queue ≤ at → (k : ℕ) → IsPlaced s.places k → IsClosed nodes targets s.places k
  expand_end old s at e le k h =
      let q = e.advances.now.each k h in
      subst (IsClosed nodes targets s.places) q.2 (e.closed q.0 (let lt = q.1 in omega (arith, lt, le)))
