-- The texts of lines, part by part.
use Rattle.std.proofs.Common.{◌≡◌, ℕ, Bool, ◌&&◌, not, nat_lt, if◌then◌else◌, List, [], ◌∷◌, ◌++◌, drop, map}
use Rattle.std.proofs.{Common.{refl, sym, ap, ◌∙◌}, lemmas.{Grind.flat_map-append, List.Folds.flat_map-map}}
use Rattle.std.specs.List.{flat_map}
use Rattle.mm_model.specs.{Slot.Slot, declared.step.Tick.Tick, State.{State, output_of}}
use Rattle.mm_thread.specs.{declared.told.Was.Was, Told.Told}
use Rattle.mm_log.specs.Lines.{Line, line_text, Line.{Issues, Puts, Maps, Removes}}
use Rattle.mm_log.specs.Log.{text_of}
use Rattle.mm_log.specs.Seen.{pointer_left, state_left, held_left, slot_left}
use Rattle.mm_log.specs.Seen.{in_order, slots_seen, queued_seen, read_seen, out_seen, page_told, page_seen, cell_seen}
use Rattle.mm_log.specs.Seen.{seen}

pub text_append : (xs ys : List Line) → text_of (xs ++ ys) ≡ text_of xs ++ text_of ys
text_append xs ys = flat_map-append line_text xs ys

pub text_flat : {A : Type 0} (f : A → List Line) (xs : List A) → text_of (flat_map f xs) ≡ flat_map (λ x. text_of (f x)) xs
text_flat f [] = refl
text_flat f (x ∷ xs) = text_append (f x) (flat_map f xs) ∙ ap (λ l. text_of (f x) ++ l) (text_flat f xs)

-- the text of what was kept of a slot
pub slot_text : (was : Was) (now : Slot)
    → (text_of (pointer_left was.ip was.past now) ++ text_of (state_left was.state now) ++ flat_map (λ h. text_of (held_left now h)) was.held)
    ++ flat_map (λ load. line_text (Issues now.number load)) (drop was.loads now.pending)
    ≡ text_of (slot_left was now)
slot_text was now =
    let a : List Line = pointer_left was.ip was.past now in
    let b : List Line = state_left was.state now in
    let c : List Line = flat_map (held_left now) was.held in
    let d : List Line = map (Issues now.number) (drop was.loads now.pending) in
    sym
    (text_append (a ++ b ++ c) d
    ∙ ap (λ l. l ++ text_of d) (text_append (a ++ b) c ∙ ap (λ l. l ++ text_of c) (text_append a b))
    ∙ ap (λ l. text_of a ++ text_of b ++ l ++ text_of d) (text_flat (held_left now) was.held)
    ∙ ap (λ l. text_of a ++ text_of b ++ flat_map (λ h. text_of (held_left now h)) was.held ++ l)
    (flat_map-map line_text (Issues now.number) (drop was.loads now.pending)))

-- the texts of two slots in order
pub order_text : (a b : ℕ) (first second : List Line)
    → text_of (if nat_lt b a then second else []) ++ text_of first ++ text_of (if nat_lt a b then second else []) ≡ text_of (in_order a b first second)
order_text a b first second =
    sym (text_append ((if nat_lt b a then second else []) ++ first) (if nat_lt a b then second else [])
    ∙ ap (λ l. l ++ text_of (if nat_lt a b then second else [])) (text_append (if nat_lt b a then second else []) first))

pub page_text : (p : ℕ) (was now : Bool)
    → text_of (if now && not was then Maps p ∷ [] else []) ++ text_of (if was && not now then Removes p ∷ [] else []) ≡ text_of (page_told p was now)
page_text p was now = sym (text_append (if now && not was then Maps p ∷ [] else []) (if was && not now then Removes p ∷ [] else []))

-- the text of what was seen of a cycle
pub seen_text : (later : State) (b : Told) (tick : Tick)
    → text_of (slots_seen later.core b) ++ text_of (queued_seen later.core b tick) ++ text_of (read_seen b tick) ++ flat_map (λ x. line_text (Puts b.group x))
    (drop b.output (output_of later.core b.group))
    ++ text_of (page_seen later.memory b.there ++ cell_seen later.memory b.there)
    ≡ text_of (seen later b tick)
unfolding seen
seen_text later b tick =
    let s : List Line = slots_seen later.core b in
    let q : List Line = queued_seen later.core b tick in
    let r : List Line = read_seen b tick in
    let o : List Line = out_seen later.core b in
    let m : List Line = page_seen later.memory b.there ++ cell_seen later.memory b.there in
    ap (λ l. text_of s ++ text_of q ++ text_of r ++ l ++ text_of m) (sym (flat_map-map line_text (Puts b.group) (drop b.output (output_of later.core b.group))))
    ∙ sym (text_append (s ++ q ++ r ++ o) m
    ∙ ap (λ l. l ++ text_of m)
    (text_append (s ++ q ++ r) o
    ∙ ap (λ l. l ++ text_of o)
    (text_append (s ++ q) r ∙ ap (λ l. l ++ text_of r) (text_append s q))))
