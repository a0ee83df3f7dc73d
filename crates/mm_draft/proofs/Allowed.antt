-- A statement without a fault may be added.
use Rattle.std.proofs.Common.{◌≡◌, ℕ, ◌≤◌, Bool, true, false, ◌||◌, List, [], ◌∷◌, ◌++◌, Option, Some, None, Result, Ok}
use Rattle.std.proofs.Common.{Err, is_some, refl, sym, ap, ◌∙◌, arith}
use Rattle.std.{proofs.lemmas.Bool.{or_parts, ltb-false, Decides.nat_tests}, specs.Prelude.nat_lt}
use Rattle.mm_line.specs.declared.{fault.{Fault.Fault, Problem.Problem}, statement.Statement.Statement}
use Rattle.mm_line.specs.declared.line.{Claim.Claim, Body.Body}
use Rattle.mm_line.specs.Ranges.{IsBody, NamesItsClaim, Names, Reads, IsStatement}
use Rattle.mm_draft.specs.Drafts.{Draft, Segment, last, place_of}
use Rattle.mm_draft.specs.Faults.{first_of, fault_if, claim_faults, words_faults, statement_faults, reading_faults}
use Rattle.mm_draft.specs.{Faults.{body_faults, is_named, one_if_pointer}, Counts.{HasRoom, MayAdd, MayAddReading}}
use Rattle.mm_draft.proofs.Firsts.{no_fault}
use Rattle.mm_model.specs.Limits.{word_limit, reloc_limit}
use Rattle.mm_line.specs.declared.statement.Statement.TheVariants as statement
use Rattle.mm_line.specs.declared.line.Claim.TheVariants as claims

append_none : (xs ys : List Problem) → xs ++ ys ≡ [] → (xs ≡ []) × (ys ≡ [])
append_none [] ys e = (refl, e)
append_none (x ∷ xs) ys e = cc

pub good : (bad : Bool) (fault : Fault) (left : ℕ) → fault_if bad fault left ≡ [] → bad ≡ false
good true fault left e = cc
good false fault left e = refl

is_new : {A : Type 0} (o : Option A) → is_some o ≡ false → o ≡ None
is_new None e = refl
is_new (Some x) e = cc

room : (d : Draft) (words pointers left : ℕ) (o : Option Segment) → words_faults d words pointers left o ≡ [] → HasRoom d words pointers
room d words pointers left None e = cc
room d words pointers left (Some s) e =
    let n = or_parts _ _ (good _ _ left (append_none _ _ e).1) in
    record { words_fit = ltb-false word_limit _ n.0; pointers_fit = ltb-false reloc_limit _ n.1 }

new_name : (d : Draft) (left : ℕ) (name : List ℕ) (claim : Option Claim) → claim_faults d claim ≡ []
    → (m : Rattle.mm_line.specs.declared.name.Mark.Mark) → claim ≡ Some (claims.Segment m) → place_of d m.name ≡ None
new_name d left name claim e m is =
    let g : fault_if (is_named d m.name) _ m.left ≡ [] = ap (claim_faults d) (sym is) ∙ e in
    is_new (place_of d m.name) (good (is_named d m.name) _ m.left g)

may_add : (d : Draft) (left : ℕ) (claim : Option Claim) (s : Statement) → IsStatement left s → Names s left claim → claim_faults d claim ≡ [] → statement_faults d left s ≡ [] → MayAdd d s
unfolding statement_faults
may_add d left claim (statement.Spare frames) h n c e = tt
may_add d left claim (statement.Begin mark log) h n c e = (h.2, new_name d left mark.name claim c mark n)
may_add d left claim (statement.Fill words) h n c e = room d words 0 left (last d.segments) e
may_add d left claim (statement.Word full what) h n c e = room d 1 (one_if_pointer what) left (last d.segments) e
may_add d left claim (statement.Thread slot group handler perm target) h n c e = tt
may_add d left claim (statement.Register number value) h n c e = tt

pub may_add_reading : (d : Draft) (most : ℕ) (b : Body) → IsBody most b → NamesItsClaim (Some b) → first_of (body_faults d (Some b)) ≡ None → MayAddReading d b.reading
may_add_reading d most b h names e = of b.reading h.reading names (append_none _ _ (no_fault (body_faults d (Some b)) e))
  where
    of : (r : Result Statement Problem) → Reads b.left (IsStatement b.left) r
        → ((s : Statement) → r ≡ Ok s → Names s b.left b.claim) → (claim_faults d b.claim ≡ [])
        × (reading_faults d b.left r ≡ []) → MayAddReading d r
    of (Ok s) reads n x = may_add d b.left b.claim s (reads.ok s refl) (n s refl) x.0 x.1
    of (Err p) reads n x = tt
