-- A text means an object exactly where it has no fault.
use Rattle.std.proofs.Common.{◌≡◌, ◌↔◌, ℕ, Bool, true, false, if◌then◌else◌, List, [], ◌∷◌, map, Option, Some, None}
use Rattle.std.{proofs.Common.{Result, Ok, Err, refl, sym, ap, ◌∙◌}, specs.Option.option_or}
use Rattle.mm_draft.specs.{Drafts.Draft, declared.fault.Failure.Failure, Faults.draft_of}
use Rattle.mm_draft.{specs.Laws.{Pair, failure_pair, precedes, sooner, least, fault_of}, proofs.Least.first_is_least}
use Rattle.mm_object.specs.Objects.{Object}
use Rattle.mm_asm.specs.{Meaning.object_of, Faults.{late_failures, late_of, first_fault, Means}}
use Rattle.mm_asm.{specs.Laws.{MeaningsAreOne, TextsMeanOrFail}, proofs.Lists.none_map}

sooner_is : (p : Pair) (q : Option Pair) → sooner p q ≡ None → ⊥
sooner_is p None e = cc
sooner_is p (Some q) e = chosen (precedes q p) e
  where
    chosen : (b : Bool) → (if b then Some q else Some p) ≡ None → ⊥
    chosen true e = cc
    chosen false e = cc

-- a list without a least item is empty
pub none_least : (pairs : List Pair) → least pairs ≡ None → pairs ≡ []
none_least [] e = refl
none_least (p ∷ pairs) e = absurd (sooner_is p (least pairs) e)

pub ok_same : (d e : Draft) → (let r : Result Draft Failure = Ok d in r) ≡ Ok e → d ≡ e
ok_same d e h = cc

module _ (text : List ℕ) where
  abbrev Fits : Result Draft Failure → Type 0
  Fits r = (option_or (fault_of r) (least (late_of r)) ≡ None) ↔ ((o : Object) × Means text o)

  fits : (r : Result Draft Failure) → draft_of text ≡ r → Fits r
  fits (Err failure) e = ((λ h. absurd cc), (λ m. let h = m.1.early in absurd (cc (e, h))))
  fits (Ok d) e = (
    (λ h. (object_of d, record { draft = d; early = e; late = none_map failure_pair (late_failures d) (none_least (map failure_pair (late_failures d)) h); object = refl })),
    (λ m.
        let same : m.1.draft ≡ d = ok_same m.1.draft d (sym m.1.early ∙ e) in
        let none : late_failures d ≡ [] = ap late_failures (sym same) ∙ m.1.late in
        ap (λ (failures : List Failure). least (map failure_pair failures)) none),
  )

-- the least early fault is the one that stops the reading
pub texts_mean_or_fail : TextsMeanOrFail
unfolding first_fault
texts_mean_or_fail text = rw (← first_is_least text) (fits text (draft_of text) refl)

pub meaning_has_no_fault : (text : List ℕ) (o : Object) → Means text o → first_fault text ≡ None
meaning_has_no_fault text o m = (texts_mean_or_fail text).1 (o, m)

pub meanings_are_one : MeaningsAreOne
meanings_are_one text a b one two =
    one.object ∙ ap object_of (ok_same one.draft two.draft (sym one.early ∙ two.early)) ∙ sym two.object
