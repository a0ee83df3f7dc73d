use Rattle.std.proofs.Common.{rules, ◌≡◌, ◌∷◌, ◌++◌, [], List, ℕ, ap, refl, sym, ◌∙◌, append_assoc, append-nil}
use Rattle.std.{proofs.lemmas.Grind.flat_map-append, specs.List.flat_map}
use Rattle.mm_model.specs.Audit.{segment_line}
use Rattle.mm_text.proofs.Appending.{appends_then, appends_same}
use Rattle.mm_audit_text.proofs.lines.put_segments.Goals as goal

pub loop-base-init : goal.loop-base-init
loop-base-init g c = ([], refl, search rules)

one_more : (f : ℕ × ℕ → List ℕ) (done : List (ℕ × ℕ)) (s : ℕ × ℕ) → flat_map f done ++ f s ≡ flat_map f (done ++ s ∷ [])
one_more f done s = ap (λ (text : List ℕ). flat_map f done ++ text) (sym (append-nil (f s))) ∙ sym (flat_map-append f done (s ∷ []))

pub loop-base-preserved : goal.loop-base-preserved
loop-base-preserved g c =
    let (done, is, wrote) = c.loop-base.invariant in (
      done ++ (c.in-Some.base, c.in-Some.log) ∷ [],
      is ∙ ap (λ (l : List (ℕ × ℕ)). done ++ l) c.in-Some.ensures ∙ sym (append_assoc done ((c.in-Some.base, c.in-Some.log) ∷ []) c.next.new.self),
      appends_same (appends_then wrote c.put_segment.ensures) (one_more (segment_line c.args.how) done (c.in-Some.base, c.in-Some.log)),
    )

pub returns : goal.returns
returns g c =
    let (done, is, wrote) = c.loop-base.invariant in
    appends_same wrote (ap (flat_map (segment_line c.args.how)) (sym (is ∙ ap (λ (l : List (ℕ × ℕ)). done ++ l) c.in_default.ensures.0 ∙ append-nil done)))
