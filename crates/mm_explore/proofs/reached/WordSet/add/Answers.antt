use Rattle.std.proofs.Common.{◌≡◌, ◌++◌, ◌∷◌, [], ◌∙◌, ℕ, Contains, sym, subst}
use Rattle.mm_explore.{specs.Words.{AreKept}, proofs.WordKeys.{AreAmong, kept_again, among_at}}
use Rattle.mm_explore.proofs.Notes.{more_ok}
use Rattle.mm_explore.proofs.reached.WordSet.add.Goals as goal

pub returns-then-recent-word : goal.returns-then-recent-word
returns-then-recent-word c = λ kept h.
    let keys = c.self.inside.words.keys in
    let recent : ℕ × ℕ = c.in-Some-Some.recent in
    let key : ℕ × ℕ = (c.args.group, c.args.access.now.addr) in
    let same : recent ≡ key = λ j. (c.if-recent-group.true j, (c.if-recent-word.true ∙ c.addr-word.ensures.addr) j) in
    let lookup = c.in-Some-Some.ensures.lookup in
    let all = subst (AreAmong keys) (sym c.deref.ensures.value) c.self.invariant in
    let here : Contains keys recent =
    among_at keys c.deref.result.now c.place_of-place.result c.in-Some-Some.field-0.now recent all lookup.3.0 lookup.1 c.in-Some-Some.field-0-is in
    subst (AreKept (kept ++ key ∷ [])) c.self.view_is
    (kept_again kept keys key (subst (Contains keys) same here) (subst (AreKept kept) (sym c.self.view_is) h))

pub returns : goal.returns
returns c = more_ok c.add_anew.result
    (λ more kept h. subst (λ (word : ℕ). AreKept (kept ++ (c.args.group, word) ∷ []) c.add_anew.new.self) c.addr-word.ensures.addr (more kept h))
    c.add_anew.ensures
