use Rattle.std.proofs.Common.{◌++◌, ◌∷◌, [], ◌∙◌, List, ℕ, Contains, sym, subst}
use Rattle.mm_explore.{specs.Words.{AreKept}, proofs.WordKeys.{AreAmong, kept_more, among_more, has_new}}
use Rattle.mm_endless.proofs.Marks.{ok_so}
use Rattle.mm_explore.proofs.reached.WordSet.add_anew.Goals as goal

pub invariant_of-self-2 : goal.invariant_of-self-2
invariant_of-self-2 c =
    let places = c.self.inside.recent.items in
    subst (λ (l : List (ℕ × ℕ)). AreAmong l places) (sym c.in_ok-insert.ensures.keys) (among_more c.self.inside.words.keys c.args.key places c.self.invariant)

pub remember-requires : goal.remember-requires
remember-requires c =
    subst (λ (l : List (ℕ × ℕ)). Contains l c.args.key) (sym c.in_ok-insert.ensures.keys) (has_new c.self.inside.words.keys c.args.key)

pub returns : goal.returns
returns c = ok_so c.remember.result
    (λ kept h. subst (AreKept (kept ++ c.args.key ∷ [])) (sym (c.remember.ensures ∙ c.in_ok-insert.ensures.keys))
    (kept_more kept c.self.inside.words.keys c.args.key c.requires (subst (AreKept kept) (sym c.self.view_is) h)))
