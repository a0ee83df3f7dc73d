use Rattle.std.proofs.Common.{◌⊎◌, ◌∷◌, [], if◌then◌else◌, sym, ◌∙◌, ap, subst}
use Rattle.std.specs.Prelude.{Contains}
use Rattle.mm_hold.specs.{Conducts.AreAll}
use Rattle.mm_hold.proofs.Sets.{word_added, all_same}
use Rattle.mm_hold.proofs.inside.put_carrying.Goals as goal

pub returns-in_ok-insert : goal.returns-in_ok-insert
returns-in_ok-insert c =
    let old = c.args.words.now.keys in
    let held = c.args.held.now in
    let yes = sym c.carries.ensures ∙ c.if-carries.true in
    subst (λ l. AreAll (λ x. Contains old x ⊎ Contains l x) c.insert.new.self.keys) (ap (λ b. if b then held.0 ∷ [] else []) (sym yes))
    (subst (AreAll (λ x. Contains old x ⊎ Contains (held.0 ∷ []) x)) (sym c.in_ok-insert.ensures.keys) (word_added old held.0))

pub returns-else-carries : goal.returns-else-carries
returns-else-carries c =
    let old = c.args.words.now.keys in
    let held = c.args.held.now in
    let no = sym c.carries.ensures ∙ c.if-carries.false in
    subst (λ l. AreAll (λ x. Contains old x ⊎ Contains l x) old) (ap (λ b. if b then held.0 ∷ [] else []) (sym no)) (all_same old)
