use Rattle.std.proofs.Common.{◌≡◌, ◌-◌, length, take, sym, ap, ◌∙◌, subst, arith}
use Rattle.std.proofs.lemmas.List.{length-take}
use Rattle.std.specs.Vec.{vec_len}
use Rattle.mm_endless.specs.Rows.{rows_from, Ascend, begin_of}
use Rattle.mm_endless.proofs.Rows.{rows_len}
use Rattle.mm_config.proofs.Shortened.{last_end, begin_last, rows_front, ascend_front, front_ends, rows_stay, without_last}
use Rattle.mm_config.proofs.rows.Rows.pop.Goals as goal

pub invariant_of-self : goal.invariant_of-self
invariant_of-self c =
    let xs = c.self.inside.numbers.items in
    let ends = c.self.inside.ends.items in
    let k = vec_len c.self.inside.ends - 1 in
    let now : c.pop.new.self.items ≡ take k ends = c.pop.ensures.rest in
    let count : c.len.result ≡ length c.pop.new.self.items = omega (arith, c.len.ensures) in
    let left : c.begin-left.result ≡ last_end 0 (take k ends) =
    c.begin-left.ensures ∙ ap (λ l. begin_of l c.len.result) c.deref.ensures.value ∙ ap (begin_of c.pop.new.self.items) count
    ∙ begin_last c.pop.new.self.items ∙ ap (last_end 0) now in
    let low = front_ends 0 ends (length xs) k c.self.invariant in
    let cut = length-take c.begin-left.result xs in
    let long : last_end 0 (take k ends) ≡ length (take c.begin-left.result xs) = omega (arith, left, low, cut) in
    subst (λ l. Ascend 0 c.pop.new.self.items (length l)) (sym c.truncate.ensures.items)
    (subst (λ l. Ascend 0 l (length (take c.begin-left.result xs))) (sym now)
    (subst (Ascend 0 (take k ends)) long (ascend_front 0 ends (length xs) k c.self.invariant)))

pub returns : goal.returns
returns c kept last is =
    let xs = c.self.inside.numbers.items in
    let ends = c.self.inside.ends.items in
    let k = vec_len c.self.inside.ends - 1 in
    let now : c.pop.new.self.items ≡ take k ends = c.pop.ensures.rest in
    let count : c.len.result ≡ length c.pop.new.self.items = omega (arith, c.len.ensures) in
    let left : c.begin-left.result ≡ last_end 0 (take k ends) =
    c.begin-left.ensures ∙ ap (λ l. begin_of l c.len.result) c.deref.ensures.value ∙ ap (begin_of c.pop.new.self.items) count
    ∙ begin_last c.pop.new.self.items ∙ ap (last_end 0) now in
    let cut : c.truncate.new.self.items ≡ take (last_end 0 (take k ends)) xs = c.truncate.ensures.items ∙ ap (λ n. take n xs) left in
    ap (λ l. rows_from l 0 c.pop.new.self.items) cut ∙ ap (rows_from (take (last_end 0 (take k ends)) xs) 0) now
    ∙ rows_stay xs 0 (take k ends) (last_end 0 (take k ends)) (ascend_front 0 ends (length xs) k c.self.invariant)
    ∙ rows_front xs 0 ends k
    ∙ without_last (rows_from xs 0 ends) kept last (vec_len c.self.inside.ends) (let long : length (rows_from xs 0 ends) ≡ length ends = rows_len xs 0 ends in omega (arith, long)) (c.self.view_is ∙ is)
