use Rattle.std.proofs.Common.{◌≡◌, ◌∷◌, [], ◌++◌, length, ap, ◌∙◌, sym, subst, ◌+◌, arith}
use Rattle.mm_endless.specs.Rows.{rows_from, Ascend}
use Rattle.mm_endless.proofs.Rows.{row_more, ascend_more}
use Rattle.mm_config.proofs.rows.Rows.push.Goals as goal

pub invariant_of-self-in-Ok : goal.invariant_of-self-in-Ok
invariant_of-self-in-Ok c =
    let xs = c.self.inside.numbers.items in
    let ys = c.args.numbers.now in
    let ends = c.self.inside.ends.items in
    let count : c.len.result ≡ length xs = omega (arith, c.len.ensures) in
    let numbers : c.extend_from_slice.new.self.items ≡ xs ++ ys = c.in-Ok.ensures.items in
    let now : c.push.new.self.items ≡ ends ++ (length xs + length ys) ∷ [] = c.in_ok-push.ensures.items ∙ ap (λ n. ends ++ (n + length ys) ∷ []) count in
    subst (λ l. Ascend 0 c.push.new.self.items (length l)) (sym numbers) (subst (λ l. Ascend 0 l (length (xs ++ ys))) (sym now) (ascend_more xs ys ends c.self.invariant))

pub returns-in-Ok-clause-ok : goal.returns-in-Ok-clause-ok
returns-in-Ok-clause-ok c =
    let xs = c.self.inside.numbers.items in
    let ys = c.args.numbers.now in
    let ends = c.self.inside.ends.items in
    let count : c.len.result ≡ length xs = omega (arith, c.len.ensures) in
    let numbers : c.extend_from_slice.new.self.items ≡ xs ++ ys = c.in-Ok.ensures.items in
    let now : c.push.new.self.items ≡ ends ++ (length xs + length ys) ∷ [] = c.in_ok-push.ensures.items ∙ ap (λ n. ends ++ (n + length ys) ∷ []) count in
    ap (λ l. rows_from l 0 c.push.new.self.items) numbers ∙ ap (rows_from (xs ++ ys) 0) now ∙ row_more xs ys ends c.self.invariant ∙ ap (λ l. l ++ ys ∷ []) c.self.view_is
