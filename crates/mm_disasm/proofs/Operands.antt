-- Operands with commas between them.
use Rattle.std.proofs.Common.{◌≡◌, ℕ, ◌-◌, ◌≤◌, List, [], ◌∷◌, ◌++◌, length, take, drop, get_or, codes, ap, ◌∙◌, arith}
use Rattle.std.{proofs.lemmas.List.take_all, specs.List.flat_map}
use Rattle.mm_isa.specs.declared.operand.Operand.{Operand}
use Rattle.mm_disasm.specs.Canonical.{operand_text, further_text, operands_text}

behind_first : (x : Operand) (xs : List Operand) (n k : ℕ) → n ≡ length xs → length (take n xs) ≤ k
    → codes " " ++ operand_text x ++ flat_map further_text (take k (take n xs)) ≡ operands_text (x ∷ xs)
behind_first x xs n k is all =
    ap (λ (l : List Operand). codes " " ++ operand_text x ++ flat_map further_text l) (take_all k (take n xs) all ∙ take_all n xs (omega (arith, is)))

pub all_operands : (xs : List Operand) (k : ℕ) (x : Operand) → 1 ≤ length xs → x ≡ get_or xs 0 x → length (take (length xs - 1) (drop 1 xs)) ≤ k
    → codes " " ++ operand_text x ++ flat_map further_text (take k (take (length xs - 1) (drop 1 xs))) ≡ operands_text xs
all_operands [] k x some is all = absurd (omega (arith, some))
all_operands (y ∷ ys) k x some is all =
    let n = length (y ∷ ys) - 1 in
    ap (λ (z : Operand). codes " " ++ operand_text z ++ flat_map further_text (take k (take n ys))) is ∙ behind_first y ys n k (omega arith) all
