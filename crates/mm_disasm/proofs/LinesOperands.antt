-- Operands are read as they are written.
use Rattle.std.proofs.Common.{◌≡◌, ℕ, suc, ◌+◌, ◌-◌, ◌%◌, ◌^◌, ◌<◌, ◌≤◌, true, false, List, [], ◌∷◌, ◌++◌, map, fold}
use Rattle.std.proofs.Common.{codes, Some, Result, Ok, ℤ, pos, negsuc, FitsSigned, refl, ap, ◌∙◌, arith}
use Rattle.std.proofs.lemmas.{Int.{to_z_pos, to_z-of_z}, List.append_assoc, Bool.le-leb}
use Rattle.std.specs.{List.{flat_map, AllByRecursion}, Fmt.signed_decimal, Int.{w32, cast_signed}}
use Rattle.mm_word.specs.declared.word.{Pre.Pre, Post.Post}
use Rattle.mm_isa.specs.declared.instr.How.{How, TheVariants.{Retry, Skip, Kill}}
use Rattle.mm_isa.specs.declared.operand.Operand.{Operand}
use Rattle.mm_isa.specs.declared.operand.Operand.TheVariants.{Rd, EvtRd, Ra, Rb, Imm, Distance, RegisterNumber}
use Rattle.mm_isa.specs.{declared.operand.OperandKind.OperandKind, Table.{kind_of, put, IsInRange}}
use Rattle.mm_line.specs.declared.{fault.Problem.Problem, statement.Code.Code}
use Rattle.mm_line.specs.{declared.token.Token.{Token, TheVariants.{Name, Number}}, Tokens.{Next, next_token}}
use Rattle.mm_line.specs.{Forms.is_name, TokenPlaces.written, Reading.{between, immediate_of, modulo}}
use Rattle.mm_line.specs.Operands.{with_operand, operand_at, comma_of, more_at, operands_at}
use Rattle.mm_line.proofs.{Registers.register_again, Written.{name_read, comma_read}}
use Rattle.mm_disasm.specs.Canonical.{register_text, pre_text, post_text, how_text, operand_text, further_text}
use Rattle.mm_disasm.specs.Canonical.{operands_text}
use Rattle.mm_disasm.proofs.LinesTokens.{name_byte, begins, digits_go_on, blank, decimal_token, negative_token}
use Rattle.mm_word.specs.declared.word.Pre.TheVariants as pre
use Rattle.mm_word.specs.declared.word.Post.TheVariants as post
use Rattle.mm_isa.specs.declared.operand.Operand.TheVariants as operand

-- 1. The token of an operand.

abbrev pub signed_token : ℤ → Token
signed_token (pos n) = Number false n
signed_token (negsuc n) = Number true (suc n)

abbrev pub operand_token : Operand → Token
operand_token (Imm n) = signed_token n
operand_token (Distance n) = signed_token n
operand_token (RegisterNumber r) = Number false r
operand_token _ = Name

pub is_register_name : (r : ℕ) → r < 16 → is_name (register_text r) ≡ true
is_register_name r h = digits_go_on r (omega arith)

register_read : (r : ℕ) (rest : List ℕ) → r < 16 → begins name_byte rest ≡ false → next_token (register_text r ++ rest) ≡ written Name (register_text r) rest
register_read r rest h stop = name_read (register_text r) rest (is_register_name r h) stop

signed_read : (z : ℤ) (rest : List ℕ) → FitsSigned w32 z → begins name_byte rest ≡ false → next_token (signed_decimal z ++ rest) ≡ written (signed_token z) (signed_decimal z) rest
signed_read (pos n) rest h stop = decimal_token n rest (omega arith) stop
signed_read (negsuc n) rest h stop = negative_token (suc n) rest (omega arith) stop

pre_read : (p : Pre) (rest : List ℕ) → begins name_byte rest ≡ false → next_token (pre_text p ++ rest) ≡ written Name (pre_text p) rest
pre_read pre.Any rest stop = name_read (codes "any") rest refl stop
pre_read pre.Full rest stop = name_read (codes "full") rest refl stop
pre_read pre.Empty rest stop = name_read (codes "empty") rest refl stop

post_read : (p : Post) (rest : List ℕ) → begins name_byte rest ≡ false → next_token (post_text p ++ rest) ≡ written Name (post_text p) rest
post_read post.Keep rest stop = name_read (codes "keep") rest refl stop
post_read post.Full rest stop = name_read (codes "full") rest refl stop
post_read post.Empty rest stop = name_read (codes "empty") rest refl stop

how_read : (h : How) (rest : List ℕ) → begins name_byte rest ≡ false → next_token (how_text h ++ rest) ≡ written Name (how_text h) rest
how_read Retry rest stop = name_read (codes "retry") rest refl stop
how_read Skip rest stop = name_read (codes "skip") rest refl stop
how_read Kill rest stop = name_read (codes "kill") rest refl stop

-- the text of an operand is its token
pub operand_read : (x : Operand) (rest : List ℕ) → IsInRange x → begins name_byte rest ≡ false
    → next_token (operand_text x ++ rest) ≡ written (operand_token x) (operand_text x) rest
operand_read (Rd r) rest h stop = register_read r rest h stop
operand_read (EvtRd r) rest h stop = register_read r rest (omega arith) stop
operand_read (Ra r) rest h stop = register_read r rest h stop
operand_read (Rb r) rest h stop = register_read r rest h stop
operand_read (Imm n) rest h stop = signed_read n rest h stop
operand_read (Distance n) rest h stop = signed_read n rest h stop
operand_read (RegisterNumber r) rest h stop = decimal_token r rest (omega arith) stop
operand_read (operand.Pre p) rest h stop = pre_read p rest stop
operand_read (operand.Post p) rest h stop = post_read p rest stop
operand_read (operand.How w) rest h stop = how_read w rest stop

-- 2. The operand of a token.

abbrev holding : Code → Operand → Code
holding c x = record c { fields = put c.fields x }

-- a number in its range
pub between_again : (low high n : ℕ) → low ≤ n → n ≤ high → between low high false n ≡ Some n
between_again low high n l h = rw (le-leb low n l, le-leb n high h) refl

immediate_again : (z : ℤ) (text rest : List ℕ) → FitsSigned w32 z → immediate_of (written (signed_token z) text rest) ≡ Ok z
immediate_again (pos n) text rest h =
    let small : n % 2 ^ 32 ≡ n = omega arith in
    let same : cast_signed w32 (modulo (2 ^ 32) false n) ≡ pos n = ap (cast_signed w32) small ∙ to_z_pos w32 n (omega arith) in
    rw (le-leb n (2 ^ 32 - 1) (omega arith)) (ap Ok same)
immediate_again (negsuc n) text rest h =
    let small : (2 ^ 32 - suc n) % 2 ^ 32 ≡ 2 ^ 32 - suc n = omega arith in
    let same : cast_signed w32 (modulo (2 ^ 32) true (suc n)) ≡ negsuc n = ap (cast_signed w32) small ∙ to_z-of_z w32 (negsuc n) h in
    rw (le-leb (suc n) (2 ^ 31) (omega arith)) (ap Ok same)

signed_value : (z : ℤ) (c : Code) (text rest : List ℕ) → FitsSigned w32 z → with_operand (kind_of (Distance z)) c (written (signed_token z) text rest) ≡ Ok (holding c (Distance z))
signed_value (pos n) c text rest h = rw (immediate_again (pos n) text rest h) refl
signed_value (negsuc n) c text rest h = rw (immediate_again (negsuc n) text rest h) refl

-- and the token is read as the operand
pub operand_value : (x : Operand) (c : Code) (rest : List ℕ) → IsInRange x → with_operand (kind_of x) c (written (operand_token x) (operand_text x) rest) ≡ Ok (holding c x)
operand_value (Rd r) c rest h = rw (register_again r h) refl
operand_value (EvtRd r) c rest h = let small : r < 16 = omega arith in rw (register_again r small, le-leb r 12 h) refl
operand_value (Ra r) c rest h = rw (register_again r h) refl
operand_value (Rb r) c rest h = rw (register_again r h) refl
operand_value (Imm n) c rest h = rw (immediate_again n (signed_decimal n) rest h) refl
operand_value (Distance n) c rest h = signed_value n c (signed_decimal n) rest h
operand_value (RegisterNumber r) c rest h = rw (between_again 0 15 r (omega arith) (omega arith)) refl
operand_value (operand.Pre pre.Any) c rest h = refl
operand_value (operand.Pre pre.Full) c rest h = refl
operand_value (operand.Pre pre.Empty) c rest h = refl
operand_value (operand.Post post.Keep) c rest h = refl
operand_value (operand.Post post.Full) c rest h = refl
operand_value (operand.Post post.Empty) c rest h = refl
operand_value (operand.How Retry) c rest h = refl
operand_value (operand.How Skip) c rest h = refl
operand_value (operand.How Kill) c rest h = refl

-- 3. The operands of an operation.

operand_by : (kind : OperandKind) (c d : Code) (line : List ℕ) (n : Next) → next_token line ≡ n → with_operand kind c n ≡ Ok d → operand_at kind c line ≡ Ok (d, n.rest)
unfolding operand_at
operand_by kind c d line n e f = rw (e, f) refl

one_read : (x : Operand) (c : Code) (rest : List ℕ) → IsInRange x → begins name_byte rest ≡ false
    → operand_at (kind_of x) c (32 ∷ (operand_text x ++ rest)) ≡ Ok (holding c x, rest)
one_read x c rest h stop =
    operand_by (kind_of x) c (holding c x) (32 ∷ (operand_text x ++ rest)) (written (operand_token x) (operand_text x) rest)
    (blank (operand_text x ++ rest) ∙ operand_read x rest h stop) (operand_value x c rest h)

more_by : (kind : OperandKind) (kinds : List OperandKind) (c d : Code) (line behind rest : List ℕ) (r : Result (Code × List ℕ) Problem)
    → comma_of (next_token line) ≡ Ok behind → operand_at kind c behind ≡ Ok (d, rest) → more_at kinds d rest ≡ r → more_at (kind ∷ kinds) c line ≡ r
unfolding more_at
more_by kind kinds c d line behind rest r e f g = rw (e, f) g

-- the text of further operands, and what is behind it
abbrev pub further : List Operand → List ℕ → List ℕ
further xs rest = flat_map further_text xs ++ rest

pub commas_stop : (xs : List Operand) (rest : List ℕ) → begins name_byte rest ≡ false → begins name_byte (further xs rest) ≡ false
commas_stop [] rest stop = stop
commas_stop (x ∷ xs) rest stop = refl

abbrev all_holding : Code → List Operand → Code
all_holding c xs = record c { fields = fold put c.fields xs }

more_read : (xs : List Operand) (c : Code) (rest : List ℕ) → AllByRecursion IsInRange xs → begins name_byte rest ≡ false
    → more_at (map kind_of xs) c (further xs rest) ≡ Ok (all_holding c xs, rest)
unfolding more_at
more_read [] c rest h stop = refl
more_read (x ∷ xs) c rest h stop =
    let behind : List ℕ = 32 ∷ (operand_text x ++ further xs rest) in
    let line : (further_text x ++ flat_map further_text xs) ++ rest ≡ codes "," ++ behind = ap (λ t. 44 ∷ 32 ∷ t) (append_assoc (operand_text x) (flat_map further_text xs) rest) in
    let comma : comma_of (next_token ((further_text x ++ flat_map further_text xs) ++ rest)) ≡ Ok behind =
    ap (λ t. comma_of (next_token t)) line ∙ ap comma_of (comma_read behind) in
    more_by (kind_of x) (map kind_of xs) c (holding c x) ((further_text x ++ flat_map further_text xs) ++ rest) behind (further xs rest) (Ok (all_holding c (x ∷ xs), rest)) comma
    (one_read x c (further xs rest) h.0 (commas_stop xs rest stop)) (more_read xs (holding c x) rest h.1 stop)

pub operands_shape : (x : Operand) (xs : List Operand) (rest : List ℕ) → operands_text (x ∷ xs) ++ rest ≡ 32 ∷ (operand_text x ++ further xs rest)
operands_shape x xs rest = ap (λ t. 32 ∷ t) (append_assoc (operand_text x) (flat_map further_text xs) rest)

operands_by : (kind : OperandKind) (kinds : List OperandKind) (c d : Code) (line rest : List ℕ) (r : Result (Code × List ℕ) Problem)
    → operand_at kind c line ≡ Ok (d, rest) → more_at kinds d rest ≡ r → operands_at (kind ∷ kinds) c line ≡ r
unfolding operands_at
operands_by kind kinds c d line rest r e f = rw e f

pub operands_read : (xs : List Operand) (c : Code) (rest : List ℕ) → AllByRecursion IsInRange xs → begins name_byte rest ≡ false
    → operands_at (map kind_of xs) c (operands_text xs ++ rest) ≡ Ok (all_holding c xs, rest)
unfolding operands_at
operands_read [] c rest h stop = refl
operands_read (x ∷ xs) c rest h stop =
    ap (operands_at (map kind_of (x ∷ xs)) c) (operands_shape x xs rest)
    ∙ operands_by (kind_of x) (map kind_of xs) c (holding c x) (32 ∷ (operand_text x ++ further xs rest)) (further xs rest) (Ok (all_holding c (x ∷ xs), rest))
    (one_read x c (further xs rest) h.0 (commas_stop xs rest stop)) (more_read xs (holding c x) rest h.1 stop)
