-- A line of one statement, and the parts that statements share.
use Rattle.std.proofs.Common.{◌≡◌, ℕ, ◌-◌, ◌^◌, ◌<◌, Bool, true, false, List, [], ◌∷◌, ◌++◌, length, codes, Option}
use Rattle.std.proofs.Common.{Some, None, Result, Ok, refl, sym, ap, ◌∙◌, arith}
use Rattle.std.{proofs.lemmas.{List.{append-nil, append_assoc}, Bool.le-leb}, specs.Fmt.decimal}
use Rattle.mm_word.specs.declared.perm.Perm.{Perm}
use Rattle.mm_line.specs.declared.{fault.Problem.Problem, statement.Statement.Statement, line.Body.Body}
use Rattle.mm_line.specs.declared.token.Token.{Token, TheVariants.{Name, Directive, Number, Plus}}
use Rattle.mm_line.specs.{Tokens.{Next, end, token_at, next_token}, Forms.is_name, TokenPlaces.written}
use Rattle.mm_line.specs.{Words.{look_up, directives}, Reading.{◌>>=◌, number_of}}
use Rattle.mm_line.specs.Statements.{addend_at, target_at, front_by, statement_of, claim_of, body_of, is_label, line_of}
use Rattle.mm_line.proofs.Written.{name_read, directive_read, plus_read}
use Rattle.mm_object.specs.{declared.target.Target.Target, Lookups.name_of_target, Objects.Object}
use Rattle.mm_disasm.specs.Canonical.{perm_text, short_hex, long_hex, pointer_text}
use Rattle.mm_disasm.proofs.{Saying.{Says, IsTargetOf}, LinesTokens.{blank, decimal_token, short_token, long_token}}
use Rattle.mm_disasm.proofs.{LinesOperands.between_again, LinesNames.{IsWord, IsKnown}}
use Rattle.mm_line.specs.declared.statement.Target as text

-- 1. The line.

line_by : (line : List ℕ) (n : Next) → next_token line ≡ n → is_label n.token (next_token n.rest).token ≡ false → line_of line ≡ record { label = None; body = body_of n }
unfolding line_of
line_by line n e f = rw (e, f) refl

-- a statement may begin with this token
abbrev pub opens : Token → Bool
opens Name = true
opens Directive = true
opens _ = false

-- what such a token begins
abbrev body_at : Next → Body
body_at n = record { left = n.left; claim = claim_of n; reading = statement_of n }

body_by : (token : Token) (text rest : List ℕ) → opens token ≡ true → body_of (written token text rest) ≡ Some (body_at (written token text rest))
unfolding body_of
body_by Name text rest e = refl
body_by Directive text rest e = refl
body_by _ text rest e = cc

-- no token is left in an empty line
pub nothing_left : next_token [] ≡ end
unfolding next_token token_at
nothing_left = refl

statement_by : (n : Next) (s : Statement) → front_by (look_up directives n.text) n ≡ Ok (s, []) → statement_of n ≡ Ok s
unfolding statement_of
statement_by n s e = rw (e, nothing_left) refl

-- a line says the statement that its first token begins, where nothing is behind it
pub says : (line : List ℕ) (token : Token) (text rest : List ℕ) (s : Statement) (P : Statement → Type 0)
    → next_token line ≡ written token text rest → opens token ≡ true → is_label token (next_token rest).token ≡ false
    → front_by (look_up directives text) (written token text rest) ≡ Ok (s, []) → P s → Says line P
says line token text rest s P e begin unlabelled read p =
    let n : Next = written token text rest in
    record {
      left = length (text ++ rest);
      claim = claim_of n;
      statement = s;
      is = line_by line n e unlabelled ∙ ap (λ (b : Option Body). record { label = None; body = b }) (body_by token text rest begin
          ∙ ap (λ (r : Result Statement Problem). Some (record { left = length (text ++ rest); claim = claim_of n; reading = r })) (statement_by n s read));
      means = p;
    }

-- a line that begins with a directive
pub directive_says : (name rest : List ℕ) (s : Statement) (P : Statement → Type 0) → is_name name ≡ true
    → front_by (look_up directives (codes "." ++ name)) (written Directive (codes "." ++ name) (32 ∷ rest)) ≡ Ok (s, []) → P s → Says ((codes "." ++ name) ++ 32 ∷ rest) P
directive_says name rest s P named read p =
    says ((codes "." ++ name) ++ 32 ∷ rest) Directive (codes "." ++ name) (32 ∷ rest) s P (directive_read name (32 ∷ rest) named refl) refl refl read p

-- 2. Its tokens.

-- a name behind a blank
pub name_behind : (name rest : List ℕ) → is_name name ≡ true → next_token (32 ∷ (name ++ 32 ∷ rest)) ≡ written Name name (32 ∷ rest)
name_behind name rest h = blank (name ++ 32 ∷ rest) ∙ name_read name (32 ∷ rest) h refl

-- a number behind a blank
pub decimal_behind : (n : ℕ) (rest : List ℕ) → n < 2 ^ 64 → next_token (32 ∷ (decimal n ++ 32 ∷ rest)) ≡ written (Number false n) (decimal n) (32 ∷ rest)
decimal_behind n rest h = blank (decimal n ++ 32 ∷ rest) ∙ decimal_token n (32 ∷ rest) h refl

-- and the last of the line
pub decimal_last : (n : ℕ) → n < 2 ^ 64 → next_token (32 ∷ decimal n) ≡ written (Number false n) (decimal n) []
decimal_last n h = blank (decimal n) ∙ ap next_token (sym (append-nil (decimal n))) ∙ decimal_token n [] h refl

pub long_last : (n : ℕ) → n < 2 ^ 64 → next_token (32 ∷ long_hex n) ≡ written (Number false n) (long_hex n) []
long_last n h = blank (long_hex n) ∙ ap next_token (sym (append-nil (long_hex n))) ∙ long_token n [] h refl

short_last : (n : ℕ) → n < 2 ^ 20 → next_token (short_hex n) ≡ written (Number false n) (short_hex n) []
short_last n h = ap next_token (sym (append-nil (short_hex n))) ∙ short_token n [] h refl

-- 3. Targets.

abbrev addend_by : Next → Next → List ℕ → Result (ℕ × List ℕ) Problem
addend_by plus number line = elim plus.token [
  | Plus ↦ number_of 0 (2 ^ 20 - 1) number >>= λ addend. Ok (addend, number.rest)
  | _ ↦ Ok (0, line)
]

addend_is : (line : List ℕ) → addend_at line ≡ addend_by (next_token line) (next_token (next_token line).rest) line
unfolding addend_at
addend_is line = refl

addend_read : (n : ℕ) → n < 2 ^ 20 → addend_at (43 ∷ short_hex n) ≡ Ok (n, [])
addend_read n h =
    let line : List ℕ = 43 ∷ short_hex n in
    let plus : Next = written Plus (codes "+") (short_hex n) in
    let number : Next = written (Number false n) (short_hex n) [] in
    let read : addend_by plus number line ≡ Ok (n, []) = rw (between_again 0 (2 ^ 20 - 1) n (omega arith) (omega arith)) refl in
    addend_is line ∙ ap (λ (p : Next). addend_by p (next_token p.rest) line) (plus_read (short_hex n)) ∙ ap (λ (k : Next). addend_by plus k line) (short_last n h) ∙ read

-- a name and what is added to it
abbrev pub target_text : List ℕ → ℕ → List ℕ
target_text name addend = name ++ 43 ∷ short_hex addend

target_by : (name : List ℕ) (addend : ℕ) → IsWord name → addend < 2 ^ 20
    → target_at (32 ∷ target_text name addend) ≡ Ok (record { mark = record { name = name; left = length (target_text name addend) }; addend = addend }, [])
unfolding target_at
target_by name addend h k =
    let first : next_token (32 ∷ target_text name addend) ≡ written Name name (43 ∷ short_hex addend) =
    blank (target_text name addend) ∙ name_read name (43 ∷ short_hex addend) h.form refl in
    rw (first, le-leb (length name) 31 h.short, addend_read addend k) refl

abbrev pub target_line : Object → Target → List ℕ
target_line o t = target_text (name_of_target o t) t.addend

-- a target of the object, as the text has it
abbrev pub target_in : Object → Target → text.Target
target_in o t = record { mark = record { name = name_of_target o t; left = length (target_line o t) }; addend = t.addend }

pub target_read : (o : Object) (t : Target) → IsKnown o t → target_at (32 ∷ target_line o t) ≡ Ok (target_in o t, [])
target_read o t h = target_by (name_of_target o t) t.addend h.name h.addend

pub same_target : (o : Object) (t : Target) → IsTargetOf o t (target_in o t)
same_target o t = (refl, refl)

-- a permission and a target
pub pointer_shape : (o : Object) (p : Perm) (t : Target) → pointer_text o p t ≡ perm_text p ++ 32 ∷ target_line o t
unfolding pointer_text
pointer_shape o p t = simp append_assoc

-- 4. The empty line.
