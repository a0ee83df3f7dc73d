-- Where the faults of a line stand.
use Rattle.std.proofs.Common.{◌≡◌, ℕ, ◌+◌, ◌<◌, ◌≤◌, Bool, true, false, nat_le, if◌then◌else◌, ◌||◌, List, [], ◌∷◌}
use Rattle.std.proofs.Common.{◌++◌, length, Option, Some, None, Result, Ok, Err, refl, ◌∙◌, arith}
use Rattle.std.{proofs.lemmas.Bool.Decides.nat_tests, specs.{Prelude.{nat_lt, is_none}, Option.option_or}}
use Rattle.mm_line.specs.declared.{fault.{Fault.Fault, Problem.Problem}, name.Mark.Mark, token.Token.Token}
use Rattle.mm_line.specs.declared.{statement.Statement.Statement, line.{Claim.Claim, Body.Body, Line.Line}}
use Rattle.mm_line.specs.{Tokens.{Next, next_token}, Reading.{at, wrong, name_of}}
use Rattle.mm_line.specs.Statements.{is_label, body_of, line_of, claim_of, statement_of}
use Rattle.mm_line.specs.Ranges.{IsBody, IsClaim, IsStatement, IsOptionalBody, IsLabel, Reads}
use Rattle.mm_line.proofs.{Choices.either, TokenPlaces.token_stands, StatementRanges.line_is}
use Rattle.mm_draft.specs.Drafts.{Draft, Segment, last, words_of, pointers_of, add_maybe_label}
use Rattle.mm_draft.specs.Faults.{is_before, lesser, first_of, fault_if, claim_faults, words_faults, statement_faults}
use Rattle.mm_draft.specs.Faults.{reading_faults, body_faults, maybe_label_faults, line_faults, is_named, room_of}
use Rattle.mm_draft.{specs.Seen.first_of_both, proofs.Firsts.first_of_append}
use Rattle.mm_model.specs.Limits.{word_limit, reloc_limit}
use Rattle.mm_line.specs.declared.fault.Fault.TheVariants as faults
use Rattle.mm_line.specs.declared.token.Token.TheVariants as tokens
use Rattle.mm_line.specs.declared.statement.Statement.TheVariants as statement
use Rattle.mm_line.specs.declared.line.Claim.TheVariants as claims

-- 1. All faults of a list are such, so the first one is.

abbrev pub EachIs : (Problem → Type 0) → List Problem → Type 0
EachIs P [] = Unit {0}
EachIs P (p ∷ ps) = P p × EachIs P ps

abbrev pub FirstIs : (Problem → Type 0) → Option Problem → Type 0
FirstIs P None = Unit {0}
FirstIs P (Some p) = P p

module _ (P : Problem → Type 0) where
  each_append : (xs ys : List Problem) → EachIs P xs → EachIs P ys → EachIs P (xs ++ ys)
  each_append [] ys a b = b
  each_append (x ∷ xs) ys a b = (a.0, each_append xs ys a.1 b)

  lesser_is : (p : Problem) (o : Option Problem) → P p → FirstIs P o → FirstIs P (lesser p o)
  lesser_is p None a b = a
  lesser_is p (Some q) a b = either (FirstIs P) (is_before q p) (Some q) (Some p) (λ _. b) (λ _. a)

  pub first_is : (xs : List Problem) → EachIs P xs → FirstIs P (first_of xs)
  first_is [] e = tt
  first_is (x ∷ xs) e = lesser_is x (first_of xs) e.0 (first_is xs e.1)

  pub each_if : (bad : Bool) (fault : Fault) (left : ℕ) → P (record { fault = fault; left = left }) → EachIs P (fault_if bad fault left)
  each_if true fault left h = (h, tt)
  each_if false fault left h = tt

  each_two : (a b : Bool) (f g : Fault) (left : ℕ) → P (record { fault = f; left = left }) → P (record { fault = g; left = left }) → EachIs P (fault_if a f left ++ fault_if b g left)
  each_two a b f g left h k = each_append (fault_if a f left) (fault_if b g left) (each_if a f left h) (each_if b g left k)

pub each_weaker : (P Q : Problem → Type 0) → ((p : Problem) → P p → Q p) → (xs : List Problem) → EachIs P xs → EachIs Q xs
each_weaker P Q f [] e = tt
each_weaker P Q f (x ∷ xs) e = (f x e.0, each_weaker P Q f xs e.1)

-- 2. The faults of a statement stand at its first token or behind it.

abbrev pub Within : ℕ → Problem → Type 0
Within most p = p.left ≤ most

claim_within : (d : Draft) (most : ℕ) (claim : Option Claim) → IsClaim most claim → EachIs (Within most) (claim_faults d claim)
claim_within d most None h = tt
claim_within d most (Some (claims.Spare left)) h = each_if (Within most) _ faults.Twice left h
claim_within d most (Some (claims.Segment mark)) h = each_if (Within most) _ faults.Twice mark.left h.place
claim_within d most (Some (claims.Slot slot left)) h = each_if (Within most) _ faults.Twice left h.1
claim_within d most (Some (claims.Register number left)) h = each_if (Within most) _ faults.Twice left h.1

words_within : (d : Draft) (words pointers left : ℕ) (o : Option Segment) → EachIs (Within left) (words_faults d words pointers left o)
words_within d words pointers left None = (omega arith, tt)
words_within d words pointers left (Some s) =
    each_two (Within left) (nat_lt (room_of s) (length s.words + words))
    (nat_lt word_limit (words_of d.segments + words) || nat_lt reloc_limit (pointers_of d.segments + pointers))
    faults.Full faults.Limit left (omega arith) (omega arith)

statement_within : (d : Draft) (left : ℕ) (s : Statement) → EachIs (Within left) (statement_faults d left s)
unfolding statement_faults
statement_within d left (statement.Spare frames) = tt
statement_within d left (statement.Begin mark log) = each_if (Within left) _ faults.Limit left (omega arith)
statement_within d left (statement.Fill words) = words_within d words 0 left (last d.segments)
statement_within d left (statement.Word full what) = words_within d 1 _ left (last d.segments)
statement_within d left (statement.Thread slot group handler perm target) = tt
statement_within d left (statement.Register number value) = each_if (Within left) _ faults.Place left (omega arith)

reading_within : (d : Draft) (left : ℕ) (r : Result Statement Problem) → Reads left (IsStatement left) r → EachIs (Within left) (reading_faults d left r)
reading_within d left (Ok s) h = statement_within d left s
reading_within d left (Err p) h = ((h.err p refl).place, tt)

pub body_within : (d : Draft) (most : ℕ) (b : Body) → IsBody most b → EachIs (Within b.left) (body_faults d (Some b))
body_within d most b h = each_append (Within b.left) (claim_faults d b.claim) (reading_faults d b.left b.reading) (claim_within d b.left b.claim h.claim) (reading_within d b.left b.reading h.reading)

-- 3. A label stands before its statement.

abbrev Stands : ℕ → Result Mark Problem → Type 0
Stands remaining (Ok mark) = mark.left ≡ remaining
Stands remaining (Err problem) = problem.left ≡ remaining

abbrev IsBehind : ℕ → Option Body → Type 0
IsBehind remaining None = Unit {0}
IsBehind remaining (Some b) = b.left < remaining

-- where a label stands, and that its statement is behind it
abbrev LabelFirst : Option (Result Mark Problem) → Option Body → Type 0
LabelFirst None body = Unit {0}
LabelFirst (Some label) body = (remaining : ℕ) × Stands remaining label × IsBehind remaining body

label_tokens : (a b : Token) → is_label a b ≡ true → (a ≡ tokens.Name) × (b ≡ tokens.Colon)
label_tokens tokens.Name tokens.Colon e = (refl, refl)
label_tokens _ _ e = cc

name_stands : (n : Next) → n.token ≡ tokens.Name → Stands n.left (name_of n)
name_stands n e = of n.token e
  where
    of : (t : Token) → t ≡ tokens.Name
        → Stands n.left (elim t [
          | tokens.Name ↦ if nat_le (length n.text) 31 then Ok
              (record { name = n.text; left = n.left }) else Err (at faults.Name n)
          | _ ↦ Err (wrong n)
        ])
    of tokens.Name r = either (Stands n.left) (nat_le (length n.text) 31) (Ok (record { name = n.text; left = n.left })) (Err (at faults.Name n)) (λ _. refl) (λ _. refl)
    of _ r = cc

body_behind : (remaining : ℕ) (n : Next) → n.left < remaining → IsBehind remaining (body_of n)
unfolding body_of
body_behind remaining n lt = of n.token
  where
    of : (t : Token) → IsBehind remaining (elim t [ tokens.End ↦ None | _ ↦ Some (record { left = n.left; claim = claim_of n; reading = statement_of n }) ])
    of tokens.End = tt
    of _ = lt

label_first : (bytes : List ℕ) → LabelFirst (line_of bytes).label (line_of bytes).body
unfolding line_of
label_first bytes =
    let first = next_token bytes in
    let second = next_token first.rest in
    let third = next_token second.rest in
    either (λ (line : Line). LabelFirst line.label line.body) (is_label first.token second.token)
    (record { label = Some (name_of first); body = body_of third }) (record { label = None; body = body_of first })
    (λ e.
    let t = label_tokens first.token second.token e in
    let a = (token_stands bytes).some (λ end. let x = t.0 in cc) in
    let b = (token_stands first.rest).place in
    let c = (token_stands first.rest).some (λ end. let x = t.1 in cc) in
    let d = (token_stands second.rest).place in
    (first.left, name_stands first t.0, body_behind first.left third (omega arith)))
    (λ _. tt)

-- 4. So the first fault of a line is its label's or, where that has none, its statement's.

label_at : (d : Draft) (remaining : ℕ) (label : Result Mark Problem) → Stands remaining label → EachIs (λ p. p.left ≡ remaining) (maybe_label_faults d (Some label))
label_at d remaining (Ok mark) h = each_two (λ p. p.left ≡ remaining) (is_none (last d.segments)) (is_named d mark.name) faults.Place faults.Twice mark.left h h
label_at d remaining (Err problem) h = (h, tt)

body_before : (d : Draft) (most remaining : ℕ) (body : Option Body) → IsOptionalBody most body → IsBehind remaining body → EachIs (λ p. p.left < remaining) (body_faults d body)
body_before d most remaining None h lt = tt
body_before d most remaining (Some b) h lt = each_weaker (Within b.left) (λ p. p.left < remaining) (λ p le. omega arith) (body_faults d (Some b)) (body_within d most b h)

not_before : (p q : Problem) → q.left < p.left → is_before q p ≡ false
not_before p q lt = grind (arith, nat_tests)

both_or_else : (remaining : ℕ) (p q : Option Problem) → FirstIs (λ x. x.left ≡ remaining) p → FirstIs (λ x. x.left < remaining) q → first_of_both p q ≡ option_or p q
both_or_else remaining None q a b = refl
both_or_else remaining (Some p) None a b = refl
both_or_else remaining (Some p) (Some q) a b = let n = not_before p q (omega arith) in rw n refl

line_first_of : (d e : Draft) (most : ℕ) (label : Option (Result Mark Problem)) (body : Option Body) → LabelFirst label body → IsOptionalBody most body
    → first_of (maybe_label_faults d label ++ body_faults e body) ≡ option_or (first_of (maybe_label_faults d label)) (first_of (body_faults e body))
line_first_of d e most None body h is = refl
line_first_of d e most (Some label) body h is =
    first_of_append (maybe_label_faults d (Some label)) (body_faults e body)
    ∙ both_or_else h.0 _ _ (first_is (λ x. x.left ≡ h.0) _ (label_at d h.0 label h.1)) (first_is (λ x. x.left < h.0) _ (body_before e most h.0 body is h.2))

pub line_first : (d : Draft) (bytes : List ℕ) → let line = line_of bytes in first_of (line_faults d line) ≡ option_or
    (first_of (maybe_label_faults d line.label)) (first_of (body_faults (add_maybe_label line.label d) line.body))
unfolding line_faults
line_first d bytes = line_first_of d _ (length bytes) _ _ (label_first bytes) (line_is bytes).body

-- 5. All faults of a line stand in it.

label_within : (d : Draft) (most : ℕ) (label : Option (Result Mark Problem)) → IsLabel most label → EachIs (Within most) (maybe_label_faults d label)
label_within d most None h = tt
label_within d most (Some (Ok mark)) h =
    let le = (h.ok mark refl).place in
    each_two (Within most) (is_none (last d.segments)) (is_named d mark.name) faults.Place faults.Twice mark.left le le
label_within d most (Some (Err problem)) h = ((h.err problem refl).place, tt)

optional_within : (d : Draft) (most : ℕ) (body : Option Body) → IsOptionalBody most body → EachIs (Within most) (body_faults d body)
optional_within d most None h = tt
optional_within d most (Some b) h = each_weaker (Within b.left) (Within most) (λ p le. let m = h.place in omega arith) (body_faults d (Some b)) (body_within d most b h)

pub line_within : (d : Draft) (bytes : List ℕ) → EachIs (Within (length bytes)) (line_faults d (line_of bytes))
unfolding line_faults
line_within d bytes = each_append (Within (length bytes)) _ _ (label_within d _ _ (line_is bytes).label) (optional_within _ _ _ (line_is bytes).body)
