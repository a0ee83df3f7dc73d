-- A statement that is read claims what it names.
use Rattle.std.proofs.Common.{◌≡◌, ◌≢◌, ℕ, Bool, true, false, List, Option, Some, None, Result, Ok, Err, refl, ap}
use Rattle.std.{proofs.Common.subst, specs.{Option.option_map, Result.result_ok}}
use Rattle.mm_line.specs.declared.fault.Problem.{Problem}
use Rattle.mm_line.specs.declared.statement.Content.{Content}
use Rattle.mm_line.specs.declared.statement.Statement.{Statement}
use Rattle.mm_line.specs.declared.statement.Statement.TheVariants.{Spare, Begin, Fill, Word, Thread, Register}
use Rattle.mm_line.specs.declared.{line.{Claim.Claim, Body.Body, Line.Line}, token.Token.Token}
use Rattle.mm_line.specs.{declared.words.Directive.Directive, Tokens.{Next, next_token}}
use Rattle.mm_line.specs.Words.{look_up, directives, ip_perms}
use Rattle.mm_line.specs.Reading.{◌>>=◌, name_of, word_of, number_of, handler_of}
use Rattle.mm_line.specs.Statements.{target_at, constant_at, content_of, word, spare_at, segment_at, fill_at, thread_at}
use Rattle.mm_line.specs.Statements.{register_at, front_by, end_of, statement_of, claim_by, claim_of, body_of, is_label}
use Rattle.mm_line.{specs.{Statements.line_of, Ranges.{Names, NamesItsClaim}}, proofs.Choices.either}
use Rattle.mm_line.specs.declared.fault.Fault.TheVariants as faults
use Rattle.mm_line.specs.declared.line.Claim.TheVariants as claims
use Rattle.mm_line.specs.declared.token.Token.TheVariants as tokens
use Rattle.mm_line.specs.declared.words.Directive.TheVariants as directive

-- what is read, if anything is, has this property
abbrev Has : {A : Type 0} → (A → Type 0) → Result A Problem → Type 0
Has P r = (x : _) → r ≡ Ok x → P x

err_no_ok : {A B : Type 0} (x : A) (y : B) → let left : Result A B = Err y in let right : Result A B = Ok x in left ≢ right
err_no_ok x y e = cc

pub ok_same : {A B : Type 0} (x y : A) → let left : Result A B = Ok x in let right : Result A B = Ok y in left ≡ right → x ≡ y
ok_same x y e = cc

has_ok : {A : Type 0} (P : A → Type 0) (x : A) → P x → Has P (Ok x)
has_ok P x h y e = subst P (ok_same x y e) h

-- and where it is read after something else
has_then : {A B : Type 0} (Q : B → Type 0) (r : Result A Problem) (f : A → Result B Problem) → ((x : A) → r ≡ Ok x → Has Q (f x)) → Has Q (r >>= f)
has_then Q (Ok x) f h = h x refl
has_then Q (Err p) f h = λ y e. absurd (err_no_ok y p e)

claimed : {A : Type 0} (make : A → Claim) (r : Result A Problem) (x : A) → r ≡ Ok x → option_map make (result_ok r) ≡ Some (make x)
claimed make r x e = ap (λ s. option_map make (result_ok s)) e

module _ (n : Next) where
  -- the statement claims this
  abbrev Claims : Option Claim → Statement × List ℕ → Type 0
  Claims claim x = Names x.0 n.left claim

  word_claims : (full : Bool) (content : Result (Content × List ℕ) Problem) → Has (Claims None) (word full content)
  word_claims full content = has_then (Claims None) content _ (λ x _. has_ok (Claims None) (Word full x.0, x.1) refl)

  spare_claims : Has (Claims (Some (claims.Spare n.left))) (spare_at n.rest)
  unfolding spare_at
  spare_claims =
      let Q = Claims (Some (claims.Spare n.left)) in
      has_then Q (number_of 0 256 (next_token n.rest)) _ (λ frames _. has_ok Q (Spare frames, (next_token n.rest).rest) refl)

  fill_claims : Has (Claims None) (fill_at n.rest)
  unfolding fill_at
  fill_claims = has_then (Claims None) (number_of 0 131_072 (next_token n.rest)) _ (λ words _. has_ok (Claims None) (Fill words, (next_token n.rest).rest) refl)

  segment_claims : let second = next_token n.rest in Has (Claims (claim_by (Some directive.Segment) n second)) (segment_at n.rest)
  unfolding segment_at
  segment_claims =
      let second = next_token n.rest in
      let size = next_token second.rest in
      let Q = Claims (claim_by (Some directive.Segment) n second) in
      has_then Q (name_of second) _ (λ mark named.
      has_then Q (number_of 3 20 size) _ (λ log _.
      has_ok Q (Begin mark log, size.rest) (claimed claims.Segment (name_of second) mark named)))

  thread_claims : let second = next_token n.rest in Has (Claims (claim_by (Some directive.Thread) n second)) (thread_at n.rest)
  unfolding thread_at
  thread_claims =
      let a = next_token n.rest in
      let b = next_token a.rest in
      let c = next_token b.rest in
      let d = next_token c.rest in
      let Q = Claims (claim_by (Some directive.Thread) n a) in
      has_then Q (number_of 0 15 a) _ (λ slot numbered.
      has_then Q (number_of 0 15 b) _ (λ group _.
      has_then Q (handler_of slot c) _ (λ handler _.
      has_then Q (word_of ip_perms d) _ (λ perm _.
      has_then Q (target_at d.rest) _ (λ target _.
      has_ok Q (Thread slot group handler perm target.0, target.1) (a.left, claimed (λ s. claims.Slot s a.left) (number_of 0 15 a) slot numbered))))))

  register_claims : let second = next_token n.rest in Has (Claims (claim_by (Some directive.Reg) n second)) (register_at n.rest)
  unfolding register_at
  register_claims =
      let a = next_token n.rest in
      let Q = Claims (claim_by (Some directive.Reg) n a) in
      has_then Q (number_of 0 15 a) _ (λ number numbered.
      has_then Q (constant_at a.rest) _ (λ value _.
      has_ok Q (Register number value.0, value.1) (a.left, claimed (λ r. claims.Register r a.left) (number_of 0 15 a) number numbered)))

  front_claims : (d : Option Directive) → Has (Claims (claim_by d n (next_token n.rest))) (front_by d n)
  unfolding front_by
  front_claims (Some directive.Spare) = spare_claims
  front_claims (Some directive.Segment) = segment_claims
  front_claims (Some directive.Fill) = fill_claims
  front_claims (Some directive.Empty) = word_claims false (content_of faults.Token (next_token n.rest))
  front_claims (Some directive.Thread) = thread_claims
  front_claims (Some directive.Reg) = register_claims
  front_claims _ = word_claims true (content_of faults.Name n)

  statement_claims : Has (λ s. Names s n.left (claim_of n)) (statement_of n)
  unfolding statement_of claim_of
  statement_claims =
      let d = look_up directives n.text in
      let Q : Statement → Type 0 = λ s. Names s n.left (claim_by d n (next_token n.rest)) in
      has_then Q (front_by d n) _ (λ front read.
      has_then Q (end_of (next_token front.1)) _ (λ _ _. has_ok Q front.0 (front_claims d front read)))

  body_claims : NamesItsClaim (body_of n)
  unfolding body_of
  body_claims = of n.token
    where
      body : Body
      body = record { left = n.left; claim = claim_of n; reading = statement_of n }

      of : (t : Token) → NamesItsClaim (elim t [ tokens.End ↦ None | _ ↦ Some body ])
      of tokens.End = tt
      of _ = statement_claims

pub line_claims : (bytes : List ℕ) → NamesItsClaim (line_of bytes).body
unfolding line_of
line_claims bytes =
    let first = next_token bytes in
    let second = next_token first.rest in
    either (λ (line : Line). NamesItsClaim line.body) (is_label first.token second.token)
    (record { label = Some (name_of first); body = body_of (next_token second.rest) })
    (record { label = None; body = body_of first })
    (λ _. body_claims (next_token second.rest))
    (λ _. body_claims first)
