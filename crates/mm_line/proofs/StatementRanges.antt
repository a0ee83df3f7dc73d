-- The values of a line are in their ranges, and its places lie in it.
use Rattle.std.proofs.Common.{◌≡◌, ◌≢◌, ℕ, ◌-◌, ◌^◌, ◌<◌, ◌≤◌, Bool, true, false, if◌then◌else◌, List, length, codes}
use Rattle.std.proofs.Common.{Option, Some, None, Result, Ok, Err, refl, arith}
use Rattle.std.specs.{Option.option_map, Result.result_ok, Str.bytes_eq}
use Rattle.mm_word.specs.Perm.{can_fetch}
use Rattle.mm_isa.specs.Decode.{Form, operation_named}
use Rattle.mm_line.specs.declared.fault.{Fault.Fault, Problem.Problem}
use Rattle.mm_line.specs.declared.statement.{Target.Target, Constant.Constant, Statement.Statement}
use Rattle.mm_line.specs.declared.{line.{Claim.Claim, Body.Body}, token.Token.Token, words.Directive.Directive}
use Rattle.mm_line.specs.{Tokens.{Next, next_token}, Words.{look_up, directives, perms, ip_perms}}
use Rattle.mm_line.specs.Faults.{number_of as fault_number}
use Rattle.mm_line.specs.{Reading.{◌>>=◌, wrong, name_of, word_of, number_of, integer_of, handler_of}, Operands.code_at}
use Rattle.mm_line.specs.Statements.{addend_at, target_at, integer_at, pointer_at, constant_at, content_by_directive}
use Rattle.mm_line.specs.Statements.{content_by_operation, content_of, word, spare_at, segment_at, fill_at, thread_at}
use Rattle.mm_line.specs.Statements.{register_at, front_by, end_of, statement_of, claim_by, claim_of, body_of, is_label}
use Rattle.mm_line.specs.Statements.{line_of}
use Rattle.mm_line.specs.Ranges.{IsMark, IsTarget, IsConstant, IsCode, IsContent, IsHandler, IsStatement, Reads}
use Rattle.mm_line.specs.Ranges.{IsClaim, IsBody, IsOptionalBody, IsLine}
use Rattle.mm_line.proofs.{Choices.either, TokenPlaces.{Found, found, token_stands}}
use Rattle.mm_line.proofs.TokenRanges.{reads_ok, reads_err, reads_then, problem, is_wrong, name_fault, name_reads}
use Rattle.mm_line.proofs.TokenRanges.{known_reads, number_reads, integer_reads, ip_perm_reads, handler_reads}
use Rattle.mm_line.proofs.OperandRanges.{Behind, code_reads}
use Rattle.mm_line.specs.declared.fault.Fault.TheVariants as faults
use Rattle.mm_line.specs.declared.line.Claim.TheVariants as claims
use Rattle.mm_line.specs.declared.token.Token.TheVariants as tokens
use Rattle.mm_line.specs.declared.words.Directive.TheVariants as directive

module _ (most : ℕ) where
  -- the last of what is read in a row
  last : {A B : Type 0} (P : A → Type 0) (Q : B → Type 0) (r : Result A Problem) (f : A → B) → Reads most P r → ((x : A) → P x → Q (f x)) → Reads most Q (r >>= λ x. Ok (f x))
  last P Q r f h q = reads_then most P Q r (λ x. Ok (f x)) h (λ x p. reads_ok most Q (f x) (q x p))

  addend_reads : (line : List ℕ) → length line ≤ most → Reads most (Behind most (λ n. n < 2 ^ 20)) (addend_at line)
  unfolding addend_at
  addend_reads line le = of plus.token
    where
      plus : Next
      plus = next_token line

      number : Next
      number = next_token plus.rest

      numbered : Found most number
      numbered = found most plus.rest (found most line le).rest

      Q : ℕ × List ℕ → Type 0
      Q = Behind most (λ n. n < 2 ^ 20)

      of : (t : Token) → Reads most Q (elim t [ tokens.Plus ↦ number_of 0 (2 ^ 20 - 1) number >>= λ addend. Ok (addend, number.rest) | _ ↦ Ok (0, line) ])
      of tokens.Plus = last (λ x. (0 ≤ x) × (x ≤ 2 ^ 20 - 1)) Q (number_of 0 (2 ^ 20 - 1) number)
          (λ addend. (addend, number.rest)) (number_reads most 0 (2 ^ 20 - 1) number numbered)
          (λ x h. (omega (arith, h.1), numbered.rest))
      of _ = reads_ok most Q (0, line) (omega arith, le)

  target_reads : (line : List ℕ) → length line ≤ most → Reads most (Behind most (IsTarget most)) (target_at line)
  unfolding target_at
  target_reads line le =
      let n = next_token line in
      let f = found most line le in
      let Q : Target × List ℕ → Type 0 = Behind most (IsTarget most) in
      reads_then most (IsMark most) Q (name_of n) _ (name_reads most n f) (λ mark is_mark.
      last (Behind most (λ x. x < 2 ^ 20)) Q (addend_at n.rest) _ (addend_reads n.rest f.rest) (λ addend h.
      (record { mark = is_mark; addend = h.0 }, h.1)))

  integer_at_reads : (line : List ℕ) → length line ≤ most → Reads most (Behind most (IsConstant most)) (integer_at line)
  unfolding integer_at
  integer_at_reads line le =
      let n = next_token line in
      let f = found most line le in
      last (λ x. x < 2 ^ 64) (Behind most (IsConstant most)) (integer_of n) _ (integer_reads most n f) (λ x h. (h, f.rest))

  pointer_at_reads : (line : List ℕ) → length line ≤ most → Reads most (Behind most (IsConstant most)) (pointer_at line)
  unfolding pointer_at
  pointer_at_reads line le =
      let n = next_token line in
      let f = found most line le in
      let Q : Constant × List ℕ → Type 0 = Behind most (IsConstant most) in
      reads_then most (λ _. Unit {0}) Q (word_of perms n) _ (known_reads most (λ _. Unit {0}) (look_up perms n.text) n (λ _ _. tt) f) (λ perm _.
      last (Behind most (IsTarget most)) Q (target_at n.rest) _ (target_reads n.rest f.rest) (λ target h. h))

  constant_reads : (line : List ℕ) → length line ≤ most → Reads most (Behind most (IsConstant most)) (constant_at line)
  unfolding constant_at
  constant_reads line le =
      let n = next_token line in
      let f = found most line le in
      let R : Result (Constant × List ℕ) Problem → Type 0 = Reads most (Behind most (IsConstant most)) in
      either R (bytes_eq n.text (codes "int")) (integer_at n.rest) (if bytes_eq n.text (codes "ptr") then pointer_at n.rest else Err (wrong n)) (λ _. integer_at_reads n.rest f.rest) (λ _.
      either R (bytes_eq n.text (codes "ptr")) (pointer_at n.rest) (Err (wrong n)) (λ _. pointer_at_reads n.rest f.rest) (λ _.
      reads_err most (Behind most (IsConstant most)) _ (is_wrong most n f)))

  directive_reads : (fault : Fault) → fault_number fault ≤ 4 → (d : Option Directive) (n : Next) → Found most n → Reads most (Behind most (IsContent most)) (content_by_directive fault d n)
  unfolding content_by_directive
  directive_reads fault own (Some directive.Int) n f = last (Behind most (IsConstant most)) (Behind most (IsContent most)) (integer_at n.rest) _ (integer_at_reads n.rest f.rest) (λ x h. h)
  directive_reads fault own (Some directive.Ptr) n f = last (Behind most (IsConstant most)) (Behind most (IsContent most)) (pointer_at n.rest) _ (pointer_at_reads n.rest f.rest) (λ x h. h)
  directive_reads fault own _ n f = reads_err most (Behind most (IsContent most)) _ (problem most fault n own f)

  operation_reads : (form : Option Form) (n : Next) → operation_named n.text ≡ form → Found most n → Reads most (Behind most (IsContent most)) (content_by_operation form n)
  unfolding content_by_operation
  operation_reads (Some form) n e f = last (Behind most (IsCode most)) (Behind most (IsContent most)) (code_at form n.rest) _ (code_reads most n.text form n.rest e f.rest) (λ x h. h)
  operation_reads None n e f = reads_err most (Behind most (IsContent most)) _ (name_fault most n f)

  content_reads : (fault : Fault) → fault_number fault ≤ 4 → (n : Next) → Found most n → Reads most (Behind most (IsContent most)) (content_of fault n)
  unfolding content_of
  content_reads fault own n f = of n.token
    where
      of : (t : Token) → Reads most (Behind most (IsContent most)) (elim t [
        | tokens.Name ↦ content_by_operation (operation_named n.text) n
        | tokens.Directive ↦ content_by_directive fault (look_up directives n.text) n
        | _ ↦ Err (wrong n)
      ])
      of tokens.Name = operation_reads (operation_named n.text) n refl f
      of tokens.Directive = directive_reads fault own (look_up directives n.text) n f
      of _ = reads_err most (Behind most (IsContent most)) _ (is_wrong most n f)

  word_reads : (full : Bool) (fault : Fault) → fault_number fault ≤ 4 → (n : Next) → Found most n → Reads most (Behind most (IsStatement most)) (word full (content_of fault n))
  word_reads full fault own n f = last (Behind most (IsContent most)) (Behind most (IsStatement most)) (content_of fault n) _ (content_reads fault own n f) (λ x h. h)

  spare_reads : (line : List ℕ) → length line ≤ most → Reads most (Behind most (IsStatement most)) (spare_at line)
  unfolding spare_at
  spare_reads line le =
      let n = next_token line in
      let f = found most line le in
      last (λ x. (0 ≤ x) × (x ≤ 256)) (Behind most (IsStatement most)) (number_of 0 256 n) _ (number_reads most 0 256 n f) (λ x h. (h.1, f.rest))

  fill_reads : (line : List ℕ) → length line ≤ most → Reads most (Behind most (IsStatement most)) (fill_at line)
  unfolding fill_at
  fill_reads line le =
      let n = next_token line in
      let f = found most line le in
      last (λ x. (0 ≤ x) × (x ≤ 131_072)) (Behind most (IsStatement most)) (number_of 0 131_072 n) _ (number_reads most 0 131_072 n f) (λ x h. (h.1, f.rest))

  segment_reads : (line : List ℕ) → length line ≤ most → Reads most (Behind most (IsStatement most)) (segment_at line)
  unfolding segment_at
  segment_reads line le =
      let name = next_token line in
      let f = found most line le in
      let size = next_token name.rest in
      let g = found most name.rest f.rest in
      let Q : Statement × List ℕ → Type 0 = Behind most (IsStatement most) in
      reads_then most (IsMark most) Q (name_of name) _ (name_reads most name f) (λ mark is_mark.
      last (λ x. (3 ≤ x) × (x ≤ 20)) Q (number_of 3 20 size) _ (number_reads most 3 20 size g) (λ log h. ((is_mark, h.0, h.1), g.rest)))

  thread_reads : (line : List ℕ) → length line ≤ most → Reads most (Behind most (IsStatement most)) (thread_at line)
  unfolding thread_at
  thread_reads line le =
      let a = next_token line in
      let fa = found most line le in
      let b = next_token a.rest in
      let fb = found most a.rest fa.rest in
      let c = next_token b.rest in
      let fc = found most b.rest fb.rest in
      let d = next_token c.rest in
      let fd = found most c.rest fc.rest in
      let Q : Statement × List ℕ → Type 0 = Behind most (IsStatement most) in
      let Small : ℕ → Type 0 = λ x. (0 ≤ x) × (x ≤ 15) in
      reads_then most Small Q (number_of 0 15 a) _ (number_reads most 0 15 a fa) (λ slot hs.
      reads_then most Small Q (number_of 0 15 b) _ (number_reads most 0 15 b fb) (λ group hg.
      reads_then most (IsHandler slot) Q (handler_of slot c) _ (handler_reads most slot c fc) (λ handler hh.
      reads_then most (λ perm. can_fetch perm ≡ true) Q (word_of ip_perms d) _ (ip_perm_reads most d fd) (λ perm hp.
      last (Behind most (IsTarget most)) Q (target_at d.rest) _ (target_reads d.rest fd.rest) (λ target ht.
      ((omega (arith, hs.1), omega (arith, hg.1), hh, hp, ht.0), ht.1))))))

  register_reads : (line : List ℕ) → length line ≤ most → Reads most (Behind most (IsStatement most)) (register_at line)
  unfolding register_at
  register_reads line le =
      let n = next_token line in
      let f = found most line le in
      let Q : Statement × List ℕ → Type 0 = Behind most (IsStatement most) in
      reads_then most (λ x. (0 ≤ x) × (x ≤ 15)) Q (number_of 0 15 n) _ (number_reads most 0 15 n f) (λ number hn.
      last (Behind most (IsConstant most)) Q (constant_at n.rest) _ (constant_reads n.rest f.rest) (λ value hv.
      ((omega (arith, hn.1), hv.0), hv.1)))

  front_reads : (d : Option Directive) (n : Next) → Found most n → Reads most (Behind most (IsStatement most)) (front_by d n)
  unfolding front_by
  front_reads (Some directive.Spare) n f = spare_reads n.rest f.rest
  front_reads (Some directive.Segment) n f = segment_reads n.rest f.rest
  front_reads (Some directive.Fill) n f = fill_reads n.rest f.rest
  front_reads (Some directive.Empty) n f = word_reads false faults.Token (omega arith) (next_token n.rest) (found most n.rest f.rest)
  front_reads (Some directive.Thread) n f = thread_reads n.rest f.rest
  front_reads (Some directive.Reg) n f = register_reads n.rest f.rest
  front_reads _ n f = word_reads true faults.Name (omega arith) n f

  end_reads : (n : Next) → Found most n → Reads most (λ _. Unit {0}) (end_of n)
  end_reads n f = of n.token
    where
      of : (t : Token) → Reads most (λ _. Unit {0}) (elim t [ tokens.End ↦ Ok (tt {0}) | _ ↦ Err (wrong n) ])
      of tokens.End = reads_ok most (λ _. Unit {0}) (tt {0}) (tt {0})
      of _ = reads_err most (λ _. Unit {0}) _ (is_wrong most n f)

  statement_reads : (n : Next) → Found most n → Reads most (IsStatement most) (statement_of n)
  unfolding statement_of
  statement_reads n f =
      reads_then most (Behind most (IsStatement most)) (IsStatement most) (front_by (look_up directives n.text) n) _ (front_reads (look_up directives n.text) n f) (λ front h.
      last (λ _. Unit {0}) (IsStatement most) (end_of (next_token front.1)) _ (end_reads (next_token front.1) (found most front.1 h.1)) (λ _ _. h.0))

  claim_read : {A : Type 0} (P : A → Type 0) (make : A → Claim) (r : Result A Problem) → Reads most P r → ((x : A) → P x → IsClaim most (Some (make x))) → IsClaim most (option_map make (result_ok r))
  claim_read P make (Ok x) h k = k x (h.ok x refl)
  claim_read P make (Err p) h k = tt

  claim_is : (d : Option Directive) (first second : Next) → Found most first → Found most second → IsClaim most (claim_by d first second)
  claim_is (Some directive.Spare) first second f s = f.place
  claim_is (Some directive.Segment) first second f s = claim_read (IsMark most) claims.Segment (name_of second) (name_reads most second s) (λ _ h. h)
  claim_is (Some directive.Thread) first second f s = claim_read (λ x. (0 ≤ x) × (x ≤ 15))
      (λ slot. claims.Slot slot second.left) (number_of 0 15 second) (number_reads most 0 15 second s)
      (λ x h. (omega (arith, h.1), s.place))
  claim_is (Some directive.Reg) first second f s = claim_read (λ x. (0 ≤ x) × (x ≤ 15))
      (λ number. claims.Register number second.left) (number_of 0 15 second) (number_reads most 0 15 second s)
      (λ x h. (omega (arith, h.1), s.place))
  claim_is _ first second f s = tt

  claim_of_is : (line : List ℕ) → let n = next_token line in Found most n → IsClaim most (claim_of n)
  unfolding claim_of
  claim_of_is line f = let n = next_token line in claim_is (look_up directives n.text) n (next_token n.rest) f (found most n.rest f.rest)

-- what a line's next token is, at its own place
here : (line : List ℕ) → (next_token line).token ≢ tokens.End → Found (next_token line).left (next_token line)
here line other =
    let f = found (length line) line (omega arith) in
    record { place = omega arith; rest = let s = (token_stands line).some other in omega arith; name = f.name }

body_is : (most : ℕ) (line : List ℕ) → length line ≤ most → IsOptionalBody most (body_of (next_token line))
unfolding body_of
body_is most line le = of n.token refl
  where
    n : Next
    n = next_token line

    body : Body
    body = record { left = n.left; claim = claim_of n; reading = statement_of n }

    whole : n.token ≢ tokens.End → IsBody most body
    whole other = let f = here line other in record { place = (found most line le).place; claim = claim_of_is n.left line f; reading = statement_reads n.left n f }

    of : (t : Token) → n.token ≡ t → IsOptionalBody most (elim t [ tokens.End ↦ None | _ ↦ Some body ])
    of tokens.End e = tt
    of _ e = whole (λ end. cc)

pub line_is : (bytes : List ℕ) → IsLine (length bytes) (line_of bytes)
unfolding line_of
line_is bytes =
    let most = length bytes in
    let first = next_token bytes in
    let second = next_token first.rest in
    let f = found most bytes (omega arith) in
    let s = found most first.rest f.rest in
    either (IsLine most) (is_label first.token second.token) (record { label = Some (name_of first); body = body_of (next_token second.rest) }) (record { label = None; body = body_of first })
    (λ _. record { label = name_reads most first f; body = body_is most second.rest s.rest })
    (λ _. record { label = tt; body = body_is most bytes (omega arith) })
