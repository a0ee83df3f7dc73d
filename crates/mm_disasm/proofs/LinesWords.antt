-- What the lines of words say.
use Rattle.std.proofs.Common.{◌≡◌, ℕ, ◌^◌, ◌<◌, Bool, true, false, List, [], ◌∷◌, ◌++◌, codes, Option, Some, None, Ok}
use Rattle.std.proofs.{Common.{ℤ, pos, negsuc, refl, sym, ap, ◌∙◌}, lemmas.List.append-nil}
use Rattle.std.specs.List.{AllByRecursion}
use Rattle.mm_isa.specs.declared.instr.{AluOp.{AluOp, TheVariants.Add}, Instr.{Instr, TheVariants.{Halt, Alu}}}
use Rattle.mm_isa.specs.declared.operand.Operand.{Operand, TheVariants.{Rd, Imm, Distance}}
use Rattle.mm_isa.specs.Table.{operation_of, kinds_of, fields_of, packed, IsInRange, IsInstr}
use Rattle.mm_isa.specs.Decode.{Form, form_of, instr_of, operation_named}
use Rattle.mm_isa.proofs.{Forms.operation_named-name, Spelling.instr_of-spelled}
use Rattle.mm_line.specs.declared.fault.Fault.{Fault}
use Rattle.mm_line.specs.declared.statement.{Code.Code, Constant.TheVariants.{Integer, Pointer}, Content.Content}
use Rattle.mm_line.specs.{declared.token.Token.{Token, TheVariants.{Name, Directive}}, Tokens.{Next, next_token}}
use Rattle.mm_line.specs.{Forms.is_name, TokenPlaces.written, Words.{look_up, directives}}
use Rattle.mm_line.specs.Operands.{operands_at, bare, code_at}
use Rattle.mm_line.specs.Statements.{content_by_directive, content_by_operation, content_of, word, front_by, is_label}
use Rattle.mm_line.proofs.Written.{name_read, directive_read}
use Rattle.mm_object.specs.{declared.{item.Item.Item, target.Reloc.Reloc}, Lookups.reloc_at, Objects.{Object, IsObject}}
use Rattle.mm_disasm.specs.Canonical.{long_hex, operand_text, operands_text, operation_text, pointer_text, bits_text}
use Rattle.mm_disasm.specs.Canonical.{integer_text, word_by, mark_text}
use Rattle.mm_disasm.proofs.Saying.{Says, SaysWord, IsBits, IsContentOf, word_of}
use Rattle.mm_disasm.proofs.LinesTokens.{name_byte, begins, blank}
use Rattle.mm_disasm.proofs.LinesOperands.{signed_token, operand_token, operand_read, further, commas_stop}
use Rattle.mm_disasm.proofs.{LinesOperands.{operands_shape, operands_read}, LinesNames.{IsKnown, relocated}}
use Rattle.mm_disasm.proofs.LinesRead.{opens, says, directive_says, nothing_left, target_in, same_target}
use Rattle.mm_disasm.proofs.LinesThreads.{pointer_read, integer_read}
use Rattle.mm_line.specs.declared.fault.Fault.TheVariants as faults
use Rattle.mm_line.specs.declared.statement.Content.TheVariants as content
use Rattle.mm_line.specs.declared.statement.Statement.TheVariants as statement

-- 1. What the text of a word begins with, and what it is read as.
pub record IsContent (line : List ℕ) (P : Content → Type 0) : Type 0 where
  token : Token
  text : List ℕ
  rest : List ℕ
  what : Content
  first : next_token line ≡ written token text rest
  opening : opens token ≡ true
  unlabelled : is_label token (next_token rest).token ≡ false
  -- its directive, if it has one, is none of a word in an empty cell or of another statement
  full : front_by (look_up directives text) (written token text rest) ≡ word true (content_of faults.Name (written token text rest))
  read : (fault : Fault) → content_of fault (written token text rest) ≡ Ok (what, [])
  means : P what

-- 2. Pointers and integers.

pointer_content : (o : Object) (r : Reloc) (bits : ℕ) → IsKnown o r.target → IsContent (word_by o (Some r) bits) (IsContentOf o (Some r) bits)
unfolding front_by content_of content_by_directive
pointer_content o r bits h =
    let rest : List ℕ = 32 ∷ pointer_text o r.perm r.target in
    record {
      token = Directive;
      text = codes ".ptr";
      rest = rest;
      what = content.Constant (Pointer r.perm (target_in o r.target));
      first = directive_read (codes "ptr") rest refl refl;
      opening = refl;
      unlabelled = refl;
      full = refl;
      read = λ fault. rw (pointer_read o r.perm r.target h) refl;
      means = (target_in o r.target, refl, same_target o r.target);
    }

int_content : (bits : ℕ) → bits < 2 ^ 64 → IsContent (codes ".int " ++ long_hex bits) (IsBits bits)
unfolding front_by content_of content_by_directive
int_content bits h =
    let rest : List ℕ = 32 ∷ long_hex bits in
    record {
      token = Directive;
      text = codes ".int";
      rest = rest;
      what = content.Constant (Integer bits);
      first = directive_read (codes "int") rest refl refl;
      opening = refl;
      unlabelled = refl;
      full = refl;
      read = λ fault. rw (integer_read bits h) refl;
      means = refl;
    }

-- 3. Operations.

integer_named : (op : AluOp) (rd ra rb : ℕ) → is_name (operation_of (Alu op rd ra rb)).name ≡ true
integer_named Add rd ra rb = refl
integer_named _ rd ra rb = refl

-- an operation's name is one
pub named : (i : Instr) → is_name (operation_of i).name ≡ true
named (Alu op rd ra rb) = integer_named op rd ra rb
named Halt = refl
named _ = refl

integer_no_directive : (op : AluOp) (rd ra rb : ℕ) → look_up directives (operation_of (Alu op rd ra rb)).name ≡ None
integer_no_directive Add rd ra rb = refl
integer_no_directive _ rd ra rb = refl

-- and no directive's
no_directive : (i : Instr) → look_up directives (operation_of i).name ≡ None
no_directive (Alu op rd ra rb) = integer_no_directive op rd ra rb
no_directive Halt = refl
no_directive _ = refl

signed_no_colon : (z : ℤ) → is_label Name (signed_token z) ≡ false
signed_no_colon (pos n) = refl
signed_no_colon (negsuc n) = refl

-- no operand is a colon
no_colon : (x : Operand) → is_label Name (operand_token x) ≡ false
no_colon (Imm n) = signed_no_colon n
no_colon (Distance n) = signed_no_colon n
no_colon (Rd r) = refl
no_colon _ = refl

unlabelled : (xs : List Operand) → AllByRecursion IsInRange xs → is_label Name (next_token (operands_text xs ++ [])).token ≡ false
unlabelled [] h = rw nothing_left refl
unlabelled (x ∷ xs) h =
    let token = ap next_token (operands_shape x xs []) ∙ blank (operand_text x ++ further xs []) ∙ operand_read x (further xs []) h.0 (commas_stop xs [] refl) in
    ap (λ (n : Next). is_label Name n.token) token ∙ no_colon x

name_ends : (xs : List Operand) → begins name_byte (operands_text xs) ≡ false
name_ends [] = refl
name_ends (x ∷ xs) = refl

abbrev code_in : Instr → Code
code_in i = record { fields = fields_of i; goal = None }

code_read : (i : Instr) → IsInstr i → code_at (form_of i) (operands_text (operation_of i).operands) ≡ Ok (code_in i, [])
unfolding code_at
code_read i h =
    let operands : List Operand = (operation_of i).operands in
    ap (operands_at (kinds_of i) (bare (form_of i))) (sym (append-nil (operands_text operands))) ∙ operands_read operands (bare (form_of i)) [] h.operands refl

operation_read : (i : Instr) (form : Option Form) (n : Next) → form ≡ Some (form_of i) → code_at (form_of i) n.rest ≡ Ok (code_in i, [])
    → content_by_operation form n ≡ Ok (content.Code (code_in i), [])
unfolding content_by_operation
operation_read i form n e f = rw (e, f) refl

operation_content : (i : Instr) (bits : ℕ) → IsInstr i → packed (fields_of i) ≡ bits → IsContent (operation_text (operation_of i)) (IsBits bits)
unfolding operation_text front_by content_of
operation_content i bits h e =
    let name : List ℕ = (operation_of i).name in
    let rest : List ℕ = operands_text (operation_of i).operands in
    record {
      token = Name;
      text = name;
      rest = rest;
      what = content.Code (code_in i);
      first = name_read name rest (named i) (name_ends (operation_of i).operands);
      opening = refl;
      unlabelled = ap (λ t. is_label Name (next_token t).token) (sym (append-nil rest)) ∙ unlabelled (operation_of i).operands h.operands;
      full = rw (no_directive i) refl;
      read = λ fault. operation_read i (operation_named name) (written Name name rest) (operation_named-name i) (code_read i h);
      means = (refl, e);
    }

-- 4. Words.

bits_content : (bits : ℕ) (i : Option Instr) → bits < 2 ^ 64 → instr_of bits ≡ i → IsContent (bits_text i bits) (IsBits bits)
bits_content bits None h e = int_content bits h
bits_content bits (Some i) h e = let spelled = instr_of-spelled bits i e in operation_content i bits spelled.0 spelled.1

content_by : (o : Object) (r : Option Reloc) (bits : ℕ) → ((x : Reloc) → r ≡ Some x → IsKnown o x.target) → bits < 2 ^ 64 → IsContent (word_by o r bits) (IsContentOf o r bits)
unfolding integer_text
content_by o (Some r) bits known h = pointer_content o r bits (known r refl)
content_by o None bits known h = bits_content bits (instr_of bits) h refl

marked : (full : Bool) (line : List ℕ) (P : Content → Type 0) → IsContent line P → Says (mark_text full ++ line) (λ s. (x : Content) × (s ≡ statement.Word full x) × P x)
unfolding front_by
marked true line P c =
    says line c.token c.text c.rest (statement.Word true c.what) (λ s. (x : Content) × (s ≡ statement.Word true x) × P x) c.first c.opening c.unlabelled
    (c.full ∙ ap (word true) (c.read faults.Name)) (c.what, refl, c.means)
marked false line P c =
    directive_says (codes "empty") line (statement.Word false c.what) (λ s. (x : Content) × (s ≡ statement.Word false x) × P x) refl
    (ap (λ n. word false (content_of faults.Token n)) (blank line ∙ c.first) ∙ ap (word false) (c.read faults.Token)) (c.what, refl, c.means)

pub word_says : (o : Object) (segment k : ℕ) (item : Item) → IsObject o → item.bits < 2 ^ 64 → Says (word_of o segment k item) (SaysWord o segment k item)
word_says o segment k item h small =
    marked item.full (word_by o (reloc_at o segment k) item.bits) (IsContentOf o (reloc_at o segment k) item.bits)
    (content_by o (reloc_at o segment k) item.bits (λ r e. relocated o segment k r h e) small)
