-- No line of a canonical text has a newline in it.
use Rattle.std.proofs.Common.{◌≡◌, ℕ, suc, ◌+◌, ◌^◌, ◌<◌, ◌≤◌, Bool, true, false, not, ◌==◌, List, [], ◌∷◌, ◌++◌}
use Rattle.std.proofs.Common.{length, codes, Option, Some, None, ℤ, pos, negsuc, FitsSigned, refl, arith}
use Rattle.std.proofs.lemmas.Bool.{and_parts, Decides.nat_tests}
use Rattle.std.specs.{List.{list_all, flat_map, AllByRecursion}, Char.is_digit, Fmt.{decimal, digits, signed_decimal}}
use Rattle.std.specs.Int.{w32}
use Rattle.mm_word.specs.declared.perm.Perm.{Perm}
use Rattle.mm_isa.specs.declared.instr.{How.TheVariants.{Retry, Skip, Kill}, Instr.Instr}
use Rattle.mm_isa.specs.declared.operand.Operand.{Operand}
use Rattle.mm_isa.specs.declared.operand.Operand.TheVariants.{Rd, EvtRd, Ra, Rb, Imm, Distance, RegisterNumber}
use Rattle.mm_isa.{specs.{Table.{operation_of, IsInRange, IsInstr}, Decode.instr_of}, proofs.Spelling.instr_of-spelled}
use Rattle.mm_model.specs.Digits.{hex}
use Rattle.mm_line.{specs.Forms.is_name, proofs.{Choices.either, Longest.other}}
use Rattle.mm_object.specs.declared.{item.Item.Item, target.{Target.Target, Reloc.Reloc}}
use Rattle.mm_object.specs.{declared.thread.{Value.Value, Thread.Thread}, Lookups.{name_of_target, reloc_at}}
use Rattle.mm_object.specs.Objects.{Segment, Object, IsSegment, IsObject, IsNumber, is_handler, is_value, is_thread}
use Rattle.mm_disasm.specs.Canonical.{perm_text, short_hex, operand_text, further_text, operands_text, operation_text}
use Rattle.mm_disasm.specs.Canonical.{pointer_text, bits_text, integer_text, word_by, mark_text, handler_text}
use Rattle.mm_disasm.specs.Canonical.{value_text, is_zero}
use Rattle.mm_disasm.proofs.Saying.{spare_of, begin_of, word_of, thread_of, register_of, word_lines, segment_lines}
use Rattle.mm_disasm.proofs.Saying.{register_lines, thread_lines, object_lines}
use Rattle.mm_disasm.proofs.LinesTokens.{all_append, name_byte, begins, all_of, are_decimal, are_hexadecimal, are_short}
use Rattle.mm_disasm.proofs.LinesNames.{is_word, IsKnown, relocated}
use Rattle.mm_disasm.proofs.LinesThreads.{perm_named, IsWritten, is_written, thread_values, IsWrittenValue}
use Rattle.mm_disasm.proofs.{LinesThreads.is_written_value, LinesWords.named}
use Rattle.mm_word.specs.declared.word.Pre.TheVariants as pre
use Rattle.mm_word.specs.declared.word.Post.TheVariants as post
use Rattle.mm_isa.specs.declared.operand.Operand.TheVariants as operand
use Rattle.mm_object.specs.declared.thread.Value.TheVariants as value

abbrev pub is_plain_byte : ℕ → Bool
is_plain_byte b = not (b == 10)

-- no byte is a newline
abbrev pub is_plain : List ℕ → Bool
is_plain bytes = list_all is_plain_byte bytes

-- 1. Words and numbers.

join : (a b : List ℕ) → is_plain a ≡ true → is_plain b ≡ true → is_plain (a ++ b) ≡ true
join a b h k = all_append is_plain_byte a b h k

-- bytes of a kind that a newline is not of
of_kind : (p : ℕ → Bool) (bytes : List ℕ) → p 10 ≡ false → list_all p bytes ≡ true → is_plain bytes ≡ true
of_kind p [] none h = refl
of_kind p (b ∷ bytes) none h =
    let two = and_parts (p b) (list_all p bytes) h in
    rw (other p b 10 two.0 none) (of_kind p bytes none two.1)

of_digits : (radix : ℕ) (ds : List ℕ) → is_digit 10 radix ≡ false → all_of (λ b. is_digit b radix) ds ≡ true → is_plain ds ≡ true
of_digits radix ds none h =
    let digit : ℕ → Bool = λ b. is_digit b radix in
    of_kind digit ds none (and_parts (begins digit ds) (list_all digit ds) h).1

plain_decimal : (n : ℕ) → n < 2 ^ 64 → is_plain (decimal n) ≡ true
plain_decimal n h = of_digits 10 (decimal n) refl (are_decimal n h)

plain_hex : (k n : ℕ) → 0 < k → is_plain (hex k n) ≡ true
plain_hex k n some = of_digits 16 (hex k n) refl (are_hexadecimal k n some)

plain_name : (name : List ℕ) → is_name name ≡ true → is_plain name ≡ true
plain_name [] h = cc
plain_name (b ∷ bs) h = of_kind name_byte (b ∷ bs) refl (and_parts _ (list_all name_byte (b ∷ bs)) h).1

plain_signed : (z : ℤ) → FitsSigned w32 z → is_plain (signed_decimal z) ≡ true
plain_signed (pos n) h = plain_decimal n (omega arith)
plain_signed (negsuc n) h = plain_decimal (suc n) (omega arith)

-- 2. Operations.

plain_operand : (x : Operand) → IsInRange x → is_plain (operand_text x) ≡ true
plain_operand (Rd r) h = plain_decimal r (omega arith)
plain_operand (EvtRd r) h = plain_decimal r (omega arith)
plain_operand (Ra r) h = plain_decimal r (omega arith)
plain_operand (Rb r) h = plain_decimal r (omega arith)
plain_operand (Imm n) h = plain_signed n h
plain_operand (Distance n) h = plain_signed n h
plain_operand (RegisterNumber r) h = plain_decimal r (omega arith)
plain_operand (operand.Pre pre.Any) h = refl
plain_operand (operand.Pre pre.Full) h = refl
plain_operand (operand.Pre pre.Empty) h = refl
plain_operand (operand.Post post.Keep) h = refl
plain_operand (operand.Post post.Full) h = refl
plain_operand (operand.Post post.Empty) h = refl
plain_operand (operand.How Retry) h = refl
plain_operand (operand.How Skip) h = refl
plain_operand (operand.How Kill) h = refl

plain_further : (xs : List Operand) → AllByRecursion IsInRange xs → is_plain (flat_map further_text xs) ≡ true
plain_further [] h = refl
plain_further (x ∷ xs) h = join (further_text x) (flat_map further_text xs) (plain_operand x h.0) (plain_further xs h.1)

plain_operands : (xs : List Operand) → AllByRecursion IsInRange xs → is_plain (operands_text xs) ≡ true
plain_operands [] h = refl
plain_operands (x ∷ xs) h = join (operand_text x) (flat_map further_text xs) (plain_operand x h.0) (plain_further xs h.1)

plain_operation : (i : Instr) → IsInstr i → is_plain (operation_text (operation_of i)) ≡ true
unfolding operation_text
plain_operation i h =
    let name : List ℕ = (operation_of i).name in
    let operands : List Operand = (operation_of i).operands in
    join name (operands_text operands) (plain_name name (named i)) (plain_operands operands h.operands)

plain_bits : (bits : ℕ) (i : Option Instr) → instr_of bits ≡ i → is_plain (bits_text i bits) ≡ true
plain_bits bits None e = plain_hex 16 bits (omega arith)
plain_bits bits (Some i) e = plain_operation i (instr_of-spelled bits i e).0

-- 3. Words.

plain_pointer : (o : Object) (p : Perm) (t : Target) → IsKnown o t → is_plain (pointer_text o p t) ≡ true
unfolding pointer_text
plain_pointer o p t h =
    let name : List ℕ = name_of_target o t in
    let one = join (perm_text p) (codes " ") (plain_name (perm_text p) (perm_named p)) refl in
    let two = join (perm_text p ++ codes " ") name one (plain_name name h.name.form) in
    let three = join (perm_text p ++ codes " " ++ name) (codes "+") two refl in
    join (perm_text p ++ codes " " ++ name ++ codes "+") (short_hex t.addend) three (of_digits 16 (digits 16 false t.addend) refl (are_short t.addend h.addend))

plain_word_by : (o : Object) (r : Option Reloc) (bits : ℕ) → ((x : Reloc) → r ≡ Some x → IsKnown o x.target) → is_plain (word_by o r bits) ≡ true
unfolding integer_text
plain_word_by o (Some r) bits known = plain_pointer o r.perm r.target (known r refl)
plain_word_by o None bits known = plain_bits bits (instr_of bits) refl

plain_mark : (full : Bool) → is_plain (mark_text full) ≡ true
plain_mark true = refl
plain_mark false = refl

plain_word : (o : Object) (segment k : ℕ) (item : Item) → IsObject o → is_plain (word_of o segment k item) ≡ true
plain_word o segment k item h =
    join (mark_text item.full) (word_by o (reloc_at o segment k) item.bits) (plain_mark item.full)
    (plain_word_by o (reloc_at o segment k) item.bits (λ r e. relocated o segment k r h e))

plain_begin : (s : Segment) → IsSegment s → is_plain (begin_of s) ≡ true
plain_begin s h =
    let one = join s.name (codes " ") (plain_name s.name (is_word s.name h.name).form) refl in
    join (codes ".segment " ++ s.name ++ codes " ") (decimal s.log) one (plain_decimal s.log (omega (arith, h.greatest)))

-- 4. Threads.

plain_handler : (slot : ℕ) (handler : Option ℕ) → is_handler slot handler ≡ true → is_plain (handler_text handler) ≡ true
plain_handler slot None h = refl
plain_handler slot (Some other) h = plain_decimal other (grind (arith, nat_tests, h))

plain_thread : (o : Object) (t : Thread) → IsWritten o t → is_plain (thread_of o t) ≡ true
plain_thread o t h =
    let slot : List ℕ = codes ".thread " ++ decimal t.slot ++ codes " " in
    let group : List ℕ = slot ++ decimal t.group ++ codes " " in
    let handler : List ℕ = group ++ handler_text t.handler ++ codes " " in
    let one : is_plain slot ≡ true = join (decimal t.slot) (codes " ") (plain_decimal t.slot (omega (arith, h.slot))) refl in
    let two : is_plain group ≡ true = join (slot ++ decimal t.group) (codes " ") (join slot (decimal t.group) one (plain_decimal t.group (omega (arith, h.group)))) refl in
    let three : is_plain handler ≡ true =
    join (group ++ handler_text t.handler) (codes " ") (join group (handler_text t.handler) two (plain_handler t.slot t.handler h.handler)) refl in
    join handler (pointer_text o t.perm t.target) three (plain_pointer o t.perm t.target h.target)

plain_value : (o : Object) (v : Value) → IsWrittenValue o v → is_plain (value_text o v) ≡ true
plain_value o (value.Int n) h = plain_hex 16 n (omega arith)
plain_value o (value.Ptr p t) h = plain_pointer o p t h

plain_register : (o : Object) (k : ℕ) (v : Value) → k < 16 → IsWrittenValue o v → is_plain (register_of o k v) ≡ true
plain_register o k v h w =
    let one = join (decimal k) (codes " ") (plain_decimal k (omega arith)) refl in
    join (codes ".reg " ++ decimal k ++ codes " ") (value_text o v) one (plain_value o v w)

-- 5. All lines.

abbrev pub are_plain : List (List ℕ) → Bool
are_plain lines = list_all is_plain lines

plain_words : (o : Object) (segment k : ℕ) (items : List Item) → IsObject o → are_plain (word_lines o segment k items) ≡ true
plain_words o segment k [] h = refl
plain_words o segment k (item ∷ items) h = rw (plain_word o segment k item h) (plain_words o segment (k + 1) items h)

plain_segments : (o : Object) (number : ℕ) (segments : List Segment) → IsObject o → AllByRecursion IsSegment segments → are_plain (segment_lines o number segments) ≡ true
plain_segments o number [] h k = refl
plain_segments o number (s ∷ segments) h k =
    let words = plain_words o number 0 s.items h in
    let behind = plain_segments o (number + 1) segments h k.1 in
    rw (plain_begin s k.0) (all_append is_plain (word_lines o number 0 s.items) (segment_lines o (number + 1) segments) words behind)

plain_registers : (o : Object) (k : ℕ) (values : List Value) → IsObject o → k + length values ≤ 16 → list_all (is_value o.segments (length o.externals)) values ≡ true
    → AllByRecursion IsNumber values → are_plain (register_lines o k values) ≡ true
plain_registers o k [] h few e numbers = refl
plain_registers o k (v ∷ values) h few e numbers =
    let two = and_parts (is_value o.segments (length o.externals) v) (list_all (is_value o.segments (length o.externals)) values) e in
    let rest : List (List ℕ) = register_lines o (k + 1) values in
    let behind : are_plain rest ≡ true = plain_registers o (k + 1) values h (omega arith) two.1 numbers.1 in
    either (λ lines. are_plain lines ≡ true) (is_zero v) rest (register_of o k v ∷ rest) (λ _. behind)
    (λ _. rw (plain_register o k v (omega arith) (is_written_value o v h two.0 numbers.0)) behind)

plain_threads : (o : Object) (threads : List Thread) → IsObject o → list_all (is_thread o.segments (length o.externals)) threads ≡ true
    → AllByRecursion (λ (t : Thread). length t.regs ≡ 16) threads → AllByRecursion (λ (t : Thread). AllByRecursion IsNumber t.regs) threads
    → are_plain (thread_lines o threads) ≡ true
plain_threads o [] h e whole numbers = refl
plain_threads o (t ∷ threads) h e whole numbers =
    let two = and_parts (is_thread o.segments (length o.externals) t) (list_all (is_thread o.segments (length o.externals)) threads) e in
    rw (plain_thread o t (is_written o t h two.0))
    (all_append is_plain (register_lines o 0 t.regs) (thread_lines o threads) (plain_registers o 0 t.regs h (omega (arith, whole.0)) (thread_values o t two.0) numbers.0)
    (plain_threads o threads h two.1 whole.1 numbers.1))

pub lines_plain : (o : Object) → IsObject o → are_plain (object_lines o) ≡ true
unfolding object_lines
lines_plain o h =
    let spare : is_plain (spare_of o.spare) ≡ true = plain_decimal o.spare (omega (arith, h.few_spare)) in
    rw spare (all_append is_plain (segment_lines o 0 o.segments) (thread_lines o o.threads) (plain_segments o 0 o.segments h h.segments)
    (plain_threads o o.threads h h.threads h.whole h.integers))
