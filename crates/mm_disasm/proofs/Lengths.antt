-- How long a canonical text is.
use Rattle.std.proofs.Common.{◌≡◌, ℕ, zero, suc, ◌+◌, ◌*◌, ◌^◌, ◌<◌, ◌≤◌, Bool, true, false, nat_lt, if◌then◌else◌}
use Rattle.std.proofs.Common.{List, [], ◌∷◌, ◌++◌, length, get_or, codes, Option, Some, None, ℤ, pos, negsuc}
use Rattle.std.proofs.Common.{FitsSigned, refl, arith, length-append}
use Rattle.std.proofs.lemmas.{Fmt.length-decimal-le, Int.ints, Bool.{and_parts, Decides.nat_tests}}
use Rattle.std.specs.{Prelude.decimal, Int.w32, Fmt.{digits, signed_decimal}, List.{flat_map, list_all, AllByRecursion}}
use Rattle.mm_text.proofs.HexDigits.{length-hex}
use Rattle.mm_word.specs.Perm.{can_fetch}
use Rattle.mm_word.specs.declared.perm.Perm.{Perm, TheVariants.{Ro, Rw, Xu, Xp, Eu, Ep, Key}}
use Rattle.mm_word.specs.declared.word.{Pre.Pre, Post.Post}
use Rattle.mm_isa.specs.declared.instr.AluOp.{AluOp}
use Rattle.mm_isa.specs.declared.instr.AluOp.TheVariants.{Add, Sub, Mul, Divu, Remu, And, Or, Xor, Shl, Shr, Sar, Eq}
use Rattle.mm_isa.specs.declared.instr.{AluOp.TheVariants.{Ltu, Lts}, Instr.{Instr, TheVariants.Alu}}
use Rattle.mm_isa.specs.declared.instr.How.{How, TheVariants.{Retry, Skip, Kill}}
use Rattle.mm_isa.specs.declared.operand.Operand.{Operand}
use Rattle.mm_isa.specs.declared.operand.Operand.TheVariants.{Rd, EvtRd, Ra, Rb, Imm, Distance, RegisterNumber}
use Rattle.mm_isa.specs.{Table.{integer, operation_of, IsInRange, IsInstr}, Decode.instr_of}
use Rattle.mm_isa.proofs.Spelling.{instr_of-spelled}
use Rattle.mm_model.specs.{Digits.hex, Lines.newline}
use Rattle.mm_object.specs.declared.{item.Item.Item, target.{Target.Target, Reloc.Reloc}}
use Rattle.mm_object.specs.{declared.thread.{Value.Value, Thread.Thread}, Lookups.{name_of_target, reloc_at}}
use Rattle.mm_object.specs.Names.{has_form, is_name}
use Rattle.mm_object.specs.Objects.{Segment, Object, IsObject, IsSegment, words_of, names_of, is_handler, is_target}
use Rattle.mm_object.specs.Objects.{is_value, is_thread}
use Rattle.mm_disasm.specs.Canonical.{perm_text, pre_text, post_text, how_text, register_text, short_hex, long_hex}
use Rattle.mm_disasm.specs.Canonical.{operand_text, further_text, operands_text, operation_text, pointer_text}
use Rattle.mm_disasm.specs.Canonical.{bits_text, integer_text, word_by, mark_text, word_line, words_text, segment_line}
use Rattle.mm_disasm.specs.Canonical.{segment_text, segments_text, handler_text, thread_line, value_text, is_zero}
use Rattle.mm_disasm.specs.Canonical.{register_line, registers_text, thread_text, spare_line, canonical}
use Rattle.mm_disasm.specs.Laws.{CanonicalTextsAreSources}
use Rattle.mm_disasm.proofs.{LinesNames.{IsKnown, known, relocated}, ShortHex.at_most_five}
use Rattle.mm_word.specs.declared.word.Pre.TheVariants as pre
use Rattle.mm_word.specs.declared.word.Post.TheVariants as post
use Rattle.mm_isa.specs.declared.operand.Operand.TheVariants as operand
use Rattle.mm_object.specs.declared.thread.Value.TheVariants as value

-- 1. Words of the language.

perm_length : (p : Perm) → length (perm_text p) ≤ 3
perm_length Ro = omega arith
perm_length Rw = omega arith
perm_length Xu = omega arith
perm_length Xp = omega arith
perm_length Eu = omega arith
perm_length Ep = omega arith
perm_length Key = omega arith

pre_length : (p : Pre) → length (pre_text p) ≤ 5
pre_length pre.Any = omega arith
pre_length pre.Full = omega arith
pre_length pre.Empty = omega arith

post_length : (p : Post) → length (post_text p) ≤ 5
post_length post.Keep = omega arith
post_length post.Full = omega arith
post_length post.Empty = omega arith

how_length : (h : How) → length (how_text h) ≤ 5
how_length Retry = omega arith
how_length Skip = omega arith
how_length Kill = omega arith

small_length : (r : ℕ) → r < 100 → length (decimal r) ≤ 2
small_length r lt = length-decimal-le 2 r (omega arith) (omega arith) (omega arith)

register_length : (r : ℕ) → r < 16 → length (register_text r) ≤ 3
register_length r lt = omega (arith, small_length r (omega arith), length-append (codes "r") (decimal r))

signed_length : (n : ℤ) → FitsSigned w32 n → length (signed_decimal n) ≤ 11
signed_length (pos n) h =
    let small : n < 2 ^ 31 = omega (arith, ints) in
    omega (arith, length-decimal-le 10 n (omega arith) (omega arith) (omega arith))
signed_length (negsuc n) h =
    let small : n < 2 ^ 31 = omega (arith, ints) in
    omega (arith, length-decimal-le 10 (suc n) (omega arith) (omega arith) (omega arith))

short_length : (n : ℕ) → n < 2 ^ 20 → length (short_hex n) ≤ 7
short_length n h = omega (arith, length-append (codes "0x") (digits 16 false n), at_most_five n h)

long_length : (n : ℕ) → length (long_hex n) ≡ 18
long_length n = omega (arith, length-append (codes "0x") (hex 16 n), length-hex 16 n)

-- 2. Instructions.

-- how long an operand can be
width : Operand → ℕ
width (Imm n) = 11
width (Distance n) = 11
width (operand.Pre p) = 5
width (operand.Post p) = 5
width (operand.How h) = 5
width _ = 3

widths : List Operand → ℕ
widths [] = 0
widths (x ∷ xs) = 2 + width x + widths xs

operand_length : (x : Operand) → IsInRange x → length (operand_text x) ≤ width x
unfolding width
operand_length (Rd r) h = register_length r h
operand_length (EvtRd r) h = register_length r (omega (arith, h))
operand_length (Ra r) h = register_length r h
operand_length (Rb r) h = register_length r h
operand_length (Imm n) h = signed_length n h
operand_length (Distance n) h = signed_length n h
operand_length (RegisterNumber r) h = omega (arith, h, small_length r (omega (arith, h)))
operand_length (operand.Pre p) h = pre_length p
operand_length (operand.Post p) h = post_length p
operand_length (operand.How w) h = how_length w

further_length : (xs : List Operand) → AllByRecursion IsInRange xs → length (flat_map further_text xs) ≤ widths xs
unfolding widths
further_length [] h = omega arith
further_length (x ∷ xs) h =
    omega (arith, operand_length x h.0, further_length xs h.1, length-append (codes ", " ++ operand_text x) (flat_map further_text xs), length-append (codes ", ") (operand_text x))

operands_length : (xs : List Operand) → AllByRecursion IsInRange xs → length (operands_text xs) ≤ widths xs
unfolding widths
operands_length [] h = omega arith
operands_length (x ∷ xs) h =
    omega (arith, operand_length x h.0, further_length xs h.1, length-append (codes " " ++ operand_text x) (flat_map further_text xs), length-append (codes " ") (operand_text x))

integer_length : (op : AluOp) → length (integer op).0 ≤ 4
integer_length Add = omega arith
integer_length Sub = omega arith
integer_length Mul = omega arith
integer_length Divu = omega arith
integer_length Remu = omega arith
integer_length And = omega arith
integer_length Or = omega arith
integer_length Xor = omega arith
integer_length Shl = omega arith
integer_length Shr = omega arith
integer_length Sar = omega arith
integer_length Eq = omega arith
integer_length Ltu = omega arith
integer_length Lts = omega arith

all_widths : (i : Instr) → length (operation_of i).name + widths (operation_of i).operands ≤ 48
unfolding width widths
all_widths (Alu op rd ra rb) = omega (arith, integer_length op)
all_widths _ = omega arith

instruction_length : (i : Instr) → IsInstr i → length (operation_text (operation_of i)) ≤ 48
unfolding operation_text
instruction_length i h = omega (arith, length-append (operation_of i).name (operands_text (operation_of i).operands), operands_length (operation_of i).operands h.operands, all_widths i)

-- 3. Words of a segment.

name_length : (name : List ℕ) → is_name name ≡ true → length name ≤ 31
name_length name h = let parts = and_parts (has_form name) _ h in grind (arith, nat_tests, parts.1)

module _ (o : Object) (is : IsObject o) where
  named_short : (segments : List Segment) (i : ℕ) → AllByRecursion IsSegment segments → length (get_or (names_of segments ++ o.externals) i []) ≤ 31
  named_short [] i h = external o.externals i is.externals
    where
      external : (names : List (List ℕ)) (i : ℕ) → list_all is_name names ≡ true → length (get_or names i []) ≤ 31
      external [] i h = omega arith
      external (x ∷ names) zero h = name_length x (and_parts (is_name x) (list_all is_name names) h).0
      external (x ∷ names) (suc i) h = external names i (and_parts (is_name x) (list_all is_name names) h).1
  named_short (s ∷ segments) zero h = name_length s.name h.0.name
  named_short (s ∷ segments) (suc i) h = named_short segments i h.1

  target_length : (t : Target) → length (name_of_target o t) ≤ 31
  unfolding name_of_target
  target_length t = named_short o.segments t.index is.segments

  pointer_length : (p : Perm) (t : Target) → IsKnown o t → length (pointer_text o p t) ≤ 43
  unfolding pointer_text
  pointer_length p t h =
      let a : List ℕ = perm_text p ++ codes " " in
      let b : List ℕ = a ++ name_of_target o t in
      let c : List ℕ = b ++ codes "+" in
      omega (
        arith,
        perm_length p,
        target_length t,
        short_length t.addend h.addend,
        length-append (perm_text p) (codes " "),
        length-append a (name_of_target o t),
        length-append b (codes "+"),
        length-append c (short_hex t.addend),
      )

  bits_length : (found : Option Instr) (bits : ℕ) → instr_of bits ≡ found → length (bits_text found bits) ≤ 48
  bits_length (Some i) bits e = instruction_length i (instr_of-spelled bits i e).0
  bits_length None bits e = omega (arith, length-append (codes ".int ") (long_hex bits), long_length bits)

  content_length : (found : Option Reloc) (bits : ℕ) → ((r : Reloc) → found ≡ Some r → IsKnown o r.target) → length (word_by o found bits) ≤ 48
  unfolding integer_text
  content_length (Some r) bits h = omega (arith, length-append (codes ".ptr ") (pointer_text o r.perm r.target), pointer_length r.perm r.target (h r refl))
  content_length None bits h = bits_length (instr_of bits) bits refl

  mark_length : (full : Bool) → length (mark_text full) ≤ 7
  mark_length true = omega arith
  mark_length false = omega arith

  word_length : (segment k : ℕ) (item : Item) → length (word_line o segment k item) ≤ 56
  unfolding word_line
  word_length segment k item =
      let by : List ℕ = word_by o (reloc_at o segment k) item.bits in
      omega (
        arith,
        mark_length item.full,
        content_length (reloc_at o segment k) item.bits (λ r e. relocated o segment k r is e),
        length-append (mark_text item.full) by,
        length-append (mark_text item.full ++ by) newline,
      )

  words_length : (segment k : ℕ) (items : List Item) → length (words_text o segment k items) ≤ 56 * length items
  words_length segment k [] = omega arith
  words_length segment k (item ∷ items) =
      omega (arith, length-append (word_line o segment k item) (words_text o segment (k + 1) items), word_length segment k item, words_length segment (k + 1) items)

  -- 4. Segments.

  line_length : (s : Segment) → IsSegment s → length (segment_line s) ≤ 44
  line_length s h =
      let a : List ℕ = codes ".segment " ++ s.name in
      let b : List ℕ = a ++ codes " " in
      let c : List ℕ = b ++ decimal s.log in
      omega (
        arith,
        name_length s.name h.name,
        small_length s.log (omega (arith, h.greatest)),
        length-append (codes ".segment ") s.name,
        length-append a (codes " "),
        length-append b (decimal s.log),
        length-append c newline,
      )

  segments_length : (number : ℕ) (segments : List Segment) → AllByRecursion IsSegment segments →
      length (segments_text o number segments) ≤ 44 * length segments + 56 * words_of segments
  unfolding segment_text
  segments_length number [] h = omega arith
  segments_length number (s ∷ segments) h =
      omega (
        arith,
        line_length s h.0,
        words_length number 0 s.items,
        segments_length (number + 1) segments h.1,
        length-append (segment_line s) (words_text o number 0 s.items),
        length-append (segment_line s ++ words_text o number 0 s.items) (segments_text o (number + 1) segments),
      )

  -- 5. Threads.

  handler_length : (slot : ℕ) (handler : Option ℕ) → is_handler slot handler ≡ true → length (handler_text handler) ≤ 4
  handler_length slot None h = omega arith
  handler_length slot (Some n) h =
      let low : n < 16 = let parts = and_parts (nat_lt n 16) _ h in grind (arith, nat_tests, parts.0) in
      omega (arith, small_length n (omega (arith, low)))

  value_length : (v : Value) → is_value o.segments (length o.externals) v ≡ true → length (value_text o v) ≤ 47
  value_length (value.Int n) h = omega (arith, length-append (codes "int ") (long_hex n), long_length n)
  value_length (value.Ptr perm t) h = omega (arith, length-append (codes "ptr ") (pointer_text o perm t), pointer_length perm t (known o t is h))

  register_line_length : (k : ℕ) (v : Value) → k < 16 → is_value o.segments (length o.externals) v ≡ true → length (register_line o k v) ≤ 56
  unfolding register_line
  register_line_length k v lt good = by (is_zero v)
    where
      by : (z : Bool) → length (if z then [] else codes ".reg " ++ decimal k ++ codes " " ++ value_text o v ++ newline) ≤ 56
      by true = omega arith
      by false =
          let a : List ℕ = codes ".reg " ++ decimal k in
          let b : List ℕ = a ++ codes " " in
          let c : List ℕ = b ++ value_text o v in
          omega (
            arith,
            small_length k (omega (arith, lt)),
            value_length v good,
            length-append (codes ".reg ") (decimal k),
            length-append a (codes " "),
            length-append b (value_text o v),
            length-append c newline,
          )

  registers_length : (k : ℕ) (values : List Value) → k + length values ≤ 16 → list_all (is_value o.segments (length o.externals)) values ≡ true
      → length (registers_text o k values) ≤ 56 * length values
  registers_length k [] le good = omega arith
  registers_length k (v ∷ values) le good =
      let two = and_parts (is_value o.segments (length o.externals) v) (list_all (is_value o.segments (length o.externals)) values) good in
      omega (arith, register_line_length k v (omega arith) two.0, registers_length (k + 1) values (omega arith) two.1, length-append (register_line o k v) (registers_text o (k + 1) values))

  thread_line_length : (t : Thread) → t.slot < 16 → t.group < 16 → is_handler t.slot t.handler ≡ true → IsKnown o t.target → length (thread_line o t) ≤ 63
  thread_line_length t slot group handler aim =
      let a : List ℕ = codes ".thread " ++ decimal t.slot in
      let b : List ℕ = a ++ codes " " in
      let c : List ℕ = b ++ decimal t.group in
      let d : List ℕ = c ++ codes " " in
      let e : List ℕ = d ++ handler_text t.handler in
      let f : List ℕ = e ++ codes " " in
      let g : List ℕ = f ++ pointer_text o t.perm t.target in
      omega (
        arith,
        small_length t.slot (omega (arith, slot)),
        small_length t.group (omega (arith, group)),
        handler_length t.slot t.handler handler,
        pointer_length t.perm t.target aim,
        length-append (codes ".thread ") (decimal t.slot),
        length-append a (codes " "),
        length-append b (decimal t.group),
        length-append c (codes " "),
        length-append d (handler_text t.handler),
        length-append e (codes " "),
        length-append f (pointer_text o t.perm t.target),
        length-append g newline,
      )

  thread_length : (t : Thread) → is_thread o.segments (length o.externals) t ≡ true → length t.regs ≡ 16 → length (thread_text o t) ≤ 959
  unfolding thread_text
  thread_length t inside whole =
      let all = and_parts _ (list_all (is_value o.segments (length o.externals)) t.regs) inside in
      let aims = and_parts _ (is_target o.segments (length o.externals) t.target) all.0 in
      let perms = and_parts _ (can_fetch t.perm) aims.0 in
      let handlers = and_parts _ (is_handler t.slot t.handler) perms.0 in
      let numbers = and_parts (nat_lt t.slot 16) (nat_lt t.group 16) handlers.0 in
      let slot : t.slot < 16 = grind (arith, nat_tests, numbers.0) in
      let group : t.group < 16 = grind (arith, nat_tests, numbers.1) in
      omega (
        arith,
        whole,
        thread_line_length t slot group handlers.1 (known o t.target is aims.1),
        registers_length 0 t.regs (omega (arith, whole)) all.1,
        length-append (thread_line o t) (registers_text o 0 t.regs),
      )

  threads_length : (threads : List Thread) → list_all (is_thread o.segments (length o.externals)) threads ≡ true → AllByRecursion (λ (t : Thread). length t.regs ≡ 16) threads →
      length (flat_map (thread_text o) threads) ≤ 959 * length threads
  threads_length [] inside whole = omega arith
  threads_length (t ∷ threads) inside whole =
      let parts = and_parts (is_thread o.segments (length o.externals) t) (list_all (is_thread o.segments (length o.externals)) threads) inside in
      omega (arith, thread_length t parts.0 whole.0, threads_length threads parts.1 whole.1, length-append (thread_text o t) (flat_map (thread_text o) threads))

  -- 6. The whole.

  spare_length : length (spare_line o.spare) ≤ 11
  spare_length =
      omega (
        arith,
        length-decimal-le 3 o.spare (omega arith) (omega (arith, is.few_spare)) (omega (arith, is.few_spare)),
        length-append (codes ".spare ") (decimal o.spare),
        length-append (codes ".spare " ++ decimal o.spare) newline,
      )

  pub canonical_length : length (canonical o) ≤ 8388608
  unfolding canonical
  canonical_length =
      let front : List ℕ = spare_line o.spare ++ segments_text o 0 o.segments in
      omega (
        arith,
        spare_length,
        segments_length 0 o.segments is.segments,
        threads_length o.threads is.threads is.whole,
        is.few_segments,
        is.few_words,
        is.few_threads,
        length-append (spare_line o.spare) (segments_text o 0 o.segments),
        length-append front (flat_map (thread_text o) o.threads),
      )

pub canonical_texts_are_sources : CanonicalTextsAreSources
canonical_texts_are_sources o is = canonical_length o is
