-- What the lines of spare frames, segments, threads and registers say.
use Rattle.std.proofs.Common.{◌≡◌, ℕ, ◌%◌, ◌^◌, ◌<◌, ◌≤◌, true, false, not, ◌&&◌, ◌==◌, nat_lt, List, [], ◌∷◌, ◌++◌}
use Rattle.std.proofs.Common.{length, codes, Option, Some, None, Ok, bytes_eq, refl, sym, ap, ◌∙◌, subst, arith}
use Rattle.std.proofs.lemmas.{Bool.{ltb-true, and_parts, le-leb, not-true}, List.append_assoc}
use Rattle.std.specs.{List.list_all, Char.is_digit, Fmt.decimal}
use Rattle.mm_word.specs.{declared.perm.Perm.{Perm, TheVariants.{Ro, Rw, Xu, Xp, Eu, Ep, Key}}, Perm.can_fetch}
use Rattle.mm_line.specs.declared.statement.{Constant.{Constant, TheVariants.{Integer, Pointer}}, Statement.Statement}
use Rattle.mm_line.specs.{declared.token.Token.{Token, TheVariants.{Name, Number}}, Tokens.next_token, Forms.is_name}
use Rattle.mm_line.specs.{TokenPlaces.written, Words.{perms, ip_perms}, Reading.{word_of, handler_of}}
use Rattle.mm_line.specs.Statements.{spare_at, segment_at, thread_at, register_at, constant_at, integer_at, pointer_at}
use Rattle.mm_line.{specs.Statements.front_by, proofs.Longest.other}
use Rattle.mm_object.specs.declared.{target.Target.Target, thread.{Value.Value, Thread.Thread}}
use Rattle.mm_object.specs.Objects.{Segment, Object, IsSegment, IsObject, IsNumber, is_handler, is_target, is_value}
use Rattle.mm_object.specs.Objects.{is_thread}
use Rattle.mm_disasm.specs.Canonical.{perm_text, long_hex, handler_text, pointer_text, value_text}
use Rattle.mm_disasm.proofs.Saying.{Says, SaysSpare, SaysBegin, SaysThread, SaysRegister, IsConstantOf, spare_of}
use Rattle.mm_disasm.proofs.{Saying.{begin_of, thread_of, register_of}, LinesTokens.{all_of, are_decimal}}
use Rattle.mm_disasm.proofs.{LinesOperands.between_again, LinesNames.{IsWord, is_word, IsKnown, known}}
use Rattle.mm_disasm.proofs.LinesRead.{directive_says, name_behind, decimal_behind, decimal_last, long_last}
use Rattle.mm_disasm.proofs.LinesRead.{target_line, target_in, target_read, same_target, pointer_shape}
use Rattle.mm_line.specs.declared.statement.Statement.TheVariants as statement
use Rattle.mm_object.specs.declared.thread.Value.TheVariants as value

-- 1. Spare frames.

spare_read : (frames : ℕ) → frames ≤ 256 → spare_at (32 ∷ decimal frames) ≡ Ok (statement.Spare frames, [])
unfolding spare_at
spare_read frames h = rw (decimal_last frames (omega arith), between_again 0 256 frames (omega arith) h) refl

pub spare_says : (frames : ℕ) → frames ≤ 256 → Says (spare_of frames) (SaysSpare frames)
unfolding front_by
spare_says frames h = directive_says (codes "spare") (decimal frames) (statement.Spare frames) (SaysSpare frames) refl (spare_read frames h) refl

-- 2. Segments.

begin_read : (name : List ℕ) (log : ℕ) → IsWord name → 3 ≤ log → log ≤ 20
    → segment_at (32 ∷ (name ++ 32 ∷ decimal log)) ≡ Ok (statement.Begin (record { name = name; left = length (name ++ 32 ∷ decimal log) }) log, [])
unfolding segment_at
begin_read name log h low high =
    rw (name_behind name (decimal log) h.form, le-leb (length name) 31 h.short, decimal_last log (omega arith), between_again 3 20 log low high) refl

pub begin_says : (s : Segment) → IsSegment s → Says (begin_of s) (SaysBegin s)
unfolding front_by
begin_says s h =
    let rest : List ℕ = s.name ++ 32 ∷ decimal s.log in
    let begun : Statement = statement.Begin (record { name = s.name; left = length rest }) s.log in
    let line : codes ".segment " ++ rest ≡ begin_of s = ap (λ t. codes ".segment " ++ t) (sym (append_assoc s.name (codes " ") (decimal s.log))) in
    let read : segment_at (32 ∷ rest) ≡ Ok (begun, []) = begin_read s.name s.log (is_word s.name h.name) h.least h.greatest in
    subst (λ t. Says t (SaysBegin s)) line (directive_says (codes "segment") rest begun (SaysBegin s) refl read (length rest, refl))

-- 3. Pointers and integers.

-- the words for permissions are names
pub perm_named : (p : Perm) → is_name (perm_text p) ≡ true
perm_named Ro = refl
perm_named Rw = refl
perm_named Xu = refl
perm_named Xp = refl
perm_named Eu = refl
perm_named Ep = refl
perm_named Key = refl

perm_again : (p : Perm) (rest : List ℕ) → word_of perms (written Name (perm_text p) rest) ≡ Ok p
perm_again Ro rest = refl
perm_again Rw rest = refl
perm_again Xu rest = refl
perm_again Xp rest = refl
perm_again Eu rest = refl
perm_again Ep rest = refl
perm_again Key rest = refl

pub pointer_read : (o : Object) (p : Perm) (t : Target) → IsKnown o t → pointer_at (32 ∷ pointer_text o p t) ≡ Ok (Pointer p (target_in o t), [])
unfolding pointer_at
pointer_read o p t h =
    let rest : List ℕ = target_line o t in
    rw (pointer_shape o p t, name_behind (perm_text p) rest (perm_named p), perm_again p (32 ∷ rest), target_read o t h) refl

pub integer_read : (n : ℕ) → n < 2 ^ 64 → integer_at (32 ∷ long_hex n) ≡ Ok (Integer n, [])
unfolding integer_at
integer_read n h = let small : n % 2 ^ 64 ≡ n = omega arith in rw (long_last n h, small) refl

-- 4. Threads.

no_word : (ds : List ℕ) → all_of (λ b. is_digit b 10) ds ≡ true → bytes_eq ds (codes "none") ≡ false
no_word [] h = cc
no_word (d ∷ ds) h = let two = and_parts (is_digit d 10) (list_all (λ b. is_digit b 10) (d ∷ ds)) h in rw (other (λ b. is_digit b 10) d 110 two.0 refl) refl

abbrev handler_token : Option ℕ → Token
handler_token None = Name
handler_token (Some h) = Number false h

handler_behind : (slot : ℕ) (h : Option ℕ) (rest : List ℕ) → is_handler slot h ≡ true
    → next_token (32 ∷ (handler_text h ++ 32 ∷ rest)) ≡ written (handler_token h) (handler_text h) (32 ∷ rest)
handler_behind slot None rest e = name_behind (codes "none") rest refl
handler_behind slot (Some h) rest e =
    let small = ltb-true h 16 (and_parts (nat_lt h 16) (not (h == slot)) e).0 in
    decimal_behind h rest (omega arith)

handler_again : (slot : ℕ) (h : Option ℕ) (rest : List ℕ) → is_handler slot h ≡ true → handler_of slot (written (handler_token h) (handler_text h) rest) ≡ Ok h
handler_again slot None rest e = refl
handler_again slot (Some h) rest e =
    let two = and_parts (nat_lt h 16) (not (h == slot)) e in
    let small = ltb-true h 16 two.0 in
    rw (no_word (decimal h) (are_decimal h (omega arith)), between_again 0 15 h (omega arith) (omega arith), not-true (h == slot) two.1) refl

ip_again : (p : Perm) (rest : List ℕ) → can_fetch p ≡ true → word_of ip_perms (written Name (perm_text p) rest) ≡ Ok p
ip_again Xu rest e = refl
ip_again Xp rest e = refl
ip_again _ rest e = cc

-- what is known of a thread's line
pub record IsWritten (o : Object) (t : Thread) : Type 0 where
  pub slot : t.slot < 16
  pub group : t.group < 16
  pub handler : is_handler t.slot t.handler ≡ true
  pub perm : can_fetch t.perm ≡ true
  pub target : IsKnown o t.target

pub is_written : (o : Object) (t : Thread) → IsObject o → is_thread o.segments (length o.externals) t ≡ true → IsWritten o t
is_written o t h e =
    let a = and_parts (nat_lt t.slot 16 && nat_lt t.group 16 && is_handler t.slot t.handler && can_fetch t.perm && is_target o.segments (length o.externals) t.target)
    (list_all (is_value o.segments (length o.externals)) t.regs) e in
    let b = and_parts (nat_lt t.slot 16 && nat_lt t.group 16 && is_handler t.slot t.handler && can_fetch t.perm) (is_target o.segments (length o.externals) t.target) a.0 in
    let c = and_parts (nat_lt t.slot 16 && nat_lt t.group 16 && is_handler t.slot t.handler) (can_fetch t.perm) b.0 in
    let d = and_parts (nat_lt t.slot 16 && nat_lt t.group 16) (is_handler t.slot t.handler) c.0 in
    let f = and_parts (nat_lt t.slot 16) (nat_lt t.group 16) d.0 in
    record { slot = ltb-true t.slot 16 f.0; group = ltb-true t.group 16 f.1; handler = d.1; perm = c.1; target = known o t.target h b.1 }

four_behind : (a b c d e s : List ℕ) → a ++ b ++ s ++ c ++ s ++ d ++ s ++ e ≡ a ++ (b ++ (s ++ (c ++ (s ++ (d ++ (s ++ e))))))
four_behind a b c d e s = simp append_assoc

module _ (o : Object) (t : Thread) (h : IsWritten o t) where
  abbrev behind_perm : List ℕ
  behind_perm = target_line o t.target

  abbrev behind_handler : List ℕ
  behind_handler = perm_text t.perm ++ 32 ∷ behind_perm

  abbrev behind_group : List ℕ
  behind_group = handler_text t.handler ++ 32 ∷ behind_handler

  abbrev behind_slot : List ℕ
  behind_slot = decimal t.group ++ 32 ∷ behind_group

  abbrev behind_thread : List ℕ
  behind_thread = decimal t.slot ++ 32 ∷ behind_slot

  abbrev thread_read : Statement
  thread_read = statement.Thread t.slot t.group t.handler t.perm (target_in o t.target)

  thread_is_read : thread_at (32 ∷ behind_thread) ≡ Ok (thread_read, [])
  unfolding thread_at
  thread_is_read =
      rw (
        decimal_behind t.slot behind_slot (omega (arith, h.slot)),
        between_again 0 15 t.slot (omega arith) (omega (arith, h.slot)),
        decimal_behind t.group behind_group (omega (arith, h.group)),
        between_again 0 15 t.group (omega arith) (omega (arith, h.group)),
        handler_behind t.slot t.handler behind_handler h.handler,
        handler_again t.slot t.handler (32 ∷ behind_handler) h.handler,
        name_behind (perm_text t.perm) behind_perm (perm_named t.perm),
        ip_again t.perm (32 ∷ behind_perm) h.perm,
        target_read o t.target h.target,
      ) refl

  thread_line : codes ".thread " ++ behind_thread ≡ thread_of o t
  thread_line =
      let whole = four_behind (codes ".thread ") (decimal t.slot) (decimal t.group) (handler_text t.handler) (pointer_text o t.perm t.target) (codes " ") in
      ap (λ s. codes ".thread " ++ (decimal t.slot ++ 32 ∷ (decimal t.group ++ 32 ∷ (handler_text t.handler ++ 32 ∷ s)))) (sym (pointer_shape o t.perm t.target)) ∙ sym whole

  thread_by : Says (thread_of o t) (SaysThread o t)
  unfolding front_by
  thread_by =
      subst (λ s. Says s (SaysThread o t)) thread_line
      (directive_says (codes "thread") behind_thread thread_read (SaysThread o t) refl thread_is_read (target_in o t.target, refl, same_target o t.target))

pub thread_says : (o : Object) (t : Thread) → IsObject o → is_thread o.segments (length o.externals) t ≡ true → Says (thread_of o t) (SaysThread o t)
thread_says o t h e = thread_by o t (is_written o t h e)

-- 5. Registers.

-- what is known of a register's line
abbrev pub IsWrittenValue : Object → Value → Type 0
IsWrittenValue o (value.Int n) = n < 2 ^ 64
IsWrittenValue o (value.Ptr p t) = IsKnown o t

-- the values of a thread's registers are those of an object
pub thread_values : (o : Object) (t : Thread) → is_thread o.segments (length o.externals) t ≡ true → list_all (is_value o.segments (length o.externals)) t.regs ≡ true
thread_values o t e = (and_parts _ (list_all (is_value o.segments (length o.externals)) t.regs) e).1

pub is_written_value : (o : Object) (v : Value) → IsObject o → is_value o.segments (length o.externals) v ≡ true → IsNumber v → IsWrittenValue o v
is_written_value o (value.Int n) h e k = k
is_written_value o (value.Ptr p t) h e k = known o t h e

abbrev constant_in : Object → Value → Constant
constant_in o (value.Int n) = Integer n
constant_in o (value.Ptr p t) = Pointer p (target_in o t)

same_constant : (o : Object) (v : Value) → IsConstantOf o v (constant_in o v)
same_constant o (value.Int n) = refl
same_constant o (value.Ptr p t) = (target_in o t, refl, same_target o t)

constant_read : (o : Object) (v : Value) → IsWrittenValue o v → constant_at (32 ∷ value_text o v) ≡ Ok (constant_in o v, [])
unfolding constant_at
constant_read o (value.Int n) h = rw (name_behind (codes "int") (long_hex n) refl) (integer_read n h)
constant_read o (value.Ptr p t) h = rw (name_behind (codes "ptr") (pointer_text o p t) refl) (pointer_read o p t h)

register_read : (o : Object) (k : ℕ) (v : Value) → k < 16 → IsWrittenValue o v
    → register_at (32 ∷ (decimal k ++ 32 ∷ value_text o v)) ≡ Ok (statement.Register k (constant_in o v), [])
unfolding register_at
register_read o k v h w = rw (decimal_behind k (value_text o v) (omega arith), between_again 0 15 k (omega arith) (omega arith), constant_read o v w) refl

pub register_says : (o : Object) (k : ℕ) (v : Value) → IsObject o → k < 16 → is_value o.segments (length o.externals) v ≡ true → IsNumber v
    → Says (register_of o k v) (SaysRegister o k v)
unfolding front_by
register_says o k v h low e number =
    let rest : List ℕ = decimal k ++ 32 ∷ value_text o v in
    let line : codes ".reg " ++ rest ≡ register_of o k v = ap (λ t. codes ".reg " ++ t) (sym (append_assoc (decimal k) (codes " ") (value_text o v))) in
    let read = register_read o k v low (is_written_value o v h e number) in
    let says = directive_says (codes "reg") rest (statement.Register k (constant_in o v)) (SaysRegister o k v) refl read (constant_in o v, refl, same_constant o v) in
    subst (λ t. Says t (SaysRegister o k v)) line says
