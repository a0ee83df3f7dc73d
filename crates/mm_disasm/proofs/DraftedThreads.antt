-- The threads of an object, as their lines are read.
use Rattle.std.proofs.Common.{◌≡◌, ℕ, ◌+◌, ◌<◌, Bool, true, false, ◌==◌, if◌then◌else◌, List, [], ◌∷◌, ◌++◌, Option}
use Rattle.std.proofs.Common.{refl, sym, ap, ◌∙◌, subst, arith, append_assoc}
use Rattle.std.proofs.lemmas.{List.append-nil, Bool.{ne_eqb, or_from}}
use Rattle.std.specs.{List.{list_any, AllByRecursion}, Prelude.is_none}
use Rattle.mm_draft.specs.{declared.thread.Register.Register, Drafts.{Entry, Draft, last, with_register}}
use Rattle.mm_draft.specs.Faults.{has_register, source_of, lines_from}
use Rattle.mm_object.{specs.{declared.thread.{Value.Value, Thread.Thread}, Objects.Object}, proofs.Members.each_more}
use Rattle.mm_asm.proofs.Lists.{each_weaker}
use Rattle.mm_disasm.specs.Canonical.{is_zero}
use Rattle.mm_disasm.proofs.Saying.{IsTargetOf, IsConstantOf, thread_of, register_of, register_lines, thread_lines}
use Rattle.mm_disasm.proofs.{Speaking.{RegistersSpeak, ThreadSpeaks}, DraftedLines.{thread_read, register_read}}
use Rattle.mm_disasm.proofs.{DraftedOrder.Ascends, DraftedWords.{change_pushed, last_pushed}}
use Rattle.mm_draft.specs.Drafts as draft

-- 1. Registers and threads of an object.

pub record IsRegisterOf (o : Object) (k : ℕ) (v : Value) (r : Register) : Type 0 where
  pub number : r.number ≡ k
  pub value : IsConstantOf o v r.value

-- registers for a value, which has one unless it is integer 0, and for those behind it
abbrev pub RegistersBy : Object → (k : ℕ) → Value → (List Register → Type 0) → (is_zero : Bool) → List Register → Type 0
RegistersBy o k v Later true registers = Later registers
RegistersBy o k v Later false registers = (r : Register) × (later : List Register) × (registers ≡ r ∷ later) × IsRegisterOf o k v r × Later later

-- registers from register k on, one for each value that is not integer 0
abbrev pub AreRegistersOf : Object → (k : ℕ) → List Value → List Register → Type 0
AreRegistersOf o k [] registers = registers ≡ []
AreRegistersOf o k (v ∷ values) registers =
    RegistersBy o k v (λ rs. AreRegistersOf o (k + 1) values rs) (is_zero v) registers

pub record IsThreadOf (o : Object) (t : Thread) (x : draft.Thread) : Type 0 where
  pub slot : x.slot ≡ t.slot
  pub group : x.group ≡ t.group
  pub handler : x.handler ≡ t.handler
  pub perm : x.perm ≡ t.perm
  pub target : IsTargetOf o t.target x.target
  pub registers : AreRegistersOf o 0 t.regs x.registers

abbrev pub AreThreadsOf : Object → List Thread → List draft.Thread → Type 0
AreThreadsOf o [] [] = Unit {0}
AreThreadsOf o [] (x ∷ xs) = ⊥
AreThreadsOf o (t ∷ threads) [] = ⊥
AreThreadsOf o (t ∷ threads) (x ∷ xs) = IsThreadOf o t x × AreThreadsOf o threads xs

-- 2. Their lines.

pub other_number : (a b : ℕ) → a < b → (a == b) ≡ false
other_number a b lt = ne_eqb a b (λ e. omega (arith, lt, e))

-- of numbers below this one none is it
none_equal : {A : Type 0} (key : A → ℕ) (n : ℕ) (xs : List A) → AllByRecursion (λ x. key x < n) xs → list_any (λ x. key x == n) xs ≡ false
none_equal key n [] low = refl
none_equal key n (x ∷ xs) low = or_from (key x == n) (list_any (λ y. key y == n) xs) (other_number (key x) n low.0) (none_equal key n xs low.1)

-- all threads so far have lesser slots
abbrev pub IsBehind : List draft.Thread → Thread → Type 0
IsBehind before t = AllByRecursion (λ (x : draft.Thread). x.slot < t.slot) before

module _ (o : Object) (segments : List draft.Segment) (names : List Entry) (spare : Option ℕ) where
  -- the draft of these threads
  abbrev pub with_threads : List draft.Thread → Draft
  with_threads threads = record { segments = segments; names = names; threads = threads; spare = spare }

  module _ (before : List draft.Thread) where
    -- the lines of registers are read behind a thread: they add these registers
    pub record ReadsRegisters (line k : ℕ) (values : List Value) (t : draft.Thread) : Type 0 where
      pub next : ℕ
      pub registers : List Register
      pub are : AreRegistersOf o k values registers
      pub reads : (more : List (List ℕ)) →
          lines_from line (with_threads (before ++ t ∷ [])) (register_lines o k values ++ more)
          ≡ lines_from next (with_threads (before ++ record t { registers = t.registers ++ registers } ∷ [])) more

    read_register : (line k : ℕ) (v : Value) (values : List Value) (t : draft.Thread) → RegistersSpeak o k (v ∷ values) →
        AllByRecursion (λ (r : Register). r.number < k) t.registers →
        ((line : ℕ) (t : draft.Thread) → AllByRecursion (λ (r : Register). r.number < k + 1) t.registers → ReadsRegisters line (k + 1) values t) → ReadsRegisters line k (v ∷ values) t
    read_register line k v values t h low rest = by (is_zero v) refl
      where
        higher : AllByRecursion (λ (r : Register). r.number < k + 1) t.registers
        higher = each_weaker (λ (r : Register). r.number < k) (λ (r : Register). r.number < k + 1) t.registers (λ r lt. omega arith) low

        by : (b : Bool) → is_zero v ≡ b → ReadsRegisters line k (v ∷ values) t
        by true e =
            let later = rest line t higher in
            record {
              next = later.next;
              registers = later.registers;
              are = subst (λ (b : Bool). RegistersBy o k v (AreRegistersOf o (k + 1) values) b later.registers) (sym e) later.are;
              reads = λ more.
                  ap (λ (b : Bool). lines_from line (with_threads (before ++ t ∷ [])) ((if b then register_lines o (k + 1) values else register_of o k v ∷ register_lines o (k + 1) values) ++ more))
                  e
                  ∙ later.reads more;
            }
        by false e =
            let says = h.0 e in
            let r : Register = record { number = k; value = says.means.0; source = source_of line (register_of o k v) } in
            let is : IsRegisterOf o k v r = record { number = refl; value = says.means.2 } in
            let longer : draft.Thread = with_register r t in
            let all_low : AllByRecursion (λ (r : Register). r.number < k + 1) (t.registers ++ r ∷ []) =
            each_more (λ (r : Register). r.number < k + 1) t.registers (r ∷ []) higher (omega arith, tt) in
            let later = rest (line + 1) longer all_low in
            let joined : (t.registers ++ r ∷ []) ++ later.registers ≡ t.registers ++ r ∷ later.registers = append_assoc t.registers (r ∷ []) later.registers in
            let some : is_none (last (before ++ t ∷ [])) ≡ false = ap (λ (x : Option draft.Thread). is_none x) (last_pushed before t) in
            let new : has_register (last (before ++ t ∷ [])) k ≡ false =
            ap (λ (x : Option draft.Thread). has_register x k) (last_pushed before t) ∙ none_equal (λ (r : Register). r.number) k t.registers low in
            record {
              next = later.next;
              registers = r ∷ later.registers;
              are = subst (λ (b : Bool). RegistersBy o k v (AreRegistersOf o (k + 1) values) b (r ∷ later.registers)) (sym e) (r, later.registers, refl, is, later.are);
              reads = λ more.
                  ap (λ (b : Bool). lines_from line (with_threads (before ++ t ∷ [])) ((if b then register_lines o (k + 1) values else register_of o k v ∷ register_lines o (k + 1) values) ++ more))
                  e
                  ∙ register_read o line (with_threads (before ++ t ∷ [])) (register_lines o (k + 1) values ++ more) k v says some new
                  ∙ ap (λ (threads : List draft.Thread). lines_from (line + 1) (with_threads threads) (register_lines o (k + 1) values ++ more)) (change_pushed (with_register r) before t)
                  ∙ later.reads more
                  ∙ ap (λ (registers : List Register). lines_from later.next (with_threads (before ++ record t { registers = registers } ∷ [])) more) joined;
            }

    pub read_registers : (line k : ℕ) (values : List Value) (t : draft.Thread) → RegistersSpeak o k values → AllByRecursion (λ (r : Register). r.number < k) t.registers →
        ReadsRegisters line k values t
    read_registers line k [] t h low =
        record {
          next = line;
          registers = [];
          are = refl;
          reads = λ more. ap (λ (registers : List Register). lines_from line (with_threads (before ++ record t { registers = registers } ∷ [])) more) (sym (append-nil t.registers));
        }
    read_registers line k (v ∷ values) t h low = read_register line k v values t h low (λ next x l. read_registers next (k + 1) values x h.1 l)

  pub record ReadsThreads (line : ℕ) (before : List draft.Thread) (threads : List Thread) : Type 0 where
    pub next : ℕ
    pub later : List draft.Thread
    pub are : AreThreadsOf o threads later
    pub reads : (more : List (List ℕ)) → lines_from line (with_threads before) (thread_lines o threads ++ more) ≡ lines_from next (with_threads (before ++ later)) more

  all_behind : (before : List draft.Thread) (x : draft.Thread) (threads : List Thread) → AllByRecursion (IsBehind before) threads →
      AllByRecursion (λ (t : Thread). x.slot < t.slot) threads → AllByRecursion (IsBehind (before ++ x ∷ [])) threads
  all_behind before x [] h k = tt
  all_behind before x (t ∷ threads) h k = (each_more (λ (y : draft.Thread). y.slot < t.slot) before (x ∷ []) h.0 (k.0, tt), all_behind before x threads h.1 k.1)

  pub read_threads : (line : ℕ) (before : List draft.Thread) (threads : List Thread) → AllByRecursion (ThreadSpeaks o) threads →
      Ascends (λ (s t : Thread). s.slot < t.slot) threads → AllByRecursion (IsBehind before) threads →
      ReadsThreads line before threads
  read_threads line before [] h up behind =
      record { next = line; later = []; are = tt; reads = λ more. ap (λ (threads : List draft.Thread). lines_from line (with_threads threads) more) (sym (append-nil before)) }
  read_threads line before (t ∷ threads) h up behind =
      let says = h.0.begins in
      let begun : draft.Thread = record { slot = t.slot; group = t.group; handler = t.handler; perm = t.perm; target = says.means.0; source = source_of line (thread_of o t); registers = [] } in
      let registers = read_registers before (line + 1) 0 t.regs begun h.0.registers tt in
      let x : draft.Thread = record begun { registers = registers.registers } in
      let is : IsThreadOf o t x = record { slot = refl; group = refl; handler = refl; perm = refl; target = says.means.2; registers = registers.are } in
      let rest = read_threads registers.next (before ++ x ∷ []) threads h.1 up.1 (all_behind before x threads behind.1 up.0) in
      record {
        next = rest.next;
        later = x ∷ rest.later;
        are = (is, rest.are);
        reads = λ more.
            thread_read o line (with_threads before) ((register_lines o 0 t.regs ++ thread_lines o threads) ++ more) t says (none_equal (λ (x : draft.Thread). x.slot) t.slot before behind.0)
            ∙ ap (λ (lines : List (List ℕ)). lines_from (line + 1) (with_threads (before ++ begun ∷ [])) lines) (append_assoc (register_lines o 0 t.regs) (thread_lines o threads) more)
            ∙ registers.reads (thread_lines o threads ++ more)
            ∙ rest.reads more
            ∙ ap (λ (threads : List draft.Thread). lines_from rest.next (with_threads threads) more) (append_assoc before (x ∷ []) rest.later);
      }
