-- What a word spells, and what an instruction is spelled.
use Rattle.std.proofs.Common.{◌≡◌, ◌≢◌, ◌↔◌, ℕ, ◌%◌, ◌^◌, ◌<◌, ◌==◌, Bool, true, false, Option, Some, None, arith, refl}
use Rattle.std.proofs.{Common.{ap, sym, ◌∙◌, eq-eqb}, Math.Facts.{sfits_to_z, Fits-bits}}
use Rattle.std.{proofs.lemmas.Bool.{eqb-true, Decides.nat_tests}, specs.{Bool.then_some, Option.option_and_then}}
use Rattle.mm_isa.specs.{declared.instr.Instr.Instr, Table.{fields_of, packed, spelling, IsInstr}}
use Rattle.mm_isa.specs.Decode.{fields_in, row_of, instr_of}
use Rattle.mm_isa.proofs.{Operands.fields_fit, Packing.{cast_below, fields_in-packed}}
use Rattle.mm_isa.proofs.Rows.{ReadInRange, row_of-fields_of, IsInstr-row_of}

pub spelling-fits : (i : Instr) → IsInstr i → spelling i < 2 ^ 64
unfolding packed
spelling-fits i h =
    let f = fields_fit i h in
    omega (arith, f.operation, f.rd, f.ra, f.rb, f.c, cast_below (fields_of i).imm f.imm)

pub fields_in-spelling : (i : Instr) → IsInstr i → fields_in (spelling i) ≡ fields_of i
fields_in-spelling i h = fields_in-packed (fields_of i) (fields_fit i h)

then_some-same : (n : ℕ) (i : Instr) → then_some (n == n) i ≡ Some i
then_some-same n i = ap (λ b. then_some b i) (eq-eqb n n refl)

-- each instruction is spelled by its own word
pub instr_of-spelling : (i : Instr) → IsInstr i → instr_of (spelling i) ≡ Some i
unfolding instr_of
instr_of-spelling i h =
    let row : row_of (fields_in (spelling i)) ≡ Some i = ap row_of (fields_in-spelling i h) ∙ row_of-fields_of i h in
    rw row (then_some-same (spelling i) i)

fields_in_range : (w : ℕ) → ReadInRange (fields_in w)
unfolding fields_in
fields_in_range w =
    let low : w % 2 ^ 32 < 2 ^ 32 = omega arith in
    record {
      rd = omega arith;
      ra = omega arith;
      rb = omega arith;
      imm = sfits_to_z (Fits-bits 32 tt low);
    }

taken : (b : Bool) (i j : Instr) → then_some b i ≡ Some j → (b ≡ true) × (i ≡ j)
taken true i j e = (refl, cc)
taken false i j e = cc

-- a row that the word does not spell is no answer
accepted : (w : ℕ) (o : Option Instr) (i : Instr) → option_and_then (λ j. then_some (spelling j == w) j) o ≡ Some i → (o ≡ Some i) × (spelling i ≡ w)
accepted w None i e = cc
accepted w (Some j) i e =
    let t = taken (spelling j == w) j i e in
    let same : spelling j ≡ w = eqb-true (spelling j) w t.0 in
    (ap Some t.1, ap spelling (sym t.1) ∙ same)

-- the answer is an instruction that is spelled by the word
pub instr_of-spelled : (w : ℕ) (i : Instr) → instr_of w ≡ Some i → IsInstr i × (spelling i ≡ w)
unfolding instr_of
instr_of-spelled w i e =
    let a = accepted w (row_of (fields_in w)) i e in
    (IsInstr-row_of (fields_in w) i (fields_in_range w) a.0, a.1)

-- exactly the instruction that is spelled by the word is the answer
pub instr_of-exact : (w : ℕ) (i : Instr) → (instr_of w ≡ Some i) ↔ (IsInstr i × (spelling i ≡ w))
instr_of-exact w i = (instr_of-spelled w i, λ h. ap instr_of (sym h.1) ∙ instr_of-spelling i h.0)

pub instr_of-none : (w : ℕ) → instr_of w ≡ None → (i : Instr) → IsInstr i → spelling i ≢ w
instr_of-none w e i h s =
    let some : instr_of w ≡ Some i = ap instr_of (sym s) ∙ instr_of-spelling i h in
    cc

pub spelling-injective : (i j : Instr) → IsInstr i → IsInstr j → spelling i ≡ spelling j → i ≡ j
spelling-injective i j hi hj e =
    let first : instr_of (spelling i) ≡ Some i = instr_of-spelling i hi in
    let second : instr_of (spelling j) ≡ Some j = instr_of-spelling j hj in
    cc

pub instr_of-no_row : (w : ℕ) → row_of (fields_in w) ≡ None → instr_of w ≡ None
unfolding instr_of
instr_of-no_row w e = rw e

pub instr_of-other : (w : ℕ) (i : Instr) → row_of (fields_in w) ≡ Some i → spelling i ≢ w → instr_of w ≡ None
unfolding instr_of
instr_of-other w i e h =
    let other : (spelling i == w) ≡ false = grind (arith, nat_tests) in
    rw (e, other)
