-- The rows of the instructions that most words spell, each by the bits that it leaves zero.
use Rattle.std.proofs.Common.{◌≡◌, ℕ, ◌+◌, ◌*◌, ◌/◌, ◌%◌, ◌^◌, ◌<◌, ◌==◌, true, Some, arith, refl, ap, eq-eqb}
use Rattle.std.{proofs.lemmas.{Bool.eqb-true, Int.of_z-to_z}, specs.{Bool.then_some, Int.{w32, cast_signed, cast_unsigned}}}
use Rattle.mm_isa.specs.declared.instr.{AluOp.TheVariants.{Add, Sub}, Instr.{Instr, TheVariants.{Ldi, Mov, Alu, Addi, Lea, Leai}}}
use Rattle.mm_isa.specs.declared.instr.Instr.TheVariants.{Ld, St, Br, Bz, Bnz}
use Rattle.mm_isa.specs.{Table.{packed, spelling, pre_code, post_code}, Decode.{fields_in, rows, row_of, instr_of, pre_in, post_in}}
use Rattle.mm_isa.proofs.Operands.{post_small}
use Rattle.mm_word.specs.declared.word.{Pre.Pre, Post.Post}

-- a row that the word spells
row_spelled : (w : ℕ) (i : Instr) → row_of (fields_in w) ≡ Some i → spelling i ≡ w → instr_of w ≡ Some i
unfolding instr_of
row_spelled w i row same = rw row (ap (λ b. then_some b i) (eq-eqb (spelling i) w same))

constant : (w : ℕ) → cast_unsigned w32 (cast_signed w32 (w % 2 ^ 32)) ≡ w % 2 ^ 32
constant w = of_z-to_z w32 (w % 2 ^ 32) (omega arith)

pub c_small : (w : ℕ) → (fields_in w).c < 16
unfolding fields_in
c_small w = omega arith

pub ldi_spelled : (w : ℕ) → w < 2 ^ 64 → (fields_in w).operation ≡ 0x02 → (w / 2 ^ 32 % 2 ^ 20 == 0) ≡ true →
    instr_of w ≡ Some (Ldi (fields_in w).rd (fields_in w).imm)
unfolding row_of rows fields_in packed
ldi_spelled w low e z0 =
    let row : row_of (fields_in w) ≡ Some (Ldi (w / 2 ^ 52 % 16) (cast_signed w32 (w % 2 ^ 32))) = rw e refl in
    row_spelled w _ row (omega (arith, eqb-true (w / 2 ^ 32 % 2 ^ 20) 0 z0, constant w, low, e))

pub mov_spelled : (w : ℕ) → w < 2 ^ 64 → (fields_in w).operation ≡ 0x04 → (w / 2 ^ 0 % 2 ^ 48 == 0) ≡ true →
    instr_of w ≡ Some (Mov (fields_in w).rd (fields_in w).ra)
unfolding row_of rows fields_in packed
mov_spelled w low e z0 =
    let row : row_of (fields_in w) ≡ Some (Mov (w / 2 ^ 52 % 16) (w / 2 ^ 48 % 16)) = rw e refl in
    row_spelled w _ row (omega (arith, eqb-true (w / 2 ^ 0 % 2 ^ 48) 0 z0, low, e))

pub add_spelled : (w : ℕ) → w < 2 ^ 64 → (fields_in w).operation ≡ 0x10 → (w / 2 ^ 0 % 2 ^ 44 == 0) ≡ true →
    instr_of w ≡ Some (Alu Add (fields_in w).rd (fields_in w).ra (fields_in w).rb)
unfolding row_of rows fields_in packed
add_spelled w low e z0 =
    let row : row_of (fields_in w) ≡ Some (Alu Add (w / 2 ^ 52 % 16) (w / 2 ^ 48 % 16) (w / 2 ^ 44 % 16)) = rw e refl in
    row_spelled w _ row (omega (arith, eqb-true (w / 2 ^ 0 % 2 ^ 44) 0 z0, low, e))

pub sub_spelled : (w : ℕ) → w < 2 ^ 64 → (fields_in w).operation ≡ 0x11 → (w / 2 ^ 0 % 2 ^ 44 == 0) ≡ true →
    instr_of w ≡ Some (Alu Sub (fields_in w).rd (fields_in w).ra (fields_in w).rb)
unfolding row_of rows fields_in packed
sub_spelled w low e z0 =
    let row : row_of (fields_in w) ≡ Some (Alu Sub (w / 2 ^ 52 % 16) (w / 2 ^ 48 % 16) (w / 2 ^ 44 % 16)) = rw e refl in
    row_spelled w _ row (omega (arith, eqb-true (w / 2 ^ 0 % 2 ^ 44) 0 z0, low, e))

pub addi_spelled : (w : ℕ) → w < 2 ^ 64 → (fields_in w).operation ≡ 0x1e → (w / 2 ^ 32 % 2 ^ 16 == 0) ≡ true →
    instr_of w ≡ Some (Addi (fields_in w).rd (fields_in w).ra (fields_in w).imm)
unfolding row_of rows fields_in packed
addi_spelled w low e z0 =
    let row : row_of (fields_in w) ≡ Some (Addi (w / 2 ^ 52 % 16) (w / 2 ^ 48 % 16) (cast_signed w32 (w % 2 ^ 32))) = rw e refl in
    row_spelled w _ row (omega (arith, eqb-true (w / 2 ^ 32 % 2 ^ 16) 0 z0, constant w, low, e))

pub lea_spelled : (w : ℕ) → w < 2 ^ 64 → (fields_in w).operation ≡ 0x20 → (w / 2 ^ 0 % 2 ^ 44 == 0) ≡ true →
    instr_of w ≡ Some (Lea (fields_in w).rd (fields_in w).ra (fields_in w).rb)
unfolding row_of rows fields_in packed
lea_spelled w low e z0 =
    let row : row_of (fields_in w) ≡ Some (Lea (w / 2 ^ 52 % 16) (w / 2 ^ 48 % 16) (w / 2 ^ 44 % 16)) = rw e refl in
    row_spelled w _ row (omega (arith, eqb-true (w / 2 ^ 0 % 2 ^ 44) 0 z0, low, e))

pub leai_spelled : (w : ℕ) → w < 2 ^ 64 → (fields_in w).operation ≡ 0x21 → (w / 2 ^ 32 % 2 ^ 16 == 0) ≡ true →
    instr_of w ≡ Some (Leai (fields_in w).rd (fields_in w).ra (fields_in w).imm)
unfolding row_of rows fields_in packed
leai_spelled w low e z0 =
    let row : row_of (fields_in w) ≡ Some (Leai (w / 2 ^ 52 % 16) (w / 2 ^ 48 % 16) (cast_signed w32 (w % 2 ^ 32))) = rw e refl in
    row_spelled w _ row (omega (arith, eqb-true (w / 2 ^ 32 % 2 ^ 16) 0 z0, constant w, low, e))

pub ld_spelled : (w : ℕ) (p : Pre) (q : Post) → w < 2 ^ 64 → (fields_in w).operation ≡ 0x30 → (w / 2 ^ 44 % 2 ^ 4 == 0) ≡ true → (w / 2 ^ 32 % 2 ^ 8 == 0) ≡ true
    → p ≡ pre_in (fields_in w).c → q ≡ post_in (fields_in w).c → pre_code p * 4 + post_code q ≡ (fields_in w).c
    → instr_of w ≡ Some (Ld (fields_in w).rd (fields_in w).ra p q (fields_in w).imm)
unfolding row_of rows fields_in packed
ld_spelled w p q low e z0 z1 pre post again =
    let row : row_of (fields_in w) ≡ Some (Ld (w / 2 ^ 52 % 16) (w / 2 ^ 48 % 16) p q (cast_signed w32 (w % 2 ^ 32))) = rw (e, pre, post) refl in
    row_spelled w _ row (omega (arith, eqb-true (w / 2 ^ 44 % 2 ^ 4) 0 z0, eqb-true (w / 2 ^ 32 % 2 ^ 8) 0 z1, constant w, again, post_small q, low, e))

pub st_spelled : (w : ℕ) (p : Pre) (q : Post) → w < 2 ^ 64 → (fields_in w).operation ≡ 0x31 → (w / 2 ^ 52 % 2 ^ 4 == 0) ≡ true → (w / 2 ^ 32 % 2 ^ 8 == 0) ≡ true
    → p ≡ pre_in (fields_in w).c → q ≡ post_in (fields_in w).c → pre_code p * 4 + post_code q ≡ (fields_in w).c
    → instr_of w ≡ Some (St (fields_in w).ra (fields_in w).rb p q (fields_in w).imm)
unfolding row_of rows fields_in packed
st_spelled w p q low e z0 z1 pre post again =
    let row : row_of (fields_in w) ≡ Some (St (w / 2 ^ 48 % 16) (w / 2 ^ 44 % 16) p q (cast_signed w32 (w % 2 ^ 32))) = rw (e, pre, post) refl in
    row_spelled w _ row (omega (arith, eqb-true (w / 2 ^ 52 % 2 ^ 4) 0 z0, eqb-true (w / 2 ^ 32 % 2 ^ 8) 0 z1, constant w, again, post_small q, low, e))

pub br_spelled : (w : ℕ) → w < 2 ^ 64 → (fields_in w).operation ≡ 0x40 → (w / 2 ^ 32 % 2 ^ 24 == 0) ≡ true →
    instr_of w ≡ Some (Br (fields_in w).imm)
unfolding row_of rows fields_in packed
br_spelled w low e z0 =
    let row : row_of (fields_in w) ≡ Some (Br (cast_signed w32 (w % 2 ^ 32))) = rw e refl in
    row_spelled w _ row (omega (arith, eqb-true (w / 2 ^ 32 % 2 ^ 24) 0 z0, constant w, low, e))

pub bz_spelled : (w : ℕ) → w < 2 ^ 64 → (fields_in w).operation ≡ 0x41 → (w / 2 ^ 52 % 2 ^ 4 == 0) ≡ true → (w / 2 ^ 32 % 2 ^ 16 == 0) ≡ true →
    instr_of w ≡ Some (Bz (fields_in w).ra (fields_in w).imm)
unfolding row_of rows fields_in packed
bz_spelled w low e z0 z1 =
    let row : row_of (fields_in w) ≡ Some (Bz (w / 2 ^ 48 % 16) (cast_signed w32 (w % 2 ^ 32))) = rw e refl in
    row_spelled w _ row (omega (arith, eqb-true (w / 2 ^ 52 % 2 ^ 4) 0 z0, eqb-true (w / 2 ^ 32 % 2 ^ 16) 0 z1, constant w, low, e))

pub bnz_spelled : (w : ℕ) → w < 2 ^ 64 → (fields_in w).operation ≡ 0x42 → (w / 2 ^ 52 % 2 ^ 4 == 0) ≡ true → (w / 2 ^ 32 % 2 ^ 16 == 0) ≡ true →
    instr_of w ≡ Some (Bnz (fields_in w).ra (fields_in w).imm)
unfolding row_of rows fields_in packed
bnz_spelled w low e z0 z1 =
    let row : row_of (fields_in w) ≡ Some (Bnz (w / 2 ^ 48 % 16) (cast_signed w32 (w % 2 ^ 32))) = rw e refl in
    row_spelled w _ row (omega (arith, eqb-true (w / 2 ^ 52 % 2 ^ 4) 0 z0, eqb-true (w / 2 ^ 32 % 2 ^ 16) 0 z1, constant w, low, e))

-- for the decoder of these
pub ruleset common_rows = (ldi_spelled, mov_spelled, add_spelled, sub_spelled, addi_spelled, lea_spelled, leai_spelled, ld_spelled, st_spelled, br_spelled, bz_spelled, bnz_spelled)
