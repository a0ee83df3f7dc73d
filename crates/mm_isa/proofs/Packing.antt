-- The fields of a word, both ways.
use Rattle.std.proofs.Common.{◌≡◌, ℕ, ◌+◌, ◌*◌, ◌/◌, ◌%◌, ◌^◌, ◌<◌, bit_and, bit_or, ℤ, FitsSigned, arith, ap, ◌∙◌}
use Rattle.std.proofs.lemmas.{Nat.{or_shifted, and_mask}, Int.{ints, to_z-of_z, of_z-to_z}}
use Rattle.std.specs.Int.{w32, cast_signed, cast_unsigned}
use Rattle.mm_isa.specs.{declared.fields.Fields.Fields, Table.{FitInWord, packed}, Decode.fields_in}

-- six fields side by side
abbrev side_by_side : ℕ → ℕ → ℕ → ℕ → ℕ → ℕ → ℕ
side_by_side o d a b c i = o * 2 ^ 56 + d * 2 ^ 52 + a * 2 ^ 48 + b * 2 ^ 44 + c * 2 ^ 40 + i

operation_at : (o d a b c i : ℕ) → d < 16 → a < 16 → b < 16 → c < 16 → i < 2 ^ 32 → side_by_side o d a b c i / 2 ^ 56 ≡ o
operation_at o d a b c i hd ha hb hc hi = omega arith

rd_at : (o d a b c i : ℕ) → d < 16 → a < 16 → b < 16 → c < 16 → i < 2 ^ 32 → side_by_side o d a b c i / 2 ^ 52 % 16 ≡ d
rd_at o d a b c i hd ha hb hc hi = omega arith

ra_at : (o d a b c i : ℕ) → a < 16 → b < 16 → c < 16 → i < 2 ^ 32 → side_by_side o d a b c i / 2 ^ 48 % 16 ≡ a
ra_at o d a b c i ha hb hc hi = omega arith

rb_at : (o d a b c i : ℕ) → b < 16 → c < 16 → i < 2 ^ 32 → side_by_side o d a b c i / 2 ^ 44 % 16 ≡ b
rb_at o d a b c i hb hc hi = omega arith

c_at : (o d a b c i : ℕ) → c < 16 → i < 2 ^ 32 → side_by_side o d a b c i / 2 ^ 40 % 16 ≡ c
c_at o d a b c i hc hi = omega arith

imm_at : (o d a b c i : ℕ) → i < 2 ^ 32 → side_by_side o d a b c i % 2 ^ 32 ≡ i
imm_at o d a b c i hi = omega arith

pub cast_below : (z : ℤ) → FitsSigned w32 z → cast_unsigned w32 z < 2 ^ 32
cast_below z h = omega (arith, ints)

-- fields that fit are read again from the word that they make
pub fields_in-packed : (f : Fields) → FitInWord f → fields_in (packed f) ≡ f
unfolding fields_in packed
fields_in-packed f h =
    let i : ℕ = cast_unsigned w32 f.imm in
    let hi : i < 2 ^ 32 = cast_below f.imm h.imm in
    let imm : cast_signed w32 (packed f % 2 ^ 32) ≡ f.imm = ap (cast_signed w32) (imm_at f.operation f.rd f.ra f.rb f.c i hi) ∙ to_z-of_z w32 f.imm h.imm in
    rw (
      operation_at f.operation f.rd f.ra f.rb f.c i h.rd h.ra h.rb h.c hi,
      rd_at f.operation f.rd f.ra f.rb f.c i h.rd h.ra h.rb h.c hi,
      ra_at f.operation f.rd f.ra f.rb f.c i h.ra h.rb h.c hi,
      rb_at f.operation f.rd f.ra f.rb f.c i h.rb h.c hi,
      c_at f.operation f.rd f.ra f.rb f.c i h.c hi,
      imm,
    )

-- six shifted fields joined bit by bit
pub or_fields : (o d a b c i : ℕ) → o < 256 → d < 16 → a < 16 → b < 16 → c < 16 → i < 2 ^ 32 →
    bit_or (bit_or (bit_or (bit_or (bit_or (o * 2 ^ 56 % 2 ^ 64) (d * 2 ^ 52 % 2 ^ 64)) (a * 2 ^ 48 % 2 ^ 64)) (b * 2 ^ 44 % 2 ^ 64)) (c * 2 ^ 40 % 2 ^ 64)) i
    ≡ side_by_side o d a b c i
or_fields o d a b c i ho hd ha hb hc hi =
    let eo : o * 2 ^ 56 % 2 ^ 64 ≡ o * 2 ^ 56 = omega arith in
    let ed : d * 2 ^ 52 % 2 ^ 64 ≡ d * 2 ^ 52 = omega arith in
    let ea : a * 2 ^ 48 % 2 ^ 64 ≡ a * 2 ^ 48 = omega arith in
    let eb : b * 2 ^ 44 % 2 ^ 64 ≡ b * 2 ^ 44 = omega arith in
    let ec : c * 2 ^ 40 % 2 ^ 64 ≡ c * 2 ^ 40 = omega arith in
    let j1 : o * 2 ^ 56 + d * 2 ^ 52 ≡ (o * 16 + d) * 2 ^ 52 = omega arith in
    let j2 : (o * 16 + d) * 2 ^ 52 + a * 2 ^ 48 ≡ ((o * 16 + d) * 16 + a) * 2 ^ 48 = omega arith in
    let j3 : ((o * 16 + d) * 16 + a) * 2 ^ 48 + b * 2 ^ 44 ≡ (((o * 16 + d) * 16 + a) * 16 + b) * 2 ^ 44 = omega arith in
    let j4 : (((o * 16 + d) * 16 + a) * 16 + b) * 2 ^ 44 + c * 2 ^ 40 ≡ ((((o * 16 + d) * 16 + a) * 16 + b) * 16 + c) * 2 ^ 40 = omega arith in
    rw (
      eo,
      ed,
      ea,
      eb,
      ec,
      or_shifted o 56 (d * 2 ^ 52) (omega arith),
      j1,
      or_shifted (o * 16 + d) 52 (a * 2 ^ 48)
          (omega arith),
      j2,
      or_shifted ((o * 16 + d) * 16 + a) 48 (b * 2 ^ 44) (omega arith),
      j3,
      or_shifted
          (((o * 16 + d) * 16 + a) * 16 + b) 44 (c * 2 ^ 40) (omega arith),
      j4,
      or_shifted
          ((((o * 16 + d) * 16 + a) * 16 + b) * 16 + c) 40 i (omega arith),
    )
    (omega arith)

-- the bits that the code joins
pub joined_is_packed : (f : Fields) (o d a b c i : ℕ) → FitInWord f →
    o ≡ f.operation → d ≡ f.rd → a ≡ f.ra → b ≡ f.rb → c ≡ f.c → i ≡ cast_unsigned w32 (cast_signed w32 (cast_unsigned w32 f.imm)) →
    bit_or (bit_or (bit_or (bit_or (bit_or (o * 2 ^ 56 % 2 ^ 64) (d * 2 ^ 52 % 2 ^ 64)) (a * 2 ^ 48 % 2 ^ 64)) (b * 2 ^ 44 % 2 ^ 64)) (c * 2 ^ 40 % 2 ^ 64)) i
    ≡ packed f
unfolding packed
joined_is_packed f o d a b c i h eo ed ea eb ec ei =
    let imm : i ≡ cast_unsigned w32 f.imm = ei ∙ of_z-to_z w32 (cast_unsigned w32 f.imm) (cast_below f.imm h.imm) in
    rw (eo, ed, ea, eb, ec, imm)
    (or_fields f.operation f.rd f.ra f.rb f.c (cast_unsigned w32 f.imm) h.operation h.rd h.ra h.rb h.c (cast_below f.imm h.imm))

-- the fields that the code cuts from a word
pub cut_fields : (w d a b : ℕ) (i : ℤ) → w < 2 ^ 64 →
    d ≡ w / 2 ^ 52 % 16 → a ≡ w / 2 ^ 48 % 16 → b ≡ w / 2 ^ 44 % 16 → i ≡ cast_signed w32 (bit_and w 0xffff_ffff) →
    record { operation = w / 2 ^ 56; rd = d; ra = a; rb = b; c = bit_and (w / 2 ^ 40) 15; imm = cast_signed w32 (cast_unsigned w32 i) } ≡ fields_in w
unfolding fields_in
cut_fields w d a b i h ed ea eb ei =
    let low : w % 2 ^ 32 < 2 ^ 32 = omega arith in
    let imm : cast_signed w32 (cast_unsigned w32 i) ≡ cast_signed w32 (w % 2 ^ 32) =
    ap (λ z. cast_signed w32 (cast_unsigned w32 z)) (ei ∙ ap (cast_signed w32) (and_mask w 32)) ∙ ap (cast_signed w32) (of_z-to_z w32 (w % 2 ^ 32) low)
    in
    rw (ed, ea, eb, and_mask (w / 2 ^ 40) 4, imm)
