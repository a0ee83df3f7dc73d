use Rattle.std.{proofs.Common.{◌≡◌, ◌<◌, ◌^◌, drop}, specs.Str.Parse.{AllDigits, digits_value_after, digits_value}}
use Rattle.mm_line.proofs.number.value_of.Given as goal

abbrev pub invariant-loop-digit : goal.invariant-loop-digit
invariant-loop-digit l = record {
  same : digits_value_after l.radix l.value (drop l.digit-index l.digits) ≡ digits_value l.radix l.digits;
  all : AllDigits l.radix (drop l.digit-index l.digits);
  fits : l.value < 2 ^ 64;
}
