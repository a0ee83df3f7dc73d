use Rattle.std.proofs.Common.{◌≡◌, ◌+◌, ◌-◌, ◌≤◌, ◌++◌, length, drop}
use Rattle.mm_model.specs.Digits.{hex}
use Rattle.mm_text.proofs.line.Line.put_hex.Given as goal

abbrev pub invariant-loop : goal.invariant-loop
invariant-loop l = record {
  place : l.start + l.counter ≡ l.self-inside.start;
  room : l.digits ≤ l.self-inside.start;
  inside : l.self-inside.start ≤ 128;
  whole : length l.self-inside.bytes ≡ 128;
  digits : hex (l.digits - l.counter) l.rest ++ drop l.start l.self-inside.bytes ≡ hex l.digits l.number ++ l.fn.self;
}
