use Rattle.std.proofs.{Common.{◌+◌, ◌-◌, arith, ◌∙◌}, Math.ListN.length-set}
use Rattle.mm_text.proofs.HexDigits.{hex_step, hex_done}
use Rattle.mm_text.proofs.line.Line.put_hex.Goals as goal

pub loop-preserved : goal.loop-preserved
loop-preserved c = record {
  place = omega arith;
  room = omega arith;
  inside = omega arith;
  whole = omega (arith, length-set c.loop.self-inside.bytes (c.loop.start - 1) c.glyph.result);
  digits = hex_step (c.args.digits - c.loop.counter) (c.args.digits - (c.loop.counter + 1)) c.loop.rest c.loop.start c.loop.self-inside.bytes c.glyph.result
      (omega arith) (omega arith) (omega arith) c.glyph.ensures ∙ c.loop.invariant.digits;
}

pub returns : goal.returns
returns c = hex_done (c.args.digits - c.loop.counter) c.loop.rest (omega arith) c.loop.invariant.digits
