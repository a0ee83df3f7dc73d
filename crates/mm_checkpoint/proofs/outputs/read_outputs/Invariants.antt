use Rattle.std.proofs.Common.{◌≡◌, map, drop}
use Rattle.mm_format.{specs.Formats.each, proofs.Loops.prefixed}
use Rattle.mm_checkpoint.specs.{Format.output, Steps.put_out}
use Rattle.mm_checkpoint.proofs.outputs.read_outputs.Given as goal

abbrev pub invariant-loop-group : goal.invariant-loop-group
invariant-loop-group l = record {
  read : prefixed (map put_out l.outputs.items)
      ((each (output l.limit) (drop l.group-index l.groups)).read l.reader.bytes.now l.reader.at)
      ≡ (each (output l.limit) l.groups).read l.initial.reader.bytes.now l.initial.reader.at;
  same : l.reader.bytes.now ≡ l.initial.reader.bytes.now;
}
