use Rattle.std.proofs.{Common.{◌≡◌, List, [], ◌∷◌, ◌++◌, map, refl, ap, ◌∙◌}, lemmas.Result.err_from_is_err_and}
use Rattle.mm_format.proofs.Loops.{each_more, each_stop, each_read}
use Rattle.mm_image.specs.Faults.{number_of}
use Rattle.mm_thread.specs.Output.{Output}
use Rattle.mm_checkpoint.specs.{Format.output, Steps.put_out}
use Rattle.mm_checkpoint.proofs.outputs.read_outputs.Goals as goal

put_more : (os : List Output) (o : Output) → map put_out (os ++ o ∷ []) ≡ map put_out os ++ put_out o ∷ []
put_more [] o = refl
put_more (x ∷ os) o = ap (λ rest. put_out x ∷ rest) (put_more os o)

pub returns-in_err-output : goal.returns-in_err-output
returns-in_err-output c =
    let p = err_from_is_err_and c.from_residual-in_err-output.result c.from_residual-in_err-output.ensures.1 in
    let l = c.loop-group in
    let stopped = each_stop (output c.args.limit) c.args.groups.now l.group-index 0 l.reader.bytes.now l.reader.at
    (map put_out l.outputs.items) _ l.invariant.read c.loop-group-test.true number_of _ c.in_err-output.field-0.0
    c.in_err-output.ensures.read.0 in
    record { read = (rw (p.1, p.2) stopped, c.in_err-output.ensures.read.1 ∙ l.invariant.same) }

pub loop-group-preserved : goal.loop-group-preserved
loop-group-preserved c =
    let l = c.loop-group in
    let a = c.in_ok-output.output in
    record {
      read = rw (c.in_ok-output.ensures.read.1, c.in_ok-push.ensures.items, put_more l.outputs.items a)
          (each_more (output c.args.limit) c.args.groups.now l.group-index 0 l.reader.bytes.now l.reader.at
          (map put_out l.outputs.items) _ l.invariant.read c.loop-group-test.true (put_out a)
          c.read_output.new.reader.at c.in_ok-output.ensures.read.0);
      same = c.in_ok-output.ensures.read.1 ∙ l.invariant.same;
    }

pub returns : goal.returns
returns c =
    let l = c.loop-group in
    let read = each_read (output c.args.limit) c.args.groups.now l.group-index 0 l.reader.bytes.now l.reader.at
    (map put_out l.outputs.items) _ l.invariant.read c.loop-group-test.false in
    record { read = (read, l.invariant.same) }
