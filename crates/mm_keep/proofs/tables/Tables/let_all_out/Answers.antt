use Rattle.mm_keep.proofs.Letting.{lets_all, lets_more}
use Rattle.mm_keep.proofs.tables.Tables.let_all_out.Goals as goal

pub loop-form-preserved : goal.loop-form-preserved
loop-form-preserved c =
    let k = c.args.kernel.now in
    lets_more k.image k.kept c.args.self.now c.let_out.new.self c.args.forms.now c.loop-form.form-index c.form-item.result c.loop-form.self c.loop-form-test.true c.form-item.is
    c.loop-form.invariant c.in_ok-let_out.ensures

pub returns : goal.returns
returns c =
    let k = c.args.kernel.now in
    lets_all k.image k.kept c.args.self.now c.loop-form.self c.args.forms.now c.loop-form.form-index c.loop-form-test.false c.loop-form.invariant
