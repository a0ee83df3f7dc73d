use Rattle.std.proofs.Common.{None, refl}
use Rattle.mm_io.proofs.Known.{writes_then, writes_cut}
use Rattle.mm_model.specs.Report.{report}
use Rattle.mm_machine.specs.Machine.{state_of}
use Rattle.mm_net.{specs.Texts.node_text, proofs.Written.is_an_error}
use Rattle.mm_net.proofs.net_text.write_node.Goals as goal

pub returns-in_err-write_pieces-clause-text : goal.returns-in_err-write_pieces-clause-text
returns-in_err-write_pieces-clause-text g c =
    let state = state_of c.args.node.now in (
      None,
      writes_cut c.in_err-write_pieces.ensures (node_text c.args.n c.args.image.now state None) (report state c.args.image.now None) refl
          c.from_residual.result (is_an_error _ c.from_residual.result c.from_residual.ensures.1),
    )

pub returns-in_err-write_pieces-clause-counts : goal.returns-in_err-write_pieces-clause-counts
returns-in_err-write_pieces-clause-counts g c us stands =
    let state = state_of c.args.node.now in
    let counts = g.M.Inspect.tells us in
    writes_cut c.in_err-write_pieces.ensures (node_text c.args.n c.args.image.now state counts) (report state c.args.image.now counts) refl
    c.from_residual.result (is_an_error _ c.from_residual.result c.from_residual.ensures.1)

pub returns-clause-text : goal.returns-clause-text
returns-clause-text g c = (c.report.ensures.text.0, writes_then c.in_ok-write_pieces.ensures c.report.ensures.text.1)

pub returns-clause-counts : goal.returns-clause-counts
returns-clause-counts g c us stands = writes_then c.in_ok-write_pieces.ensures (c.report.ensures.counts us stands)
