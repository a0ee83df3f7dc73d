use Rattle.mm_object.proofs.fits.pointers_fit.Goals as goal

pub returns-then-threads_fit : goal.returns-then-threads_fit
returns-then-threads_fit c = (
  λ t. record { words = c.relocs_fit.ensures.0 c.if-not-relocs_fit.false; starts = c.threads_fit.ensures.0 c.if-threads_fit.true; whole = c.hold_values.ensures; used = c.are_used.ensures.0 t },
  λ fit. c.are_used.ensures.1 fit.used,
)
