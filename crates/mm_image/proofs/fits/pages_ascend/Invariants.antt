use Rattle.std.proofs.Common.{drop, ◌↔◌}
use Rattle.mm_model.proofs.Bytes.Rising.{AreRisingFrom}
use Rattle.mm_image.proofs.fits.pages_ascend.Given as goal

abbrev pub invariant-loop-page : goal.invariant-loop-page
invariant-loop-page l = AreRisingFrom 0 l.pages ↔ AreRisingFrom l.least (drop l.page-index l.pages)
