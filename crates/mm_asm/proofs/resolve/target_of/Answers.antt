use Rattle.std.proofs.Common.{[], length, ap, ◌∙◌, sym, arith}
use Rattle.mm_draft.specs.Drafts.{place_of}
use Rattle.mm_object.specs.Objects.{ascend, is_among}
use Rattle.mm_asm.specs.Names.{externals_of, uses_of, position_of}
use Rattle.mm_asm.proofs.{Order.rising_ascends, ExternalNames.externals_rise, LateTargets.{here_fits, elsewhere_fits}}
use Rattle.mm_asm.proofs.resolve.target_of.Goals as goal

pub position_of-external-requires-clause-up : goal.position_of-external-requires-clause-up
position_of-external-requires-clause-up c =
    let d = c.args.draft.now in
    ap ascend c.requires.names ∙ rising_ascends (externals_of d) (externals_rise d (uses_of d) [] tt)

pub position_of-external-requires-clause-among : goal.position_of-external-requires-clause-among
position_of-external-requires-clause-among c =
    let d = c.args.draft.now in
    let name = c.bytes-name.result.now in
    let none = ap (place_of d) (sym c.bytes-name.ensures) ∙ sym c.place_of.ensures ∙ c.in-None.is in
    ap (is_among name) c.requires.names ∙ ap (λ n. is_among n (externals_of d)) c.bytes-name.ensures ∙ c.requires.fits.known none

pub here-requires : goal.here-requires
here-requires c =
    let r = here_fits c.args.draft.now c.args.target.now c.bytes-name.result.now c.in-Some.location c.bytes-name.ensures (sym c.place_of.ensures ∙ c.in-Some.is) c.requires.fits in
    record { segment = r.0; offset = r.1 }

pub elsewhere-requires : goal.elsewhere-requires
elsewhere-requires c =
    let d = c.args.draft.now in
    let h = elsewhere_fits d c.args.target.now c.bytes-name.result.now c.bytes-name.ensures (sym c.place_of.ensures ∙ c.in-None.is) c.requires.fits in
    let location = c.position_of-external.ensures ∙ ap (position_of c.bytes-name.result.now) c.requires.names in
    omega (arith, h, location, ap length c.segments.ensures)
