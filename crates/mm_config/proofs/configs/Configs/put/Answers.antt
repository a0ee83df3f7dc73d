use Rattle.std.proofs.Common.{◌<◌, length, arith}
use Rattle.std.proofs.lemmas.{Option.slice_get-get_or, Result.on_ok_weaker}
use Rattle.mm_config.proofs.Standing.{has_kept, kept_long}
use Rattle.mm_config.proofs.configs.Configs.put.Goals as goal

pub get-slots-requires : goal.get-slots-requires
get-slots-requires c =
    let q = c.requires in
    let long = kept_long q.0 q.1 c.args.self.now q.2 in
    let low = q.3 in
    omega (arith, long, low)

pub put_names-requires : goal.put_names-requires
put_names-requires c =
    let q = c.requires in
    has_kept q.0 q.1 c.args.self.now q.2 c.args.at c.get-slots.result q.3 c.get-slots.ensures

pub returns : goal.returns
returns c =
    let me = c.args.self.now in
    let q = c.requires in
    let at = c.args.at in
    on_ok_weaker c.put_names.result (λ put i v h.
    let one = kept_long q.0 q.1 me q.2 in
    let two = kept_long i v me h in
    let lt : at < length v.kept = let low = q.3 in omega (arith, one, two, low) in
    let there = has_kept i v me h at c.get-slots.result lt c.get-slots.ensures in
    (there.state, slice_get-get_or v.kept at v.machine lt, put there))
    c.put_names.ensures
