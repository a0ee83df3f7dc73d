use Rattle.std.proofs.Common.{refl, arith}
use Rattle.std.proofs.lemmas.Option.{slice_get_within}
use Rattle.mm_config.specs.Keeping.{IsKeyOf}
use Rattle.mm_config.proofs.{Keys.{keeps_known, keeps_full, keeps_new}, Zips.zip_long}
use Rattle.mm_config.proofs.configs.Configs.keep.Goals as goal

pub overflow_cast-result : goal.overflow_cast-result
overflow_cast-result c =
    let me = c.args.self.now in
    let at = c.requires.stands in
    let h = at.2 in
    let long = zip_long (IsKeyOf at.0.slots me.depth me.store) at.1.kept me.kept h.each in
    let few = h.few in
    let low = slice_get_within me.kept c.in-Some.at (me.names.slots, me.rest) c.in-Some.ensures.found in
    omega (arith, long, few, low)

pub returns-in-Some : goal.returns-in-Some
returns-in-Some c =
    let me = c.args.self.now in
    λ i v h. keeps_known i v me c.apart.ensures h c.args.limit c.in-Some.at c.in-Some.ensures.found

pub returns-then-len-limit : goal.returns-then-len-limit
returns-then-len-limit c =
    let me = c.args.self.now in
    let high = c.if-len-limit.true in
    let all = c.len.ensures in
    λ i v h. keeps_full i v me c.apart.ensures h c.args.limit c.in_default.ensures.absent (omega (arith, high, all))

pub returns : goal.returns
returns c =
    let me = c.args.self.now in
    let low = c.if-len-limit.false in
    let all = c.len.ensures in
    λ i v h. keeps_new i v me c.apart.ensures h c.args.limit (record me { kept = c.push.new.self }) c.in_default.ensures.absent (omega (arith, low, all)) c.requires.few refl c.in_ok-push.ensures
