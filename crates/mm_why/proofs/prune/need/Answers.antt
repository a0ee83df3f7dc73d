use Rattle.std.proofs.Common.{arith}
use Rattle.mm_why.proofs.Named.{by_cell, by_below, by_from, by_store, by_load, by_entered, by_served, by_made}
use Rattle.mm_why.proofs.prune.need.Goals as goal

pub note-requires : goal.note-requires
note-requires c = c.requires _ (by_cell _ _ _ c.in-Cell.is)

pub note-requires-in-Below : goal.note-requires-in-Below
note-requires-in-Below c = c.requires _ (by_below _ _ c.in-Below.is)

pub note-requires-in-Passed : goal.note-requires-in-Passed
note-requires-in-Passed c = c.requires _ (by_from _ _ _ _ _ c.in-Passed.is)

pub note-requires-in-Passed-2 : goal.note-requires-in-Passed-2
note-requires-in-Passed-2 c =
    let n = c.requires _ (by_store _ _ _ _ _ c.in-Passed.is) in let l = c.note-in-Passed.auto.needed in omega (arith, l, n)

pub note-requires-in-Passed-3 : goal.note-requires-in-Passed-3
note-requires-in-Passed-3 c =
    let n = c.requires _ (by_load _ _ _ _ _ c.in-Passed.is) in
    let l = c.note-in-Passed.auto.needed in
    let m = c.note-in-Passed-2.auto.needed in
    omega (arith, l, m, n)

pub note-requires-in-Entered : goal.note-requires-in-Entered
note-requires-in-Entered c = c.requires _ (by_entered _ _ c.in-Entered.is)

pub note-requires-in-Served : goal.note-requires-in-Served
note-requires-in-Served c = c.requires _ (by_served _ _ _ c.in-Served.is)

pub note-requires-in-Made : goal.note-requires-in-Made
note-requires-in-Made c = c.requires _ (by_made _ _ c.in-Made.is)
