use Rattle.mm_why.proofs.Named.{by_cell, by_below, by_from, by_store, by_load, by_entered, by_served, by_made}
use Rattle.mm_why.proofs.prune.moved.Goals as goal

pub place_of-requires : goal.place_of-requires
place_of-requires c = c.requires _ (by_cell _ _ _ c.in-Cell.is)

pub place_of-requires-in-Below : goal.place_of-requires-in-Below
place_of-requires-in-Below c = c.requires _ (by_below _ _ c.in-Below.is)

pub place_of-requires-in-Passed : goal.place_of-requires-in-Passed
place_of-requires-in-Passed c = c.requires _ (by_from _ _ _ _ _ c.in-Passed.is)

pub place_of-requires-in-Passed-2 : goal.place_of-requires-in-Passed-2
place_of-requires-in-Passed-2 c = c.requires _ (by_store _ _ _ _ _ c.in-Passed.is)

pub place_of-requires-in-Passed-3 : goal.place_of-requires-in-Passed-3
place_of-requires-in-Passed-3 c = c.requires _ (by_load _ _ _ _ _ c.in-Passed.is)

pub place_of-requires-in-Entered : goal.place_of-requires-in-Entered
place_of-requires-in-Entered c = c.requires _ (by_entered _ _ c.in-Entered.is)

pub place_of-requires-in-Served : goal.place_of-requires-in-Served
place_of-requires-in-Served c = c.requires _ (by_served _ _ _ c.in-Served.is)

pub place_of-requires-in-Made : goal.place_of-requires-in-Made
place_of-requires-in-Made c = c.requires _ (by_made _ _ c.in-Made.is)
