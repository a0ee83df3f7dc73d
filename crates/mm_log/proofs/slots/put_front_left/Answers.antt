use Rattle.std.{proofs.Common.{◌++◌, List, ap}, specs.List.flat_map}
use Rattle.mm_text.proofs.Appending.{appends_then, appends_same}
use Rattle.mm_thread.specs.declared.told.Held.{Held}
use Rattle.mm_log.specs.{Seen.{pointer_left, state_left, held_left}, Log.text_of}
use Rattle.mm_log.proofs.slots.put_front_left.Goals as goal

pub returns-else-held-eq1 : goal.returns-else-held-eq1
returns-else-held-eq1 g c =
    let was = c.args.was.now in
    let now = c.args.now.now in
    appends_same (appends_then (appends_then c.put_pointer_left.ensures c.put_state_left.ensures) c.put_all_held.ensures)
    (ap (λ (hs : List Held). text_of (pointer_left was.ip was.past now) ++ text_of (state_left was.state now) ++ flat_map (λ h. text_of (held_left now h)) hs) c.as_slice-held.ensures)
