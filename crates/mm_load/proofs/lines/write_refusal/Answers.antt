use Rattle.mm_load.proofs.lines.write_refusal.Goals as goal

pub returns-in-Image : goal.returns-in-Image
returns-in-Image g c = rw (c.in-Image.is, ← c.number.ensures) c.write_numbered.ensures

pub returns-in-Object : goal.returns-in-Object
returns-in-Object g c = rw (c.in-Object.is, ← c.number-in-Object.ensures) c.write_numbered-in-Object.ensures

pub returns-in-Checkpoint : goal.returns-in-Checkpoint
returns-in-Checkpoint g c = rw (c.in-Checkpoint.is) c.write_placed.ensures

pub returns-in-Links : goal.returns-in-Links
returns-in-Links g c = rw (c.in-Links.is) c.write_placed-in-Links.ensures

pub returns-in-Schedule : goal.returns-in-Schedule
returns-in-Schedule g c = rw (c.in-Schedule.is) c.write_placed-in-Schedule.ensures

pub returns-in-Crosses : goal.returns-in-Crosses
returns-in-Crosses g c = rw (c.in-Crosses.is) c.write_named-in-Crosses.ensures

pub returns-in-Held : goal.returns-in-Held
returns-in-Held g c = rw (c.in-Held.is) c.write_named-in-Held.ensures

pub returns-in-Privileged : goal.returns-in-Privileged
returns-in-Privileged g c = rw (c.in-Privileged.is) c.write_named-in-Privileged.ensures

pub returns-in-NoNode : goal.returns-in-NoNode
returns-in-NoNode g c = rw (c.in-NoNode.is) c.write_named-in-NoNode.ensures

pub returns-in-NoGroup : goal.returns-in-NoGroup
returns-in-NoGroup g c = rw (c.in-NoGroup.is) c.write_all.ensures

pub returns-in-Asm : goal.returns-in-Asm
returns-in-Asm g c = rw (c.in-Asm.is, ← c.number-in-Asm.ensures) c.write_pieces.ensures

pub returns-in-Link : goal.returns-in-Link
returns-in-Link g c = rw (c.in-Link.is) c.write_link_fault.ensures
