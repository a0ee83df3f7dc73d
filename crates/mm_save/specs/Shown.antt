-- The value of a recorder that contracts see.
use Rattle.mm_mem.specs.declared.memory.Memory.{Ghosts}
use Rattle.mm_debug.specs.Shown.{session_of}
use Rattle.mm_save.specs.{declared.recorder.Recorder.Recorder, Recorder.Recording, Recorded.recording_by}

module _ {M : Type 0} {memory : Ghosts M} where
  -- the recorder's session, as it is and as it began, and the totals in its ring
  abbrev pub recording_of : Recorder M memory → Recording
  recording_of r = recording_by (session_of r.session) r.start r.ring.items
