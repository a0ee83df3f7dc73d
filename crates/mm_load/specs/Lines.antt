-- What an answer writes to standard error.
use Rattle.std.specs.Prelude.{ℕ, List, [], ◌++◌, codes, decimal}
use Rattle.mm_image.specs.Faults.{number_of}
use Rattle.mm_line.specs.{Faults.{number_of as fault_number}}
use Rattle.mm_object.specs.{Answers.{number_of as object_number}}
use Rattle.mm_link.specs.declared.fault.LinkFault.{LinkFault}
use Rattle.mm_link.specs.declared.fault.LinkFault.TheVariants.{Twice, Undefined, Offset, SlotTwice, NoThread, Handler}
use Rattle.mm_link.specs.{declared.fault.LinkFault.TheVariants.TooLarge, Faults.{number_of as link_number}}
use Rattle.mm_load.specs.declared.status.Refusal.TheVariants.{TooLong, Image, Schedule, Object, Asm, Link, NoGroup}
use Rattle.mm_load.specs.declared.status.Refusal.TheVariants.{Crosses, Held, Privileged, Checkpoint, Links, NoNode}
use Rattle.mm_load.specs.declared.status.Status.{Status}
use Rattle.mm_load.specs.declared.status.Status.TheVariants.{Done, Usage, Refused, ReadFault, WriteFault, NoMemory}

-- what a fault of linking names: a name, a slot, or `-` if it names neither
abbrev pub named_by : LinkFault → List ℕ
named_by (Twice name) = name
named_by (Undefined name) = name
named_by (Offset name) = name
named_by (SlotTwice slot) = decimal slot
named_by NoThread = codes "-"
named_by (Handler slot) = decimal slot
named_by TooLarge = codes "-"

-- the front of the line of a file that is refused
abbrev pub in_file : ℕ → List ℕ
in_file file = codes "mmachine: file " ++ decimal file

-- the line of an answer; nothing if the command is done
abbrev pub line_of : Status → List ℕ
line_of Done = []
line_of Usage = codes "mmachine: usage\n"
line_of (Refused (TooLong file)) = in_file file ++ codes " too long\n"
line_of (Refused (Image file fault offset)) =
    in_file file ++ codes " image fault " ++ decimal (number_of fault) ++ codes " at " ++ decimal offset ++ codes "\n"
line_of (Refused (Schedule file offset)) = in_file file ++ codes " schedule fault at " ++ decimal offset ++ codes "\n"
line_of (Refused (Object file fault offset)) =
    in_file file ++ codes " object fault " ++ decimal (object_number fault) ++ codes " at " ++ decimal offset
    ++ codes "\n"
line_of (Refused (Link fault)) = codes "mmachine: link fault " ++ decimal (link_number fault) ++ codes " "
    ++ named_by fault ++ codes "\n"
line_of (Refused (Asm fault line column)) =
    codes "mmachine: source fault " ++ decimal (fault_number fault) ++ codes " at " ++ decimal line ++ codes ":"
    ++ decimal column ++ codes "\n"
line_of (Refused NoGroup) = codes "mmachine: no group\n"
line_of (Refused (Crosses slot)) = codes "mmachine: crosses slot " ++ decimal slot ++ codes "\n"
line_of (Refused (Held slot)) = codes "mmachine: held slot " ++ decimal slot ++ codes "\n"
line_of (Refused (Privileged group)) = codes "mmachine: privileged group " ++ decimal group ++ codes "\n"
line_of (Refused (Checkpoint file offset)) =
    in_file file ++ codes " checkpoint fault at " ++ decimal offset ++ codes "\n"
line_of (Refused (Links file offset)) = in_file file ++ codes " links fault at " ++ decimal offset ++ codes "\n"
line_of (Refused (NoNode link)) = codes "mmachine: no node link " ++ decimal link ++ codes "\n"
line_of ReadFault = codes "mmachine: read fault\n"
line_of WriteFault = codes "mmachine: write fault\n"
line_of NoMemory = codes "mmachine: out of memory\n"
