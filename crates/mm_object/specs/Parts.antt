-- In which order the parts of an object's file come.
use Rattle.std.specs.Prelude.{◌≡◌, ◌++◌}
use Rattle.std.specs.List.{flat_map}
use Rattle.mm_object.specs.Objects.{Object}
use Rattle.mm_object.specs.Format.{header_row, header_in, segment_record, name_record, reloc_record, thread_record, spelling}

-- the bytes of an object are those of its header, and of the records of its segments, of its externals, of its
-- relocations and of its threads, one after the other
abbrev pub PartsComeInOrder : Type 0
PartsComeInOrder = (o : Object) → spelling o
    ≡ header_row.spell (header_in o) ++ flat_map segment_record o.segments ++ flat_map name_record o.externals
    ++ flat_map reloc_record o.relocs ++ flat_map thread_record o.threads
