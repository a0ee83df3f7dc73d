-- In which order the parts of an image's file come.
use Rattle.std.specs.Prelude.{◌≡◌, ◌++◌}
use Rattle.std.specs.List.{flat_map}
use Rattle.mm_model.specs.Image.{Image}
use Rattle.mm_format.specs.{Headers.header, Images.{header_in, slot_record, page_record, spelling}}

-- the bytes of an image are those of its header, of the records of its slots and of its pages, one after the other
abbrev pub PartsComeInOrder : Type 0
PartsComeInOrder = (i : Image) → spelling i
    ≡ header.spell (header_in i) ++ flat_map slot_record i.slots ++ flat_map page_record i.memory.pages
