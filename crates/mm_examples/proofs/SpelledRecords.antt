-- Bytes of records of images and objects, computed.
use Rattle.std.proofs.Common.{refl}
use Rattle.mm_format.specs.{Formats.cons, Headers.header, Images.{mask, bits, word, ip, slot, page}}
use Rattle.mm_object.specs.Format.{name_fields, name_row, bits_row, item_row, log_row, count_row, segment_row, perm_row}
use Rattle.mm_object.specs.Format.{target_row, reloc_fields, good_reloc, integer_row, pointer_row, thread_fields}
use Rattle.mm_object.specs.Format.{good_thread, header_row}
use Rattle.mm_examples.specs.WorkedRecords.{SpellsImageHeaders, SpellsSlots, SpellsPages}
use Rattle.mm_examples.specs.WorkedObjects.{SpellsObjectHeaders, SpellsSegments, SpellsRelocations, SpellsThreads}

pub spells_image_headers : SpellsImageHeaders
unfolding cons header
spells_image_headers = refl

pub spells_object_headers : SpellsObjectHeaders
unfolding cons header_row
spells_object_headers = refl

pub spells_slots : SpellsSlots
unfolding cons mask word ip slot
spells_slots = refl

pub spells_pages : SpellsPages
unfolding cons bits word page
spells_pages = refl

pub spells_segments : SpellsSegments
unfolding cons name_fields name_row bits_row item_row log_row count_row segment_row
spells_segments = refl

pub spells_relocations : SpellsRelocations
unfolding cons perm_row target_row reloc_fields good_reloc
spells_relocations = refl

pub spells_threads : SpellsThreads
unfolding cons mask perm_row target_row integer_row pointer_row thread_fields good_thread
spells_threads = refl
