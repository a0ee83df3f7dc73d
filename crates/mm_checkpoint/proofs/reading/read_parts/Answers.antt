use Rattle.std.proofs.{Common.{ℕ, List, map, sym, ap, ◌∙◌}, lemmas.Result.err_from_is_err_and}
use Rattle.mm_model.specs.{declared.event.Event.Event, Slot.Slot}
use Rattle.mm_format.specs.{Formats.{Parsed, after, Parsed.Got}, Reading.Fails}
use Rattle.mm_format.specs.declared.reader.ReadError.{ReadError, TheVariants.{Fault, NoMemory}}
use Rattle.mm_image.specs.{declared.fault.ImageFault.ImageFault, Faults.number_of}
use Rattle.mm_checkpoint.specs.{Checkpoints.Saved, Faults.said_of, Format.{Contents, contents_from, saved_in}}
use Rattle.mm_checkpoint.specs.{Reading.{in_order, events_of}, Steps.put_out}
use Rattle.mm_checkpoint.proofs.reading.read_parts.Goals as goal

abbrev said : Parsed Contents → Parsed Saved
said o = after o (λ c next. Got (saved_in c) next)

fails : (o : Parsed Contents) (e : ReadError ImageFault) → Fails number_of o e → Fails number_of (said o) e
fails o (Fault kind at) h = ap said h
fails o NoMemory h = tt

pub returns-in_err-file-clause-parts : goal.returns-in_err-file-clause-parts
unfolding said_of
returns-in_err-file-clause-parts c =
    let p = err_from_is_err_and c.from_residual.result c.from_residual.ensures.1 in
    rw (p.1, p.2) (fails _ c.in_err-file.field-0.0 c.in_err-file.ensures.read)

pub returns-clause-parts : goal.returns-clause-parts
unfolding said_of
returns-clause-parts c =
    let f = c.in_ok-file.file in
    let next = c.in_ok-file.ensures.read.0 in
    let make : List Slot → List (ℕ × Event) → Parsed Saved = λ slots events. Got (record {
      slots = slots;
      events = events;
      outputs = map put_out f.outputs.items;
      pages = f.pages.items;
      cycles = f.head.cycles;
      last = f.head.last;
    }) next in
    let read = saved_in (contents_from f.head f.rows.items (map put_out f.outputs.items) f.pages.items) in
    let events = c.in_ok-events.ensures
    ∙ ap events_of (c.deref-2.ensures.value ∙ c.in_ok-sorted.ensures
    ∙ ap in_order (c.deref.ensures.value ∙ c.in_ok-file.ensures.waiting)) in (
      next,
      ap said c.in_ok-file.ensures.read.1
          ∙ sym (ap (λ slots. make slots c.in_ok-events.events.items) c.in_ok-slots_of.ensures
          ∙ ap (make read.slots) events),
    )
