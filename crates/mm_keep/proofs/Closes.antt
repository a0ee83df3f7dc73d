-- What is closed under the rules has each derived fact.
use Rattle.std.proofs.Common.{List}
use Rattle.mm_model.specs.Image.{Image}
use Rattle.mm_kernel.specs.Segments.{Segment}
use Rattle.mm_kernel.specs.Facts.{Fact, Fact.{HasThread, HasForm, HasDoor, HasEvent, HasFaulted}}
use Rattle.mm_kernel.specs.Derived.{Derived}
use Rattle.mm_kernel.specs.Derived.Derived.{begins_in_cell, begins_in_slot, reaches, enters, turns, loads, stores}
use Rattle.mm_kernel.specs.{Derived.Derived.{takes, resumes, reads_served, writes_served}}
use Rattle.mm_keep.specs.{Claims.{Tables, HoldsFact}, Closed.IsClosed}

pub holds_derived : (i : Image) (kept : List Segment) (tables : Tables) → IsClosed i kept tables → (fact : Fact) → Derived i kept fact → HoldsFact i kept tables fact
holds_derived i kept tables c fact (begins_in_cell w cell at inside) = c.begins_in_cell w cell at fact inside
holds_derived i kept tables c fact (begins_in_slot s runs inside) = c.begins_in_slot s runs fact inside
holds_derived i kept tables c _ (reaches p live across) = c.reaches p live across
holds_derived i kept tables c fact (enters door ip s d entered runs inside) =
    c.enters door ip s (holds_derived i kept tables c (HasDoor door) d) entered runs fact inside
holds_derived i kept tables c fact (turns t o d comes inside) =
    c.turns t o (holds_derived i kept tables c (HasThread t) d) comes fact inside
holds_derived i kept tables c fact (loads t next part reg w f d comes form lies inside) =
    c.loads t next part reg w f (holds_derived i kept tables c (HasThread t) d) comes
    (holds_derived i kept tables c (HasForm w f) form) lies fact inside
holds_derived i kept tables c _ (stores t part w cell f d comes at kept_word lies) =
    c.stores t part w cell f (holds_derived i kept tables c (HasThread t) d) comes at kept_word lies
holds_derived i kept tables c fact (takes t next h reg e d origin comes event inside) =
    c.takes t next h reg e (holds_derived i kept tables c (HasThread t) d) origin comes
    (holds_derived i kept tables c (HasEvent h e) event) fact inside
holds_derived i kept tables c fact (resumes t u next h how d origin comes faulted is inside) =
    c.resumes t u next h how (holds_derived i kept tables c (HasThread t) d) origin comes
    (holds_derived i kept tables c (HasFaulted h u) faulted) is fact inside
holds_derived i kept tables c fact (reads_served t u next h reg from d origin comes faulted inside) =
    c.reads_served t u next h reg from (holds_derived i kept tables c (HasThread t) d) origin comes
    (holds_derived i kept tables c (HasFaulted h u) faulted) fact inside
holds_derived i kept tables c _ (writes_served t u h reg f d origin comes faulted) =
    c.writes_served t u h reg f (holds_derived i kept tables c (HasThread t) d) origin comes
    (holds_derived i kept tables c (HasFaulted h u) faulted)
