-- From texts to a run: what `asm`, `link` and `run` do one after the other.
use Rattle.std.specs.Prelude.{◌≡◌, ℕ, List, [], ◌∷◌, map, Option, ⊤}
use Rattle.mm_model.specs.{declared.counts.Counts.Counts, Uses.Use, Image.Image, Report.report_after}
use Rattle.mm_object.specs.Objects.{Object}
use Rattle.mm_link.specs.Linked.{Linked, image_of}
use Rattle.mm_cli.specs.declared.table.Kind.TheVariants.{Source as source_file, Object as object_file}
use Rattle.mm_cli.{specs.declared.table.Kind.TheVariants.Image as image_file}
use Rattle.mm_load.specs.Kinds.{Value, an_image, an_object, Accepts}
use Rattle.mm_top.specs.{Commands.{asm, link, run, Yields, YieldsAlone}, Orders.AreIssued}

-- The text means an object, `asm` wrote a file of it, and a value is read from the file.
pub record Assembles (text : List ℕ) (o : Object) (file : List ℕ) (v : Object) : Type 0 where
  pub name : List ℕ
  pub means : Accepts source_file [] text (an_object o)
  pub written : YieldsAlone (asm name) (an_object o ∷ []) file
  pub before : List Value
  pub read : Accepts object_file before file (an_object v)

-- `asm` wrote a file of each text, and a value is read from each file
abbrev pub AssembleAll : (texts : List (List ℕ)) (objects : List Object) (files : List (List ℕ)) (values : List Object)
    → Type 0
AssembleAll [] [] [] [] = ⊤
AssembleAll (text ∷ texts) (o ∷ objects) (file ∷ files) (v ∷ values) = Assembles text o file v
    × AssembleAll texts objects files values
AssembleAll _ _ _ _ = ⊥

-- What is read back and what is run, if `link` wrote an image of such values.
pub record RunsTexts (objects values : List Object) (i : Image) : Type 0 where
  -- The values are the objects that the texts mean.
  pub same : values ≡ objects
  -- The image is the one that the objects link to.
  pub linked : Linked objects i
  -- What `run` writes of the image is the report of the run of the objects' image.
  pub runs : (tells : List Use → Option Counts) (name : List ℕ) (cycles : ℕ) (schedule : Option (List ℕ))
      (lists : List Value) (text : List ℕ)
      → Yields tells (run name cycles schedule) (an_image i ∷ lists) text
      → (items : List ℕ) × AreIssued (image_of objects) cycles lists items
      × (text ≡ report_after tells (image_of objects) items)

-- if texts mean objects, and `link` writes an image from the files that `asm` wrote of the texts, the image that is
-- read from it is the one that the objects link to, and `run` writes the report of its run
abbrev pub TextsAreRun : Type 0
TextsAreRun = (texts : List (List ℕ)) (objects : List Object) (files : List (List ℕ)) (values : List Object)
    (names : List (List ℕ)) (bytes : List ℕ) (i : Image)
    → AssembleAll texts objects files values → YieldsAlone (link names) (map an_object values) bytes
    → Accepts image_file [] bytes (an_image i)
    → RunsTexts objects values i
