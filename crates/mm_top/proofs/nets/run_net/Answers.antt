use Rattle.std.proofs.Common.{◌≡◌, ℕ, ◌≤◌, List, [], ◌∷◌, length, take, slice_get, String, Ok, refl, sym, ap, ◌∙◌}
use Rattle.std.{proofs.Common.{subst, arith, append-nil}, specs.declared.alloc.Global.Global}
use Rattle.mm_word.specs.Adding.{adds_both}
use Rattle.mm_model.specs.Image.{Image}
use Rattle.mm_net.specs.Texts.{net_text}
use Rattle.mm_top.specs.Nodes.{NoneLacking, JoinRefused}
use Rattle.mm_top.proofs.{Rows.{row_stops, row_ends}, NamedFiles.{named, several_named}}
use Rattle.mm_cli.specs.declared.table.Kind.TheVariants.{Links as links_file, Events as events_file}
use Rattle.mm_cli.specs.{declared.table.Kind.TheVariants.Image as image_file, Arguments.name_of}
use Rattle.mm_cli.proofs.ArgumentWords.{named_few}
use Rattle.mm_load.{specs.{Kinds.{a_links, an_events}, Files.{FilesRead, reading}}, proofs.Reading.files_then}
use Rattle.mm_top.proofs.nets.run_net.Goals as goal

pub returns-in_err-links : goal.returns-in_err-links
returns-in_err-links g c = row_stops _ c.from_residual.result (named c.name_at.ensures (c.in_err-links.ensures.read [] refl)) refl refl c.from_residual.ensures.1

pub returns-in_err-events : goal.returns-in_err-events
returns-in_err-events g c =
    row_stops _ c.from_residual-in_err-events.result
    (files_then (named c.name_at.ensures (c.in_ok-links.ensures.read [] refl)) (named c.name_at-2.ensures (c.in_err-events.ensures.read (a_links c.in_ok-links.links ∷ []) refl))
    (record { kept = c.load_file.ensures.kept; counts = refl; later = c.load_file.ensures.later; asked = λ names more one two. adds_both one two }))
    refl refl c.from_residual-in_err-events.ensures.1

pub returns-in_err-images : goal.returns-in_err-images
returns-in_err-images g c =
    let ls = c.in_ok-links.links in
    let es = c.in_ok-events.events in
    let both : FilesRead (reading g.F.Files.held g.F.Files.faults g.F.Files.asked c.args.files.now
    c.load_file-2.new.files) [] ((name_of (slice_get c.args.words.now 0), links_file) ∷
    (name_of (slice_get c.args.words.now 1), events_file) ∷ [])
    (λ es. a_links ls ∷ an_events es ∷ []) (Ok es) =
    files_then (named c.name_at.ensures (c.in_ok-links.ensures.read [] refl)) (named c.name_at-2.ensures (c.in_ok-events.ensures.read (a_links ls ∷ []) refl))
    (record { kept = c.load_file.ensures.kept; counts = refl; later = c.load_file.ensures.later; asked = λ names more one two. adds_both one two }) in
    row_stops [] c.from_residual-in_err-images.result
    (files_then both (several_named image_file c.names_at.ensures (c.in_err-images.ensures.read (a_links ls ∷ an_events es ∷ []) refl))
    (record {
      kept = c.load_file-2.ensures.kept ∙ c.load_file.ensures.kept;
      counts = refl;
      later = λ n. omega
          (arith, c.load_file.ensures.later n, c.load_file-2.ensures.later n);
      asked = λ names more one two. adds_both
          one two;
    }))
    (sym (append-nil _))
    refl c.from_residual-in_err-images.ensures.1

pub returns : goal.returns
returns g c =
    let ls = c.in_ok-links.links in
    let es = c.in_ok-events.events in
    let images = c.in_ok-images.images.items in
    let both : FilesRead (reading g.F.Files.held g.F.Files.faults g.F.Files.asked c.args.files.now
    c.load_file-2.new.files) [] ((name_of (slice_get c.args.words.now 0), links_file) ∷
    (name_of (slice_get c.args.words.now 1), events_file) ∷ [])
    (λ es. a_links ls ∷ an_events es ∷ []) (Ok es) =
    files_then (named c.name_at.ensures (c.in_ok-links.ensures.read [] refl)) (named c.name_at-2.ensures (c.in_ok-events.ensures.read (a_links ls ∷ []) refl))
    (record { kept = c.load_file.ensures.kept; counts = refl; later = c.load_file.ensures.later; asked = λ names more one two. adds_both one two }) in
    row_ends _ _
    (files_then both (several_named image_file c.names_at.ensures (c.in_ok-images.ensures.read (a_links ls ∷ an_events es ∷ []) refl))
    (record {
      kept = c.load_file-2.ensures.kept ∙ c.load_file.ensures.kept;
      counts = refl;
      later = λ n. omega
          (arith, c.load_file.ensures.later n, c.load_file-2.ensures.later n);
      asked = λ names more one two. adds_both
          one two;
    }))
    refl
    c.write_net.ensures
    (λ r no. (images, refl, subst (λ (is : List Image). JoinRefused ls (length is) r) c.deref.ensures.value no))
    (λ text is. (
      images,
      refl,
      subst (λ (is : List Image). NoneLacking ls (length is)) c.deref.ensures.value is.0,
      subst (λ (n : ℕ). text ≡ net_text g.M.Inspect.tells ls images (take n es)) c.number_at.ensures
          (subst (λ (is : List Image). text ≡ net_text g.M.Inspect.tells ls is (take c.number_at.result es)) c.deref.ensures.value is.1),
    ))

pub load_images-requires-clause-few : goal.load_images-requires-clause-few
load_images-requires-clause-few g c =
    let few = subst (λ (names : List (String Global)). (1 ≤ length names) × (length names ≤ 8)) (sym c.names_at.ensures) (named_few image_file 8 _ c.requires.1.1.1) in
    omega (arith, few.1)

pub write_net-requires-clause-some : goal.write_net-requires-clause-some
write_net-requires-clause-some g c =
    let few = subst (λ (names : List (String Global)). (1 ≤ length names) × (length names ≤ 8)) (sym c.names_at.ensures) (named_few image_file 8 _ c.requires.1.1.1) in
    omega (arith, few.0, c.in_ok-images.ensures.count, ap (λ (is : List Image). length is) c.deref.ensures.value)

pub write_net-requires-clause-few : goal.write_net-requires-clause-few
write_net-requires-clause-few g c =
    let few = subst (λ (names : List (String Global)). (1 ≤ length names) × (length names ≤ 8)) (sym c.names_at.ensures) (named_few image_file 8 _ c.requires.1.1.1) in
    omega (arith, few.1, c.in_ok-images.ensures.count, ap (λ (is : List Image). length is) c.deref.ensures.value)
