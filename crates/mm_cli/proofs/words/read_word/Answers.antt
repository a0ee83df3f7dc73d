use Rattle.std.proofs.Common.{◌∷◌, [], ℕ, List, refl, sym, ap, ◌∙◌, subst}
use Rattle.mm_cli.specs.declared.table.Parameter.{Parameter}
use Rattle.mm_cli.specs.Words.{file_word, number_word, groups_word, segments_word, mode_word, use_word, FitsParameter}
use Rattle.mm_cli.specs.Words.{IsOfParameter}
use Rattle.mm_cli.specs.declared.words.Word.TheVariants as read
use Rattle.mm_cli.proofs.words.read_word.Goals as goal

pub returns-in-File : goal.returns-in-File
returns-in-File c =
    let name = c.as_str.result.now in
    let fits : FitsParameter c.args.parameter (file_word c.in-File.kind name) = subst (λ (parameter : Parameter). FitsParameter parameter (file_word c.in-File.kind name)) (sym c.in-File.is) refl in (
      file_word c.in-File.kind name,
      subst
          (λ (parameter : Parameter). IsOfParameter parameter (read.File c.in-File.kind c.as_str.result)) (sym c.in-File.is) refl,
      refl,
      fits,
      ap (λ (text : List ℕ). text ∷ []) (sym c.as_str.ensures.value),
    )

pub returns-in_ok-read_number-in-Number : goal.returns-in_ok-read_number-in-Number
returns-in_ok-read_number-in-Number c =
    let n = c.in_ok-read_number-in-Number.field-0 in
    let argument = c.in_ok-read_number-in-Number.ensures in
    let fits : FitsParameter c.args.parameter (number_word n) = subst (λ (parameter : Parameter). FitsParameter parameter (number_word n)) (sym c.in-Number.is) (argument.1, argument.2) in (
      number_word n,
      subst (λ (parameter : Parameter). IsOfParameter parameter (read.Number n)) (sym c.in-Number.is) (argument.1, argument.2),
      refl,
      fits,
      ap (λ (text : List ℕ). text ∷ []) (sym c.as_bytes.ensures.value ∙ argument.0),
    )

pub returns-in_ok-read_groups-in-Groups : goal.returns-in_ok-read_groups-in-Groups
returns-in_ok-read_groups-in-Groups c =
    let groups = c.in_ok-read_groups-in-Groups.field-0.items in
    let argument = c.in_ok-read_groups-in-Groups.ensures in
    let fits : FitsParameter c.args.parameter (groups_word groups) = subst (λ (parameter : Parameter). FitsParameter parameter (groups_word groups)) (sym c.in-Groups.is) argument.1 in (
      groups_word groups,
      subst (λ (parameter : Parameter). IsOfParameter parameter (read.Groups c.in_ok-read_groups-in-Groups.field-0))
          (sym c.in-Groups.is) argument.1,
      refl,
      fits,
      ap (λ (text : List ℕ). text ∷ [])
          (sym c.as_bytes-in-Groups.ensures.value ∙ argument.0),
    )

pub returns-in_ok-read_segments-in-Segments : goal.returns-in_ok-read_segments-in-Segments
returns-in_ok-read_segments-in-Segments c =
    let segments = c.in_ok-read_segments-in-Segments.field-0.items in
    let argument = c.in_ok-read_segments-in-Segments.ensures in
    let fits : FitsParameter c.args.parameter (segments_word segments) = subst (λ (parameter : Parameter). FitsParameter parameter (segments_word segments)) (sym c.in-Segments.is) argument.1 in (
      segments_word segments,
      subst (λ (parameter : Parameter). IsOfParameter parameter (read.Segments c.in_ok-read_segments-in-Segments.field-0))
          (sym c.in-Segments.is) argument.1,
      refl,
      fits,
      ap (λ (text : List ℕ). text ∷ [])
          (sym c.as_bytes-in-Segments.ensures.value ∙ argument.0),
    )

pub returns-in_ok-read_mode-in-Mode : goal.returns-in_ok-read_mode-in-Mode
returns-in_ok-read_mode-in-Mode c =
    let split = c.in_ok-read_mode-in-Mode.field-0 in
    let argument = c.in_ok-read_mode-in-Mode.ensures in
    let fits : FitsParameter c.args.parameter (mode_word split) = subst (λ (parameter : Parameter). FitsParameter parameter (mode_word split)) (sym c.in-Mode.is) tt in (
      mode_word split,
      subst (λ (parameter : Parameter). IsOfParameter parameter (read.Mode split)) (sym c.in-Mode.is) tt,
      refl,
      fits,
      ap (λ (text : List ℕ). text ∷ []) (sym c.as_str-in-Mode.ensures.value ∙ argument),
    )

pub returns-in_ok-read_address-in-Address : goal.returns-in_ok-read_address-in-Address
returns-in_ok-read_address-in-Address c =
    let n = c.in_ok-read_address-in-Address.field-0 in
    let argument = c.in_ok-read_address-in-Address.ensures in
    let fits : FitsParameter c.args.parameter (number_word n) = subst (λ (parameter : Parameter). FitsParameter parameter (number_word n)) (sym c.in-Address.is) argument.1 in (
      number_word n,
      subst (λ (parameter : Parameter). IsOfParameter parameter (read.Number n)) (sym c.in-Address.is) argument.1,
      refl,
      fits,
      ap (λ (text : List ℕ). text ∷ []) (sym c.as_bytes-in-Address.ensures.value ∙ argument.0),
    )

pub returns-in_ok-read_use-in-Use : goal.returns-in_ok-read_use-in-Use
returns-in_ok-read_use-in-Use c =
    let how = c.in_ok-read_use-in-Use.field-0 in
    let argument = c.in_ok-read_use-in-Use.ensures in
    let fits : FitsParameter c.args.parameter (use_word how) = subst (λ (parameter : Parameter). FitsParameter parameter (use_word how)) (sym c.in-Use.is) tt in (
      use_word how,
      subst (λ (parameter : Parameter). IsOfParameter parameter (read.Use how)) (sym c.in-Use.is) tt,
      refl,
      fits,
      ap (λ (text : List ℕ). text ∷ []) (sym c.as_str-in-Use.ensures.value ∙ argument),
    )
