use Rattle.std.proofs.Common.{◌≡◌, ◌+◌, ◌++◌, ◌∷◌, [], ℕ, List, length, map, Err, Ok, refl, ◌∙◌, subst, arith}
use Rattle.std.proofs.{Common.length-append, lemmas.{List.length-map, Result.err_from_is_err_and}}
use Rattle.mm_word.specs.Adding.{adds_both}
use Rattle.mm_load.{specs.Files.{FilesRead, reading}, proofs.Several.{value_more, value_stops, values_asked}}
use Rattle.mm_load.proofs.each.load_each.Goals as goal

pub loop-at-preserved : goal.loop-at-preserved
loop-at-preserved g c =
    let loaded = c.loop-at.loaded.items in
    record {
      count = omega (arith, c.in_ok-push.ensures.len, c.loop-at.invariant.count);
      kept = c.load_file.ensures.kept ∙ c.loop-at.invariant.kept;
      later = λ n. omega (arith, c.loop-at.invariant.later n, c.load_file.ensures.later n);
      read = λ before counted.
          let number : c.args.first + c.loop-at.at ≡ length (before ++ map g.T.FromFile.meaning loaded) + 1 = omega (
            arith,
            length-append before (map g.T.FromFile.meaning loaded),
            length-map loaded g.T.FromFile.meaning,
            c.loop-at.invariant.count,
          ) in
          let P : List ℕ → Type 0 = λ text. FilesRead (reading g.F.Files.held g.F.Files.faults g.F.Files.asked
          c.loop-at.files c.load_file.new.files) (before ++ map g.T.FromFile.meaning loaded)
          ((text, g.T.FromFile.of_kind) ∷ []) (λ x. g.T.FromFile.meaning x ∷ []) (Ok c.in_ok-one.one) in
          value_more g.T.FromFile.of_kind g.T.FromFile.meaning c.args.names.now c.loop-at.at c.index-names-at.result
          loaded _ c.in_ok-one.one c.loop-at-test.true c.index-names-at.is c.in_ok-push.ensures.items
          (c.loop-at.invariant.read before counted)
          (subst P c.as_str.ensures.value (c.in_ok-one.ensures.read (before ++ map g.T.FromFile.meaning loaded) number))
          (record { kept = c.loop-at.invariant.kept; counts = refl; later = c.loop-at.invariant.later; asked = λ names more one two. adds_both one two });
    }

pub returns-in_err-push-clause-read : goal.returns-in_err-push-clause-read
returns-in_err-push-clause-read g c before counted =
    let loaded = c.loop-at.loaded.items in
    let number : c.args.first + c.loop-at.at ≡ length (before ++ map g.T.FromFile.meaning loaded) + 1 = omega (
      arith,
      length-append before (map g.T.FromFile.meaning loaded),
      length-map loaded g.T.FromFile.meaning,
      c.loop-at.invariant.count,
    ) in
    let P : List ℕ → Type 0 = λ text. FilesRead (reading g.F.Files.held g.F.Files.faults g.F.Files.asked c.loop-at.files
    c.load_file.new.files) (before ++ map g.T.FromFile.meaning loaded) ((text, g.T.FromFile.of_kind) ∷ [])
    (λ x. g.T.FromFile.meaning x ∷ []) (Ok c.in_ok-one.one) in
    let p = err_from_is_err_and c.from_residual-in_err-push.result c.from_residual-in_err-push.ensures.1 in
    rw (p.1, p.2) (
    record {
      accepted = tt;
      stopped = tt;
      whole = tt;
      asked = values_asked g.T.FromFile.of_kind g.T.FromFile.meaning c.args.names.now c.loop-at.at
          c.index-names-at.result loaded _ _ c.loop-at-test.true c.index-names-at.is
          (c.loop-at.invariant.read before counted)
          (subst P c.as_str.ensures.value (c.in_ok-one.ensures.read (before ++ map g.T.FromFile.meaning loaded) number))
          (record { kept = c.loop-at.invariant.kept; counts = refl; later = c.loop-at.invariant.later; asked = λ names more one two. adds_both one two });
    }
    )

pub returns-in_err-one-clause-read : goal.returns-in_err-one-clause-read
returns-in_err-one-clause-read g c before counted =
    let loaded = c.loop-at.loaded.items in
    let number : c.args.first + c.loop-at.at ≡ length (before ++ map g.T.FromFile.meaning loaded) + 1 = omega (
      arith,
      length-append before (map g.T.FromFile.meaning loaded),
      length-map loaded g.T.FromFile.meaning,
      c.loop-at.invariant.count,
    ) in
    let P : List ℕ → Type 0 = λ text. FilesRead (reading g.F.Files.held g.F.Files.faults g.F.Files.asked c.loop-at.files
    c.load_file.new.files) (before ++ map g.T.FromFile.meaning loaded) ((text, g.T.FromFile.of_kind) ∷ [])
    (λ x. g.T.FromFile.meaning x ∷ []) (Err c.in_err-one.field-0.0) in
    value_stops g.T.FromFile.of_kind g.T.FromFile.meaning c.args.names.now c.loop-at.at c.index-names-at.result loaded _
    _ c.from_residual.result c.loop-at-test.true c.index-names-at.is (c.loop-at.invariant.read before counted)
    (subst P c.as_str.ensures.value (c.in_err-one.ensures.read (before ++ map g.T.FromFile.meaning loaded) number))
    (record { kept = c.loop-at.invariant.kept; counts = refl; later = c.loop-at.invariant.later; asked = λ names more one two. adds_both one two }) c.from_residual.ensures.1
