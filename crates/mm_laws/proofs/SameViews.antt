-- Two runs whose items of the groups are the same show them the same.
use Rattle.std.proofs.Common.{◌≡◌, ℕ, Bool, true, List, sym, ap, ◌∙◌}
use Rattle.mm_model.specs.{Memory.{Memory, cell_at, IsPaged}, Image.{Image, start}, Report.{same_cell, changes}}
use Rattle.mm_model.{specs.{Schedule.only, Run.run}, proofs.Fitted.paged_of}
use Rattle.mm_laws.specs.Isolated.{AgreeApart, SameWorlds}
use Rattle.mm_laws.proofs.{TwoLists.two_runs, SameSections.same_sections, CellViews.{Passing, same_there}}
use Rattle.mm_laws.proofs.ChangedCells.{cell_or_zero, changes_rising, in_changes, changes_in}

-- the cells that pass differ in both
passing : (P : ℕ → Type 0) (m a n b : Memory) → IsPaged m → IsPaged a → IsPaged n → IsPaged b → ((w : ℕ) → P w → cell_at m w ≡ cell_at n w) → ((w : ℕ) → P w → cell_at a w ≡ cell_at b w)
    → Passing P (changes m a) (changes n b)
passing P m a n b hm ha hn hb now was w c p is =
    let d = in_changes m a hm ha w c is in
    changes_in n b hn hb w c (record { here = sym (now w p) ∙ d.here; differs = ap (λ o. same_cell c (cell_or_zero o)) (sym (was w p)) ∙ d.differs })

pub same_worlds : (i j : Image) (c : ℕ → Bool) (s t : List ℕ) → AgreeApart i j c → only i s c ≡ only j t c → SameWorlds i j c s t
same_worlds i j c s t g e =
    let ends = two_runs i j c g s t e in
    let w = ends.worlds in
    let m : Memory = (run (start i) s).memory in
    let n : Memory = (run (start j) t).memory in
    let one : IsPaged m = paged_of i (run (start i) s) w.one_state w.one in
    let other : IsPaged n = paged_of j (run (start j) t) w.other_state w.other in
    record {
      alike = w.alike;
      view = record {
        sections = same_sections c (run (start i) s).core (run (start j) t).core w.alike.rows w.alike.outputs;
        turns = ends.lines;
        cells = λ p touched.
            same_there p (changes m i.memory) (changes n j.memory) (changes_rising m i.memory one) (changes_rising n j.memory other)
            (passing (λ v. p v ≡ true) m i.memory n j.memory one g.one.paged other g.other.paged (λ v f. w.alike.cells v (touched v f)) (λ v f. g.agree.cells v (touched v f)))
            (passing (λ v. p v ≡ true) n j.memory m i.memory other g.other.paged one g.one.paged (λ v f. sym (w.alike.cells v (touched v f))) (λ v f. sym (g.agree.cells v (touched v f))));
      };
    }
