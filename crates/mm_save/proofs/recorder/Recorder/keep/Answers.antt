use Rattle.std.proofs.Common.{◌≡◌, ℕ, ◌++◌, [], ◌∷◌, map, inl, ◌≤◌, true, false, option_copied, sym, ap, ap₂, subst}
use Rattle.std.proofs.{Common.{◌∙◌, arith}, lemmas.Bool.Decides.nat_tests}
use Rattle.circular_buffer.specs.Buffer.{Buffer, keep_last}
use Rattle.mm_debug.specs.{Shown.session_of, Standing.{Point, total_at}}
use Rattle.mm_save.specs.Recorder.{newest, is_far}
use Rattle.mm_save.proofs.{Backing.far_apart, Recalled.keeps_point, RingTotals.{kept_totals, newest_some, newest_none}}
use Rattle.mm_save.proofs.recorder.Recorder.keep.Goals.{in-Some, in-None}
use Rattle.mm_save.proofs.recorder.Recorder.keep.Goals as goal

pub invariant_of-self : goal.invariant_of-self
invariant_of-self g c =
    let self = c.args.self.now in
    let pushed = c.push_back.ensures.items in
    record {
      within = rw (pushed, self.size)
          (keeps_point (session_of self.session) self.start c.in-Ok.point self.ring.items 8 self.session.machine.valid c.in-Ok.ensures.point
          c.in-Ok.ensures.fits self.within);
      size = ap (λ (b : Buffer Point). b.capacity) pushed ∙ self.size;
    }

pub returns-in-Ok-clause-kept : goal.returns-in-Ok-clause-kept
returns-in-Ok-clause-kept g c = (
  λ far.
      let self = c.args.self.now in
      inl (ap (λ (b : Buffer Point). map total_at b.items) c.push_back.ensures.items
      ∙ ap (λ (size : ℕ). map total_at (keep_last size (self.ring.items ++ c.in-Ok.point ∷ []))) self.size
      ∙ kept_totals 8 (session_of self.session) c.in-Ok.point self.ring.items c.in-Ok.ensures.point),
  λ near.
      let ring = c.args.self.now.ring.items in
      let newest_is : c.match-back.newest ≡ newest (map total_at ring) = elim c.match-back.branch [
        | in-Some w ↦ w.newest-is ∙ w.total-newest.ensures ∙ sym (newest_some ring _ (sym c.back.ensures ∙ ap option_copied w.in-Some.is))
        | in-None w ↦ w.newest-is ∙ sym (newest_none ring (sym c.back.ensures ∙ ap option_copied w.in-None.is))
      ] in
      let apart : 1000 ≤ c.abs_diff.result = grind (arith, nat_tests) in
      let is_apart = far_apart c.match-back.newest c.total.result (subst (λ (n : ℕ). 1000 ≤ n) c.abs_diff.ensures apart) in
      let clash : true ≡ false = sym is_apart ∙ ap₂ is_far newest_is c.total.ensures.total ∙ near in
      cc,
)
