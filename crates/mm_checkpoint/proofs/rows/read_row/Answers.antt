use Rattle.std.proofs.Common.{rules, ◌≡◌, ◌==◌, ◌&&◌, not, ℕ, Bool, false, cond, is_some, refl, ap, ◌∙◌}
use Rattle.mm_format.specs.{Formats.{Parsed, after, tried, Parsed.{Got, Bad}}, Images.{mask, flags_of}}
use Rattle.mm_checkpoint.specs.{Tests.{is_bad_state, is_bad_cause}, Format.slot_row}
use Rattle.mm_checkpoint.proofs.rows.read_row.Goals as goal

-- a field that is read, and what is read after it
field : {A B : Type 0} (read : Parsed A) (rest : A → ℕ → Parsed B) (all : Parsed B) (a : A) (next : ℕ)
    → read ≡ Got a next → rest a next ≡ all → after read rest ≡ all
field read rest all a next e others = ap (λ o. after o rest) e ∙ others

passed : {A : Type 0} (number at : ℕ) (bad : A → Bool) (read : Parsed A) (a : A) (next : ℕ)
    → read ≡ Got a next → bad a ≡ false → tried number at bad read ≡ Got a next
passed number at bad read a next e right =
    ap (tried number at bad) e ∙ ap (λ b. cond b (Bad number at) (Got a next)) right

pub returns : goal.returns
unfolding slot_row mask
returns c =
    let s = c.args.known.now in
    let s1 = c.in_ok-state.ensures.read.1 in
    let s2 = c.in_ok-cause.ensures.read.1 ∙ s1 in
    let s3 = c.in_ok-place.ensures.read.1 ∙ s2 in
    let s4 = c.in_ok-past.ensures.read.1 ∙ s3 in
    let s5 = c.in_ok-turns.ensures.read.1 ∙ s4 in
    let s6 = c.in_ok-ip.ensures.read.1 ∙ s5 in
    let s7 = c.in_ok-tags.ensures.read.1 ∙ s6 in
    let s8 = c.in_ok-empty.ensures.read.1 ∙ s7 in
    let s9 = c.in_ok-regs.ensures.read.1 ∙ s8 in
    let s10 = c.in_ok-address.ensures.read.1 ∙ s9 in
    let s11 = c.in_ok-value.ensures.read.1 ∙ s10 in
    let s12 = c.in_ok-count.ensures.read.1 ∙ s11 in
    let state : is_bad_state (is_some s.handler) c.in_ok-state.state ≡ false = search rules in
    let cause : is_bad_cause c.in_ok-state.state c.in_ok-cause.cause ≡ false = search rules in
    let place : not (c.in_ok-state.state == 1) && not (c.in_ok-place.place == 0) ≡ false =
    elim c.if-not-waits.branch [ goal.then-not-waits w ↦ search rules | goal.else-not-waits w ↦ search rules ] in
    let empty : not c.args.split && not (c.in_ok-empty.empty == 0) ≡ false =
    elim c.if-not-split.branch [ goal.then-not-split w ↦ search rules | goal.else-not-split w ↦ search rules ] in
    record {
      read = (
        field _ _ _ c.in_ok-state.state _ (passed 8 _ _ _ _ _ c.in_ok-state.ensures.read.0 state)
            (field _ _ _ c.in_ok-cause.cause _ (passed 4 _ _ _ _ _ (rw s1 at c.in_ok-cause.ensures.read.0) cause)
            (field _ _ _ c.in_ok-place.place _ (passed 7 _ _ _ _ _ (rw s2 at c.in_ok-place.ensures.read.0) place)
            (field _ _ _ c.in_ok-past.past _ (rw s3 at c.in_ok-past.ensures.read.0)
            (field _ _ _ c.in_ok-turns.turns _ (rw s4 at c.in_ok-turns.ensures.read.0)
            (field _ _ _ c.in_ok-ip.ip _ (rw s5 at c.in_ok-ip.ensures.read.0)
            (field _ _ _ (flags_of c.in_ok-tags.tags) _ (field _ _ _ c.in_ok-tags.tags _ (rw s6 at c.in_ok-tags.ensures.read.0) refl)
            (field _ _ _ c.in_ok-empty.empty _ (passed 4 _ _ _ _ _ (rw s7 at c.in_ok-empty.ensures.read.0) empty)
            (field _ _ _ c.in_ok-regs.regs _ (rw s8 at c.in_ok-regs.ensures.read.0)
            (field _ _ _ c.in_ok-address.address _ (rw s9 at c.in_ok-address.ensures.read.0)
            (field _ _ _ c.in_ok-value.value _ (rw s10 at c.in_ok-value.ensures.read.0)
            (field _ _ _ c.in_ok-count.count _ (rw s11 at c.in_ok-count.ensures.read.0)
            (field _ _ _ c.in_ok-pending.pending.items _ (rw s12 at c.in_ok-pending.ensures.read.0)
            (elim c.if-waits.branch [ goal.then-waits w ↦ search rules | goal.else-waits w ↦ search rules ]))))))))))))),
        c.in_ok-pending.ensures.read.1 ∙ s12,
      );
    }
