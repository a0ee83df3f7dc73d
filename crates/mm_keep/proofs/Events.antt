-- No register stands past the last one.
use Rattle.std.proofs.Common.{◌≡◌, ℕ, ◌+◌, ◌≤◌, List, length, sym, ap, ◌∙◌, arith}
use Rattle.mm_kernel.specs.declared.{form.Form.{Form, TheVariants.Integer}, thread.Thread.Thread}
use Rattle.mm_kernel.specs.{Threads.with_form, Turns.with_event}
use Rattle.mm_keep.proofs.Filled.{set_past_end}

form_past : (t : Thread) (r : ℕ) (f : Form) → length t.forms ≤ r → with_form t r f ≡ t
unfolding with_form
form_past t r f le = ap (λ (l : List Form). record t { forms = l }) (sym (set_past_end t.forms r f le))

pub event_past : (t : Thread) (r : ℕ) (a b c : Form) → length t.forms ≤ r → t ≡ with_event t r a b c
event_past t r a b c le = sym (
    ap (λ (u : Thread). with_form (with_form (with_form u (r + 1) a) (r + 2) b) (r + 3) c) (form_past t r Integer le)
    ∙ ap (λ (u : Thread). with_form (with_form u (r + 2) b) (r + 3) c) (form_past t (r + 1) a (omega (arith, le)))
    ∙ ap (λ (u : Thread). with_form u (r + 3) c) (form_past t (r + 2) b (omega (arith, le)))
    ∙ form_past t (r + 3) c (omega (arith, le)))
