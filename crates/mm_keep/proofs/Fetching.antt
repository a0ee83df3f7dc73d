-- Which word a thread's turn fetches, and what its instruction does to the word that it loads.
use Rattle.std.proofs.Common.{◌≡◌, ℕ, ◌↔◌, true, false, Option, Some, None, Ok, Err, pos, refl, sym, ap, ◌∙◌}
use Rattle.std.proofs.lemmas.{Bool.both_ways, Option.{none-some, same_Some}}
use Rattle.mm_word.specs.declared.{cause.Cause.Cause, perm.Kind.TheVariants.Fetch, word.{Word.TheVariants.Ptr, Cell.Cell}}
use Rattle.mm_word.specs.Access.{AccessValue, check_result}
use Rattle.mm_isa.specs.declared.instr.Instr.{Instr}
use Rattle.mm_model.specs.{Memory.cell_at, Image.Image, Turn.instr_in}
use Rattle.mm_kernel.specs.declared.thread.Thread.{Thread}
use Rattle.mm_kernel.specs.{Derived.Fetches, Uses.{SetsBit, sets_bit}}

-- the words of an option are those that a thread fetches
abbrev pub AreFetched : Thread → Option ℕ → Type 0
AreFetched t o = (w : ℕ) → (o ≡ Some w) ↔ Fetches t w

module _ (t : Thread) where
  -- a thread that is past fetches none
  pub past_fetches : t.past ≡ true → AreFetched t None
  past_fetches past w = (λ e. absurd (none-some w e), λ f. absurd (both_ways t.past f.on past))

  -- nor does one whose access is refused
  pub refused_fetches : (c : Cause) → check_result (Ptr t.ip) (pos 0) Fetch ≡ Err c → AreFetched t None
  refused_fetches c e w = (λ n. absurd (none-some w n), λ f. let same = sym e ∙ f.checked in cc)

  pub access_fetches : (a : AccessValue) → t.past ≡ false → check_result (Ptr t.ip) (pos 0) Fetch ≡ Ok a → AreFetched t (Some a.addr)
  access_fetches a on e w = (λ same. record { on = on; access = a; checked = e; at = same_Some a.addr w same }, from)
    where
      from : Fetches t w → Some a.addr ≡ Some w
      from f = let one = sym e ∙ f.checked in let same : a ≡ f.access = cc in ap (λ (x : AccessValue). Some x.addr) same ∙ ap Some f.at

module _ (i : Image) (t : Thread) where
  -- a turn that fetches no word sets no bit
  pub none_sets : AreFetched t None → (false ≡ true) ↔ SetsBit i t
  none_sets fetched = (λ e. cc, λ s. absurd (none-some s.word ((fetched s.word).1 s.fetches)))

  module _ (w : ℕ) (fetched : AreFetched t (Some w)) where
    same_word : (s : SetsBit i t) → w ≡ s.word
    same_word s = same_Some w s.word ((fetched s.word).1 s.fetches)

    pub no_page_sets : cell_at i.memory w ≡ None → (false ≡ true) ↔ SetsBit i t
    no_page_sets none = (λ e. cc, λ s. let at = sym none ∙ ap (cell_at i.memory) (same_word s) ∙ s.at in absurd (none-some s.cell at))

    module _ (c : Cell) (at : cell_at i.memory w ≡ Some c) where
      same_cell : (s : SetsBit i t) → c ≡ s.cell
      same_cell s = same_Some c s.cell (sym at ∙ ap (cell_at i.memory) (same_word s) ∙ s.at)

      decoded : (s : SetsBit i t) → instr_in c.word ≡ Some s.instr
      decoded s = ap (λ (x : Cell). instr_in x.word) (same_cell s) ∙ s.decodes

      pub no_instr_sets : instr_in c.word ≡ None → (false ≡ true) ↔ SetsBit i t
      no_instr_sets none = (λ e. cc, λ s. absurd (none-some s.instr (sym none ∙ decoded s)))

      pub instr_sets : (x : Instr) → instr_in c.word ≡ Some x → (sets_bit x ≡ true) ↔ SetsBit i t
      instr_sets x is = (
        λ e. record { word = w; cell = c; instr = x; fetches = (fetched w).0 refl; at = at; decodes = is; sets = e },
        λ s. ap sets_bit (same_Some x s.instr (sym is ∙ decoded s)) ∙ s.sets,
      )
