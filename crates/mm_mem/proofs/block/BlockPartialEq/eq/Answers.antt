use Rattle.std.proofs.Common.{◌≡◌, ◌&&◌, Bool, true, false, ℕ, List, refl, ap, sym, ◌∙◌, nat_eq}
use lib.Pointwise.{pointwise}
use Rattle.mm_word.specs.declared.word.Cell.{Cell}
use Rattle.mm_mem.specs.Packed.{block_of, IsPackedBlock}
use Rattle.mm_mem.specs.Unpacked.{words_of, tags_of, fulls_of, words_back, tags_back, fulls_back}
use Rattle.mm_mem.proofs.block.BlockPartialEq.eq.Goals as goal

in_order : (a b c : Bool) → (a && b) && c ≡ c && (a && b)
in_order true true true = refl
in_order true true false = refl
in_order true false true = refl
in_order true false false = refl
in_order false true true = refl
in_order false true false = refl
in_order false false true = refl
in_order false false false = refl

-- what the cells give back are the fields
fields : (ws : List ℕ) (t f : ℕ) (cells : List Cell) → IsPackedBlock ws t f → block_of ws t f ≡ cells → record { words : words_of cells ≡ ws; tags : tags_of cells ≡ t; fulls : fulls_of cells ≡ f }
fields ws t f cells is e = record {
  words = ap words_of (sym e) ∙ words_back ws t f is;
  tags = ap tags_of (sym e) ∙ tags_back ws t f is;
  fulls = ap fulls_of (sym e) ∙ fulls_back ws t f is;
}

pub returns : goal.returns
returns c =
    let x = c.t1-1.inside in
    let y = c.t2-1.inside in
    let a = fields x.bits x.tags x.fulls c.args.self.now c.t1-1.invariant c.t1-1.view_is in
    let b = fields y.bits y.tags y.fulls c.args.other.now c.t2-1.invariant c.t2-1.view_is in
    let tags = nat_eq x.tags y.tags in
    let fulls = nat_eq x.fulls y.fulls in
    let words = pointwise nat_eq x.bits y.bits in
    let e = c.and_eq-2.ensures ∙ ap (λ (t : Bool). t && words) (c.and_eq.ensures ∙ ap (λ (t : Bool). t && fulls) c.eq.ensures) ∙ in_order tags fulls words in
    rw (a.words, b.words, a.tags, b.tags, a.fulls, b.fulls) e
