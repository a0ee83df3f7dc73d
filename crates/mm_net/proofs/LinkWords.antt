-- What a word of a text of links says.
use Rattle.std.proofs.Common.{◌≡◌, ℕ, false, List, [], ◌∷◌, ◌++◌, decimal, refl, sym, ap, ◌∙◌, subst, arith}
use Rattle.std.proofs.{Math.ListN.get_or-append, lemmas.{Fmt.decimal_injective, List.length-append}}
use Rattle.std.specs.List.{AllPairs}
use Rattle.mm_net.specs.{declared.link.Link.Link, Marks.has}
use Rattle.mm_net.specs.Links.{IsEnd, IsLink, end_text, link_text, ends, Says, AreLinks}
use Rattle.mm_net.proofs.Parts.{lacks_both, lacks_more, split_unique, digits_lack}
use Rattle.mm_model.specs.Words.{IsGrammar}

-- the node and the address of an end stand around its first `.`

pub dot_unique : (a x : List ℕ) (node address : ℕ) → has 46 a ≡ false → IsEnd node address → a ++ 46 ∷ x ≡ end_text node address → (a ≡ decimal node) × (x ≡ decimal address)
dot_unique a x node address lacks range e =
    split_unique 46 a (decimal node) x (decimal address) lacks (digits_lack 46 node (λ digit. omega arith) (omega (arith, range.node_limit))) e

pub end_lacks : (node address : ℕ) → IsEnd node address → has 62 (end_text node address) ≡ false
end_lacks node address range =
    lacks_both 62 (decimal node) (46 ∷ decimal address) (digits_lack 62 node (λ digit. omega arith) (omega (arith, range.node_limit)))
    (lacks_more 62 46 (decimal address) (λ e. omega arith) (digits_lack 62 address (λ digit. omega arith) (omega (arith, range.address_limit))))

-- the ends of a link stand around its first `>`
pub arrow_unique : (a x : List ℕ) (link : Link) → has 62 a ≡ false → IsLink link → a ++ 62 ∷ x ≡ link_text link → (a ≡ end_text link.from link.take) × (x ≡ end_text link.to link.put)
arrow_unique a x link lacks range e = split_unique 62 a (end_text link.from link.take) x (end_text link.to link.put) lacks (end_lacks link.from link.take range.takes) e

end_unique : (n a m b : ℕ) → IsEnd n a → IsEnd m b → end_text n a ≡ end_text m b → (n ≡ m) × (a ≡ b)
end_unique n a m b one other e =
    let parts = dot_unique (decimal n) (decimal a) m b (digits_lack 46 n (λ digit. omega arith) (omega (arith, one.node_limit))) other e in (
      decimal_injective n m (omega (arith, one.node_limit)) (omega (arith, other.node_limit)) parts.0,
      decimal_injective a b (omega (arith, one.address_limit)) (omega (arith, other.address_limit)) parts.1,
    )

link_unique : (l m : Link) → IsLink l → IsLink m → link_text l ≡ link_text m → l ≡ m
link_unique l m one other e =
    let parts = arrow_unique (end_text l.from l.take) (end_text l.to l.put) m (end_lacks l.from l.take one.takes) other e in
    let from = end_unique l.from l.take m.from m.take one.takes other.takes parts.0 in
    let to = end_unique l.to l.put m.to m.put one.puts other.puts parts.1 in
    let F : ℕ → ℕ → ℕ → ℕ → Link = λ a x b y. record { from = a; take = x; to = b; put = y } in
    ap (λ (a : ℕ). F a l.take l.to l.put) from.0 ∙ ap (λ (x : ℕ). F m.from x l.to l.put) from.1 ∙ ap (λ (b : ℕ). F m.from m.take b l.put) to.0 ∙ ap (λ (y : ℕ). F m.from m.take m.to y) to.1

says_unique : (w : List ℕ) (xs ys : List Link) → Says w xs → Says w ys → xs ≡ ys
says_unique w xs ys a b = a.one ∙ ap (λ (l : Link). l ∷ []) (link_unique a.link b.link a.range b.range (sym a.spelled ∙ b.spelled)) ∙ sym b.one

-- a front of links keeps their rules

pub ends_both : (xs ys : List Link) → ends (xs ++ ys) ≡ ends xs ++ ends ys
ends_both [] ys = refl
ends_both (l ∷ xs) ys = ap (λ (es : List (ℕ × ℕ)). (l.from, l.take) ∷ (l.to, l.put) ∷ es) (ends_both xs ys)

front_apart : (xs ys : List (ℕ × ℕ)) → AllPairs (λ x y. x ≡ y → ⊥) (xs ++ ys) → AllPairs (λ x y. x ≡ y → ⊥) xs
front_apart xs ys apart i j d low high e =
    apart i j d low (omega (arith, length-append xs ys)) (get_or-append xs ys d i (omega arith) ∙ e ∙ sym (get_or-append xs ys d j high))

front_keeps : (xs ys : List Link) → AreLinks (xs ++ ys) → AreLinks xs
front_keeps xs ys are = record {
  limit = omega (arith, are.limit, length-append xs ys);
  each = λ k d h. subst IsLink (get_or-append xs ys d k h) (are.each k d (omega (arith, length-append xs ys)));
  once = front_apart (ends xs) (ends ys) (subst (λ (es : List (ℕ × ℕ)). AllPairs (λ x y. x ≡ y → ⊥) es) (ends_both xs ys) are.once);
}

pub links_grammar : IsGrammar Says AreLinks
links_grammar = record {
  one = says_unique;
  front = front_keeps;
  none = record { limit = omega arith; each = λ k d h. absurd (omega arith); once = λ i j d low high. absurd (omega arith) };
}

-- the word of a link says that link alone
pub says_link : (w : List ℕ) (l : Link) → IsLink l → w ≡ link_text l → Says w (l ∷ [])
says_link w l range e = record { link = l; range = range; spelled = e; one = refl }

pub says_only : (w : List ℕ) (l : Link) (links : List Link) → IsLink l → w ≡ link_text l → (AreLinks (links ++ l ∷ []) → ⊥) → (said : List Link) → Says w said → AreLinks (links ++ said) → ⊥
says_only w l links range e never said says are = never (subst (λ (more : List Link). AreLinks (links ++ more)) (says_unique w said (l ∷ []) says (says_link w l range e)) are)
