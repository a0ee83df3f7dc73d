-- An output that another takes the place of, by their chains.
use Rattle.std.proofs.Common.{◌≡◌, ◌≢◌, ℕ, ◌+◌, ◌-◌, ◌<◌, ◌≤◌, List, [], ◌∷◌, ◌++◌, length, take, reverse, refl, sym, ap, ◌∙◌, subst, arith, append_assoc, length-append}
use Rattle.std.proofs.lemmas.List.{reverse-append, reverse-reverse, length-reverse, take_at}
use Rattle.std.specs.List.{AllByRecursion}
use mathlib.Core.List.{reverse_aux}
use Rattle.mm_pairs.specs.Trees.{pair_of}
use Rattle.mm_config.specs.Naming.{IsChain}
use Rattle.mm_config.proofs.NamedOnce.{chains_tell}

-- what is left of the chain of one output, the last byte first, and of that of the other, some of whose bytes were taken
pub record ChangesSoFar (pairs : List (ℕ × ℕ)) (was wanted len kept left aim : ℕ) (bytes : List ℕ) : Type 0 where
  pub old : List ℕ
  pub new : List ℕ
  pub named : IsChain pairs (reverse old) was
  pub as_long : len ≡ length old
  pub target : IsChain pairs (reverse new) wanted
  pub front : List ℕ
  pub own : List ℕ
  pub rest : List ℕ
  pub split : reverse old ≡ front ++ own
  pub long : kept ≡ length own
  pub chain : IsChain pairs own left
  pub taken : reverse new ≡ bytes ++ rest
  pub ahead : IsChain pairs rest aim
  pub small : AllByRecursion (λ byte. byte < 256) rest

each_reverse : {A : Type 0} (P : A → Type 0) (xs ys : List A) → AllByRecursion P xs → AllByRecursion P ys → AllByRecursion P (reverse_aux xs ys)
each_reverse P [] ys h g = g
each_reverse P (x ∷ xs) ys h g = each_reverse P xs (x ∷ ys) h.1 (h.0, g)

pub changing_begins : (pairs : List (ℕ × ℕ)) (old new : List ℕ) (was wanted len : ℕ) → IsChain pairs (reverse old) was → IsChain pairs (reverse new) wanted → len ≡ length old
    → AllByRecursion (λ byte. byte < 256) new → ChangesSoFar pairs was wanted len len was wanted []
changing_begins pairs old new was wanted len h g long small = record {
  old = old;
  new = new;
  named = h;
  as_long = long;
  target = g;
  front = [];
  own = reverse old;
  rest = reverse new;
  split = refl;
  long = long ∙ sym (length-reverse old);
  chain = h;
  taken = refl;
  ahead = g;
  small = each_reverse (λ byte. byte < 256) new [] small tt;
}

-- the name of a chain is one of those that are kept
chain_within : (pairs : List (ℕ × ℕ)) (bytes : List ℕ) (name : ℕ) → IsChain pairs bytes name → name ≤ length pairs
chain_within pairs [] name h = omega (arith, h)
chain_within pairs (byte ∷ before) name h = h.1.within

-- a chain of a name that is not 0
record FirstByte (pairs : List (ℕ × ℕ)) (bytes : List ℕ) (name : ℕ) : Type 0 where
  byte : ℕ
  before : List ℕ
  shorter : ℕ
  is : bytes ≡ byte ∷ before
  pair : pair_of pairs name ≡ (shorter, byte + 1)
  less : shorter < name
  chain : IsChain pairs before shorter

first_byte : (pairs : List (ℕ × ℕ)) (bytes : List ℕ) (name : ℕ) → IsChain pairs bytes name → name ≢ 0 → FirstByte pairs bytes name
first_byte pairs [] name h some = absurd (some h)
first_byte pairs (byte ∷ before) name h some = record { byte = byte; before = before; shorter = h.0; is = refl; pair = h.1.is; less = h.2; chain = h.3 }

module _ {pairs : List (ℕ × ℕ)} {was wanted len kept left aim : ℕ} {bytes : List ℕ} (h : ChangesSoFar pairs was wanted len kept left aim bytes) where
  pub both_within : (left ≤ length pairs) × (aim ≤ length pairs)
  both_within = (chain_within pairs h.own left h.chain, chain_within pairs h.rest aim h.ahead)

  -- a byte fewer stays
  pub one_shorter : aim < left → (parts : ℕ × ℕ) → parts ≡ pair_of pairs left → (1 ≤ kept) × (parts.0 < left) × ChangesSoFar pairs was wanted len (kept - 1) parts.0 aim bytes
  one_shorter less parts are =
      let b = first_byte pairs h.own left h.chain (λ e. omega (arith, e, less)) in
      let shorter : b.shorter ≡ parts.0 = ap (λ (p : ℕ × ℕ). p.0) (sym b.pair ∙ sym are) in
      let long = h.long ∙ ap length b.is in
      let low = b.less in (
        omega (arith, long),
        omega (arith, low, shorter),
        record {
          old = h.old;
          new = h.new;
          named = h.named;
          as_long = h.as_long;
          target = h.target;
          front = h.front ++ b.byte ∷ [];
          own = b.before;
          split = h.split ∙ ap (λ l. h.front ++ l) b.is ∙ sym (append_assoc h.front (b.byte ∷ []) b.before);
          long = omega (arith, long);
          chain = subst (IsChain pairs b.before) shorter b.chain;
          rest = h.rest;
          taken = h.taken;
          ahead = h.ahead;
          small = h.small;
        },
      )

  -- a byte more is taken of the other
  pub one_longer : left < aim → (parts : ℕ × ℕ) → parts ≡ pair_of pairs aim
      → (1 ≤ parts.1) × (parts.1 - 1 < 256) × (parts.0 < aim) × ChangesSoFar pairs was wanted len kept left parts.0 (bytes ++ (parts.1 - 1) ∷ [])
  one_longer less parts are =
      let b = first_byte pairs h.rest aim h.ahead (λ e. omega (arith, e, less)) in
      let shorter : b.shorter ≡ parts.0 = ap (λ (p : ℕ × ℕ). p.0) (sym b.pair ∙ sym are) in
      let next : b.byte + 1 ≡ parts.1 = ap (λ (p : ℕ × ℕ). p.1) (sym b.pair ∙ sym are) in
      let low = b.less in
      let small = subst (AllByRecursion (λ byte. byte < 256)) b.is h.small in
      let byte : b.byte ≡ parts.1 - 1 = omega (arith, next) in (
        omega (arith, next),
        omega (arith, next, small.0),
        omega (arith, low, shorter),
        record {
          old = h.old;
          new = h.new;
          named = h.named;
          as_long = h.as_long;
          target = h.target;
          front = h.front;
          own = h.own;
          split = h.split;
          long = h.long;
          chain = h.chain;
          rest = b.before;
          taken = h.taken ∙ ap (λ l. bytes ++ l) b.is ∙ sym (append_assoc bytes (b.byte ∷ []) b.before) ∙ ap (λ x. (bytes ++ x ∷ []) ++ b.before) byte;
          ahead = subst (IsChain pairs b.before) shorter b.chain;
          small = small.1;
        },
      )

  -- where both chains are one, the bytes that stay and those that were taken are the other output
  pub changing_ends : left ≡ aim → (old new : List ℕ) → IsChain pairs (reverse old) was → IsChain pairs (reverse new) wanted → (kept ≤ length old) × (take kept old ++ reverse bytes ≡ new)
  changing_ends e old new named target =
      let first = same_bytes old h.old was named h.named in
      let second = same_bytes new h.new wanted target h.target in
      let same : h.own ≡ h.rest = chains_tell pairs h.own h.rest left aim e h.chain h.ahead in
      let whole : old ≡ reverse h.own ++ reverse h.front = first ∙ sym (reverse-reverse h.old) ∙ ap reverse h.split ∙ reverse-append h.front h.own in
      let count : length (reverse h.own) ≡ kept = length-reverse h.own ∙ sym h.long in
      let start : take kept old ≡ reverse h.own = ap (take kept) whole ∙ take_at (reverse h.own) (reverse h.front) kept count in
      let all = ap length whole in
      let both = length-append (reverse h.own) (reverse h.front) in (
        omega (arith, all, both, count),
        ap (λ l. l ++ reverse bytes) start ∙ ap (λ l. reverse l ++ reverse bytes) same ∙ sym (reverse-append bytes h.rest) ∙ ap reverse (sym h.taken) ∙ reverse-reverse h.new ∙ sym second,
      )
    where
      same_bytes : (xs ys : List ℕ) (name : ℕ) → IsChain pairs (reverse xs) name → IsChain pairs (reverse ys) name → xs ≡ ys
      same_bytes xs ys name f g = sym (reverse-reverse xs) ∙ ap reverse (chains_tell pairs (reverse xs) (reverse ys) name name refl f g) ∙ reverse-reverse ys
