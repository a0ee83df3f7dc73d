use Rattle.std.proofs.Common.{◌≡◌, ◌+◌, ◌*◌, ◌++◌, ℕ, sym, subst, arith}
use Rattle.std.proofs.lemmas.List.{append-nil}
use Rattle.std.specs.List.{flat_map}
use Rattle.mm_keep.specs.Claims.{AddsFacts}
use Rattle.mm_keep.proofs.{Claims.facts_none, Words.{adds_word, appended_word}}
use Rattle.mm_keep.specs.Searching.{first_at, handed_at, words_below}
use Rattle.mm_keep.proofs.begin.begin_page.Goals as goal

pub loop-k-init : goal.loop-k-init
unfolding words_below
loop-k-init c = record {
  facts = facts_none c.args.kernel.now.image c.args.kernel.now.kept c.args.tables.now;
  first = sym (append-nil c.args.first.now.items);
}

pub loop-k-preserved : goal.loop-k-preserved
loop-k-preserved c =
    let l = c.loop-k in
    let e = c.in_ok-begin_word.ensures in
    let page = c.args.page.now.0 in
    let same = c.number-base.ensures.number in
    record {
      facts = adds_word c.args.kernel.now.image c.args.kernel.now.kept (handed_at c.args.kernel.now.image c.args.kernel.now.kept) page l.k c.args.tables.now l.tables c.begin_word.new.tables l.invariant.facts
          (subst (λ (n : ℕ). AddsFacts c.args.kernel.now.image c.args.kernel.now.kept (handed_at c.args.kernel.now.image c.args.kernel.now.kept (n * 4096 + 8 * l.k)) l.tables c.begin_word.new.tables) same e.facts);
      first = appended_word (first_at c.args.kernel.now.image c.args.kernel.now.kept) c.args.first.now.items l.first.items c.begin_word.new.first.items page l.k l.invariant.first
          (subst (λ (n : ℕ). c.begin_word.new.first.items ≡ l.first.items ++ first_at c.args.kernel.now.image c.args.kernel.now.kept (n * 4096 + 8 * l.k)) same e.first);
    }

pub returns-clause-facts : goal.returns-clause-facts
returns-clause-facts c =
    let l = c.loop-k in
    let end : l.k ≡ 512 = (let lo = c.loop-k-test.false in let hi = l.auto.k-end in omega (arith, lo, hi)) in
    subst (λ (n : ℕ). AddsFacts c.args.kernel.now.image c.args.kernel.now.kept (flat_map (handed_at c.args.kernel.now.image c.args.kernel.now.kept) (words_below c.args.page.now.0 n)) c.args.tables.now l.tables) end l.invariant.facts
