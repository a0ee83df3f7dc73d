use Rattle.std.proofs.Common.{◌≡◌, ◌≢◌, ◌∙◌, ◌++◌, ◌∷◌, [], ℕ, List, Option, Bool, true, false, Some, None, Result, Ok, Err, OnErr, is_some, eqb-true, suc, length, refl, sym, ap, nat_eq, Vec, Global}
use Rattle.std.specs.Option.{option_map_or}
use Rattle.std.specs.Map.{lookup}
use Rattle.indexmap.specs.IndexMap.{get, get_by, with_entries}
use Rattle.indexmap.proofs.CallerLemmas.{insert_entry-new}
use lib.Pointwise.{pointwise}
use Rattle.mm_pairs.proofs.{Founds.{same_found, more_first, more_later}}
use Rattle.mm_config.specs.ListsFound.{hash_of, first_of}
use Rattle.mm_config.proofs.ListsKept.{equal_lists, other_list, looked_last, looked_front, none_absent}
use Rattle.mm_config.proofs.ListForms.{same_list}
use Rattle.mm_config.proofs.lists.note.Goals as goal

none_when : (o : Option ℕ) → is_some o ≡ false → option_map_or suc o 0 ≡ 0
none_when None e = refl
none_when (Some x) e = cc

some_when : (o : Option ℕ) → is_some o ≡ true → option_map_or suc o 0 ≢ 0
some_when None e = cc
some_when (Some x) e = λ same. cc

other_number : (a b : ℕ) → a ≢ b → nat_eq b a ≡ false
other_number a b ne = by (nat_eq b a) refl
  where
    by : (t : Bool) → nat_eq b a ≡ t → nat_eq b a ≡ false
    by true e = absurd (ne (sym (eqb-true b a e)))
    by false e = e

on_any : {A E : Type 0} (P : Type 0) (r : Result A E) → P → OnErr r P
on_any P (Ok x) p = tt
on_any P (Err e) p = p

pub returns-in_err-insert-clause-err : goal.returns-in_err-insert-clause-err
returns-in_err-insert-clause-err c =
    let was = c.args.earliest.now in
    let rest = λ (numbers : List ℕ). get_by (λ v. pointwise nat_eq numbers v.items) c.args.later.now in
    on_any _ c.from_residual.result (λ kept found.
    same_found hash_of kept (first_of was) rest found (first_of c.insert.new.self) rest
    (λ n. ap (λ entries. first_of (with_entries was entries) n) c.in_err-insert.ensures.err) (λ x. refl))

pub returns-then-not-contains_key-clause-ok : goal.returns-then-not-contains_key-clause-ok
returns-then-not-contains_key-clause-ok c kept found absent is = let h = c.contains_key.ensures in let w = c.if-not-contains_key.true in
    let was = c.args.earliest.now in
    let first = first_of was in
    let number = hash_of c.args.numbers.now in
    let updates = c.in_ok-insert.ensures.updates in
    let rest = λ (numbers : List ℕ). get_by (λ v. pointwise nat_eq numbers v.items) c.args.later.now in
    let same : number ≡ c.args.hash = sym c.requires in
    let none : first number ≡ 0 = ap first same ∙ none_when (get nat_eq was c.args.hash) (sym h ∙ w) in
    let here : first_of c.insert.new.self number ≡ suc (length kept) =
    ap (first_of c.insert.new.self) same ∙ ap (λ o. option_map_or suc o 0) updates.1 ∙ ap suc is in
    more_first hash_of kept first rest found c.args.numbers.now (first_of c.insert.new.self) none here
    (λ n ne. ap (λ o. option_map_or suc o 0) (updates.2 n (other_number n c.args.hash (λ e. ne (e ∙ c.requires)))))

pub returns-in_err-insert-2-clause-err : goal.returns-in_err-insert-2-clause-err
returns-in_err-insert-2-clause-err c =
    let was = c.args.later.now in
    let first = first_of c.args.earliest.now in
    on_any _ c.from_residual-in_err-insert-2.result (λ kept found.
    same_found hash_of kept first (λ numbers. get_by (λ v. pointwise nat_eq numbers v.items) was) found
    first (λ numbers. get_by (λ v. pointwise nat_eq numbers v.items) c.insert-2.new.self) (λ n. refl)
    (λ numbers. ap (λ entries. get_by (λ v. pointwise nat_eq numbers v.items) (with_entries was entries)) c.in_err-insert-2.ensures.err))

pub returns-clause-ok : goal.returns-clause-ok
returns-clause-ok c kept found absent is =
    let h = c.contains_key.ensures in let w = c.if-not-contains_key.false in
    let was = c.args.later.now in
    let now = c.insert-2.new.self in
    let key = c.in_ok-from_slice.field-0 in
    let numbers = c.args.numbers.now in
    let first = first_of c.args.earliest.now in
    let eq = λ (a b : Vec ℕ Global). pointwise nat_eq a.items b.items in
    let test = λ (x : List ℕ) (v : Vec ℕ Global). pointwise nat_eq x v.items in
    let rest = λ (x : List ℕ). get_by (test x) was in
    let items : key.items ≡ numbers = c.in_ok-from_slice.ensures.items in
    let some : first (hash_of numbers) ≢ 0 = λ none.
    some_when (get nat_eq c.args.earliest.now c.args.hash) (sym h ∙ w) (ap first c.requires ∙ none) in
    let none : rest numbers ≡ None = none_absent hash_of kept first rest found numbers absent in
    let free : get eq was key ≡ None = ap rest items ∙ none in
    let entries : now.entries ≡ was.entries ++ (key, c.args.at) ∷ [] = c.in_ok-insert-2.ensures.entries ∙ insert_entry-new eq was key c.args.at free in
    let here : lookup (test numbers) now.entries ≡ Some (length kept) =
    ap (lookup (test numbers)) entries
    ∙ looked_last (test numbers) key c.args.at was.entries none (same_list numbers key.items (sym items)) ∙ ap Some is in
    more_later hash_of kept first rest found equal_lists numbers (λ x. get_by (test x) now) absent some here
    (λ x ne. ap (lookup (test x)) entries
    ∙ looked_front (test x) key c.args.at was.entries (other_list x key.items (λ e. ne (e ∙ items))))
