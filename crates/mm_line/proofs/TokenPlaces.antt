-- Each token stands in its line.
use Rattle.std.proofs.Common.{◌≡◌, ◌≢◌, ℕ, suc, ◌+◌, ◌-◌, ◌<◌, ◌≤◌, ◌^◌, nat_lt, nat_le, Bool, true, false, ◌||◌, ◌==◌}
use Rattle.std.proofs.Common.{if◌then◌else◌, List, [], ◌∷◌, ◌++◌, length, take, drop, refl, sym, ap, subst, arith}
use Rattle.std.proofs.{Common.length-drop, lemmas.List.{take-append-drop, Sums.prefix_len-le-length}}
use Rattle.std.{proofs.Math.Seq.drop-length, specs.{List.list_all, Char.{is_digit, is_ascii_alphabetic}}}
use Rattle.mm_line.specs.declared.class.Class.{Class, TheVariants.{Blank, Letter, NameByte, Decimal, Hexadecimal}}
use Rattle.mm_line.specs.declared.token.Token.{Token}
use Rattle.mm_line.specs.declared.token.Token.TheVariants.{Name, Directive, Number, Wide, Comma, Colon, Plus, Bad, End}
use Rattle.mm_line.specs.Tokens.{Next, is_in, run, starts, number, decimal, hexadecimal, front, end, token_at}
use Rattle.mm_line.{specs.{Tokens.next_token, TokenPlaces.StandsIn, Forms.is_name}, proofs.Cases.token_cases}

-- a token at the front of what is left
pub record Begins (at : List ℕ) (n : Next) : Type 0 where
  pub place : n.token ≢ End → n.left ≡ length at
  pub bytes : n.token ≢ End → n.text ++ n.rest ≡ at
  pub some : n.token ≢ End → length n.rest < n.left
  pub none : n.token ≡ End → n ≡ end

-- a token is the end or another one
pub is_end : {P : Type 0} (t : Token) → (t ≡ End → P) → (t ≢ End → P) → P
is_end End f g = f refl
is_end _ f g = g (λ e. cc)

front_begins : (token : Token) (size : ℕ) (at : List ℕ) → token ≢ End → 0 < size → 0 < length at → Begins at (front token size at)
front_begins token size at other some there = record {
  place = λ _. refl;
  bytes = λ _. take-append-drop size at;
  some = λ _. omega (arith, length-drop size at);
  none = λ e. absurd (other e);
}

end_begins : (at : List ℕ) → Begins at end
end_begins at = record {
  place = λ ne. absurd (ne refl);
  bytes = λ ne. absurd (ne refl);
  some = λ ne. absurd (ne refl);
  none = λ _. refl;
}

number_or_wide : (b negative : Bool) (n : ℕ) → (if b then Number negative n else Wide) ≢ End
number_or_wide true negative n = λ e. cc
number_or_wide false negative n = λ e. cc

pub number_other : (negative : Bool) (n : ℕ) → number negative n ≢ End
number_other true n = number_or_wide (nat_le n (2 ^ 63)) true n
number_other false n = number_or_wide (nat_lt n (2 ^ 64)) false n

-- where a run begins, it has a byte
run_some : (c : Class) (b : ℕ) (bytes : List ℕ) → is_in c b ≡ true → 0 < run c (b ∷ bytes)
run_some c b bytes e = rw e (omega arith)

or_more : (a b c : Bool) → (a || b) ≡ true → (a || b || c) ≡ true
or_more true b c e = refl
or_more false true c e = refl
or_more false false c e = cc

pub letter_goes_on : (b : ℕ) → is_in Letter b ≡ true → is_in NameByte b ≡ true
letter_goes_on b e = or_more (is_ascii_alphabetic b) (b == 95) (is_digit b 10) e

pub token_begins : (at : List ℕ) → Begins at (token_at at)
unfolding token_at
token_begins [] = end_begins []
token_begins (b ∷ bytes) =
    let at = b ∷ bytes in
    let there : 0 < length at = omega arith in
    token_cases b bytes (Begins at)
    (λ _. end_begins at)
    (λ _. front_begins Comma 1 at (λ e. cc) (omega arith) there)
    (λ _. front_begins Colon 1 at (λ e. cc) (omega arith) there)
    (λ _. front_begins Plus 1 at (λ e. cc) (omega arith) there)
    (λ e. front_begins Name (run NameByte at) at (λ e. cc) (run_some NameByte b bytes (letter_goes_on b e)) there)
    (λ _. front_begins Directive (1 + run NameByte bytes) at (λ e. cc) (omega arith) there)
    (λ _. front_begins (decimal true bytes) (1 + run Decimal bytes) at (number_other true _) (omega arith) there)
    (λ _. front_begins (hexadecimal (drop 2 at)) (2 + run Hexadecimal (drop 2 at)) at (number_other false _) (omega arith) there)
    (λ _ _ _ _ e. front_begins (decimal false at) (run Decimal at) at (number_other false _) (run_some Decimal b bytes e) there)
    (λ _ _ _ _ _ _ _ _ _. front_begins Bad 1 at (λ e. cc) (omega arith) there)

-- all that a run takes is of its kind
pub run_all : (c : Class) (bytes : List ℕ) → list_all (is_in c) (take (run c bytes) bytes) ≡ true
run_all c [] = refl
run_all c (b ∷ bytes) =
    let step : (v : Bool) → is_in c b ≡ v → list_all (is_in c) (take (if v then 1 + run c bytes else 0) (b ∷ bytes)) ≡
    true = λ v. elim v as (λ w. is_in c b ≡ w → list_all (is_in c) (take (if w then 1 + run c bytes else 0)
    (b ∷ bytes)) ≡ true) [
      | true ↦ λ e. let s : 1 + run c bytes ≡ suc (run c bytes) = omega arith in rw (s, e) (run_all c bytes)
      | false ↦ λ e. refl
    ] in step (is_in c b) refl

pub token_stands : (line : List ℕ) → StandsIn line (next_token line)
unfolding next_token
token_stands line =
    let k = run Blank line in
    let at = drop k line in
    let n = token_at at in
    let begins = token_begins at in
    let le : k ≤ length line = prefix_len-le-length (is_in Blank) line in
    let size : length at ≡ length line - k = length-drop k line in
    let back : n.token ≢ End → length line - n.left ≡ k = λ other. omega (arith, begins.place other, le, size) in
    let none : [] ≡ drop (length line - 0) line = let z : length line - 0 ≡ length line = omega arith in rw z (sym (drop-length line)) in
    record {
      place = is_end n.token (λ e. omega (arith, ap (λ (m : Next). m.left) (begins.none e))) (λ ne. omega (arith, begins.place ne, size));
      bytes = is_end n.token (λ e. let P : Next → Type 0 = λ m. m.text ++ m.rest ≡ drop (length line - m.left) line in subst P (sym (begins.none e)) none) (λ ne. rw (back ne) (begins.bytes ne));
      blanks = λ other. rw (back other) (run_all Blank line);
      some = begins.some;
      end = λ e. ap (λ (m : Next). m.left) (begins.none e);
    }

number_or_wide_no_name : (b negative : Bool) (n : ℕ) → (if b then Number negative n else Wide) ≢ Name
number_or_wide_no_name true negative n = λ e. cc
number_or_wide_no_name false negative n = λ e. cc

pub number_no_name : (negative : Bool) (n : ℕ) → number negative n ≢ Name
number_no_name true n = number_or_wide_no_name (nat_le n (2 ^ 63)) true n
number_no_name false n = number_or_wide_no_name (nat_lt n (2 ^ 64)) false n

pub name_form : (b : ℕ) (bytes : List ℕ) → is_in Letter b ≡ true → is_name (take (run NameByte (b ∷ bytes)) (b ∷ bytes)) ≡ true
name_form b bytes letter =
    let all = run_all NameByte (b ∷ bytes) in
    let s : 1 + run NameByte bytes ≡ suc (run NameByte bytes) = omega arith in
    let first : starts Letter (take (run NameByte (b ∷ bytes)) (b ∷ bytes)) ≡ true = rw (letter_goes_on b letter, s) letter in
    rw (first, all) refl

-- a token that is a name has the form of one
token_name : (at : List ℕ) → (token_at at).token ≡ Name → is_name (token_at at).text ≡ true
unfolding token_at
token_name [] = λ e. cc
token_name (b ∷ bytes) = token_cases b bytes (λ n. n.token ≡ Name → is_name n.text ≡ true)
    (λ _ e. cc) (λ _ e. cc) (λ _ e. cc) (λ _ e. cc)
    (λ letter _. name_form b bytes letter)
    (λ _ e. cc) (λ _ e. absurd (number_no_name true _ e)) (λ _ e. absurd (number_no_name false _ e)) (λ _ _ _ _ _ e. absurd (number_no_name false _ e)) (λ _ _ _ _ _ _ _ _ _ e. cc)

-- what a line's next token is, as far as its values go
pub record Found (most : ℕ) (n : Next) : Type 0 where
  pub place : n.left ≤ most
  pub rest : length n.rest ≤ most
  pub name : n.token ≡ Name → is_name n.text ≡ true

pub found : (most : ℕ) (line : List ℕ) → length line ≤ most → Found most (next_token line)
unfolding next_token
found most line le =
    let s = token_stands line in
    record {
      place = omega (arith, s.place);
      rest = is_end (next_token line).token (λ e. omega (arith, ap (λ (m : Next). length m.rest) ((token_begins (drop (run Blank line) line)).none e))) (λ ne. omega (arith, s.some ne, s.place));
      name = token_name (drop (run Blank line) line);
    }
