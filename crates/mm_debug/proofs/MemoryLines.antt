-- The words for which a line asks are words.
use Rattle.std.proofs.Common.{◌≡◌, ℕ, ◌+◌, ◌*◌, ◌%◌, ◌^◌, ◌≤◌, Bool, true, false, ◌&&◌, if◌then◌else◌, List, [], ◌∷◌}
use Rattle.std.proofs.{Common.{codes, Option, None, Some, refl, sym, ◌∙◌, arith}, lemmas.Bool.Decides.nat_tests}
use Rattle.std.specs.{Prelude.⊤, Str.bytes_eq}
use Rattle.mm_debug.specs.declared.command.Command.{Command}
use Rattle.mm_debug.specs.declared.command.Command.TheVariants.{Nothing, Step, Run, Break, Watch, Regs, Mem, Quit, Bad}
use Rattle.mm_debug.specs.Commands.{command_of, by_tokens, tokens, number_of, alone, with_one, with_two, if_in_range}
use Rattle.mm_debug.specs.Commands.{is_count, is_word, is_slot, is_address, are_words}

-- what a command shows are words of the address space
abbrev ShowsWords : Command → Type 0
ShowsWords (Mem word count) = are_words word count ≡ true
ShowsWords Nothing = ⊤
ShowsWords (Step count) = ⊤
ShowsWords Run = ⊤
ShowsWords (Break slot address) = ⊤
ShowsWords (Watch word) = ⊤
ShowsWords (Regs slot) = ⊤
ShowsWords Quit = ⊤
ShowsWords Bad = ⊤

either : (b : Bool) (x y : Command) → ShowsWords x → ShowsWords y → ShowsWords (if b then x else y)
either true x y p q = p
either false x y p q = q

in_range : (b : Bool) (c : Command) → (b ≡ true → ShowsWords c) → ShowsWords (if_in_range b c)
in_range true c p = p refl
in_range false c p = tt

of_alone : (word : List ℕ) → ShowsWords (alone word)
of_alone word = either (bytes_eq word (codes "run")) _ _ tt (either (bytes_eq word (codes "quit")) _ _ tt tt)

of_one : (word : List ℕ) (number : Option ℕ) → ShowsWords (with_one word number)
of_one word None = tt
of_one word (Some n) =
    either (bytes_eq word (codes "step")) _ _ (in_range (is_count n) (Step n) (λ _. tt))
    (either (bytes_eq word (codes "watch")) _ _ (in_range (is_word n) (Watch n) (λ _. tt))
    (either (bytes_eq word (codes "regs")) _ _ (in_range (is_slot n) (Regs n) (λ _. tt)) tt))

of_two : (word : List ℕ) (first second : Option ℕ) → ShowsWords (with_two word first second)
of_two word None second = tt
of_two word (Some n) None = tt
of_two word (Some n) (Some m) =
    either (bytes_eq word (codes "break")) _ _ (in_range (is_slot n && is_address m) (Break n m) (λ _. tt))
    (either (bytes_eq word (codes "mem")) _ _ (in_range (are_words n m) (Mem n m) (λ holds. holds)) tt)

of_tokens : (words : List (List ℕ)) → ShowsWords (by_tokens words)
of_tokens [] = tt
of_tokens (word ∷ []) = of_alone word
of_tokens (word ∷ first ∷ []) = of_one word (number_of first)
of_tokens (word ∷ first ∷ second ∷ []) = of_two word (number_of first) (number_of second)
of_tokens (word ∷ first ∷ second ∷ third ∷ more) = tt

shows_words : (line : List ℕ) → ShowsWords (command_of line)
unfolding command_of
shows_words line = of_tokens (tokens line)

-- the words for which a line asks begin at a word and end within the address space

asked : (line : List ℕ) (command : Command) (word count : ℕ) → command ≡ command_of line → command ≡ Mem word count → are_words word count ≡ true
asked line command word count read is = rw (sym read ∙ is) at (shows_words line)

aligned : (word count : ℕ) → are_words word count ≡ true → word % 8 ≡ 0
aligned word count holds = grind (arith, nat_tests)

within : (word count : ℕ) → are_words word count ≡ true → word + 8 * count ≤ 2 ^ 54
within word count holds = grind (arith, nat_tests)

pub words_aligned : (line : List ℕ) (command : Command) (word count : ℕ) → command ≡ command_of line → command ≡ Mem word count → word % 8 ≡ 0
words_aligned line command word count read is = aligned word count (asked line command word count read is)

pub words_within : (line : List ℕ) (command : Command) (word count : ℕ) → command ≡ command_of line → command ≡ Mem word count → word + 8 * count ≤ 2 ^ 54
words_within line command word count read is = within word count (asked line command word count read is)
