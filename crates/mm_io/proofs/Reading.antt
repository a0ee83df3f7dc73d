-- A file that is read piece by piece.
use Rattle.std.proofs.Common.{◌≡◌, ℕ, ◌+◌, ◌-◌, ◌<◌, ◌≤◌, List, ◌++◌, length, take, drop, Option, None, Some, refl, sym}
use Rattle.std.proofs.Common.{◌∙◌, ap, arith, length-append, length-drop, append_assoc}
use Rattle.std.proofs.lemmas.List.{length-take, length-take-le, take_all, take-append-le, take-append-drop, drop-drop}
use Rattle.std.{proofs.Math.Seq.take-add, specs.{Bool.⊤, Io.KnownBytes.prepend_known}}
use Rattle.mm_io.specs.Files.{ReadsAt, IsLonger, DrawnFrom}

-- these are the first bytes of the file, as far as it is told
abbrev pub Begins : Option (List ℕ) → List ℕ → Type 0
Begins None bytes = ⊤
Begins (Some told) bytes = bytes ≡ take (length bytes) told

pub Begins-++ : (told : Option (List ℕ)) (bytes : List ℕ) (n : ℕ) (buf : List ℕ) → Begins told bytes → n ≤ length buf
    → ReadsAt told (length bytes) n buf → Begins told (bytes ++ take n buf)
Begins-++ None bytes n buf begins fits reads = tt
Begins-++ (Some told) bytes n buf begins fits reads =
    let len : length (bytes ++ take n buf) ≡ length bytes + n = omega (arith, length-append bytes (take n buf), length-take-le n buf fits) in
    rw (len, take-add (length bytes) n told, ← begins, reads.0) refl

pub Begins-longer : (told : Option (List ℕ)) (bytes : List ℕ) (n : ℕ) (buf : List ℕ) (limit : ℕ) → Begins told bytes → n ≤ length buf
    → ReadsAt told (length bytes) n buf → limit < length bytes + n → IsLonger told limit
Begins-longer None bytes n buf limit begins fits reads more = (bytes ++ take n buf, tt, omega (arith, length-append bytes (take n buf), length-take-le n buf fits))
Begins-longer (Some told) bytes n buf limit begins fits reads more =
    (told, refl, omega (arith, ap length reads.0, ap length begins, length-take n buf, length-take n (drop (length bytes) told), length-drop (length bytes) told, length-take (length bytes) told))

-- the same read, told of the same files at the same offset
pub reads_same : {held now : List ℕ → Option (List ℕ)} (name : List ℕ) {offset len : ℕ} (n : ℕ) (buf : List ℕ) → now ≡ held → offset ≡ len
    → ReadsAt (now name) offset n buf → ReadsAt (held name) len n buf
reads_same name n buf same at reads = rw (← same, ← at) reads

pub prepend-++ : (a b : List ℕ) (known : Option (List ℕ)) → prepend_known a (prepend_known b known) ≡ prepend_known (a ++ b) known
prepend-++ a b None = refl
prepend-++ a b (Some xs) = ap Some (sym (append_assoc a b xs))

-- the bytes that were read, and those of one read more, went from the front
pub drawn_more : {left middle : Option (List ℕ)} (bytes piece : List ℕ) (now : Option (List ℕ)) → left ≡ prepend_known bytes middle → middle ≡ prepend_known piece now
    → DrawnFrom left now
drawn_more bytes piece now before read = (bytes ++ piece, before ∙ ap (prepend_known bytes) read ∙ prepend-++ bytes piece now)

-- more was left than the limit
pub left_longer : {left : Option (List ℕ)} (bytes : List ℕ) (now : Option (List ℕ)) (limit : ℕ) → left ≡ prepend_known bytes now → limit < length bytes
    → IsLonger left limit
left_longer bytes None limit same more = rw same (bytes, tt, more)
left_longer bytes (Some xs) limit same more = rw same (bytes ++ xs, refl, omega (arith, length-append bytes xs))

-- what is left before a read is the piece that it gave, and what is left after it
pub source_step : (bytes now copied tail : List ℕ) (at n : ℕ) → now ≡ bytes → n ≤ length bytes - at → copied ≡ take n (take (length now - at) (drop at now))
    → drop at bytes ≡ take n (copied ++ tail) ++ drop (at + n) bytes
source_step bytes now copied tail at n same fits after =
    let all : take (length now - at) (drop at now) ≡ drop at now = take_all _ _ (omega (arith, length-drop at now)) in
    let piece : copied ≡ take n (drop at bytes) = after ∙ ap (take n) all ∙ ap (λ xs. take n (drop at xs)) same in
    let len : length copied ≡ n = ap length piece ∙ length-take-le n (drop at bytes) (omega (arith, length-drop at bytes)) in
    let front : take n (copied ++ tail) ≡ copied = take-append-le n copied tail (omega arith) ∙ take_all n copied (omega arith) in
    rw front (rw piece (rw (← drop-drop n at bytes) (sym (take-append-drop n (drop at bytes)))))
