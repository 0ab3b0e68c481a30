-- The arguments after the command, and what is refused of them.
use Rattle.std.proofs.Common.{add-zero, ◌≡◌, ℕ, ◌+◌, ◌-◌, ◌≤◌, ◌∙◌, ap, get_or, List, length, take, drop, Result, Ok, Err, IsErrAnd, Bor, String, Global, string_bytes, subst, arith, length-drop}
use Rattle.std.proofs.lemmas.List.{get_or-drop, take_all}
use Rattle.std.proofs.lemmas.Result.{err_from_is_err_and}
use Rattle.arguments.specs.Files.{AloneAs}
use Rattle.arguments.specs.Misuses.{Is}
use Rattle.arguments.specs.declared.misuse.Expected.TheVariants.{NoMore}
use Rattle.arguments.specs.declared.misuse.Misuse.{Misuse}
use Rattle.arguments.specs.declared.misuse.Misuse.TheVariants.{Missing, Other}

all_after : {A : Type 0} (k : ℕ) (xs : List A) → take (length xs - k) (drop k xs) ≡ drop k xs
all_after k xs = take_all (length xs - k) (drop k xs) (let q = length-drop k xs in omega (arith, q))

pub tail_is : {A : Type 0} (xs : List A) → take (length xs - 2) (drop 2 xs) ≡ drop 2 xs
tail_is xs = all_after 2 xs

-- what is read from them
pub read_as : {A R : Type 0} (P : List A → R → Type 0) (xs : List A) {r s : R}
    → r ≡ s → P (take (length xs - 2) (drop 2 xs)) r → P (drop 2 xs) s
read_as P xs {r} {s} q p = subst (P (drop 2 xs)) q (subst (λ rest. P rest r) (tail_is xs) p)

-- what `?` hands on
pub refused : {T E : Type 0} (P : Result T E → Type 0) (r : Result T E) {e : E} → IsErrAnd r (λ x. x ≡ e) → P (Err e) → P r
refused P r q p = let e = err_from_is_err_and r q in rw (e.1, e.2) p

-- an argument after the first k, with its place among all
pub at_after : (k i : ℕ) (args : List (String Global)) {word : String Global} → word ≡ get_or (take (length args - k) (drop k args)) i word → word ≡ get_or args (k + i) word
at_after k i args {word} e = e ∙ ap (λ ys. get_or ys i word) (all_after k args) ∙ get_or-drop k args i word

-- and its text
after_is : (k i : ℕ) (args : List (String Global)) {text : List ℕ} → Is (take (length args - k) (drop k args)) i text → Is args (k + i) text
after_is k i args {text} h =
    let is : Is (drop k args) i text = subst (λ ys. Is ys i text) (all_after k args) h in
    (omega (arith, is.0, length-drop k args), λ d. is.1 d ∙ ap string_bytes (get_or-drop k args i d))

-- nothing stands after the first k arguments
pub ended : {A : Type 0} (k : ℕ) (args : List (String Global)) {r : Result A Misuse} {a : A} → r ≡ Ok a → AloneAs (take (length args - k) (drop k args)) r → length args ≤ k
ended k args q alone =
    let p = subst (AloneAs (take (length args - k) (drop k args))) q alone in
    omega (arith, p.1, ap length (all_after k args), length-drop k args)

-- what is refused as surplus is the first argument
first_refused : {A : Type 0} (rest : List (String Global)) (m : Misuse) {r : Result A Misuse} → r ≡ Err m → AloneAs rest r → (word : Bor (List ℕ)) × (m ≡ Other NoMore word) × Is rest 0 word.now
first_refused rest (Missing expected) q alone =
    let p = subst (AloneAs rest) q alone in
    let some : length rest ≡ 0 → ⊥ = λ z. cc (p.0 z) in
    absurd (p.1 (omega (arith, some)))
first_refused rest (Other expected word) q alone =
    let p = subst (AloneAs rest) q alone in
    let some : length rest ≡ 0 → ⊥ = λ z. cc (p.0 z) in
    let found = p.1 (omega (arith, some)) in
    (word, cc, found.1)

-- the first after j of the arguments after the first k
pub surplus : {A : Type 0} (k j : ℕ) (args : List (String Global)) {r : Result A Misuse} {m : Misuse} → r ≡ Err m
    → (let rest = take (length args - k) (drop k args) in AloneAs (take (length rest - j) (drop j rest)) r) → (word : Bor (List ℕ)) × (m ≡ Other NoMore word) × Is args (k + j) word.now
surplus k j args {r} {m} q alone =
    let f = first_refused _ m q alone in
    (f.0, f.1, rw (add-zero j) at (after_is k (j + 0) args (after_is j 0 _ f.2)))
