-- Where a text is cut at its blanks. Assumes nothing.
use Rattle.std.proofs.Common.{◌≡◌, ℕ, suc, ◌+◌, ◌-◌, ◌<◌, ◌≤◌, Bool, true, eqb, List, [], ◌∷◌, ◌++◌, IsUtf8, length, get_or, take, drop, Option, Some, None, MatchOption, sym, refl, ap, ◌∙◌, subst, ⊎_elim, add-zero, append_assoc, append-nil, arith, length-append}
use Rattle.std.specs.Char.{char_set_contains}
use Rattle.std.specs.Option.{unwrap_or}
use Rattle.std.specs.List.{AllWithin, HoldsAt}
use Rattle.std.specs.Str.{IsCharBoundary}
use Rattle.std.specs.Str.Pattern.{FindsSuffixBy, CutsSuffixes, IsTrimEndMatches}
use Rattle.std.proofs.Math.Utf8.{low_scalar}
use Rattle.std.proofs.lemmas.List.{take-append-drop, get_or-take, get_or-drop, get_or_append_left, get_or-append_right, length-take-le, length-drop, drop_all, drop_more, nil_from_length}
use Rattle.std.proofs.lemmas.Bool.{false_from_ne_true, or_cases, eqb-true, cases_lt, both_ways, cond-true, cond-false}
use Rattle.std.proofs.lemmas.Bool.Decides.{nat_tests}
use Rattle.std.proofs.lemmas.Str.{IsCharBoundary-start, IsCharBoundary-after_ascii, encode_ascii, len_utf8_bounds}
use Rattle.std.proofs.lemmas.Str.Pattern.{drop_at_char}
use Rattle.tables.specs.Lines.{skipped}
use Rattle.tables.specs.Pieces.{blank, Blanks, Cut, Trimmed}

pub blanks-append : (t : Bool) (xs ys : List ℕ) → Blanks t xs → Blanks t ys → Blanks t (xs ++ ys)
blanks-append t xs ys hx hy = λ i l.
    ⊎_elim
    (λ in-front. ap blank (get_or_append_left xs ys 0 i in-front) ∙ hx i in-front)
    (λ after. ap blank (get_or-append_right xs ys (length xs) i 0 refl after) ∙ hy _ (omega (arith, length-append xs ys)))
    (cases_lt i (length xs))

blank-ascii : (b : ℕ) → blank b ≡ true → b < 128
blank-ascii b h =
    ⊎_elim (λ e. let at : b ≡ 32 = eqb-true b 32 e in omega arith) (λ e. let at : b ≡ 9 = eqb-true b 9 e in omega arith) (or_cases (eqb b 32) (eqb b 9) h)

one_blank : (c : ℕ) → blank c ≡ true → Blanks true (c ∷ [])
one_blank c h = λ i l. let first : 0 ≡ i = omega arith in subst (λ j. blank (get_or (c ∷ []) j 0) ≡ true) first h

-- what the pattern of the two blanks finds, as the library says it of any test k that answers as the pattern does
abbrev Asks : (ℕ → Bool) → Type 0
Asks k = (c : ℕ) → char_set_contains (32 ∷ 9 ∷ []) c ≡ k c

abbrev AtEnd : List ℕ → Option ℕ → Type 0
AtEnd w o = (k : ℕ → Bool) → Asks k → FindsSuffixBy k w o

blank_set : Asks blank
blank_set c = grind (arith, nat_tests)

-- blanks that are cut off the end
cut_ends : (bs ns name : List ℕ) → CutsSuffixes AtEnd bs ns name → (after : List ℕ) × (bs ≡ name ++ after) × Blanks true after
cut_ends bs [] name h = ([], sym h ∙ sym (append-nil name), λ i l. absurd (omega arith))
cut_ends bs (n ∷ ns) name (m, earlier, one, e) =
    let (after, whole, dark) = cut_ends bs ns m earlier in
    let (c, is, at) = one blank blank_set in
    let last : drop (length m - n) m ≡ c ∷ [] = drop_at_char c m (length m - n) (length m) at (blank-ascii c is) ∙ ap (λ l. c ∷ l) (drop_all (length m) m (omega arith)) in
    let cut : m ≡ name ++ (c ∷ []) = sym (take-append-drop (length m - n) m) ∙ (λ i. sym e i ++ last i) in
    (c ∷ after, whole ∙ ap (λ l. l ++ after) cut ∙ append_assoc name (c ∷ []) after, blanks-append true (c ∷ []) after (one_blank c is) dark)

no-end : (bs : List ℕ) (o : Option ℕ) → FindsSuffixBy blank bs o → MatchOption o (Unit {0}) (λ n. n ≡ 0) → 0 < length bs → blank (get_or bs (length bs - 1) 0) ≡ true → ⊥
no-end bs None f e some h =
    let i = length bs - 1 in
    let b = get_or bs i 0 in
    let small = blank-ascii b h in
    let last = drop_more bs i 0 (omega arith) ∙ ap (λ l. b ∷ l) (drop_all (i + 1) bs (omega arith)) ∙ sym (encode_ascii b small) in
    both_ways (blank b) (f b (take i bs) (low_scalar b (omega arith)) (sym (take-append-drop i bs) ∙ ap (λ l. take i bs ++ l) last)) h
no-end bs (Some n) (c, is, at) e some h = omega (arith, at.ends, e, (len_utf8_bounds c).0)

pub trims : (bs gap rest name : List ℕ) → Cut true bs gap rest → IsTrimEndMatches AtEnd rest name → Trimmed bs name
trims bs gap rest name skip ((ns, cuts), (o, found, none)) =
    let (after, whole, dark) = cut_ends rest ns name cuts in
    record {
      before = gap;
      after = after;
      whole = skip.whole ∙ ap (λ l. gap ++ l) whole;
      blanks_before = skip.alike;
      blanks_after = dark;
      first = λ some.
          let front : get_or rest 0 0 ≡ get_or name 0 0 = ap (λ l. get_or l 0 0) whole ∙ get_or_append_left name after 0 0 some in
          ap blank (sym front) ∙ false_from_ne_true _ (skip.ends (omega (arith, ap length whole ∙ length-append name after)));
      last = λ some. false_from_ne_true _ (no-end name o (found blank blank_set) none some);
    }

-- the first n bytes of bs are its longest front of one kind
pub record Longest (t : Bool) (n : ℕ) (bs : List ℕ) : Type 0 where
  pub within : n ≤ length bs
  pub alike : (i : ℕ) → i < n → blank (get_or bs i 0) ≡ t
  pub ends : n < length bs → blank (get_or bs n 0) ≡ t → ⊥

-- the first byte of the other kind ends it
pub longest_first : (t : Bool) (bs : List ℕ) (r : Option ℕ)
    → MatchOption r (AllWithin (λ b. blank b ≡ t) bs 0 (length bs)) (λ i. (i < length bs) × HoldsAt (λ b. blank b ≡ t → ⊥) bs i × AllWithin (λ b. blank b ≡ t) bs 0 i)
    → Longest t (unwrap_or r (length bs)) bs
longest_first t bs None h = record { within = omega arith; alike = λ i l. h i 0 (omega arith) l; ends = λ l. absurd (omega arith) }
longest_first t bs (Some n) h = let l = h.0 in record { within = omega arith; alike = λ i k. h.2 i 0 (omega arith) k; ends = λ k. h.1 0 }

-- a cut after blanks falls between characters
pub after-blanks : (bs : List ℕ) (n : ℕ) → IsUtf8 bs → Longest true n bs → IsCharBoundary bs n
after-blanks bs n u run =
    ⊎_elim
    (λ more.
    let back : n - 1 + 1 ≡ n = omega arith in
    subst (IsCharBoundary bs) back (IsCharBoundary-after_ascii bs (n - 1) u (omega (arith, run.within)) (blank-ascii (get_or bs (n - 1) 0) (run.alike (n - 1) (omega arith)))))
    (λ none. let start : 0 ≡ n = omega arith in subst (IsCharBoundary bs) start (IsCharBoundary-start bs u))
    (cases_lt 0 n)

pub cut_at : (t : Bool) (bs : List ℕ) (n : ℕ) (front rest : List ℕ) → Longest t n bs → front ≡ take n bs → rest ≡ drop n bs → Cut t bs front rest
cut_at t bs n front rest run f r =
    let within = run.within in
    let long = ap length f ∙ length-take-le n bs within in
    let left = ap length r ∙ length-drop n bs in
    let next : get_or rest 0 0 ≡ get_or bs n 0 = ap (λ l. get_or l 0 0) r ∙ get_or-drop n bs 0 0 ∙ ap (λ i. get_or bs i 0) (add-zero n) in
    record {
      whole = sym ((λ i. f i ++ r i) ∙ take-append-drop n bs);
      alike = λ i l. let in-front : i < n = omega arith in ap blank (ap (λ xs. get_or xs i 0) f ∙ get_or-take n bs i 0 in-front) ∙ run.alike i in-front;
      ends = λ some same. run.ends (omega arith) (sym (ap blank next) ∙ same);
    }

-- a line after its blanks
skip-gap : (gap rest : List ℕ) → Blanks true gap → skipped (gap ++ rest) ≡ skipped rest
skip-gap [] rest h = refl
skip-gap (b ∷ gap) rest h = cond-true (blank b) (skipped (gap ++ rest)) (eqb b 35) (h 0 (omega arith)) ∙ skip-gap gap rest (λ i l. h (suc i) (omega arith))

pub skipped-after : (bs gap rest : List ℕ) → Cut true bs gap rest → skipped bs ≡ skipped rest
skipped-after bs gap rest cut = ap skipped cut.whole ∙ skip-gap gap rest cut.alike

pub skipped-nil : (rest : List ℕ) → length rest ≡ 0 → skipped rest ≡ true
skipped-nil rest none = ap skipped (nil_from_length rest none)

pub skipped-first : (rest : List ℕ) → 0 < length rest → (0 < length rest → blank (get_or rest 0 0) ≡ true → ⊥) → skipped rest ≡ eqb (get_or rest 0 0) 35
skipped-first [] some ends = absurd (omega arith)
skipped-first (b ∷ bs) some ends = cond-false (blank b) (skipped bs) (eqb b 35) (false_from_ne_true (blank b) (ends some))
