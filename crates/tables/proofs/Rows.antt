-- The lines of a text, one more of them. Assumes nothing.
use Rattle.std.proofs.Common.{◌≡◌, ℕ, suc, ◌+◌, ◌<◌, Bool, true, false, cond, eqb, List, [], ◌∷◌, ◌++◌, length, take, drop, Some, None, Option, Bor, sym, refl, ap, ◌∙◌, subst, arith, lit<, MatchOption}
use Rattle.std.specs.declared.iter.Enumerate.{Enumerate}
use Rattle.std.specs.declared.str.Split.{Split}
use Rattle.std.specs.Iterator.Adapters.{enumerate_source, enumerate_count, enumerate_steps}
use Rattle.std.specs.List.{filter}
use Rattle.std.specs.Str.Pattern.{FindsChar, IsSplitAtFirstMatch}
use Rattle.std.specs.Str.Iter.{LacksByte, split_steps, split_text, split_has_more, split_pattern}
use Rattle.std.proofs.lemmas.List.{take-append-drop}
use Rattle.std.proofs.lemmas.Str.Pattern.{NoCharPasses-char, drop_at_char}
use Rattle.std.proofs.lemmas.Bool.{ne_eqb, cond-false, cond_both}
use Rattle.tables.specs.Rules.{grown, lines}

lacks-tail : (c b : ℕ) (bs : List ℕ) → LacksByte c (b ∷ bs) → LacksByte c bs
lacks-tail c b bs h = λ i l e. h (suc i) (omega arith) e

not-feed : (b : ℕ) (bs : List ℕ) → LacksByte 10 (b ∷ bs) → eqb b 10 ≡ false
not-feed b bs h = ne_eqb b 10 (λ e. h 0 (omega arith) e)

pub lines-last : (bs : List ℕ) → LacksByte 10 bs → lines bs ≡ bs ∷ []
lines-last [] h = refl
lines-last (b ∷ bs) h = cond-false (eqb b 10) _ _ (not-feed b bs h) ∙ ap (grown b) (lines-last bs (lacks-tail 10 b bs h))

pub lines-first : (xs rest : List ℕ) → LacksByte 10 xs → lines (xs ++ (10 ∷ rest)) ≡ xs ∷ lines rest
lines-first [] rest h = refl
lines-first (b ∷ xs) rest h = cond-false (eqb b 10) _ _ (not-feed b xs h) ∙ ap (grown b) (lines-first xs rest (lacks-tail 10 b xs h))

-- the lines that are left of a split at line feeds
abbrev pub left_lines : Bool → List ℕ → List (List ℕ)
left_lines live rest = cond live (lines rest) []

-- what `split` says of an item
pub next-line : (w x : List ℕ) (live : Bool) (rest : List ℕ) → IsSplitAtFirstMatch (FindsChar 10) w x live rest → lines w ≡ x ∷ left_lines live rest
next-line w x live rest h = by-found h.1.0 h.1.1 h.1.2
  where
    by-found : (o : Option (ℕ × ℕ)) → FindsChar 10 w o → MatchOption o ((x ≡ w) × (live ≡ false)) (λ q. 0 < q.1 → (x ≡ take q.0 w) × (live ≡ true) × (rest ≡ drop q.1 w)) → lines w ≡ x ∷ left_lines live rest
    by-found None none is =
        lines-last w (λ i l e. NoCharPasses-char 10 w i none (lit< tt) l e) ∙ (λ i. sym is.0 i ∷ left_lines (sym is.1 i) rest)
    by-found (Some q) found is =
        let past : 0 < q.1 = omega (arith, found.1.ends) in
        let cut : w ≡ take q.0 w ++ (10 ∷ drop q.1 w) = sym (take-append-drop q.0 w) ∙ ap (λ l. take q.0 w ++ l) (drop_at_char 10 w q.0 q.1 found.1 (lit< tt)) in
        let told = is past in
        ap lines cut
        ∙ lines-first (take q.0 w) (drop q.1 w) (λ i l e. NoCharPasses-char 10 (take q.0 w) i found.0 (lit< tt) l e)
        ∙ (λ i. sym told.0 i ∷ left_lines (sym told.1 i) (sym told.2 i))

pub step_line : (c : ℕ) (now-live : Bool) (w x : List ℕ) (live : Bool) (rest : List ℕ) → c ≡ 10 → true ≡ now-live → IsSplitAtFirstMatch (FindsChar c) w x live rest → left_lines now-live w ≡ x ∷ left_lines live rest
step_line c now-live w x live rest at on h =
    sym (ap (λ b. left_lines b w) on) ∙ next-line w x live rest (subst (λ k. IsSplitAtFirstMatch (FindsChar k) w x live rest) at h)

-- the lines that are left of those of a text, with their numbers from 0 on
abbrev pub rows_left : Enumerate (Split ℕ) → List (List ℕ)
rows_left s = left_lines (split_has_more (enumerate_source s)) (split_text (enumerate_source s))

abbrev pub AtFeeds : Enumerate (Split ℕ) → Type 0
AtFeeds s = split_pattern (enumerate_source s) ≡ 10

abbrev row-steps : Enumerate (Split ℕ) → Option (ℕ × Bor (List ℕ)) → Enumerate (Split ℕ) → Type 0
row-steps = enumerate_steps (split_steps FindsChar (λ c d. d ≡ c))

pub next_row : (s t : Enumerate (Split ℕ)) (i : ℕ) (row : Bor (List ℕ)) → AtFeeds s → row-steps s (Some (i, row)) t → AtFeeds t × (rows_left s ≡ row.now ∷ rows_left t) × (enumerate_count s ≡ i) × (enumerate_count t ≡ i + 1)
next_row s t i row feeds (step, is, on, _) =
    let now = enumerate_source s in
    let next = enumerate_source t in (
      step.1.0 ∙ feeds,
      step_line (split_pattern now) (split_has_more now) (split_text now) row.now (split_has_more next) (split_text next) feeds step.0 step.1.1,
      sym is,
      on ∙ ap (λ n. n + 1) (sym is),
    )

-- a line feed begins a line
grown-same : (b : ℕ) (ls : List (List ℕ)) → 0 < length ls → length (grown b ls) ≡ length ls
grown-same b [] some = absurd (omega arith)
grown-same b (l ∷ ls) some = refl

pub lines-some : (bs : List ℕ) → 0 < length (lines bs)
lines-some [] = omega arith
lines-some (b ∷ bs) =
    cond_both (eqb b 10) ([] ∷ lines bs) (grown b (lines bs)) (λ ls. 0 < length ls)
    (λ e. omega arith) (λ e. omega (arith, grown-same b (lines bs) (lines-some bs), lines-some bs))

fed : (t : Bool) (b : ℕ) (ls : List (List ℕ)) (fs : List ℕ) → 0 < length ls → length ls ≡ length fs + 1 → length (cond t ([] ∷ ls) (grown b ls)) ≡ length (cond t (b ∷ fs) fs) + 1
fed true b ls fs some e = omega arith
fed false b ls fs some e = grown-same b ls some ∙ e

pub lines_count : (bs : List ℕ) → length (lines bs) ≡ length (filter (λ b. eqb b 10) bs) + 1
lines_count [] = refl
lines_count (b ∷ bs) = fed (eqb b 10) b (lines bs) (filter (λ c. eqb c 10) bs) (lines-some bs) (lines_count bs)
