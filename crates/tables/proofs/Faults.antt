-- What is wrong with a piece, its run and its line. Assumes nothing.
use Rattle.std.proofs.Common.{◌≡◌, ℕ, true, List, [], ◌∷◌, ◌++◌, length, Ok, Err, Bor, Result, Vec, vec_items, sym, ap, ◌∙◌, subst, ⊎_elim}
use Rattle.std.proofs.lemmas.List.{nil_from_length}
use Rattle.std.specs.declared.alloc.AllocError.{AllocError}
use Rattle.tables.specs.declared.fault.TableFault.{TableFault}
use Rattle.tables.specs.declared.fault.TableFault.TheVariants.{NoColon, NoName, NameTwice, NotAWord, NotUtf8, Memory}
use Rattle.tables.specs.declared.word.WordFault.{WordFault}
use Rattle.tables.specs.Lines.{Parted, PieceRead, PieceFault, RunAs, RunFault, LineFault}
use Rattle.tables.specs.Numerals.{ReadAs}
use Rattle.tables.specs.Pieces.{Blanks, First, Trimmed, Run, RunTo, left}
use Rattle.tables.specs.declared.pieces.Pieces.{Pieces}
use Rattle.tables.proofs.Cuts.{blanks-append}
use Rattle.tables.proofs.Gathered.{Gathered, GivesPiece, ReadsTo}

run-fault : (n : ℕ) (run ws p : List ℕ) (w : WordFault) (f : TableFault) → RunTo run ws p → ReadAs p (Err w) → PieceFault n p w f → RunFault n run f
run-fault n run ws p w (NoColon k) to why h = h
run-fault n run ws p w (NoName k) to why h = h
run-fault n run ws p w (NotAWord k found v) to why h = (h.1, (ws, p, to, subst (λ u. ReadAs p (Err u)) h.0 why, h.2))
run-fault n run ws p w (NameTwice k name before) to why h = h
run-fault n run ws p w (NotUtf8 k) to why h = h
run-fault n run ws p w Memory to why h = tt

-- what the pieces of a run are read as
module _ (n : ℕ) where
  abbrev pub IsWord : Bor (List ℕ) → Result ℕ TableFault → Type 0
  IsWord p = PieceRead n p.now

  all-words : (s t : Pieces) (ws : List ℕ) → ReadsTo GivesPiece (λ p w. IsWord p (Ok w)) s ws t → Blanks true (left t) → Run (left s) ws
  all-words s t [] h end = subst (λ u. Blanks true (left u)) (sym h) end
  all-words s t (w ∷ ws) h end = let (p, j, first, word, on) = h in (p.now, left j, first, word.0, word.1, all-words j t ws on end)

  words-to : (s t : Pieces) (ws p rest : List ℕ) → ReadsTo GivesPiece (λ q w. IsWord q (Ok w)) s ws t → First (left t) p rest → RunTo (left s) ws p
  words-to s t [] p rest h last = (rest, subst (λ u. First (left u) p rest) (sym h) last)
  words-to s t (w ∷ ws) p rest h last = let (q, j, first, word, on) = h in (q.now, left j, first, word.0, word.1, words-to j t ws p rest on last)

  pub run-as : {Z : Type 0} (s : Pieces) (r : Result (Vec ℕ Z) TableFault) → Gathered GivesPiece IsWord (λ f. AllocError × (f ≡ Memory)) s r → RunAs n (left s) r
  run-as s (Ok v) h = all-words s h.0 (vec_items v) h.2 h.3.0
  run-as s (Err f) h =
      ⊎_elim
      (λ lack. subst (RunFault n (left s)) (sym lack.1) tt)
      (λ bad. let (ws, t, p, u, on, last, (w, why, told)) = bad in run-fault n (left s) ws p.now w f (words-to s t ws p.now (left u) on last) why told) h

pub line-fault : (n : ℕ) (bs front run : List ℕ) (f : TableFault) → Parted bs front run → RunFault n run f → LineFault n bs f
line-fault n bs front run (NoColon k) cut h = absurd h
line-fault n bs front run (NoName k) cut h = absurd h
line-fault n bs front run (NotAWord k found why) cut h = (front, run, cut, h)
line-fault n bs front run (NameTwice k name before) cut h = h
line-fault n bs front run (NotUtf8 k) cut h = h
line-fault n bs front run Memory cut h = tt

-- what is trimmed to nothing is all blanks
pub all-blank : (bs name : List ℕ) → Trimmed bs name → length name ≡ 0 → Blanks true bs
all-blank bs name h none =
    let empty = nil_from_length name none in
    let whole : bs ≡ h.before ++ h.after = h.whole ∙ ap (λ l. h.before ++ (l ++ h.after)) empty in
    subst (Blanks true) (sym whole) (blanks-append true h.before h.after h.blanks_before h.blanks_after)
