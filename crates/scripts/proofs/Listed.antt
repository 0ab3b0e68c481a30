-- The units of a line. Assumes nothing.
use Rattle.std.proofs.Common.{◌≡◌, ℕ, zero, suc, ◌≤◌, true, Bor, List, [], ◌∷◌, Ok, Err, Result, Vec, vec_items, sym, refl, subst, inl, ⊎_elim, arith}
use Rattle.std.specs.declared.alloc.AllocError.{AllocError}
use Rattle.tables.specs.Numerals.{Writes}
use Rattle.tables.specs.Pieces.{Blanks, First, Run, left}
use Rattle.tables.specs.declared.pieces.Pieces.{Pieces}
use Rattle.tables.proofs.Gathered.{Gathered, GivesPiece, ReadsTo}
use Rattle.tables.proofs.Numbers.{writes_one}
use Rattle.tables.proofs.Sole.{first-same, no-piece}
use Rattle.scripts.specs.Parts.{UnitAt, Units, UnitsUnder}
use Rattle.scripts.specs.Readings.{NoneIs, Reads}
use Rattle.scripts.proofs.Soles.{passed}
use Rattle.scripts.specs.declared.fault.ScriptFault.{ScriptFault}
use Rattle.scripts.specs.declared.fault.ScriptFault.TheVariants.{Memory}

run-same : (bs us vs : List ℕ) → Run bs us → Run bs vs → us ≡ vs
run-same bs [] [] r s = refl
run-same bs [] (v ∷ vs) r s = absurd (no-piece bs s.0 s.1 r s.2)
run-same bs (u ∷ us) [] r s = absurd (no-piece bs r.0 r.1 s r.2)
run-same bs (u ∷ us) (v ∷ vs) r s =
    let same = first-same bs r.0 r.1 s.0 s.1 r.2 s.2 in
    let heads = writes_one s.0 u v (subst (λ p. Writes p u) same.0 r.3) s.3 in
    let tails = run-same s.1 us vs (subst (λ l. Run l us) same.1 r.5) s.5 in
    (λ i. heads i ∷ tails i)

module _ (limit n : ℕ) where
  abbrev pub IsUnit : Bor (List ℕ) → Result ℕ ScriptFault → Type 0
  IsUnit p = Reads n (λ k. k) (UnitAt limit p.now)

  under-cons : (u : ℕ) (us : List ℕ) → u ≤ limit → UnitsUnder limit us → UnitsUnder limit (u ∷ us)
  under-cons u us low rest zero l = low
  under-cons u us low rest (suc i) l = rest i (omega arith)

  -- pieces that are all read are a run of units
  all-units : (s t : Pieces) (us : List ℕ) → ReadsTo GivesPiece (λ p k. IsUnit p (Ok k)) s us t → Blanks true (left t) → Units limit (left s) us
  all-units s t [] h end = record { run = subst (λ u. Blanks true (left u)) (sym h) end; under = λ i l. absurd (omega arith) }
  all-units s t (u ∷ us) h end =
      let (p, j, first, one, on) = h in
      let rest = all-units j t us on end in
      record {
        run = (p.now, left j, first, one.holds.0, one.holds.1, rest.run);
        under = under-cons u us one.holds.2 rest.under;
      }

  -- a piece that writes no unit stands in no run of units
  no-units : (s t : Pieces) (us p rest : List ℕ) → ReadsTo GivesPiece (λ q k. IsUnit q (Ok k)) s us t → First (left t) p rest → NoneIs (UnitAt limit p) → NoneIs (Units limit (left s))
  no-units s t [] p rest to last none [] h = no-piece (left t) p rest (subst (λ u. Blanks true (left u)) to h.run) last
  no-units s t [] p rest to last none (v ∷ vs) h =
      let (q, more, first, writes, fits, on) = h.run in
      let same = first-same (left t) q more p rest (subst (λ u. First (left u) q more) to first) last in
      none v (subst (λ l. Writes l v) same.0 writes, fits, h.under 0 (omega arith))
  no-units s t (u ∷ us) p rest to last none [] h = no-piece (left s) to.0.now (left to.1) h.run to.2
  no-units s t (u ∷ us) p rest to last none (v ∷ vs) h =
      let (q, more, first, writes, fits, on) = h.run in
      no-units to.1 t us p rest to.4 last none vs (record {
        run = subst (λ l. Run l vs) (first-same (left s) q more to.0.now (left to.1) first to.2).1 on;
        under = λ i l. h.under (suc i) (omega arith);
      })

  pub units-read : {Z : Type 0} (s : Pieces) (r : Result (Vec ℕ Z) ScriptFault) → Gathered GivesPiece IsUnit (λ f. AllocError × (f ≡ Memory)) s r → Reads n vec_items (Units limit (left s)) r
  units-read s (Ok v) h =
      let all = all-units s h.0 (vec_items v) h.2 h.3.0 in
      record { holds = all; only = λ us g. run-same (left s) us (vec_items v) g.run all.run }
  units-read s (Err f) h =
      ⊎_elim
      (λ lack. inl lack.1)
      (λ bad. let (us, t, p, u, on, last, why) = bad in passed (UnitAt limit p.now) (Units limit (left s)) n f (no-units s t us p.now (left u) on last) why) h
