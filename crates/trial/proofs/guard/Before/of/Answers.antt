use Rattle.std.proofs.Common.{eqb, ◌≡◌, ℕ, ◌+◌, ◌*◌, ◌/◌, ◌%◌, ◌^◌, ◌<◌, List, length, get_or, set, take, sym, refl, ap, ◌∙◌, subst, arith, length-set, length-take, get_or-take}
use Rattle.std.proofs.lemmas.Nat.{one_shl}
use Rattle.std.proofs.lemmas.Bool.{ne_eqb, eq-eqb}
use Rattle.trial.proofs.Marking.{MarkedTo, marked, marked-none, marked_more, marked-vacant}
use Rattle.trial.specs.Table.{vacant}
use Rattle.trial.proofs.guard.Before.of.Goals as goal
use Rattle.trial.proofs.guard.Before.of.Goals.{then-place, else-place}
use lib.Bits.{bit_or}

pub loop-i-init : goal.loop-i-init
loop-i-init c = (marked-none c.args.table.now 32, refl)

pub loop-i-preserved : goal.loop-i-preserved
loop-i-preserved c =
    let i : ℕ = c.loop-i.i in
    let bits : List ℕ = c.loop-i.bits in
    let P : List ℕ → Type 0 = λ b. MarkedTo c.args.table.now b (i + 1) × (length b ≡ 32) in
    let n : ℕ = c.places.result in
    let within : i < n = omega (arith, length-take n c.args.table.now) in
    let vacant-is : vacant c.args.table.now i ≡ eqb (get_or (take n c.args.table.now) i 0) 4294967295 =
    ap (λ x. eqb x 4294967295) (sym (get_or-take n c.args.table.now i 0 within)) in
    let words : length bits ≡ 32 = c.loop-i.invariant.1 in
    let word : i / 64 < length bits = omega arith in
    let bit : (1 * 2 ^ (i % 64)) % 2 ^ 64 ≡ 2 ^ (i % 64) = one_shl (i % 64) 64 (omega arith) in
    elim c.if-place.branch [
      | then-place w ↦
          let e : c.if-place.bits ≡ marked bits i =
          w.bits-is ∙ ap (λ x. set bits (i / 64) (bit_or (get_or bits (i / 64) 0) x)) bit in
          subst P (sym e) (
            marked_more c.args.table.now bits i word (vacant-is ∙ ne_eqb _ _ w.if-place.true) c.loop-i.invariant.0,
            length-set bits (i / 64) (bit_or (get_or bits (i / 64) 0) (2 ^ (i % 64))) ∙ words,
          )
      | else-place w ↦
          subst P (sym w.bits-is) (marked-vacant c.args.table.now bits i (vacant-is ∙ eq-eqb _ _ w.if-place.false) c.loop-i.invariant.0, words)
    ]

pub returns : goal.returns
returns c =
    record {
      marks = λ k l h. c.loop-i.invariant.0.0 k (omega (arith, length-take c.places.result c.args.table.now));
      past = λ k h. c.loop-i.invariant.0.1 k (omega (arith, length-take c.places.result c.args.table.now));
    }
