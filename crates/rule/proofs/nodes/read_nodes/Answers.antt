use Rattle.std.proofs.Common.{◌≡◌, ℕ, ◌+◌, ◌-◌, ◌<◌, ◌≤◌, false, List, length, get_or, take, drop, Some, None, Option, Err, Bor, is_some, ok_or, refl, ap, ◌∙◌, subst, ⊎_elim, arith, length-drop, length-set, length-take}
use Rattle.std.proofs.lemmas.Bool.Decides.{nat_tests}
use Rattle.std.proofs.lemmas.Bool.{false≢true}
use Rattle.std.proofs.lemmas.List.{take_all, take_more_set, drop-drop}
use Rattle.std.proofs.lemmas.Result.{err_from_is_err_and}
use Rattle.std.specs.Slice.{IsGetRangeResult}
use Rattle.rule.specs.declared.fault.Fault.{Fault}
use Rattle.rule.specs.declared.fault.Fault.TheVariants.{TooLong, CutShort}
use Rattle.rule.specs.Intake.{Refused, Short}
use Rattle.rule.proofs.Grounds.{upto-none, upto-more, refused-at}
use Rattle.rule.proofs.Laid.{Found, found_none, found-more, found_all, found-cut}
use Rattle.rule.proofs.nodes.read_nodes.Goals as goal

cut : (ws os rest : List ℕ) → Short ws → 0 < length rest → length rest < 4 + get_or rest 3 0 → Found ws os rest → Refused ws CutShort
cut ws os rest s h l f = refused-at ws 1 CutShort refl (upto-more ws 0 TooLong refl (upto-none ws) s) (λ w. found-cut ws os rest h l f w.ended)

-- what stands behind the four words of a node
words_behind : List ℕ → List ℕ
words_behind rest = take (length rest - 4) (drop 4 rest)

behind_all : (rest : List ℕ) → words_behind rest ≡ drop 4 rest
unfolding words_behind
behind_all rest = take_all (length rest - 4) (drop 4 rest) (omega (arith, length-drop 4 rest))

-- where fewer than the k children of the node at hand are left, the node ends behind the run
no-more : (rest : List ℕ) (k m : ℕ) (r : Option (Bor (List ℕ))) → 4 ≤ length rest → IsGetRangeResult (words_behind rest) m (length (words_behind rest)) r → m ≡ k → false ≡ is_some r → length rest < 4 + k
no-more rest k m None h g n e = ⊎_elim (λ (a : length (words_behind rest) < m). omega (arith, ap length (behind_all rest), length-drop 4 rest)) (λ (b : length (words_behind rest) < length (words_behind rest)). absurd (omega arith)) g.0
no-more rest k m (Some x) h g n e = absurd (false≢true e)

-- and else the rest begins behind them
one-more : (rest : List ℕ) (k m : ℕ) (r : Option (Bor (List ℕ))) (x : Bor (List ℕ)) → 4 ≤ length rest → IsGetRangeResult (words_behind rest) m (length (words_behind rest)) r → m ≡ k → r ≡ Some x
    → (4 + k ≤ length rest) × (x.now ≡ drop (4 + k) rest)
one-more rest k m r x h w n o =
    let b = words_behind rest in
    let g = subst (λ z. IsGetRangeResult b m (length b) z) o w in
    let a : m ≤ length b = g.0.0 in
    let e : 4 + m ≡ 4 + k = omega arith in (
      omega (arith, a, ap length (behind_all rest), length-drop 4 rest),
      g.0.2 ∙ take_all (length b - m) (drop m b) (omega (arith, length-drop m b)) ∙ ap (drop m) (behind_all rest) ∙ drop-drop m 4 rest ∙ ap (λ z. drop z rest) e,
    )

-- a place that is not there is a run cut short
cut-short : {X : Type 0} (r : Option X) (f : Fault) → Err f ≡ ok_or r CutShort → f ≡ CutShort
cut-short None f e = cc
cut-short (Some x) f e = cc

pub loop-rest-init : goal.loop-rest-init
loop-rest-init c = record { found = found_none _; few = omega arith; long = refl }

pub returns-in_default-clause-err : goal.returns-in_default-clause-err
returns-in_default-clause-err c = (cut _ _ _ (omega arith) (grind (arith, nat_tests)) (omega (arith, c.in_default.len_below)) c.loop-rest.invariant.found, omega arith)

pub returns-in_err-rest-clause-err : goal.returns-in_err-rest-clause-err
unfolding words_behind
returns-in_err-rest-clause-err c =
    let p = err_from_is_err_and c.from_residual.result c.from_residual.ensures.1 in
    let l = no-more c.loop-rest.rest.now (get_or c.loop-rest.rest.now 3 0) _ c.get.result c.in-len4-up.len_at_least c.get.ensures.lookup (omega arith) c.in_err-rest.ensures.variant in
    rw (p.1, p.2, cut-short c.get.result _ c.in_err-rest.ensures.value) (cut _ _ _ (omega arith) (grind (arith, nat_tests)) l c.loop-rest.invariant.found, omega arith)

pub loop-rest-preserved : goal.loop-rest-preserved
unfolding words_behind
loop-rest-preserved c =
    let rest = c.loop-rest.rest.now in
    let k = get_or rest 3 0 in
    let m = one-more rest k _ c.get.result c.in_ok-rest.rest c.in-len4-up.len_at_least c.get.ensures.lookup (omega arith) c.in_ok-rest.ensures.ok_part in
    let i = c.loop-rest.invariant in
    let at = c.loop-rest.at in
    let n = c.loop-rest.count in
    let p = length c.args.words.now - length rest in
    let some : 0 < length rest = grind (arith, nat_tests) in
    let room : n < length at = omega arith in
    record {
      found = rw (take_more_set at n p room, m.1) (found-more _ _ rest some m.0 i.found);
      few = omega (arith, m.0, ap length m.1, length-drop (4 + k) rest);
      long = length-set at n p ∙ i.long;
    }

pub returns-clause-ok : goal.returns-clause-ok
returns-clause-ok c =
    let i = c.loop-rest.invariant in
    let a = found_all _ _ _ (grind (arith, nat_tests)) i.found in
    (record { places = a.0; short = omega arith; whole = record { some = grind (arith, nat_tests); ended = a.1 }; few = omega (arith, length-take c.loop-rest.count c.loop-rest.at) }, omega arith)
