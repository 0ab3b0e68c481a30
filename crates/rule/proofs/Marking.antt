-- What the walk has met of the locals, as numbers.
use Rattle.std.proofs.Common.{◌≡◌, ℕ, ◌<◌, ◌≤◌, List, length, get_or, replicate, set, sym, ap, ◌∙◌, ⊎_elim, arith}
use Rattle.std.proofs.Math.ListN.{get_or-map}
use Rattle.std.proofs.lemmas.Bool.{cases_lt}
use Rattle.std.proofs.lemmas.List.{get_or-replicate, get_or_past, length-replicate, length-map, map-set}
use Rattle.rule.specs.declared.scopes.Mark.{Mark}
use Rattle.rule.specs.declared.scopes.Mark.TheVariants.{Unmet}
use Rattle.rule.specs.Marks.{end, ends}

pub end-at : (m : List Mark) (x : ℕ) → get_or (ends m) x 0 ≡ end (get_or m x Unmet)
end-at m x = get_or-map end m x Unmet

pub mark-is : (m : List Mark) (x : ℕ) (now k : Mark) → now ≡ get_or m x Unmet → now ≡ k → get_or (ends m) x 0 ≡ end k
mark-is m x now k e f = end-at m x ∙ ap end (sym e ∙ f)

pub ends-length : (m : List Mark) → length (ends m) ≡ length m
ends-length m = length-map m end

pub ends-set : (m : List Mark) (x : ℕ) (k : Mark) → ends (set m x k) ≡ set (ends m) x (end k)
ends-set m x k = map-set end m x k

pub unmet : (n x : ℕ) → ◌≡◌ {A = ℕ} (get_or (ends (replicate n Unmet)) x 0) 0
unmet n x = end-at (replicate n Unmet) x
    ∙ ap end (⊎_elim (λ (h : x < n). get_or-replicate n x Unmet Unmet h) (λ (h : n ≤ x). get_or_past (replicate n Unmet) x Unmet (simp length-replicate (omega arith))) (cases_lt x n))
