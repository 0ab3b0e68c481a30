-- What is said of a node, said of the words that spell it.
use Rattle.std.proofs.Common.{◌≡◌, ℕ, Bool, List, is_some, Result, ap, ◌∙◌, subst, arith}
use Rattle.std.proofs.lemmas.Bool.Decides.{nat_tests}
use Rattle.rule.specs.declared.fault.Fault.{Fault}
use Rattle.rule.specs.declared.nodes.Node.{Node}
use Rattle.rule.specs.Nodes.{Spelt, comparison_in}
use Rattle.rule.specs.Run.{code_at, v_at, w_at}
use Rattle.rule.specs.Scopes.{role, compares}
use Rattle.rule.specs.Marks.{note, Says}

compared : (n : Node) → is_some (comparison_in n) ≡ compares n.code n.v
unfolding compares
compared n = grind (arith, nat_tests)

module _ (ws : List ℕ) (o : ℕ) (n : Node) where
  pub spelt-comparison : (b : Bool) → Spelt ws o n → b ≡ is_some (comparison_in n) → b ≡ compares (code_at ws o) (v_at ws o)
  spelt-comparison b s e = e ∙ compared n ∙ ap (λ c. compares c n.v) s.code ∙ ap (compares (code_at ws o)) s.v

  spelt-role : Spelt ws o n → role n.code n.v n.w ≡ role (code_at ws o) (v_at ws o) (w_at ws o)
  spelt-role s = ap (λ c. role c n.v n.w) s.code ∙ ap (λ v. role (code_at ws o) v n.w) s.v ∙ ap (role (code_at ws o) (v_at ws o)) s.w

  pub spelt-note : {X : Type 0} (r : Result X Fault) (m m' : List ℕ) (at until : ℕ) → Spelt ws o n → Says r m' (note at (role n.code n.v n.w) until m) → Says r m' (note at (role (code_at ws o) (v_at ws o) (w_at ws o)) until m)
  spelt-note r m m' at until s h = subst (λ p. Says r m' (note at p until m)) (spelt-role s) h
