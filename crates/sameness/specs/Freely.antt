-- The walk without the test that two declared locals have no partner yet.
use Rattle.std.specs.Prelude.{◌≡◌, refl}
use Rattle.rule.specs.Trees.{Tree, Forest, node, nil, cons}
use Rattle.rule.specs.Scopes.{Role, declares, uses, plain, role}
use Rattle.sameness.specs.Sameness.{bare_v, bare_w, pair}
use Rattle.sameness.specs.Deciding.{Table, blank, add, matched, Outcome, fails, holds, and_then, or_else, given, direct_test, reverses_test, reversed_test, exchanging}

abbrev pub at_roles_freely : Role → Role → Table → Outcome
at_roles_freely (declares x) (declares y) P = holds (add x y P)
at_roles_freely (declares x) (uses y) P = fails
at_roles_freely (declares x) plain P = fails
at_roles_freely (uses x) (declares y) P = fails
at_roles_freely (uses x) (uses y) P = given (matched P x y) (holds P)
at_roles_freely (uses x) plain P = fails
at_roles_freely plain (declares y) P = fails
at_roles_freely plain (uses y) P = fails
at_roles_freely plain plain P = holds P

unfoldable mutual
  pub decide_freely : Tree → Tree → Table → Outcome
  decide_freely (node c v w ts) (node c' v' w' us) P =
      or_else (given (direct_test c v w c' v' w') (and_then (decide_all_freely ts us P) (at_roles_freely (role c v w) (role c' v' w'))))
      (given (reversed_test c v w c' v' w') (exchanging (decide_all_freely ts) us P))

  pub decide_all_freely : Forest → Forest → Table → Outcome
  decide_all_freely nil nil P = holds P
  decide_all_freely nil (cons u us) P = fails
  decide_all_freely (cons t ts) nil P = fails
  decide_all_freely (cons t ts) (cons u us) P = and_then (decide_freely t u P) (decide_all_freely ts us)

---- example

-- a local that has a partner gets another, where the walk with the test fails
twice-example : decide_freely (node 33 0 0 (pair (node 41 1 0 nil) (node 41 1 0 nil))) (node 33 0 0 (pair (node 41 7 0 nil) (node 41 8 0 nil))) blank ≡ holds (add 1 8 (add 1 7 blank))
unfolding decide_freely decide_all_freely direct_test reversed_test reverses_test exchanging bare_v bare_w role
twice-example = refl
