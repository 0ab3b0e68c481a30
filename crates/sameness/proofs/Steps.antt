-- The walk and the reduction one step at a time, as equations: what uses them need not open the definitions.
use Rattle.std.proofs.Common.{◌≡◌, ℕ, refl, ap}
use Rattle.rule.specs.Trees.{Tree, Forest, node, nil, cons}
use Rattle.rule.specs.Scopes.{plain, role}
use Rattle.sameness.specs.Reduction.{kept, shape, shaped, reduce, reduce_all}
use Rattle.sameness.specs.Sameness.{pair}
use Rattle.sameness.specs.Deciding.{Table, Outcome, fails, holds, and_then, or_else, given, direct_test, reversed_test, at_roles, exchanging, decide, decide_all}

---- the walk

pub decide-node : (c v w : ℕ) (ts : Forest) (c' v' w' : ℕ) (us : Forest) (P : Table) → decide (node c v w ts) (node c' v' w' us) P
    ≡ or_else (given (direct_test c v w c' v' w') (and_then (decide_all ts us P) (at_roles (role c v w) (role c' v' w')))) (given (reversed_test c v w c' v' w') (exchanging (decide_all ts) us P))
unfolding decide decide_all
decide-node c v w ts c' v' w' us P = refl

pub decide_all-nil : (P : Table) → decide_all nil nil P ≡ holds P
unfolding decide_all
decide_all-nil P = refl

pub decide_all-over : (u : Tree) (us : Forest) (P : Table) → decide_all nil (cons u us) P ≡ fails
unfolding decide_all
decide_all-over u us P = refl

pub decide_all-short : (t : Tree) (ts : Forest) (P : Table) → decide_all (cons t ts) nil P ≡ fails
unfolding decide_all
decide_all-short t ts P = refl

pub decide_all-cons : (t : Tree) (ts : Forest) (u : Tree) (us : Forest) (P : Table) → decide_all (cons t ts) (cons u us) P ≡ and_then (decide t u P) (decide_all ts us)
unfolding decide_all decide
decide_all-cons t ts u us P = refl

pub then-holds : (o : Outcome) → and_then o (λ Q. holds Q) ≡ o
then-holds fails = refl
then-holds (holds P) = refl

-- two children on each side
pub decide_all-pair : (a b a' b' : Tree) (P : Table) → decide_all (pair a b) (pair a' b') P ≡ and_then (decide a a' P) (decide b b')
unfolding decide_all decide
decide_all-pair a b a' b' P = go (decide a a' P)
  where
    go : (o : Outcome) → and_then o (decide_all (cons b nil) (cons b' nil)) ≡ and_then o (decide b b')
    go fails = refl
    go (holds Q) = then-holds (decide b b' Q)

pub exchanging-pair : (k : Forest → Table → Outcome) (a b : Tree) (P : Table) → exchanging k (pair a b) P ≡ k (pair b a) P
unfolding exchanging
exchanging-pair k a b P = refl

---- what two nodes do with locals

pub at_roles-plain : (P : Table) → at_roles plain plain P ≡ holds P
unfolding at_roles
at_roles-plain P = refl

---- reduction

-- a node that is kept
pub reduce-kept : (c v w : ℕ) (ts : Forest) → shape c ts ≡ kept → reduce (node c v w ts) ≡ node c v w (reduce_all ts)
unfolding reduce reduce_all shaped
reduce-kept c v w ts e = ap (λ s. shaped s c v w (reduce_all ts)) e

pub reduce_all-nil : reduce_all nil ≡ nil
unfolding reduce_all
reduce_all-nil = refl

pub reduce_all-cons : (t : Tree) (ts : Forest) → reduce_all (cons t ts) ≡ cons (reduce t) (reduce_all ts)
unfolding reduce_all reduce
reduce_all-cons t ts = refl
