-- the order of the walk and single declarations, said part by part of the tree
use Rattle.std.proofs.Common.{◌≡◌, ℕ, ◌+◌, ◌<◌, ◌≤◌, cond, eqb, ◌⊎◌, List, [], ◌∷◌, ◌++◌, refl, inl, inr, ⊎_elim, arith}
use Rattle.std.proofs.lemmas.Bool.{cases_lt, cases_eq, eq-eqb, ne_eqb}
use Rattle.rule.specs.Trees.{Tree, Forest, node, nil, cons}
use Rattle.rule.specs.Scopes.{Role, declares, uses, plain, role, declared, used, decls, decls_all, uses_of, uses_all, walk, walk_all, declared_in, Behind, InOrder}

---- counts of a walk

used_in : ℕ → List Role → ℕ
used_in x [] = 0
used_in x (p ∷ l) = used x p + used_in x l

declared_in-++ : (x : ℕ) (l m : List Role) → declared_in x (l ++ m) ≡ declared_in x l + declared_in x m
unfolding declared_in
declared_in-++ x [] m = omega arith
declared_in-++ x (p ∷ l) m = omega (arith, declared_in-++ x l m)

used_in-++ : (x : ℕ) (l m : List Role) → used_in x (l ++ m) ≡ used_in x l + used_in x m
unfolding used_in
used_in-++ x [] m = omega arith
used_in-++ x (p ∷ l) m = omega (arith, used_in-++ x l m)

mutual
  unfolding declared_in walk walk_all decls decls_all

  walk-decls : (x : ℕ) (t : Tree) → declared_in x (walk t) ≡ decls x t
  walk-decls x (node c v w ts) = omega (arith, declared_in-++ x (walk_all ts) (role c v w ∷ []), walk_all-decls x ts)

  walk_all-decls : (x : ℕ) (ts : Forest) → declared_in x (walk_all ts) ≡ decls_all x ts
  walk_all-decls x nil = refl
  walk_all-decls x (cons t ts) = omega (arith, declared_in-++ x (walk t) (walk_all ts), walk-decls x t, walk_all-decls x ts)

mutual
  unfolding used_in walk walk_all uses_of uses_all

  walk-uses : (x : ℕ) (t : Tree) → used_in x (walk t) ≡ uses_of x t
  walk-uses x (node c v w ts) = omega (arith, used_in-++ x (walk_all ts) (role c v w ∷ []), walk_all-uses x ts)

  walk_all-uses : (x : ℕ) (ts : Forest) → used_in x (walk_all ts) ≡ uses_all x ts
  walk_all-uses x nil = refl
  walk_all-uses x (cons t ts) = omega (arith, used_in-++ x (walk t) (walk_all ts), walk-uses x t, walk_all-uses x ts)

declared-one : (x : ℕ) (p : Role) → declared x p ≤ 1
unfolding declared
declared-one x (declares y) = ⊎_elim (λ e. rw (eq-eqb x y e) (omega arith)) (λ n. rw (ne_eqb x y n) (omega arith)) (cases_eq x y)
declared-one x (uses y) = omega arith
declared-one x plain = omega arith

---- an ordered walk, cut in two and put together

behind-none : (p : Role) (l : List Role) (x : ℕ) → Behind p l → 0 < used x p → declared_in x l ≡ 0
unfolding Behind used
behind-none (declares y) l x b u = absurd (omega arith)
behind-none (uses y) l x b u = go (cases_eq x y)
  where
    go : (x ≡ y) ⊎ (x ≡ y → ⊥) → declared_in x l ≡ 0
    go (inl e) = rw e b
    go (inr n) = absurd (let z : ◌≡◌ {A = ℕ} (cond (eqb x y) 1 0) 0 = rw (ne_eqb x y n) in omega arith)
behind-none plain l x b u = absurd (omega arith)

behind-front : (p : Role) (l m : List Role) → Behind p (l ++ m) → Behind p l
unfolding Behind
behind-front (declares y) l m b = tt
behind-front (uses y) l m b = omega (arith, declared_in-++ y l m)
behind-front plain l m b = tt

behind-both : (p : Role) (l m : List Role) → Behind p l → ((x : ℕ) → 0 < used x p → declared_in x m ≡ 0) → Behind p (l ++ m)
unfolding Behind used
behind-both (declares y) l m b h = tt
behind-both (uses y) l m b h =
    let one : ◌≡◌ {A = ℕ} (cond (eqb y y) 1 0) 1 = rw (eq-eqb y y refl) in
    omega (arith, declared_in-++ y l m, h y (omega arith))
behind-both plain l m b h = tt

in_order-parts : (l m : List Role) → InOrder (l ++ m) → InOrder l × InOrder m × ((x : ℕ) → 0 < used_in x l → declared_in x m ≡ 0)
unfolding used_in InOrder
in_order-parts [] m o = (tt, o, λ x u. absurd (omega arith))
in_order-parts (p ∷ l) m o =
    let k = in_order-parts l m o.1 in (
      (behind-front p l m o.0, k.0),
      k.1,
      λ x u.
          ⊎_elim (λ g. let z = behind-none p (l ++ m) x o.0 g in omega (arith, declared_in-++ x l m)) (λ g. k.2 x (omega arith)) (cases_lt 0 (used x p)),
    )

in_order-both : (l m : List Role) → InOrder l → InOrder m → ((x : ℕ) → 0 < used_in x l → declared_in x m ≡ 0) → InOrder (l ++ m)
unfolding used_in InOrder
in_order-both [] m o k h = k
in_order-both (p ∷ l) m o k h = (behind-both p l m o.0 (λ x u. h x (omega arith)), in_order-both l m o.1 k (λ x u. h x (omega arith)))

---- what is declared in a part was not met in the parts before it

unfoldable mutual
  pub Apart : Tree → Type 0
  Apart (node c v w ts) = ApartAll ts × ((x : ℕ) → 0 < declared x (role c v w) → decls_all x ts + uses_all x ts ≡ 0)

  pub ApartAll : Forest → Type 0
  ApartAll nil = Unit {0}
  ApartAll (cons t ts) = Apart t × ApartAll ts × ((x : ℕ) → 0 < decls_all x ts → decls x t + uses_of x t ≡ 0)

-- no use in the first part of what the second declares
unused : (d d' n : ℕ) → d + d' ≤ 1 → (0 < n → d' ≡ 0) → 0 < d' → d + n ≡ 0
unused d d' n o h p = ⊎_elim (λ g. absurd (omega (arith, h g))) (λ g. omega arith) (cases_lt 0 n)

mutual
  unfolding Apart ApartAll walk walk_all declared_in decls decls_all

  pub sound-apart : (t : Tree) → InOrder (walk t) → ((x : ℕ) → decls x t ≤ 1) → Apart t
  sound-apart (node c v w ts) o h =
      let k = in_order-parts (walk_all ts) (role c v w ∷ []) o in (
        sound-apart_all ts k.0 (λ x. omega (arith, h x)),
        λ x. unused (decls_all x ts) (declared x (role c v w)) (uses_all x ts) (h x) (λ u. omega (arith, k.2 x (omega (arith, walk_all-uses x ts)))),
      )

  sound-apart_all : (ts : Forest) → InOrder (walk_all ts) → ((x : ℕ) → decls_all x ts ≤ 1) → ApartAll ts
  sound-apart_all nil o h = tt
  sound-apart_all (cons t ts) o h =
      let k = in_order-parts (walk t) (walk_all ts) o in (
        sound-apart t k.0 (λ x. omega (arith, h x)),
        sound-apart_all ts k.1 (λ x. omega (arith, h x)),
        λ x. unused (decls x t) (decls_all x ts) (uses_of x t) (h x) (λ u. omega (arith, k.2 x (omega (arith, walk-uses x t)), walk_all-decls x ts)),
      )

-- what the first part uses is not declared in the second
pub undeclared : (d d' n : ℕ) → (0 < d' → d + n ≡ 0) → 0 < n → d' ≡ 0
undeclared d d' n h p = ⊎_elim (λ g. absurd (omega (arith, h g))) (λ g. omega arith) (cases_lt 0 d')

at_most_one : (d d' n : ℕ) → (0 < d' → d + n ≡ 0) → d ≤ 1 → d' ≤ 1 → d + d' ≤ 1
at_most_one d d' n h p q = ⊎_elim (λ g. omega (arith, h g)) (λ g. omega arith) (cases_lt 0 d')

lone-order : (p : Role) → InOrder (p ∷ [])
unfolding InOrder Behind declared_in
lone-order (declares y) = (tt, tt)
lone-order (uses y) = (refl, tt)
lone-order plain = (tt, tt)

mutual
  unfolding Apart ApartAll walk walk_all declared_in InOrder

  pub apart-order : (t : Tree) → Apart t → InOrder (walk t)
  apart-order (node c v w ts) a =
      in_order-both (walk_all ts) (role c v w ∷ []) (apart-order_all ts a.0) (lone-order (role c v w))
      (λ x u. omega (arith, undeclared (decls_all x ts) (declared x (role c v w)) (uses_all x ts) (a.1 x) (omega (arith, walk_all-uses x ts))))

  apart-order_all : (ts : Forest) → ApartAll ts → InOrder (walk_all ts)
  apart-order_all nil a = tt
  apart-order_all (cons t ts) a =
      in_order-both (walk t) (walk_all ts) (apart-order t a.0) (apart-order_all ts a.1)
      (λ x u. omega (arith, walk_all-decls x ts, undeclared (decls x t) (decls_all x ts) (uses_of x t) (a.2 x) (omega (arith, walk-uses x t))))

mutual
  unfolding Apart ApartAll decls decls_all

  pub apart-once : (t : Tree) → Apart t → (x : ℕ) → decls x t ≤ 1
  apart-once (node c v w ts) a x = at_most_one (decls_all x ts) (declared x (role c v w)) (uses_all x ts) (a.1 x) (apart-once_all ts a.0 x) (declared-one x (role c v w))

  apart-once_all : (ts : Forest) → ApartAll ts → (x : ℕ) → decls_all x ts ≤ 1
  apart-once_all nil a x = omega arith
  apart-once_all (cons t ts) a x = at_most_one (decls x t) (decls_all x ts) (uses_of x t) (a.2 x) (apart-once t a.0 x) (apart-once_all ts a.1 x)
