-- what a walk that was noted says of each local, part by part of the tree
use Rattle.std.proofs.Common.{◌≡◌, ℕ, suc, ◌+◌, ◌<◌, ◌≤◌, Bool, true, false, cond, eqb, ltb, ◌⊎◌, List, [], ◌∷◌, ◌++◌, length, get_or, set, sym, refl, ap, ◌∙◌, inl, inr, ⊎_elim, add-zero, arith, length-append, length-set}
use Rattle.std.proofs.lemmas.List.{get_or-set_same, get_or-set_other}
use Rattle.std.proofs.lemmas.Bool.{cases_lt, cases_eq, ne_eqb, eqb-true, ltb-true}
use Rattle.rule.specs.Trees.{Tree, Forest, node, nil, cons}
use Rattle.rule.specs.Scopes.{Role, declares, uses, plain, role, compares, declared, used, decls, decls_all, uses_of, uses_all, OwnUses, Closed, Enclosed, EnclosedAll}
use Rattle.rule.specs.Marks.{size, size_all, Step, end_of, steps, steps_all, Marked, broken, marked, and_then, at_declaration, at_use, note, note_all}
use Rattle.rule.proofs.Walked.{Apart, ApartAll}

---- a walk is noted part by part

and_then-both : (o : Marked) (f g h : List ℕ → Marked) → ((m : List ℕ) → f m ≡ and_then (g m) h) → and_then o f ≡ and_then (and_then o g) h
unfolding and_then
and_then-both broken f g h e = refl
and_then-both (marked m) f g h e = e m

note_all-++ : (p : ℕ) (l k : List Step) (m : List ℕ) → note_all p (l ++ k) m ≡ and_then (note_all p l m) (note_all (p + length l) k)
unfolding note_all and_then
note_all-++ p [] k m = ap (λ (q : ℕ). note_all q k m) (sym (add-zero p))
note_all-++ p (s ∷ l) k m =
    let e : p + 1 + length l ≡ p + suc (length l) = omega arith in
    and_then-both (note p s.does s.until m) _ _ _ (λ m'. note_all-++ (p + 1) l k m' ∙ ap (λ (q : ℕ). and_then (note_all (p + 1) l m') (note_all q k)) e)

mutual
  unfolding size size_all steps steps_all

  steps-length : (p u : ℕ) (t : Tree) → length (steps p u t) ≡ size t
  steps-length p u (node c v w ts) = length-append (steps_all (compares c v) p u ts) _ ∙ ap (λ (n : ℕ). n + 1) (steps_all-length (compares c v) p u ts)

  steps_all-length : (b : Bool) (p u : ℕ) (ts : Forest) → length (steps_all b p u ts) ≡ size_all ts
  steps_all-length b p u nil = refl
  steps_all-length b p u (cons t ts) = length-append (steps p (end_of b (p + size t) u) t) _ ∙ (omega (arith, steps-length p (end_of b (p + size t) u) t, steps_all-length b (p + size t) u ts))

pub note-node : (p u c v w : ℕ) (ts : Forest) (m : List ℕ) → note_all p (steps p u (node c v w ts)) m ≡ and_then (note_all p (steps_all (compares c v) p u ts) m) (note (p + size_all ts) (role c v w) u)
unfolding steps note_all and_then
note-node p u c v w ts m =
    note_all-++ p (steps_all (compares c v) p u ts) _ m
    ∙ ap (λ (n : ℕ). and_then (note_all p (steps_all (compares c v) p u ts) m) (note_all (p + n) (record { does = role c v w; until = u } ∷ []))) (steps_all-length (compares c v) p u ts)
    ∙ go (note_all p (steps_all (compares c v) p u ts) m)
  where
    last : (o : Marked) (q : ℕ) → and_then o (note_all q []) ≡ o
    last broken q = refl
    last (marked m') q = refl

    go : (o : Marked) → and_then o (note_all (p + size_all ts) (record { does = role c v w; until = u } ∷ [])) ≡ and_then o (note (p + size_all ts) (role c v w) u)
    go broken = refl
    go (marked m') = last (note (p + size_all ts) (role c v w) u m') (p + size_all ts + 1)

pub note-cons : (b : Bool) (p u : ℕ) (t : Tree) (ts : Forest) (m : List ℕ) → note_all p (steps_all b p u (cons t ts)) m ≡ and_then (note_all p (steps p (end_of b (p + size t) u) t) m) (note_all (p + size t) (steps_all b (p + size t) u ts))
unfolding steps_all
note-cons b p u t ts m =
    note_all-++ p (steps p (end_of b (p + size t) u) t) _ m
    ∙ ap (λ (n : ℕ). and_then (note_all p (steps p (end_of b (p + size t) u) t) m) (note_all (p + n) (steps_all b (p + size t) u ts))) (steps-length p (end_of b (p + size t) u) t)

and_then-inv : (o : Marked) (k : List ℕ → Marked) (m : List ℕ) → and_then o k ≡ marked m → (m₁ : List ℕ) × (o ≡ marked m₁) × (k m₁ ≡ marked m)
unfolding and_then
and_then-inv broken k m e = absurd (let z : ◌≡◌ {A = ℕ} 0 1 = cc in omega arith)
and_then-inv (marked m₁) k m e = (m₁, refl, e)

---- one local: x, with the mark e before a part at the place p and e' behind it; the part ends by u, declares it d times and uses it n times

pub record Met (x p u e e' d n : ℕ) : Type 0 where
  pub kept : 0 < e → e' ≡ e
  pub known : 0 < e → d ≡ 0
  pub ended : 0 < e → e ≤ p → n ≡ 0
  pub met : 0 < d + n → 0 < e'
  pub ends : 0 < d → e' ≤ u
  pub low : 1023 < x → d + n ≡ 0

met-not : (x p u e e' d n : ℕ) → e' ≡ e → d ≡ 0 → n ≡ 0 → Met x p u e e' d n
met-not x p u e e' d n k h j = record { kept = λ _. k; known = λ _. h; ended = λ _ _. j; met = λ z. absurd (omega arith); ends = λ z. absurd (omega arith); low = λ _. omega arith }

met-first : (x p u e e' d n : ℕ) → x < 1024 → e ≡ 0 → 0 < e' → (0 < d → e' ≤ u) → Met x p u e e' d n
met-first x p u e e' d n l z h k = record { kept = λ g. absurd (omega arith); known = λ g. absurd (omega arith); ended = λ g _. absurd (omega arith); met = λ _. h; ends = k; low = λ g. absurd (omega arith) }

met-again : (x p u e e' d n : ℕ) → x < 1024 → p < e → e' ≡ e → d ≡ 0 → Met x p u e e' d n
met-again x p u e e' d n l h k z = record { kept = λ _. k; known = λ _. z; ended = λ _ g. absurd (omega arith); met = λ _. omega arith; ends = λ g. absurd (omega arith); low = λ g. absurd (omega arith) }

met-both : (x p q v u e e₁ e' d n d' n' : ℕ) → p ≤ q → v ≤ u → Met x p v e e₁ d n → Met x q u e₁ e' d' n' → Met x p u e e' (d + d') (n + n')
met-both x p q v u e e₁ e' d n d' n' h j a b =
    record {
      kept = λ g. omega (arith, a.kept g, b.kept (omega (arith, a.kept g)));
      known = λ g. omega (arith, a.known g, b.known (omega (arith, a.kept g)));
      ended = λ g k. omega (arith, a.ended g k, b.ended (omega (arith, a.kept g)) (omega (arith, a.kept g)));
      met = λ g. ⊎_elim (λ k. omega (arith, a.met k, b.kept (a.met k))) (λ k. b.met (omega arith)) (cases_lt 0 (d + n));
      ends = λ g. ⊎_elim (λ k. let z = a.met (omega arith) in omega (arith, a.ends k, b.kept z)) (λ k. b.ends (omega arith)) (cases_lt 0 d);
      low = λ g. omega (arith, a.low g, b.low g);
    }

---- one step

cond-inv : (b : Bool) (o : Marked) (m : List ℕ) → cond b o broken ≡ marked m → (b ≡ true) × (o ≡ marked m)
cond-inv true o m e = (refl, e)
cond-inv false o m e = absurd (let z : ◌≡◌ {A = ℕ} 0 1 = cc in omega arith)

declaration-inv : (x u : ℕ) (m m' : List ℕ) → at_declaration x u m ≡ marked m' → (x < 1024) × (get_or m x 0 ≡ 0) × (m' ≡ set m x u)
unfolding at_declaration
declaration-inv x u m m' e =
    let k = cond-inv _ _ m' e in
    let j = cond-inv _ _ m' k.1 in
    (ltb-true x 1024 k.0, eqb-true (get_or m x 0) 0 j.0, cc j.1)

use-inv : (p x : ℕ) (m m' : List ℕ) → at_use p x m ≡ marked m' → (x < 1024) × (((get_or m x 0 ≡ 0) × (m' ≡ set m x 65535)) ⊎ ((p < get_or m x 0) × (m' ≡ m)))
unfolding at_use
use-inv p x m m' e =
    let k = cond-inv _ _ m' e in
    (ltb-true x 1024 k.0, go (eqb (get_or m x 0) 0) refl k.1)
  where
    go : (b : Bool) → eqb (get_or m x 0) 0 ≡ b → cond b (marked (set m x 65535)) (cond (ltb p (get_or m x 0)) (marked m) broken) ≡ marked m' → ((get_or m x 0 ≡ 0) × (m' ≡ set m x 65535)) ⊎ ((p < get_or m x 0) × (m' ≡ m))
    go true t e = inl (eqb-true (get_or m x 0) 0 t, cc)
    go false t e = let j = cond-inv _ _ m' e in inr (ltb-true p (get_or m x 0) j.0, cc j.1)

at_other : (x y : ℕ) → (x ≡ y → ⊥) → ◌≡◌ {A = ℕ} (cond (eqb x y) 1 0) 0
at_other x y n = rw (ne_eqb x y n)

met-note : (p u : ℕ) (r : Role) (m m' : List ℕ) → p < u → length m ≡ 1024 → note p r u m ≡ marked m' → (length m' ≡ 1024) × ((x : ℕ) → Met x p u (get_or m x 0) (get_or m' x 0) (declared x r) (used x r))
unfolding note declared used
met-note p u (declares y) m m' h l e = (ap length k.2 ∙ length-set m y u ∙ l, λ x. go x (cases_eq x y))
  where
    k : (y < 1024) × (get_or m y 0 ≡ 0) × (m' ≡ set m y u)
    k = declaration-inv y u m m' e

    go : (x : ℕ) → (x ≡ y) ⊎ (x ≡ y → ⊥) → Met x p u (get_or m x 0) (get_or m' x 0) (cond (eqb x y) 1 0) 0
    go x (inl i) =
        let s : get_or m' x 0 ≡ u = rw (k.2, i) (get_or-set_same m y u 0 (omega (arith, k.0))) in
        met-first x p u _ _ _ 0 (omega (arith, k.0)) (rw i k.1) (omega arith) (λ _. omega arith)
    go x (inr n) = met-not x p u _ _ _ 0 (rw k.2 (get_or-set_other m y x u 0 n)) (at_other x y n) refl
met-note p u (uses y) m m' h l e = go (use-inv p y m m' e).1
  where
    lt : y < 1024
    lt = (use-inv p y m m' e).0

    first : (m' ≡ set m y 65535) → get_or m y 0 ≡ 0 → (x : ℕ) → (x ≡ y) ⊎ (x ≡ y → ⊥) → Met x p u (get_or m x 0) (get_or m' x 0) 0 (cond (eqb x y) 1 0)
    first j z x (inl i) =
        let s : get_or m' x 0 ≡ 65535 = rw (j, i) (get_or-set_same m y 65535 0 (omega (arith, lt))) in
        met-first x p u _ _ 0 _ (omega (arith, lt)) (rw i z) (omega arith) (λ g. absurd (omega arith))
    first j z x (inr n) = met-not x p u _ _ 0 _ (rw j (get_or-set_other m y x 65535 0 n)) refl (at_other x y n)

    again : (m' ≡ m) → p < get_or m y 0 → (x : ℕ) → (x ≡ y) ⊎ (x ≡ y → ⊥) → Met x p u (get_or m x 0) (get_or m' x 0) 0 (cond (eqb x y) 1 0)
    again j z x (inl i) = met-again x p u _ _ 0 _ (omega (arith, lt)) (rw i z) (rw j) refl
    again j z x (inr n) = met-not x p u _ _ 0 _ (rw j) refl (at_other x y n)

    go : ((get_or m y 0 ≡ 0) × (m' ≡ set m y 65535)) ⊎ ((p < get_or m y 0) × (m' ≡ m)) → (length m' ≡ 1024) × ((x : ℕ) → Met x p u (get_or m x 0) (get_or m' x 0) 0 (cond (eqb x y) 1 0))
    go (inl k) = (ap length k.1 ∙ length-set m y 65535 ∙ l, λ x. first k.1 k.0 x (cases_eq x y))
    go (inr k) = (ap length k.1 ∙ l, λ x. again k.1 k.0 x (cases_eq x y))
met-note p u plain m m' h l e =
    let k : m' ≡ m = cc in
    (ap length k ∙ l, λ x. met-not x p u _ _ 0 0 (rw k) refl refl)

---- a tree

pub record Passed (p u : ℕ) (m m' : List ℕ) (d n : ℕ → ℕ) : Type 0 where
  pub wide : length m' ≡ 1024
  pub each : (x : ℕ) → Met x p u (get_or m x 0) (get_or m' x 0) (d x) (n x)

pub end-within : (b : Bool) (e u : ℕ) → e ≤ u → (e ≤ end_of b e u) × (end_of b e u ≤ u)
end-within true e u h = (omega arith, h)
end-within false e u h = (h, omega arith)

split-node : (p u c v w : ℕ) (ts : Forest) (m m' : List ℕ) → note_all p (steps p u (node c v w ts)) m ≡ marked m'
    → (m₁ : List ℕ) × (note_all p (steps_all (compares c v) p u ts) m ≡ marked m₁) × (note (p + size_all ts) (role c v w) u m₁ ≡ marked m')
split-node p u c v w ts m m' e = and_then-inv _ _ m' (sym (note-node p u c v w ts m) ∙ e)

split-cons : (b : Bool) (p u : ℕ) (t : Tree) (ts : Forest) (m m' : List ℕ) → note_all p (steps_all b p u (cons t ts)) m ≡ marked m'
    → (m₁ : List ℕ) × (note_all p (steps p (end_of b (p + size t) u) t) m ≡ marked m₁) × (note_all (p + size t) (steps_all b (p + size t) u ts) m₁ ≡ marked m')
split-cons b p u t ts m m' e = and_then-inv _ _ m' (sym (note-cons b p u t ts m) ∙ e)

met-none : (b : Bool) (p u : ℕ) (m m' : List ℕ) → length m ≡ 1024 → note_all p (steps_all b p u nil) m ≡ marked m' → Passed p u m m' (λ x. 0) (λ x. 0)
unfolding steps_all note_all
met-none b p u m m' l e =
    let k : m' ≡ m = cc in
    record { wide = ap length k ∙ l; each = λ x. met-not x p u _ _ 0 0 (rw k) refl refl }

mutual
  unfolding size size_all decls decls_all uses_of uses_all

  pub met-tree : (t : Tree) (p u : ℕ) (m m' : List ℕ) → p + size t ≤ u → length m ≡ 1024 → note_all p (steps p u t) m ≡ marked m' → Passed p u m m' (λ x. decls x t) (λ x. uses_of x t)
  met-tree (node c v w ts) p u m m' h l e =
      let k = split-node p u c v w ts m m' e in
      let a = met-forest ts (compares c v) p u m k.0 (omega arith) l k.1 in
      let b = met-note (p + size_all ts) u (role c v w) k.0 m' (omega arith) a.wide k.2 in
      record { wide = b.0; each = λ x. met-both x p (p + size_all ts) u u _ _ _ _ _ _ _ (omega arith) (omega arith) (a.each x) (b.1 x) }

  met-forest : (ts : Forest) (b : Bool) (p u : ℕ) (m m' : List ℕ) → p + size_all ts ≤ u → length m ≡ 1024 → note_all p (steps_all b p u ts) m ≡ marked m' → Passed p u m m' (λ x. decls_all x ts) (λ x. uses_all x ts)
  met-forest nil b p u m m' h l e = met-none b p u m m' l e
  met-forest (cons t ts) b p u m m' h l e =
      let k = split-cons b p u t ts m m' e in
      let i = end-within b (p + size t) u (omega arith) in
      let f = met-tree t p (end_of b (p + size t) u) m k.0 i.0 l k.1 in
      let g = met-forest ts b (p + size t) u k.0 m' (omega arith) f.wide k.2 in
      record { wide = g.wide; each = λ x. met-both x p (p + size t) (end_of b (p + size t) u) u _ _ _ _ _ _ _ (omega arith) i.1 (f.each x) (g.each x) }

---- what is declared was not met before, and what is declared in an operand is used there only

fresh : {x p q v u e e₁ e' d n d' n' : ℕ} → Met x p v e e₁ d n → Met x q u e₁ e' d' n' → 0 < d' → d + n ≡ 0
fresh {d = d} {n = n} a b h = ⊎_elim (λ g. absurd (omega (arith, b.known (a.met g)))) (λ g. omega arith) (cases_lt 0 (d + n))

-- the local is used, of all its U uses, in this part only, if its mark comes up in it and ends with it
unfoldable pub Ends : (U z e e' n : ℕ) → Type 0
Ends U z e e' n = e ≡ 0 → 0 < e' → e' ≤ z → U ≤ n

ends-first : {x p q v u e e₁ e' d n d' n' : ℕ} (U z : ℕ) → Met x p v e e₁ d n → Met x q u e₁ e' d' n' → q ≤ z → Ends U z e e' (n + n') → Ends U q e e₁ n
unfolding Ends
ends-first U z a b h k i j r = omega (arith, b.ended j r, k i (omega (arith, b.kept j)) (omega (arith, b.kept j)))

ends-rest : {x p q v u e e₁ e' d n d' n' : ℕ} (U z : ℕ) → Met x p v e e₁ d n → Met x q u e₁ e' d' n' → Ends U z e e' (n + n') → Ends U z e₁ e' n'
unfolding Ends
ends-rest {e = e} {d = d} {n = n} U z a b k i j r =
    let none : e ≡ 0 = ⊎_elim (λ g. absurd (omega (arith, a.kept g))) (λ g. omega arith) (cases_lt 0 e) in
    let not : d + n ≡ 0 = ⊎_elim (λ g. absurd (omega (arith, a.met g))) (λ g. omega arith) (cases_lt 0 (d + n)) in
    omega (arith, k none j r)

ends-own : {x p v e e₁ d n : ℕ} (U z : ℕ) → Met x p v e e₁ d n → Ends U z e e₁ n → 0 < d → v ≤ z → U ≤ n
unfolding Ends
ends-own {e = e} U z a k h i =
    let none : e ≡ 0 = ⊎_elim (λ g. absurd (omega (arith, a.known g))) (λ g. omega arith) (cases_lt 0 e) in
    k none (a.met (omega arith)) (omega (arith, a.ends h))

closed-more : (b : Bool) (U : ℕ → ℕ) (t : Tree) (ts : Forest) (e u : ℕ) → ((x : ℕ) → 0 < decls x t → end_of b e u ≤ e → U x ≤ uses_of x t) → Closed b U ts → Closed b U (cons t ts)
unfolding Closed OwnUses
closed-more true U t ts e u h k = (λ x d. h x d (omega arith), k)
closed-more false U t ts e u h k = tt

closed-nil : (b : Bool) (U : ℕ → ℕ) → Closed b U nil
unfolding Closed OwnUses
closed-nil true U = tt
closed-nil false U = tt

module _ (U : ℕ → ℕ) where
  mutual
    unfolding size size_all decls decls_all uses_of uses_all Apart ApartAll Enclosed EnclosedAll

    pub noted-tree : (t : Tree) (p u : ℕ) (m m' : List ℕ) → p + size t ≤ u → length m ≡ 1024 → note_all p (steps p u t) m ≡ marked m'
        → ((x : ℕ) → Ends (U x) (p + size t) (get_or m x 0) (get_or m' x 0) (uses_of x t)) → Apart t × Enclosed U t
    noted-tree (node c v w ts) p u m m' h l e k =
        let s = split-node p u c v w ts m m' e in
        let a = met-forest ts (compares c v) p u m s.0 (omega arith) l s.1 in
        let b = met-note (p + size_all ts) u (role c v w) s.0 m' (omega arith) a.wide s.2 in
        let r = noted-forest ts (compares c v) p u m s.0 (omega arith) l s.1 (λ x. ends-first (U x) (p + size (node c v w ts)) (a.each x) (b.1 x) (omega arith) (k x)) in
        ((r.0, λ x. fresh (a.each x) (b.1 x)), (r.1, r.2))

    noted-forest : (ts : Forest) (b : Bool) (p u : ℕ) (m m' : List ℕ) → p + size_all ts ≤ u → length m ≡ 1024 → note_all p (steps_all b p u ts) m ≡ marked m'
        → ((x : ℕ) → Ends (U x) (p + size_all ts) (get_or m x 0) (get_or m' x 0) (uses_all x ts)) → ApartAll ts × EnclosedAll U ts × Closed b U ts
    noted-forest nil b p u m m' h l e k = (tt, tt, closed-nil b U)
    noted-forest (cons t ts) b p u m m' h l e k =
        let s = split-cons b p u t ts m m' e in
        let i = end-within b (p + size t) u (omega arith) in
        let f = met-tree t p (end_of b (p + size t) u) m s.0 i.0 l s.1 in
        let g = met-forest ts b (p + size t) u s.0 m' (omega arith) f.wide s.2 in
        let j : (x : ℕ) → Ends (U x) (p + size t) (get_or m x 0) (get_or s.0 x 0) (uses_of x t) = λ x. ends-first (U x) (p + size_all (cons t ts)) (f.each x) (g.each x) (omega arith) (k x) in
        let q = noted-tree t p (end_of b (p + size t) u) m s.0 i.0 l s.1 j in
        let o : p + size t + size_all ts ≡ p + size_all (cons t ts) = omega arith in
        let r = noted-forest ts b (p + size t) u s.0 m' (omega arith) f.wide s.2 (λ x. rw o (ends-rest (U x) (p + size_all (cons t ts)) (f.each x) (g.each x) (k x))) in
        ((q.0, r.0, λ x. fresh (f.each x) (g.each x)), (q.1, r.1), closed-more b U t ts (p + size t) u (λ x. ends-own (U x) (p + size t) (f.each x) (j x)) r.2)
