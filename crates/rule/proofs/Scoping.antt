-- the walk is noted to its end just where the scopes are sound
use Rattle.std.proofs.Common.{◌≡◌, ℕ, ◌+◌, ◌<◌, ◌≤◌, Bool, true, false, cond, eqb, List, length, get_or, set, refl, ap, ◌∙◌, ⊎_elim, arith, length-set}
use Rattle.std.proofs.lemmas.List.{get_or-set_same, get_or-set_other}
use Rattle.std.proofs.lemmas.Bool.{cases_lt, cases_eq, eq-eqb, ne_eqb, lt-ltb}
use Rattle.rule.specs.Trees.{Tree, Forest, node, nil, cons}
use Rattle.rule.specs.Scopes.{Role, declares, uses, plain, role, compares, declared, used, decls, decls_all, uses_of, uses_all, OwnUses, Closed, Enclosed, EnclosedAll, SoundScopes}
use Rattle.rule.specs.Marks.{size, size_all, end_of, steps, steps_all, Marked, broken, marked, and_then, at_declaration, at_use, note, note_all}
use Rattle.rule.proofs.Walked.{Apart, ApartAll, sound-apart, apart-order, apart-once}
use Rattle.rule.proofs.Noted.{note-node, note-cons, met-tree, Ends, noted-tree, end-within}

pub noted-sound : (t : Tree) (m m' : List ℕ) → size t < 65535 → length m ≡ 1024 → ((x : ℕ) → get_or m x 0 ≡ 0)
    → note_all 0 (steps 0 (size t) t) m ≡ marked m' → SoundScopes t
unfolding Ends
noted-sound t m m' s l z e =
    let f = met-tree t 0 (size t) m m' (omega arith) l e in
    let r = noted-tree (λ x. uses_of x t) t 0 (size t) m m' (omega arith) l e (λ x _ _ _. omega arith) in
    record { low = λ x. (f.each x).low; once = apart-once t r.0; ordered = apart-order t r.0; enclosed = r.1 }

---- one local with U uses in all: its mark e before a part that ends by u, declares it d times and uses it n times, and e' behind it

data Left (U u e e' d n : ℕ) : Type 0 where
  same : e' ≡ e → Left U u e e' d n
  free : 0 < n → e' ≡ 65535 → Left U u e e' d n
  bound : 0 < d → (n < U → u ≤ e') → Left U u e e' d n

left_both : {U v u e e₁ e' d n d' n' : ℕ} → Left U v e e₁ d n → Left U u e₁ e' d' n' → (0 < d → n < U → u ≤ v) → Left U u e e' (d + d') (n + n')
left_both (same s) (same r) i = same (r ∙ s)
left_both (same s) (free h r) i = free (omega arith) r
left_both (same s) (bound h k) i = bound (omega arith) (λ g. k (omega arith))
left_both (free q s) (same r) i = free (omega arith) (r ∙ s)
left_both (free q s) (free h r) i = free (omega arith) r
left_both (free q s) (bound h k) i = bound (omega arith) (λ g. k (omega arith))
left_both (bound q j) (same r) i = bound (omega arith) (λ g. omega (arith, j (omega arith), i q (omega arith)))
left_both (bound q j) (free h r) i = free (omega arith) r
left_both (bound q j) (bound h k) i = bound (omega arith) (λ g. k (omega arith))

-- a mark that is still of use lies behind the place q
left_open : {U v e e₁ d n : ℕ} (u q : ℕ) → Left U v e e₁ d n → (0 < d → n < U → u ≤ v) → n < U → u ≤ 65535 → q ≤ u → (0 < e → q ≤ e) → 0 < e₁ → q ≤ e₁
left_open u q (same s) i h k j o g = omega (arith, o (omega arith))
left_open u q (free f s) i h k j o g = omega arith
left_open u q (bound f r) i h k j o g = omega (arith, r h, i f h)

left-new : {U v e e₁ d n : ℕ} → Left U v e e₁ d n → e ≡ 0 → d + n ≡ 0 → e₁ ≡ 0
left-new (same s) z h = s ∙ z
left-new (free f s) z h = absurd (omega arith)
left-new (bound f r) z h = absurd (omega arith)

---- a part that ends at q and declares and uses locals as d and n say can be noted from the marks m on

module _ (U : ℕ → ℕ) where
  record Ready (q : ℕ) (m : List ℕ) (d n : ℕ → ℕ) : Type 0 where
    wide : length m ≡ 1024
    new : (x : ℕ) → 0 < d x → get_or m x 0 ≡ 0
    ahead : (x : ℕ) → 0 < get_or m x 0 → 0 < n x → q ≤ get_or m x 0
    low : (x : ℕ) → 1023 < x → d x + n x ≡ 0
    all : (x : ℕ) → n x ≤ U x

  record Reached (u : ℕ) (o : Marked) (m : List ℕ) (d n : ℕ → ℕ) : Type 0 where
    marks : List ℕ
    is : o ≡ marked marks
    wide : length marks ≡ 1024
    left : (x : ℕ) → Left (U x) u (get_or m x 0) (get_or marks x 0) (d x) (n x)

  ready-first : {m : List ℕ} (q q' : ℕ) (d n d' n' : ℕ → ℕ) → q ≤ q' → Ready q' m (λ x. d x + d' x) (λ x. n x + n' x) → Ready q m d n
  ready-first q q' d n d' n' h r =
      record {
        wide = r.wide;
        new = λ x g. r.new x (omega arith);
        ahead = λ x g i. omega (arith, r.ahead x g (omega arith));
        low = λ x g. omega (arith, r.low x g);
        all = λ x. omega (arith, r.all x);
      }

  ready-rest : {m : List ℕ} {o : Marked} {v : ℕ} (u q : ℕ) (d n d' n' : ℕ → ℕ) → q ≤ u → u ≤ 65535 → Ready q m (λ x. d x + d' x) (λ x. n x + n' x) → (k : Reached v o m d n)
      → ((x : ℕ) → 0 < d x → n x < U x → u ≤ v) → ((x : ℕ) → 0 < d' x → d x + n x ≡ 0) → Ready q k.marks d' n'
  ready-rest u q d n d' n' h j r k i a =
      record {
        wide = k.wide;
        new = λ x g. left-new (k.left x) (r.new x (omega arith)) (a x g);
        ahead = λ x g s. left_open u q (k.left x) (i x) (omega (arith, r.all x)) j h (λ z. r.ahead x z (omega arith)) g;
        low = λ x g. omega (arith, r.low x g);
        all = λ x. omega (arith, r.all x);
      }

  reached-both : {m : List ℕ} {o : Marked} {v u : ℕ} (f : List ℕ → Marked) (d n d' n' : ℕ → ℕ) → (k : Reached v o m d n) → Reached u (f k.marks) k.marks d' n'
      → ((x : ℕ) → 0 < d x → n x < U x → u ≤ v) → Reached u (and_then o f) m (λ x. d x + d' x) (λ x. n x + n' x)
  unfolding and_then
  reached-both {o = o} f d n d' n' k j i =
      record {
        marks = j.marks;
        is = ap (λ (o' : Marked). and_then o' f) k.is ∙ j.is;
        wide = j.wide;
        left = λ x. left_both (k.left x) (j.left x) (i x);
      }

  -- one step
  reach-note : (q u : ℕ) (r : Role) (m : List ℕ) → Ready (q + 1) m (λ x. declared x r) (λ x. used x r) → Reached u (note q r u m) m (λ x. declared x r) (λ x. used x r)
  unfolding note at_declaration at_use declared used
  reach-note q u (declares y) m k =
      let one : ◌≡◌ {A = ℕ} (cond (eqb y y) 1 0) 1 = rw (eq-eqb y y refl) in
      let lt : y < 1024 = ⊎_elim (λ g. g) (λ g. absurd (omega (arith, k.low y (omega arith)))) (cases_lt y 1024) in
      let z : get_or m y 0 ≡ 0 = k.new y (omega arith) in
      record {
        marks = set m y u;
        is = rw (lt-ltb y 1024 lt, eq-eqb (get_or m y 0) 0 z);
        wide = length-set m y u ∙ k.wide;
        left = λ x. ⊎_elim
            (λ i. let o : ◌≡◌ {A = ℕ} (cond (eqb x y) 1 0) 1 = rw (eq-eqb x y i) in
            let s : get_or (set m y u) x 0 ≡ u = rw i (get_or-set_same m y u 0 (omega (arith, k.wide))) in
            bound (omega arith) (λ _. omega arith))
            (λ n. same (get_or-set_other m y x u 0 n)) (cases_eq x y);
      }
  reach-note q u (uses y) m k = ⊎_elim again first (cases_lt 0 (get_or m y 0))
    where
      one : ◌≡◌ {A = ℕ} (cond (eqb y y) 1 0) 1
      one = rw (eq-eqb y y refl)

      lt : y < 1024
      lt = ⊎_elim (λ g. g) (λ g. absurd (omega (arith, k.low y (omega arith), one))) (cases_lt y 1024)

      again : 0 < get_or m y 0 → Reached u (at_use q y m) m (λ x. 0) (λ x. cond (eqb x y) 1 0)
      again g =
          let h : q < get_or m y 0 = omega (arith, k.ahead y g (omega (arith, one))) in
          record {
            marks = m;
            is = rw (lt-ltb y 1024 lt, ne_eqb (get_or m y 0) 0 (λ i. omega arith), lt-ltb q (get_or m y 0) h);
            wide = k.wide;
            left = λ x. same refl;
          }

      first : get_or m y 0 ≤ 0 → Reached u (at_use q y m) m (λ x. 0) (λ x. cond (eqb x y) 1 0)
      first g =
          let z : get_or m y 0 ≡ 0 = omega arith in
          record {
            marks = set m y 65535;
            is = rw (lt-ltb y 1024 lt, eq-eqb (get_or m y 0) 0 z);
            wide = length-set m y 65535 ∙ k.wide;
            left = λ x. ⊎_elim
                (λ i. let o : ◌≡◌ {A = ℕ} (cond (eqb x y) 1 0) 1 = rw (eq-eqb x y i) in
                free (omega arith) (rw i (get_or-set_same m y 65535 0 (omega (arith, k.wide, lt)))))
                (λ n. same (get_or-set_other m y x 65535 0 n)) (cases_eq x y);
          }
  reach-note q u plain m k = record { marks = m; is = refl; wide = k.wide; left = λ x. same refl }

  -- what is declared in an operand has no use left behind it
  within_end : (b : Bool) (t : Tree) (ts : Forest) (e u : ℕ) → Closed b U (cons t ts) → (x : ℕ) → 0 < decls x t → uses_of x t < U x → u ≤ end_of b e u
  unfolding Closed OwnUses
  within_end true t ts e u k x d h = absurd (omega (arith, k.0 x d))
  within_end false t ts e u k x d h = omega arith

  closed-rest : (b : Bool) (t : Tree) (ts : Forest) → Closed b U (cons t ts) → Closed b U ts
  unfolding Closed OwnUses
  closed-rest true t ts k = k.1
  closed-rest false t ts k = tt

  reach-none : (b : Bool) (p u : ℕ) (m : List ℕ) → length m ≡ 1024 → Reached u (note_all p (steps_all b p u nil) m) m (λ x. 0) (λ x. 0)
  unfolding steps_all note_all
  reach-none b p u m l = record { marks = m; is = refl; wide = l; left = λ x. same refl }

  mutual
    unfolding size size_all decls decls_all uses_of uses_all Apart ApartAll Enclosed EnclosedAll

    reach-tree : (t : Tree) (p u : ℕ) (m : List ℕ) → p + size t ≤ u → u ≤ 65535 → Apart t → Enclosed U t
        → Ready (p + size t) m (λ x. decls x t) (λ x. uses_of x t) → Reached u (note_all p (steps p u t) m) m (λ x. decls x t) (λ x. uses_of x t)
    reach-tree (node c v w ts) p u m h j a e r =
        let d : ℕ → ℕ = λ x. decls_all x ts in
        let n : ℕ → ℕ = λ x. uses_all x ts in
        let d' : ℕ → ℕ = λ x. declared x (role c v w) in
        let n' : ℕ → ℕ = λ x. used x (role c v w) in
        let o : p + size (node c v w ts) ≡ p + size_all ts + 1 = omega arith in
        let k = reach-forest ts (compares c v) p u m (omega arith) j a.0 e.0 e.1 (ready-first (p + size_all ts) (p + size (node c v w ts)) d n d' n' (omega arith) r) in
        let s = ready-rest u (p + size_all ts + 1) d n d' n' (omega arith) j (rw o at r) k (λ x _ _. omega arith) a.1 in
        rw (note-node p u c v w ts m)
        (reached-both (note (p + size_all ts) (role c v w) u) d n d' n' k (reach-note (p + size_all ts) u (role c v w) k.marks s) (λ x _ _. omega arith))

    reach-forest : (ts : Forest) (b : Bool) (p u : ℕ) (m : List ℕ) → p + size_all ts ≤ u → u ≤ 65535 → ApartAll ts → EnclosedAll U ts → Closed b U ts
        → Ready (p + size_all ts) m (λ x. decls_all x ts) (λ x. uses_all x ts) → Reached u (note_all p (steps_all b p u ts) m) m (λ x. decls_all x ts) (λ x. uses_all x ts)
    reach-forest nil b p u m h j a e c r = reach-none b p u m r.wide
    reach-forest (cons t ts) b p u m h j a e c r =
        let d : ℕ → ℕ = λ x. decls x t in
        let n : ℕ → ℕ = λ x. uses_of x t in
        let d' : ℕ → ℕ = λ x. decls_all x ts in
        let n' : ℕ → ℕ = λ x. uses_all x ts in
        let o : p + size_all (cons t ts) ≡ p + size t + size_all ts = omega arith in
        let i = end-within b (p + size t) u (omega arith) in
        let z = within_end b t ts (p + size t) u c in
        let k = reach-tree t p (end_of b (p + size t) u) m i.0 (omega (arith, i.1)) a.0 e.0 (ready-first (p + size t) (p + size_all (cons t ts)) d n d' n' (omega arith) r) in
        let s = ready-rest u (p + size t + size_all ts) d n d' n' (omega arith) j (rw o at r) k z a.2 in
        rw (note-cons b p u t ts m)
        (reached-both (note_all (p + size t) (steps_all b (p + size t) u ts)) d n d' n' k (reach-forest ts b (p + size t) u k.marks (omega arith) j a.1 e.1 (closed-rest b t ts c) s) z)

pub broken-unsound : (t : Tree) (m : List ℕ) → size t < 65535 → length m ≡ 1024 → ((x : ℕ) → get_or m x 0 ≡ 0)
    → note_all 0 (steps 0 (size t) t) m ≡ broken → SoundScopes t → ⊥
broken-unsound t m s l z e h =
    let k = reach-tree (λ x. uses_of x t) t 0 (size t) m (omega arith) (omega arith) (sound-apart t h.ordered h.once) h.enclosed
    (record { wide = l; new = λ x _. z x; ahead = λ x g _. absurd (omega (arith, z x)); low = h.low; all = λ x. omega arith }) in
    let i = k.is in
    let o : ◌≡◌ {A = ℕ} 0 1 = cc in
    omega arith
