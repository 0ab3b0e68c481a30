-- The laws of agreement: it is reflexive, symmetric and transitive, as far as the relation between locals is.
use Rattle.std.proofs.Common.{◌≡◌, ℕ, ◌<◌, ◌≤◌, cond, eqb, ◌⊎◌, sym, refl, ap, ◌∙◌, inl, inr, arith}
use Rattle.std.proofs.lemmas.Bool.{cases_lt}
use Rattle.rule.specs.Trees.{Tree, Forest, node, nil, cons}
use Rattle.rule.specs.Scopes.{Role, declares, uses, plain, role}
use Rattle.sameness.specs.Sameness.{bare_v, bare_w, Reverses, eq, lt, le, ne, ge, gt, Linked, declaring, using', neither, Level, Reversed, pair, Agree, AgreeAll, direct, reversed, none, more, declarations, Partner, renamed, free, Alike}

---- reflexive

linked-refl : {R : ℕ → ℕ → Type 0} → ((x : ℕ) → R x x) → (p : Role) → Linked R p p
linked-refl h (declares x) = declaring (h x)
linked-refl h (uses x) = using' (h x)
linked-refl h plain = neither

level-refl : {R : ℕ → ℕ → Type 0} → ((x : ℕ) → R x x) → (c v w : ℕ) → Level R c v w c v w
level-refl h c v w = record { code = refl; vs = refl; ws = refl; locals = linked-refl h (role c v w) }

mutual
  pub agree_refl : {R : ℕ → ℕ → Type 0} → ((x : ℕ) → R x x) → (t : Tree) → Agree R t t
  agree_refl h (node c v w ts) = direct (level-refl h c v w) (agrees-refl h ts)

  agrees-refl : {R : ℕ → ℕ → Type 0} → ((x : ℕ) → R x x) → (ts : Forest) → AgreeAll R ts ts
  agrees-refl h nil = none
  agrees-refl h (cons t ts) = more (agree_refl h t) (agrees-refl h ts)

---- symmetric

reverses-sym : {v v' : ℕ} → Reverses v v' → Reverses v' v
reverses-sym eq = eq
reverses-sym lt = gt
reverses-sym le = ge
reverses-sym ne = ne
reverses-sym ge = le
reverses-sym gt = lt

linked-sym : {R S : ℕ → ℕ → Type 0} → ((x y : ℕ) → R x y → S y x) → {p q : Role} → Linked R p q → Linked S q p
linked-sym h (declaring {x} {y} r) = declaring (h x y r)
linked-sym h (using' {x} {y} r) = using' (h x y r)
linked-sym h neither = neither

level-sym : {R S : ℕ → ℕ → Type 0} → ((x y : ℕ) → R x y → S y x) → {c v w c' v' w' : ℕ} → Level R c v w c' v' w' → Level S c' v' w' c v w
level-sym h l = record { code = sym l.code; vs = sym l.vs; ws = sym l.ws; locals = linked-sym h l.locals }

reversed-sym : {c v w c' v' w' : ℕ} → Reversed c v w c' v' w' → Reversed c' v' w' c v w
reversed-sym r = record { code = r.code'; code' = r.code; reverses = reverses-sym r.reverses; same = sym r.same }

-- the operands exchanged on the other side
exchange : {R : ℕ → ℕ → Type 0} {c v w c' v' w' : ℕ} {a b : Tree} {ts : Forest} → Reversed c' v' w' c v w → AgreeAll R (pair b a) ts → Agree R (node c' v' w' (pair a b)) (node c v w ts)
exchange r (more k₁ (more k₂ none)) = reversed r (more k₂ (more k₁ none))

mutual
  pub agree-sym : {R S : ℕ → ℕ → Type 0} → ((x y : ℕ) → R x y → S y x) → {t u : Tree} → Agree R t u → Agree S u t
  agree-sym h (direct l ks) = direct (level-sym h l) (agrees-sym h ks)
  agree-sym h (reversed r ks) = exchange (reversed-sym r) (agrees-sym h ks)

  agrees-sym : {R S : ℕ → ℕ → Type 0} → ((x y : ℕ) → R x y → S y x) → {ts us : Forest} → AgreeAll R ts us → AgreeAll S us ts
  agrees-sym h none = none
  agrees-sym h (more a ks) = more (agree-sym h a) (agrees-sym h ks)

---- transitive

linked-trans : {R S Q : ℕ → ℕ → Type 0} → ((x y z : ℕ) → R x y → S y z → Q x z) → {o p q : Role} → Linked R o p → Linked S p q → Linked Q o q
linked-trans h (declaring {x} {y} r) (declaring {y = z} s) = declaring (h x y z r s)
linked-trans h (using' {x} {y} r) (using' {y = z} s) = using' (h x y z r s)
linked-trans h neither neither = neither

level-trans : {R S Q : ℕ → ℕ → Type 0} → ((x y z : ℕ) → R x y → S y z → Q x z) → {c v w c' v' w' c'' v'' w'' : ℕ}
    → Level R c v w c' v' w' → Level S c' v' w' c'' v'' w'' → Level Q c v w c'' v'' w''
level-trans h l m = record { code = l.code ∙ m.code; vs = l.vs ∙ m.vs; ws = l.ws ∙ m.ws; locals = linked-trans h l.locals m.locals }

-- what a comparison reverses to is one comparison only
reverse : ℕ → ℕ
reverse v = cond (eqb v 13) 17 (cond (eqb v 14) 16 (cond (eqb v 16) 14 (cond (eqb v 17) 13 v)))

reverses-to : {v v' : ℕ} → Reverses v v' → v' ≡ reverse v
unfolding reverse
reverses-to eq = refl
reverses-to lt = refl
reverses-to le = refl
reverses-to ne = refl
reverses-to ge = refl
reverses-to gt = refl

reverses-from : {v v' : ℕ} → Reverses v v' → v ≡ reverse v'
reverses-from r = reverses-to (reverses-sym r)

-- comparisons that agree as they stand have the same words
pub level-binary : {R : ℕ → ℕ → Type 0} {c v w c' v' w' : ℕ} → Level R c v w c' v' w' → c ≡ 14 → (v ≡ v') × (w ≡ w')
unfolding bare_v bare_w
level-binary {R} {c} {v} {w} {c'} {v'} {w'} l e = (
  sym (ap (λ k. bare_v k v) e) ∙ (l.vs ∙ ap (λ k. bare_v k v') e'),
  sym (ap (λ k. bare_w k v w) e) ∙ (l.ws ∙ ap (λ k. bare_w k v' w') e'),
)
  where
    e' : c' ≡ 14
    e' = sym l.code ∙ e

binary-level : {Q : ℕ → ℕ → Type 0} {c v w c'' v'' w'' : ℕ} → c ≡ 14 → c'' ≡ 14 → v ≡ v'' → w ≡ w'' → Level Q c v w c'' v'' w''
unfolding role
binary-level p q r s = rw (p, q, r, s) (record { code = refl; vs = refl; ws = refl; locals = neither })

reversed-twice : {Q : ℕ → ℕ → Type 0} {c v w c' v' w' c'' v'' w'' : ℕ} → Reversed c v w c' v' w' → Reversed c' v' w' c'' v'' w'' → Level Q c v w c'' v'' w''
reversed-twice r s = binary-level r.code s.code' (reverses-from r.reverses ∙ sym (reverses-to s.reverses)) (r.same ∙ s.same)

level-reversed : {R : ℕ → ℕ → Type 0} {c v w c' v' w' c'' v'' w'' : ℕ} → Level R c v w c' v' w' → Reversed c' v' w' c'' v'' w'' → Reversed c v w c'' v'' w''
level-reversed {c = c} l s =
    let e : c ≡ 14 = l.code ∙ s.code in
    let k = level-binary l e in
    record { code = e; code' = s.code'; reverses = rw k.0 s.reverses; same = k.1 ∙ s.same }

reversed-level : {R : ℕ → ℕ → Type 0} {c v w c' v' w' c'' v'' w'' : ℕ} → Reversed c v w c' v' w' → Level R c' v' w' c'' v'' w'' → Reversed c v w c'' v'' w''
reversed-level s l =
    let k = level-binary l s.code' in
    record { code = s.code; code' = sym l.code ∙ s.code'; reverses = rw (← k.0) s.reverses; same = s.same ∙ k.1 }

mutual
  pub agree_trans : {R S Q : ℕ → ℕ → Type 0} → ((x y z : ℕ) → R x y → S y z → Q x z) → {t u o : Tree} → Agree R t u → Agree S u o → Agree Q t o
  agree_trans h (direct l ks) (direct m ls) = direct (level-trans h l m) (agrees-trans h ks ls)
  agree_trans h (direct l ks) (reversed s ls) = reversed (level-reversed l s) (agrees-trans h ks ls)
  agree_trans h (reversed r ks) (direct m (more k₁ (more k₂ none))) = reversed (reversed-level r m) (agrees-trans h ks (more k₂ (more k₁ none)))
  agree_trans h (reversed r ks) (reversed s (more k₁ (more k₂ none))) = direct (reversed-twice r s) (agrees-trans h ks (more k₂ (more k₁ none)))

  agrees-trans : {R S Q : ℕ → ℕ → Type 0} → ((x y z : ℕ) → R x y → S y z → Q x z) → {ts us os : Forest} → AgreeAll R ts us → AgreeAll S us os → AgreeAll Q ts os
  agrees-trans h none none = none
  agrees-trans h (more a ks) (more b ls) = more (agree_trans h a b) (agrees-trans h ks ls)

---- partners

partner-refl : (D : ℕ → ℕ) (x : ℕ) → Partner (λ n. n) (λ n. n) D D x x
partner-refl D x = go (cases_lt 0 (D x))
  where
    go : (0 < D x) ⊎ (D x ≤ 0) → Partner (λ n. n) (λ n. n) D D x x
    go (inl m) = renamed m m refl refl
    go (inr k) = free (omega arith) (omega arith) refl

partner-sym : {f g D E : ℕ → ℕ} (x y : ℕ) → Partner f g D E x y → Partner g f E D y x
partner-sym x y (renamed m n p q) = renamed n m q p
partner-sym x y (free m n p) = free n m (sym p)

partner-trans : {f g f' g' D E F : ℕ → ℕ} (x y z : ℕ) → Partner f g D E x y → Partner f' g' E F y z → Partner (λ n. f' (f n)) (λ n. g (g' n)) D F x z
partner-trans {f} {g} {f'} {g'} x y z (renamed m n p q) (renamed m' n' p' q') = renamed m n' (ap f' p ∙ p') (ap g q' ∙ q)
partner-trans x y z (renamed m n p q) (free m' n' p') = absurd (omega arith)
partner-trans x y z (free m n p) (renamed m' n' p' q') = absurd (omega arith)
partner-trans x y z (free m n p) (free m' n' p') = free m n' (p ∙ p')

---- trees that agree by some renaming

pub alike_refl : (t : Tree) → Alike t t
alike_refl t = record { to = λ n. n; from = λ n. n; agree = agree_refl (partner-refl (declarations t)) t }

pub alike-sym : {t u : Tree} → Alike t u → Alike u t
alike-sym a = record { to = a.from; from = a.to; agree = agree-sym partner-sym a.agree }

pub alike-trans : {t u o : Tree} → Alike t u → Alike u o → Alike t o
alike-trans a b = record { to = λ n. b.to (a.to n); from = λ n. a.from (b.from n); agree = agree_trans partner-trans a.agree b.agree }
