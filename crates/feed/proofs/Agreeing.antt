-- Trees that agree feed the same words, whatever relates their locals.
use Rattle.std.proofs.Common.{◌≡◌, ℕ, List, [], ◌∷◌, refl, ap₂}
use native.Mathlib.Nat.{min_comm, max_comm}
use Rattle.rule.specs.Trees.{Tree, Forest}
use Rattle.sameness.specs.Sameness.{bare_v, bare_w, Reverses, eq, lt, le, ne, ge, gt, Reversed, Agree, AgreeAll, direct, reversed, none, more}
use Rattle.feed.specs.Feed.{order, fed_v, joined, turned, hashes, in_order, arranged, feed, feeds}

---- one node

-- a comparison and its reverse, of what the operands feed
arranged-reversed : (f : List ℕ → ℕ) {v v' : ℕ} → Reverses v v' → (w : ℕ) (a b : List ℕ) → arranged f 14 v w (a ∷ (b ∷ [])) ≡ arranged f 14 v' w (b ∷ (a ∷ []))
unfolding arranged order fed_v joined turned hashes in_order
arranged-reversed f eq w a b = ap₂ (λ x y. 14 ∷ (12 ∷ (w ∷ (2 ∷ (x ∷ (y ∷ [])))))) (min_comm _ _) (max_comm _ _)
arranged-reversed f lt w a b = refl
arranged-reversed f le w a b = refl
arranged-reversed f ne w a b = ap₂ (λ x y. 14 ∷ (15 ∷ (w ∷ (2 ∷ (x ∷ (y ∷ [])))))) (min_comm _ _) (max_comm _ _)
arranged-reversed f ge w a b = refl
arranged-reversed f gt w a b = refl

reversed-node : (f : List ℕ → ℕ) {c v w c' v' w' : ℕ} {ls : List (List ℕ)} (a b : List ℕ) → Reversed c v w c' v' w' → ls ≡ b ∷ (a ∷ [])
    → arranged f c (bare_v c v) (bare_w c v w) ls ≡ arranged f c' (bare_v c' v') (bare_w c' v' w') (a ∷ (b ∷ []))
unfolding bare_v bare_w
reversed-node f {c} {v} {w} {c'} {v'} {w'} {ls} a b r e = rw (r.code, r.code', r.same, e) (arranged-reversed f r.reverses w' b a)

arranged-same : (f : List ℕ → ℕ) {c c' v v' w w' : ℕ} {ls ms : List (List ℕ)} → c ≡ c' → v ≡ v' → w ≡ w' → ls ≡ ms → arranged f c v w ls ≡ arranged f c' v' w' ms
arranged-same f p q r e i = arranged f (p i) (q i) (r i) (e i)

---- trees

mutual
  unfolding feed feeds

  pub agree-feed : (f : List ℕ → ℕ) {R : ℕ → ℕ → Type 0} {t u : Tree} → Agree R t u → feed f t ≡ feed f u
  agree-feed f (direct l ks) = arranged-same f l.code l.vs l.ws (agree-feeds f ks)
  agree-feed f (reversed {a = a} {b = b} r ks) = reversed-node f (feed f a) (feed f b) r (agree-feeds f ks)

  pub agree-feeds : (f : List ℕ → ℕ) {R : ℕ → ℕ → Type 0} {ts us : Forest} → AgreeAll R ts us → feeds f ts ≡ feeds f us
  agree-feeds f none = refl
  agree-feeds f (more k ks) = ap₂ ◌∷◌ (agree-feed f k) (agree-feeds f ks)
