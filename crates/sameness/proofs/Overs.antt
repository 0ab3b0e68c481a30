-- The children of two nodes one by one, and the two readings of a binary expression.
use Rattle.std.proofs.Common.{◌≡◌, ℕ, suc, ◌+◌, ◌<◌, ◌≤◌, Bool, true, false, ◌⊎◌, List, [], ◌∷◌, length, drop, get_or, sym, refl, ap, ◌∙◌, subst, inl, inr}
use Rattle.std.proofs.lemmas.List.{drop_more, drop_all}
use Rattle.trial.specs.Trials.{Extends}
use Rattle.trial.proofs.Extending.{extends-refl, extends-trans}
use Rattle.rule.specs.declared.nodes.Node.{Node}
use Rattle.rule.specs.Trees.{Tree, Forest, nil, cons, tree_at}
use Rattle.sameness.specs.Reduction.{reduce, reduce_all}
use Rattle.sameness.specs.Sameness.{pair}
use Rattle.sameness.specs.Deciding.{Table, Outcome, fails, holds, and_then, or_else, given, direct_test, reversed_test, exchanging, decide, decide_all}
use Rattle.sameness.specs.Walking.{trees_at, kids_in, tree_in, Pictured, Answers, KindsWalked, KidsWalked, NodesWalked, BothWalked, FirstFails}
use Rattle.sameness.proofs.KindTrees.{kids-two}
use Rattle.sameness.proofs.Outcomes.{two-readings}
use Rattle.sameness.proofs.Steps.{decide_all-nil, decide_all-cons, decide_all-pair, exchanging-pair, reduce_all-nil, reduce_all-cons}

---- as many children

kid_count : Forest → ℕ
kid_count nil = 0
kid_count (cons t ts) = suc (kid_count ts)

-- the children that are left, where q are done, reduced
abbrev rest : List ℕ → List ℕ → ℕ → Forest
rest ws ks q = reduce_all (trees_at ws (drop q ks))

rest_more : (ws ks : List ℕ) (q : ℕ) → q < length ks → rest ws ks q ≡ cons (reduce (tree_at ws (get_or ks q 0))) (rest ws ks (q + 1))
unfolding trees_at
rest_more ws ks q h = ap (λ z. reduce_all (trees_at ws z)) (drop_more ks q 0 h) ∙ reduce_all-cons _ _

rest_end : (ws ks : List ℕ) (q : ℕ) → length ks ≤ q → rest ws ks q ≡ nil
unfolding trees_at
rest_end ws ks q h = ap (λ z. reduce_all (trees_at ws z)) (drop_all q ks h) ∙ reduce_all-nil

rest-count : (ws ks : List ℕ) → kid_count (reduce_all (trees_at ws ks)) ≡ length ks
unfolding kid_count trees_at reduce_all
rest-count ws [] = refl
rest-count ws (x ∷ ks) = ap suc (rest-count ws ks)

then-fails : (o : Outcome) (k : Table → Outcome) → ((Q : Table) → k Q ≡ fails) → and_then o k ≡ fails
then-fails fails k h = refl
then-fails (holds Q) k h = h Q

other-count : (xs ys : Forest) (P : Table) → (kid_count xs ≡ kid_count ys → ⊥) → decide_all xs ys P ≡ fails
unfolding kid_count decide_all
other-count nil nil P n = absurd (n refl)
other-count nil (cons y ys) P n = refl
other-count (cons x xs) nil P n = refl
other-count (cons x xs) (cons y ys) P n = then-fails (decide x y P) (decide_all xs ys) (λ Q. other-count xs ys Q (λ e. n (ap suc e)))

---- the loop

-- after q children, with the table t, where it was t₀ before them
pub record Going (wa : List ℕ) (l : Node) (wb : List ℕ) (r : Node) (t₀ t : List ℕ) (q : ℕ) : Type 0 where
  pub grows : Extends t₀ t
  pub answers : (P : Table) → Pictured P t₀
      → (Q : Table) × Pictured Q t × (decide_all (kids_in wa l) (kids_in wb r) P ≡ decide_all (rest wa l.kids.now q) (rest wb r.kids.now q) Q)

module _ (wa : List ℕ) (l : Node) (wb : List ℕ) (r : Node) (t₀ : List ℕ) where
  step : (t : List ℕ) (q : ℕ) (Q : Table) → q < length l.kids.now → q < length r.kids.now
      → decide_all (rest wa l.kids.now q) (rest wb r.kids.now q) Q
      ≡ and_then (decide (reduce (tree_at wa (get_or l.kids.now q 0))) (reduce (tree_at wb (get_or r.kids.now q 0))) Q)
      (decide_all (rest wa l.kids.now (q + 1)) (rest wb r.kids.now (q + 1)))
  step t q Q h k =
      ap (λ z. decide_all z (rest wb r.kids.now q) Q) (rest_more wa l.kids.now q h)
      ∙ ap (λ z. decide_all (cons (reduce (tree_at wa (get_or l.kids.now q 0))) (rest wa l.kids.now (q + 1))) z Q) (rest_more wb r.kids.now q k)
      ∙ decide_all-cons _ _ _ _ Q

  pub going_more : (t t' : List ℕ) (q : ℕ) → q < length l.kids.now → q < length r.kids.now → NodesWalked wa (get_or l.kids.now q 0) wb (get_or r.kids.now q 0) t t' true
      → Going wa l wb r t₀ t q → Going wa l wb r t₀ t' (q + 1)
  going_more t t' q h k w g =
      record {
        grows = extends-trans t₀ t t' g.grows w.grows;
        answers = λ P p.
            let a = g.answers P p in
            let b = w.answers a.0 a.1 in
            (b.0, b.2, a.2 ∙ step t q a.0 h k ∙ ap (λ o. and_then o (decide_all (rest wa l.kids.now (q + 1)) (rest wb r.kids.now (q + 1)))) b.1);
      }

  pub going-fails : (t t' : List ℕ) (q : ℕ) → q < length l.kids.now → q < length r.kids.now → NodesWalked wa (get_or l.kids.now q 0) wb (get_or r.kids.now q 0) t t' false
      → Going wa l wb r t₀ t q → KidsWalked wa l wb r t₀ t' false
  going-fails t t' q h k w g =
      record {
        grows = extends-trans t₀ t t' g.grows w.grows;
        answers = λ P p.
            let a = g.answers P p in
            a.2 ∙ step t q a.0 h k ∙ ap (λ o. and_then o (decide_all (rest wa l.kids.now (q + 1)) (rest wb r.kids.now (q + 1)))) (w.answers a.0 a.1);
      }

  pub going-all : (t : List ℕ) (q : ℕ) → length l.kids.now ≤ q → length r.kids.now ≤ q → Going wa l wb r t₀ t q → KidsWalked wa l wb r t₀ t true
  going-all t q m n g =
      record {
        grows = g.grows;
        answers = λ P p.
            let a = g.answers P p in
            (a.0, a.2 ∙ ap (λ z. decide_all z (rest wb r.kids.now q) a.0) (rest_end wa l.kids.now q m) ∙ ap (λ z. decide_all nil z a.0) (rest_end wb r.kids.now q n) ∙ decide_all-nil a.0, a.1);
      }

  pub over-unequal : (length l.kids.now ≡ length r.kids.now → ⊥) → KidsWalked wa l wb r t₀ t₀ false
  over-unequal n =
      record { grows = extends-refl t₀; answers = λ P p. other-count (kids_in wa l) (kids_in wb r) P (λ e. n (sym (rest-count wa l.kids.now) ∙ e ∙ rest-count wb r.kids.now)) }

---- two nodes and then two more

module _ (a b u v : Tree) where
  -- the same trees by other names
  pub both-same : (a' b' u' v' : Tree) (t t' : List ℕ) (res : Bool) → a ≡ a' → b ≡ b' → u ≡ u' → v ≡ v' → BothWalked a b u v t t' res → BothWalked a' b' u' v' t t' res
  both-same a' b' u' v' t t' res e f g h w =
      subst (λ z. BothWalked z b' u' v' t t' res) e
      (subst (λ z. BothWalked a z u' v' t t' res) f (subst (λ z. BothWalked a b z v' t t' res) g (subst (λ z. BothWalked a b u z t t' res) h w)))

---- the two readings of a binary expression

module _ (wa : List ℕ) (l : Node) (wb : List ℕ) (r : Node) where
  abbrev Direct : Bool
  Direct = direct_test l.code l.v l.w r.code r.v r.w

  abbrev Reverse : Bool
  Reverse = reversed_test l.code l.v l.w r.code r.v r.w

  pub first_holds : (t t' : List ℕ) → l.code ≡ 14 → Direct ≡ true → KidsWalked wa l wb r t t' true → KindsWalked wa l wb r t t' true
  first_holds t t' e d w =
      record {
        grows = w.grows;
        answers = λ P p.
            let a = w.answers P p in (
              a.0,
              two-readings _ _ _ _ _ _ _ _ P e ∙ ap (λ b. or_else (given b (decide_all (kids_in wa l) (kids_in wb r) P)) (given Reverse (exchanging (decide_all (kids_in wa l)) (kids_in wb r) P))) d
                  ∙ ap (λ o. or_else o (given Reverse (exchanging (decide_all (kids_in wa l)) (kids_in wb r) P))) a.1,
              a.2,
            );
      }

  second : (t : List ℕ) (P : Table) → l.code ≡ 14 → Pictured P t → FirstFails wa l wb r t → decide (tree_in wa l) (tree_in wb r) P ≡ given Reverse (exchanging (decide_all (kids_in wa l)) (kids_in wb r) P)
  second t P e p f = two-readings _ _ _ _ _ _ _ _ P e ∙ ap (λ o. or_else o (given Reverse (exchanging (decide_all (kids_in wa l)) (kids_in wb r) P))) (f P p)

  pub not-exchanged : (t : List ℕ) → l.code ≡ 14 → Reverse ≡ false → FirstFails wa l wb r t → KindsWalked wa l wb r t t false
  not-exchanged t e d f =
      record { grows = extends-refl t; answers = λ P p. second t P e p f ∙ ap (λ b. given b (exchanging (decide_all (kids_in wa l)) (kids_in wb r) P)) d }

  given-fails : (b : Bool) (o : Outcome) → o ≡ fails → given b o ≡ fails
  given-fails true o e = e
  given-fails false o e = refl

  few-left : (xs us : Forest) (P : Table) → (kid_count xs ≡ 2 → ⊥) → exchanging (decide_all xs) us P ≡ fails
  unfolding exchanging kid_count
  few-left xs nil P n = refl
  few-left xs (cons a nil) P n = refl
  few-left xs (cons a (cons b nil)) P n = other-count xs (pair b a) P n
  few-left xs (cons a (cons b (cons d ds))) P n = refl

  few-right : (xs us : Forest) (P : Table) → (kid_count us ≡ 2 → ⊥) → exchanging (decide_all xs) us P ≡ fails
  unfolding exchanging kid_count
  few-right xs nil P n = refl
  few-right xs (cons a nil) P n = refl
  few-right xs (cons a (cons b nil)) P n = absurd (n refl)
  few-right xs (cons a (cons b (cons d ds))) P n = refl

  pub few-operands : (t : List ℕ) → l.code ≡ 14 → (length l.kids.now ≡ 2 → ⊥) ⊎ (length r.kids.now ≡ 2 → ⊥) → FirstFails wa l wb r t → KindsWalked wa l wb r t t false
  few-operands t e (inl n) f =
      record { grows = extends-refl t; answers = λ P p. second t P e p f ∙ given-fails Reverse _ (few-left (kids_in wa l) (kids_in wb r) P (λ k. n (sym (rest-count wa l.kids.now) ∙ k))) }
  few-operands t e (inr n) f =
      record { grows = extends-refl t; answers = λ P p. second t P e p f ∙ given-fails Reverse _ (few-right (kids_in wa l) (kids_in wb r) P (λ k. n (sym (rest-count wb r.kids.now) ∙ k))) }

  two : (ws ks : List ℕ) → length ks ≡ 2 → reduce_all (trees_at ws ks) ≡ pair (reduce (tree_at ws (get_or ks 0 0))) (reduce (tree_at ws (get_or ks 1 0)))
  unfolding reduce_all
  two ws ks e = ap reduce_all (kids-two ws ks e)

  pub exchanged : (t t' : List ℕ) (res : Bool) → l.code ≡ 14 → Reverse ≡ true → length l.kids.now ≡ 2 → length r.kids.now ≡ 2 → FirstFails wa l wb r t
      → BothWalked (tree_at wa (get_or l.kids.now 0 0)) (tree_at wa (get_or l.kids.now 1 0)) (tree_at wb (get_or r.kids.now 1 0)) (tree_at wb (get_or r.kids.now 0 0)) t t' res → KindsWalked wa l wb r t t' res
  exchanged t t' res e d m n f w =
      record {
        grows = w.grows;
        answers = λ P p.
            subst (λ o. Answers res t' o)
            (sym (second t P e p f ∙ ap (λ b. given b (exchanging (decide_all (kids_in wa l)) (kids_in wb r) P)) d
            ∙ ap (λ z. exchanging (decide_all z) (kids_in wb r) P) (two wa l.kids.now m)
            ∙ ap (λ z. exchanging (decide_all (pair (reduce (tree_at wa (get_or l.kids.now 0 0))) (reduce (tree_at wa (get_or l.kids.now 1 0))))) z P) (two wb r.kids.now n)
            ∙ exchanging-pair _ _ _ P ∙ decide_all-pair _ _ _ _ P))
            (w.answers P p);
      }
