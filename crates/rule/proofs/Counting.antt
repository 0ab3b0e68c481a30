-- Counting children and adding up sizes, one child after the other.
use Rattle.std.proofs.Common.{◌≡◌, ℕ, zero, suc, ◌+◌, ◌<◌, ◌≤◌, cond, eqb, List, [], ◌∷◌, ◌++◌, length, get_or, drop, set, replicate, sum_by, count_by, sym, refl, ap, ◌∙◌, subst, ⊎_elim, arith}
use Rattle.std.proofs.lemmas.Bool.{cases_lt, eq-eqb, ne_eqb, cond-true, cond-false}
use Rattle.std.proofs.lemmas.List.Sums.{sum_by-cons}
use Rattle.std.proofs.lemmas.List.{drop_more, drop_all, get_or-replicate, get_or_past, length-replicate}
use Rattle.rule.specs.Run.{standing, child_of, kids_at}
use Rattle.rule.specs.Tally.{loose}
use Rattle.rule.specs.declared.nodes.Node.{Node}
use Rattle.rule.specs.Nodes.{Spelt}

-- the sizes of the n nodes whose numbers stand at p and behind it, added up
unfoldable pub sizes_of : List ℕ → ℕ → ℕ → List ℕ → ℕ
sizes_of ws p zero sizes = 0
sizes_of ws p (suc n) sizes = get_or sizes (get_or ws p 0) 0 + sizes_of ws (p + 1) n sizes

-- how often x stands at one place
abbrev pub hit : ℕ → List ℕ → ℕ → ℕ
hit x ws p = cond (eqb (get_or ws p 0) x) 1 0

pub hit_other : (x : ℕ) (ws : List ℕ) (p : ℕ) → (get_or ws p 0 ≡ x → ⊥) → hit x ws p ≡ 0
hit_other x ws p n = cond-false (eqb (get_or ws p 0) x) 1 0 (ne_eqb _ _ n)

-- the numbers of a list that the run has from p on, counted and added up
module _ (ws : List ℕ) where
  Listed : ℕ → List ℕ → Type 0
  Listed p ks = (q : ℕ) → q < length ks → get_or ks q 0 ≡ get_or ws (p + q) 0

  first : (p k : ℕ) (ks : List ℕ) → Listed p (k ∷ ks) → k ≡ get_or ws p 0
  unfolding Listed
  first p k ks h =
      let e : p + 0 ≡ p = omega arith in
      h 0 (omega arith) ∙ ap (λ a. get_or ws a 0) e

  others : (p k : ℕ) (ks : List ℕ) → Listed p (k ∷ ks) → Listed (p + 1) ks
  unfolding Listed
  others p k ks h q l =
      let e : p + suc q ≡ p + 1 + q = omega arith in
      h (suc q) (omega arith) ∙ ap (λ a. get_or ws a 0) e

  standing-list : (x p : ℕ) (ks : List ℕ) → Listed p ks → standing x ws p (length ks) ≡ count_by (λ k. eqb k x) ks
  unfolding standing
  standing-list x p [] h = refl
  standing-list x p (k ∷ ks) h =
      let e : hit x ws p ≡ cond (eqb k x) 1 0 = ap (λ a. cond (eqb a x) 1 0) (sym (first p k ks h)) in
      omega (arith, e, standing-list x (p + 1) ks (others p k ks h), sum_by-cons (λ a. cond (eqb a x) 1 0) k ks)

  sizes-list : (sizes : List ℕ) (p : ℕ) (ks : List ℕ) → Listed p ks → sizes_of ws p (length ks) sizes ≡ sum_by (λ k. get_or sizes k 0) ks
  unfolding sizes_of
  sizes-list sizes p [] h = refl
  sizes-list sizes p (k ∷ ks) h =
      let e : get_or sizes (get_or ws p 0) 0 ≡ get_or sizes k 0 = ap (λ a. get_or sizes a 0) (sym (first p k ks h)) in
      omega (arith, e, sizes-list sizes (p + 1) ks (others p k ks h), sum_by-cons (λ a. get_or sizes a 0) k ks)

  -- the children of the node n
  module _ (o : ℕ) (n : Node) (s : Spelt ws o n) where
    kids-listed : Listed (o + 4) n.kids.now
    unfolding Listed
    kids-listed q l = s.each q (omega (arith, s.count))

    pub kids-standing : (x : ℕ) → standing x ws (o + 4) (kids_at ws o) ≡ count_by (λ k. eqb k x) n.kids.now
    kids-standing x = ap (standing x ws (o + 4)) (sym s.count) ∙ standing-list x (o + 4) n.kids.now kids-listed

    pub kids-sizes : (sizes : List ℕ) → sizes_of ws (o + 4) (kids_at ws o) sizes ≡ sum_by (λ k. get_or sizes k 0) n.kids.now
    kids-sizes sizes = ap (λ m. sizes_of ws (o + 4) m sizes) (sym s.count) ∙ sizes-list sizes (o + 4) n.kids.now kids-listed

-- what is not below the node is none of its children
pub standing-none : (x : ℕ) (ws : List ℕ) (p n m : ℕ) → m ≤ x → ((q : ℕ) → q < n → get_or ws (p + q) 0 < m) → standing x ws p n ≡ 0
unfolding standing
standing-none x ws p zero m h low = refl
standing-none x ws p (suc n) m h low =
    let z : get_or ws (p + 0) 0 < m = low 0 (omega arith) in
    let e : p + 0 ≡ p = omega arith in
    let z' : get_or ws p 0 < m = subst (λ a. get_or ws a 0 < m) e z in
    let a : hit x ws p ≡ 0 = hit_other x ws p (λ k. omega arith) in
    let b : standing x ws (p + 1) n ≡ 0 = standing-none x ws (p + 1) n m h (λ q l.
    let k : get_or ws (p + suc q) 0 < m = low (suc q) (omega arith) in
    let f : p + suc q ≡ p + 1 + q = omega arith in
    subst (λ a. get_or ws a 0 < m) f k) in
    omega arith

-- a node that was no child becomes one
pub loose-taken : (seen sizes : List ℕ) (x : ℕ) → x < length seen → x < length sizes → get_or seen x 0 ≡ 0 → loose (set seen x 1) sizes + get_or sizes x 0 ≡ loose seen sizes
unfolding loose
loose-taken [] sizes x h l e = absurd (omega arith)
loose-taken (a ∷ seen) [] x h l e = absurd (omega arith)
loose-taken (a ∷ seen) (b ∷ sizes) zero h l e =
    let k : cond (eqb a 0) b 0 ≡ b = cond-true (eqb a 0) b 0 (eq-eqb a 0 e) in
    omega arith
loose-taken (a ∷ seen) (b ∷ sizes) (suc x) h l e = omega (arith, loose-taken seen sizes x (omega arith) (omega arith) e)

pub loose-none : (seen : List ℕ) → loose seen [] ≡ 0
unfolding loose
loose-none [] = refl
loose-none (a ∷ seen) = refl

-- a node that is no child gets its size
pub loose-pushed : (seen sizes : List ℕ) (n : ℕ) → length sizes < length seen → get_or seen (length sizes) 0 ≡ 0 → loose seen (sizes ++ (n ∷ [])) ≡ loose seen sizes + n
unfolding loose
loose-pushed [] sizes n h e = absurd (omega arith)
loose-pushed (a ∷ seen) [] n h e =
    let k : cond (eqb a 0) n 0 ≡ n = cond-true (eqb a 0) n 0 (eq-eqb a 0 e) in
    omega (arith, k, loose-none seen)
loose-pushed (a ∷ seen) (b ∷ sizes) n h e = omega (arith, loose-pushed seen sizes n (omega arith) e)

-- the places of the nodes from i on
pub child-more : (x : ℕ) (ws os : List ℕ) (i : ℕ) → i < length os → child_of x ws (drop i os) ≡ standing x ws (get_or os i 0 + 4) (kids_at ws (get_or os i 0)) + child_of x ws (drop (i + 1) os)
unfolding child_of
child-more x ws os i h = ap (child_of x ws) (drop_more os i 0 h)

pub child-end : (x : ℕ) (ws os : List ℕ) (i : ℕ) → length os ≤ i → child_of x ws (drop i os) ≡ 0
unfolding child_of
child-end x ws os i h = ap (child_of x ws) (drop_all i os h)

-- all zeros
pub zeros : (n x : ℕ) → ◌≡◌ {A = ℕ} (get_or (replicate n 0) x 0) 0
zeros n x = ⊎_elim (λ (h : x < n). get_or-replicate n x 0 0 h) (λ (h : n ≤ x). get_or_past (replicate n 0) x 0 (simp length-replicate (omega arith))) (cases_lt x n)
