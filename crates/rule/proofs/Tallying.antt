-- The nodes of a run found to be a tree, one after the other.
use Rattle.std.proofs.Common.{◌≡◌, ℕ, zero, suc, ◌+◌, ◌-◌, ◌<◌, ◌≤◌, ◌≢◌, Bool, true, false, ◌||◌, List, [], ◌∷◌, length, get_or, take, drop, replicate, ◌++◌, sym, refl, ap, ◌∙◌, subst, ⊎_elim, arith, length-append, below_none, below_more}
use Rattle.std.proofs.lemmas.Bool.{cases_lt, false≢true}
use Rattle.std.specs.List.{list_any}
use Rattle.std.proofs.lemmas.List.{get_or_append_left, get_or_push, get_or-replicate, get_or_past, length-replicate}
use Rattle.rule.proofs.Adding.{flag-at}
use Rattle.rule.specs.Run.{child_of, kids_at, kid_at, offsets}
use Rattle.rule.specs.Trees.{tree_at}
use Rattle.rule.specs.Marks.{size}
use Rattle.rule.specs.declared.nodes.Node.{Node}
use Rattle.rule.specs.Nodes.{Spelt}
use Rattle.rule.specs.Intake.{Read, Treelike, nodes, offset}
use Rattle.rule.specs.Tally.{flag, flags, loose, AtMostOnce, Added, Clash, high, twice, Sized}
use Rattle.rule.proofs.Counting.{sizes_of, kids-standing, kids-sizes, child-more, child-end, standing-none, loose-pushed, loose-none}
use Rattle.rule.proofs.Grown.{size-at}
use Rattle.rule.proofs.Laid.{read-nodes, read-offset}

---- what was no child

rest-false : (b y : Bool) → (b || y) ≡ false → y ≡ false
rest-false true y t = absurd (false≢true (sym t))
rest-false false y t = t

pub some-unseen : (p : Bool → Bool) (n : ℕ) (seen : List Bool) → p true ≡ false → list_any p (take n seen) ≡ true → (x : ℕ) × (x < n) × (get_or (flags seen) x 0 ≡ 0)
some-unseen p zero seen f t = absurd (false≢true t)
some-unseen p (suc n) [] f t = absurd (false≢true t)
some-unseen p (suc n) (false ∷ seen) f t = (0, omega arith, refl)
some-unseen p (suc n) (true ∷ seen) f t =
    let r = some-unseen p n seen f (ap (λ b. b || list_any p (take n seen)) (sym f) ∙ t) in
    (suc r.0, omega (arith, r.1), r.2)

pub none-unseen : (p : Bool → Bool) (n : ℕ) (seen : List Bool) → p false ≡ true → n ≤ length seen → list_any p (take n seen) ≡ false → (x : ℕ) → x < n → get_or (flags seen) x 0 ≢ 0
none-unseen p zero seen f l t x h = absurd (omega arith)
none-unseen p (suc n) [] f l t x h = absurd (omega arith)
none-unseen p (suc n) (false ∷ seen) f l t x h = absurd (false≢true (sym t ∙ ap (λ b. b || list_any p (take n seen)) f))
none-unseen p (suc n) (true ∷ seen) f l t zero h = λ e. omega arith
none-unseen p (suc n) (true ∷ seen) f l t (suc x) h = none-unseen p n seen f (omega arith) (rest-false (p true) _ t) x (omega arith)

pub unseen : (n x : ℕ) → ◌≡◌ {A = ℕ} (get_or (flags (replicate n false)) x 0) 0
unseen n x = flag-at (replicate n false) x ∙ ap flag (⊎_elim (λ (h : x < n). get_or-replicate n x false false h) (λ (h : n ≤ x). get_or_past (replicate n false) x false (simp length-replicate (omega arith))) (cases_lt x n))

-- after i nodes
pub record Tallied (ws os seen sizes : List ℕ) (i : ℕ) : Type 0 where
  pub below : (j : ℕ) → j < i → (q : ℕ) → q < kids_at ws (get_or os j 0) → kid_at ws (get_or os j 0) q < j
  pub counts : (x : ℕ) → get_or seen x 0 + child_of x ws (drop i os) ≡ child_of x ws os
  pub flags : AtMostOnce seen
  pub sized : (j : ℕ) → j < i → get_or sizes j 0 ≡ size (tree_at ws j)
  pub small : (j : ℕ) → j < i → get_or sizes j 0 ≤ 2048
  pub unseen : (j : ℕ) → i ≤ j → get_or seen j 0 ≡ 0
  pub total : loose seen sizes ≡ i
  pub count : length sizes ≡ i
  pub within : i ≤ length os

pub tallied-none : (ws os seen : List ℕ) → ((x : ℕ) → get_or seen x 0 ≡ 0) → Tallied ws os seen [] 0
tallied-none ws os seen z =
    record {
      below = below_none _;
      counts = λ x. omega (arith, z x);
      flags = λ x. omega (arith, z x);
      sized = below_none _;
      small = below_none _;
      unseen = λ j h. z j;
      total = loose-none seen;
      count = refl;
      within = omega arith;
    }

module _ (ws os : List ℕ) (r : Read ws os) where
  pub tallied-more : (seen seen' sizes : List ℕ) (i total : ℕ) → i < length os → Tallied ws os seen sizes i → (n : Node) → Spelt ws (get_or os i 0) n → Added n.kids.now (length sizes) seen seen' sizes total
      → length seen' ≡ 2048 → Tallied ws os seen' (sizes ++ (total ∷ [])) (i + 1)
  tallied-more seen seen' sizes i total h t n p k l =
      let a : Added n.kids.now i seen seen' sizes total = subst (λ z. Added n.kids.now z seen seen' sizes total) t.count k in
      let few = r.few in
      let o = get_or os i 0 in
      let m : i < nodes ws = omega (arith, read-nodes ws os r) in
      let low : (q : ℕ) → q < kids_at ws o → kid_at ws o q < i = λ q k. subst (λ z. z < i) (p.each q k) (a.below q (omega (arith, p.count))) in
      let e : o ≡ offset ws i = read-offset ws os r i in
      let none : (x : ℕ) → i ≤ x → get_or seen' x 0 ≡ 0 = λ x k. omega (arith, a.counts x, t.unseen x k, kids-standing ws o n p x, standing-none x ws (o + 4) (kids_at ws o) i k low) in
      let s : total ≡ size (tree_at ws i) =
      a.sum ∙ ap (λ m. 1 + m) (sym (kids-sizes ws o n p sizes)) ∙ ap (λ z. 1 + sizes_of ws (z + 4) (kids_at ws z) sizes) e ∙ size-at ws sizes i m (subst (λ z. (q : ℕ) → q < kids_at ws z → kid_at ws z q < i) e low) t.sized in
      let old : (j : ℕ) → j < i → get_or (sizes ++ (total ∷ [])) j 0 ≡ get_or sizes j 0 = λ j k. get_or_append_left sizes (total ∷ []) 0 j (omega (arith, t.count)) in
      let new : get_or (sizes ++ (total ∷ [])) i 0 ≡ total = get_or_push sizes total 0 i t.count in
      record {
        below = below_more _ _ t.below low;
        counts = λ x. omega (arith, t.counts x, a.counts x, kids-standing ws o n p x, child-more x ws os i h);
        flags = a.flags;
        sized = below_more _ _ (λ j k. old j k ∙ t.sized j k) (new ∙ s);
        small = below_more _ _ (λ j k. omega (arith, old j k, t.small j k)) (omega (arith, new, a.rest, t.total));
        unseen = λ j k. none j (omega arith);
        total = omega (arith, a.rest, t.total, loose-pushed seen' sizes total (omega (arith, t.count)) (none (length sizes) (omega (arith, t.count))));
        count = omega (arith, t.count, length-append sizes (total ∷ []));
        within = omega (arith, h);
      }

  -- how often a node is a child in the end
  tallied-child : (seen sizes : List ℕ) (i x : ℕ) → length os ≤ i → Tallied ws os seen sizes i → child_of x ws (offsets ws) ≡ get_or seen x 0
  tallied-child seen sizes i x h t =
      let e : child_of x ws os ≡ child_of x ws (offsets ws) = ap (child_of x ws) r.places in
      omega (arith, t.counts x, child-end x ws os i h)

  pub tallied-clash : (seen sizes : List ℕ) (i : ℕ) → i < length os → Tallied ws os seen sizes i → (n : Node) → Spelt ws (get_or os i 0) n → Clash n.kids.now (length sizes) seen → Treelike ws → ⊥
  tallied-clash seen sizes i h t n p (high q l g) w =
      let e : get_or os i 0 ≡ offset ws i = read-offset ws os r i in
      let m : i < nodes ws = omega (arith, read-nodes ws os r) in
      let k : q < kids_at ws (get_or os i 0) = omega (arith, p.count) in
      let l' : q < kids_at ws (offset ws i) = subst (λ z. q < kids_at ws z) e k in
      let g' : i ≤ kid_at ws (offset ws i) q = subst (λ z. i ≤ kid_at ws z q) e (subst (λ z. i ≤ z) (p.each q k) (omega (arith, g, t.count))) in
      omega (arith, w.below i q m l')
  tallied-clash seen sizes i h t n p (twice x l g) w =
      let m : x + 1 < nodes ws = omega (arith, l, t.count, read-nodes ws os r) in
      let e : child_of x ws os ≡ child_of x ws (offsets ws) = ap (child_of x ws) r.places in
      omega (arith, w.once x m, t.counts x, kids-standing ws (get_or os i 0) n p x, child-more x ws os i h)

  pub tallied-all : (seen sizes : List ℕ) (i : ℕ) → length os ≤ i → ((x : ℕ) → x < length os - 1 → get_or seen x 0 ≢ 0) → Tallied ws os seen sizes i → Treelike ws × Sized ws sizes × (length sizes ≡ length os)
  tallied-all seen sizes i e s t =
      let m = read-nodes ws os r in (
        record {
          below = λ j q h l.
              let k : get_or os j 0 ≡ offset ws j = read-offset ws os r j in
              subst (λ z. kid_at ws z q < j) k (t.below j (omega arith) q (subst (λ z. q < kids_at ws z) (sym k) l));
          once = λ x h.
              let b : x < length os - 1 = omega arith in
              let ne = s x b in
              omega (arith, t.flags x, tallied-child seen sizes i x e t);
        },
        record { each = λ j h. t.sized j (omega arith); small = λ j h. t.small j (omega arith) },
        omega (arith, t.count, t.within),
      )

  pub tallied-missing : (seen sizes : List ℕ) (i x : ℕ) → length os ≤ i → x < length os - 1 → get_or seen x 0 ≡ 0 → Tallied ws os seen sizes i → Treelike ws → ⊥
  tallied-missing seen sizes i x e h z t w =
      let m = read-nodes ws os r in
      let b : x + 1 < nodes ws = omega arith in
      omega (arith, w.once x b, tallied-child seen sizes i x e t)
