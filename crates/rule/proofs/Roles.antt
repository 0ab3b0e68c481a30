-- The walk of a node, child by child.
use Rattle.std.proofs.Common.{◌≡◌, ℕ, suc, ◌+◌, ◌-◌, ◌<◌, ◌≤◌, Bool, List, length, get_or, Result, sym, ap, ◌∙◌, subst, arith}
use Rattle.rule.specs.declared.fault.Fault.{Fault}
use Rattle.rule.specs.Run.{kids_at, code_at, v_at, w_at}
use Rattle.rule.specs.Trees.{Tree, nil, cons, stub, kids_of, node_of, trees_of, tree_at}
use Rattle.rule.specs.Scopes.{role, compares}
use Rattle.rule.specs.Marks.{size, size_all, steps, steps_all, end_of, broken, marked, and_then, note, note_all, Says}
use Rattle.rule.proofs.Noted.{note-node, note-cons}

---- the children of a node, one after the other

kids-more : (ws : List ℕ) (p q n : ℕ) → q < n → kids_of (trees_of ws) ws (p + q) (n - q) ≡ cons (tree_at ws (get_or ws (p + q) 0)) (kids_of (trees_of ws) ws (p + (q + 1)) (n - (q + 1)))
unfolding kids_of tree_at
kids-more ws p q n h =
    let e : n - q ≡ suc (n - (q + 1)) = omega arith in
    let a : p + q + 1 ≡ p + (q + 1) = omega arith in
    ap (λ k. kids_of (trees_of ws) ws (p + q) k) e ∙ ap (λ z. cons (get_or (trees_of ws) (get_or ws (p + q) 0) stub) (kids_of (trees_of ws) ws z (n - (q + 1)))) a

kids-end : (ws : List ℕ) (p k : ℕ) → k ≡ 0 → kids_of (trees_of ws) ws p k ≡ nil
unfolding kids_of
kids-end ws p k e = ap (kids_of (trees_of ws) ws p) e

-- the walk of the children from q on, with the marks m at the place at
pub record Walking (ws : List ℕ) (b : Bool) (place until p n : ℕ) (m₀ m : List ℕ) (at q : ℕ) : Type 0 where
  pub notes : note_all place (steps_all b place until (kids_of (trees_of ws) ws p n)) m₀ ≡ note_all at (steps_all b at until (kids_of (trees_of ws) ws (p + q) (n - q))) m
  pub sum : at + size_all (kids_of (trees_of ws) ws (p + q) (n - q)) ≡ place + size_all (kids_of (trees_of ws) ws p n)
  pub wide : length m ≡ 1024

module _ (ws : List ℕ) (b : Bool) (place until p n : ℕ) (m₀ : List ℕ) where
  -- a child's size is within what is left
  pub walking-size : (m : List ℕ) (at q : ℕ) → q < n → Walking ws b place until p n m₀ m at q
      → at + size (tree_at ws (get_or ws (p + q) 0)) ≤ place + size_all (kids_of (trees_of ws) ws p n)
  unfolding size_all
  walking-size m at q h w =
      let k : size_all (kids_of (trees_of ws) ws (p + q) (n - q)) ≡ size (tree_at ws (get_or ws (p + q) 0)) + size_all (kids_of (trees_of ws) ws (p + (q + 1)) (n - (q + 1))) = ap size_all (kids-more ws p q n h) in
      omega (arith, w.sum)

  split : (m : List ℕ) (at q : ℕ) → q < n → Walking ws b place until p n m₀ m at q
      → note_all place (steps_all b place until (kids_of (trees_of ws) ws p n)) m₀
      ≡ and_then (note_all at (steps at (end_of b (at + size (tree_at ws (get_or ws (p + q) 0))) until) (tree_at ws (get_or ws (p + q) 0))) m)
      (note_all (at + size (tree_at ws (get_or ws (p + q) 0))) (steps_all b (at + size (tree_at ws (get_or ws (p + q) 0))) until (kids_of (trees_of ws) ws (p + (q + 1)) (n - (q + 1)))))
  split m at q h w = w.notes ∙ ap (λ f. note_all at (steps_all b at until f) m) (kids-more ws p q n h) ∙ note-cons b at until (tree_at ws (get_or ws (p + q) 0)) _ m

  pub walking-more : (m m' : List ℕ) (at q end within : ℕ) → q < n → end ≡ at + size (tree_at ws (get_or ws (p + q) 0)) → within ≡ end_of b end until → length m' ≡ 1024
      → note_all at (steps at within (tree_at ws (get_or ws (p + q) 0))) m ≡ marked m' → Walking ws b place until p n m₀ m at q → Walking ws b place until p n m₀ m' end (q + 1)
  unfolding size_all and_then
  walking-more m m' at q end within h e f l s w =
      let t : Tree = tree_at ws (get_or ws (p + q) 0) in
      let f' : within ≡ end_of b (at + size t) until = f ∙ ap (λ z. end_of b z until) e in
      let s' : note_all at (steps at (end_of b (at + size t) until) t) m ≡ marked m' = ap (λ z. note_all at (steps at z t) m) (sym f') ∙ s in
      let k : size_all (kids_of (trees_of ws) ws (p + q) (n - q)) ≡ size t + size_all (kids_of (trees_of ws) ws (p + (q + 1)) (n - (q + 1))) = ap size_all (kids-more ws p q n h) in
      record {
        notes = split m at q h w
            ∙ ap (λ o. and_then o (note_all (at + size t) (steps_all b (at + size t) until (kids_of (trees_of ws) ws (p + (q + 1)) (n - (q + 1)))))) s'
            ∙ ap (λ z. note_all z (steps_all b z until (kids_of (trees_of ws) ws (p + (q + 1)) (n - (q + 1)))) m') (sym e);
        sum = omega (arith, w.sum);
        wide = l;
      }

  pub walking-broken : (m : List ℕ) (at q end within : ℕ) → q < n → end ≡ at + size (tree_at ws (get_or ws (p + q) 0)) → within ≡ end_of b end until
      → note_all at (steps at within (tree_at ws (get_or ws (p + q) 0))) m ≡ broken → Walking ws b place until p n m₀ m at q
      → note_all place (steps_all b place until (kids_of (trees_of ws) ws p n)) m₀ ≡ broken
  unfolding and_then
  walking-broken m at q end within h e f s w =
      let t : Tree = tree_at ws (get_or ws (p + q) 0) in
      let f' : within ≡ end_of b (at + size t) until = f ∙ ap (λ z. end_of b z until) e in
      let s' : note_all at (steps at (end_of b (at + size t) until) t) m ≡ broken = ap (λ z. note_all at (steps at z t) m) (sym f') ∙ s in
      split m at q h w ∙ ap (λ o. and_then o (note_all (at + size t) (steps_all b (at + size t) until (kids_of (trees_of ws) ws (p + (q + 1)) (n - (q + 1)))))) s'

  pub walking-all : (m : List ℕ) (at q : ℕ) → q ≡ n → Walking ws b place until p n m₀ m at q
      → (note_all place (steps_all b place until (kids_of (trees_of ws) ws p n)) m₀ ≡ marked m) × (at ≡ place + size_all (kids_of (trees_of ws) ws p n))
  unfolding steps_all note_all size_all
  walking-all m at q e w =
      let z : n - q ≡ 0 = omega arith in
      let k : kids_of (trees_of ws) ws (p + q) (n - q) ≡ nil = kids-end ws (p + q) (n - q) z in
      let s : size_all (kids_of (trees_of ws) ws (p + q) (n - q)) ≡ 0 = ap size_all k in
      (w.notes ∙ ap (λ f. note_all at (steps_all b at until f) m) k, omega (arith, w.sum))

---- the node itself, after its children

module _ (ws : List ℕ) (i o place until : ℕ) (m₀ : List ℕ) (e : tree_at ws i ≡ node_of ws (trees_of ws) o) where
  pub size-node : size (tree_at ws i) ≡ size_all (kids_of (trees_of ws) ws (o + 4) (kids_at ws o)) + 1
  unfolding size node_of
  size-node = ap size e

  walk-node : note_all place (steps place until (tree_at ws i)) m₀
      ≡ and_then (note_all place (steps_all (compares (code_at ws o) (v_at ws o)) place until (kids_of (trees_of ws) ws (o + 4) (kids_at ws o))) m₀)
      (note (place + size_all (kids_of (trees_of ws) ws (o + 4) (kids_at ws o))) (role (code_at ws o) (v_at ws o) (w_at ws o)) until)
  unfolding node_of
  walk-node = ap (λ t. note_all place (steps place until t) m₀) e ∙ note-node place until (code_at ws o) (v_at ws o) (w_at ws o) (kids_of (trees_of ws) ws (o + 4) (kids_at ws o)) m₀

  pub node-broken : (b : Bool) → b ≡ compares (code_at ws o) (v_at ws o)
      → note_all place (steps_all b place until (kids_of (trees_of ws) ws (o + 4) (kids_at ws o))) m₀ ≡ broken → note_all place (steps place until (tree_at ws i)) m₀ ≡ broken
  unfolding and_then
  node-broken b f h =
      let h' = ap (λ z. note_all place (steps_all z place until (kids_of (trees_of ws) ws (o + 4) (kids_at ws o))) m₀) (sym f) ∙ h in
      walk-node ∙ ap (λ z. and_then z (note (place + size_all (kids_of (trees_of ws) ws (o + 4) (kids_at ws o))) (role (code_at ws o) (v_at ws o) (w_at ws o)) until)) h'

  pub node-noted : {X : Type 0} (r : Result X Fault) (b : Bool) (m m' : List ℕ) (at : ℕ) → b ≡ compares (code_at ws o) (v_at ws o)
      → note_all place (steps_all b place until (kids_of (trees_of ws) ws (o + 4) (kids_at ws o))) m₀ ≡ marked m
      → at ≡ place + size_all (kids_of (trees_of ws) ws (o + 4) (kids_at ws o))
      → Says r m' (note at (role (code_at ws o) (v_at ws o) (w_at ws o)) until m) → Says r m' (note_all place (steps place until (tree_at ws i)) m₀)
  unfolding and_then
  node-noted r b m m' at f h k s =
      let h' = ap (λ z. note_all place (steps_all z place until (kids_of (trees_of ws) ws (o + 4) (kids_at ws o))) m₀) (sym f) ∙ h in
      let g = walk-node
      ∙ ap (λ z. and_then z (note (place + size_all (kids_of (trees_of ws) ws (o + 4) (kids_at ws o))) (role (code_at ws o) (v_at ws o) (w_at ws o)) until)) h'
      ∙ ap (λ z. note z (role (code_at ws o) (v_at ws o) (w_at ws o)) until m) (sym k) in
      subst (λ z. Says r m' z) (sym g) s
