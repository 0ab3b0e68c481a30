-- The tree at a number is the node at its place, over the trees at its children's numbers.
use Rattle.std.proofs.Common.{◌≡◌, ℕ, zero, suc, ◌+◌, ◌<◌, List, [], ◌∷◌, ◌++◌, length, get_or, sym, refl, ap, ◌∙◌, subst, arith}
use Rattle.std.proofs.lemmas.List.{get_or_append_left, get_or_push, length_push}
use Rattle.rule.specs.Run.{offsets, kids_at, kid_at, code_at, v_at, w_at}
use Rattle.rule.specs.Trees.{Tree, node, stub, kids_of, node_of, grow, trees_of, tree_at}
use Rattle.rule.specs.Intake.{Read, Treelike, nodes, offset}
use Rattle.rule.specs.Marks.{size, size_all}
use Rattle.rule.proofs.Counting.{sizes_of}
use Rattle.rule.proofs.Laid.{read-nodes, read-offset}

grow-keeps : (ws os : List ℕ) (acc : List Tree) (i : ℕ) → i < length acc → get_or (grow ws os acc) i stub ≡ get_or acc i stub
unfolding grow
grow-keeps ws [] acc i h = refl
grow-keeps ws (o ∷ os) acc i h =
    let x : Tree = node_of ws acc o in
    let e : length (acc ++ (x ∷ [])) ≡ length acc + 1 = length_push acc x in
    let l : i < length (acc ++ (x ∷ [])) = omega arith in
    grow-keeps ws os (acc ++ (x ∷ [])) i l ∙ get_or_append_left acc (x ∷ []) stub i h

kids-same : (ws : List ℕ) (f g : List Tree) (p n m : ℕ) → ((k : ℕ) → k < n → get_or ws (p + k) 0 < m)
    → ((j : ℕ) → j < m → get_or f j stub ≡ get_or g j stub) → kids_of f ws p n ≡ kids_of g ws p n
unfolding kids_of
kids-same ws f g p zero m low same = refl
kids-same ws f g p (suc n) m low same =
    let z : get_or ws (p + 0) 0 < m = low 0 (omega arith) in
    let q : p + 0 ≡ p = omega arith in
    let z' : get_or ws p 0 < m = subst (λ a. get_or ws a 0 < m) q z in
    let head : get_or f (get_or ws p 0) stub ≡ get_or g (get_or ws p 0) stub = same (get_or ws p 0) z' in
    let rest : kids_of f ws (p + 1) n ≡ kids_of g ws (p + 1) n =
    kids-same ws f g (p + 1) n m (λ k h.
    let q : get_or ws (p + suc k) 0 < m = low (suc k) (omega arith) in
    let e : p + suc k ≡ p + 1 + k = omega arith in
    subst (λ a. get_or ws a 0 < m) e q) same in
    cc

grow-at : (ws os : List ℕ) (acc : List Tree) (k i : ℕ) → length acc + k ≡ i → k < length os
    → ((q : ℕ) → q < kids_at ws (get_or os k 0) → kid_at ws (get_or os k 0) q < i)
    → get_or (grow ws os acc) i stub ≡ node_of ws (grow ws os acc) (get_or os k 0)
unfolding grow node_of
grow-at ws [] acc k i e h low = absurd (omega arith)
grow-at ws (o ∷ os) acc zero i e h low =
    let x : Tree = node_of ws acc o in
    let g : List Tree = grow ws (o ∷ os) acc in
    let e' : length acc ≡ i = omega arith in
    let p : length (acc ++ (x ∷ [])) ≡ length acc + 1 = length_push acc x in
    let l : i < length (acc ++ (x ∷ [])) = omega arith in
    let a : get_or g i stub ≡ get_or (acc ++ (x ∷ [])) i stub = grow-keeps ws os (acc ++ (x ∷ [])) i l in
    let b : get_or (acc ++ (x ∷ [])) i stub ≡ x = get_or_push acc x stub i e' in
    let same : (j : ℕ) → j < i → get_or acc j stub ≡ get_or g j stub =
    λ j h. let lj : j < length acc = omega arith in sym (grow-keeps ws (o ∷ os) acc j lj) in
    let ks : kids_of acc ws (o + 4) (kids_at ws o) ≡ kids_of g ws (o + 4) (kids_at ws o) =
    kids-same ws acc g (o + 4) (kids_at ws o) i low same in
    a ∙ b ∙ ap (λ f. node (code_at ws o) (v_at ws o) (w_at ws o) f) ks
grow-at ws (o ∷ os) acc (suc k) i e h low =
    let x : Tree = node_of ws acc o in
    let p : length (acc ++ (x ∷ [])) ≡ length acc + 1 = length_push acc x in
    let e' : length (acc ++ (x ∷ [])) + k ≡ i = omega arith in
    let h' : k < length os = omega arith in
    grow-at ws os (acc ++ (x ∷ [])) k i e' h' low

-- the law of the trees
pub tree-at : (ws : List ℕ) (i : ℕ) → i < nodes ws → ((q : ℕ) → q < kids_at ws (offset ws i) → kid_at ws (offset ws i) q < i)
    → tree_at ws i ≡ node_of ws (trees_of ws) (offset ws i)
unfolding tree_at trees_of
tree-at ws i h low = grow-at ws (offsets ws) [] i i (omega arith) h low

---- the sizes of the trees

sizes-all : (ws sizes : List ℕ) (p n : ℕ) → ((q : ℕ) → q < n → get_or sizes (get_or ws (p + q) 0) 0 ≡ size (tree_at ws (get_or ws (p + q) 0)))
    → size_all (kids_of (trees_of ws) ws p n) ≡ sizes_of ws p n sizes
unfolding kids_of sizes_of size_all tree_at
sizes-all ws sizes p zero h = refl
sizes-all ws sizes p (suc n) h =
    let e : p + 0 ≡ p = omega arith in
    let a : get_or sizes (get_or ws p 0) 0 ≡ size (get_or (trees_of ws) (get_or ws p 0) stub) = subst (λ z. get_or sizes (get_or ws z 0) 0 ≡ size (get_or (trees_of ws) (get_or ws z 0) stub)) e (h 0 (omega arith)) in
    let b : size_all (kids_of (trees_of ws) ws (p + 1) n) ≡ sizes_of ws (p + 1) n sizes = sizes-all ws sizes (p + 1) n (λ q l.
    let f : p + suc q ≡ p + 1 + q = omega arith in
    subst (λ z. get_or sizes (get_or ws z 0) 0 ≡ size (get_or (trees_of ws) (get_or ws z 0) stub)) f (h (suc q) (omega arith))) in
    omega arith

pub size-at : (ws sizes : List ℕ) (i : ℕ) → i < nodes ws → ((q : ℕ) → q < kids_at ws (offset ws i) → kid_at ws (offset ws i) q < i)
    → ((j : ℕ) → j < i → get_or sizes j 0 ≡ size (tree_at ws j)) → 1 + sizes_of ws (offset ws i + 4) (kids_at ws (offset ws i)) sizes ≡ size (tree_at ws i)
unfolding size node_of
size-at ws sizes i h low known =
    let a : size (tree_at ws i) ≡ size_all (kids_of (trees_of ws) ws (offset ws i + 4) (kids_at ws (offset ws i))) + 1 = ap size (tree-at ws i h low) in
    let b = sizes-all ws sizes (offset ws i + 4) (kids_at ws (offset ws i)) (λ q l. known (kid_at ws (offset ws i) q) (low q l)) in
    omega arith

-- the law of the trees, at the places as a program holds them
pub tree-read : (ws os : List ℕ) (i : ℕ) → Read ws os → Treelike ws → i < length os → tree_at ws i ≡ node_of ws (trees_of ws) (get_or os i 0)
tree-read ws os i d t h =
    let n : i < nodes ws = omega (arith, read-nodes ws os d) in
    tree-at ws i n (λ q l. t.below i q n l) ∙ ap (node_of ws (trees_of ws)) (sym (read-offset ws os d i))
