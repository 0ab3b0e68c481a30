-- What a node feeds by the way of its children: its own words, and then what its children feed.
use Rattle.std.proofs.Common.{◌≡◌, ℕ, false, eqb, ◌⊎◌, Some, None, Option, IsSomeAnd, MatchOption, List, [], ◌∷◌, ◌++◌, length, map, get_or, sym, refl, ap, ◌∙◌, subst, ap₂, inl, inr, ⊎_elim, arith}
use Rattle.std.specs.List.{flat_map}
use Rattle.std.proofs.lemmas.List.{length-map}
use Rattle.std.proofs.lemmas.Bool.{eqb-true, eqb-false, ne_eqb, cond-false, cond_both}
use Rattle.rule.specs.declared.comparison.Comparison.{Comparison}
use Rattle.rule.specs.declared.comparison.Comparison.TheVariants.{Eq, Lt, Le, Ne, Ge, Gt}
use Rattle.rule.specs.declared.nodes.Node.{Node}
use Rattle.rule.specs.Comparisons.{comparison_number, comparison_of}
use Rattle.rule.specs.Nodes.{comparison_in}
use Rattle.sameness.specs.Reduction.{reduce_all}
use Rattle.sameness.specs.Sameness.{bare_v, bare_w}
use Rattle.sameness.specs.Walking.{trees_at, kids_in, tree_in}
use Rattle.feed.specs.declared.operands.Operands.{Operands}
use Rattle.feed.specs.declared.way.Way.{Way}
use Rattle.feed.specs.declared.way.Way.TheVariants.{Direct, Exchanged, ByHash}
use Rattle.feed.specs.Feed.{Order, ordered, exchanged, unordered, order, fed_v, joined, turned, hashes, in_order, arranged, feed, feeds}
use Rattle.feed.specs.Ways.{way_by, way_at, fed_as, way_of, walked_by, walked, hashes_in, head_of}
use Rattle.feed.specs.Pending.{node_feed, node_hash, left, operands_of, noted_by, noted_of}
use Rattle.feed.proofs.Comparisons.{Other, by_comparison}
use Rattle.feed.proofs.Nodes.{IsReduced}

---- the way of a node and the order of its children

-- the order of a way's children
abbrev order_by : Way → Order
order_by Direct = ordered
order_by Exchanged = exchanged
order_by ByHash = unordered

order-comparison : (k : Comparison) → order 14 (bare_v 14 (comparison_number k)) ≡ order_by (way_by k)
unfolding order bare_v
order-comparison Eq = refl
order-comparison Lt = refl
order-comparison Le = refl
order-comparison Ne = refl
order-comparison Ge = refl
order-comparison Gt = refl

order-none : (v : ℕ) → Other v → order 14 (bare_v 14 v) ≡ ordered
unfolding order bare_v
order-none v n = rw (ne_eqb v 12 (n Eq), ne_eqb v 13 (n Lt), ne_eqb v 14 (n Le), ne_eqb v 15 (n Ne)) refl

order-binary : (v : ℕ) → order 14 (bare_v 14 v) ≡ order_by (way_at (comparison_of v))
order-binary v = by_comparison (λ z o. order 14 (bare_v 14 z) ≡ order_by (way_at o)) order-comparison order-none v

-- what the code takes for the way of two children
pub binary_way : (n : Node) {o : Option Comparison} → length n.kids.now ≡ 2 → o ≡ comparison_in n → way_at o ≡ way_of n
unfolding way_of
binary_way n l e = rw (e, l) refl

-- v, where a comparison or none is fed in its place
abbrev fed_at : ℕ → Option Comparison → ℕ
fed_at v None = v
fed_at v (Some k) = comparison_number (fed_as k)

fed-comparison : (k : Comparison) → fed_at (comparison_number k) (Some k) ≡ fed_v 14 (comparison_number k)
unfolding fed_v
fed-comparison Eq = refl
fed-comparison Lt = refl
fed-comparison Le = refl
fed-comparison Ne = refl
fed-comparison Ge = refl
fed-comparison Gt = refl

fed-none : (v : ℕ) → Other v → v ≡ fed_v 14 v
unfolding fed_v
fed-none v n = rw (ne_eqb v 13 (n Lt), ne_eqb v 14 (n Le)) refl

other-v : (c v : ℕ) → eqb c 14 ≡ false → v ≡ fed_v c v
unfolding fed_v
other-v c v e = sym (cond-false _ _ _ e)

node-v : (n : Node) → fed_at (bare_v n.code n.v) (comparison_in n) ≡ fed_v n.code (bare_v n.code n.v)
unfolding bare_v
node-v n =
    cond_both (eqb n.code 14) (comparison_of n.v) None (λ o. fed_at (bare_v n.code n.v) o ≡ fed_v n.code (bare_v n.code n.v))
    (λ h. rw (eqb-true _ _ h) (by_comparison (λ z o. fed_at z o ≡ fed_v 14 z) fed-comparison fed-none n.v))
    (λ h. other-v _ _ h)

told-v : (d r : ℕ) (o p : Option Comparison) → MatchOption o (p ≡ None) (λ k. IsSomeAnd p (λ y. y ≡ fed_as k)) → MatchOption p (r ≡ d) (λ y. r ≡ comparison_number y) → r ≡ fed_at d o
told-v d r None p e h = subst (λ x. MatchOption x (r ≡ d) (λ y. r ≡ comparison_number y)) e h
told-v d r (Some k) None e h = absurd e
told-v d r (Some k) (Some y) e h = h ∙ ap comparison_number e

-- v of a node as it is fed, where o is its comparison, p what that is fed as, and r the number of p, or v as it is compared
pub fed_node : (n : Node) (r : ℕ) (o p : Option Comparison) → o ≡ comparison_in n → MatchOption o (p ≡ None) (λ k. IsSomeAnd p (λ y. y ≡ fed_as k))
    → MatchOption p (r ≡ bare_v n.code n.v) (λ y. r ≡ comparison_number y) → r ≡ fed_v n.code (bare_v n.code n.v)
fed_node n r o p e m h = told-v _ r o p m h ∙ ap (fed_at (bare_v n.code n.v)) e ∙ node-v n

order_other : (c v : ℕ) → eqb c 14 ≡ false → order c v ≡ ordered
unfolding order
order_other c v e = cond-false _ _ _ e

abbrev order_in : Node → Order
order_in n = order n.code (bare_v n.code n.v)

-- other than two children are fed as they stand, whatever their order
abbrev pub WayFacts : Node → Way → Type 0
WayFacts n Direct = (length n.kids.now ≡ 2 → ⊥) ⊎ (order_in n ≡ ordered)
WayFacts n Exchanged = (length n.kids.now ≡ 2) × (order_in n ≡ exchanged)
WayFacts n ByHash = (length n.kids.now ≡ 2) × (order_in n ≡ unordered)

two-facts : (n : Node) (y : Way) → length n.kids.now ≡ 2 → order_in n ≡ order_by y → WayFacts n y
two-facts n Direct l e = inr e
two-facts n Exchanged l e = (l, e)
two-facts n ByHash l e = (l, e)

order-node : (n : Node) → order_in n ≡ order_by (way_at (comparison_in n))
order-node n =
    cond_both (eqb n.code 14) (comparison_of n.v) None (λ o. order_in n ≡ order_by (way_at o))
    (λ e. ap (λ c. order c (bare_v c n.v)) (eqb-true _ _ e) ∙ order-binary n.v)
    (λ e. order_other _ _ e)

way-facts : (n : Node) → WayFacts n (way_of n)
unfolding way_of
way-facts n =
    cond_both (eqb (length n.kids.now) 2) _ Direct (WayFacts n)
    (λ e. two-facts n _ (eqb-true _ _ e) (order-node n))
    (λ e. inl (eqb-false _ _ e))

pub facts_at : (n : Node) (y : Way) → way_of n ≡ y → WayFacts n y
facts_at n y e = subst (WayFacts n) e (way-facts n)

---- the children of a node, in their order

kids-feed : (f : List ℕ → ℕ) (ws xs : List ℕ) → feeds f (reduce_all (trees_at ws xs)) ≡ map (node_feed f ws) xs
unfolding feeds reduce_all trees_at node_feed
kids-feed f ws [] = refl
kids-feed f ws (x ∷ xs) = ap (λ ls. node_feed f ws x ∷ ls) (kids-feed f ws xs)

joined-map : (g : ℕ → List ℕ) (xs : List ℕ) → joined (map g xs) ≡ flat_map g xs
unfolding joined
joined-map g [] = refl
joined-map g (x ∷ xs) = ap (λ ls. g x ++ ls) (joined-map g xs)

in-order-other : (f : List ℕ → ℕ) (o : Order) (ls : List (List ℕ)) → (length ls ≡ 2 → ⊥) → in_order f o ls ≡ joined ls
unfolding in_order turned hashes joined
in-order-other f ordered ls n = refl
in-order-other f exchanged [] n = refl
in-order-other f exchanged (a ∷ []) n = refl
in-order-other f exchanged (a ∷ (b ∷ [])) n = absurd (n refl)
in-order-other f exchanged (a ∷ (b ∷ (c ∷ ls))) n = refl
in-order-other f unordered [] n = refl
in-order-other f unordered (a ∷ []) n = refl
in-order-other f unordered (a ∷ (b ∷ [])) n = absurd (n refl)
in-order-other f unordered (a ∷ (b ∷ (c ∷ ls))) n = refl

two_numbers : (xs : List ℕ) → length xs ≡ 2 → xs ≡ get_or xs 0 0 ∷ (get_or xs 1 0 ∷ [])
two_numbers [] e = absurd (omega arith)
two_numbers (a ∷ []) e = absurd (omega arith)
two_numbers (a ∷ (b ∷ [])) e = refl
two_numbers (a ∷ (b ∷ (c ∷ xs))) e = absurd (omega arith)

---- a node by its way

module _ (f : List ℕ → ℕ) (ws : List ℕ) (n : Node) where
  -- what the children feed in an order, and by a way
  abbrev fed_in : Order → List ℕ → List ℕ
  fed_in r xs = in_order f r (map (node_feed f ws) xs)

  abbrev fed_by : Way → List ℕ → List ℕ
  fed_by y xs = hashes_in (noted_by y (operands_of f ws n)) ++ flat_map (node_feed f ws) (walked_by y xs)

  direct-other : (r : Order) (xs : List ℕ) → (length xs ≡ 2 → ⊥) → fed_in r xs ≡ fed_by Direct xs
  direct-other r xs m = in-order-other f r _ (λ e. m (sym (length-map xs (node_feed f ws)) ∙ e)) ∙ joined-map _ xs

  direct-ordered : (xs : List ℕ) → fed_in ordered xs ≡ fed_by Direct xs
  unfolding in_order
  direct-ordered xs = joined-map _ xs

  two-exchanged : (a b : ℕ) → fed_in exchanged (a ∷ (b ∷ [])) ≡ fed_by Exchanged (a ∷ (b ∷ []))
  unfolding in_order turned joined
  two-exchanged a b = refl

  two-unordered : (a b : ℕ) → n.kids.now ≡ a ∷ (b ∷ []) → fed_in unordered (a ∷ (b ∷ [])) ≡ fed_by ByHash (a ∷ (b ∷ []))
  unfolding in_order hashes operands_of node_hash
  two-unordered a b e = rw e refl

  way-order : (y : Way) → WayFacts n y → fed_in (order_in n) n.kids.now ≡ fed_by y n.kids.now
  way-order Direct w =
      ⊎_elim (λ (m : length n.kids.now ≡ 2 → ⊥). direct-other (order_in n) n.kids.now m) (λ (e : order_in n ≡ ordered). ap (λ r. fed_in r n.kids.now) e ∙ direct-ordered n.kids.now) w
  way-order Exchanged w = let e = two_numbers n.kids.now w.0 in ap₂ fed_in w.1 e ∙ two-exchanged _ _ ∙ ap (fed_by Exchanged) (sym e)
  way-order ByHash w = let e = two_numbers n.kids.now w.0 in ap₂ fed_in w.1 e ∙ two-unordered _ _ e ∙ ap (fed_by ByHash) (sym e)

  reduced-feed : feed f (tree_in ws n) ≡ head_of n (noted_of f ws n) ++ left f ws n 0
  unfolding feed arranged head_of left walked
  reduced-feed =
      let e = kids-feed f ws n.kids.now in
      let l : length (feeds f (kids_in ws n)) ≡ length n.kids.now = ap length e ∙ length-map n.kids.now (node_feed f ws) in
      let r : in_order f (order_in n) (feeds f (kids_in ws n)) ≡ fed_by (way_of n) n.kids.now = ap (in_order f (order_in n)) e ∙ way-order (way_of n) (facts_at n _ refl) in
      ap₂ (λ m ls. n.code ∷ (fed_v n.code (bare_v n.code n.v) ∷ (bare_w n.code n.v n.w ∷ (m ∷ ls)))) l r

  -- node i feeds its own words, and then what its children feed that are left: all
  pub node-feed : (i : ℕ) (o : Option Operands) → IsReduced ws i n → o ≡ noted_of f ws n → node_feed f ws i ≡ head_of n o ++ left f ws n 0
  unfolding node_feed
  node-feed i o r e = ap (feed f) (sym r.tree) ∙ reduced-feed ∙ ap (λ z. head_of n z ++ left f ws n 0) (sym e)
