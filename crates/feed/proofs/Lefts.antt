-- The children of a node that are left, one after the other.
use Rattle.std.proofs.Common.{◌≡◌, ℕ, ◌+◌, ◌-◌, ◌<◌, ◌≤◌, List, [], ◌++◌, length, reverse, get_or, Some, None, Option, sym, ap, ap₂, ◌∙◌, subst, ⊎_elim, arith}
use Rattle.std.specs.List.{slice_get, flat_map}
use Rattle.std.proofs.lemmas.List.{at_drop_more, at_drop_all, get_or-reverse, length-reverse}
use Rattle.std.proofs.lemmas.Bool.{cases_lt}
use Rattle.std.proofs.lemmas.Option.{slice_get_within, get_or_from_slice_get, slice_get-get_or}
use Rattle.rule.specs.declared.nodes.Node.{Node}
use Rattle.sameness.specs.declared.kind.Kind.{Kind}
use Rattle.sameness.specs.Kinds.{IsNode}
use Rattle.feed.specs.declared.way.Way.{Way}
use Rattle.feed.specs.declared.way.Way.TheVariants.{Direct, Exchanged, ByHash}
use Rattle.feed.specs.Ways.{way_of, walked_by, walked}
use Rattle.feed.specs.Nodes.{node_in}
use Rattle.feed.specs.Pending.{node_feed, left}
use Rattle.feed.proofs.Nodes.{IsReduced, way-read}

-- what the code takes for the next child
pub walked-next : {ws : List ℕ} {k : Kind} {n : Node} → IsNode ws k n → (q : ℕ) {x : Option ℕ} {y : Way} → y ≡ way_of n → x ≡ slice_get (walked_by y n.kids.now) q → x ≡ slice_get (walked (node_in ws k)) q
unfolding walked
walked-next {ws} {k} {n} r q e h =
    h ∙ ap₂ (λ y ks. slice_get (walked_by y ks) q) (e ∙ way-read ws k n r) r.kids

---- what is left

module _ (f : List ℕ → ℕ) (ws : List ℕ) (n : Node) (q : ℕ) where
  pub left-more : (x : ℕ) → slice_get (walked n) q ≡ Some x → left f ws n q ≡ node_feed f ws x ++ left f ws n (q + 1)
  unfolding left
  left-more x e =
      at_drop_more (flat_map (node_feed f ws)) (walked n) q 0 (slice_get_within (walked n) q x e)
      ∙ ap (λ y. node_feed f ws y ++ left f ws n (q + 1)) (get_or_from_slice_get (walked n) q x 0 e)

  pub left-none : slice_get (walked n) q ≡ None → left f ws n q ≡ []
  unfolding left
  left-none e =
      at_drop_all (flat_map (node_feed f ws)) (walked n) q
      (⊎_elim (λ (h : q < length (walked n)). let g = slice_get-get_or (walked n) q 0 h in absurd (cc)) (λ h. h) (cases_lt q (length (walked n))))

---- a child's number is below its node's

-- which of all the children it is
child_at : (y : Way) (ns : List ℕ) (q x : ℕ) → slice_get (walked_by y ns) q ≡ Some x → (m : ℕ) × (m < length ns) × (get_or ns m 0 ≡ x)
child_at Direct ns q x e = (q, slice_get_within ns q x e, get_or_from_slice_get ns q x 0 e)
child_at Exchanged ns q x e =
    let l : q < length ns = omega (arith, slice_get_within (reverse ns) q x e, length-reverse ns) in
    (length ns - 1 - q, omega arith, sym (get_or-reverse ns q 0 l) ∙ get_or_from_slice_get (reverse ns) q x 0 e)
child_at ByHash ns q x e = absurd (cc)

walked-few : (y : Way) (ns : List ℕ) → length (walked_by y ns) ≤ length ns
walked-few Direct ns = omega arith
walked-few Exchanged ns = omega (arith, length-reverse ns)
walked-few ByHash ns = omega arith

module _ (ws : List ℕ) (i : ℕ) (n : Node) (r : IsReduced ws i n) (q x : ℕ) (e : slice_get (walked n) q ≡ Some x) where
  pub child-below : x < i
  unfolding walked
  child-below = let p = child_at (way_of n) n.kids.now q x e in subst (λ z. z < i) p.2 (r.below p.0 p.1)

  pub few-done : q < length n.kids.now
  unfolding walked
  few-done = omega (arith, slice_get_within (walked n) q x e, walked-few (way_of n) n.kids.now)
