-- What an iterator of a rule's nodes gives.
use Rattle.std.proofs.Common.{◌≡◌, ℕ, ◌+◌, ◌<◌, ◌≤◌, Bool, true, false, not, List, ◌∷◌, length, get_or, drop, map, Some, None, sym, ap, ◌∙◌, subst, arith}
use Rattle.std.specs.List.{AllWithin, HoldsAt}
use Rattle.std.proofs.lemmas.Bool.{false≢true}
use Rattle.std.proofs.Math.ListN.{get_or-map}
use Rattle.std.proofs.lemmas.List.{length-map, drop_more, drop_all}
use Rattle.std.proofs.lemmas.Iterator.{YieldsList}
use Rattle.std.proofs.lemmas.Iterator.Consumers.{YieldsList-from_shown}
use Rattle.rule.specs.declared.nodes.Node.{Node}
use Rattle.rule.specs.declared.nodes.NodeIter.{NodeIter}
use Rattle.rule.specs.declared.nodes.Rule.{Rule}
use Rattle.rule.specs.Run.{code_at, v_at, w_at, offsets}
use Rattle.rule.specs.Nodes.{Spelt, NextNode, GivesNode, from_the_first}
use Rattle.rule.specs.Intake.{nodes, offset}

-- an iterator of the rule r, at the number i
module _ (r : Rule) (i : ℕ) (s : NodeIter) (e : s.rule ≡ r) (f : s.next ≡ i) where
  -- the node that it gives is r's node i, and it goes on behind it
  pub one-given : (n : Node) (t : NodeIter) → GivesNode s n t → (i < length r.at.now) × Spelt r.words.now (get_or r.at.now i 0) n × (t.rule ≡ r) × (t.next ≡ i + 1)
  one-given n t g =
      subst (λ z. (i < length z.at.now) × Spelt z.words.now (get_or z.at.now i 0) n × (t.rule ≡ z) × (t.next ≡ i + 1)) e
      (subst (λ k. (k < length s.rule.at.now) × Spelt s.rule.words.now (get_or s.rule.at.now k 0) n × (t.rule ≡ s.rule) × (t.next ≡ k + 1)) f (g.inside, g.spelt, g.rule, g.next))

  -- where it gives none, it gave all
  pub all-given : (t : NodeIter) → NextNode s None t → length r.at.now ≤ i
  all-given t g = subst (λ z. length z.at.now ≤ i) e (subst (λ k. length s.rule.at.now ≤ k) f g.0)

---- the nodes without their children

unlike : (b : Bool) → b ≡ not b → ⊥
unlike true e = false≢true (sym e)
unlike false e = false≢true e

-- code, v and w
pub record Head : Type 0 where
  pub code : ℕ
  pub v : ℕ
  pub w : ℕ

abbrev pub head : Node → Head
head n = record { code = n.code; v = n.v; w = n.w }

abbrev pub head_at : List ℕ → ℕ → Head
head_at ws o = record { code = code_at ws o; v = v_at ws o; w = w_at ws o }

abbrev pub heads : List ℕ → List Head
heads ws = map (head_at ws) (offsets ws)

ahead : NodeIter → List Head
ahead s = map (head_at s.rule.words.now) (drop s.next s.rule.at.now)

none-ahead : (s t : NodeIter) → NextNode s None t → length (ahead s) ≡ 0
unfolding ahead
none-ahead s t g = ap (λ (os : List ℕ). length (map (head_at s.rule.words.now) os)) (drop_all s.next s.rule.at.now g.0)

spelt-head : (ws : List ℕ) (o : ℕ) (n : Node) → Spelt ws o n → head_at ws o ≡ head n
spelt-head ws o n s = cc

one-ahead : (s : NodeIter) (n : Node) (t : NodeIter) → NextNode s (Some n) t → ahead s ≡ head n ∷ ahead t
unfolding ahead
one-ahead s n t g =
    let ws = s.rule.words.now in
    let at = s.rule.at.now in
    ap (map (head_at ws)) (drop_more at s.next 0 g.inside)
    ∙ ap (λ (h : Head). h ∷ map (head_at ws) (drop (s.next + 1) at)) (spelt-head ws _ n g.spelt)
    ∙ ap (λ i. head n ∷ map (head_at ws) (drop i at)) (sym g.next)
    ∙ ap (λ (r : Rule). head n ∷ map (head_at r.words.now) (drop t.next r.at.now)) (sym g.rule)

-- the iterator of a rule gives its nodes in their order, and then nothing
pub yields-heads : (r : Rule) → YieldsList NextNode head (from_the_first r) (heads r.words.now)
unfolding ahead
yields-heads r =
    let e : drop 0 r.at.now ≡ offsets r.words.now = r.read.places in
    subst (λ os. YieldsList NextNode head (from_the_first r) (map (head_at r.words.now) os)) e (YieldsList-from_shown NextNode head ahead none-ahead one-ahead (from_the_first r))

-- what a test answers at the heads, said of the nodes by their numbers
module _ (ws : List ℕ) (test : Head → Bool) (b : Bool) where
  head-is : (i : ℕ) → get_or (heads ws) i (head_at ws 0) ≡ head_at ws (offset ws i)
  head-is i = get_or-map (head_at ws) (offsets ws) i 0

  pub each-head : AllWithin (λ h. test h ≡ b) (heads ws) 0 (length (heads ws)) → (i : ℕ) → i < nodes ws → test (head_at ws (offset ws i)) ≡ b
  each-head a i h = ap test (sym (head-is i)) ∙ a i (head_at ws 0) (omega arith) (omega (arith, length-map (offsets ws) (head_at ws)))

  pub some-head : (k : ℕ) × (k < length (heads ws)) × HoldsAt (λ h. test h ≡ b) (heads ws) k → ((i : ℕ) → i < nodes ws → test (head_at ws (offset ws i)) ≡ not b) → ⊥
  some-head a f =
      let h : a.0 < nodes ws = omega (arith, a.1, length-map (offsets ws) (head_at ws)) in
      unlike b (sym (ap test (sym (head-is a.0)) ∙ a.2 (head_at ws 0)) ∙ f a.0 h)
