-- The hashes of the operands, noted node after node, and the hash of the root.
use Rattle.std.proofs.Common.{◌≡◌, ℕ, ◌-◌, ◌<◌, ◌≤◌, None, Option, List, [], ◌∷◌, ◌++◌, length, take, sym, refl, ap, ◌∙◌, subst, ⊎_elim, arith, length-append}
use Rattle.std.proofs.lemmas.List.{get_or-take, get_or_append_left, get_or-append_right}
use Rattle.std.proofs.lemmas.Bool.{cases_lt}
use Rattle.rule.specs.declared.fault.Fault.TheVariants.{TooLong}
use Rattle.rule.specs.Trees.{tree_of}
use Rattle.rule.specs.declared.nodes.Node.{Node}
use Rattle.sameness.specs.declared.reducing.Reduced.{Reduced}
use Rattle.sameness.specs.declared.kind.Kind.{Kind}
use Rattle.sameness.specs.Reducing.{NodeReduced, RuleReduced, no_kind, kind_in}
use Rattle.feed.specs.declared.operands.Operands.{Operands}
use Rattle.feed.specs.declared.walk.Noted.{Noted}
use Rattle.feed.specs.declared.way.Way.{Way}
use Rattle.feed.specs.declared.way.Way.TheVariants.{Direct, Exchanged, ByHash}
use Rattle.feed.specs.Feed.{hash_of}
use Rattle.feed.specs.Hashed.{AllReduced}
use Rattle.feed.specs.Nodes.{node_at}
use Rattle.feed.specs.Pending.{node_feed, node_hash, noted_by, noted_of, operands_in, AllNoted}
use Rattle.feed.specs.Ways.{way_of}
use Rattle.feed.proofs.Orders.{facts_at}

---- the nodes of a rule, as they are passed on

pub all_reduced : (ws : List ℕ) (r : Reduced) (ks : List Kind) → ks ≡ take r.count r.kinds → length ks ≡ r.count → RuleReduced ws r → AllReduced ws ks
all_reduced ws r ks e n d =
    record {
      short = d.sound TooLong (omega arith);
      some = omega (arith, d.some);
      few = omega (arith, d.few);
      all = n ∙ d.count;
      each = λ i h.
          let m : i < r.count = omega arith in
          subst (NodeReduced ws i) (sym (ap (λ l. kind_in l i) e ∙ get_or-take r.count r.kinds i no_kind m)) (d.each i m);
    }

-- the root
pub root-hash : (ws : List ℕ) (ks : List Kind) (f : List ℕ → ℕ) → AllReduced ws ks → node_hash f ws (length ks - 1) ≡ hash_of f (tree_of ws)
unfolding node_hash node_feed hash_of tree_of
root-hash ws ks f a = ap (λ n. node_hash f ws (n - 1)) a.all

---- the operands of a node

pub two : (n : Node) → way_of n ≡ ByHash → length n.kids.now ≡ 2
two n e = (facts_at n ByHash e).0

pub nothing_noted : (y : Way) (o : Operands) → (y ≡ ByHash → ⊥) → noted_by y o ≡ None
nothing_noted Direct o n = refl
nothing_noted Exchanged o n = refl
nothing_noted ByHash o n = absurd (n refl)

---- what is noted so far

pub noted_none : (f : List ℕ → ℕ) (ws : List ℕ) (ks : List Kind) → AllNoted f ws ks []
noted_none f ws ks = record { few = omega arith; each = λ i h. absurd (omega arith) }

-- one node more
pub noted_one : (f : List ℕ → ℕ) (ws : List ℕ) (ks : List Kind) (os : List (Option Operands)) (o : Option Operands) → length os < length ks → o ≡ noted_of f ws (node_at ws ks (length os))
    → AllNoted f ws ks os → AllNoted f ws ks (os ++ (o ∷ []))
noted_one f ws ks os o h e n =
    record {
      few = omega (arith, length-append os (o ∷ []));
      each = λ i l.
          ⊎_elim (λ (b : i < length os). get_or_append_left os (o ∷ []) None i b ∙ n.each i b)
          (λ (b : length os ≤ i).
          let q : i ≡ length os = omega (arith, length-append os (o ∷ [])) in
          ap (operands_in (os ++ (o ∷ []))) q ∙ at_end os o ∙ e ∙ ap (λ z. noted_of f ws (node_at ws ks z)) (sym q)) (cases_lt i (length os));
    }
  where
    at_end : (xs : List (Option Operands)) (x : Option Operands) → operands_in (xs ++ (x ∷ [])) (length xs) ≡ x
    at_end xs x =
        let zero_left : length xs - length xs ≡ 0 = omega arith in
        get_or-append_right xs (x ∷ []) (length xs) (length xs) None refl (omega arith) ∙ ap (operands_in (x ∷ [])) zero_left

-- the words and the nodes are those of a rule, and the first m nodes are noted
pub record NotedSoFar (f : List ℕ → ℕ) (ws : List ℕ) (ks : List Kind) (noted : Noted) (m : ℕ) : Type 0 where
  pub words : noted.words.now ≡ ws
  pub kinds : noted.kinds.now ≡ ks
  pub reduced : AllReduced noted.words.now noted.kinds.now
  pub count : length noted.operands.items ≡ m
  pub all : AllNoted f noted.words.now noted.kinds.now noted.operands.items
