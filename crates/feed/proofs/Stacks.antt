-- The stack of a walk: what it holds, and what is pending under it.
use Rattle.std.proofs.Common.{◌≡◌, ℕ, ◌+◌, ◌<◌, ◌≤◌, List, [], ◌∷◌, ◌++◌, length, reverse, Some, None, Option, sym, ap, subst, ◌∙◌, arith, length-append}
use Rattle.std.specs.List.{slice_get}
use Rattle.std.proofs.lemmas.List.{append_assoc, append-nil, reverse-append}
use Rattle.std.proofs.lemmas.List.Sums.{fold-append}
use Rattle.hashing.specs.Words.{fed_all}
use Rattle.rule.specs.declared.nodes.Node.{Node}
use Rattle.sameness.specs.declared.kind.Kind.{Kind}
use Rattle.feed.specs.declared.operands.Operands.{Operands}
use Rattle.feed.specs.declared.walk.Frame.{Frame}
use Rattle.feed.specs.Hashed.{AllReduced}
use Rattle.feed.specs.Nodes.{node_at}
use Rattle.feed.specs.Ways.{walked, head_of}
use Rattle.feed.specs.Pending.{node_feed, left, pending, operands_in, AllNoted}
use Rattle.feed.proofs.Lefts.{left-more, left-none, child-below, few-done}
use Rattle.feed.proofs.Nodes.{node-reduced}
use Rattle.feed.proofs.Orders.{node-feed}

---- feeding one list after another

-- the words at the front of what is pending are fed
fed-on : {S : Type 0} (fed : S → ℕ → S) (s s' goal : S) (head P P' : List ℕ) → P ≡ head ++ P' → s' ≡ fed_all fed s head → fed_all fed s P ≡ goal → fed_all fed s' P' ≡ goal
fed-on fed s s' goal head P P' e h g = ap (λ z. fed_all fed z P') h ∙ sym (fold-append fed s head P') ∙ sym (ap (fed_all fed s) e) ∙ g

---- the frames

-- the numbers of the nodes fall from frame to frame, from top on
abbrev pub Stacked : ℕ → List Frame → Type 0
Stacked top [] = Unit
Stacked top (frame ∷ frames) = (frame.node + length frames ≤ top) × Stacked top frames

-- what is pending leads to the state after all that node top feeds
pub record Walks {S : Type 0} (fed : S → ℕ → S) (begun : S) (f : List ℕ → ℕ) (ws : List ℕ) (ks : List Kind) (top : ℕ) (frames : List Frame) (s : S) : Type 0 where
  pub stacked : Stacked top frames
  pub leads : fed_all fed s (pending f ws ks frames) ≡ fed_all fed begun (node_feed f ws top)

-- all is fed once no frame is left
pub walked-out : {S : Type 0} {fed : S → ℕ → S} {begun : S} {f : List ℕ → ℕ} {ws : List ℕ} {ks : List Kind} {top : ℕ} {s : S} {st : List Frame} → Walks fed begun f ws ks top st s → st ≡ []
    → s ≡ fed_all fed begun (node_feed f ws top)
walked-out {fed = fed} {f = f} {ws = ws} {ks = ks} {s = s} w e = ap (λ frames. fed_all fed s (pending f ws ks frames)) (sym e) ∙ w.leads

---- a walk

head-long : (n : Node) (o : Option Operands) → 4 ≤ length (head_of n o)
unfolding head_of
head-long n o = omega arith

-- the words of node i before its children
abbrev pub head_at : List ℕ → List Kind → List (Option Operands) → ℕ → List ℕ
head_at ws ks os i = head_of (node_at ws ks i) (operands_in os i)

module _ (f : List ℕ → ℕ) {ws : List ℕ} {ks : List Kind} (os : List (Option Operands)) {top : ℕ} (a : AllReduced ws ks) (w : top < length os) (noted : AllNoted f ws ks os) where
  entered : (i : ℕ) → i ≤ top → node_feed f ws i ≡ head_at ws ks os i ++ left f ws (node_at ws ks i) 0
  entered i h =
      let r = node-reduced ws i _ (a.each i (omega arith)) in
      node-feed f ws (node_at ws ks i) i (operands_in os i) r (noted.each i (omega arith))

  module _ {S : Type 0} {fed : S → ℕ → S} {begun : S} where
    -- the first node is entered
    pub walks-one : {s s' : S} {st st' : List Frame} → s ≡ begun → s' ≡ fed_all fed s (head_at ws ks os top) → st ≡ [] → st' ≡ record { node = top; done = 0 } ∷ st → Walks fed begun f ws ks top st' s'
    walks-one {s} {s'} {st} {st'} e h n p =
        let l : st' ≡ record { node = top; done = 0 } ∷ [] = p ∙ ap (λ frames. record { node = top; done = 0 } ∷ frames) n in
        record {
          stacked = subst (Stacked top) (sym l) (omega arith, tt);
          leads = ap (λ frames. fed_all fed s' (pending f ws ks frames)) l
              ∙ fed-on fed s s' _ (head_at ws ks os top) (node_feed f ws top) _ (entered top (omega arith) ∙ ap (λ ls. head_at ws ks os top ++ ls) (sym (append-nil _))) h (ap (λ z. fed_all fed z (node_feed f ws top)) e);
        }

    -- the last frame is looked at
    module _ {s : S} {st rest : List Frame} {frame : Frame} (wk : Walks fed begun f ws ks top st s) (p : st ≡ frame ∷ rest) where
      last-stacked : Stacked top (frame ∷ rest)
      last-stacked = subst (Stacked top) p wk.stacked

      last-leads : fed_all fed s (pending f ws ks (frame ∷ rest)) ≡ fed_all fed begun (node_feed f ws top)
      last-leads = ap (λ frames. fed_all fed s (pending f ws ks frames)) (sym p) ∙ wk.leads

      -- none of its node's children is left
      pub walks-less : None ≡ slice_get (walked (node_at ws ks frame.node)) frame.done → Walks fed begun f ws ks top rest s
      walks-less e =
          record {
            stacked = last-stacked.1;
            leads = ap (λ ls. fed_all fed s (ls ++ pending f ws ks rest)) (sym (left-none f ws (node_at ws ks frame.node) frame.done (sym e))) ∙ last-leads;
          }

      -- the child x is next
      module _ {x : ℕ} (e : Some x ≡ slice_get (walked (node_at ws ks frame.node)) frame.done) where
        in_rule : frame.node < length ks
        in_rule = omega (arith, last-stacked.0)

        child-less : x < frame.node
        child-less = child-below ws frame.node _ (node-reduced ws frame.node _ (a.each frame.node in_rule)) frame.done x (sym e)

        pub child-deep : x + 1 + length rest ≤ top
        child-deep = omega (arith, child-less, last-stacked.0)

        pub child-done : frame.done < 8192
        child-done = let r = node-reduced ws frame.node _ (a.each frame.node in_rule) in omega (arith, few-done ws frame.node _ r frame.done x (sym e), r.within, a.short)

        -- the frames then
        abbrev pub deeper : List Frame
        deeper = record { node = x; done = 0 } ∷ (record { node = frame.node; done = frame.done + 1 } ∷ rest)

        child-first : pending f ws ks (frame ∷ rest) ≡ head_at ws ks os x ++ pending f ws ks deeper
        child-first =
            let k = node_at ws ks frame.node in
            ap (λ ls. ls ++ pending f ws ks rest) (left-more f ws k frame.done x (sym e) ∙ ap (λ ls. ls ++ left f ws k (frame.done + 1)) (entered x (omega (arith, child-less, last-stacked.0))))
            ∙ simp append_assoc

        pub walks-more : {s' : S} {st' : List Frame} → s' ≡ fed_all fed s (head_at ws ks os x) → st' ≡ deeper → Walks fed begun f ws ks top st' s'
        walks-more {s'} {st'} h l =
            record {
              stacked = subst (Stacked top) (sym l) (omega (arith, child-deep), last-stacked);
              leads = ap (λ frames. fed_all fed s' (pending f ws ks frames)) l ∙ fed-on fed s s' _ (head_at ws ks os x) _ (pending f ws ks deeper) child-first h last-leads;
            }

        pub shorter : {st' : List Frame} → st' ≡ deeper → length (pending f ws ks st') + length st' < length (pending f ws ks st) + length st
        shorter {st'} l =
            let P = pending f ws ks deeper in
            let m : length (pending f ws ks (frame ∷ rest)) ≡ length (head_at ws ks os x) + length P = ap length child-first ∙ length-append (head_at ws ks os x) P in
            rw (l, p) (omega (arith, m, head-long (node_at ws ks x) (operands_in os x)))

---- the frames, the last one first, where some are pushed

pub pushed : {A : Type 0} {x : A} (xs ys : List A) → xs ≡ ys ++ (x ∷ []) → reverse xs ≡ x ∷ reverse ys
pushed {x = x} xs ys e = ap reverse e ∙ reverse-append ys (x ∷ [])

pub pushed_two : {A : Type 0} {x y : A} (xs ys zs : List A) → xs ≡ ys ++ (x ∷ []) → ys ≡ zs ++ (y ∷ []) → reverse xs ≡ x ∷ (y ∷ reverse zs)
pushed_two {x = x} xs ys zs e h = pushed xs ys e ∙ ap (λ fs. x ∷ fs) (pushed ys zs h)
