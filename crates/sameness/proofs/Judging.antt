-- What the walk of two whole rules says of them.
use Rattle.std.proofs.Common.{◌≡◌, ℕ, ◌+◌, ◌-◌, ◌<◌, ◌≤◌, Bool, true, false, List, ◌++◌, length, get_or, drop, sym, ap, ◌∙◌, subst, arith, length-append, length-drop}
use Rattle.std.proofs.lemmas.List.{get_or_append_left, get_or-append_right, get_or-drop}
use Rattle.trial.specs.Table.{Cleared}
use Rattle.rule.specs.declared.fault.Fault.TheVariants.{BadScope}
use Rattle.rule.specs.Trees.{Tree, tree_at, tree_of}
use Rattle.rule.specs.Scopes.{SoundScopes}
use Rattle.rule.specs.Intake.{Read}
use Rattle.rule.proofs.Laid.{read-nodes, node-some}
use Rattle.sameness.specs.Reduction.{reduce}
use Rattle.sameness.specs.Deciding.{blank, decide}
use Rattle.sameness.specs.Walking.{Low, Pictured, NodesWalked, Walked}
use Rattle.sameness.specs.Comparing.{Sound, Renamed, Parted, Judged, SameTail}
use Rattle.sameness.proofs.Shown.{shows-blank}
use Rattle.sameness.proofs.Theorems.{decided, table-renames}

pub last-in : (ws os : List ℕ) → Read ws os → 0 < length os
last-in ws os d = omega (arith, read-nodes ws os d, node-some ws d.whole)

-- the root is the last node
last-tree : (ws os : List ℕ) → Read ws os → (i : ℕ) → i + 1 ≡ length os → tree_at ws i ≡ tree_of ws
unfolding tree_of
last-tree ws os d i e = let m : i ≡ length os - 1 = omega arith in ap (tree_at ws) m ∙ ap (λ n. tree_at ws (n - 1)) (read-nodes ws os d)

scopes : (ws : List ℕ) → Sound ws → SoundScopes (tree_of ws)
scopes ws s = s BadScope (omega arith)

pub last-low : (ws os : List ℕ) → Read ws os → Sound ws → (i : ℕ) → i + 1 ≡ length os → Low (tree_at ws i)
last-low ws os d s i e = subst Low (sym (last-tree ws os d i e)) (scopes ws s).low

pub pictured-blank : (t s : List ℕ) → length t ≡ 2048 → Cleared t s → Pictured blank s
pictured-blank t s e c = record { shows = shows-blank s (λ i h. c.vacated i h (omega arith)); low = tt }

module _ (wa oa wb ob : List ℕ) (d : Read wa oa) (e : Read wb ob) (s : Sound wa) (r : Sound wb)
    (i j : ℕ) (x : i + 1 ≡ length oa) (y : j + 1 ≡ length ob) where
  of-rules : (t t' : List ℕ) (b : Bool) → NodesWalked wa i wb j t t' b → Walked (λ P. decide (reduce (tree_of wa)) (reduce (tree_of wb)) P) t t' b
  of-rules t t' b w =
      subst (λ z. Walked (λ P. decide (reduce z) (reduce (tree_of wb)) P) t t' b) (last-tree wa oa d i x)
      (subst (λ z. Walked (λ P. decide (reduce (tree_at wa i)) (reduce z) P) t t' b) (last-tree wb ob e j y) w)

  pub judged-same : (t t' : List ℕ) → Pictured blank t → NodesWalked wa i wb j t t' true → Renamed (tree_of wa) (tree_of wb) t'
  judged-same t t' p w =
      let a = (of-rules t t' true w).answers blank p in
      record {
        same = (decided (tree_of wa) (tree_of wb) (scopes wa s) (scopes wb r)).0 (a.0, a.1);
        table = a.0;
        found = a.1;
        agree = table-renames (tree_of wa) (tree_of wb) a.0 (scopes wa s) (scopes wb r) a.1;
        shows = a.2.shows;
      }

  pub judged-differ : (t t' u : List ℕ) → Pictured blank t → length t' ≡ 2048 → Cleared t' u → NodesWalked wa i wb j t t' false → Parted (tree_of wa) (tree_of wb) u
  judged-differ t t' u p l c w =
      record {
        differ = λ g.
            let k = (decided (tree_of wa) (tree_of wb) (scopes wa s) (scopes wb r)).1 g in
            let a = (of-rules t t' false w).answers blank p in
            let z : ◌≡◌ {A = ℕ} 0 1 = (let m = k.1 in cc) in
            omega arith;
        none = λ k h. c.vacated k h (omega arith);
      }

---- the first 2,048 words of a longer table

module _ (t u : Tree) (s rest : List ℕ) (l : length s ≡ 2048) where
  front : (k : ℕ) → k < 2048 → get_or (s ++ rest) k 0 ≡ get_or s k 0
  front k h = get_or_append_left s rest 0 k (omega arith)

  pub judged-front : (b : Bool) → Judged b t u s → Judged b t u (s ++ rest)
  judged-front true j =
      record {
        same = j.same;
        table = j.table;
        found = j.found;
        agree = j.agree;
        shows = record { front = λ x h. front x (omega arith) ∙ j.shows.front x h; back = λ y h. front (1024 + y) (omega arith) ∙ j.shows.back y h };
      }
  judged-front false j = record { differ = j.differ; none = λ k h. front k h ∙ j.none k h }

pub front-long : (s ps : List ℕ) → 2048 ≤ length ps → length (s ++ drop 2048 ps) ≡ length ps → length s ≡ 2048
front-long s ps h e = let d : length (drop 2048 ps) ≡ length ps - 2048 = length-drop 2048 ps in omega (arith, sym (length-append s (drop 2048 ps)) ∙ e)

pub tail-kept : (s ps : List ℕ) → length s ≡ 2048 → 2048 ≤ length ps → SameTail ps (s ++ drop 2048 ps)
tail-kept s ps l h = (
  length-append s (drop 2048 ps) ∙ (let e : length (drop 2048 ps) ≡ length ps - 2048 = length-drop 2048 ps in omega arith),
  λ k m.
      let e : 2048 + (k - 2048) ≡ k = omega arith in
      get_or-append_right s (drop 2048 ps) 2048 k 0 l m ∙ get_or-drop 2048 ps (k - 2048) 0 ∙ ap (λ n. get_or ps n 0) e,
)
