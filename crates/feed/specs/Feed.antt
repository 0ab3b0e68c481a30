-- The words that a rule feeds to a hasher. A hasher is a number for each sequence of words: f ws is what it ends with
-- once ws are fed to it, from a fresh start.
use Rattle.std.specs.Prelude.{◌≡◌, ℕ, min, max, cond, ◌||◌, List, [], ◌∷◌, ◌++◌, length, ◌==◌, refl}
use Rattle.std.specs.List.{concat}
use Rattle.rule.specs.Trees.{Tree, Forest, node, nil, cons}
use Rattle.sameness.specs.Reduction.{reduce}
use Rattle.sameness.specs.Sameness.{bare_v, bare_w}
use Rattle.sameness.specs.TrialRules.{integer, local, binary, less, greater}

---- comparisons

-- how the children of a node are fed: as they stand, exchanged, or by their own hashes
pub data Order : Type 0 where
  ordered exchanged unordered : Order

-- of a binary expression (14), Eq (12) and Ne (15) have no order, and Lt (13) and Le (14) are exchanged
unfoldable pub order : ℕ → ℕ → Order
order c v = cond (c == 14) (cond (v == 12 || v == 15) unordered (cond (v == 13 || v == 14) exchanged ordered)) ordered

-- Lt is fed as Gt (17), and Le as Ge (16)
unfoldable pub fed_v : ℕ → ℕ → ℕ
fed_v c v = cond (c == 14) (cond (v == 13) 17 (cond (v == 14) 16 v)) v

---- the children of a node, by what each of them feeds

-- one after the other
unfoldable pub joined : List (List ℕ) → List ℕ
joined ls = concat ls

-- two are exchanged; a comparison has no other number
unfoldable pub turned : List (List ℕ) → List (List ℕ)
turned [] = []
turned (a ∷ []) = a ∷ []
turned (a ∷ (b ∷ [])) = b ∷ (a ∷ [])
turned (a ∷ (b ∷ (c ∷ ls))) = a ∷ (b ∷ (c ∷ ls))

-- the smaller of two hashes and the larger, each from a fresh hasher
unfoldable pub hashes : (List ℕ → ℕ) → List (List ℕ) → List ℕ
hashes f [] = []
hashes f (a ∷ []) = joined (a ∷ [])
hashes f (a ∷ (b ∷ [])) = min (f a) (f b) ∷ (max (f a) (f b) ∷ [])
hashes f (a ∷ (b ∷ (c ∷ ls))) = joined (a ∷ (b ∷ (c ∷ ls)))

unfoldable pub in_order : (List ℕ → ℕ) → Order → List (List ℕ) → List ℕ
in_order f ordered ls = joined ls
in_order f exchanged ls = joined (turned ls)
in_order f unordered ls = hashes f ls

---- the feed

-- a node: the code, v, w, how many children it has, and then the children; v and w are the words that are compared
unfoldable pub arranged : (List ℕ → ℕ) → ℕ → ℕ → ℕ → List (List ℕ) → List ℕ
arranged f c v w ls = c ∷ (fed_v c v ∷ (w ∷ (length ls ∷ in_order f (order c v) ls)))

unfoldable mutual
  pub feed : (List ℕ → ℕ) → Tree → List ℕ
  feed f (node c v w ts) = arranged f c (bare_v c v) (bare_w c v w) (feeds f ts)

  -- what each tree feeds
  pub feeds : (List ℕ → ℕ) → Forest → List (List ℕ)
  feeds f nil = []
  feeds f (cons t ts) = feed f t ∷ feeds f ts

-- the hash of a rule: a rule is reduced first
unfoldable pub hash_of : (List ℕ → ℕ) → Tree → ℕ
hash_of f t = f (feed f (reduce t))

---- examples

-- the words of the expression n
abbrev words_of : ℕ → List ℕ
words_of n = 25 ∷ (0 ∷ (0 ∷ (1 ∷ (100 ∷ (n ∷ (0 ∷ (0 ∷ [])))))))

-- 1
literal-example : (f : List ℕ → ℕ) → feed f (integer 1) ≡ words_of 1
unfolding feed feeds arranged order fed_v joined in_order bare_v bare_w
literal-example f = refl

-- 1 < 2 feeds 2 first, as 2 > 1 does
less-example : (f : List ℕ → ℕ) → feed f (less (integer 1) (integer 2)) ≡ 14 ∷ (17 ∷ (0 ∷ (2 ∷ (words_of 2 ++ words_of 1))))
unfolding feed feeds arranged order fed_v joined turned in_order bare_v bare_w
less-example f = refl

greater-example : (f : List ℕ → ℕ) → feed f (greater (integer 2) (integer 1)) ≡ 14 ∷ (17 ∷ (0 ∷ (2 ∷ (words_of 2 ++ words_of 1))))
unfolding feed feeds arranged order fed_v joined in_order bare_v bare_w
greater-example f = refl

-- 1 == 2 feeds two hashes
equal-example : (f : List ℕ → ℕ) → feed f (binary 12 (integer 1) (integer 2))
    ≡ 14 ∷ (12 ∷ (0 ∷ (2 ∷ (min (f (words_of 1)) (f (words_of 2)) ∷ (max (f (words_of 1)) (f (words_of 2)) ∷ [])))))
unfolding feed feeds arranged order fed_v joined hashes in_order bare_v bare_w
equal-example f = refl

-- a use of a local feeds no number of it: #x is a path (29) to a local (70) with a part left out (0)
abbrev local_words : List ℕ
local_words = 29 ∷ (0 ∷ (0 ∷ (1 ∷ (70 ∷ (0 ∷ (0 ∷ (1 ∷ (0 ∷ (0 ∷ (0 ∷ (0 ∷ [])))))))))))

-- #1 < #2 and #2 > #1
reversed-example : (f : List ℕ → ℕ) → feed f (less (local 1) (local 2)) ≡ 14 ∷ (17 ∷ (0 ∷ (2 ∷ (local_words ++ local_words))))
unfolding feed feeds arranged order fed_v joined turned in_order bare_v bare_w
reversed-example f = refl

reverse-example : (f : List ℕ → ℕ) → feed f (greater (local 2) (local 1)) ≡ feed f (less (local 1) (local 2))
unfolding feed feeds arranged order fed_v joined turned in_order bare_v bare_w
reverse-example f = refl
