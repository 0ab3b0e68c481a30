-- A run of words as nodes. A node is: code, v, w, n, then n child numbers; nodes are numbered from 0 in run order.
use Rattle.std.specs.Prelude.{◌≡◌, ℕ, zero, suc, ◌+◌, cond, List, [], ◌∷◌, ◌==◌, slice_index, refl}

-- how many words of its last node a run lacks, where k words of the node at hand are still to come
unfoldable pub lacks : ℕ → List ℕ → ℕ
lacks k [] = k
lacks zero (c ∷ ws) = lacks (3 + slice_index ws 2) ws
lacks (suc k) (x ∷ ws) = lacks k ws

-- where nodes begin, in a run that goes on at the place p, k words of the node at hand still to come
unfoldable pub starts : ℕ → ℕ → List ℕ → List ℕ
starts p k [] = []
starts p zero (c ∷ ws) = p ∷ starts (suc p) (3 + slice_index ws 2) ws
starts p (suc k) (x ∷ ws) = starts (suc p) k ws

-- the place of each node's first word
unfoldable pub offsets : List ℕ → List ℕ
offsets ws = starts 0 0 ws

-- of the node that begins at o: its words, the number of its children, and its child q
abbrev pub code_at : List ℕ → ℕ → ℕ
code_at ws o = slice_index ws o

abbrev pub v_at : List ℕ → ℕ → ℕ
v_at ws o = slice_index ws (o + 1)

abbrev pub w_at : List ℕ → ℕ → ℕ
w_at ws o = slice_index ws (o + 2)

abbrev pub kids_at : List ℕ → ℕ → ℕ
kids_at ws o = slice_index ws (o + 3)

abbrev pub kid_at : List ℕ → ℕ → ℕ → ℕ
kid_at ws o q = slice_index ws (o + 4 + q)

-- how often x stands among the n words from the place p on
unfoldable pub standing : ℕ → List ℕ → ℕ → ℕ → ℕ
standing x ws p zero = 0
standing x ws p (suc n) = cond (slice_index ws p == x) 1 0 + standing x ws (p + 1) n

-- how often node x is a child of the nodes that begin at these places
unfoldable pub child_of : ℕ → List ℕ → List ℕ → ℕ
child_of x ws [] = 0
child_of x ws (o ∷ os) = standing x ws (o + 4) (kids_at ws o) + child_of x ws os

---- the run of the expression 1, and what is left of it

one : List ℕ
one = 100 ∷ 1 ∷ 0 ∷ 0 ∷ 25 ∷ 0 ∷ 0 ∷ 1 ∷ 0 ∷ []

two-nodes : offsets one ≡ 0 ∷ 4 ∷ []
unfolding one offsets starts
two-nodes = refl

whole : ◌≡◌ {A = ℕ} (lacks 0 one) 0
unfolding one lacks
whole = refl

cut_short : ◌≡◌ {A = ℕ} (lacks 0 (100 ∷ 1 ∷ 0 ∷ 0 ∷ 25 ∷ 0 ∷ 0 ∷ 1 ∷ [])) 1
unfolding lacks
cut_short = refl
