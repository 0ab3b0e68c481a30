-- The places of the nodes, found one node after the other.
use Rattle.std.proofs.Common.{◌≡◌, ℕ, zero, suc, ◌+◌, ◌-◌, ◌*◌, ◌<◌, ◌≤◌, List, [], ◌∷◌, ◌++◌, length, get_or, take, drop, min, sym, refl, ap, ◌∙◌, subst, ⊎_elim, arith, length-drop, length-append}
use Rattle.std.proofs.lemmas.List.{take_all, drop_more, get_or-drop, append_assoc, append-nil}
use Rattle.std.proofs.lemmas.Bool.{cases_lt}
use Rattle.rule.specs.Intake.{Whole, Read, nodes, offset}
use Rattle.rule.specs.Run.{lacks, starts, offsets, kids_at}

-- the first n of a list, where there are so many
pub take_within : {A : Type 0} (xs : List A) (n m : ℕ) → m ≡ min n (length xs) → take m xs ≡ take n xs
take_within xs n m e =
    ⊎_elim (λ (h : n < length xs). let f : m ≡ n = omega arith in ap (λ k. take k xs) f)
    (λ (h : length xs ≤ n). take_all m xs (omega arith) ∙ sym (take_all n xs h)) (cases_lt n (length xs))

-- the rest of a node passed over
starts-skip : (p k : ℕ) (xs : List ℕ) → k ≤ length xs → starts p k xs ≡ starts (p + k) 0 (drop k xs)
unfolding starts
starts-skip p zero xs h = let e : p ≡ p + 0 = omega arith in ap (λ n. starts n 0 xs) e
starts-skip p (suc k) [] h = absurd (omega arith)
starts-skip p (suc k) (x ∷ xs) h =
    let l : k ≤ length xs = omega arith in
    let e : suc p + k ≡ p + suc k = omega arith in
    starts-skip (suc p) k xs l ∙ ap (λ n. starts n 0 (drop k xs)) e

lacks-skip : (k : ℕ) (xs : List ℕ) → k ≤ length xs → lacks k xs ≡ lacks 0 (drop k xs)
unfolding lacks
lacks-skip zero xs h = refl
lacks-skip (suc k) [] h = absurd (omega arith)
lacks-skip (suc k) (x ∷ xs) h = let l : k ≤ length xs = omega arith in lacks-skip k xs l

pub lacks-short : (k : ℕ) (xs : List ℕ) → length xs < k → 0 < lacks k xs
unfolding lacks
lacks-short zero [] h = absurd (omega arith)
lacks-short (suc k) [] h = omega arith
lacks-short zero (x ∷ xs) h = absurd (omega arith)
lacks-short (suc k) (x ∷ xs) h = let l : length xs < k = omega arith in lacks-short k xs l

-- the node that begins a run, and what is behind it
module _ (c : ℕ) (xs : List ℕ) where
  behind : drop (4 + get_or xs 2 0) (c ∷ xs) ≡ drop (3 + get_or xs 2 0) xs
  behind = let e : 4 + get_or xs 2 0 ≡ suc (3 + get_or xs 2 0) = omega arith in ap (λ n. drop n (c ∷ xs)) e

  starts-node : (p : ℕ) → 3 + get_or xs 2 0 ≤ length xs → starts p 0 (c ∷ xs) ≡ p ∷ starts (p + (4 + get_or xs 2 0)) 0 (drop (4 + get_or xs 2 0) (c ∷ xs))
  unfolding starts
  starts-node p h =
      let e : suc p + (3 + get_or xs 2 0) ≡ p + (4 + get_or xs 2 0) = omega arith in
      ap (λ (l : List ℕ). p ∷ l) (starts-skip (suc p) (3 + get_or xs 2 0) xs h ∙ ap (λ n. starts n 0 (drop (3 + get_or xs 2 0) xs)) e ∙ ap (starts (p + (4 + get_or xs 2 0)) 0) (sym behind))

  lacks-node : 3 + get_or xs 2 0 ≤ length xs → lacks 0 (c ∷ xs) ≡ lacks 0 (drop (4 + get_or xs 2 0) (c ∷ xs))
  unfolding lacks
  lacks-node h = lacks-skip (3 + get_or xs 2 0) xs h ∙ ap (lacks 0) (sym behind)

  -- the node does not end within the run
  lacks-some : length xs < 3 + get_or xs 2 0 → 0 < lacks 0 (c ∷ xs)
  unfolding lacks
  lacks-some h = lacks-short (3 + get_or xs 2 0) xs h

-- the places found so far, before those of the rest
pub record Found (ws os rest : List ℕ) : Type 0 where
  pub places : offsets ws ≡ os ++ starts (length ws - length rest) 0 rest
  pub ended : lacks 0 ws ≡ lacks 0 rest
  pub few : 4 * length os + length rest ≤ length ws

pub found_none : (ws : List ℕ) → Found ws [] ws
unfolding offsets
found_none ws =
    let e : length ws - length ws ≡ 0 = omega arith in
    record { places = ap (λ p. starts p 0 ws) (sym e); ended = refl; few = omega arith }

pub found-more : (ws os rest : List ℕ) → 0 < length rest → 4 + get_or rest 3 0 ≤ length rest → Found ws os rest → Found ws (os ++ ((length ws - length rest) ∷ [])) (drop (4 + get_or rest 3 0) rest)
found-more ws os [] l m f = absurd (omega arith)
found-more ws os (c ∷ xs) l m f =
    let p = length ws - length (c ∷ xs) in
    let left = drop (4 + get_or xs 2 0) (c ∷ xs) in
    let n : length left ≡ length (c ∷ xs) - (4 + get_or xs 2 0) = length-drop (4 + get_or xs 2 0) (c ∷ xs) in
    let e : p + (4 + get_or xs 2 0) ≡ length ws - length left = omega (arith, f.few) in
    record {
      places = f.places ∙ ap (λ (z : List ℕ). os ++ z) (starts-node c xs p (omega arith) ∙ ap (λ (z : List ℕ). p ∷ z) (ap (λ q. starts q 0 left) e)) ∙ sym (append_assoc os (p ∷ []) (starts (length ws - length left) 0 left));
      ended = f.ended ∙ lacks-node c xs (omega arith);
      few = omega (arith, f.few, length-append os (p ∷ []));
    }

pub found_all : (ws os rest : List ℕ) → length rest ≡ 0 → Found ws os rest → (os ≡ offsets ws) × (lacks 0 ws ≡ 0)
unfolding starts lacks
found_all ws os [] h f = (sym (f.places ∙ append-nil os), f.ended)
found_all ws os (x ∷ rest) h f = absurd (omega arith)

pub found-cut : (ws os rest : List ℕ) → 0 < length rest → length rest < 4 + get_or rest 3 0 → Found ws os rest → lacks 0 ws ≡ 0 → ⊥
found-cut ws os [] h l f e = absurd (omega arith)
found-cut ws os (c ∷ xs) h l f e = let k = lacks-some c xs (omega arith) in omega (arith, f.ended)

---- each node of a whole run lies within it

drop-tail : (ws xs : List ℕ) (p x : ℕ) → drop p ws ≡ x ∷ xs → (p < length ws) × (drop (suc p) ws ≡ xs)
drop-tail ws xs p x e =
    let n : length (drop p ws) ≡ suc (length xs) = ap length e in
    let m : length (drop p ws) ≡ length ws - p = length-drop p ws in
    let h : p < length ws = omega arith in
    let a : drop p ws ≡ get_or ws p 0 ∷ drop (p + 1) ws = drop_more ws p 0 h in
    let b : drop (p + 1) ws ≡ xs = cc in
    let q : suc p ≡ p + 1 = omega arith in
    (h, ap (λ n. drop n ws) q ∙ b)

lacks-enough : (k : ℕ) (xs : List ℕ) → lacks k xs ≡ 0 → k ≤ length xs
lacks-enough k xs e = ⊎_elim (λ (h : length xs < k). absurd (let l = lacks-short k xs h in omega arith)) (λ (h : k ≤ length xs). h) (cases_lt (length xs) k)

starts_fit : (ws xs : List ℕ) (p k i : ℕ) → drop p ws ≡ xs → lacks k xs ≡ 0 → i < length (starts p k xs) → get_or (starts p k xs) i 0 + 4 + kids_at ws (get_or (starts p k xs) i 0) ≤ length ws
unfolding starts lacks
starts_fit ws [] p k i e l h = absurd (omega arith)
starts_fit ws (x ∷ xs) p zero zero e l h =
    let t = drop-tail ws xs p x e in
    let b : 3 + get_or xs 2 0 ≤ length xs = lacks-enough (3 + get_or xs 2 0) xs l in
    let s : suc p ≡ p + 1 = omega arith in
    let d : drop (p + 1) ws ≡ xs = ap (λ n. drop n ws) (sym s) ∙ t.1 in
    let f : p + 1 + 2 ≡ p + 3 = omega arith in
    let g : get_or xs 2 0 ≡ kids_at ws p = ap (λ (z : List ℕ). get_or z 2 0) (sym d) ∙ get_or-drop (p + 1) ws 2 0 ∙ ap (λ n. get_or ws n 0) f in
    let n : length xs ≡ length ws - (p + 1) = ap length (sym d) ∙ length-drop (p + 1) ws in
    omega arith
starts_fit ws (x ∷ xs) p zero (suc i) e l h =
    let t = drop-tail ws xs p x e in
    let b : i < length (starts (suc p) (3 + get_or xs 2 0) xs) = omega arith in
    starts_fit ws xs (suc p) (3 + get_or xs 2 0) i t.1 l b
starts_fit ws (x ∷ xs) p (suc k) i e l h = let t = drop-tail ws xs p x e in starts_fit ws xs (suc p) k i t.1 l h

pub node-fits : (ws : List ℕ) (i : ℕ) → Whole ws → i < nodes ws → offset ws i + 4 + kids_at ws (offset ws i) ≤ length ws
unfolding offsets
node-fits ws i w h = starts_fit ws ws 0 0 i refl w.ended h

---- a run that is not empty has a node

pub node-some : (ws : List ℕ) → Whole ws → 0 < nodes ws
unfolding offsets starts
node-some [] w = absurd (let s = w.some in omega arith)
node-some (x ∷ ws) w = omega arith

---- the places as a program holds them

module _ (ws os : List ℕ) (r : Read ws os) where
  pub read-nodes : length os ≡ nodes ws
  read-nodes = ap length r.places

  pub read-offset : (i : ℕ) → get_or os i 0 ≡ offset ws i
  read-offset i = ap (λ (z : List ℕ). get_or z i 0) r.places

  pub read_fits : (i : ℕ) → i < length os → get_or os i 0 + 4 + kids_at ws (get_or os i 0) ≤ length ws
  read_fits i h =
      let l : i < nodes ws = subst (λ n. i < n) read-nodes h in
      subst (λ o. o + 4 + kids_at ws o ≤ length ws) (sym (read-offset i)) (node-fits ws i r.whole l)
