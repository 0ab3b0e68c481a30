-- Where the places of a pair are, and the table with a pair recorded.
use Rattle.std.proofs.Common.{◌≡◌, ℕ, ◌+◌, ◌<◌, ◌≤◌, Bool, true, ◌&&◌, eqb, ltb, ◌≢◌, List, length, get_or, set, refl, ap, ◌∙◌, arith}
use Rattle.std.proofs.lemmas.List.{get_or-set_other, length-set}
use Rattle.std.proofs.lemmas.Bool.{and_parts, and_from, ltb-true, lt-ltb, cond-true, cond_both}
use Rattle.trial.specs.Table.{vacant, placed, paired, unpaired, recorded}

-- the places of a pair, where the table has them
pub placed-within : (t : List ℕ) (l r : ℕ) → placed t l r ≡ true → (l < 1024) × (r < 1024) × (1024 + r < length t)
unfolding placed
placed-within t l r h =
    let a = and_parts (ltb l 1024) (ltb r 1024 && ltb (1024 + r) (length t)) h in
    let b = and_parts (ltb r 1024) (ltb (1024 + r) (length t)) a.1 in
    (ltb-true l 1024 a.0, ltb-true r 1024 b.0, ltb-true (1024 + r) (length t) b.1)

pub placed-in : (t : List ℕ) (l r : ℕ) → l < 1024 → r < 1024 → 2048 ≤ length t → placed t l r ≡ true
unfolding placed
placed-in t l r hl hr ht =
    and_from (ltb l 1024) (ltb r 1024 && ltb (1024 + r) (length t)) (lt-ltb l 1024 hl)
    (and_from (ltb r 1024) (ltb (1024 + r) (length t)) (lt-ltb r 1024 hr) (lt-ltb (1024 + r) (length t) (omega arith)))

-- what the tests and the recording come to in a table of full length
pub paired-in :
    (t : List ℕ) (l r : ℕ) → l < 1024 → r < 1024 → 2048 ≤ length t → paired t l r ≡ (eqb (get_or t l 0) r && eqb (get_or t (1024 + r) 0) l)
unfolding paired
paired-in t l r hl hr ht = ap (λ (b : Bool). b && (eqb (get_or t l 0) r && eqb (get_or t (1024 + r) 0) l)) (placed-in t l r hl hr ht)

pub unpaired-in :
    (t : List ℕ) (l r : ℕ) → l < 1024 → r < 1024 → 2048 ≤ length t → unpaired t l r ≡ (vacant t l && vacant t (1024 + r))
unfolding unpaired
unpaired-in t l r hl hr ht = ap (λ (b : Bool). b && (vacant t l && vacant t (1024 + r))) (placed-in t l r hl hr ht)

pub recorded-in : (t : List ℕ) (l r : ℕ) → l < 1024 → r < 1024 → 2048 ≤ length t → recorded t l r ≡ set (set t l r) (1024 + r) l
unfolding recorded
recorded-in t l r hl hr ht = cond-true (placed t l r) (set (set t l r) (1024 + r) l) t (placed-in t l r hl hr ht)

-- what the tests tell
pub unpaired-parts : (t : List ℕ) (l r : ℕ) → unpaired t l r ≡ true → (vacant t l ≡ true) × (vacant t (1024 + r) ≡ true)
unfolding unpaired
unpaired-parts t l r h =
    let a = and_parts (placed t l r) (vacant t l && vacant t (1024 + r)) h in
    and_parts (vacant t l) (vacant t (1024 + r)) a.1

-- what stands where in the table with a pair recorded
pub recorded-length : (t : List ℕ) (l r : ℕ) → length (recorded t l r) ≡ length t
unfolding recorded
recorded-length t l r =
    cond_both (placed t l r) (set (set t l r) (1024 + r) l) t (λ s. length s ≡ length t)
    (λ h. length-set (set t l r) (1024 + r) l ∙ length-set t l r) (λ h. refl)

-- a pair leaves every other place as it is
pub set-pair-other : (t : List ℕ) (l r k : ℕ) → k ≢ l → k ≢ 1024 + r → get_or (set (set t l r) (1024 + r) l) k 0 ≡ get_or t k 0
set-pair-other t l r k nl nr = get_or-set_other (set t l r) (1024 + r) k l 0 nr ∙ get_or-set_other t l k r 0 nl

pub recorded-other : (t : List ℕ) (l r k : ℕ) → k ≢ l → k ≢ 1024 + r → get_or (recorded t l r) k 0 ≡ get_or t k 0
unfolding recorded
recorded-other t l r k nl nr =
    cond_both (placed t l r) (set (set t l r) (1024 + r) l) t (λ s. get_or s k 0 ≡ get_or t k 0) (λ h. set-pair-other t l r k nl nr) (λ h. refl)
