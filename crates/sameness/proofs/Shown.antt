-- A table in memory: how it begins, what a new pair changes, and what it says of two locals.
use Rattle.std.proofs.Common.{◌≡◌, ℕ, ◌+◌, ◌<◌, ◌≤◌, Bool, true, false, cond, ◌&&◌, eqb, List, length, get_or, set, sym, refl, ap, ◌∙◌, ⊎_elim, arith, length-set}
use Rattle.std.proofs.lemmas.List.{get_or-set_same, get_or-set_other}
use Rattle.std.proofs.lemmas.Bool.{cases_eq, eq-eqb, ne_eqb, and_right}
use Rattle.sameness.specs.Walking.{LowTable}
use Rattle.sameness.specs.Deciding.{Table, blank, add, Found, absent, found, ahead, behind, joined, matched, is_free, fresh, entry, Shows}

---- the blank table, and one more pair

pub shows-blank : (t : List ℕ) → ((i : ℕ) → i < 2048 → get_or t i 0 ≡ 4294967295) → Shows blank t
unfolding ahead behind
shows-blank t h = record { front = λ x l. h x (omega arith); back = λ y l. h (1024 + y) (omega arith) }

pub shows-add : (P : Table) (t t' : List ℕ) (x y : ℕ) → x < 1024 → y < 1024 → get_or t' x 0 ≡ y → get_or t' (1024 + y) 0 ≡ x
    → ((i : ℕ) → (i ≡ x → ⊥) → (i ≡ 1024 + y → ⊥) → get_or t' i 0 ≡ get_or t i 0) → Shows P t → Shows (add x y P) t'
unfolding ahead behind
shows-add P t t' x y lx ly ex ey h s =
    record {
      front = λ z l.
          ⊎_elim (λ e. ap (λ i. get_or t' i 0) e ∙ (ex ∙ sym (ap (λ b. entry (cond b (found y) (ahead P z))) (eq-eqb x z (sym e)))))
          (λ n. h z n (λ e. omega arith) ∙ (s.front z l ∙ sym (ap (λ b. entry (cond b (found y) (ahead P z))) (ne_eqb x z (λ e. n (sym e)))))) (cases_eq z x);
      back = λ z l.
          ⊎_elim (λ e. ap (λ i. get_or t' (1024 + i) 0) e ∙ (ey ∙ sym (ap (λ b. entry (cond b (found x) (behind P z))) (eq-eqb y z (sym e)))))
          (λ n. h (1024 + z) (λ e. omega arith) (λ e. n (omega arith)) ∙ (s.back z l ∙ sym (ap (λ b. entry (cond b (found x) (behind P z))) (ne_eqb y z (λ e. n (sym e)))))) (cases_eq z y);
    }

-- by two writes
pub shows-set : (P : Table) (t : List ℕ) (x y : ℕ) → 2048 ≤ length t → x < 1024 → y < 1024 → Shows P t → Shows (add x y P) (set (set t x y) (1024 + y) x)
shows-set P t x y k lx ly s =
    shows-add P t (set (set t x y) (1024 + y) x) x y lx ly
    (get_or-set_other (set t x y) (1024 + y) x x 0 (λ e. omega arith) ∙ get_or-set_same t x y 0 (omega arith))
    (get_or-set_same (set t x y) (1024 + y) x 0 (omega (arith, length-set t x y)))
    (λ i n m. get_or-set_other (set t x y) (1024 + y) i x 0 m ∙ get_or-set_other t x i y 0 n) s

---- tables of locals below 1024

abbrev LowFound : Found → Type 0
LowFound absent = Unit {0}
LowFound (found a) = a < 1024

low-cond : (b : Bool) (f g : Found) → LowFound f → LowFound g → LowFound (cond b f g)
low-cond true f g l k = l
low-cond false f g l k = k

low-ahead : (P : Table) (x : ℕ) → LowTable P → LowFound (ahead P x)
unfolding ahead
low-ahead blank x l = tt
low-ahead (add a b P) x l = low-cond (eqb a x) (found b) (ahead P x) l.1 (low-ahead P x l.2)

low-behind : (P : Table) (y : ℕ) → LowTable P → LowFound (behind P y)
unfolding behind
low-behind blank y l = tt
low-behind (add a b P) y l = low-cond (eqb b y) (found a) (behind P y) l.0 (low-behind P y l.2)

-- none is told from a partner
free-entry : (f : Found) → LowFound f → is_free f ≡ eqb (entry f) 4294967295
free-entry absent l = refl
free-entry (found a) l = sym (ne_eqb a 4294967295 (λ e. omega arith))

pub fresh-shown : (P : Table) (t : List ℕ) (x y : ℕ) → LowTable P → Shows P t → x < 1024 → y < 1024 → fresh P x y ≡ (eqb (get_or t x 0) 4294967295 && eqb (get_or t (1024 + y) 0) 4294967295)
unfolding fresh
fresh-shown P t x y l s lx ly =
    rw (s.front x lx, s.back y ly, ← free-entry (ahead P x) (low-ahead P x l), ← free-entry (behind P y) (low-behind P y l)) refl

joined-entries : (f g : Found) (x y : ℕ) → LowFound f → LowFound g → x < 1024 → y < 1024
    → joined f g x y ≡ cond (eqb (entry f) 4294967295 && eqb (entry g) 4294967295) (eqb x y) (eqb (entry f) y && eqb (entry g) x)
joined-entries absent absent x y l k lx ly = refl
joined-entries absent (found a) x y l k lx ly = rw (ne_eqb a 4294967295 (λ e. omega arith), ne_eqb 4294967295 y (λ e. omega arith))
joined-entries (found b) absent x y l k lx ly = rw (ne_eqb b 4294967295 (λ e. omega arith)) (sym (and_right (eqb b y) (eqb 4294967295 x) (ne_eqb 4294967295 x (λ e. omega arith))))
joined-entries (found b) (found a) x y l k lx ly = rw (ne_eqb b 4294967295 (λ e. omega arith))

-- two used locals match: both have no partner and are the same, or each is the other's partner
pub matched-shown : (P : Table) (t : List ℕ) (x y : ℕ) → LowTable P → Shows P t → x < 1024 → y < 1024
    → matched P x y ≡ cond (eqb (get_or t x 0) 4294967295 && eqb (get_or t (1024 + y) 0) 4294967295) (eqb x y) (eqb (get_or t x 0) y && eqb (get_or t (1024 + y) 0) x)
unfolding matched
matched-shown P t x y l s lx ly = rw (s.front x lx, s.back y ly) (joined-entries (ahead P x) (behind P y) x y (low-ahead P x l) (low-behind P y l) lx ly)
