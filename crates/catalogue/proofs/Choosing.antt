-- How many entries can be chosen of which no two are the same: as many as there are classes, and no more. Assumes nothing.
use Rattle.std.proofs.Common.{◌≡◌, ℕ, zero, suc, ◌<◌, ◌≤◌, ◌⊎◌, List, [], ◌∷◌, length, get_or, sym, refl, ap, ◌∙◌, subst, inl, inr, ⊎_elim, arith}
use Rattle.std.proofs.lemmas.Bool.{cases_eq, cases_order}
use Rattle.catalogue.specs.Kinds.{Sense}
use Rattle.catalogue.specs.Classes.{Begins, Begun, ClassOf, Choice}
use Rattle.catalogue.proofs.Lawful.{Lawful}
use Rattle.catalogue.proofs.Numbering.{AllSound, class_same, class-begun}

-- where each number below m has one below n, and no two have the same, m is at most n
pub apart_below : (m n : ℕ) (P : ℕ → ℕ → Type 0) → ((a : ℕ) → a < m → (c : ℕ) × (c < n) × P a c)
    → ((a b c : ℕ) → a < b → b < m → P a c → P b c → ⊥) → m ≤ n
apart_below zero n P has apart = omega arith
apart_below (suc m) zero P has apart = absurd (omega (arith, (has 0 (omega arith)).1))
apart_below (suc m) (suc n) P has apart = omega (arith, apart_below m n Q has' apart')
  where
    -- what the last of them has, which the one that has n is given in its place
    last : (c : ℕ) × (c < suc n) × P m c
    last = has m (omega arith)

    Q : ℕ → ℕ → Type 0
    Q a c = P a c ⊎ ((c ≡ last.0) × P a n)

    has' : (a : ℕ) → a < m → (c : ℕ) × (c < n) × Q a c
    has' a lt =
        let h = has a (omega arith) in
        ⊎_elim
        (λ e.
        let at : P a n = subst (P a) e h.2 in
        let ne : last.0 ≡ n → ⊥ = λ z. apart a m n lt (omega arith) at (subst (P m) z last.2) in
        (last.0, omega (arith, last.1), inr (refl, at)))
        (λ ne. (h.0, omega (arith, h.1), inl h.2))
        (cases_eq h.0 n)

    apart' : (a b c : ℕ) → a < b → b < m → Q a c → Q b c → ⊥
    apart' a b c lt lb (inl p) (inl q) = apart a b c lt (omega arith) p q
    apart' a b c lt lb (inl p) (inr (e, q)) = apart a m c (omega arith) (omega arith) p (subst (P m) (sym e) last.2)
    apart' a b c lt lb (inr (e, p)) (inl q) = apart b m c lb (omega arith) q (subst (P m) (sym e) last.2)
    apart' a b c lt lb (inr (e, p)) (inr (f, q)) = apart a b n lt (omega arith) p q

module _ {U F : Type 0} (k : Sense U F) where
  -- numbers below n of entries that begin a class, each lower than the one before
  abbrev Falling : List (List U) → ℕ → List ℕ → Type 0
  Falling rs n [] = Unit {0}
  Falling rs n (i ∷ is) = (i < n) × Begins k rs i × Falling rs i is

  falling-more : (rs : List (List U)) (n : ℕ) (is : List ℕ) → Falling rs n is → Falling rs (suc n) is
  falling-more rs n [] h = tt
  falling-more rs n (i ∷ is) h = (omega (arith, h.0), h.1, h.2)

  falling-at : (rs : List (List U)) (n : ℕ) (is : List ℕ) (a : ℕ) → Falling rs n is → a < length is → (get_or is a 0 < n) × Begins k rs (get_or is a 0)
  falling-at rs n [] a h lt = absurd (omega arith)
  falling-at rs n (i ∷ is) zero h lt = (h.0, h.1)
  falling-at rs n (i ∷ is) (suc a) h lt =
      let r = falling-at rs i is a h.2 (omega arith) in
      (omega (arith, r.0, h.0), r.1)

  falling-falls : (rs : List (List U)) (n : ℕ) (is : List ℕ) (a b : ℕ) → Falling rs n is → a < b → b < length is → get_or is b 0 < get_or is a 0
  falling-falls rs n [] a b h lt lb = absurd (omega arith)
  falling-falls rs n (i ∷ is) a zero h lt lb = absurd (omega arith)
  falling-falls rs n (i ∷ is) zero (suc b) h lt lb = (falling-at rs i is b h.2 (omega arith)).0
  falling-falls rs n (i ∷ is) (suc a) (suc b) h lt lb = falling-falls rs i is a b h.2 (omega arith) (omega arith)

  beginners : (rs : List (List U)) (n m : ℕ) → Begun k rs n m → (is : List ℕ) × Falling rs n is × (length is ≡ m)
  beginners rs zero m e = ([], tt, sym e)
  beginners rs (suc n) m (inl (b, (l, e, p))) = let r = beginners rs n l p in (n ∷ r.0, (omega arith, b, r.1), ap suc r.2 ∙ sym e)
  beginners rs (suc n) m (inr (b, p)) = let r = beginners rs n m p in (r.0, falling-more rs n r.0 r.1, r.2)

  pub some-choice : Lawful k → (rs : List (List U)) → AllSound k rs → (n : ℕ) → Begun k rs (length rs) n → (is : List ℕ) × Choice k rs is × (length is ≡ n)
  some-choice law rs sound n p =
      let r = beginners rs (length rs) n p in
      let at : (a : ℕ) → a < length r.0 → (get_or r.0 a 0 < length rs) × Begins k rs (get_or r.0 a 0) = λ a. falling-at rs (length rs) r.0 a r.1 in
      let falls : (a b : ℕ) → a < b → b < length r.0 → get_or r.0 b 0 < get_or r.0 a 0 = λ a b. falling-falls rs (length rs) r.0 a b r.1 in (
        r.0,
        record {
          each = λ a lt. (at a lt).0;
          apart = λ a b la lb ne s. ⊎_elim
              (λ e. ne e)
              (⊎_elim
              (λ lt. (at a la).1 _ (falls a b lt lb) (law.symmetric _ _ (sound _ (at a la).0) (sound _ (at b lb).0) s))
              (λ gt. (at b lb).1 _ (falls b a gt la) s))
              (cases_order a b);
        },
        r.2,
      )

  pub most-choice : Lawful k → (rs : List (List U)) → AllSound k rs → ((i : ℕ) → i < length rs → (c : ℕ) × ClassOf k rs i c) → (n : ℕ) → Begun k rs (length rs) n → (is : List ℕ) → Choice k rs is → length is ≤ n
  most-choice law rs sound classes n p is choice = apart_below (length is) n (λ a c. ClassOf k rs (get_or is a 0) c)
      (λ a lt. let h = classes (get_or is a 0) (choice.each a lt) in (h.0, class-begun k law rs sound _ h.0 (choice.each a lt) h.1 n p, h.1))
      (λ a b c lt lb f g.
      let la : a < length is = omega arith in
      choice.apart a b la lb (omega arith) (class_same k law rs sound _ _ c c (choice.each a la) (choice.each b lb) f g refl))
