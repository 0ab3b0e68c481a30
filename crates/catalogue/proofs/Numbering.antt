-- How the classes of entries in a row are numbered. Assumes nothing.
use Rattle.std.proofs.Common.{◌≡◌, ℕ, zero, suc, ◌+◌, ◌<◌, ◌≤◌, List, [], ◌∷◌, ◌++◌, length, Some, None, sym, refl, ap, ◌∙◌, subst, subst₂, inl, inr, ⊎_elim, add-one, arith}
use lib.ListN.{get_or-append}
use lib.Seq.{get_or-append_seam}
use Rattle.std.proofs.lemmas.Bool.{cases_lt, cases_eq}
use Rattle.catalogue.specs.Kinds.{Sense, Sound}
use Rattle.catalogue.specs.Classes.{First, FirstSame, Begins, Begun, ClassOf, entry}
use Rattle.catalogue.proofs.Lawful.{Lawful}

-- every entry is sound
abbrev pub AllSound : {U F : Type 0} → Sense U F → List (List U) → Type 0
AllSound k rs = (i : ℕ) → i < length rs → Sound k (entry rs i)

order-one : (i j : ℕ) → (i < j → ⊥) → (j < i → ⊥) → i ≡ j
order-one i j p q = ⊎_elim (λ lt. absurd (p lt)) (λ le. ⊎_elim (λ lt. absurd (q lt)) (λ le'. omega arith) (cases_lt j i)) (cases_lt i j)

-- two first numbers are one where each has what the other is the first to have
first_one : {P Q : ℕ → Type 0} (n m i j : ℕ) → First P n (Some i) → First Q m (Some j) → Q i → P j → i ≡ j
first_one n m i j f g qi pj = order-one i j (λ lt. g.2 i lt qi) (λ lt. f.2 j lt pj)

module _ {U F : Type 0} (k : Sense U F) where
  pub begun-one : (rs : List (List U)) (n m l : ℕ) → Begun k rs n m → Begun k rs n l → m ≡ l
  begun-one rs zero m l p q = p ∙ sym q
  begun-one rs (suc n) m l (inl (b, (x, e, p))) (inl (c, (y, f, q))) = e ∙ ap suc (begun-one rs n x y p q) ∙ sym f
  begun-one rs (suc n) m l (inl (b, p)) (inr (c, q)) = absurd (c b)
  begun-one rs (suc n) m l (inr (b, p)) (inl (c, q)) = absurd (b c)
  begun-one rs (suc n) m l (inr (b, p)) (inr (c, q)) = begun-one rs n m l p q

  pub class-one : (rs : List (List U)) (i c d : ℕ) → ClassOf k rs i c → ClassOf k rs i d → c ≡ d
  class-one rs i c d (a, f, p) (b, g, q) =
      let e : a ≡ b = first_one (suc i) (suc i) a b f g f.1 g.1 in
      begun-one rs b c d (subst (λ (x : ℕ). Begun k rs x c) e p) q

  ---- rows that agree so far

  begins-like : (rs qs : List (List U)) (n : ℕ) → ((j : ℕ) → j < suc n → entry rs j ≡ entry qs j) → Begins k rs n → Begins k qs n
  begins-like rs qs n e b j lt s = b j lt (subst₂ k.same (sym (e j (omega arith))) (sym (e n (omega arith))) s)

  pub begun-like : (rs qs : List (List U)) (n m : ℕ) → ((j : ℕ) → j < n → entry rs j ≡ entry qs j) → Begun k rs n m → Begun k qs n m
  begun-like rs qs zero m e p = p
  begun-like rs qs (suc n) m e (inl (b, (l, q, p))) = inl (begins-like rs qs n e b, (l, q, begun-like rs qs n l (λ j lt. e j (omega arith)) p))
  begun-like rs qs (suc n) m e (inr (b, p)) =
      inr ((λ c. b (begins-like qs rs n (λ j lt. sym (e j lt)) c)), begun-like rs qs n m (λ j lt. e j (omega arith)) p)

  pub class-like : (rs qs : List (List U)) (i c : ℕ) → ((j : ℕ) → j < i + 1 → entry rs j ≡ entry qs j) → ClassOf k rs i c → ClassOf k qs i c
  class-like rs qs i c e (j, (lt, s, none), p) =
      let here = e i (omega arith) in (
        j,
        (
          lt,
          subst₂ k.same (e j (omega arith)) here s,
          λ a la t. none a la (subst₂ k.same (sym (e a (omega arith))) (sym here) t),
        ),
        begun-like rs qs j c (λ a la. e a (omega arith)) p,
      )

  ---- how many have begun

  pub begun-rises : (rs : List (List U)) (j n c m : ℕ) → j ≤ n → Begun k rs j c → Begun k rs n m → c ≤ m
  begun-rises rs j zero c m le p q =
      let e : j ≡ 0 = omega arith in
      omega (arith, begun-one rs zero c m (subst (λ (x : ℕ). Begun k rs x c) e p) q)
  begun-rises rs j (suc n) c m le p q = ⊎_elim
      (λ e. omega (arith, begun-one rs (suc n) c m (subst (λ (x : ℕ). Begun k rs x c) e p) q))
      (λ ne. let low : j ≤ n = omega arith in ⊎_elim
      (λ (b, (l, e, r)). omega (arith, begun-rises rs j n c l low p r))
      (λ (b, r). begun-rises rs j n c m low p r)
      q)
      (cases_eq j (suc n))

  pub begun-grows : (rs : List (List U)) (j n c m : ℕ) → j < n → Begins k rs j → Begun k rs j c → Begun k rs n m → c < m
  begun-grows rs j n c m lt b p q = begun-rises rs (suc j) n (suc c) m lt (inl (b, (c, refl, p))) q

  ---- sameness and the number of a class

  module _ (law : Lawful k) (rs : List (List U)) (sound : AllSound k rs) where
    -- the first entry that is the same as i begins their class
    first-begins : (i j : ℕ) → i < length rs → First (λ a. k.same (entry rs a) (entry rs i)) (suc i) (Some j) → Begins k rs j
    first-begins i j lt (low, s, none) a la t =
        none a la (law.transitive _ _ _ (sound a (omega arith)) (sound j (omega arith)) (sound i lt) t s)

    pub same_class : (i j c d : ℕ) → i < length rs → j < length rs → ClassOf k rs i c → ClassOf k rs j d → k.same (entry rs i) (entry rs j) → c ≡ d
    same_class i j c d li lj (a, f, p) (b, g, q) s =
        let si = sound i li in
        let sj = sound j lj in
        let e : a ≡ b = first_one (suc i) (suc j) a b f g
        (law.transitive _ _ _ (sound a (omega (arith, f.0))) si sj f.1 s)
        (law.transitive _ _ _ (sound b (omega (arith, g.0))) sj si g.1 (law.symmetric _ _ si sj s)) in
        begun-one rs b c d (subst (λ (x : ℕ). Begun k rs x c) e p) q

    pub class_same : (i j c d : ℕ) → i < length rs → j < length rs → ClassOf k rs i c → ClassOf k rs j d → c ≡ d → k.same (entry rs i) (entry rs j)
    class_same i j c d li lj (a, f, p) (b, g, q) e =
        let sa = sound a (omega (arith, f.0)) in
        let si = sound i li in
        let one : a ≡ b = order-one a b
        (λ lt. omega (arith, begun-grows rs a b c d lt (first-begins i a li f) p q))
        (λ lt. omega (arith, begun-grows rs b a d c lt (first-begins j b lj g) q p)) in
        law.transitive _ _ _ si sa (sound j lj) (law.symmetric _ _ sa si f.1)
        (subst (λ (x : ℕ). k.same (entry rs x) (entry rs j)) (sym one) g.1)

    pub class-begun : (i c : ℕ) → i < length rs → ClassOf k rs i c → (m : ℕ) → Begun k rs (length rs) m → c < m
    class-begun i c lt (j, f, p) m q = begun-grows rs j (length rs) c m (omega (arith, f.0)) (first-begins i j lt f) p q

  ---- one entry more

  stays : (rs : List (List U)) (run : List U) (j : ℕ) → j < length rs → entry rs j ≡ entry (rs ++ (run ∷ [])) j
  stays rs run j lt = sym (get_or-append rs (run ∷ []) [] j lt)

  added : (rs : List (List U)) (run : List U) → run ≡ entry (rs ++ (run ∷ [])) (length rs)
  added rs run = sym (get_or-append_seam rs run [] [])

  to-added : (rs : List (List U)) (run : List U) (j : ℕ) → j < length rs → k.same (entry rs j) run
      → k.same (entry (rs ++ (run ∷ [])) j) (entry (rs ++ (run ∷ [])) (length rs))
  to-added rs run j lt s = subst₂ k.same (stays rs run j lt) (added rs run) s

  from-added : (rs : List (List U)) (run : List U) (j : ℕ) → j < length rs
      → k.same (entry (rs ++ (run ∷ [])) j) (entry (rs ++ (run ∷ [])) (length rs)) → k.same (entry rs j) run
  from-added rs run j lt s = subst₂ k.same (sym (stays rs run j lt)) (sym (added rs run)) s

  -- a run that none is the same as begins a class
  pub new-class : Lawful k → (rs : List (List U)) (run : List U) → AllSound k rs → Sound k run → FirstSame k rs run None
      → (m : ℕ) → Begun k rs (length rs) m → ClassOf k (rs ++ (run ∷ [])) (length rs) m × Begun k (rs ++ (run ∷ [])) (length rs + 1) (m + 1)
  new-class law rs run sound ok none m p =
      let qs = rs ++ (run ∷ []) in
      let n = length rs in
      let begins : Begins k qs n = λ j lt s. none j lt (from-added rs run j lt s) in
      let begun : Begun k qs n m = begun-like rs qs n m (stays rs run) p in (
        (n, (omega arith, subst₂ k.same (added rs run) (added rs run) (law.reflexive run ok), begins), begun),
        subst₂ (Begun k qs) (sym (add-one n)) (sym (add-one m)) (inl (begins, (m, refl, begun))),
      )

  -- a run that some entry is the same as is of that one's class
  pub old-class : Lawful k → (rs : List (List U)) (run : List U) → AllSound k rs → Sound k run → (i : ℕ) → FirstSame k rs run (Some i)
      → (c m : ℕ) → ClassOf k rs i c → Begun k rs (length rs) m → ClassOf k (rs ++ (run ∷ [])) (length rs) c × Begun k (rs ++ (run ∷ [])) (length rs + 1) m
  old-class law rs run sound ok i (lt, s, none) c m (a, f, p) q =
      let qs = rs ++ (run ∷ []) in
      let n = length rs in
      let si = sound i lt in
      let e : a ≡ i = first_one (suc i) n a i f (lt, s, none)
      (law.transitive _ _ _ (sound a (omega (arith, f.0))) si ok f.1 s)
      (law.reflexive _ si) in (
        (
          i,
          (omega arith, to-added rs run i lt s, λ j lj t. none j lj (from-added rs run j (omega arith) t)),
          begun-like rs qs i c (λ j lj. stays rs run j (omega arith)) (subst (λ (x : ℕ). Begun k rs x c) e p),
        ),
        subst (λ (x : ℕ). Begun k qs x m) (sym (add-one n))
            (inr ((λ b. b i lt (to-added rs run i lt s)), begun-like rs qs n m (stays rs run) q)),
      )
