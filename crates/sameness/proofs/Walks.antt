-- What the comparing functions answer, put together from what their parts answer.
use Rattle.std.proofs.Common.{◌≡◌, ℕ, ◌<◌, ◌≤◌, Bool, true, false, eqb, List, length, Some, sym, ap, ◌∙◌, subst, ap₂, arith}
use Rattle.std.proofs.lemmas.Bool.{cond-true, cond-false}
use Rattle.trial.specs.Table.{paired, unpaired, recorded}
use Rattle.trial.proofs.Recording.{paired-in, unpaired-in, recorded-in}
use Rattle.trial.proofs.Extending.{extends-refl, extends-trans, unpaired-extends}
use Rattle.rule.specs.declared.nodes.Node.{Node}
use Rattle.rule.specs.Nodes.{declared_by, local_of}
use Rattle.sameness.specs.Deciding.{Table, add, Outcome, holds, given, direct_test, matched, fresh, decide, Shows}
use Rattle.sameness.specs.Walking.{Pictured, Answers, KindsWalked, KidsWalked, Not, IsPlain, tree_in}
use Rattle.sameness.proofs.Asking.{declares-local, uses-local}
use Rattle.sameness.proofs.Outcomes.{unequal, kids-fail, kids-hold, at_plain, at-binding, at_local}
use Rattle.sameness.proofs.Shown.{fresh-shown, matched-shown, shows-set}

---- locals

module _ (P : Table) (t : List ℕ) (x y : ℕ) (p : Pictured P t) (l : length t ≡ 2048) (lx : x < 1024) (ly : y < 1024) where
  room : 2048 ≤ length t
  room = omega arith

  pub fresh-unpaired : fresh P x y ≡ unpaired t x y
  fresh-unpaired = fresh-shown P t x y p.low p.shows lx ly ∙ sym (unpaired-in t x y lx ly room)

  pub matched_free : unpaired t x y ≡ true → matched P x y ≡ eqb x y
  matched_free u = matched-shown P t x y p.low p.shows lx ly ∙ cond-true _ _ _ (sym (unpaired-in t x y lx ly room) ∙ u)

  pub matched_paired : unpaired t x y ≡ false → matched P x y ≡ paired t x y
  matched_paired u = matched-shown P t x y p.low p.shows lx ly ∙ cond-false _ _ _ (sym (unpaired-in t x y lx ly room) ∙ u) ∙ sym (paired-in t x y lx ly room)

  pub pictured-more : Pictured (add x y P) (recorded t x y)
  pictured-more =
      record {
        shows = subst (λ s. Shows (add x y P) s) (sym (recorded-in t x y lx ly room)) (shows-set P t x y room lx ly p.shows);
        low = (lx, ly, p.low);
      }

---- kinds

module _ (wa : List ℕ) (l : Node) (wb : List ℕ) (r : Node) where
  abbrev Direct : Bool
  Direct = direct_test l.code l.v l.w r.code r.v r.w

  pub kinds-unequal : (t : List ℕ) → Not 14 l → Direct ≡ false → KindsWalked wa l wb r t t false
  kinds-unequal t n d = record { grows = extends-refl t; answers = λ P p. unequal _ _ _ _ _ _ _ _ P n d }

  pub kinds-other : (t : List ℕ) (b : Bool) → Not 14 l → b ≡ Direct → b ≡ false → KindsWalked wa l wb r t t b
  kinds-other t b n e f = subst (λ z. KindsWalked wa l wb r t t z) (sym f) (kinds-unequal t n (sym e ∙ f))

  pub kinds-fail : (t t' : List ℕ) → Not 14 l → Direct ≡ true → KidsWalked wa l wb r t t' false → KindsWalked wa l wb r t t' false
  kinds-fail t t' n d k = record { grows = k.grows; answers = λ P p. kids-fail _ _ _ _ _ _ _ _ P n d (k.answers P p) }

  pub kinds-plain : (t t' : List ℕ) → Not 14 l → Not 41 l → ((l.code ≡ 70) × (l.v ≡ 0) → ⊥) → Direct ≡ true → KidsWalked wa l wb r t t' true → KindsWalked wa l wb r t t' true
  kinds-plain t t' n m o d k =
      record {
        grows = k.grows;
        answers = λ P p.
            let a = k.answers P p in
            (a.0, kids-hold _ _ _ _ _ _ _ _ P a.0 n d a.1 ∙ at_plain _ _ _ _ _ _ a.0 d m o, a.2);
      }

  -- a yes or no of the children is that of the whole
  pub kinds-by : (t t' : List ℕ) (res : Bool) → IsPlain l → Direct ≡ true → KidsWalked wa l wb r t t' res → KindsWalked wa l wb r t t' res
  kinds-by t t' true p d k = kinds-plain t t' p.not_binary p.not_binding (λ e. p.not_path e.0) d k
  kinds-by t t' false p d k = kinds-fail t t' p.not_binary d k

  -- two bindings, of x and of y
  module _ (t t' : List ℕ) (x y : ℕ) (u : declared_by l ≡ Some x) (v : declared_by r ≡ Some y) (d : Direct ≡ true) (m : length t' ≡ 2048) (lx : x < 1024) (ly : y < 1024) (k : KidsWalked wa l wb r t t' true) where
    bound : (P : Table) (p : Pictured P t) → decide (tree_in wa l) (tree_in wb r) P ≡ given (unpaired t' x y) (holds (add x y (k.answers P p).0))
    bound P p =
        let a = k.answers P p in
        let e = declares-local l x u in
        let f = declares-local r y v in
        let n : Not 14 l = λ z. omega (arith, e.0) in
        kids-hold _ _ _ _ _ _ _ _ P a.0 n d a.1 ∙ at-binding _ _ _ _ _ _ a.0 d e.0 ∙ ap₂ (λ i j. given (fresh a.0 i j) (holds (add i j a.0))) e.1 f.1
        ∙ ap (λ b. given b (holds (add x y a.0))) (fresh-unpaired a.0 t' x y a.2 m lx ly)

    pub kinds-bound : unpaired t' x y ≡ true → KindsWalked wa l wb r t (recorded t' x y) true
    kinds-bound h =
        record {
          grows = extends-trans t t' (recorded t' x y) k.grows (unpaired-extends t' x y h);
          answers = λ P p.
              let a = k.answers P p in
              (add x y a.0, bound P p ∙ ap (λ b. given b (holds (add x y a.0))) h, pictured-more a.0 t' x y a.2 m lx ly);
        }

    pub kinds-taken : unpaired t' x y ≡ false → KindsWalked wa l wb r t t' false
    kinds-taken h = record { grows = k.grows; answers = λ P p. bound P p ∙ ap (λ b. given b (holds (add x y (k.answers P p).0))) h }

  answered : (res : Bool) (Q : Table) (t : List ℕ) (o : Outcome) → o ≡ given res (holds Q) → Pictured Q t → Answers res t o
  answered true Q t o e p = (Q, e, p)
  answered false Q t o e p = e

  pub kinds-local : (t t' : List ℕ) (res : Bool) (x y : ℕ) → local_of l ≡ Some x → local_of r ≡ Some y → Direct ≡ true → ((P : Table) → Pictured P t' → res ≡ matched P x y)
      → KidsWalked wa l wb r t t' true → KindsWalked wa l wb r t t' res
  kinds-local t t' res x y u v d h k =
      let a = uses-local l x u in
      let b = uses-local r y v in
      let n : Not 14 l = λ f. omega (arith, a.0) in
      record {
        grows = k.grows;
        answers = λ P p.
            let o = k.answers P p in
            answered res o.0 t' _
            (kids-hold _ _ _ _ _ _ _ _ P o.0 n d o.1 ∙ at_local _ _ _ _ _ _ o.0 d a.0 a.1 ∙ ap (λ m. given m (holds o.0)) (ap₂ (matched o.0) a.2 b.2 ∙ sym (h o.0 o.2)))
            o.2;
      }
