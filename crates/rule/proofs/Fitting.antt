-- What the rows of a node and of its children say of them.
use Rattle.std.proofs.Common.{◌≡◌, ℕ, ◌<◌, true, List, length, get_or, Some, None, Option, is_some, IsSome, sym, refl, ap, ◌∙◌, subst, arith}
use Rattle.std.proofs.lemmas.Bool.{false≢true}
use Rattle.rule.specs.declared.rows.Row.{Row}
use Rattle.rule.specs.declared.nodes.Node.{Node}
use Rattle.rule.specs.Nodes.{Spelt}
use Rattle.rule.specs.Format.{admitted}
use Rattle.rule.specs.Lookup.{row_of, enough, place_of}
use Rattle.rule.specs.Run.{code_at, v_at, kids_at, kid_at}
use Rattle.rule.specs.Intake.{Read, Worded, Treelike, KidsFit, KidsPass, FitsItsRow, nodes, offset, row_at, class_at, class_in}
use Rattle.rule.proofs.Laid.{read-nodes, read-offset}

pub has-row : (o : Option Row) → is_some o ≡ true → (r : Row) × (o ≡ Some r)
has-row None e = absurd (false≢true e)
has-row (Some r) e = (r, refl)

module _ (ws os : List ℕ) (d : Read ws os) (i : ℕ) (n : Node) (s : Spelt ws (get_or os i 0) n) where
  here : get_or os i 0 ≡ offset ws i
  here = read-offset ws os d i

  same-row : row_of n.code n.v n.w ≡ row_at ws (offset ws i)
  same-row = ap (λ c. row_of c n.v n.w) s.code ∙ ap (λ v. row_of (code_at ws (get_or os i 0)) v n.w) s.v ∙ ap (row_of (code_at ws (get_or os i 0)) (v_at ws (get_or os i 0))) s.w ∙ ap (row_at ws) here

  pub rowed : Worded ws → i < length os → IsSome (row_of n.code n.v n.w)
  rowed w h =
      let k : i < nodes ws = omega (arith, read-nodes ws os d) in
      ap is_some (same-row ∙ (w i k).1)

  pub class-is : (r : Row) → row_of n.code n.v n.w ≡ Some r → r.class ≡ class_at ws i
  class-is r e = sym (ap class_in (sym same-row ∙ e))

  -- the children by the node's own list, and by the run
  pub kids-pass : FitsItsRow ws n → KidsPass ws i
  kids-pass f r e =
      let g = f r (same-row ∙ e) in
      let o = get_or os i 0 in
      subst (λ z. KidsFit ws z r) here record {
        count = ap (enough r) (sym s.count) ∙ g.count;
        each = λ q h. ap (λ m. admitted (place_of r m q) (class_at ws (kid_at ws o q))) (sym s.count) ∙ ap (λ k. admitted (place_of r (length n.kids.now) q) (class_at ws k)) (sym (s.each q h)) ∙ g.each q (omega (arith, s.count));
      }

  pub fits-its-row : KidsPass ws i → FitsItsRow ws n
  fits-its-row p r e =
      let o = get_or os i 0 in
      let g : KidsFit ws o r = subst (λ z. KidsFit ws z r) (sym here) (p r (sym same-row ∙ e)) in
      record {
        count = ap (enough r) s.count ∙ g.count;
        each = λ q h.
            let l : q < kids_at ws o = omega (arith, s.count) in
            ap (λ m. admitted (place_of r m q) (class_at ws (get_or n.kids.now q 0))) s.count ∙ ap (λ k. admitted (place_of r (kids_at ws o) q) (class_at ws k)) (s.each q l) ∙ g.each q l;
      }

-- a child's number is that of a node
pub kid-below : (ws os : List ℕ) → Read ws os → Treelike ws → (i q : ℕ) → i < length os → q < kids_at ws (get_or os i 0) → kid_at ws (get_or os i 0) q < i
kid-below ws os d t i q h l =
    let n : i < nodes ws = omega (arith, read-nodes ws os d) in
    let k : get_or os i 0 ≡ offset ws i = read-offset ws os d i in
    subst (λ z. kid_at ws z q < i) (sym k) (t.below i q n (subst (λ z. q < kids_at ws z) k l))

pub node-below : (ws os : List ℕ) → Read ws os → Treelike ws → (i q : ℕ) (n : Node) → Spelt ws (get_or os i 0) n → i < length os → q < length n.kids.now → get_or n.kids.now q 0 < i
node-below ws os d t i q n s h l =
    let m : q < kids_at ws (get_or os i 0) = omega (arith, s.count) in
    subst (λ k. k < i) (sym (s.each q m)) (kid-below ws os d t i q h m)
