-- The rules of a table by their names, one rule more. Assumes nothing.
use Rattle.std.proofs.Common.{◌≡◌, ℕ, ◌+◌, Bool, true, false, cond, List, length, get_or, Some, None, Option, String, sym, refl, ap, ◌∙◌, subst, ⊎_elim, true≢false, arith, Bor}
use Rattle.std.specs.BTreeMap.{BTreeMap, get_by_text, IsOrdered}
use Rattle.std.specs.Map.{update}
use Rattle.std.specs.Slice.{IsItemAt}
use Rattle.std.specs.Str.{bytes_eq}
use Rattle.std.specs.String.{string_cmp}
use Rattle.std.proofs.lemmas.Bool.{cases_lt}
use Rattle.std.proofs.lemmas.List.{get_or_default}
use Rattle.std.proofs.lemmas.Slice.Eq.{bytes_eq-Decides}
use Rattle.tables.specs.declared.line.Entry.{Entry}
use Rattle.tables.specs.Rules.{name_of}
use Rattle.verdicts.specs.Names.{PlaceBelow, IndexesBelow, FoundAs}

wider : (es : List Entry) (n : ℕ) (v : List ℕ) (o : Option ℕ) → PlaceBelow es n v o → ((d : Entry) → name_of (get_or es n d) ≡ v → ⊥) → PlaceBelow es (n + 1) v o
wider es n v None h other = λ i d l same.
    ⊎_elim
    (λ inside. h i d inside same)
    (λ at.
    let end : i ≡ n = omega arith in
    other d (subst (λ k. name_of (get_or es k d) ≡ v) end same))
    (cases_lt i n)
wider es n v (Some i) h other = (omega (arith, h.0), h.1)

module _ {Y : Type 0} where
  pub one_indexed : (es : List Entry) (i : ℕ) (m n : BTreeMap (String Y) ℕ) (bs : List ℕ) → ((d : Entry) → name_of (get_or es i d) ≡ bs) → IndexesBelow es i m → IsOrdered string_cmp n → ((v : List ℕ) → get_by_text n v ≡ update bytes_eq (get_by_text m) bs (Some i) v) → IndexesBelow es (i + 1) n
  one_indexed es i m n bs name h ordered sets = (ordered, λ v. subst (PlaceBelow es (i + 1) v) (sym (sets v)) (by v (bytes_eq bs v) refl))
    where
      by : (v : List ℕ) (b : Bool) → bytes_eq bs v ≡ b → PlaceBelow es (i + 1) v (cond b (Some i) (get_by_text m v))
      by v true q = (omega arith, λ d. name d ∙ (bytes_eq-Decides bs v).0 q)
      by v false q = wider es i v (get_by_text m v) (h.1 v) (λ d same. true≢false (sym ((bytes_eq-Decides bs v).1 (sym (name d) ∙ same)) ∙ q))

-- what `get` at a place that was indexed gives
pub found_as : (es : List Entry) (name : List ℕ) (i : ℕ) (r : Option (Bor Entry)) → PlaceBelow es (length es) name (Some i) → IsItemAt es i r → FoundAs es name r
found_as es name i None place h = absurd (omega (arith, place.0, h.3))
found_as es name i (Some e) place h = (i, place.0, λ d. h.1 ∙ get_or_default es i e.now d place.0, ap name_of h.1 ∙ place.1 e.now)
