-- The clone of an index is an index of the same rules. Assumes nothing.
use Rattle.std.proofs.Common.{◌≡◌, ℕ, cond, List, [], ◌∷◌, length, Some, String, string_bytes, sym, refl, ◌∙◌, subst}
use Rattle.std.specs.BTreeMap.{BTreeMap, is_at, IsClone}
use Rattle.std.specs.Cmp.Lexicographic.{slice_cmp}
use Rattle.std.specs.List.{AllByRecursion, AllZip}
use Rattle.std.specs.List.Sorted.{IsStrictlySortedBy}
use Rattle.std.specs.Map.{keys_of, lookup}
use Rattle.std.specs.Ordering.{is_eq, nat_cmp}
use Rattle.std.specs.String.{string_cmp}
use Rattle.std.specs.declared.cmp.Ordering.TheVariants.{Less}
use Rattle.tables.specs.declared.line.Entry.{Entry}
use Rattle.verdicts.specs.Names.{PlaceBelow, Indexes}

module _ {Y : Type 0} where
  abbrev Copied : List (String Y × ℕ) → List (String Y × ℕ) → Type 0
  Copied xs ys = AllZip (λ p q. (string_bytes q.0 ≡ string_bytes p.0) × (q.1 ≡ p.1)) xs ys

  all_above : (j k : String Y) → string_bytes k ≡ string_bytes j → (xs ys : List (String Y × ℕ)) → Copied xs ys → AllByRecursion (λ s. string_cmp j s ≡ Less) (keys_of xs) → AllByRecursion (λ s. string_cmp k s ≡ Less) (keys_of ys)
  all_above j k e [] [] a h = tt
  all_above j k e [] (y ∷ ys) a h = absurd a
  all_above j k e (x ∷ xs) [] a h = absurd a
  all_above j k e (x ∷ xs) (y ∷ ys) a h = ((λ i. slice_cmp nat_cmp (e i) (a.0.0 i)) ∙ h.0, all_above j k e xs ys a.1 h.1)

  keys_ascend : (xs ys : List (String Y × ℕ)) → Copied xs ys → IsStrictlySortedBy string_cmp (keys_of xs) → IsStrictlySortedBy string_cmp (keys_of ys)
  unfolding IsStrictlySortedBy
  keys_ascend [] [] a h = tt
  keys_ascend [] (y ∷ ys) a h = absurd a
  keys_ascend (x ∷ xs) [] a h = absurd a
  keys_ascend (x ∷ xs) (y ∷ ys) a h = (all_above x.0 y.0 a.0.0 xs ys a.1 h.0, keys_ascend xs ys a.1 h.1)

  same_values : (bs : List ℕ) (xs ys : List (String Y × ℕ)) → Copied xs ys → lookup (is_at (λ k. slice_cmp nat_cmp bs (string_bytes k))) ys ≡ lookup (is_at (λ k. slice_cmp nat_cmp bs (string_bytes k))) xs
  same_values bs [] [] a = refl
  same_values bs [] (y ∷ ys) a = absurd a
  same_values bs (x ∷ xs) [] a = absurd a
  same_values bs (x ∷ xs) (y ∷ ys) a = λ i. cond (is_eq (slice_cmp nat_cmp bs (a.0.0 i))) (Some (a.0.1 i)) (same_values bs xs ys a.1 i)

  pub clone_indexes : (es : List Entry) (m n : BTreeMap (String Y) ℕ) → IsClone (λ s t. string_bytes t ≡ string_bytes s) (λ v w. w ≡ v) m n → Indexes es m → Indexes es n
  clone_indexes es m n a h = (keys_ascend m.entries n.entries a h.0, λ name. subst (PlaceBelow es (length es) name) (sym (same_values name m.entries n.entries a)) (h.1 name))
