-- The rules of a table, one line more. Assumes nothing.
use Rattle.std.proofs.Common.{◌≡◌, ℕ, suc, ◌+◌, ◌<◌, Bool, true, false, true≢false, cond, ◌⊎◌, List, [], ◌∷◌, ◌++◌, length, get_or, Some, None, string_bytes, MatchBool, Option, String, sym, refl, ap, ◌∙◌, subst, inl, inr, ⊎_elim, append_assoc, arith}
use Rattle.std.specs.BTreeMap.{get_by_text, is_at, IsEmpty}
use Rattle.std.specs.Cmp.Lexicographic.{slice_cmp}
use Rattle.std.specs.Map.{lookup, update}
use Rattle.std.specs.Ordering.{nat_cmp}
use Rattle.std.specs.Str.{bytes_eq}
use Rattle.std.proofs.lemmas.Slice.Eq.{bytes_eq-Decides}
use Rattle.std.specs.BTreeMap.{BTreeMap}
use Rattle.std.proofs.lemmas.List.{get_or_append_left, get_or_push, length_push}
use Rattle.std.proofs.lemmas.Option.{none-some}
use Rattle.std.proofs.lemmas.Bool.{cases_lt, cases_Bool, cond-true, cond-false, false_from_ne_true}
use Rattle.tables.specs.declared.fault.TableFault.{TableFault}
use Rattle.tables.specs.declared.fault.TableFault.TheVariants.{NoColon, NoName, NameTwice, NotAWord, NotUtf8, Memory}
use Rattle.tables.specs.declared.line.Entry.{Entry}
use Rattle.tables.specs.Lines.{content, skipped, RuleAt, LineFault}
use Rattle.tables.specs.Rules.{lines, name_of, Holds, Apart, Stands, FaultAfter, FaultIn, NameFault, SetsText}

-- what holds at a test that came out so
pub when_true : (b : Bool) (P Q : Type 0) → b ≡ true → P → MatchBool b P Q
when_true b P Q e p = subst (λ t. MatchBool t P Q) (sym e) p

pub when_false : (b : Bool) (P Q : Type 0) → b ≡ false → Q → MatchBool b P Q
when_false b P Q e q = subst (λ t. MatchBool t P Q) (sym e) q

when-map : (b : Bool) (P Q P' Q' : Type 0) → (P → P') → (Q → Q') → MatchBool b P Q → MatchBool b P' Q'
when-map true P Q P' Q' f g h = f h
when-map false P Q P' Q' f g h = g h

-- one line more, that is skipped
holds-skip : (n : ℕ) (ls : List (List ℕ)) (es : List Entry) (l : List ℕ) → Holds n ls es → skipped (content l) ≡ true → Holds n (ls ++ (l ∷ [])) es
holds-skip n [] es l h e = when_true (skipped (content l)) _ _ e h
holds-skip n (k ∷ ls) es l h e =
    when-map (skipped (content k)) _ _ _ _
    (λ rest. holds-skip (n + 1) ls es l rest e)
    (λ here. (here.0, here.1, here.2, here.3, holds-skip (n + 1) ls here.1 l here.4 e)) h

-- or that holds a rule
holds-rule : (n : ℕ) (ls : List (List ℕ)) (es : List Entry) (l : List ℕ) (x : Entry) → Holds n ls es → skipped (content l) ≡ false → RuleAt (n + length ls) (content l) x → Holds n (ls ++ (l ∷ [])) (es ++ (x ∷ []))
holds-rule n [] es l x h e r =
    let at : n + 0 ≡ n = omega arith in
    when_false (skipped (content l)) _ _ e (x, [], ap (λ xs. xs ++ (x ∷ [])) h, subst (λ k. RuleAt k (content l) x) at r, refl)
holds-rule n (k ∷ ls) es l x h e r =
    let at : n + suc (length ls) ≡ n + 1 + length ls = omega arith in
    let next = subst (λ m. RuleAt m (content l) x) at r in
    when-map (skipped (content k)) _ _ _ _
    (λ rest. holds-rule (n + 1) ls es l x rest e next)
    (λ here. (here.0, here.1 ++ (x ∷ []), ap (λ xs. xs ++ (x ∷ [])) here.2, here.3, holds-rule (n + 1) ls here.1 l x here.4 e next)) h

apart_more : (es : List Entry) (x : Entry) → Apart es → ((i : ℕ) (d : Entry) → i < length es → name_of (get_or es i d) ≡ name_of x → ⊥) → Apart (es ++ (x ∷ []))
apart_more es x h new = λ i j d before within same.
    let long = length_push es x in
    let in-front : i < length es = omega arith in
    let first = get_or_append_left es (x ∷ []) d i in-front in
    ⊎_elim
    (λ inside. h i j d before inside (sym (ap name_of first) ∙ same ∙ ap name_of (get_or_append_left es (x ∷ []) d j inside)))
    (λ at.
    let end : length es ≡ j = omega arith in
    new i d in-front (sym (ap name_of first) ∙ same ∙ ap name_of (get_or_push es x d j end)))
    (cases_lt j (length es))

stands-more : (es : List Entry) (x : Entry) (v : List ℕ) (k : ℕ) → Stands es v k → Stands (es ++ (x ∷ [])) v k
stands-more es x v k h = (
  h.0,
  omega (arith, h.1, length_push es x),
  λ d.
      let same = get_or_append_left es (x ∷ []) d h.0 h.1 in
      (ap name_of same ∙ (h.2 d).0, ap (λ e. e.line) same ∙ (h.2 d).1),
)

stands-last : (es : List Entry) (x : Entry) (v : List ℕ) (k : ℕ) → v ≡ name_of x → x.line ≡ k → Stands (es ++ (x ∷ [])) v k
stands-last es x v k name line = (
  length es,
  omega (arith, length_push es x),
  λ d. let same = get_or_push es x d (length es) refl in (ap name_of same ∙ sym name, ap (λ e. e.line) same ∙ line),
)

bytes_eq-swap : (v w : List ℕ) → bytes_eq v w ≡ bytes_eq w v
bytes_eq-swap v w =
    ⊎_elim
    (λ yes. yes ∙ sym ((bytes_eq-Decides w v).1 (sym ((bytes_eq-Decides v w).0 yes))))
    (λ no. no ∙ sym (false_from_ne_true _ (λ e. true≢false (sym ((bytes_eq-Decides v w).1 (sym ((bytes_eq-Decides w v).0 e))) ∙ no))))
    (cases_Bool (bytes_eq v w))

differs : (v w : List ℕ) → (v ≡ w → ⊥) → bytes_eq v w ≡ false
differs v w other = false_from_ne_true _ (λ e. other ((bytes_eq-Decides v w).0 e))

module _ {Y : Type 0} where
  -- what is at each name after a change at the name bs
  pub sets-text : (bs : List ℕ) (m n : BTreeMap (String Y) ℕ) (w : Option ℕ) → ((v : List ℕ) → get_by_text n v ≡ update bytes_eq (get_by_text m) bs w v) → (v : List ℕ) → get_by_text n v ≡ cond (bytes_eq v bs) w (get_by_text m v)
  sets-text bs m n w h v = h v ∙ ap (λ b. cond b w (get_by_text m v)) (bytes_eq-swap bs v)

  -- m has the line of each of the rules es at its name, and no other name
  pub record Noted (es : List Entry) (m : BTreeMap (String Y) ℕ) : Type 0 where
    pub has : (i : ℕ) (d : Entry) → i < length es → get_by_text m (name_of (get_or es i d)) ≡ Some (get_or es i d).line
    pub from : (v : List ℕ) (k : ℕ) → get_by_text m v ≡ Some k → Stands es v k

  noted-none : (m : BTreeMap (String Y) ℕ) → IsEmpty m → Noted [] m
  noted-none m none = record {
    has = λ i d l. absurd (omega arith);
    from = λ v k e. absurd (none-some k (sym (ap (λ es. lookup (is_at (λ k. slice_cmp nat_cmp v (string_bytes k))) es) none) ∙ e));
  }

  new-name : (es : List Entry) (m : BTreeMap (String Y) ℕ) (v : List ℕ) → Noted es m → get_by_text m v ≡ None → (i : ℕ) (d : Entry) → i < length es → name_of (get_or es i d) ≡ v → ⊥
  new-name es m v h none i d l same =
      let got = sym (h.has i d l) ∙ ap (get_by_text m) same ∙ none in
      let z : ◌≡◌ {A = ℕ} 0 1 = cc in
      omega arith

  noted_more : (es : List Entry) (x : Entry) (m n : BTreeMap (String Y) ℕ) → Noted es m → get_by_text m (name_of x) ≡ None → SetsText m n (name_of x) (Some x.line) → Noted (es ++ (x ∷ [])) n
  noted_more es x m n h none sets = record {
    has = λ i d l.
        ⊎_elim
        (λ inside.
        let other = new-name es m (name_of x) h none i d inside in
        subst (λ y. get_by_text n (name_of y) ≡ Some y.line) (sym (get_or_append_left es (x ∷ []) d i inside))
        (sets (name_of (get_or es i d)) ∙ cond-false _ (Some x.line) (get_by_text m (name_of (get_or es i d))) (differs (name_of (get_or es i d)) (name_of x) other) ∙ h.has i d inside))
        (λ at.
        let end : length es ≡ i = omega (arith, length_push es x) in
        subst (λ y. get_by_text n (name_of y) ≡ Some y.line) (sym (get_or_push es x d i end)) (sets (name_of x) ∙ cond-true _ (Some x.line) (get_by_text m (name_of x)) ((bytes_eq-Decides (name_of x) (name_of x)).1 refl)))
        (cases_lt i (length es));
    from = λ v k e.
        ⊎_elim
        (λ yes.
        let got = sym (sets v ∙ cond-true (bytes_eq v (name_of x)) (Some x.line) (get_by_text m v) yes) ∙ e in
        stands-last es x v k ((bytes_eq-Decides v (name_of x)).0 yes) (cc))
        (λ other. stands-more es x v k (h.from v k (sym (sets v ∙ cond-false (bytes_eq v (name_of x)) (Some x.line) (get_by_text m v) other) ∙ e)))
        (cases_Bool (bytes_eq v (name_of x)));
  }

  -- the invariant: the lines before `left` hold the rules es
  pub record Sofar (text : List ℕ) (left : List (List ℕ)) (line : ℕ) (es : List Entry) (m : BTreeMap (String Y) ℕ) : Type 0 where
    pub done : List (List ℕ)
    pub whole : lines text ≡ done ++ left
    pub count : line ≡ length done
    pub held : Holds 1 done es
    pub apart : Apart es
    pub noted : Noted es m

  pub none_yet : (text : List ℕ) (m : BTreeMap (String Y) ℕ) → IsEmpty m → Sofar text (lines text) 0 [] m
  none_yet text m none = record {
    done = [];
    whole = refl;
    count = refl;
    held = refl;
    apart = λ i j d before within same. absurd (omega arith);
    noted = noted-none m none;
  }

  module _ (text l : List ℕ) (left : List (List ℕ)) (line : ℕ) (es : List Entry) (m : BTreeMap (String Y) ℕ) (old : Sofar text (l ∷ left) line es m) where
    longer : line + 1 ≡ length (old.done ++ (l ∷ []))
    longer = omega (arith, old.count, length_push old.done l)

    further : lines text ≡ (old.done ++ (l ∷ [])) ++ left
    further = old.whole ∙ sym (append_assoc old.done (l ∷ []) left)

    place : line + 1 ≡ 1 + length old.done
    place = omega (arith, old.count)

    pub skip-line : skipped (content l) ≡ true → Sofar text left (line + 1) es m
    skip-line skip = record {
      done = old.done ++ (l ∷ []);
      whole = further;
      count = longer;
      held = holds-skip 1 old.done es l old.held skip;
      apart = old.apart;
      noted = old.noted;
    }

    pub rule-line : (x : Entry) (n : BTreeMap (String Y) ℕ) → skipped (content l) ≡ false → RuleAt (line + 1) (content l) x → get_by_text m (name_of x) ≡ None → SetsText m n (name_of x) (Some x.line) → Sofar text left (line + 1) (es ++ (x ∷ [])) n
    rule-line x n plain rule none sets = record {
      done = old.done ++ (l ∷ []);
      whole = further;
      count = longer;
      held = holds-rule 1 old.done es l x old.held plain (subst (λ k. RuleAt k (content l) x) place rule);
      apart = apart_more es x old.apart (new-name es m (name_of x) old.noted none);
      noted = noted_more es x m n old.noted none sets;
    }

    fault-in : (f : TableFault) → skipped (content l) ≡ false → FaultAfter es (line + 1) (content l) f → FaultIn text f
    fault-in f plain h = record {
      before = old.done;
      line = l;
      after = left;
      rules = es;
      whole = old.whole;
      held = old.held;
      apart = old.apart;
      kept = plain;
      fault = let at : line + 1 ≡ length old.done + 1 = omega (arith, old.count) in subst (λ k. FaultAfter es k (content l) f) at h;
    }

    pub line-stops : (f : TableFault) → skipped (content l) ≡ false → LineFault (line + 1) (content l) f → (f ≡ Memory) ⊎ FaultIn text f
    line-stops (NoColon k) plain h = inr (fault-in (NoColon k) plain h)
    line-stops (NoName k) plain h = inr (fault-in (NoName k) plain h)
    line-stops (NotAWord k found why) plain h = inr (fault-in (NotAWord k found why) plain h)
    line-stops (NameTwice k name before) plain h = absurd h
    line-stops (NotUtf8 k) plain h = absurd h
    line-stops Memory plain h = inl refl

    pub name-stops : (x : Entry) (f : TableFault) → skipped (content l) ≡ false → RuleAt (line + 1) (content l) x → NameFault m x f → (f ≡ Memory) ⊎ FaultIn text f
    name-stops x (NoColon k) plain rule h = absurd h
    name-stops x (NoName k) plain rule h = absurd h
    name-stops x (NotAWord k found why) plain rule h = absurd h
    name-stops x (NameTwice k name before) plain rule h =
        inr (fault-in (NameTwice k name before) plain (h.0 ∙ rule.place, (x, rule, h.2, old.noted.from (name_of x) before h.1)))
    name-stops x (NotUtf8 k) plain rule h = absurd h
    name-stops x Memory plain rule h = inl refl
