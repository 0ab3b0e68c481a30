-- A line that holds a rule has no fault, and a table of such lines has none. Assumes nothing.
use Rattle.std.proofs.Common.{◌≡◌, ℕ, ◌+◌, ◌-◌, ◌^◌, ◌<◌, Bool, true, false, List, [], ◌∷◌, ◌++◌, map, length, get_or, Some, None, Ok, Err, IsUtf8, Option, Result, Vec, sym, refl, ap, ◌∙◌, subst, ⊎_elim, arith, length-append}
use Rattle.std.specs.Str.{IsValidUpTo}
use Rattle.std.specs.Str.Iter.{LacksByte}
use Rattle.std.proofs.lemmas.List.{get_or_append_left, get_or-append_right, get_or-map, get_or_at, length-map, take_all}
use Rattle.std.proofs.lemmas.Bool.{MatchBool-at_true, MatchBool-at_false, cases_order, cases_Bool, both_ways}
use Rattle.tables.specs.declared.fault.TableFault.{TableFault}
use Rattle.tables.specs.declared.fault.TableFault.TheVariants.{NoColon, NoName, NameTwice, NotAWord, NotUtf8, Memory}
use Rattle.tables.specs.declared.line.Entry.{Entry}
use Rattle.tables.specs.declared.word.WordFault.{WordFault}
use Rattle.tables.specs.declared.word.WordFault.TheVariants.{NotANumber, TooLarge}
use Rattle.tables.specs.Lines.{content, skipped, Parted, RuleAt, LineFault, LineAs, KeepsRules}
use Rattle.tables.specs.Numerals.{Writes, ReadAs}
use Rattle.tables.specs.Pieces.{blank, Blanks, Trimmed, First, Run, RunTo}
use Rattle.tables.specs.Rules.{lines, name_of, Holds, Apart, FaultAfter, FaultIn, TableAs, KeepsTables}
use Rattle.tables.proofs.Numbers.{writes_one}
use Rattle.tables.proofs.Reading.{when_true, when_false}

split-same : (xs ys zs ws : List ℕ) → xs ++ ys ≡ zs ++ ws → length xs ≡ length zs → (xs ≡ zs) × (ys ≡ ws)
split-same [] ys [] ws e l = (refl, e)
split-same [] ys (z ∷ zs) ws e l = absurd (omega arith)
split-same (x ∷ xs) ys [] ws e l = absurd (omega arith)
split-same (x ∷ xs) ys (z ∷ zs) ws e l =
    let heads : x ≡ z = cc in
    let tails : xs ++ ys ≡ zs ++ ws = cc in
    let rest = split-same xs ys zs ws tails (omega arith) in
    ((λ i. heads i ∷ rest.0 i), rest.1)

at-seam : (xs ys : List ℕ) → get_or (xs ++ ys) (length xs) 0 ≡ get_or ys 0 0
at-seam [] ys = refl
at-seam (x ∷ xs) ys = at-seam xs ys

-- where zs is the longer front, the first of ys stands in it
inside : (xs ys zs ws : List ℕ) → xs ++ ys ≡ zs ++ ws → length xs < length zs → get_or ys 0 0 ≡ get_or zs (length xs) 0
inside xs ys zs ws e l = sym (at-seam xs ys) ∙ ap (λ bs. get_or bs (length xs) 0) e ∙ get_or_append_left zs ws 0 (length xs) l

left-some : (xs ys zs ws : List ℕ) → xs ++ ys ≡ zs ++ ws → length xs < length zs → 0 < length ys
left-some xs ys zs ws e l = omega (arith, length-append xs ys, length-append zs ws, ap length e)

no_longer : (t : Bool) (xs ys zs ws : List ℕ) → xs ++ ys ≡ zs ++ ws → Blanks t zs → (0 < length ys → blank (get_or ys 0 0) ≡ t → ⊥) → length xs < length zs → ⊥
no_longer t xs ys zs ws e all ends l = ends (left-some xs ys zs ws e l) (ap blank (inside xs ys zs ws e l) ∙ all (length xs) l)

-- a text has one longest front of a kind
cut-same : (t : Bool) (xs ys zs ws : List ℕ) → xs ++ ys ≡ zs ++ ws → Blanks t xs → Blanks t zs → (0 < length ys → blank (get_or ys 0 0) ≡ t → ⊥) → (0 < length ws → blank (get_or ws 0 0) ≡ t → ⊥) → (xs ≡ zs) × (ys ≡ ws)
cut-same t xs ys zs ws e hx hz ex ez =
    ⊎_elim
    (λ same. split-same xs ys zs ws e same)
    (λ other. absurd (⊎_elim (λ l. no_longer t xs ys zs ws e hz ex l) (λ l. no_longer t zs ws xs ys (sym e) hx ez l) other))
    (cases_order (length xs) (length zs))

first_byte : (p rest : List ℕ) → 0 < length p → get_or (p ++ rest) 0 0 ≡ get_or p 0 0
first_byte p rest some = get_or_append_left p rest 0 0 some

begins-dark : (p rest : List ℕ) → 0 < length p → blank (get_or p 0 0) ≡ false → 0 < length (p ++ rest) → blank (get_or (p ++ rest) 0 0) ≡ true → ⊥
begins-dark p rest some dark long light = both_ways (blank (get_or p 0 0)) dark (sym (ap blank (first_byte p rest some)) ∙ light)

pub first-same : (bs p rest q more : List ℕ) → First bs p rest → First bs q more → (p ≡ q) × (rest ≡ more)
first-same bs p rest q more f g =
    let outer = cut-same true f.gap (p ++ rest) g.gap (q ++ more) (sym f.whole ∙ g.whole) f.blanks g.blanks
    (begins-dark p rest f.some (f.solid 0 f.some)) (begins-dark q more g.some (g.solid 0 g.some)) in
    cut-same false p rest q more outer.1 f.solid g.solid
    (λ l dark. both_ways (blank (get_or rest 0 0)) dark (f.ends l)) (λ l dark. both_ways (blank (get_or more 0 0)) dark (g.ends l))

pub no-piece : (bs p rest : List ℕ) → Blanks true bs → First bs p rest → ⊥
no-piece bs p rest all f =
    let there : get_or bs (length f.gap) 0 ≡ get_or p 0 0 = ap (λ l. get_or l (length f.gap) 0) f.whole ∙ at-seam f.gap (p ++ rest) ∙ first_byte p rest f.some in
    let within : length f.gap < length bs = omega (arith, f.some, ap length f.whole ∙ length-append f.gap (p ++ rest), length-append p rest) in
    both_ways (blank (get_or p 0 0)) (f.solid 0 f.some) (sym (ap blank there) ∙ all (length f.gap) within)

pub no_word : (p : List ℕ) (w : ℕ) (why : WordFault) → Writes p w → w < 2 ^ 32 → ReadAs p (Err why) → ⊥
no_word p w NotANumber writes fits bad = bad w writes
no_word p w TooLarge writes fits bad = omega (arith, bad.2, writes_one p bad.0 w bad.1 writes)

-- a run of words has no piece that is none
run-never : (run ws vs p : List ℕ) (why : WordFault) → Run run ws → RunTo run vs p → ReadAs p (Err why) → ⊥
run-never run [] [] p why r to bad = no-piece run p to.0 r to.1
run-never run [] (v ∷ vs) p why r to bad = no-piece run to.0 to.1 r to.2
run-never run (w ∷ ws) [] p why r to bad =
    let same = first-same run r.0 r.1 p to.0 r.2 to.1 in
    no_word p w why (subst (λ q. Writes q w) same.0 r.3) r.4 bad
run-never run (w ∷ ws) (v ∷ vs) p why r to bad =
    let same = first-same run r.0 r.1 to.0 to.1 r.2 to.2 in
    run-never to.1 ws vs p why (subst (λ l. Run l ws) same.1 r.5) to.5 bad

no-colon : (bs front run : List ℕ) → LacksByte 58 bs → Parted bs front run → ⊥
no-colon bs front run none cut =
    none (length front) (omega (arith, ap length cut.whole ∙ length-append front (58 ∷ run))) (ap (λ l. get_or l (length front) 0) cut.whole ∙ at-seam front (58 ∷ run))

parted-same : (bs f r g s : List ℕ) → Parted bs f r → Parted bs g s → (f ≡ g) × (r ≡ s)
parted-same bs f r g s a b =
    let e : f ++ (58 ∷ r) ≡ g ++ (58 ∷ s) = sym a.whole ∙ b.whole in
    ⊎_elim
    (λ same. let parts = split-same f (58 ∷ r) g (58 ∷ s) e same in let tails : 58 ∷ r ≡ 58 ∷ s = parts.1 in (parts.0, cc))
    (λ other. absurd (⊎_elim
    (λ l. b.first (length f) l (sym (inside f (58 ∷ r) g (58 ∷ s) e l)))
    (λ l. a.first (length g) l (sym (inside g (58 ∷ s) f (58 ∷ r) (sym e) l))) other))
    (cases_order (length f) (length g))

named-dark : (bs name : List ℕ) → Trimmed bs name → 0 < length name → Blanks true bs → ⊥
named-dark bs name h some all =
    let there : get_or bs (length h.before) 0 ≡ get_or name 0 0 = ap (λ l. get_or l (length h.before) 0) h.whole ∙ at-seam h.before (name ++ h.after) ∙ first_byte name h.after some in
    let within : length h.before < length bs = omega (arith, some, ap length h.whole ∙ length-append h.before (name ++ h.after), length-append name h.after) in
    both_ways (blank (get_or name 0 0)) (h.first some) (sym (ap blank there) ∙ all (length h.before) within)

-- a line that holds a rule has no fault but for want of memory
pub rule-never : (n k : ℕ) (bs : List ℕ) (e : Entry) (f : TableFault) → RuleAt n bs e → LineFault k bs f → f ≡ Memory
rule-never n k bs e (NoColon j) rule h = absurd (no-colon bs rule.front rule.run h.1 rule.parted)
rule-never n k bs e (NoName j) rule h =
    let same = parted-same bs rule.front rule.run h.1.0 h.1.1 rule.parted h.1.2 in
    absurd (named-dark rule.front (name_of e) rule.trimmed rule.named (subst (Blanks true) (sym same.0) h.1.3))
rule-never n k bs e (NotAWord j found why) rule h =
    let same = parted-same bs rule.front rule.run h.0 h.1 rule.parted h.2 in
    let at = h.3.1 in
    absurd (run-never h.1 _ at.0 at.1 why (subst (λ l. Run l _) same.1 rule.words) at.2 at.3)
rule-never n k bs e (NameTwice j name before) rule h = absurd h
rule-never n k bs e (NotUtf8 j) rule h = absurd h
rule-never n k bs e Memory rule h = refl

-- a text is trimmed to one name
no-longer-name : (a x b y : List ℕ) → a ++ x ≡ b ++ y → Blanks true x → blank (get_or b (length b - 1) 0) ≡ false → length a < length b → ⊥
no-longer-name a x b y e all last l =
    let i = length b - 1 in
    let back : length b - 1 < length b = omega arith in
    let in_b = get_or_append_left b y 0 (length b - 1) back in
    let in-x = get_or-append_right a x (length a) (length b - 1) 0 refl (omega arith) in
    let same : get_or b (length b - 1) 0 ≡ get_or x (length b - 1 - length a) 0 = sym in_b ∙ sym (ap (λ l. get_or l (length b - 1) 0) e) ∙ in-x in
    both_ways (blank (get_or b (length b - 1) 0)) last (ap blank same ∙ all (length b - 1 - length a) (omega (arith, ap length e, length-append a x, length-append b y)))

trimmed-same : (bs a b : List ℕ) → Trimmed bs a → Trimmed bs b → 0 < length a → 0 < length b → a ≡ b
trimmed-same bs a b f g some-a some-b =
    let outer = cut-same true f.before (a ++ f.after) g.before (b ++ g.after) (sym f.whole ∙ g.whole) f.blanks_before g.blanks_before
    (begins-dark a f.after some-a (f.first some-a)) (begins-dark b g.after some-b (g.first some-b)) in
    ⊎_elim
    (λ same. (split-same a f.after b g.after outer.1 same).0)
    (λ other. absurd (⊎_elim
    (λ l. no-longer-name a f.after b g.after outer.1 f.blanks_after (g.last some-b) l)
    (λ l. no-longer-name b g.after a f.after (sym outer.1) g.blanks_after (f.last some-a) l) other))
    (cases_order (length a) (length b))

rule-names : (n k : ℕ) (bs : List ℕ) (d e : Entry) → RuleAt n bs d → RuleAt k bs e → name_of d ≡ name_of e
rule-names n k bs d e f g =
    let same = parted-same bs f.front f.run g.front g.run f.parted g.parted in
    trimmed-same g.front (name_of d) (name_of e) (subst (λ l. Trimmed l (name_of d)) same.0 f.trimmed) g.trimmed f.named g.named

pub keeps-rules : (n : ℕ) (bs : List ℕ) (r : Result (Option Entry) TableFault) → LineAs n bs r → KeepsRules n bs r
keeps-rules n bs (Ok None) h = λ e plain rule. both_ways (skipped bs) plain h
keeps-rules n bs (Ok (Some x)) h = λ e plain rule. tt
keeps-rules n bs (Err f) h = λ e plain rule. rule-never n n bs e f rule h.1

-- the line l holds the first of the rules es, and the lines ls the others
abbrev Here : ℕ → List ℕ → List (List ℕ) → List Entry → Type 0
Here n l ls es = (e : Entry) × (more : List Entry) × (es ≡ e ∷ more) × RuleAt n (content l) e × Holds (n + 1) ls more

past_skip : (n : ℕ) (l : List ℕ) (ls : List (List ℕ)) (es : List Entry) → skipped (content l) ≡ true → Holds n (l ∷ ls) es → Holds (n + 1) ls es
past_skip n l ls es e h = MatchBool-at_true (Holds (n + 1) ls es) (Here n l ls es) e h

at-rule : (n : ℕ) (l : List ℕ) (ls : List (List ℕ)) (es : List Entry) → skipped (content l) ≡ false → Holds n (l ∷ ls) es → Here n l ls es
at-rule n l ls es e h = MatchBool-at_false (Holds (n + 1) ls es) (Here n l ls es) e h

-- the names of a table's rules are settled by its lines
same_names : (n k : ℕ) (ls : List (List ℕ)) (es ds : List Entry) → Holds n ls es → Holds k ls ds → map name_of es ≡ map name_of ds
same_names n k [] es ds h g = ap (map name_of) (h ∙ sym g)
same_names n k (l ∷ ls) es ds h g =
    ⊎_elim
    (λ skip. same_names (n + 1) (k + 1) ls es ds (past_skip n l ls es skip h) (past_skip k l ls ds skip g))
    (λ plain.
    let a = at-rule n l ls es plain h in
    let b = at-rule k l ls ds plain g in
    let heads = rule-names n k (content l) a.0 b.0 a.3 b.3 in
    let tails = same_names (n + 1) (k + 1) ls a.1 b.1 a.4 b.4 in
    ap (map name_of) a.2 ∙ (λ i. heads i ∷ tails i) ∙ sym (ap (map name_of) b.2))
    (cases_Bool (skipped (content l)))

-- what the lines xs hold, and what the lines ys after them hold
record Halves (n : ℕ) (xs ys : List (List ℕ)) (es : List Entry) : Type 0 where
  first : List Entry
  rest : List Entry
  place : ℕ
  whole : es ≡ first ++ rest
  held : Holds n xs first
  on : Holds place ys rest

halves : (n : ℕ) (xs ys : List (List ℕ)) (es : List Entry) → Holds n (xs ++ ys) es → Halves n xs ys es
halves n [] ys es h = record { first = []; rest = es; place = n; whole = refl; held = refl; on = h }
halves n (l ∷ xs) ys es h =
    ⊎_elim
    (λ skip.
    let t = halves (n + 1) xs ys es (past_skip n l (xs ++ ys) es skip h) in
    record { first = t.first; rest = t.rest; place = t.place; whole = t.whole; held = when_true (skipped (content l)) _ (Here n l xs t.first) skip t.held; on = t.on })
    (λ plain.
    let a = at-rule n l (xs ++ ys) es plain h in
    let t = halves (n + 1) xs ys a.1 a.4 in
    record {
      first = a.0 ∷ t.first;
      rest = t.rest;
      place = t.place;
      whole = a.2 ∙ ap (λ r. a.0 ∷ r) t.whole;
      held = when_false (skipped (content l)) (Holds (n + 1) xs (a.0 ∷ t.first)) _ plain (a.0, t.first, refl, a.3, t.held);
      on = t.on;
    })
    (cases_Bool (skipped (content l)))

-- rules with names of their own have no name twice
twice-never : (es ds rules more : List Entry) (e x : Entry) (i : ℕ) → Apart es → es ≡ ds ++ (e ∷ more) → map name_of rules ≡ map name_of ds → name_of x ≡ name_of e → i < length rules → ((d : Entry) → name_of (get_or rules i d) ≡ name_of x) → ⊥
twice-never es ds rules more e x i apart whole names same_name l at =
    let long : length rules ≡ length ds = sym (length-map rules name_of) ∙ ap length names ∙ length-map ds name_of in
    let within : i < length ds = omega arith in
    let same : name_of (get_or ds i e) ≡ name_of e = sym (get_or-map name_of ds i e [] within) ∙ sym (ap (λ ns. get_or ns i []) names) ∙ get_or-map name_of rules i e [] l ∙ at e ∙ same_name in
    let first : get_or es i e ≡ get_or ds i e = ap (λ l. get_or l i e) whole ∙ get_or_append_left ds (e ∷ more) e i within in
    let last : get_or es (length ds) e ≡ e = ap (λ l. get_or l (length ds) e) whole ∙ get_or_at ds e more e (length ds) refl in
    apart i (length ds) e within (omega (arith, ap length whole ∙ length-append ds (e ∷ more))) (ap name_of first ∙ same ∙ sym (ap name_of last))

module _ (es ds rules more : List Entry) (e : Entry) (n k : ℕ) (bs : List ℕ) (apart : Apart es) (whole : es ≡ ds ++ (e ∷ more)) (names : map name_of rules ≡ map name_of ds) (rule : RuleAt n bs e) where
  fault-never : (f : TableFault) → FaultAfter rules k bs f → ⊥
  fault-never (NoColon j) h = let z = rule-never n k bs e (NoColon j) rule h in cc
  fault-never (NoName j) h = let z = rule-never n k bs e (NoName j) rule h in cc
  fault-never (NotAWord j found why) h = let z = rule-never n k bs e (NotAWord j found why) rule h in cc
  fault-never (NameTwice j name before) h =
      let x = h.1.0 in
      let stands = h.1.3 in
      twice-never es ds rules more e x stands.0 apart whole names (rule-names k n bs x e h.1.1 rule) stands.1 (λ d. (stands.2 d).0)
  fault-never (NotUtf8 j) h = h
  fault-never Memory h = h

table-never : (text : List ℕ) (es : List Entry) (f : TableFault) → Holds 1 (lines text) es → Apart es → FaultIn text f → ⊥
table-never text es f h apart bad =
    let t = halves 1 bad.before (bad.line ∷ bad.after) es (subst (λ ls. Holds 1 ls es) bad.whole h) in
    let here = at-rule t.place bad.line bad.after t.rest bad.kept t.on in
    let whole = t.whole ∙ ap (λ r. t.first ++ r) here.2 in
    let names = same_names 1 1 bad.before bad.rules t.first bad.held t.held in
    fault-never es t.first bad.rules here.1 here.0 t.place _ (content bad.line) apart whole names here.3 f bad.fault

pub keeps-tables : {Z : Type 0} (text : List ℕ) (r : Result (Vec Entry Z) TableFault) → TableAs text r → KeepsTables text r
keeps-tables text (Ok v) h = λ es held apart. tt
keeps-tables text (Err f) h = λ es held apart. ⊎_elim (λ e. e) (λ bad. absurd (table-never text es f held apart bad)) h

pub no_text : (bytes : List ℕ) (at : ℕ) → IsValidUpTo bytes at → IsUtf8 bytes → ⊥
no_text bytes at h u = h.longest (length bytes) h.short (subst IsUtf8 (sym (take_all (length bytes) bytes (omega arith))) u)
