-- No unit of a script is above its limit. Assumes nothing.
use Rattle.std.proofs.Common.{◌≡◌, ℕ, zero, suc, ◌<◌, List, [], ◌∷◌, length, get_or, sym, ap, subst, ⊎_elim, arith}
use Rattle.std.proofs.lemmas.List.{get_or-map, length-map}
use Rattle.std.proofs.lemmas.Bool.{MatchBool-at_true, MatchBool-at_false, cases_Bool}
use Rattle.tables.specs.Lines.{content, skipped}
use Rattle.scripts.specs.Calls.{Told, told, told_all, AfterVerb, CallAs, Under, AllUnder}
use Rattle.scripts.specs.Headings.{HeadingAs}
use Rattle.scripts.specs.Scripts.{limit_of, Whole, CallsIn, ScriptIn}
use Rattle.scripts.specs.declared.call.Call.{Call}
use Rattle.scripts.specs.declared.heading.Kind.{Kind}
use Rattle.scripts.specs.declared.verb.Verb.{Verb}
use Rattle.scripts.specs.declared.verb.Verb.TheVariants.{Enter, Find, Cut, Count, Class, Hash, Run}

after-under : (limit : ℕ) (v : Verb) (rest : List ℕ) (t : Told) → AfterVerb limit v rest t → Under limit t
after-under limit Enter rest t x = subst (Under limit) (sym x.1) x.2.under
after-under limit Find rest t x = subst (Under limit) (sym x.1) x.2.under
after-under limit Cut rest t x = subst (Under limit) (sym x.1) tt
after-under limit Count rest t x = subst (Under limit) (sym x.0) tt
after-under limit Class rest t x = subst (Under limit) (sym x.1) tt
after-under limit Hash rest t x = subst (Under limit) (sym x.1) tt
after-under limit Run rest t x = subst (Under limit) (sym x.1) tt

-- each of ts is under the limit
abbrev Each : ℕ → List Told → Type 0
Each limit ts = (i : ℕ) (d : Told) → i < length ts → Under limit (get_or ts i d)

each-cons : (limit : ℕ) (t : Told) (ts : List Told) → Under limit t → Each limit ts → Each limit (t ∷ ts)
each-cons limit t ts h rest zero d l = h
each-cons limit t ts h rest (suc i) d l = rest i d (omega arith)

calls-under : (limit : ℕ) (ls : List (List ℕ)) (ts : List Told) → CallsIn limit ls ts → Each limit ts
calls-under limit [] ts e = λ i d l. absurd (omega (arith, ap length e))
calls-under limit (l ∷ ls) ts x =
    let Here : Type 0 = (t : Told) × (more : List Told) × (ts ≡ t ∷ more) × CallAs limit (content l) t × CallsIn limit ls more in
    ⊎_elim
    (λ skip. calls-under limit ls ts (MatchBool-at_true (CallsIn limit ls ts) Here skip x))
    (λ plain.
    let here = MatchBool-at_false (CallsIn limit ls ts) Here plain x in
    let q = here.3.0 in
    subst (Each limit) (sym here.2) (each-cons limit here.0 here.1 (after-under limit q.0 q.1 here.0 here.3.2) (calls-under limit ls here.1 here.4)))
    (cases_Bool (skipped (content l)))

script-under : (ls : List (List ℕ)) (s : Whole) → ScriptIn ls s → Each (limit_of s.0.0) s.1
script-under [] s x = absurd x
script-under (l ∷ ls) s x =
    let Here : Type 0 = HeadingAs (content l) s.0 × CallsIn (limit_of s.0.0) ls s.1 in
    ⊎_elim
    (λ skip. script-under ls s (MatchBool-at_true (ScriptIn ls s) Here skip x))
    (λ plain. calls-under (limit_of s.0.0) ls s.1 (MatchBool-at_false (ScriptIn ls s) Here plain x).1)
    (cases_Bool (skipped (content l)))

pub narrow-enough : (ls : List (List ℕ)) (s : Whole) (kind : Kind) (cs bs : List (Call ℕ)) → ScriptIn ls s → s.1 ≡ told_all cs → s.0.0 ≡ kind → bs ≡ cs → AllUnder (limit_of kind) bs
narrow-enough ls s kind cs bs x calls is same =
    let each = subst (λ k. Each (limit_of k) (told_all cs)) is (subst (Each (limit_of s.0.0)) calls (script-under ls s x)) in
    subst (AllUnder (limit_of kind)) (sym same) (λ i d l.
    subst (Under (limit_of kind)) (get_or-map told cs i d (told d) l) (each i (told d) (omega (arith, length-map cs told))))
