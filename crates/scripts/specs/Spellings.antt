-- No two words are spelled alike. Assumes nothing.
use Rattle.std.specs.Prelude.{◌≡◌, ℕ, cond, List, refl, ◌==◌}
use Rattle.std.proofs.Common.{get_or, sym, ap, ◌∙◌}
use Rattle.hashing.specs.Named.{spelling}
use Rattle.hashing.specs.declared.named.HasherName.{HasherName}
use Rattle.hashing.specs.declared.named.HasherName.TheVariants.{Rotating, Fnv1a}
use Rattle.scripts.specs.Calls.{verb_word}
use Rattle.scripts.specs.Headings.{kind_word}
use Rattle.scripts.specs.declared.heading.Kind.{Kind}
use Rattle.scripts.specs.declared.heading.Kind.TheVariants.{Rules, Names}
use Rattle.scripts.specs.declared.verb.Verb.{Verb}
use Rattle.scripts.specs.declared.verb.Verb.TheVariants.{Enter, Find, Cut, Count, Class, Hash, Run}

-- what the first two letters of a word tell
abbrev verb_by : ℕ → ℕ → Verb
verb_by a b = cond (a == 101) Enter (cond (a == 102) Find (cond (a == 104) Hash (cond (a == 114) Run (cond (b == 117) Cut (cond (b == 111) Count Class)))))

abbrev verb_at : List ℕ → Verb
verb_at bs = verb_by (get_or bs 0 0) (get_or bs 1 0)

verb-back : (v : Verb) → verb_at (verb_word v) ≡ v
verb-back Enter = refl
verb-back Find = refl
verb-back Cut = refl
verb-back Count = refl
verb-back Class = refl
verb-back Hash = refl
verb-back Run = refl

pub verb-same : (u v : Verb) → verb_word u ≡ verb_word v → u ≡ v
verb-same u v e = sym (verb-back u) ∙ ap verb_at e ∙ verb-back v

abbrev kind_at : List ℕ → Kind
kind_at bs = cond (get_or bs 0 0 == 114) Rules Names

kind-back : (k : Kind) → kind_at (kind_word k) ≡ k
kind-back Rules = refl
kind-back Names = refl

pub kind-same : (u v : Kind) → kind_word u ≡ kind_word v → u ≡ v
kind-same u v e = sym (kind-back u) ∙ ap kind_at e ∙ kind-back v

abbrev hasher_at : List ℕ → HasherName
hasher_at bs = cond (get_or bs 0 0 == 114) Rotating Fnv1a

hasher-back : (h : HasherName) → hasher_at (spelling h) ≡ h
hasher-back Rotating = refl
hasher-back Fnv1a = refl

pub hasher-same : (u v : HasherName) → spelling u ≡ spelling v → u ≡ v
hasher-same u v e = sym (hasher-back u) ∙ ap hasher_at e ∙ hasher-back v
