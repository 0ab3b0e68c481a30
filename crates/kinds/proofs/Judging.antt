-- What comparing and hashing sound rules answers.
use Rattle.std.proofs.Common.{◌≡◌, ℕ, Bool, true, false, List, Ok, Err, Result, refl, ◌∙◌}
use Rattle.std.specs.Prelude.{IsTrue, ◌↔◌}
use Rattle.rule.specs.declared.fault.Fault.{Fault}
use Rattle.rule.specs.Faults.{number_of}
use Rattle.sameness.specs.declared.compare.Unfit.{Unfit}
use Rattle.sameness.specs.declared.compare.Unfit.TheVariants.{First, Second}
use Rattle.sameness.specs.Comparing.{ComparedOver, Unsound}
use Rattle.feed.proofs.Steps.{hash-rule}
use Rattle.feed.specs.Hashed.{Hashed}
use Rattle.catalogue.specs.Kinds.{SoundBy}
use Rattle.kinds.specs.Rules.{meets_rule, rule_feed, same_rule}

unsound-not : (ws : List ℕ) (f : Fault) → SoundBy meets_rule ws → Unsound ws f → ⊥
unsound-not ws f sound refused = sound (number_of f) (f, refl, refused.0.met)

-- they are compared, whatever is said of others
pub compared-sound : (ws us ps qs : List ℕ) (r : Result Bool Unfit) (b : Bool) → ComparedOver ws us ps qs r → ((same : Bool) → r ≡ Ok same → b ≡ same)
    → SoundBy meets_rule ws → SoundBy meets_rule us → (IsTrue b ↔ same_rule ws us)
compared-sound ws us ps qs (Ok true) b c e _ _ = (λ _. c.2.same, λ _. e true refl)
compared-sound ws us ps qs (Ok false) b c e _ _ = (λ t. absurd (let f = e false refl in cc), λ s. absurd (c.2.differ s))
compared-sound ws us ps qs (Err (First f)) b c e x y = absurd (unsound-not ws f x c.0)
compared-sound ws us ps qs (Err (Second f)) b c e x y = absurd (unsound-not us f y c.0.1)

-- and hashed
pub hashed-sound : (f : List ℕ → ℕ) (ws : List ℕ) (r : Result ℕ Fault) (h : ℕ) → Hashed f ws r → ((hash : ℕ) → r ≡ Ok hash → h ≡ hash) → SoundBy meets_rule ws → h ≡ f (rule_feed f ws)
hashed-sound f ws (Ok hash) h c e _ = e hash refl ∙ c.1 ∙ hash-rule _ _
hashed-sound f ws (Err g) h c e x = absurd (unsound-not ws g x c)
