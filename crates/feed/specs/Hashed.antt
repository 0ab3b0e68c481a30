-- What hashing a run of words answers.
use Rattle.std.specs.Prelude.{◌≡◌, ℕ, ◌<◌, ◌≤◌, List, length, Ok, Err, Result}
use Rattle.rule.specs.declared.fault.Fault.{Fault}
use Rattle.rule.specs.Trees.{tree_of}
use Rattle.rule.specs.Intake.{nodes}
use Rattle.sameness.specs.declared.kind.Kind.{Kind}
use Rattle.sameness.specs.Reducing.{NodeReduced, kind_in}
use Rattle.sameness.specs.Comparing.{Sound, Unsound}
use Rattle.feed.specs.Feed.{hash_of}

-- the hash of the rule's tree by the hasher f, if the run is a rule
abbrev pub Hashed : (List ℕ → ℕ) → List ℕ → Result ℕ Fault → Type 0
Hashed f ws (Ok h) = Sound ws × (h ≡ hash_of f (tree_of ws))
Hashed f ws (Err g) = Unsound ws g

-- what each node of such a run comes to
pub record AllReduced (ws : List ℕ) (ks : List Kind) : Type 0 where
  pub short : length ws ≤ 8192
  pub some : 0 < length ks
  pub few : length ks ≤ 2048
  pub all : length ks ≡ nodes ws
  pub each : (i : ℕ) → i < length ks → NodeReduced ws i (kind_in ks i)
