-- A node of a rule as its run has it. What is said of it here does not depend on where its children's numbers are in memory.
use Rattle.std.specs.Prelude.{ℕ, List, take, drop}
use Rattle.rule.specs.declared.nodes.Node.{Node}
use Rattle.sameness.specs.declared.kind.Kind.{Kind}
use Rattle.sameness.specs.Reducing.{kind_in}

abbrev pub node_in : List ℕ → Kind → Node
node_in ws k = record { code = k.code; v = k.v; w = k.w; first = k.first; kids = record { ref_ptr = (0, 0); now = take k.kids (drop k.first ws) } }

-- what node i comes to
abbrev pub node_at : List ℕ → List Kind → ℕ → Node
node_at ws ks i = node_in ws (kind_in ks i)
