use Rattle.sameness.proofs.deciding.Goals as goal
use Rattle.sameness.proofs.Theorems.{decided, table-renames}
use Rattle.sameness.proofs.Untested.{test-never-fails}

pub returns : goal.returns
returns c = record { decided = decided; table_renames = table-renames; test_never_fails = test-never-fails }
