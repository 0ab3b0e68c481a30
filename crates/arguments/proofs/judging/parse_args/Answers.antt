use Rattle.std.proofs.Common.{inl, inr, rules}
use Rattle.arguments.specs.Files.{ChangedAs, ComparedAs}
use Rattle.arguments.specs.Judging.{JudgingAs}
use Rattle.arguments.proofs.Tails.{read_as, refused}
use Rattle.arguments.proofs.judging.parse_args.Goals as goal

pub returns-in_err-table_and_names-in-compare-clause-reads : goal.returns-in_err-table_and_names-in-compare-clause-reads
returns-in_err-table_and_names-in-compare-clause-reads c =
    refused (JudgingAs _) _ c.from_residual-in_err-table_and_names-in-compare.ensures.1
    (inl (inr (inr (inl (search rules, read_as ComparedAs _ c.in_err-table_and_names-in-compare.was c.table_and_names.ensures)))))

pub returns-in_err-two_tables-in-change-clause-reads : goal.returns-in_err-two_tables-in-change-clause-reads
returns-in_err-two_tables-in-change-clause-reads c =
    refused (JudgingAs _) _ c.from_residual-in_err-two_tables-in-change.ensures.1
    (inl (inr (inr (inr (search rules, read_as ChangedAs _ c.in_err-two_tables-in-change.was c.two_tables.ensures)))))
