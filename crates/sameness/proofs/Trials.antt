-- The trial rules, by computation.
use Rattle.std.proofs.Common.{refl}
use Rattle.rule.specs.Scopes.{role, compares}
use Rattle.rule.specs.Marks.{size, size_all, steps, steps_all, and_then, at_declaration, at_use, note, note_all}
use Rattle.sameness.specs.Reduction.{is_absent, is_return, returns, shape_of_body, shape_of_block, shape, shaped, reduce, reduce_all}
use Rattle.sameness.specs.Sameness.{bare_v, bare_w}
use Rattle.sameness.specs.Deciding.{blank, add, ahead, behind, matched, fresh, direct_test, reverses_test, reversed_test, at_roles, exchanging, decide, decide_all}
use Rattle.sameness.specs.TrialRules.{TrialRules}
use Rattle.sameness.proofs.Computed.{same_by, differ-by}

pub trial-rules : TrialRules
unfolding role compares size size_all steps steps_all and_then at_declaration at_use note note_all is_absent is_return returns shape_of_body shape_of_block shape shaped reduce reduce_all bare_v bare_w ahead behind matched fresh direct_test reverses_test reversed_test at_roles exchanging decide decide_all
trial-rules =
    record {
      other_value = differ-by _ _ refl refl refl;
      renamed_locals = same_by _ _ (add 1 0 (add 0 5 blank)) refl refl refl;
      free_and_declared = differ-by _ _ refl refl refl;
      reversed = same_by _ _ blank refl refl refl;
      not_reversed = differ-by _ _ refl refl refl;
      empty_block = same_by _ _ blank refl refl refl;
      unsafe_empty_block = differ-by _ _ refl refl refl;
      return_statement = same_by _ _ blank refl refl refl;
      block_in_block = differ-by _ _ refl refl refl;
      more_arguments = differ-by _ _ refl refl refl;
      more_constant_arguments = differ-by _ _ refl refl refl;
    }
