use Rattle.std.proofs.Common.{rules}
use Rattle.arguments.specs.Hashers.{HashedAs}
use Rattle.arguments.proofs.Tails.{at_after, ended, refused, surplus}
use Rattle.arguments.proofs.hashed.table_and_hasher.Goals as goal

pub returns-in_ok-alone-in-len2-up-rest : goal.returns-in_ok-alone-in-len2-up-rest
returns-in_ok-alone-in-len2-up-rest c =
    let n = at_after 1 0 c.args.rest.now c.name-item.is in
    let t = at_after 1 1 c.args.rest.now c.table-item.is in
    let z = ended 2 _ c.in_ok-alone-in-len2-up-rest.was c.alone.ensures in
    search rules

pub returns-in_err-alone-in-len2-up-rest : goal.returns-in_err-alone-in-len2-up-rest
returns-in_err-alone-in-len2-up-rest c =
    let more = surplus 1 2 c.args.rest.now c.in_err-alone-in-len2-up-rest.was c.alone.ensures in
    refused (HashedAs _) _ c.from_residual.ensures.1 (rw more.1 (search rules))

pub returns-in_ok-alone-in-len1-up-rest : goal.returns-in_ok-alone-in-len1-up-rest
returns-in_ok-alone-in-len1-up-rest c =
    let n = at_after 2 0 c.args.rest.now c.name-item-in-len2-up.is in
    let z = ended 1 _ c.in_ok-alone-in-len1-up-rest.was c.alone-in-len1-up-rest.ensures in
    search rules

pub returns-in_err-alone-in-len1-up-rest : goal.returns-in_err-alone-in-len1-up-rest
returns-in_err-alone-in-len1-up-rest c =
    let more = surplus 2 1 c.args.rest.now c.in_err-alone-in-len1-up-rest.was c.alone-in-len1-up-rest.ensures in
    refused (HashedAs _) _ c.from_residual-in_err-alone-in-len1-up-rest.ensures.1 (rw more.1 (search rules))
