-- The number of each ground on which a run is refused, and its words.
use Rattle.std.specs.Prelude.{ℕ, List, codes}
use Rattle.rule.specs.declared.fault.Fault.{Fault}
use Rattle.rule.specs.declared.fault.Fault.TheVariants.{TooLong, CutShort, OutsideRow, NotATree, WrongClass, BadScope, SameAsNothing}

abbrev pub number_of : Fault → ℕ
number_of TooLong = 1
number_of CutShort = 2
number_of OutsideRow = 3
number_of NotATree = 4
number_of WrongClass = 5
number_of BadScope = 6
number_of SameAsNothing = 7

abbrev pub ground_of : Fault → List ℕ
ground_of TooLong = codes "longer than 8192 words"
ground_of CutShort = codes "empty, or ends inside a node"
ground_of OutsideRow = codes "a code without a row, or a word outside its row"
ground_of NotATree = codes "a child number not below its node's, or a node that is not a child exactly once"
ground_of WrongClass = codes "children or root not of the row's classes or count"
ground_of BadScope = codes "a local above 1023, declared twice, used before it is declared, or used outside its operand"
ground_of SameAsNothing = codes "a code that is the same as nothing"
