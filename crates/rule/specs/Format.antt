-- The rows of the format: for each code, which words v and w may be and which children the node has.
use Rattle.std.specs.Prelude.{ℕ, Bool, false, ◌&&◌, ◌||◌, List, [], ◌∷◌, length, Some, None, Option, ◌==◌, nat_le}
use Rattle.rule.specs.declared.rows.Class.{Class}
use Rattle.rule.specs.declared.rows.Class.TheVariants.{Absent, Expr, Pat, EndPat, Ty, QPath, Segment, Const, Lit, Block, Stmt, Arm, ExprField, PatField}
use Rattle.rule.specs.declared.rows.Span.{Span}
use Rattle.rule.specs.declared.rows.Place.{Place}
use Rattle.rule.specs.declared.rows.Place.TheVariants.{One, Maybe, Either}
use Rattle.rule.specs.declared.rows.Front.{Front}
use Rattle.rule.specs.declared.rows.Row.{Row}

---- the language of rows

abbrev pub from : ℕ → ℕ → Span
from a b = record { low = a; high = b }

abbrev pub zero_only : Span
zero_only = from 0 0

abbrev pub any_word : Span
any_word = from 0 4294967295

abbrev pub up_to : ℕ → Span
up_to n = from 0 n

-- four places, None where the row has fewer
abbrev pub placed : Option Place → Option Place → Option Place → Option Place → Front
placed p q r s = record { a = p; b = q; c = r; d = s }

abbrev pub padded : List Place → Front
padded [] = placed None None None None
padded (p ∷ []) = placed (Some p) None None None
padded (p ∷ (q ∷ [])) = placed (Some p) (Some q) None None
padded (p ∷ (q ∷ (r ∷ []))) = placed (Some p) (Some q) (Some r) None
padded (p ∷ (q ∷ (r ∷ (s ∷ ps)))) = placed (Some p) (Some q) (Some r) (Some s)

-- a row with just these children
abbrev pub exactly : ℕ → Class → Span → Span → List Place → Row
exactly c k v w ps = record { code = c; class = k; v = v; w = w; front = padded ps; count = length ps; many = None; last = None }

-- a row with these children first, then any number of one kind, then perhaps one more
abbrev pub several : ℕ → Class → Span → Span → List Place → Place → Option Place → Row
several c k v w ps m l = record { code = c; class = k; v = v; w = w; front = padded ps; count = length ps; many = Some m; last = l }

---- the rows

unfoldable pub format : List Row
format =
    exactly 0 Absent zero_only zero_only [] ∷  -- Absent
    exactly 10 Expr zero_only (up_to 1) ((One Expr) ∷ []) ∷  -- AddrOf
    several 11 Expr zero_only zero_only [] (One Expr) None ∷  -- Array
    exactly 12 Expr zero_only zero_only ((One Expr) ∷ (One Expr) ∷ []) ∷  -- Assign
    exactly 13 Expr (up_to 4) zero_only ((One Expr) ∷ (One Expr) ∷ []) ∷  -- AssignOp: Add to Rem
    exactly 13 Expr (from 7 11) zero_only ((One Expr) ∷ (One Expr) ∷ []) ∷  -- AssignOp: BitXor to Shr
    exactly 14 Expr (up_to 17) zero_only ((One Expr) ∷ (One Expr) ∷ []) ∷  -- Binary
    exactly 15 Expr any_word zero_only ((One Block) ∷ []) ∷  -- Block
    exactly 16 Expr any_word zero_only ((Maybe Expr) ∷ []) ∷  -- Break
    several 17 Expr zero_only zero_only ((One Expr) ∷ []) (One Expr) None ∷  -- Call
    exactly 18 Expr zero_only zero_only ((One Expr) ∷ (One Ty) ∷ []) ∷  -- Cast
    exactly 19 Expr zero_only zero_only ((One Expr) ∷ []) ∷  -- Closure
    exactly 20 Expr any_word zero_only [] ∷  -- Continue
    exactly 21 Expr any_word zero_only ((One Expr) ∷ []) ∷  -- Field
    exactly 22 Expr zero_only zero_only ((One Expr) ∷ (One Expr) ∷ []) ∷  -- Index
    exactly 23 Expr zero_only zero_only ((One Expr) ∷ (One Expr) ∷ (Maybe Expr) ∷ []) ∷  -- If
    exactly 24 Expr zero_only zero_only ((One Expr) ∷ (Maybe Ty) ∷ (One Pat) ∷ []) ∷  -- Let
    exactly 25 Expr zero_only zero_only ((One Lit) ∷ []) ∷  -- Lit
    exactly 26 Expr any_word (up_to 2) ((One Block) ∷ []) ∷  -- Loop
    several 27 Expr (up_to 3) zero_only ((One Expr) ∷ []) (One Arm) None ∷  -- Match
    several 28 Expr zero_only zero_only ((One Segment) ∷ (One Expr) ∷ []) (One Expr) None ∷  -- MethodCall
    exactly 29 Expr zero_only zero_only ((One QPath) ∷ []) ∷  -- Path
    exactly 30 Expr zero_only zero_only ((One Expr) ∷ (One Const) ∷ []) ∷  -- Repeat
    exactly 31 Expr zero_only zero_only ((Maybe Expr) ∷ []) ∷  -- Ret
    several 32 Expr zero_only zero_only ((One QPath) ∷ (One Absent) ∷ []) (One ExprField) None ∷  -- Struct without a tail
    several 32 Expr (from 1 1) zero_only ((One QPath) ∷ (One Expr) ∷ []) (One ExprField) None ∷  -- Struct with a base
    several 32 Expr (from 2 2) zero_only ((One QPath) ∷ (One Absent) ∷ []) (One ExprField) None ∷  -- Struct with default fields
    several 33 Expr zero_only zero_only [] (One Expr) None ∷  -- Tup
    exactly 34 Expr (up_to 2) zero_only ((One Expr) ∷ []) ∷  -- Unary
    exactly 35 Expr zero_only zero_only ((One Expr) ∷ []) ∷  -- Become
    exactly 36 Expr zero_only zero_only [] ∷  -- Err
    exactly 40 Pat zero_only zero_only [] ∷  -- Wild
    exactly 41 Pat any_word (up_to 5) ((Maybe Pat) ∷ []) ∷  -- Binding
    exactly 42 EndPat zero_only (up_to 1) ((One Lit) ∷ []) ∷  -- Literal
    exactly 43 EndPat zero_only zero_only ((One QPath) ∷ []) ∷  -- Path
    several 44 Pat any_word zero_only [] (One Pat) None ∷  -- Tuple
    several 45 Pat any_word zero_only ((One QPath) ∷ []) (One Pat) None ∷  -- TupleStruct
    several 46 Pat (up_to 1) zero_only ((One QPath) ∷ []) (One PatField) None ∷  -- Struct
    exactly 47 Pat zero_only (up_to 1) ((Maybe EndPat) ∷ (Maybe EndPat) ∷ []) ∷  -- Range
    exactly 48 Pat zero_only (up_to 1) ((One Pat) ∷ []) ∷  -- Ref
    several 50 Pat zero_only zero_only [] (One Pat) None ∷  -- Or
    exactly 60 Ty zero_only zero_only ((One Ty) ∷ []) ∷  -- Slice
    exactly 61 Ty zero_only zero_only ((One Ty) ∷ (One Const) ∷ []) ∷  -- Array
    exactly 62 Ty zero_only (up_to 1) ((One Ty) ∷ []) ∷  -- Ptr
    exactly 63 Ty any_word (up_to 1) ((One Ty) ∷ []) ∷  -- Ref
    exactly 64 Ty zero_only zero_only ((One QPath) ∷ []) ∷  -- Path
    several 65 Ty zero_only zero_only [] (One Ty) None ∷  -- Tup
    exactly 66 Ty zero_only zero_only [] ∷  -- Infer
    exactly 67 Ty zero_only zero_only [] ∷  -- Never
    exactly 70 QPath zero_only any_word ((One Absent) ∷ []) ∷  -- Resolved: a local
    several 70 QPath (from 1 6) any_word ((Maybe Ty) ∷ (One Segment) ∷ []) (One Segment) None ∷  -- Resolved: a definition
    several 70 QPath (from 7 7) zero_only ((Maybe Ty) ∷ (One Segment) ∷ []) (One Segment) None ∷  -- Resolved: any other
    exactly 71 QPath zero_only zero_only ((One Ty) ∷ (One Segment) ∷ []) ∷  -- TypeRelative
    several 72 Segment any_word zero_only [] (Either Ty Const) None ∷  -- Segment
    exactly 80 Const zero_only zero_only ((One QPath) ∷ []) ∷  -- Path
    exactly 81 Const zero_only (up_to 1) ((One Lit) ∷ []) ∷  -- Literal
    exactly 82 Const zero_only zero_only [] ∷  -- Infer
    several 84 Const zero_only zero_only ((One QPath) ∷ []) (One Const) None ∷  -- TupleCall
    exactly 90 ExprField any_word zero_only ((One Expr) ∷ []) ∷  -- field of an expression
    exactly 91 PatField any_word zero_only ((One Pat) ∷ []) ∷  -- field of a pattern
    exactly 93 Arm zero_only zero_only ((One Pat) ∷ (Maybe Expr) ∷ (One Expr) ∷ []) ∷  -- Arm
    several 94 Block (up_to 1) zero_only [] (One Stmt) (Some (Maybe Expr)) ∷  -- block
    exactly 95 Stmt zero_only zero_only ((Maybe Expr) ∷ (Maybe Ty) ∷ (Maybe Block) ∷ (One Pat) ∷ []) ∷  -- Let
    exactly 96 Stmt zero_only zero_only ((One Expr) ∷ []) ∷  -- Expr
    exactly 97 Stmt zero_only zero_only ((One Expr) ∷ []) ∷  -- Semi
    exactly 100 Lit any_word any_word [] ∷  -- integer without a suffix
    exactly 101 Lit any_word any_word [] ∷  -- integer i8
    exactly 102 Lit any_word any_word [] ∷  -- integer i16
    exactly 103 Lit any_word any_word [] ∷  -- integer i32
    exactly 104 Lit any_word any_word [] ∷  -- integer i64
    exactly 105 Lit any_word any_word [] ∷  -- integer isize
    exactly 106 Lit any_word any_word [] ∷  -- integer u8
    exactly 107 Lit any_word any_word [] ∷  -- integer u16
    exactly 108 Lit any_word any_word [] ∷  -- integer u32
    exactly 109 Lit any_word any_word [] ∷  -- integer u64
    exactly 110 Lit any_word any_word [] ∷  -- integer usize
    exactly 111 Lit any_word zero_only [] ∷  -- text
    exactly 112 Lit any_word zero_only [] ∷  -- byte string
    exactly 113 Lit (up_to 55295) zero_only [] ∷  -- character below the surrogates
    exactly 113 Lit (from 57344 1114111) zero_only [] ∷  -- character above the surrogates
    exactly 114 Lit (up_to 255) zero_only [] ∷  -- byte
    exactly 115 Lit (up_to 1) zero_only [] ∷  -- truth
    exactly 116 Lit any_word (up_to 2) [] ∷  -- float
    []

---- what they mean

-- the word x is one of the span's
abbrev pub within : Span → ℕ → Bool
within s x = nat_le s.low x && nat_le x s.high

-- classes by number, to tell them apart
abbrev pub rank : Class → ℕ
rank Absent = 0
rank Expr = 1
rank Pat = 2
rank EndPat = 3
rank Ty = 4
rank QPath = 5
rank Segment = 6
rank Const = 7
rank Lit = 8
rank Block = 9
rank Stmt = 10
rank Arm = 11
rank ExprField = 12
rank PatField = 13

abbrev pub is_class : Class → Class → Bool
is_class a b = rank a == rank b

-- a child of the class k may stand where one of the class c is wanted: a pattern that may end a range is a pattern
abbrev pub serves : Class → Class → Bool
serves c k = is_class c k || (is_class c Pat && is_class k EndPat)

abbrev pub admits : Place → Class → Bool
admits (One c) k = serves c k
admits (Maybe c) k = is_class Absent k || serves c k
admits (Either c d) k = serves c k || serves d k

-- nothing may stand where there is no place
abbrev pub admitted : Option Place → Class → Bool
admitted None k = false
admitted (Some p) k = admits p k
