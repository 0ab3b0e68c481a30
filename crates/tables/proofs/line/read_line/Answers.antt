use Rattle.std.proofs.Common.{◌≡◌, ◌<◌, false, length, Some, Ok, Err, string_bytes, Option, Result, sym, refl, ap, ◌∙◌, subst, arith, lit<, true-eqb, false-eqb}
use Rattle.std.proofs.lemmas.Str.Pattern.{split_parts}
use Rattle.std.proofs.lemmas.Result.{err_from_is_err_and, IfOk-at_ok}
use Rattle.tables.specs.Lines.{content, skipped, Parted, LineAs, KeepsRules}
use Rattle.tables.specs.Pieces.{Trimmed}
use Rattle.tables.specs.declared.fault.TableFault.{TableFault}
use Rattle.tables.specs.declared.fault.TableFault.TheVariants.{NoColon, NoName}
use Rattle.tables.specs.declared.line.Entry.{Entry}
use Rattle.tables.proofs.Faults.{line-fault, all-blank}
use Rattle.tables.proofs.Mapped.{given-error}
use Rattle.tables.proofs.Sole.{keeps-rules}
use Rattle.tables.proofs.line.read_line.Goals as goal
use Rattle.tables.proofs.line.read_line.Goals.{Else-is_skipped, In_ok-front}

plain : (c : Else-is_skipped) → skipped c.before_return-content.result.now ≡ false
plain c = sym c.is_skipped.ensures ∙ c.if-is_skipped.false

parted : (c : In_ok-front) → Parted c.before_return-content.result.now c.in_ok-front.front.now c.in_ok-front.run'.now
parted c =
    let found = split_parts 58 c.before_return-content.result.now c.split_once.result c.split_once.ensures.cases (lit< tt) in
    let parts = rw c.in_ok-front.ensures.ok_part at found in
    record { whole = parts.0; first = parts.1 }

-- what is read, and that no rule is refused
kept : (c : Else-is_skipped) (r : Result (Option Entry) TableFault) → LineAs c.args.line.number c.before_return-content.result.now r → LineAs c.args.line.number (content c.args.text.now) r × KeepsRules c.args.line.number (content c.args.text.now) r
kept c r h =
    let told = subst (λ bs. LineAs c.args.line.number bs r) c.before_return-content.ensures h in
    (told, keeps-rules c.args.line.number (content c.args.text.now) r told)

pub returns-in_err-front : goal.returns-in_err-front
returns-in_err-front c =
    let p = err_from_is_err_and c.from_residual.result c.from_residual.ensures.1 in
    let at = goal.at.returns-in_err-front c in
    let found = split_parts 58 c.before_return-content.result.now c.split_once.result c.split_once.ensures.cases (lit< tt) in
    let none = rw c.in_err-front.ensures.ok_part at found in
    let why = given-error c.split_once.result c.in_err-front.field-0.0 (NoColon c.args.line.number) c.in_err-front.ensures.ok_part c.in_err-front.ensures.value in
    let both = kept at.Else-is_skipped c.from_residual.result
    (subst (LineAs c.args.line.number c.before_return-content.result.now) (sym (p.1 ∙ ap Err (p.2 ∙ why))) (plain at.Else-is_skipped, (refl, none))) in
    record { reads = both.0; keeps = both.1 }

pub returns-then-is_empty : goal.returns-then-is_empty
returns-then-is_empty c =
    let at = goal.at.returns-then-is_empty c in
    let both = kept at.Else-is_skipped (Err (NoName c.args.line.number))
    (plain at.Else-is_skipped, (refl, (_, _, parted at.In_ok-front, all-blank _ _ c.trim_blanks-name.ensures (true-eqb _ 0 c.if-is_empty.ensures)))) in
    record { reads = both.0; keeps = both.1 }

pub returns-in_err-words : goal.returns-in_err-words
returns-in_err-words c =
    let p = err_from_is_err_and c.from_residual-in_err-words.result c.from_residual-in_err-words.ensures.1 in
    let at = goal.at.returns-in_err-words c in
    let f = c.in_err-words.field-0.0 in
    let both = kept at.Else-is_skipped c.from_residual-in_err-words.result
    (subst (LineAs c.args.line.number c.before_return-content.result.now) (sym (p.1 ∙ ap Err p.2))
    (plain at.Else-is_skipped, line-fault c.args.line.number _ _ _ f (parted at.In_ok-front) c.in_err-words.ensures)) in
    record { reads = both.0; keeps = both.1 }

pub returns : goal.returns
returns c =
    let name = IfOk-at_ok (λ s. string_bytes s ≡ c.trim_blanks-name.result.now) c.in_ok-name.was c.from_str.ensures.ok in
    let some : 0 < length c.trim_blanks-name.result.now = omega (arith, false-eqb _ 0 c.if-is_empty.ensures) in
    let at = goal.at.returns c in
    let entry : Entry = record { name = c.in_ok-name.name; words = c.in_ok-words.words; line = c.args.line.number } in
    let both = kept at.Else-is_skipped (Ok (Some entry)) (
      plain at.Else-is_skipped,
      record {
        front = c.in_ok-front.front.now;
        run = c.in_ok-front.run'.now;
        parted = parted at.In_ok-front;
        trimmed = subst (Trimmed c.in_ok-front.front.now) (sym name) c.trim_blanks-name.ensures;
        named = subst (λ l. 0 < length l) (sym name) some;
        words = c.in_ok-words.ensures;
        place = refl;
      },
    ) in
    record { reads = both.0; keeps = both.1 }
