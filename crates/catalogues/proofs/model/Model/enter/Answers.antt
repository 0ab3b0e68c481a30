use Rattle.std.proofs.Common.{true, rules, ◌≡◌, ℕ, List, [], ◌∷◌, ◌++◌, Bor, length, map, refl, ap, ◌∙◌, arith, length-append}
use Rattle.std.proofs.lemmas.List.{map-append}
use Rattle.std.specs.Result.{is_ok}
use lib.Seq.{get_or-append_seam}
use Rattle.std.proofs.lemmas.Result.{err_from_is_err_and}
use Rattle.catalogue.specs.declared.fault.Fault.TheVariants.{Input}
use Rattle.catalogue.specs.Classes.{entry}
use Rattle.catalogues.specs.Naive.{runs_of}
use Rattle.catalogues.proofs.Runs.{length-row}
use Rattle.catalogues.proofs.model.Model.enter.Goals as goal

pub returns-in-Err : goal.returns-in-Err
returns-in-Err c _ = (Input c.in-Err.fault, omega (arith, c.number.ensures), ((c.in-Err.ensures.first, refl), (refl, refl)))

pub returns-in_err-push : goal.returns-in_err-push
returns-in_err-push c modest =
    let f : Bor (List ℕ) → List ℕ = λ r. r.now in
    let n = length-row c.args.self.now.runs.items in
    let p = err_from_is_err_and c.from_residual.result c.from_residual.ensures.1 in
    rw p.1 (
      record {
        sound = c.in_default.ensures.sound;
        slot = (omega (arith, n, c.len-number.ensures, c.if-number-self.false), omega (arith, n, c.len-number.ensures, c.if-number-self.false));
        room = omega (arith, n, c.used.ensures, c.saturating_add.ensures, c.if-saturating_add-self.false);
      },
      search rules,
      ap (map f) c.in_err-push.ensures.items,
      (refl, refl),
    )

pub returns : goal.returns
returns c modest =
    let f : Bor (List ℕ) → List ℕ = λ r. r.now in
    let old = c.args.self.now.runs.items in
    let rs = runs_of c.args.self.now in
    let run = c.args.run.now in
    let ok : is_ok c.push.result ≡ true = ap is_ok c.in_ok-push.was in
    let items : c.push.new.self.items ≡ old ++ (c.args.run ∷ []) = rw ok at c.push.ensures.items in
    let last : map f c.push.new.self.items ≡ rs ++ (run ∷ []) = ap (map f) items ∙ map-append f old (c.args.run ∷ []) in
    let more = ap length last ∙ length-append rs (run ∷ []) in
    let n : c.len-number.result ≡ length rs = omega (arith, c.len-number.ensures, length-row old) in (
      record {
        granted = record {
          sound = c.in_default.ensures.sound;
          slot = (omega (arith, n, c.if-number-self.false), omega (arith, n, c.if-number-self.false));
          room = omega (arith, c.used.ensures, c.saturating_add.ensures, c.if-saturating_add-self.false);
        };
        number = n;
        last = last;
        class = c.class.ensures.entered (length rs) (omega (arith, more)) (ap (λ (x : List (List ℕ)). entry x (length rs)) last ∙ get_or-append_seam rs run [] []);
      },
      (refl, refl),
    )
