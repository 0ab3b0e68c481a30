use Rattle.std.proofs.Common.{◌≡◌, ℕ, ◌+◌, length, set, Some, None, Option, refl, ap, arith}
use Rattle.std.proofs.lemmas.Slice.{put_mid-paste}
use Rattle.hashing.specs.Words.{hash_by}
use Rattle.catalogue.specs.Calls.{Classed}
use Rattle.catalogue.specs.Numbers.{Numbers}
use Rattle.catalogue.specs.States.{State, state, slot_at}
use Rattle.catalogue.proofs.calls.enter.Goals as goal
use Rattle.catalogue.proofs.calls.enter.Goals.{in-Some, in-None}

-- the class, by an entry that is the same
by-entry : {U : Type 0} (s : State U) (r : Option ℕ) (i : ℕ) (p : ℕ × ℕ) → r ≡ Some i → p ≡ ((slot_at s.slots i).class, s.numbers.classes) → Classed s r p.0 p.1
by-entry s r i p e q = rw e (ap (λ (x : ℕ × ℕ). x.0) q, ap (λ (x : ℕ × ℕ). x.1) q)

-- and by none
by-none : {U : Type 0} (s : State U) (r : Option ℕ) (p : ℕ × ℕ) → r ≡ None → p ≡ (s.numbers.classes, s.numbers.classes + 1) → Classed s r p.0 p.1
by-none s r p e q = rw e (ap (λ (x : ℕ × ℕ). x.0) q, ap (λ (x : ℕ × ℕ). x.1) q)

pub returns-clause-done : goal.returns-clause-done
returns-clause-done g c =
    let f = hash_by g.H.Hasher in
    let a : Numbers = record { standing = c.cat.inside.standing; used = c.cat.inside.used; classes = c.cat.inside.classes } in
    let s = state a c.args.slots.now c.args.units.now in
    let sound = c.in_ok-intake.ensures.sound in
    let h = c.hash-hash.ensures sound in
    let end = rw c.in_ok-end.ensures.ok_part at c.end_within.ensures in
    rw (← c.cat.view_is) (
      record { sound = sound; slot = (omega arith, omega arith); room = omega (arith, end) },
      record {
        number = refl;
        slots = ap (λ (x : ℕ). set c.args.slots.now a.standing (record { start = a.used; len = length c.args.run.now; hash = x; class = c.match-first_same.class.0; begun = a.classes })) h;
        units = put_mid-paste a.used _ c.args.units.now _ c.args.run.now (length c.args.run.now) c.copy_from_slice.ensures.after (omega (arith, end)) (omega (arith, end));
        standing = refl;
        used = end.0;
        class = λ intact. (
          c.first_same.result,
          c.first_same.ensures.first f a refl intact sound h,
          elim c.match-first_same.branch [
            | in-Some w ↦ by-entry s _ w.in-Some.i c.match-first_same.class w.in-Some.is w.class-is
            | in-None w ↦ by-none s _ c.match-first_same.class w.in-None.is w.class-is
          ],
        );
      },
    )
