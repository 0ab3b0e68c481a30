-- Words fed one by one are their bytes in one run.
use Rattle.std.proofs.Common.{◌≡◌, ℕ, List, [], ◌∷◌, sym, refl, ◌∙◌}
use Rattle.std.proofs.lemmas.List.Sums.{fold-append}
use Rattle.hashing.specs.Words.{fed_all}
use Rattle.hashing.specs.Fnv1a.{fnv1a_byte, fnv1a_from, fnv1a_word, le_bytes, le_bytes_of}
use Rattle.hashing.specs.declared.fnv1a.Fnv1a.{Fnv1a}

pub words-as-bytes : (s : Fnv1a) (ws : List ℕ) → (fed_all {S = Fnv1a} (λ t w. record { state = fnv1a_word t.state w }) s ws).state ≡ fnv1a_from s.state (le_bytes_of ws)
words-as-bytes s [] = refl
words-as-bytes s (w ∷ ws) =
    words-as-bytes (record { state = fnv1a_word s.state w }) ws ∙ sym (fold-append fnv1a_byte s.state (le_bytes w) (le_bytes_of ws))
